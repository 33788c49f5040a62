-- The connections of a listener.
use Rattle.std.specs.Prelude.{◌≡◌, ◌+◌, ℕ}
use Rattle.shared_desk.specs.declared.passage.Passage.{Passage}

-- From its first state on a listener gave so many connections that were served. Between them it may
-- have given others, which a server that was stopped let go, and some tries were in vain.
pub data HasGiven {L : Type 0} (opens fails : L → L → Type 0) (first : L) : ℕ → L → Type 0 where
  nothing_yet : HasGiven opens fails first 0 first
  served : (n : ℕ) (m k : L) → HasGiven opens fails first n m → opens m k
      → HasGiven opens fails first (n + 1) k
  let_go : (n : ℕ) (m k : L) → HasGiven opens fails first n m → opens m k
      → HasGiven opens fails first n k
  in_vain : (n : ℕ) (m k : L) → HasGiven opens fails first n m → fails m k
      → HasGiven opens fails first n k

-- a listener that began as one of these
pub record HasGivenSince {L : Type 0} (opens fails : L → L → Type 0) (begins : L → Type 0) (n : ℕ)
    (last : L) : Type 0 where
  pub first : L
  pub begun : begins first
  pub given : HasGiven opens fails first n last

-- so many connections of this listener were served
pub record AreOf {L : Type 0} (opens fails : L → L → Type 0) (listener : L) (opened : ℕ) : Type 0
  where
    pub last : L
    pub given : HasGiven opens fails listener opened last

-- so many connections of a listener that began as one of these
pub record AreOfFirst {L : Type 0} (opens fails : L → L → Type 0) (begins : L → Type 0)
    (opened : ℕ) : Type 0 where
  pub last : L
  pub given : HasGivenSince opens fails begins opened last

-- a listener gave a connection by this passage
pub record CameBy {L : Type 0} (opens : L → L → Type 0) (passage_of : L → Passage)
    (passage : Passage) : Type 0 where
  pub before : L
  pub after : L
  pub given : opens before after
  pub is : passage ≡ passage_of after
