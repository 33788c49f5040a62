-- A task by itself comes to one end.
use Rattle.std.proofs.Common.{◌≡◌, ℕ, zero, suc, List, ◌∷◌, map, inl, inr, refl, sym, ◌∙◌, ap, Bool, true, false, length}
use Rattle.machine_model.specs.Machine.{State, Program, Entries, Effect, Continues, Ends, Spawns, Calls, Traps, effect}
use Rattle.task_trees.specs.Solo.{SpawnRequest, Proceeds, Solo, SoloWithin}

abbrev refusals : List SpawnRequest → List Bool
refusals asked = map (λ (a : SpawnRequest). a.refused) asked

-- the same spawns were asked for, and the end is the same
record Alike (asked others : List SpawnRequest) (r0 r0' : ℕ) (last last' : State) : Type 0 where
  pub spawns : asked ≡ others
  pub word : r0 ≡ r0'
  pub state : last ≡ last'

-- what follows one more spawn with the same answer
longer : (a b : SpawnRequest) (later later' asked others : List SpawnRequest) (r0 r0' : ℕ) (last last' : State) → asked ≡ a ∷ later → others ≡ b ∷ later' →
    a ≡ b → (refusals later ≡ refusals later' → Alike later later' r0 r0' last last') → refusals asked ≡ refusals others →
    Alike asked others r0 r0' last last'
longer a b later later' asked others r0 r0' last last' is is' one same alike =
    let whole : refusals (a ∷ later) ≡ refusals (b ∷ later') = ap refusals (sym is) ∙ alike ∙ ap refusals is' in
    let tails : refusals later ≡ refusals later' = cc in
    let s = same tails in
    let e : later ≡ later' = s.spawns in
    let same_cons : a ∷ later ≡ b ∷ later' = cc in
    record { spawns = is ∙ same_cons ∙ sym is'; word = s.word; state = s.state }

-- a spawn isn't both refused and taken
differ : (a b : SpawnRequest) (later later' asked others : List SpawnRequest) → asked ≡ a ∷ later → others ≡ b ∷ later' → a.refused ≡ true → b.refused ≡ false →
    refusals asked ≡ refusals others → ⊥
differ a b later later' asked others is is' first second alike =
    let whole : refusals (a ∷ later) ≡ refusals (b ∷ later') = ap refusals (sym is) ∙ alike ∙ ap refusals is' in
    let heads : a.refused ≡ b.refused = cc in
    let clash : true ≡ false = sym first ∙ heads ∙ second in cc

follows_once : (on on' : List SpawnRequest → State → Type 0) (r0 r0' : ℕ) (last last' : State) →
    ((asked others : List SpawnRequest) (s : State) → on asked s → on' others s → refusals asked ≡ refusals others → Alike asked others r0 r0' last last') →
    (asked others : List SpawnRequest) (e : Effect) → Proceeds on asked r0 last e → Proceeds on' others r0' last' e → refusals asked ≡ refusals others →
    Alike asked others r0 r0' last last'
follows_once on on' r0 r0' last last' once asked others (Continues next) a b alike = once asked others next a b alike
follows_once on on' r0 r0' last last' once asked others (Ends word s) a b alike =
    record { spawns = a.0 ∙ sym b.0; word = sym a.1 ∙ b.1; state = sym a.2 ∙ b.2 }
follows_once on on' r0 r0' last last' once asked others (Spawns birth taken refused) a b alike =
    let was : SpawnRequest = record { birth = birth; at = length taken.part; refused = false } in
    let not : SpawnRequest = record { birth = birth; at = length taken.part; refused = true } in
    elim a.1 [
      | inl x ↦ elim b.1 [
        | inl y ↦ longer was was a.0 b.0 asked others r0 r0' last last' x.0 y.0 refl (once a.0 b.0 taken x.1 y.1) alike
        | inr y ↦ absurd (differ not was b.0 a.0 others asked y.0 x.0 refl refl (sym alike))
      ]
      | inr x ↦ elim b.1 [
        | inl y ↦ absurd (differ not was a.0 b.0 asked others x.0 y.0 refl refl alike)
        | inr y ↦ longer not not a.0 b.0 asked others r0 r0' last last' x.0 y.0 refl (once a.0 b.0 refused x.1 y.1) alike
      ]
    ]
follows_once on on' r0 r0' last last' once asked others (Calls helper arguments caller) a b alike = absurd a
follows_once on on' r0 r0' last last' once asked others (Traps trap) a b alike = absurd a

solo_within : (p : Program) (entries : Entries) (r0 r0' : ℕ) (last last' : State) (n m : ℕ) (asked others : List SpawnRequest) (s : State) →
    SoloWithin p entries r0 last n asked s → SoloWithin p entries r0' last' m others s → refusals asked ≡ refusals others →
    Alike asked others r0 r0' last last'
solo_within p entries r0 r0' last last' zero m asked others s a b alike = absurd a
solo_within p entries r0 r0' last last' (suc n) zero asked others s a b alike = absurd b
solo_within p entries r0 r0' last last' (suc n) (suc m) asked others s a b alike =
    follows_once (SoloWithin p entries r0 last n) (SoloWithin p entries r0' last' m) r0 r0' last last'
    (λ xs ys next c d e. solo_within p entries r0 r0' last last' n m xs ys next c d e) asked others (effect p entries s) a b alike

pub solo_once : (p : Program) (entries : Entries) (s : State) (asked others : List SpawnRequest) (r0 r0' : ℕ) (last last' : State) →
    Solo p entries s asked r0 last → Solo p entries s others r0' last' → refusals asked ≡ refusals others →
    (asked ≡ others) × (r0 ≡ r0') × (last ≡ last')
solo_once p entries s asked others r0 r0' last last' a b alike =
    let one = solo_within p entries r0 r0' last last' a.0 b.0 asked others s a.1 b.1 alike in (one.spawns, one.word, one.state)
