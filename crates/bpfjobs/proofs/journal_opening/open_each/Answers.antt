use Rattle.std.proofs.Common.{◌≡◌, ◌+◌, ℕ, zero, suc, List, [], ◌∷◌, ◌++◌, length, Some, slice_get, arith, ap, sym, subst, unwrap_or, Option}
use Rattle.std.proofs.lemmas.List.{length-append}
use Rattle.shared_journal.specs.Followers.{FollowerView}
use Rattle.shared_journal.specs.Places.{AreFollowed}
use Rattle.shared_journal.specs.declared.shared_journal.SharedJournal.{SharedJournal}
use Rattle.bpfjobs.proofs.journal_opening.open_each.Goals as goal

-- each is at its place, where the first is at this one
abbrev AreFrom : ℕ → List SharedJournal → Type 0
AreFrom first journals = (place : ℕ) (journal : SharedJournal) → slice_get journals place ≡ Some journal → journal.place ≡ first + place

same : (a b : SharedJournal) → ◌≡◌ {A = Option SharedJournal} (Some a) (Some b) → a ≡ b
same a b e = ap (λ (o : Option SharedJournal). unwrap_or o a) e

from_more : (first : ℕ) (journals : List SharedJournal) (last : SharedJournal) → AreFrom first journals → last.place ≡ first + length journals → AreFrom first (journals ++ last ∷ [])
from_more first [] last are is zero journal at = subst (λ (j : SharedJournal). j.place ≡ first + 0) (same last journal at) is
from_more first [] last are is (suc place) journal at = cc
from_more first (x ∷ journals) last are is zero journal at = are zero journal at
from_more first (x ∷ journals) last are is (suc place) journal at =
    let rest = from_more (first + 1) journals last (λ n j h. let one = are (suc n) j h in omega (arith, one)) (omega (arith, is)) place journal at in
    omega (arith, rest)

followed_more : (followers : List FollowerView) (journals : List SharedJournal) (follower : FollowerView) (journal : SharedJournal)
    → AreFollowed followers journals → follower.journal ≡ journal.history → AreFollowed (followers ++ follower ∷ []) (journals ++ journal ∷ [])
followed_more [] [] follower journal are is = (is, tt)
followed_more [] (j ∷ journals) follower journal are is = absurd are
followed_more (f ∷ followers) [] follower journal are is = absurd are
followed_more (f ∷ followers) (j ∷ journals) follower journal are is = (are.0, followed_more followers journals follower journal are.1 is)

pub loop-path-preserved : goal.loop-path-preserved
loop-path-preserved g c =
    let journals = c.loop-path.journals.items in
    let desks = c.loop-path.desks.items in
    let last = c.in-Ok.opened.journal in
    let pushed = c.in-Ok-push.ensures.items in
    let pushed_desk = c.in-Ok-push-3.ensures.items in
    let many = c.loop-path.invariant.journals in
    let many_desks = c.loop-path.invariant.desks in
    let more : AreFrom 0 (journals ++ last ∷ []) =
    from_more 0 journals last (λ n j h. let one = c.loop-path.invariant.placed n j h in omega (arith, one)) (omega (arith, c.in-Ok.ensures, c.len.ensures, c.loop-path.journals.ok.0)) in
    record {
      journals = omega (arith, ap length pushed, length-append journals (last ∷ []), many);
      desks = omega (arith, ap length pushed_desk, length-append desks (c.in-Ok.opened.desk ∷ []), many_desks);
      followed = subst (λ (l : List FollowerView × List SharedJournal). AreFollowed l.0 l.1) (λ i. (sym c.in-Ok-push-2.ensures.items i, sym pushed i))
          (followed_more c.loop-path.followers.items journals c.in-Ok.opened.follower last c.loop-path.invariant.followed c.in-Ok.opened.followed);
      placed = λ place journal at. let one = more place journal (subst (λ (l : List SharedJournal). slice_get l place ≡ Some journal) pushed at) in omega (arith, one);
    }
