use Rattle.std.proofs.Common.{◌≡◌, ◌<◌, ◌∙◌, ℕ, zero, suc, List, [], ◌∷◌, length, arith, ap, sym}
use Rattle.std.specs.Prelude.{slice_index_or, slice_set}
use Rattle.shared_journal.specs.Followers.{FollowerView}
use Rattle.shared_journal.specs.Places.{AreFollowed}
use Rattle.shared_journal.specs.declared.shared_journal.SharedJournal.{SharedJournal}
use Rattle.bpfjobs.proofs.journal_following.tend_at.Goals as goal

followed_at : (followers : List FollowerView) (journals : List SharedJournal) (at : ℕ) (f : FollowerView) (j : SharedJournal) → AreFollowed followers journals → at < length followers
    → f ≡ slice_index_or followers at f → j ≡ slice_index_or journals at j → f.journal ≡ j.history
followed_at [] journals at f j are below one two = absurd (omega (arith, below))
followed_at (x ∷ followers) [] at f j are below one two = absurd are
followed_at (x ∷ followers) (y ∷ journals) zero f j are below one two = ap (λ (v : FollowerView). v.journal) one ∙ (are.0 ∙ sym (ap (λ (k : SharedJournal). k.history) two))
followed_at (x ∷ followers) (y ∷ journals) (suc at) f j are below one two = followed_at followers journals at f j are.1 (omega (arith, below)) one two

followed_set : (followers : List FollowerView) (journals : List SharedJournal) (at : ℕ) (f : FollowerView) (j : SharedJournal) → AreFollowed followers journals
    → j ≡ slice_index_or journals at j → f.journal ≡ j.history → AreFollowed (slice_set followers at f) journals
followed_set [] journals at f j are two own = are
followed_set (x ∷ followers) [] at f j are two own = absurd are
followed_set (x ∷ followers) (y ∷ journals) zero f j are two own = (own ∙ ap (λ (k : SharedJournal). k.history) two, are.1)
followed_set (x ∷ followers) (y ∷ journals) (suc at) f j are two own = (are.0, followed_set followers journals at f j are.1 two own)

pub tend-requires : goal.tend-requires
tend-requires g c =
    followed_at c.args.followers.now.items c.args.journals.now c.args.at _ _ c.requires (omega (arith, c.if-at-len.true, c.len.ensures)) c.index_mut.ensures.value c.index-journals-at.is

pub returns-then-at-len : goal.returns-then-at-len
returns-then-at-len g c =
    followed_set c.args.followers.now.items c.args.journals.now c.args.at c.tend.new.follower c.index-journals-at.result c.requires c.index-journals-at.is
    (c.tend.ensures ∙ followed_at c.args.followers.now.items c.args.journals.now c.args.at _ _ c.requires (omega (arith, c.if-at-len.true, c.len.ensures)) c.index_mut.ensures.value c.index-journals-at.is)
