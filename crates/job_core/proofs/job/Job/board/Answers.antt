use Rattle.std.proofs.Common.{◌≡◌, ◌∙◌, subst, arith, rules}
use Rattle.std.proofs.lemmas.Option.{slice_get_within, get_or_from_slice_get}
use Rattle.verifier.specs.Checked.{Checked, IsVerified}
use Rattle.job_core.proofs.Ledgers.{cost_some}
use Rattle.job_core.proofs.job.Job.board.Goals as goal

pub index-requires : goal.index-requires
index-requires c =
    let there = slice_get_within c.self.inside.programs.items 0 c.self.invariant.root c.self.invariant.is_root in
    search (rules, there)

pub open-requires : goal.open-requires
open-requires c =
    let root = c.self.invariant.root in
    let same : c.index.result.now ≡ root =
    c.index.ensures ∙ get_or_from_slice_get c.self.inside.programs.items 0 root c.index.result.now c.self.invariant.is_root in
    let P : Checked → Type 0 = λ p. IsVerified p in
    let some = cost_some root (subst P same c.need.ensures.verified) in
    (omega (arith, some, c.self.invariant.cost), c.self.invariant.limit)
