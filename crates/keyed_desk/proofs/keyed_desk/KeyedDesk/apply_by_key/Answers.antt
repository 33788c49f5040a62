use Rattle.std.proofs.Common.{inr, subst}
use Rattle.desk_journal.specs.DeskChanges.{change_bytes}
use Rattle.desk_journal.specs.DeskSteps.{RefusesChangeBytes}
use Rattle.keyed_desk.specs.KeyedSteps.{KeyedState}
use Rattle.std.proofs.lemmas.Result.{err_from_is_err_and}
use Rattle.recovery.proofs.HistoryLemmas.{same_fault}
use Rattle.recovery.specs.declared.state_machine.ApplyFault.TheVariants.{Refused}
use Rattle.keyed_desk.proofs.keyed_desk.KeyedDesk.apply_by_key.Goals as goal

pub returns-in_err-apply-clause-refused : goal.returns-in_err-apply-clause-refused
returns-in_err-apply-clause-refused c is =
    let p = err_from_is_err_and c.from_residual-in_err-apply.result c.from_residual-in_err-apply.ensures.1 in
    let refused = c.in_err-apply.ensures.refused (same_fault c.from_residual-in_err-apply.result p.0 c.in_err-apply.field-0.0 Refused p.1 p.2 is) in
    inr (subst (λ (s : KeyedState). RefusesChangeBytes s.desk (change_bytes c.args.change.now)) c.self.view_is refused)
