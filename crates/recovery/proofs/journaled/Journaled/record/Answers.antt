use Rattle.std.proofs.Common.{◌≡◌, refl, ◌∙◌}
use Rattle.journal.specs.Records.{record_of}
use Rattle.recovery.proofs.CrashLemmas.{at_same, one_more}
use Rattle.recovery.proofs.HistoryLemmas.{after_more}
use Rattle.recovery.proofs.journaled.Journaled.record.Goals as goal

pub returns-then-has_stopped-clause-any_moment : goal.returns-then-has_stopped-clause-any_moment
returns-then-has_stopped-clause-any_moment g c history committed left j s =
    one_more left history committed _ (at_same c.cut_anywhere.ensures history committed _ _ _ left j.log refl s)

pub returns-in-Err-clause-any_moment : goal.returns-in-Err-clause-any_moment
returns-in-Err-clause-any_moment g c history committed left j s =
    one_more left history committed _ (at_same c.cut_anywhere.ensures history committed _ _ _ left j.log refl s)

pub returns-in-Err-apply-clause-any_moment : goal.returns-in-Err-apply-clause-any_moment
returns-in-Err-apply-clause-any_moment g c history committed left j s =
    one_more left history committed _ (at_same c.cut_anywhere.ensures history committed _ _ _ left j.log refl s)

pub returns-in-Ok-append-clause-recorded : goal.returns-in-Ok-append-clause-recorded
returns-in-Ok-append-clause-recorded g c history committed j =
    let change = g.M.StateChange.StateChange.payload c.args.change.now in
    let is : c.deref.result.now ≡ record_of change = c.deref.ensures.value ∙ c.in-Ok.ensures.bytes.1 in
    record {
      machine = after_more g.M.StateMachine.starts g.M.StateMachine.steps history c.args.self.now.machine change c.apply.new.self j.machine c.in-Ok-apply.ensures.ok;
      log = c.in-Ok-append.ensures.appended history committed change j.log c.in-Ok.ensures.bytes.0 is;
    }

pub returns-clause-failed : goal.returns-clause-failed
returns-clause-failed g c history committed j failed =
    let change = g.M.StateChange.StateChange.payload c.args.change.now in
    let is : c.deref.result.now ≡ record_of change = c.deref.ensures.value ∙ c.in-Ok.ensures.bytes.1 in
    let on = c.has_stopped.ensures in
    let off = c.if-has_stopped.false in
    record {
      machine = after_more g.M.StateMachine.starts g.M.StateMachine.steps history c.args.self.now.machine change c.apply.new.self j.machine c.in-Ok-apply.ensures.ok;
      log = c.in-Err-append.ensures.failed history committed change j.log c.in-Ok.ensures.bytes.0 is cc;
    }
