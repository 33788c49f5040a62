use Rattle.std.proofs.Common.{[], Option, Some, ap, subst, ◌∙◌}
use Rattle.streams.specs.Refusing.{TellsStart}
use Rattle.streams.specs.declared.submit_refusal.SubmitRefusal.{SubmitRefusal}
use Rattle.server_handler.proofs.Recorded.{records_nothing}
use Rattle.server_handler.proofs.Starts.{refused_ends, started_same, taken_same}
use Rattle.server_handler.proofs.recorded_ends.note_start.Goals as goal

pub returns-in-NotStarted : goal.returns-in-NotStarted
returns-in-NotStarted g c old new number tells =
    let told = subst (λ (r : Option SubmitRefusal). TellsStart old number r new) (c.in-Some.is ∙ ap (λ (s : SubmitRefusal). Some s) c.in-NotStarted.is) tells in
    c.add_made.ensures old new [] (c.failed_change.ensures old new (refused_ends old new number c.in-NotStarted.job c.in-NotStarted.code told))

pub returns-in-NotTaken : goal.returns-in-NotTaken
returns-in-NotTaken g c old new number tells =
    let told = subst (λ (r : Option SubmitRefusal). TellsStart old number r new) (c.in-Some.is ∙ ap (λ (s : SubmitRefusal). Some s) c.in-NotTaken.is) tells in
    records_nothing g.C.ChangeSink c.args.place c.args.changes.now old new (taken_same old new number c.in-NotTaken._code told)

pub returns-in-None : goal.returns-in-None
returns-in-None g c old new number tells = records_nothing g.C.ChangeSink c.args.place c.args.changes.now old new (started_same old new number (rw c.in-None.is at tells))
