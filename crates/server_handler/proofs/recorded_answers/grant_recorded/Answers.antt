use Rattle.std.proofs.Common.{[], Option, IfSome, sym, subst, ◌∙◌}
use Rattle.server_state.specs.declared.change.DeskChange.{DeskChange}
use Rattle.server_handler.specs.Recording.{IsGrant}
use Rattle.server_handler.proofs.Grants.{spent_nothing}
use Rattle.server_handler.proofs.Made.{if_some_weaker}
use Rattle.server_handler.proofs.Recorded.{records_nothing}
use Rattle.server_handler.proofs.recorded_answers.grant_recorded.Goals as goal

pub returns-in-Ok-clause-records : goal.returns-in-Ok-clause-records
returns-in-Ok-clause-records g c =
    let s = c.sound_grant-made in
    let more = c.in-Ok.ensures.granted in
    c.add_made.ensures c.args.desk.now c.grant.new.self []
    (if_some_weaker s.result
    (λ change t. let is : IsGrant c.args.place change c.args.tenant.now c.args.amount = subst (λ (o : Option DeskChange). IfSome o (λ x. IsGrant c.args.place x c.args.tenant.now c.args.amount)) t.0 c.granted_change-made.ensures in
    is c.args.desk.now c.grant.new.self more
    (spent_nothing c.args.desk.now c.grant.new.self c.args.tenant.now c.args.amount c.account-before.result c.in-Ok.account c.account-before.ensures.account (sym c.in-Ok.ensures.account) more t.1))
    s.ensures)

pub returns-in-Err-clause-records : goal.returns-in-Err-clause-records
returns-in-Err-clause-records g c = records_nothing g.C.ChangeSink c.args.place c.args.changes.now c.args.desk.now c.grant.new.self c.in-Err.ensures.unchanged
