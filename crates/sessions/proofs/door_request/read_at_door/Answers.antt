use Rattle.std.proofs.Common.{rules}
use Rattle.serde_json.specs.Data.{Data}
use Rattle.serde_json.specs.View.{view}
use Rattle.sessions.specs.DoorForms.{key_of}
use Rattle.sessions.specs.Grammar.{ReadsJson}
use Rattle.sessions.proofs.Doors.{beyond_read, plain_read, unreadable}
use Rattle.sessions.proofs.door_request.read_at_door.Goals as goal

pub returns-in_ok-beyond-in-Ok-clause-plain : goal.returns-in_ok-beyond-in-Ok-clause-plain
returns-in_ok-beyond-in-Ok-clause-plain c =
    let reads : ReadsJson c.args.payload.now (view c.in-Ok.value) = search rules in
    plain_read (key_of c.args.forms) c.tenant_key.result c.args.payload.now (view c.in-Ok.value) c.in_ok-plain-in-Ok.plain c.tenant_key.ensures reads c.in_ok-plain-in-Ok.ensures

pub returns-in_ok-beyond-in-Ok-clause-beyond : goal.returns-in_ok-beyond-in-Ok-clause-beyond
returns-in_ok-beyond-in-Ok-clause-beyond c =
    let reads : ReadsJson c.args.payload.now (view c.in-Ok.value) = search rules in
    beyond_read c.args.forms c.args.payload.now (view c.in-Ok.value) c.in_ok-beyond-in-Ok.beyond reads c.in_ok-beyond-in-Ok.ensures

pub returns-in-Err-2-clause-plain : goal.returns-in-Err-2-clause-plain
returns-in-Err-2-clause-plain c =
    let none : (d : Data) → ReadsJson c.args.payload.now d → ⊥ = search rules in
    unreadable (key_of c.args.forms) c.args.payload.now c.code.result c.code.ensures none
