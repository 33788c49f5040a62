use Rattle.std.proofs.Common.{List, ℕ, sym}
use Rattle.machine_model.specs.Machine.{State, Calls}
use Rattle.reference.specs.Records.{state_of}
use Rattle.reference.proofs.helper_calls.call_registered.Goals as goal

pub returns-in-Err : goal.returns-in-Err
returns-in-Err c =
    let s : State = state_of c.args.state in
    rw c.in-Some.is (sym (c.in-Err.ensures (λ (xs : List ℕ). Calls c.args.helper xs s)))

pub returns-in-Ok : goal.returns-in-Ok
returns-in-Ok c =
    let s : State = state_of c.args.state in
    rw c.in-Some.is (sym (c.in-Ok.ensures (λ (xs : List ℕ). Calls c.args.helper xs s)))
