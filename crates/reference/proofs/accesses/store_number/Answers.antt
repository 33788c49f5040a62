use Rattle.std.proofs.Common.{◌≡◌, ◌∙◌, ◌+◌, ℕ, List, length, ap, sym, arith, Err, Ok, w16}
use Rattle.std.proofs.lemmas.List.{with_items_is}
use Rattle.machine_model.proofs.Ranges.{length-written, length-little_bytes}
use Rattle.std.proofs.lemmas.Int.{to_z-of_z}
use Rattle.machine_model.specs.Machine.{Effect, Continues, State, landing, located}
use Rattle.machine_model.specs.Memory.{little_bytes, store_bytes, written}
use Rattle.reference.specs.declared.records.Place.TheVariants as place
use Rattle.reference.specs.Records.{placing, state_of, value_of}
use Rattle.reference.proofs.EffectLemmas.{store_done}
use Rattle.reference.proofs.accesses.store_number.Goals as goal

pub returns-in-Err : goal.returns-in-Err
returns-in-Err c = λ i lead.
    let s : State = state_of c.args.state in
    let law : (stack part : ℕ → Effect) → located s (value_of c.args.pointer) c.args.offset c.store_bytes.result stack part
    ≡ placing stack part (Err c.in-Err.cause) =
    λ stack part. rw (to_z-of_z w16 c.args.offset c.ranges.offset) at (c.in-Err.ensures.leads stack part) in
    store_done i s (value_of c.args.pointer) c.args.offset c.store_bytes.result (store_bytes c.args.size) c.args.number
    (Err c.in-Err.cause) c.store_bytes.ensures law

pub returns-in-Ok-Stack : goal.returns-in-Ok-Stack
returns-in-Ok-Stack c = λ i lead.
    let s : State = state_of c.args.state in
    let bytes : List ℕ = little_bytes (store_bytes c.args.size) c.args.number in
    let law : (stack part : ℕ → Effect) → located s (value_of c.args.pointer) c.args.offset c.store_bytes.result stack part
    ≡ placing stack part (Ok (place.Stack c.in-Ok-Stack.at)) =
    λ stack part. rw (to_z-of_z w16 c.args.offset c.ranges.offset, c.in-Ok-Stack.field-0-is) at (c.in-Ok-Stack.ensures.leads stack part) in
    ap (λ (m : List ℕ). Continues (record s { slot = s.slot + 1; stack = m })) c.store.ensures
    ∙ ap (landing (record s { stack = written s.stack c.in-Ok-Stack.at bytes })) (sym lead)
    ∙ store_done i s (value_of c.args.pointer) c.args.offset c.store_bytes.result (store_bytes c.args.size) c.args.number
    (Ok (place.Stack c.in-Ok-Stack.at)) c.store_bytes.ensures law

pub returns-in-Ok-Part : goal.returns-in-Ok-Part
returns-in-Ok-Part c = λ i lead.
    let s : State = state_of c.args.state in
    let bytes : List ℕ = little_bytes (store_bytes c.args.size) c.args.number in
    let law : (stack part : ℕ → Effect) → located s (value_of c.args.pointer) c.args.offset c.store_bytes.result stack part
    ≡ placing stack part (Ok (place.Part c.in-Ok-Part.at)) =
    λ stack part. rw (to_z-of_z w16 c.args.offset c.ranges.offset, c.in-Ok-Part.field-0-is) at (c.in-Ok-Part.ensures.leads stack part) in
    let after = rw c.deref_mut.ensures.value at c.store-in-Ok-Part.ensures in
    let long : length c.store-in-Ok-Part.new.memory ≡ c.args.state.part.len =
    ap length after ∙ length-written s.part c.in-Ok-Part.at bytes
    (omega (arith, length-little_bytes (store_bytes c.args.size) c.args.number, c.store_bytes.ensures, c.in-Ok-Part.ensures.part c.in-Ok-Part.at (ap Ok c.in-Ok-Part.field-0-is)))
    ∙ sym c.args.state.part.ok.0 in
    ap (λ (m : List ℕ). Continues (record s { slot = s.slot + 1; part = m })) (with_items_is c.args.state.part c.store-in-Ok-Part.new.memory long ∙ after)
    ∙ ap (landing (record s { part = written s.part c.in-Ok-Part.at bytes })) (sym lead)
    ∙ store_done i s (value_of c.args.pointer) c.args.offset c.store_bytes.result (store_bytes c.args.size) c.args.number
    (Ok (place.Part c.in-Ok-Part.at)) c.store_bytes.ensures law
