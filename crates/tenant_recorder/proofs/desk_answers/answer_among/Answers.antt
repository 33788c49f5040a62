use Rattle.std.proofs.Common.{◌≡◌, ◌<◌, ◌∙◌, ap, option_map, length, map, string_bytes, refl, sym, rules, arith}
use Rattle.std.proofs.lemmas.Option.{slice_get_read}
use Rattle.streams.specs.Prepared.{asked_of}
use Rattle.tenant_desks.specs.Routing.{desk_for}
use Rattle.tenant_recorder.proofs.AnsweredAt.{nowhere_err, nowhere_ok, there_err, there_ok}
use Rattle.tenant_recorder.proofs.EachPlace.{are_recorded, recorded_at, recorded_then}
use Rattle.tenant_recorder.specs.Recorders.{key_at}
use Rattle.tenant_recorder.proofs.KeyedAt.{handed_here, handed_none, keyed_none_answers, keyed_one_answers}
use Rattle.tenant_recorder.proofs.Forgotten.{forgotten_at, forgotten_noted}
use Rattle.tenant_recorder.proofs.desk_answers.answer_among.Goals as goal
use Rattle.tenant_recorder.proofs.desk_answers.answer_among.Goals.{then-place-place_behind, else-place-place_behind}

pub returns-in-Err-clause-ok : goal.returns-in-Err-clause-ok
returns-in-Err-clause-ok g c =
    nowhere_ok g.N.Runner.starts g.N.Runner.looks g.N.Runner.takes c.args.keep (desk_for (map string_bytes c.args.names.now) c.args.passage (asked_of c.args.request)) (asked_of c.args.request)
    c.args.desks.now.items c.args.runner.now.runner c.pass_ends.new.desks.items c.pass_ends.new.runner c.pass_ends.ensures.passed _ c.in-Err.code c.refuse.result (sym c.desk_for.ensures.desk ∙ c.in-Err.is) c.refuse.ensures

pub returns-in-Err-clause-err : goal.returns-in-Err-clause-err
returns-in-Err-clause-err g c =
    nowhere_err g.N.Runner.starts g.N.Runner.looks g.N.Runner.takes c.args.keep (desk_for (map string_bytes c.args.names.now) c.args.passage (asked_of c.args.request)) (asked_of c.args.request)
    c.args.desks.now.items c.args.runner.now.runner c.pass_ends.new.desks.items c.pass_ends.new.runner c.pass_ends.ensures.passed _ c.in-Err.code c.refuse.result (sym c.desk_for.ensures.desk ∙ c.in-Err.is)

pub returns-in-Err-clause-forgotten : goal.returns-in-Err-clause-forgotten
returns-in-Err-clause-forgotten g c =
    forgotten_noted g.Q.RecordQueue.taken g.Q.RecordQueue.has_failed c.args.keep c.args.recorders.now.items c.pass_ends.new.recorders.items c.args.desks.now.items c.pass_ends.new.desks.items c.pass_ends.ensures.records

pub returns-in-Err-clause-records : goal.returns-in-Err-clause-records
returns-in-Err-clause-records g c =
    are_recorded g.Q.RecordQueue.taken g.Q.RecordQueue.has_failed c.args.recorders.now.items c.pass_ends.new.recorders.items c.args.desks.now.items c.pass_ends.new.desks.items c.pass_ends.ensures.records

pub returns-clause-ok : goal.returns-clause-ok
returns-clause-ok g c =
    let within : c.in-Ok.place < length c.pass_ends.new.desks.items = search (rules, arith) in
    let paired = c.pass_ends.ensures.records.recorders ∙ c.requires.paired ∙ sym c.pass_ends.ensures.records.desks in
    let within_too : c.in-Ok.place < length c.pass_ends.new.recorders.items = omega (arith, within, paired) in
    let here = slice_get_read c.pass_ends.new.desks.items (length c.pass_ends.new.desks.items) c.in-Ok.place c.index_mut.result.now refl within c.index_mut.ensures.value in
    let beside = slice_get_read c.pass_ends.new.recorders.items (length c.pass_ends.new.recorders.items) c.in-Ok.place c.index_mut-2.result.now refl within_too c.index_mut-2.ensures.value in
    there_ok g.N.Runner.starts g.N.Runner.looks g.N.Runner.takes c.args.keep (desk_for (map string_bytes c.args.names.now) c.args.passage (asked_of c.args.request)) (asked_of c.args.request)
    c.args.desks.now.items c.args.runner.now.runner c.pass_ends.new.desks.items c.pass_ends.new.runner c.pass_ends.ensures.passed _ _ c.in-Ok.place
    c.index_mut.result.now c.answer_at-refusal.new.desk c.answer_at-refusal.new.runner c.answer_at-refusal.result.1 (sym c.desk_for.ensures.desk ∙ c.in-Ok.is) here
    (λ had. (forgotten_noted g.Q.RecordQueue.taken g.Q.RecordQueue.has_failed c.args.keep c.args.recorders.now.items c.pass_ends.new.recorders.items c.args.desks.now.items c.pass_ends.new.desks.items
    c.pass_ends.ensures.records had).each c.in-Ok.place c.index_mut.result.now c.index_mut-2.result.now here beside)
    c.answer_at-refusal.ensures.ok

pub returns-clause-err : goal.returns-clause-err
returns-clause-err g c =
    let within : c.in-Ok.place < length c.pass_ends.new.desks.items = search (rules, arith) in
    let paired = c.pass_ends.ensures.records.recorders ∙ c.requires.paired ∙ sym c.pass_ends.ensures.records.desks in
    let within_too : c.in-Ok.place < length c.pass_ends.new.recorders.items = omega (arith, within, paired) in
    let here = slice_get_read c.pass_ends.new.desks.items (length c.pass_ends.new.desks.items) c.in-Ok.place c.index_mut.result.now refl within c.index_mut.ensures.value in
    let beside = slice_get_read c.pass_ends.new.recorders.items (length c.pass_ends.new.recorders.items) c.in-Ok.place c.index_mut-2.result.now refl within_too c.index_mut-2.ensures.value in
    there_err g.N.Runner.starts g.N.Runner.looks g.N.Runner.takes c.args.keep (desk_for (map string_bytes c.args.names.now) c.args.passage (asked_of c.args.request)) (asked_of c.args.request)
    c.args.desks.now.items c.args.runner.now.runner c.pass_ends.new.desks.items c.pass_ends.new.runner c.pass_ends.ensures.passed _ _ c.in-Ok.place
    c.index_mut.result.now c.answer_at-refusal.new.desk c.answer_at-refusal.new.runner c.answer_at-refusal.result.1 (sym c.desk_for.ensures.desk ∙ c.in-Ok.is) here
    (λ had. (forgotten_noted g.Q.RecordQueue.taken g.Q.RecordQueue.has_failed c.args.keep c.args.recorders.now.items c.pass_ends.new.recorders.items c.args.desks.now.items c.pass_ends.new.desks.items
    c.pass_ends.ensures.records had).each c.in-Ok.place c.index_mut.result.now c.index_mut-2.result.now here beside)
    c.answer_at-refusal.ensures.err

pub returns-clause-forgotten : goal.returns-clause-forgotten
returns-clause-forgotten g c = λ had.
    let within : c.in-Ok.place < length c.pass_ends.new.desks.items = search (rules, arith) in
    let paired = c.pass_ends.ensures.records.recorders ∙ c.requires.paired ∙ sym c.pass_ends.ensures.records.desks in
    let within_too : c.in-Ok.place < length c.pass_ends.new.recorders.items = omega (arith, within, paired) in
    let here = slice_get_read c.pass_ends.new.desks.items (length c.pass_ends.new.desks.items) c.in-Ok.place c.index_mut.result.now refl within c.index_mut.ensures.value in
    let beside = slice_get_read c.pass_ends.new.recorders.items (length c.pass_ends.new.recorders.items) c.in-Ok.place c.index_mut-2.result.now refl within_too c.index_mut-2.ensures.value in
    let passed = forgotten_noted g.Q.RecordQueue.taken g.Q.RecordQueue.has_failed c.args.keep c.args.recorders.now.items c.pass_ends.new.recorders.items c.args.desks.now.items c.pass_ends.new.desks.items
    c.pass_ends.ensures.records had in
    forgotten_at c.args.keep c.pass_ends.new.recorders.items c.pass_ends.new.desks.items c.in-Ok.place c.answer_at-refusal.new.recorder c.answer_at-refusal.new.desk
    (c.answer_at-refusal.ensures.forgotten (passed.each c.in-Ok.place c.index_mut.result.now c.index_mut-2.result.now here beside)) passed

pub returns-clause-records : goal.returns-clause-records
returns-clause-records g c =
    let within : c.in-Ok.place < length c.pass_ends.new.desks.items = search (rules, arith) in
    let paired = c.pass_ends.ensures.records.recorders ∙ c.requires.paired ∙ sym c.pass_ends.ensures.records.desks in
    let within_too : c.in-Ok.place < length c.pass_ends.new.recorders.items = omega (arith, within, paired) in
    let here = slice_get_read c.pass_ends.new.desks.items (length c.pass_ends.new.desks.items) c.in-Ok.place c.index_mut.result.now refl within c.index_mut.ensures.value in
    let beside = slice_get_read c.pass_ends.new.recorders.items (length c.pass_ends.new.recorders.items) c.in-Ok.place c.index_mut-2.result.now refl within_too c.index_mut-2.ensures.value in
    recorded_then g.Q.RecordQueue.taken g.Q.RecordQueue.has_failed c.args.recorders.now.items c.pass_ends.new.recorders.items _ c.args.desks.now.items c.pass_ends.new.desks.items _
    (are_recorded g.Q.RecordQueue.taken g.Q.RecordQueue.has_failed c.args.recorders.now.items c.pass_ends.new.recorders.items c.args.desks.now.items c.pass_ends.new.desks.items c.pass_ends.ensures.records)
    (recorded_at g.Q.RecordQueue.taken g.Q.RecordQueue.has_failed c.pass_ends.new.recorders.items c.pass_ends.new.desks.items c.in-Ok.place
    c.index_mut-2.result.now c.answer_at-refusal.new.recorder c.index_mut.result.now c.answer_at-refusal.new.desk beside here (_, c.answer_at-refusal.ensures.records))

pub returns-in-Err-clause-kept : goal.returns-in-Err-clause-kept
returns-in-Err-clause-kept g c =
    keyed_none_answers g.Q.RecordQueue.taken g.Q.RecordQueue.has_failed c.args.passage.door _ g.N.Runner.takes c.args.recorders.now.items c.pass_ends.new.recorders.items c.args.desks.now.items c.pass_ends.new.desks.items c.args.runner.now.runner c.pass_ends.new.runner
    c.pass_ends.ensures.records c.pass_ends.ensures.passed

pub returns-clause-kept : goal.returns-clause-kept
returns-clause-kept g c =
    let within : c.in-Ok.place < length c.pass_ends.new.desks.items = search (rules, arith) in
    let paired = c.pass_ends.ensures.records.recorders ∙ c.requires.paired ∙ sym c.pass_ends.ensures.records.desks in
    let within_too : c.in-Ok.place < length c.pass_ends.new.recorders.items = omega (arith, within, paired) in
    let here = slice_get_read c.pass_ends.new.desks.items (length c.pass_ends.new.desks.items) c.in-Ok.place c.index_mut.result.now refl within c.index_mut.ensures.value in
    let beside = slice_get_read c.pass_ends.new.recorders.items (length c.pass_ends.new.recorders.items) c.in-Ok.place c.index_mut-2.result.now refl within_too c.index_mut-2.ensures.value in
    let handed : key_at c.args.passage.door (option_map (λ k. k.now) c.args.key) c.in-Ok.place ≡ option_map (λ k. k.now) c.if-place-place_behind.own_key = elim c.if-place-place_behind.branch [
      | then-place-place_behind w ↦ handed_here c.args.passage.door (option_map (λ k. k.now) c.args.key) _ c.in-Ok.place (w.if-place-place_behind.true ∙ c.place_behind.ensures.place) (ap (option_map (λ k. k.now)) w.own_key-is)
      | else-place-place_behind w ↦ handed_none c.args.passage.door (option_map (λ k. k.now) c.args.key) _ c.in-Ok.place (λ same. w.if-place-place_behind.false (same ∙ sym c.place_behind.ensures.place)) (ap (option_map (λ k. k.now)) w.own_key-is)
    ] in
    keyed_one_answers g.Q.RecordQueue.taken g.Q.RecordQueue.has_failed c.args.passage.door (option_map (λ k. k.now) c.args.key) g.N.Runner.takes c.args.recorders.now.items c.pass_ends.new.recorders.items c.args.desks.now.items c.pass_ends.new.desks.items c.args.runner.now.runner c.pass_ends.new.runner
    c.pass_ends.ensures.records c.pass_ends.ensures.passed (option_map (λ k. k.now) c.if-place-place_behind.own_key) c.in-Ok.place c.index_mut-2.result.now c.answer_at-refusal.new.recorder c.index_mut.result.now c.answer_at-refusal.new.desk beside here handed c.answer_at-refusal.ensures.records
