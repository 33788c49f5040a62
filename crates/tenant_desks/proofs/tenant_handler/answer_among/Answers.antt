use Rattle.std.proofs.Common.{◌<◌, ◌∙◌, length, map, string_bytes, refl, sym, rules, arith}
use Rattle.std.proofs.lemmas.Option.{slice_get_read}
use Rattle.streams.specs.Prepared.{asked_of}
use Rattle.tenant_desks.specs.Routing.{desk_for}
use Rattle.tenant_desks.proofs.AmongLemmas.{nowhere_err, at_desk_ok, at_desk_err}
use Rattle.tenant_desks.proofs.tenant_handler.answer_among.Goals as goal

pub returns-in-Err-clause-err : goal.returns-in-Err-clause-err
returns-in-Err-clause-err g c =
    nowhere_err g.N.Runner.starts g.N.Runner.looks g.N.Runner.takes c.args.keep c.in-Err.code (desk_for (map string_bytes c.args.names.now) c.args.passage (asked_of c.args.request)) (asked_of c.args.request)
    c.args.desks.now.items c.args.runner.now.runner c.pass_ends.new.desks.items c.pass_ends.new.runner c.refuse.result (sym c.desk_for.ensures.desk ∙ c.in-Err.is) c.pass_ends.ensures.passed

pub returns-clause-ok : goal.returns-clause-ok
returns-clause-ok g c =
    let within : c.in-Ok.place < length c.pass_ends.new.desks.items = search (rules, arith) in
    at_desk_ok g.N.Runner.starts g.N.Runner.looks g.N.Runner.takes c.args.keep c.in-Ok.place (desk_for (map string_bytes c.args.names.now) c.args.passage (asked_of c.args.request)) (asked_of c.args.request)
    c.args.desks.now.items c.args.runner.now.runner c.pass_ends.new.desks.items c.pass_ends.new.runner c.index_mut.result.now c.answer_at-refusal.new.desk c.answer_at-refusal.new.runner c.answer_at-refusal.result.1
    (sym c.desk_for.ensures.desk ∙ c.in-Ok.is) c.pass_ends.ensures.passed
    (slice_get_read c.pass_ends.new.desks.items (length c.pass_ends.new.desks.items) c.in-Ok.place c.index_mut.result.now refl within c.index_mut.ensures.value) c.answer_at-refusal.ensures.ok

pub returns-clause-err : goal.returns-clause-err
returns-clause-err g c =
    let within : c.in-Ok.place < length c.pass_ends.new.desks.items = search (rules, arith) in
    at_desk_err g.N.Runner.starts g.N.Runner.looks g.N.Runner.takes c.args.keep c.in-Ok.place (desk_for (map string_bytes c.args.names.now) c.args.passage (asked_of c.args.request)) (asked_of c.args.request)
    c.args.desks.now.items c.args.runner.now.runner c.pass_ends.new.desks.items c.pass_ends.new.runner c.index_mut.result.now c.answer_at-refusal.new.desk c.answer_at-refusal.new.runner c.answer_at-refusal.result.1
    (sym c.desk_for.ensures.desk ∙ c.in-Ok.is) c.pass_ends.ensures.passed
    (slice_get_read c.pass_ends.new.desks.items (length c.pass_ends.new.desks.items) c.in-Ok.place c.index_mut.result.now refl within c.index_mut.ensures.value) c.answer_at-refusal.ensures.err
