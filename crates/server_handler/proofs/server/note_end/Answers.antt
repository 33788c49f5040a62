use Rattle.std.proofs.Common.{◌<◌, ◌∙◌, ℕ, length, slice_get, slice_set, refl, sym, ap, subst, inl, rules, arith}
use Rattle.std.proofs.lemmas.Option.{slice_get_read}
use Rattle.server_state.specs.Changing.{RecordsAll}
use Rattle.server_handler.proofs.Among.{all_at, all_nothing}
use Rattle.server_handler.proofs.server.note_end.Goals as goal

pub returns-then-place-len-clause-records : goal.returns-then-place-len-clause-records
returns-then-place-len-clause-records g c = all_nothing g.C.ChangeSink c.args.changes.now c.args.desks.now.items c.args.desks.now.items refl

pub returns-clause-noted : goal.returns-clause-noted
returns-clause-noted g c =
    let desks = c.args.desks.now.items in
    let within : c.from-place.result < length desks = search (rules, arith) in
    inl (record {
      before = c.index_mut.result.now;
      was = ap (slice_get desks) (sym c.from-place.ensures) ∙ slice_get_read desks (length desks) c.from-place.result c.index_mut.result.now refl within c.index_mut.ensures.value;
      after = c.end.new.self;
      notes = c.end.ensures.noted;
      is = ap (λ (i : ℕ). slice_set desks i c.end.new.self) c.from-place.ensures;
    })

pub returns-clause-records : goal.returns-clause-records
returns-clause-records g c =
    let desks = c.args.desks.now.items in
    let within : c.from-place.result < length desks = search (rules, arith) in
    let at = ap (slice_get desks) (sym c.from-place.ensures) ∙ slice_get_read desks (length desks) c.from-place.result c.index_mut.result.now refl within c.index_mut.ensures.value in
    subst (λ (i : ℕ). RecordsAll g.C.ChangeSink c.args.changes.now c.end.new.changes desks (slice_set desks i c.end.new.self)) (sym c.from-place.ensures)
    (all_at g.C.ChangeSink c.args.changes.now c.end.new.changes c.args.id.desk desks c.index_mut.result.now c.end.new.self at c.end.ensures.records)
