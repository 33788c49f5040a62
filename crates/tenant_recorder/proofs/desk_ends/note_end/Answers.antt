use Rattle.std.proofs.Common.{◌<◌, length, refl, inl, rules, arith}
use Rattle.std.proofs.lemmas.Option.{slice_get_read}
use Rattle.tenant_recorder.proofs.EachPlace.{noted_at, noted_nothing}
use Rattle.tenant_recorder.proofs.desk_ends.note_end.Goals as goal

pub returns-then-place-len-clause-records : goal.returns-then-place-len-clause-records
returns-then-place-len-clause-records g c = noted_nothing g.Q.RecordQueue.taken g.Q.RecordQueue.has_failed c.args.recorders.now.items c.args.desks.now.items

pub returns-clause-noted : goal.returns-clause-noted
returns-clause-noted g c =
    let place = c.own_number-own.result.1 in
    let within : c.own_number-own.result.1 < length c.args.desks.now.items = search (rules, arith) in
    record {
      own = c.own_number-own.result.0;
      place = place;
      is = c.own_number-own.ensures.is;
      small = c.own_number-own.ensures.small;
      noted = inl (record {
        before = c.index_mut.result.now;
        was = slice_get_read c.args.desks.now.items (length c.args.desks.now.items) place c.index_mut.result.now refl within c.index_mut.ensures.value;
        after = c.end_job.new.desk;
        changed = c.end_job.ensures.noted;
        is = refl;
      });
    }

pub returns-clause-records : goal.returns-clause-records
returns-clause-records g c =
    let place = c.own_number-own.result.1 in
    let within : c.own_number-own.result.1 < length c.args.desks.now.items = search (rules, arith) in
    let paired = c.requires in
    let within_too : c.own_number-own.result.1 < length c.args.recorders.now.items = omega (arith, within, paired) in
    noted_at g.Q.RecordQueue.taken g.Q.RecordQueue.has_failed c.args.recorders.now.items c.args.desks.now.items place
    c.index_mut-2.result.now c.end_job.new.recorder c.index_mut.result.now c.end_job.new.desk
    (slice_get_read c.args.recorders.now.items (length c.args.recorders.now.items) place c.index_mut-2.result.now refl within_too c.index_mut-2.ensures.value)
    (slice_get_read c.args.desks.now.items (length c.args.desks.now.items) place c.index_mut.result.now refl within c.index_mut.ensures.value)
    c.end_job.ensures.records
