use Rattle.std.proofs.Common.{List, ℕ, refl, subst, sym}
use Rattle.job_core.specs.Admission.{IsAdmittedFrom}
use Rattle.server_handler.proofs.Recorded.{records_nothing, records_room}
use Rattle.server_handler.proofs.recorded_submit.record_ahead.Goals as goal

pub returns-in-Err-clause-records : goal.returns-in-Err-clause-records
returns-in-Err-clause-records g c desk = records_nothing g.C.ChangeSink c.args.place c.args.changes.now desk desk refl

pub returns-in-Err-copy-clause-records : goal.returns-in-Err-copy-clause-records
returns-in-Err-copy-clause-records g c desk = records_nothing g.C.ChangeSink c.args.place c.args.changes.now desk desk refl

pub returns-in-Err-taken_change-clause-records : goal.returns-in-Err-taken_change-clause-records
returns-in-Err-taken_change-clause-records g c desk = records_nothing g.C.ChangeSink c.args.place c.args.changes.now desk desk refl

pub returns-in-Ok-reserve-clause-admission : goal.returns-in-Ok-reserve-clause-admission
returns-in-Ok-reserve-clause-admission g c buffer admission copied =
    let same = rw c.in-Ok-copy.is at copied in (
      rw c.in-Ok.is at admission,
      λ old new job takes admitted. c.in-Ok-taken_change.ensures old new job takes (subst (λ (b : List ℕ). IsAdmittedFrom c.args.programs.items c.args.credit b job) (sym same) admitted),
    )

pub returns-in-Ok-reserve-clause-records : goal.returns-in-Ok-reserve-clause-records
returns-in-Ok-reserve-clause-records g c desk = records_room g.C.ChangeSink c.args.place c.args.changes.now c.reserve.new.self desk c.reserve.ensures.sound c.reserve.ensures.same

pub returns-in-Err-reserve-clause-records : goal.returns-in-Err-reserve-clause-records
returns-in-Err-reserve-clause-records g c desk = records_room g.C.ChangeSink c.args.place c.args.changes.now c.reserve.new.self desk c.reserve.ensures.sound c.reserve.ensures.same
