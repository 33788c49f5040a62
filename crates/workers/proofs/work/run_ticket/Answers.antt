use Rattle.std.proofs.Common.{◌≡◌, ◌∙◌, ◌≤◌, ◌<◌, ◌^◌, ap, arith, length, refl}
use Rattle.helpers.specs.Piece.{Piece}
use Rattle.interpreter.specs.Representation.{entry_frame}
use Rattle.interpreter.specs.declared.credit.Credit.{Credit}
use Rattle.virtual_machine.specs.Through.{GoesThrough}
use Rattle.workers.proofs.Runs.{covered_of, alone_of}
use Rattle.workers.proofs.work.run_ticket.Goals as goal

pub run_to_end-r0-requires-clause-covered : goal.run_to_end-r0-requires-clause-covered
run_to_end-r0-requires-clause-covered g c =
    let ticket = c.args.task.0 in
    let part = ap (λ (q : Piece). length q.bytes) c.part.ensures in
    let room = c.len.ensures.small in
    let small : length ticket.part.bytes ≤ 65536 = omega (arith, part, room) in
    let top = c.arg.type_inv in
    let arg = c.arg.ensures in
    let fits : ticket.arg < 2 ^ 64 = omega (arith, top, arg) in
    let entered : c.enter.new.self ≡ entry_frame (length ticket.part.bytes) ticket.arg =
    c.enter.ensures ∙ ap (λ n. entry_frame n c.arg.result) (c.len.ensures.len ∙ part) ∙ ap (entry_frame (length ticket.part.bytes)) arg in
    let paid = ap (λ n. let k : Credit = record { held = n; used = 0 } in k) c.held.ensures in
    covered_of c.args.task.1.now ticket c.requires.verified c.requires.suffices small fits c.enter.new.self c.into_part-part.result _ entered
    c.into_part-part.ensures paid

pub returns-clause-alone : goal.returns-clause-alone
returns-clause-alone g c =
    let ticket = c.args.task.0 in
    let part = ap (λ (q : Piece). length q.bytes) c.part.ensures in
    let room = c.len.ensures.small in
    let small : length ticket.part.bytes ≤ 65536 = omega (arith, part, room) in
    let top = c.arg.type_inv in
    let arg = c.arg.ensures in
    let fits : ticket.arg < 2 ^ 64 = omega (arith, top, arg) in
    let entered : c.enter.new.self ≡ entry_frame (length ticket.part.bytes) ticket.arg =
    c.enter.ensures ∙ ap (λ n. entry_frame n c.arg.result) (c.len.ensures.len ∙ part) ∙ ap (entry_frame (length ticket.part.bytes)) arg in
    let paid = ap (λ n. let k : Credit = record { held = n; used = 0 } in k) c.held.ensures in
    record {
      job = c.job-job.ensures;
      number = c.number-number.ensures;
      ran = refl;
      alone = alone_of c.args.task.1.now ticket c.requires.verified c.requires.suffices small fits c.enter.new.self c.into_part-part.result _ entered
          c.into_part-part.ensures paid (g.S.Spawner.entries c.args.task.2.now)
          (λ base asked. GoesThrough g.S.Spawner.spawns base c.args.task.2.now asked c.run_to_end-r0.new.spawner) _ _ _ _ c.run_to_end-r0.ensures.alone;
      base = c.run_to_end-r0.ensures.base ∙ ap (λ (q : Piece). q.base) c.into_part-part.ensures;
    }
