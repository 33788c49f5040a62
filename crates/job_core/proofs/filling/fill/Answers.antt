use Rattle.std.proofs.Common.{◌≡◌, ◌∙◌, ◌≤◌, ◌+◌, sym, ap, arith, length}
use Rattle.std.proofs.lemmas.List.{take_all}
use Rattle.job_core.specs.Filled.{put, filled_buffer}
use Rattle.job_core.proofs.Buffers.{filled-more, length-put, none_put, item_live}
use Rattle.job_core.proofs.filling.fill.Goals as goal
use Rattle.job_core.proofs.filling.fill.Goals.{in-Some, in_default}

pub copy_to-requires : goal.copy_to-requires
copy_to-requires c =
    let here = item_live c.args.lives.now c.loop-live.live-index c.live-item.result c.in-Some.live c.loop-live-test.true c.live-item.is c.in-Some.is in
    let fits = c.requires c.loop-live.live-index c.in-Some.live here in
    let le : c.in-Some.live.part.base + length c.in-Some.live.part.bytes ≤ length c.loop-live.buffer.items =
    omega (arith, fits, c.loop-live.invariant.long) in
    rw c.part.ensures le

pub loop-live-preserved : goal.loop-live-preserved
loop-live-preserved c =
    let more = filled-more c.args.lives.now c.loop-live.live-index c.live-item.result c.args.buffer.now.items c.loop-live-test.true c.live-item.is in
    let new : c.match-live.buffer.items ≡ put c.live-item.result c.loop-live.buffer.items =
    elim c.match-live.branch [
      | in-Some w ↦ ap (λ v. v.items) w.buffer-is ∙ (rw w.part.ensures at w.copy_to.ensures) ∙ ap (λ o. put o c.loop-live.buffer.items) (sym w.in-Some.is)
      | in_default w ↦ ap (λ v. v.items) w.buffer-is ∙ sym (none_put c.live-item.result c.loop-live.buffer.items w.in_default.not-Some)
    ] in
    record {
      so_far = new ∙ ap (put c.live-item.result) c.loop-live.invariant.so_far ∙ sym more;
      long = ap length new ∙ length-put c.live-item.result c.loop-live.buffer.items (λ live e.
          let fits = c.requires c.loop-live.live-index live
          (item_live c.args.lives.now c.loop-live.live-index c.live-item.result live c.loop-live-test.true c.live-item.is e) in
          omega (arith, fits, c.loop-live.invariant.long)) ∙ c.loop-live.invariant.long;
    }

pub returns : goal.returns
returns c = c.loop-live.invariant.so_far
    ∙ ap (λ ls. filled_buffer ls c.args.buffer.now.items) (take_all c.loop-live.live-index c.args.lives.now c.loop-live-test.false)
