use Rattle.std.proofs.Common.{◌≡◌, length, take}
use Rattle.job_core.specs.Filled.{filled_buffer}
use Rattle.job_core.proofs.filling.fill.Given as goal

abbrev pub invariant-loop-live : goal.invariant-loop-live
invariant-loop-live l = record {
  so_far : l.buffer.items ≡ filled_buffer (take l.live-index l.lives) l.initial.buffer.items;
  long : length l.buffer.items ≡ length l.initial.buffer.items;
}
