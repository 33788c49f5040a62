-- What the held box of a job owns: the same as the box itself, or nothing.
use base.Fml.{Fml, ftrue}
use base.Stored.{Coded}
use denote.RawPtr.{Ptr}
use Rattle.std.specs.Coded.{coded_option}
use Rattle.std.specs.declared.option.Option.{Option}
use Rattle.std.specs.declared.option.Option.TheVariants.{None, Some}
use Rattle.std.specs.Box.Ownership.{box_owns}
use Rattle.std.specs.Global.{Global}
use Rattle.std_heap.specs.contracts.GlobalAllocator.TheImpl.{ghosts}
use Rattle.job_core.specs.contracts.world.World.{the_row}

abbrev pub world_owns : Global → Ptr → Option the_row.Denot → Fml
world_owns alloc p None = ftrue
world_owns alloc p (Some x) = box_owns (ghosts.dealloc_token alloc) the_row p x

abbrev pub world_coded : Coded (Option the_row.Denot)
world_coded = coded_option the_row.coded
