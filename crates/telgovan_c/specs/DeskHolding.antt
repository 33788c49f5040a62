-- What the held box of a desk owns: the same as the box itself, or nothing.
use base.Fml.{Fml, ftrue}
use base.Stored.{Coded}
use denote.RawPtr.{Ptr}
use Rattle.std.specs.Coded.{coded_option}
use Rattle.std.specs.declared.option.Option.{Option}
use Rattle.std.specs.declared.option.Option.TheVariants.{None, Some}
use Rattle.std.specs.Box.Ownership.{box_owns}
use Rattle.std.specs.Global.{Global}
use Rattle.std_heap.specs.contracts.GlobalAllocator.TheImpl.{ghosts}
use Rattle.conversation.specs.contracts.host_desk.HostDesk.{the_row}

abbrev pub desk_owns : Global → Ptr → Option the_row.Denot → Fml
desk_owns alloc p None = ftrue
desk_owns alloc p (Some x) = box_owns (ghosts.dealloc_token alloc) the_row p x

abbrev pub desk_coded : Coded (Option the_row.Denot)
desk_coded = coded_option the_row.coded
