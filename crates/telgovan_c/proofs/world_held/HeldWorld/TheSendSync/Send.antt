-- A held box may go to another thread, since what is in it may, and its block is freed anywhere.
use mir.Raw.{raw}
use base.Shift.{Keyless}
use denote.Memory.{lone}
use denote.RawPtr.{Ptr}
use denote.Struct.Struct.{exits_of}
use denote.Struct.Owning.{shape, fields, to}
use denote.Param.Send.{IsSend, AllSend, owning_send, struct_send, sendable}
use Rattle.core.specs.declared.option.Option.{Option}
use Rattle.core.specs.declared.option.Option.TheVariants.{None, Some}
use Rattle.std.specs.Global.{Global}
use Rattle.std.proofs.Crossing as heap
use Rattle.std_alloc.proofs.SendSync.{quiet, lies}
use Rattle.std_heap.proofs.Global.TheSendSync as handle
use Rattle.telgovan_c.specs.WorldHolding.{world_owns}
use Rattle.job_core.specs.contracts.world.World as World
use Rattle.job_core.proofs.world.World.TheSendSync.{the_send as boxed}
use Rattle.telgovan_c.specs.contracts.world_held.HeldWorld.{the_row, the_type}

sent : (alloc : Global) (p : Ptr) (kept : Option World.the_row.Denot) → Keyless (world_owns alloc p kept)
sent alloc p None = tt
sent alloc p (Some x) = (lies World.the_row boxed p x, heap.frees.frees alloc (raw (lone World.the_row.mir)) p)

pub send : IsSend the_row
send =
    let all : AllSend (fields the_type) = (search sendable, (handle.the_field_send, tt)) in
    owning_send the_type all (λ d. sent d.alloc d.ptr d.kept)
    (λ k. quiet (to the_type) (exits_of k (fields the_type)) ((struct_send (shape the_type) all).leaving k))
