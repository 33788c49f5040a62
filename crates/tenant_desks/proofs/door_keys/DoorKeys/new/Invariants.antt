use Rattle.std.proofs.Common.{◌≡◌, [], replicate}
use Rattle.tenant_desks.proofs.door_keys.DoorKeys.new.Given as goal

abbrev pub invariant-loop-made : goal.invariant-loop-made
invariant-loop-made l = l.tables.items ≡ replicate l.made []
