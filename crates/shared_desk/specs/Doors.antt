-- The sockets by which connections come, as text.
use Rattle.std.specs.Prelude.{ℕ, List, codes}
use Rattle.shared_desk.specs.declared.door.Door.{Door}
use Rattle.shared_desk.specs.declared.door.Door.TheVariants.{Port, Socket, Grants, Tenant}

abbrev pub door_text : Door → List ℕ
door_text Port = codes "port"
door_text Socket = codes "socket"
door_text Grants = codes "grants"
door_text (Tenant number) = codes "tenant"
