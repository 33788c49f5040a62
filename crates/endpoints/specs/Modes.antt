-- Those who may connect to an endpoint.
use Rattle.sessions.specs.declared.door_forms.DoorForms.{DoorForms}
use Rattle.sessions.specs.declared.door_forms.DoorForms.TheVariants.{Plain, OwnDoor, Granter}
use Rattle.endpoints.specs.declared.endpoint.SocketMode.{SocketMode}
use Rattle.endpoints.specs.declared.endpoint.SocketMode.TheVariants.{ByUmask, OwnerAlone}

-- the owner alone where grants may be asked for, and else everybody whom the umask lets
abbrev pub mode_for : DoorForms → SocketMode
mode_for Plain = ByUmask
mode_for OwnDoor = ByUmask
mode_for Granter = OwnerAlone
