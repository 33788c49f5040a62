-- What is heard by a door.
use Rattle.std.specs.Prelude.{ℕ, List, Option, Result}
use Rattle.sessions.specs.DoorForms.{AsksBeyond, key_of}
use Rattle.sessions.specs.Grammar.{Asked}
use Rattle.sessions.specs.OwnNames.{HearsBy}
use Rattle.sessions.specs.declared.door_forms.DoorForm.{DoorForm}
use Rattle.sessions.specs.declared.door_forms.DoorForms.{DoorForms}
use Rattle.sessions.specs.declared.door_forms.DoorForms.TheVariants.{Plain, OwnDoor, Granter}
use Rattle.shared_desk.specs.declared.door.Door.{Door}
use Rattle.shared_desk.specs.declared.door.Door.TheVariants.{Port, Socket, Grants, Tenant}

-- the forms of a door: those of a tenant's own at its own socket, those of a granter at the one for
-- grants
abbrev pub forms_at : Door → DoorForms
forms_at Port = Plain
forms_at Socket = Plain
forms_at Grants = Granter
forms_at (Tenant number) = OwnDoor

-- what the plain protocol hears of a payload by a door, or the number of the refusal; at a tenant's
-- own socket the tenant's name may be left out
abbrev pub HearsAt : Door → List ℕ → Result Asked ℕ → Type 0
HearsAt door payload asked = HearsBy (key_of (forms_at door)) payload asked

-- what a payload asks by a door beyond that
abbrev pub AsksBeyondAt : Door → List ℕ → Option DoorForm → Type 0
AsksBeyondAt door payload beyond = AsksBeyond (forms_at door) payload beyond
