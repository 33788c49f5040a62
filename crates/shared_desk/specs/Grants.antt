-- Which requests of a connection come to the desk: grants of some connections alone.
use Rattle.std.specs.Prelude.{ℕ, Bool, true, false, Option, Result, Ok, Err}
use Rattle.sessions.specs.Grammar.{Asked, grant, account, submit, status, result}
use Rattle.sessions.specs.declared.door_forms.DoorForm.{DoorForm}
use Rattle.shared_desk.specs.declared.door.Door.TheVariants.{Port}
use Rattle.shared_desk.specs.declared.passage.Passage.{Passage}
use Rattle.shared_desk.specs.Histories.{Query}

-- A grant of a connection that may make none is no request: 73. Everything else is as it was asked.
abbrev pub admitted : Bool → Result Asked ℕ → Result Asked ℕ
admitted true query = query
admitted false (Ok (grant name amount)) = Err 73
admitted false (Ok (account name)) = Ok (account name)
admitted false (Ok (submit name job)) = Ok (submit name job)
admitted false (Ok (status number)) = Ok (status number)
admitted false (Ok (result number)) = Ok (result number)
admitted false (Err code) = Err code

-- what comes to the desk of what was asked by a passage
abbrev pub admitted_by : Passage → Result Asked ℕ → Option DoorForm → Query
admitted_by passage query beyond =
    record { passage = passage; asked = admitted passage.may_grant query; beyond = beyond }

-- a connection of the port, whose requests all come to the desk
abbrev pub by_port : Passage
by_port = record { door = Port; may_grant = true }
