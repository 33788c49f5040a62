-- From the payload of a submit to the payload of its result, where a tenant's name may be left out.
use Rattle.std.specs.Prelude.{ℕ, List, Ok}
use Rattle.sessions.specs.Grammar.{Asked, result}
use Rattle.shared_desk.specs.Histories.{HistoryEntry}
use Rattle.shared_desk.specs.declared.closed.ClosedConnection.{ClosedConnection}
use Rattle.tenant_desks.specs.OwnNamed.{IsNamedEntry, IsOwnNamed}
use Rattle.job_server.specs.EndToEnd.{ComesFromSubmit, submit_of}
use Rattle.job_server.specs.Payloads.{IsEntryOf}

-- The desks were asked this, by an entry of what they were asked. The entry of the history has heard
-- it, in which the tenant's name may be left out; and its payload went through its connection, if
-- that is over.
pub record IsHeardOf (names : List (List ℕ)) (closed : List ClosedConnection) (named : HistoryEntry)
    (asks : Asked) : Type 0 where
  pub entry : HistoryEntry
  pub same : IsNamedEntry names entry named
  pub heard : Asked
  pub by_name : IsOwnNamed names entry.query.passage.door (Ok heard) (Ok asks)
  pub went : IsEntryOf closed entry heard

-- The result comes from a submit before it, and the payloads and replies of both went through their
-- connections.
pub record ComesFromOwnPayload (names : List (List ℕ)) (closed : List ClosedConnection)
    (before : List HistoryEntry) (number : ℕ) (e : HistoryEntry) : Type 0 where
  pub comes : ComesFromSubmit before number e
  pub submitted : IsHeardOf names closed comes.asked (submit_of comes.is_submit.name
      comes.is_submit.programs comes.is_submit.credit comes.is_submit.buffer)
  pub told : IsHeardOf names closed e (result number)
