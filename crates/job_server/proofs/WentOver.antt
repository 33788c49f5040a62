-- Each entry's request came as a payload on its connection, and its reply was written there.
use Rattle.std.proofs.Common.{◌≡◌, ◌==◌, ◌+◌, ℕ, zero, suc, Bool, true, false, List, [], ◌∷◌, ◌++◌, length, slice_get, Some, Result, Ok, Err, MatchResult, OnOk, refl, sym, ap, subst, ◌∙◌, arith}
use Rattle.std.proofs.lemmas.Bool.Decides.{nat_tests}
use Rattle.std.proofs.lemmas.List.{append_assoc}
use mathlib.Core.List.{IsPrefix}
use Rattle.shared_desk.proofs.Parts.{prefix_more}
use Rattle.sessions.specs.Frames.{Front, front, whole, partial, too_large}
use Rattle.sessions.specs.Grammar.{Asked, grant, account, submit, status, result}
use Rattle.streams.specs.declared.fault.StreamFault.{StreamFault}
use Rattle.streams.specs.declared.fault.StreamFault.TheVariants.{ReadFailed, WriteFailed, NoMemory}
use Rattle.streams.specs.Stops.{EndsWith, too_large_reply}
use Rattle.shared_desk.specs.Grants.{admitted}
use Rattle.shared_desk.specs.HeardAt.{HearsAt}
use Rattle.shared_desk.specs.Histories.{HistoryEntry, Query, part_of, put_if, queries_of, replies_of}
use Rattle.shared_desk.specs.Parts.{Asks, IsWritten, IsWrittenUpTo, NamesTheEnd}
use Rattle.shared_desk.specs.declared.closed.ClosedConnection.{ClosedConnection}
use Rattle.shared_desk.specs.declared.passage.Passage.{Passage}
use Rattle.shared_desk.specs.Closed.{AreClosed, IsServedWhole}
use Rattle.job_server.specs.Payloads.{IsPayloadAt, first, later, IsEntryOf}

-- ---- a connection's part has its entries

pub record IsIn (e : HistoryEntry) (part : List HistoryEntry) : Type 0 where
  pub before : List HistoryEntry
  pub after : List HistoryEntry
  pub is : part ≡ before ++ e ∷ after

in_part : (n : ℕ) (before after : List HistoryEntry) (e : HistoryEntry) → e.connection ≡ n → IsIn e (part_of n (before ++ e ∷ after))
in_part n [] after e own =
    let is : (e.connection == n) ≡ true = grind (arith, nat_tests) in
    record { before = []; after = part_of n after; is = ap (λ (b : Bool). put_if b e (part_of n after)) is }
in_part n (x ∷ before) after e own = put (x.connection == n) (in_part n before after e own)
  where
    put : (b : Bool) → IsIn e (part_of n (before ++ e ∷ after)) → IsIn e (put_if b x (part_of n (before ++ e ∷ after)))
    put true t = record { before = x ∷ t.before; after = t.after; is = ap (λ l. x ∷ l) t.is }
    put false t = t

-- ---- and each was asked by a payload

-- a request is what was heard
heard_as : (may : Bool) (heard : Result Asked ℕ) (asks : Asked) → Ok asks ≡ admitted may heard → heard ≡ Ok asks
heard_as true heard asks is = sym is
heard_as false (Err code) asks is = cc
heard_as false (Ok (grant name amount)) asks is = cc
heard_as false (Ok (account name)) asks is = sym is
heard_as false (Ok (submit name job)) asks is = sym is
heard_as false (Ok (status number)) asks is = sym is
heard_as false (Ok (result number)) asks is = sym is

record Came (may : Passage) (bytes : List ℕ) (number : ℕ) (asks : Asked) : Type 0 where
  payload : List ℕ
  came : IsPayloadAt payload number bytes
  hears : HearsAt may.door payload (Ok asks)

length_cons : {X : Type 0} (x : X) (xs : List X) → length xs + 1 ≡ length (x ∷ xs)
length_cons x xs = omega arith

came_in : (may : Passage) (ahead behind : List HistoryEntry) (e : HistoryEntry) (asks : Asked) (bytes left : List ℕ) → Asks may bytes (queries_of (ahead ++ e ∷ behind)) left → e.query.asked ≡ Ok asks → Came may bytes (length ahead) asks
came_in may [] behind e asks bytes left (payload, rest, heard, beyond, cut, hears, more, is, others) own =
    record { payload = payload; came = first bytes rest cut; hears = subst (HearsAt may.door payload) (heard_as may.may_grant heard asks (sym own ∙ ap (λ (q : Query). q.asked) is)) hears }
came_in may (x ∷ ahead) behind e asks bytes left (payload, rest, heard, beyond, cut, hears, more, is, others) own =
    let t = came_in may ahead behind e asks rest left others own in
    record { payload = t.payload; came = subst (λ (n : ℕ). IsPayloadAt t.payload n bytes) (length_cons x ahead) (later (length ahead) bytes payload rest cut t.came); hears = t.hears }

came_on : (may : Passage) (part : List HistoryEntry) (e : HistoryEntry) (asks : Asked) (bytes left : List ℕ) → (t : IsIn e part) → Asks may bytes (queries_of part) left → e.query.asked ≡ Ok asks → Came may bytes (length t.before) asks
came_on may part e asks bytes left t all own = came_in may t.before t.after e asks bytes left (subst (λ p. Asks may bytes (queries_of p) left) t.is all) own

-- ---- the replies that were written

reply_in : (ahead behind : List HistoryEntry) (e : HistoryEntry) → IsPrefix (replies_of ahead ++ e.reply) (replies_of (ahead ++ e ∷ behind))
reply_in [] behind e = (replies_of behind, refl)
reply_in (x ∷ ahead) behind e =
    let t = reply_in ahead behind e in
    (t.0, append_assoc (x.reply ++ replies_of ahead) e.reply t.0 ∙ append_assoc x.reply (replies_of ahead) (e.reply ++ t.0) ∙ ap (λ l. x.reply ++ l) (sym (append_assoc (replies_of ahead) e.reply t.0) ∙ t.1))

ends_with : (bytes out written : List ℕ) (f : Front) → IsPrefix bytes out → EndsWith f out written → IsPrefix bytes written
ends_with bytes out written (whole payload rest) t ends = absurd ends
ends_with bytes out written partial t ends = subst (IsPrefix bytes) (sym ends) t
ends_with bytes out written too_large t ends = subst (IsPrefix bytes) (sym ends) (prefix_more bytes out too_large_reply t)

-- ---- connections that are over

went_through : (c : ClosedConnection) (e : HistoryEntry) (asks : Asked) (outcome : Result ℕ StreamFault) → (t : IsIn e c.part) → e.query.asked ≡ Ok asks
    → MatchResult outcome
    (λ number. IsWritten c.passage c.part c.read [] (c.is_over ≡ true) number c.written × (c.read_failed ≡ false) × (c.write_failed ≡ false))
    (λ fault. IsWrittenUpTo c.passage fault c.part c.read [] c.written × NamesTheEnd fault c.read_failed c.write_failed)
    → Came c.passage c.read (length t.before) asks × OnOk outcome (IsPrefix (replies_of t.before ++ e.reply) c.written)
went_through c e asks (Ok number) t own served =
    let w = served.0 in (
      came_on c.passage c.part e asks c.read w.left t w.asked own,
      ends_with (replies_of t.before ++ e.reply) (replies_of c.part) c.written (front w.left) (subst (λ p. IsPrefix (replies_of t.before ++ e.reply) (replies_of p)) (sym t.is) (reply_in t.before t.after e)) w.last,
    )
went_through c e asks (Err ReadFailed) t own served = let w = served.0 in (came_on c.passage c.part e asks c.read w.left t w.asked own, tt)
went_through c e asks (Err WriteFailed) t own served = let w = served.0 in (came_on c.passage c.part e asks c.read w.left t w.asked own, tt)
went_through c e asks (Err NoMemory) t own served = let w = served.0 in (came_on c.passage c.part e asks c.read w.left t w.asked own, tt)

part_closed : (opened : ℕ) (history : List HistoryEntry) (closed : List ClosedConnection) → AreClosed opened history closed → (i : ℕ) (c : ClosedConnection) → slice_get closed i ≡ Some c → part_of c.connection history ≡ c.part
part_closed opened history [] are i c at = cc
part_closed opened history (x ∷ closed) are zero c at = let same : x ≡ c = cc in subst (λ (d : ClosedConnection). part_of d.connection history ≡ d.part) same are.1
part_closed opened history (x ∷ closed) are (suc i) c at = part_closed opened history closed are.3 i c at

pub is_entry_of : (opened : ℕ) (before after : List HistoryEntry) (e : HistoryEntry) (closed : List ClosedConnection) (asks : Asked) → AreClosed opened (before ++ e ∷ after) closed → ((i : ℕ) (c : ClosedConnection) → slice_get closed i ≡ Some c → IsServedWhole c)
    → e.query.asked ≡ Ok asks → IsEntryOf closed e asks
is_entry_of opened before after e closed asks are served own i c at same =
    let part = part_closed opened (before ++ e ∷ after) closed are i c at in
    let there : IsIn e c.part = subst (IsIn e) part (in_part c.connection before after e (sym same)) in
    let t = went_through c e asks c.outcome there own (served i c at) in
    record {
      ahead = there.before;
      behind = there.after;
      is_part = there.is;
      payload = t.0.payload;
      came = t.0.came;
      hears = t.0.hears;
      written = t.1;
    }
