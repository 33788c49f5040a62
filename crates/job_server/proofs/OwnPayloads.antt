-- A tenant's part of a history has entries of the whole, whose payloads went through connections.
use Rattle.std.proofs.Common.{◌≡◌, ◌≤◌, ℕ, zero, suc, Bool, true, false, List, [], ◌∷◌, ◌++◌, length, map, slice_get, Option, Some, None, Result, Ok, refl, sym, ap, subst, ◌∙◌, arith}
use Rattle.std.specs.Prelude.{string_bytes}
use Rattle.std.proofs.lemmas.List.{length-map}
use Rattle.sessions.specs.Grammar.{Asked, result}
use Rattle.shared_desk.specs.Histories.{HistoryEntry, Query, Replays, none_yet, one_more, put_if}
use Rattle.shared_desk.specs.Closed.{AreClosed}
use Rattle.shared_desk.specs.declared.door.Door.{Door}
use Rattle.shared_desk.specs.declared.passage.Passage.{Passage}
use Rattle.tenant_desks.specs.Alone.{IsTenantHistory, goes_to, sent_to}
use Rattle.tenant_desks.specs.OwnNamed.{AreAskedByName, IsNamedEntry, IsOwnNamed, named, no_memory, no_request}
use Rattle.tenant_desks.specs.AskedPlainly as plain
use Rattle.shared_desk.specs.ServerAsked.{AreAskedOfDesks}
use Rattle.shared_desk.proofs.AskedOfDesks as aside
use Rattle.tenant_desks.specs.AskedPlainly.{AreAskedPlainly, IsAskedAs}
use Rattle.tenant_desks.specs.AtDoors.{keeps_no_key, keys_behind, told_by_door, without_keys}
use Rattle.tenant_desks.proofs.DoorLemmas.{asked_plainly}
use Rattle.tenant_desks.proofs.NamedHistories.{own_names}
use Rattle.accounts.specs.Ledgers.{Ledger}
use Rattle.tenant_desks.specs.Answering.{KeptRunner}
use Rattle.tenant_desks.specs.Tenancies.{AreFirstDesks, IsFirstDesk, fresh_desk}
use Rattle.job_pools.specs.declared.limited_runner.LimitedRunner.{LimitedRunner}
use Rattle.job_pools.specs.declared.line_limited_runner.LineLimitedRunner.{LineLimitedRunner}
use Rattle.credit_book.specs.declared.book.Report.{Report}
use Rattle.credit_book.specs.declared.board.Progress.{Progress}
use Rattle.job_core.specs.Admitted.{AdmittedJob}
use Rattle.job_pools.specs.LineBounded.{looks_by_line, starts_by_line, takes_by_line}
use Rattle.job_pools.specs.Bounded.{looks_within, starts_within, takes_within}
use Rattle.job_pools.specs.Holds.{StartsBy, TellsBy, TakesBy}
use Rattle.job_pools.specs.Started.{pooled_at, pooled_count}
use Rattle.job_server.specs.AtOnce.{Pool}
use Rattle.job_server.specs.declared.bounds.Bounds.{Bounds}
use Rattle.job_server.specs.declared.fault.ServeFault.{ServeFault}
use Rattle.job_server.specs.declared.tenant_door.TenantDoor.{TenantDoor}
use Rattle.job_server.specs.EndToEnd.{ComesFromSubmit, IsResultFrame, submit_of}
use Rattle.job_server.specs.Payloads.{IsEntryOf}
use Rattle.job_server.specs.OwnPayloads.{ComesFromOwnPayload, IsHeardOf}
use Rattle.job_server.specs.TenantResults.{IsTenantHostHistory}
use Rattle.job_server.specs.TenantServing.{DoorsHosted, IsServingTenants, TenantHosted, door_credits, door_names, hosted_door_answers, hosted_tenant_answers}
use Rattle.job_server.proofs.CountsAside.{desk_entry}
use Rattle.job_server.proofs.FromSubmit.{each_served}
use Rattle.job_server.proofs.ListEnds.{joined_again, last_of, last_same, none_pushed}
use Rattle.job_server.proofs.OwnSubmits.{own_comes}
use Rattle.job_server.proofs.WentOver.{IsIn, is_entry_of}

-- ---- an entry of a tenant's part is one of the whole history

behind : (x e : HistoryEntry) (history : List HistoryEntry) → IsIn e history → IsIn e (x ∷ history)
behind x e history t = record { before = x ∷ t.before; after = t.after; is = ap (λ l. x ∷ l) t.is }

first_of : (x e : HistoryEntry) (history rest after : List HistoryEntry) → x ∷ rest ≡ e ∷ after → IsIn e (x ∷ history)
first_of x e history rest after is =
    let same : x ≡ e = cc in
    record { before = []; after = history; is = ap (λ y. y ∷ history) same }

rest_of : (x y : HistoryEntry) (xs ys : List HistoryEntry) → x ∷ xs ≡ y ∷ ys → xs ≡ ys
rest_of x y xs ys is = cc

pub sent_in : (names : List (List ℕ)) (place : ℕ) (history before after : List HistoryEntry) (e : HistoryEntry) → sent_to names place history ≡ before ++ e ∷ after → IsIn e history
sent_in names place [] [] after e is = cc
sent_in names place [] (y ∷ before) after e is = cc
sent_in names place (x ∷ history) before after e is = put (goes_to names place x.query) before (λ ahead there. sent_in names place history ahead after e there) is
  where
    put : (b : Bool) (before : List HistoryEntry) → ((ahead : List HistoryEntry) → sent_to names place history ≡ ahead ++ e ∷ after → IsIn e history) → put_if b x (sent_to names place history) ≡ before ++ e ∷ after → IsIn e (x ∷ history)
    put false before later is = behind x e history (later before is)
    put true [] later is = first_of x e history (sent_to names place history) after is
    put true (y ∷ before) later is = behind x e history (later before (rest_of x y (sent_to names place history) (before ++ e ∷ after) is))

-- ---- an entry of what the desks were asked is one of the history, by name

in_named : (names : List (List ℕ)) (history before after : List HistoryEntry) (f : HistoryEntry) → AreAskedByName names history (before ++ f ∷ after) → (e : HistoryEntry) × IsIn e history × IsNamedEntry names e f
in_named names [] [] after f are = absurd are
in_named names [] (y ∷ before) after f are = absurd are
in_named names (e ∷ history) [] after f are = (e, record { before = []; after = history; is = refl }, are.0)
in_named names (e ∷ history) (y ∷ before) after f are =
    let t = in_named names history before after f are.1 in
    (t.0, behind e t.0 history t.1, t.2)

named_at : (names : List (List ℕ)) (history asked : List HistoryEntry) (f : HistoryEntry) → AreAskedByName names history asked → IsIn f asked → (e : HistoryEntry) × IsIn e history × IsNamedEntry names e f
named_at names history asked f are t = in_named names history t.before t.after f (subst (λ (l : List HistoryEntry). AreAskedByName names history l) t.is are)

heard_of : (names : List (List ℕ)) (door : Door) (q r : Result Asked ℕ) (asks : Asked) → IsOwnNamed names door q r → r ≡ Ok asks → (heard : Asked) × (q ≡ Ok heard) × IsOwnNamed names door (Ok heard) (Ok asks)
heard_of names door q r asks (no_request code) is = absurd cc
heard_of names door q r asks (named a) is = (a, refl, subst (λ (x : Result Asked ℕ). IsOwnNamed names door (Ok a) x) is (named a))
heard_of names door q r asks (no_memory a unnamed) is = absurd cc

-- ---- an entry of what was asked plainly is one of the history

pushed : (e x : HistoryEntry) (history : List HistoryEntry) → IsIn e history → IsIn e (history ++ x ∷ [])
pushed e x history t = record {
  before = t.before;
  after = t.after ++ x ∷ [];
  is = ap (λ l. l ++ x ∷ []) t.is ∙ joined_again t.before e t.after (x ∷ []);
}

plain_at : (begins : DoorsHosted → Type 0) (history asked before after : List HistoryEntry) (g : HistoryEntry) (t : DoorsHosted) → AreAskedPlainly hosted_tenant_answers begins history asked t
    → asked ≡ before ++ g ∷ after → (e : HistoryEntry) × IsIn e history × ((told : Option (List ℕ)) × IsAskedAs told e g)
plain_at begins _ _ before after g t (plain.none_yet s start) is = absurd (none_pushed before after g is)
plain_at begins _ _ before [] g t (plain.one_more history asked s e f u are answer told kept) is =
    let same = last_same asked before f g is in
    let here : Option (List ℕ) = told_by_door (keys_behind s.1.keys e.query.passage.door) u.0.desks e.query.passage.door e.query.beyond in
    (e, record { before = history; after = []; is = refl }, (here, subst (λ (x : HistoryEntry). IsAskedAs here e x) same.1 told))
plain_at begins _ _ before (a ∷ after) g t (plain.one_more history asked s e f u are answer told kept) is =
    let parted = last_of a after in
    let same = last_same asked (before ++ g ∷ parted.0) f parted.1 (is ∙ ap (λ l. before ++ g ∷ l) parted.2 ∙ sym (joined_again before g parted.0 (parted.1 ∷ []))) in
    let r = plain_at begins history asked before parted.0 g s are same.0 in
    (r.0, pushed r.0 e history r.1, r.2)

-- a request of the plain protocol is the very entry, but for what was asked beyond that
plain_same : (told : Option (List ℕ)) (e f : HistoryEntry) (asks : Asked) → IsAskedAs told e f → f.query.asked ≡ Ok asks
    → (f.connection ≡ e.connection) × (f.query.passage ≡ e.query.passage) × (f.query.asked ≡ e.query.asked) × (f.reply ≡ e.reply)
plain_same None e f asks is own = (
  ap (λ (x : HistoryEntry). x.connection) is,
  ap (λ (x : HistoryEntry). x.query.passage) is,
  ap (λ (x : HistoryEntry). x.query.asked) is,
  ap (λ (x : HistoryEntry). x.reply) is,
)
plain_same (Some frame) e f asks is own = absurd (let clash = sym own ∙ ap (λ (q : Query). q.asked) is.1 in cc)

-- ---- the desks that a server begins with

names_of_credits : (doors : List TenantDoor) → map (λ (x : List ℕ × Option ℕ). x.0) (door_credits doors) ≡ door_names doors
names_of_credits [] = refl
names_of_credits (d ∷ doors) = ap (λ ns. string_bytes d.name ∷ ns) (names_of_credits doors)

as_many_first : (tenants : List (List ℕ × Option ℕ)) (desks : List Ledger) → AreFirstDesks tenants desks → length desks ≡ length tenants
as_many_first [] [] are = refl
as_many_first [] (d ∷ desks) are = absurd are
as_many_first (t ∷ tenants) [] are = absurd are
as_many_first (t ∷ tenants) (d ∷ desks) are = ap suc (as_many_first tenants desks are.1)

none_on_first : (name : List ℕ) (credit : Option ℕ) (d : Ledger) → IsFirstDesk name credit d → d.jobs ≡ []
none_on_first name None d is = ap (λ (l : Ledger). l.jobs) is
none_on_first name (Some amount) d more = more.jobs

none_behind : (tenants : List (List ℕ × Option ℕ)) (desks : List Ledger) → AreFirstDesks tenants desks → (place : ℕ) (first : Ledger) → slice_get desks place ≡ Some first → first.jobs ≡ []
none_behind [] [] are place first at = absurd cc
none_behind [] (d ∷ desks) are place first at = absurd are
none_behind (t ∷ tenants) [] are place first at = absurd are
none_behind (t ∷ tenants) (d ∷ desks) are zero first at = let same : d ≡ first = cc in ap (λ (l : Ledger). l.jobs) (sym same) ∙ none_on_first t.0 t.1 d are.0
none_behind (t ∷ tenants) (d ∷ desks) are (suc place) first at = none_behind tenants desks are.1 place first at

none_at_first : (tenants : List (List ℕ × Option ℕ)) (desks : List Ledger) → AreFirstDesks tenants desks → (place : ℕ) (first : Ledger) → slice_get (fresh_desk ∷ desks) place ≡ Some first → first.jobs ≡ []
none_at_first tenants desks are zero first at = let same : fresh_desk ≡ first = cc in ap (λ (l : Ledger). l.jobs) (sym same)
none_at_first tenants desks are (suc place) first at = none_behind tenants desks are place first at

-- ---- and its payload went through its connection

module _ (doors : List TenantDoor) (bounds : Bounds) (sessions : ℕ) (may_stop : Bool) (outcome : Result (Unit {0}) ServeFault) (s : IsServingTenants doors bounds sessions may_stop outcome) where
  entry_of : (e : HistoryEntry) (asks : Asked) → IsIn e s.serving.history → e.query.asked ≡ Ok asks → IsEntryOf s.serving.closed e asks
  entry_of e asks t own =
      is_entry_of s.serving.opened t.before t.after e s.serving.closed asks (subst (λ h. AreClosed s.serving.opened h s.serving.closed) t.is s.serving.parts)
      (each_served s.serving.closed s.serving.served) own

  -- the desks that it begins with
  abbrev firsts : List Ledger
  firsts = fresh_desk ∷ s.begins.0.firsts

  first_tenancy : s.begun.0 ≡ record { names = door_names doors; desks = firsts }
  first_tenancy =
      let named : s.begun.0.names ≡ door_names doors = s.begins.0.names ∙ names_of_credits doors in
      λ i. record { names = named i; desks = s.begins.0.desks i }

  begun : (history : List HistoryEntry) (x : TenantHosted) → Replays hosted_tenant_answers (λ y. y ≡ without_keys s.begun) history x
      → Replays hosted_tenant_answers (λ y. (y.0 ≡ record { names = door_names doors; desks = firsts }) × (y.1.keep ≡ bounds.keep)) history x
  begun _ x (none_yet y is) = none_yet y (
    ap (λ (h : TenantHosted). h.0) is ∙ first_tenancy,
    ap (λ (h : TenantHosted). h.1.keep) is ∙ ap (λ (k : KeptRunner (LineLimitedRunner (LimitedRunner Pool))). k.keep) s.begins.1,
  )
  begun _ x (one_more h y d z before answered) = one_more h y d z (begun h y before) answered

  -- the runner of all jobs
  abbrev line_starts : LineLimitedRunner (LimitedRunner Pool) → ℕ → AdmittedJob → Result (Unit {0}) ℕ → LineLimitedRunner (LimitedRunner Pool) → Type 0
  line_starts = starts_by_line (starts_within pooled_count (StartsBy pooled_at pooled_count))

  abbrev line_looks : LineLimitedRunner (LimitedRunner Pool) → ℕ → Progress → LineLimitedRunner (LimitedRunner Pool) → Type 0
  line_looks = looks_by_line (looks_within (TellsBy pooled_at pooled_count))

  abbrev line_takes : LineLimitedRunner (LimitedRunner Pool) → Option (ℕ × Result Report ℕ) → LineLimitedRunner (LimitedRunner Pool) → Type 0
  line_takes = takes_by_line (takes_within (TakesBy pooled_at pooled_count))

  -- what was asked of the desks, and not of the server itself
  abbrev past_counts : (heard : List HistoryEntry) × AreAskedOfDesks s.serving.history heard × Replays hosted_door_answers (λ y. y ≡ s.begun) heard s.end
  past_counts = aside.asked_of_desks hosted_door_answers (λ y. y ≡ s.begun) s.serving.history s.end s.serving.legal

  -- what was asked plainly
  abbrev asked_of_doors : (plain : List HistoryEntry) × AreAskedPlainly hosted_tenant_answers (λ y. y ≡ s.begun) past_counts.0 plain s.end × Replays hosted_tenant_answers (λ y. y ≡ without_keys s.begun) plain (without_keys s.end)
  asked_of_doors = asked_plainly hosted_tenant_answers keeps_no_key (λ y. y ≡ s.begun) (λ y. y ≡ without_keys s.begun) (λ y is. ap without_keys is) past_counts.0 s.end past_counts.2

  -- what the desks were asked
  abbrev asked_of_desks : (asked : List HistoryEntry) × AreAskedByName (door_names doors) asked_of_doors.0 asked × IsTenantHistory line_starts line_looks line_takes (door_names doors) firsts bounds.keep asked (without_keys s.end)
  asked_of_desks = own_names line_starts line_looks line_takes (door_names doors) firsts bounds.keep asked_of_doors.0 (without_keys s.end) (begun asked_of_doors.0 (without_keys s.end) asked_of_doors.2)

  abbrev asked : List HistoryEntry
  asked = asked_of_desks.0

  host : length doors ≤ 256 → IsTenantHostHistory bounds.keep (door_names doors) asked
  host few =
      let many = length-map doors (λ (d : TenantDoor). string_bytes d.name) in
      let credits : length (door_credits doors) ≡ length doors = length-map {B = List ℕ × Option ℕ} doors (λ (d : TenantDoor). (string_bytes d.name, d.credit)) in
      let behind = as_many_first (door_credits doors) s.begins.0.firsts s.begins.0.granted in
      record {
        few = omega (arith, few, many);
        firsts = firsts;
        as_many = omega (arith, many, credits, behind);
        no_job = none_at_first (door_credits doors) s.begins.0.firsts s.begins.0.granted;
        end = without_keys s.end;
        legal = asked_of_desks.2;
      }

  heard_entry : (f : HistoryEntry) (asks : Asked) → IsIn f asked → f.query.asked ≡ Ok asks → IsHeardOf (door_names doors) s.serving.closed f asks
  heard_entry f asks t own =
      let n = named_at (door_names doors) asked_of_doors.0 asked f asked_of_desks.1 t in
      let h = heard_of (door_names doors) n.0.query.passage.door n.0.query.asked f.query.asked asks n.2.asked own in
      let p = plain_at (λ y. y ≡ s.begun) past_counts.0 asked_of_doors.0 n.1.before n.1.after n.0 s.end asked_of_doors.1 n.1.is in
      let same = plain_same p.2.0 p.0 n.0 h.0 p.2.1 h.1 in
      let names = door_names doors in
      record {
        entry = p.0;
        same = record {
          connection = n.2.connection ∙ same.0;
          passage = n.2.passage ∙ same.1;
          asked = subst (λ (x : Passage × Result Asked ℕ). IsOwnNamed names x.0.door x.1 f.query.asked) (λ i. (same.1 i, same.2 i)) n.2.asked;
          reply = n.2.reply ∙ same.3;
        };
        heard = h.0;
        by_name = subst (λ (x : Passage). IsOwnNamed names x.door (Ok h.0) (Ok asks)) same.1 h.2;
        went = entry_of p.0 h.0 (desk_entry s.serving.history past_counts.0 p.0 h.0 past_counts.1 p.1 (sym same.2 ∙ h.1)) (sym same.2 ∙ h.1);
      }

  own_payload : (place : ℕ) (before after : List HistoryEntry) (e : HistoryEntry) (number : ℕ) → length doors ≤ 256 → place ≤ length doors → sent_to (door_names doors) place asked ≡ before ++ e ∷ after
      → e.query.asked ≡ Ok (result number) → IsResultFrame e.reply → ComesFromOwnPayload (door_names doors) s.serving.closed before number e
  own_payload place before after e number few there is asks f = record {
    comes = comes;
    submitted = heard_entry comes.asked (submit_of comes.is_submit.name comes.is_submit.programs comes.is_submit.credit comes.is_submit.buffer)
        (sent_in (door_names doors) place asked comes.earlier (comes.between ++ e ∷ after) comes.asked (is ∙ ap (λ l. l ++ e ∷ after) comes.is_before ∙ joined_again comes.earlier comes.asked comes.between (e ∷ after)))
        comes.is_submit.asks;
    told = heard_entry e (result number) (sent_in (door_names doors) place asked before after e is) asks;
  }
    where
      comes : ComesFromSubmit before number e
      comes = own_comes bounds.keep place (door_names doors) asked (host few) (omega (arith, there, length-map doors (λ (d : TenantDoor). string_bytes d.name))) before after e number is asks f

  pub own_payloads : length doors ≤ 256 → (heard plain asked : List HistoryEntry) × AreAskedOfDesks s.serving.history heard × AreAskedPlainly hosted_tenant_answers (λ y. y ≡ s.begun) heard plain s.end
      × AreAskedByName (door_names doors) plain asked
      × ((place : ℕ) (before after : List HistoryEntry) (e : HistoryEntry) (number : ℕ) → place ≤ length doors → sent_to (door_names doors) place asked ≡ before ++ e ∷ after
      → e.query.asked ≡ Ok (result number) → IsResultFrame e.reply → ComesFromOwnPayload (door_names doors) s.serving.closed before number e)
  own_payloads few = (past_counts.0, asked_of_doors.0, asked, past_counts.1, asked_of_doors.1, asked_of_desks.1, λ place before after e number there. own_payload place before after e number few there)
