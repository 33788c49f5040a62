-- Records of changes, one behind the other.
use Rattle.std.proofs.Common.{◌≡◌, ◌+◌, ℕ, List, [], ◌∷◌, ◌++◌, append_assoc, length, nat_lt, if◌then◌else◌, Bool, true, false, Option, None, Some, refl, sym, ap, subst, ◌∙◌, arith}
use Rattle.std.proofs.lemmas.Bool.Decides.{nat_tests}
use Rattle.std.proofs.lemmas.List.{append-nil}
use Rattle.accounts.specs.Ledgers.{Ledger}
use Rattle.journal.specs.Records.{record_of, journal_of}
use Rattle.journal.proofs.JoinedRecords.{fits_both, journal_both}
use Rattle.recovery.specs.Histories.{ReplaysChanges}
use Rattle.sessions.specs.JobKeys.{noted}
use Rattle.sessions.specs.declared.job_key.KeyedJob.{KeyedJob}
use Rattle.compaction.proofs.SnapshotLemmas.{replays_on}
use Rattle.keyed_desk.specs.KeyedSteps.{MakesKeyed}
use Rattle.desk_recorder.specs.Recording.{HoldsOpen, IsChangeRecord, ChangesLead, IsRecorded, RecordsMore, keyed_state, keyed_taken, last_keyed, noted_each}
use Rattle.desk_recorder.specs.Histories.{IsDeskHistory, RecordsLead}
use Rattle.desk_recorder.specs.declared.recorder.ChangeRecorder.{ChangeRecorder}

pub noted_then : (keys ks ls : List KeyedJob) → noted_each keys (ks ++ ls) ≡ noted_each (noted_each keys ks) ls
noted_then keys [] ls = refl
noted_then keys (k ∷ ks) ls = noted_then (noted keys k.job k.key) ks ls

pub leads_then : (d m e : Ledger) (ps qs : List (List ℕ)) (ks ls : List KeyedJob) → ChangesLead d ps ks m → ChangesLead m qs ls e → ChangesLead d (ps ++ qs) (ks ++ ls) e
leads_then d m e ps qs ks ls first second held keys holds =
    let one = first held keys holds in
    let two = second one.0 (noted_each keys ks) one.1 in (
      two.0,
      two.1,
      subst (λ (l : List KeyedJob). ReplaysChanges MakesKeyed (keyed_state d held keys) (ps ++ qs) (keyed_state e two.0 l)) (sym (noted_then keys ks ls))
          (replays_on MakesKeyed (keyed_state d held keys) ps qs (keyed_state m one.0 (noted_each keys ks)) (keyed_state e two.0 (noted_each (noted_each keys ks) ls)) one.2 two.2),
    )

-- nothing is recorded where nothing changes
leads_nowhere : (d e : Ledger) → e ≡ d → ChangesLead d [] [] e
leads_nowhere d e same held keys holds =
    (held, subst (λ (x : Ledger). HoldsOpen held x) (sym same) holds, ap (λ (x : Ledger). keyed_state x held keys) same)

-- ---- the key of a job that was taken

-- none where no job is
pub keyed_none : (key : Option (List ℕ)) (d e : Ledger) → length e.jobs ≡ length d.jobs → keyed_taken key d e ≡ []
keyed_none key d e same =
    let none : nat_lt (length d.jobs) (length e.jobs) ≡ false = grind (arith, nat_tests, same) in
    ap (λ (b : Bool). if b then last_keyed key e else []) none

-- one where one is
pub keyed_one : (key : Option (List ℕ)) (d e : Ledger) → length e.jobs ≡ length d.jobs + 1 → keyed_taken key d e ≡ last_keyed key e
keyed_one key d e more =
    let one : nat_lt (length d.jobs) (length e.jobs) ≡ true = grind (arith, nat_tests, more) in
    ap (λ (b : Bool). if b then last_keyed key e else []) one

-- no key, no keyed job
pub unkeyed : (d e : Ledger) → keyed_taken None d e ≡ []
unkeyed d e = by (nat_lt (length d.jobs) (length e.jobs))
  where
    by : (b : Bool) → (if b then last_keyed None e else []) ≡ []
    by true = refl
    by false = refl

last_count : (key : Option (List ℕ)) (m e : Ledger) → length e.jobs ≡ length m.jobs → last_keyed key e ≡ last_keyed key m
last_count None m e same = refl
last_count (Some key) m e same = ap (λ (n : ℕ). record { job = n; key = key } ∷ []) same

-- what happened to jobs ahead changes nothing of it
pub keyed_ahead : (key : Option (List ℕ)) (d m e : Ledger) → length m.jobs ≡ length d.jobs → keyed_taken key d e ≡ keyed_taken key m e
keyed_ahead key d m e same = ap (λ (n : ℕ). if nat_lt n (length e.jobs) then last_keyed key e else []) (sym same)

-- what happens to jobs behind changes nothing of it
pub keyed_behind : (key : Option (List ℕ)) (d m e : Ledger) → length e.jobs ≡ length m.jobs → keyed_taken key d e ≡ keyed_taken key d m
keyed_behind key d m e same =
    ap (λ (n : ℕ). if nat_lt (length d.jobs) n then last_keyed key e else []) same
    ∙ ap (λ (l : List KeyedJob). if nat_lt (length d.jobs) (length m.jobs) then l else []) (last_count key m e same)

module _ {Q : Type 0} (taken : Q → List ℕ) (failed : Q → Type 0) where
  pub more_both : (p q r : Q) (d m e : Ledger) (ks ls : List KeyedJob) → RecordsMore taken p q d m ks → RecordsMore taken q r m e ls → RecordsMore taken p r d e (ks ++ ls)
  more_both p q r d m e ks ls first second = record {
    payloads = first.payloads ++ second.payloads;
    fit = fits_both first.payloads second.payloads first.fit second.fit;
    more = second.more ∙ ap (λ (b : List ℕ). b ++ journal_of second.payloads) first.more ∙ append_assoc (taken p) (journal_of first.payloads) (journal_of second.payloads)
        ∙ ap (λ (b : List ℕ). taken p ++ b) (sym (journal_both first.payloads second.payloads));
    leads = leads_then d m e first.payloads second.payloads ks ls first.leads second.leads;
  }

  pub more_then : (p q r : Q) (d m e : Ledger) → RecordsMore taken p q d m [] → RecordsMore taken q r m e [] → RecordsMore taken p r d e []
  more_then p q r d m e = more_both p q r d m e [] []

  pub more_nothing : (p q : Q) (d e : Ledger) → taken q ≡ taken p → e ≡ d → RecordsMore taken p q d e []
  more_nothing p q d e same unchanged = record {
    payloads = [];
    fit = tt;
    more = same ∙ sym (append-nil (taken p));
    leads = leads_nowhere d e unchanged;
  }

  more_one : (p q : Q) (d e : Ledger) (ks : List KeyedJob) (bytes : List ℕ) → taken q ≡ taken p ++ bytes → IsChangeRecord bytes d e ks → RecordsMore taken p q d e ks
  more_one p q d e ks bytes added is = record {
    payloads = is.payload ∷ [];
    fit = (is.fits, tt);
    more = added ∙ ap (λ (b : List ℕ). taken p ++ b) (is.are ∙ sym (append-nil (record_of is.payload)));
    leads = is.leads;
  }

  -- what is recorded first and then, with the keyed jobs of both
  pub records_both : (p q r : ChangeRecorder Q) (d m e : Ledger) (ks ls : List KeyedJob) → IsRecorded taken failed p q d m ks → IsRecorded taken failed q r m e ls → IsRecorded taken failed p r d e (ks ++ ls)
  records_both p q r d m e ks ls first second = record {
    going = λ on. first.going (second.going on);
    unchanged = λ none. let later = second.unchanged none in let early = first.unchanged later.0 in (early.0, later.1 ∙ early.1);
    told = λ had. second.told (first.told had);
    records = λ on. more_both p.queue q.queue r.queue d m e ks ls (first.records (second.going on)) (second.records on);
  }

  pub records_then : (p q r : ChangeRecorder Q) (d m e : Ledger) → IsRecorded taken failed p q d m [] → IsRecorded taken failed q r m e [] → IsRecorded taken failed p r d e []
  records_then p q r d m e = records_both p q r d m e [] []

  -- the same with keyed jobs that are these
  pub records_keyed : (p q : ChangeRecorder Q) (d e : Ledger) (ks ls : List KeyedJob) → ks ≡ ls → IsRecorded taken failed p q d e ls → IsRecorded taken failed p q d e ks
  records_keyed p q d e ks ls same records = subst (λ (l : List KeyedJob). IsRecorded taken failed p q d e l) (sym same) records

  -- the same with keyed jobs that are none
  pub records_unkeyed : (p q : ChangeRecorder Q) (d e : Ledger) (ks : List KeyedJob) → ks ≡ [] → IsRecorded taken failed p q d e [] → IsRecorded taken failed p q d e ks
  records_unkeyed p q d e ks = records_keyed p q d e ks []

  pub records_nothing : (p : ChangeRecorder Q) (d e : Ledger) → e ≡ d → IsRecorded taken failed p p d e []
  records_nothing p d e same = record {
    going = λ on. on;
    unchanged = λ none. (none, same);
    told = λ had. had;
    records = λ on. more_nothing p.queue p.queue d e refl same;
  }

  clash : (X : Type 0) → true ≡ false → X
  clash X is = absurd cc

  -- a recorder that has stopped takes nothing
  pub records_stopped : (p q : ChangeRecorder Q) (d e : Ledger) (ks : List KeyedJob) → p.is_stopped ≡ true → q.is_stopped ≡ true → q.queue ≡ p.queue → q.has_changed ≡ true → IsRecorded taken failed p q d e ks
  records_stopped p q d e ks was is queue changed = record {
    going = λ on. clash (p.is_stopped ≡ false) (sym is ∙ on);
    unchanged = λ none. clash ((p.has_changed ≡ false) × (e ≡ d)) (sym changed ∙ none);
    told = λ had on. subst failed (sym queue) (had was);
    records = λ on. clash (RecordsMore taken p.queue q.queue d e ks) (sym is ∙ on);
  }

  -- it stops, and its queue is told so
  pub records_stop : (p q : ChangeRecorder Q) (d e : Ledger) (ks : List KeyedJob) → q.is_stopped ≡ true → failed q.queue → q.has_changed ≡ true → IsRecorded taken failed p q d e ks
  records_stop p q d e ks is told changed = record {
    going = λ on. clash (p.is_stopped ≡ false) (sym is ∙ on);
    unchanged = λ none. clash ((p.has_changed ≡ false) × (e ≡ d)) (sym changed ∙ none);
    told = λ had on. told;
    records = λ on. clash (RecordsMore taken p.queue q.queue d e ks) (sym is ∙ on);
  }

  -- a record is added
  pub records_one : (p q : ChangeRecorder Q) (d e : Ledger) (ks : List KeyedJob) (bytes : List ℕ) → p.is_stopped ≡ false → q.is_stopped ≡ false → q.has_changed ≡ true → taken q.queue ≡ taken p.queue ++ bytes → IsChangeRecord bytes d e ks
      → IsRecorded taken failed p q d e ks
  records_one p q d e ks bytes was is changed added are = record {
    going = λ on. was;
    unchanged = λ none. clash ((p.has_changed ≡ false) × (e ≡ d)) (sym changed ∙ none);
    told = λ had on. clash (failed q.queue) (sym on ∙ is);
    records = λ on. more_one p.queue q.queue d e ks bytes added are;
  }

  -- a change is marked ahead of its record
  pub records_marked : (p marked q : ChangeRecorder Q) (d e : Ledger) (ks : List KeyedJob) → marked.queue ≡ p.queue → marked.is_stopped ≡ p.is_stopped → marked.has_changed ≡ true → IsRecorded taken failed marked q d e ks → IsRecorded taken failed p q d e ks
  records_marked p marked q d e ks queue stopped changed records = record {
    going = λ on. sym stopped ∙ records.going on;
    unchanged = λ none. clash ((p.has_changed ≡ false) × (e ≡ d)) (sym changed ∙ (records.unchanged none).0);
    told = λ had. records.told (λ on. subst failed (sym queue) (had (sym stopped ∙ on)));
    records = λ on. subst (λ (x : Q). RecordsMore taken x q.queue d e ks) queue (records.records on);
  }

  -- room is made
  pub records_room : (p q : ChangeRecorder Q) (d : Ledger) → p.is_stopped ≡ false → q.is_stopped ≡ false → q.has_changed ≡ p.has_changed → taken q.queue ≡ taken p.queue → IsRecorded taken failed p q d d []
  records_room p q d was is changed same = record {
    going = λ on. was;
    unchanged = λ none. (sym changed ∙ none, refl);
    told = λ had on. clash (failed q.queue) (sym on ∙ is);
    records = λ on. more_nothing p.queue q.queue d d same refl;
  }

  -- ---- over a history

  pub leads_on : (p q : Q) (history : List (List ℕ)) (keys ks : List KeyedJob) (d e : Ledger) → IsDeskHistory history d keys → RecordsMore taken p q d e ks → RecordsLead taken p q history e (noted_each keys ks)
  leads_on p q history keys ks d e led more =
      let t = more.leads led.0 keys led.1 in
      let first = led.2 in
      record {
        payloads = more.payloads;
        fit = more.fit;
        more = more.more;
        lead = (
          t.0,
          t.1,
          (first.0, first.1, replays_on MakesKeyed first.0 history more.payloads (keyed_state d led.0 keys) (keyed_state e t.0 (noted_each keys ks)) first.2 t.2),
        );
      }
