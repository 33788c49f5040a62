-- A desk's reply by the runner of all jobs for that desk.
use Rattle.std.proofs.Common.{◌≡◌, ◌<◌, ℕ, List, [], length, nat_lt, if◌then◌else◌, Bool, true, false, Option, None, Some, Result, Ok, Err, IfOk, refl, sym, ap, subst, ◌∙◌, inl, inr, arith, append-nil}
use Rattle.std.proofs.lemmas.Bool.Decides.{nat_tests}
use Rattle.refusal.specs.declared.NoMemory.{NoMemory}
use Rattle.job_core.specs.declared.admission.ProgramBytes.{ProgramBytes}
use Rattle.accounts.specs.Ledgers.{KeepsWithin, Ledger}
use Rattle.accounts.specs.declared.keep_limits.KeepLimits.{KeepLimits}
use Rattle.serde_json.specs.Data.{Data}
use Rattle.sessions.specs.Grammar.{Asked, grant, account, submit, status, result}
use Rattle.sessions.specs.JobKeys.{job_among, noted}
use Rattle.sessions.specs.Replies.{frame_of, reply_data}
use Rattle.sessions.specs.declared.job_key.KeyedJob.{KeyedJob}
use Rattle.streams.specs.Answering as plainly
use Rattle.streams.specs.Answering.{Framed}
use Rattle.server_state.specs.Changing.{Leads, Records, desk_with, last_keyed, no_change, noted_each}
use Rattle.server_state.specs.Desks.{DeskReplies, RepliesByKey, jobs_frame, keys_behind, looks_at, refusal_frame, starts_at, submit_frame}
use Rattle.server_state.specs.Queries.{plain, keyed, jobs}
use Rattle.server_state.specs.States.{DeskState, JobsSteps}
use Rattle.server_state.specs.declared.change.ChangeSink.{Ghosts}
use Rattle.server_handler.specs.DeskAnswers.{IsReply, RepliesFromLedger, RecordsAt, desk_looks, desk_starts}
use Rattle.server_handler.specs.Recording.{keyed_taken}
use Rattle.server_handler.specs.declared.desk_jobs.DeskJobs.{DeskJobs}

pub is_reply_weaker : (r : Result (List ℕ) NoMemory) (P Q : List ℕ → Type 0) → ((frame : List ℕ) → P frame → Q frame) → IsReply r P → IsReply r Q
is_reply_weaker (Ok frame) P Q weaker is = weaker frame is
is_reply_weaker (Err none) P Q weaker is = (is.0, weaker is.0 is.1)

-- a reply that is decided
pub is_reply : (r : Result (List ℕ) NoMemory) (P : List ℕ → Type 0) (frame : List ℕ) → IfOk r (λ f. f ≡ frame) → P frame → IsReply r P
is_reply (Ok f) P frame is holds = subst P (sym is) holds
is_reply (Err none) P frame is holds = (frame, holds)

module _ {R : Type 0} (m : JobsSteps R) where
  -- ---- the desk stays

  submits_stay : (d : Ledger) (r : DeskJobs R) (name : List ℕ) (programs : List ProgramBytes) (credit : ℕ) (buffer : List ℕ) (told : Data) (e : Ledger) (s : DeskJobs R)
      → plainly.Submits (desk_starts m) d r name programs credit buffer told e s → s.desk ≡ r.desk
  submits_stay d r name programs credit buffer told e s (inl t) = t.starts_job.1
  submits_stay d r name programs credit buffer told e s (inr n) = ap (λ (x : DeskJobs R). x.desk) n.same_runner

  pub asked_stays : (d : Ledger) (r : DeskJobs R) (asked : Result Asked ℕ) (told : Data) (e : Ledger) (s : DeskJobs R) → plainly.Replies (desk_starts m) (desk_looks m) d r asked told e s → s.desk ≡ r.desk
  unfolding plainly.Replies
  asked_stays d r (Err code) told e s t = ap (λ (x : DeskJobs R). x.desk) t.2
  asked_stays d r (Ok (grant name amount)) told e s t = ap (λ (x : DeskJobs R). x.desk) t.1
  asked_stays d r (Ok (account name)) told e s t = ap (λ (x : DeskJobs R). x.desk) t.2
  asked_stays d r (Ok (submit name order)) told e s t = submits_stay d r name t.0 order.credit order.buffer told e s t.2
  asked_stays d r (Ok (status number)) told e s t = t.1.1
  asked_stays d r (Ok (result number)) told e s t = ap (λ (x : DeskJobs R). x.desk) t.2

  -- ---- its steps are those of the runner of all jobs

  submits_by_all : (d : Ledger) (r : DeskJobs R) (name : List ℕ) (programs : List ProgramBytes) (credit : ℕ) (buffer : List ℕ) (told : Data) (e : Ledger) (s : DeskJobs R)
      → plainly.Submits (desk_starts m) d r name programs credit buffer told e s → plainly.Submits (starts_at m r.desk) d r.jobs name programs credit buffer told e s.jobs
  submits_by_all d r name programs credit buffer told e s (inl t) = inl (record {
    mid = t.mid;
    takes = t.takes;
    job = t.job;
    admitted = t.admitted;
    outcome = t.outcome;
    starts_job = t.starts_job.0;
    settles = t.settles;
    tells = t.tells;
  })
  submits_by_all d r name programs credit buffer told e s (inr n) = inr (record {
    fault = n.fault;
    why = n.why;
    same = n.same;
    same_runner = ap (λ (x : DeskJobs R). x.jobs) n.same_runner;
    tells = n.tells;
  })

  asked_by_all : (d : Ledger) (r : DeskJobs R) (asked : Asked) (told : Data) (e : Ledger) (s : DeskJobs R) → plainly.Replies (desk_starts m) (desk_looks m) d r (Ok asked) told e s
      → plainly.Replies (starts_at m r.desk) (looks_at m r.desk) d r.jobs (Ok asked) told e s.jobs
  unfolding plainly.Replies
  asked_by_all d r (grant name amount) told e s t = (t.0, ap (λ (x : DeskJobs R). x.jobs) t.1)
  asked_by_all d r (account name) told e s t = (t.0, t.1, ap (λ (x : DeskJobs R). x.jobs) t.2)
  asked_by_all d r (submit name order) told e s t = (t.0, t.1, submits_by_all d r name t.0 order.credit order.buffer told e s t.2)
  asked_by_all d r (status number) told e s t = (t.0, t.1.0, t.2, t.3)
  asked_by_all d r (result number) told e s t = (t.0, t.1, ap (λ (x : DeskJobs R). x.jobs) t.2)

  -- ---- a request that is answered by the ledger, which then forgets

  pub ledger_replies : (keep : KeepLimits) (d : Ledger) (r : DeskJobs R) (asks : Result Asked ℕ) (reply : Result (List ℕ) NoMemory) (mid : Ledger) (s : DeskJobs R) (e : Ledger)
      → (asked : Asked) × (asks ≡ Ok asked)
      → Framed reply (λ told. plainly.Replies (desk_starts m) (desk_looks m) d r asks told mid s) → KeepsWithin keep mid e
      → IsReply reply (λ frame. RepliesFromLedger m r.desk keep d r.jobs asks frame e s.jobs)
  ledger_replies keep d r asks reply mid s e ok framed keeps = is_reply reply _ (frame_of framed.told) framed.frame
      (subst (λ (a : Result Asked ℕ). RepliesFromLedger m r.desk keep d r.jobs a (frame_of framed.told) e s.jobs) (sym ok.1) (record {
        mid = mid;
        told = framed.told;
        replies = asked_by_all d r ok.0 (reply_data framed.told) mid s (subst (λ (a : Result Asked ℕ). plainly.Replies (desk_starts m) (desk_looks m) d r a (reply_data framed.told) mid s) ok.1 framed.was);
        is = refl;
        keeps = keeps;
      }))

  -- ---- the desk with its keys

  pub plain_replies : (keep : KeepLimits) (place : ℕ) (d : DeskState) (r : R) (asks : Result Asked ℕ) (frame : List ℕ) (e : Ledger) (s : R) → RepliesFromLedger m place keep d.ledger r asks frame e s
      → DeskReplies m place keep d r (plain asks) frame (desk_with e d.keys) s
  unfolding DeskReplies
  plain_replies keep place d r (Ok asked) frame e s t = (t, refl)
  plain_replies keep place d r (Err code) frame e s t = (t.0, ap (λ (l : Ledger). desk_with l d.keys) t.1, t.2)

  by_new_key : (keep : KeepLimits) (place : ℕ) (d : DeskState) (r : R) (key : List ℕ) (asks : Result Asked ℕ) (frame : List ℕ) (e : Ledger) (s : R) → RepliesFromLedger m place keep d.ledger r asks frame e s
      → RepliesByKey m place keep None d r key asks frame (desk_with e (keys_behind d key e)) s
  by_new_key keep place d r key (Ok asked) frame e s t = (t, refl)
  by_new_key keep place d r key (Err code) frame e s t =
      let same : nat_lt (length d.ledger.jobs) (length e.jobs) ≡ false = (let l = ap (λ (x : Ledger). length x.jobs) t.1 in grind (arith, nat_tests, l)) in (
        t.0,
        ap (λ (l : Ledger). desk_with l (keys_behind d key e)) t.1 ∙ ap (λ (b : Bool). desk_with d.ledger (if b then noted d.keys (length e.jobs) key else d.keys)) same,
        t.2,
      )

  pub new_key_replies : (keep : KeepLimits) (place : ℕ) (d : DeskState) (r : R) (key : List ℕ) (asks : Result Asked ℕ) (frame : List ℕ) (e : Ledger) (s : R) → job_among d.keys key ≡ None
      → RepliesFromLedger m place keep d.ledger r asks frame e s → DeskReplies m place keep d r (keyed (Some key) asks) frame (desk_with e (keys_behind d key e)) s
  unfolding DeskReplies
  new_key_replies keep place d r key asks frame e s unknown t =
      subst (λ (known : Option ℕ). RepliesByKey m place keep known d r key asks frame (desk_with e (keys_behind d key e)) s) (sym unknown) (by_new_key keep place d r key asks frame e s t)

  -- the same of a desk that is this one, and of the keys that it has then
  pub new_key_answered : (keep : KeepLimits) (place : ℕ) (d x : DeskState) (r : R) (key : List ℕ) (asks : Result Asked ℕ) (reply : Result (List ℕ) NoMemory) (e : Ledger) (keys : List KeyedJob) (s : R)
      → d ≡ x → keys ≡ keys_behind d key e → job_among x.keys key ≡ None → IsReply reply (λ frame. RepliesFromLedger m place keep d.ledger r asks frame e s)
      → IsReply reply (λ frame. DeskReplies m place keep x r (keyed (Some key) asks) frame (desk_with e keys) s)
  new_key_answered keep place d x r key asks reply e keys s same behind unknown is =
      let here : job_among d.keys key ≡ None = ap (λ (y : DeskState). job_among y.keys key) same ∙ unknown in
      let at_d = is_reply_weaker reply _ (λ frame. DeskReplies m place keep d r (keyed (Some key) asks) frame (desk_with e (keys_behind d key e)) s) (λ frame t. new_key_replies keep place d r key asks frame e s here t) is in
      let kept = subst (λ (k : List KeyedJob). IsReply reply (λ frame. DeskReplies m place keep d r (keyed (Some key) asks) frame (desk_with e k) s)) (sym behind) at_d in
      subst (λ (y : DeskState). IsReply reply (λ frame. DeskReplies m place keep y r (keyed (Some key) asks) frame (desk_with e keys) s)) same kept

  pub known_replies : (keep : KeepLimits) (place : ℕ) (d : DeskState) (r : R) (key : List ℕ) (asks : Result Asked ℕ) (job : ℕ) → job_among d.keys key ≡ Some job
      → DeskReplies m place keep d r (keyed (Some key) asks) (submit_frame job) d r
  unfolding DeskReplies
  known_replies keep place d r key asks job known = subst (λ (k : Option ℕ). RepliesByKey m place keep k d r key asks (submit_frame job) d r) (sym known) (refl, refl, refl)

  pub no_key_replies : (keep : KeepLimits) (place : ℕ) (d : DeskState) (r : R) (asks : Result Asked ℕ) → DeskReplies m place keep d r (keyed None asks) (refusal_frame 73) d r
  unfolding DeskReplies
  no_key_replies keep place d r asks = (refl, refl, refl)

  pub listing_replies : (keep : KeepLimits) (place : ℕ) (d : DeskState) (r : R) (from : ℕ) → DeskReplies m place keep d r (jobs from) (jobs_frame d from) d r
  unfolding DeskReplies
  listing_replies keep place d r from = (refl, refl, refl)

-- ---- what is added

-- the keys behind a submit are those that its change has
unkeyed : (d e : Ledger) → keyed_taken None d e ≡ []
unkeyed d e = by (nat_lt (length d.jobs) (length e.jobs))
  where
    by : (b : Bool) → (if b then last_keyed None e else []) ≡ []
    by true = refl
    by false = refl

keys_noted : (d : DeskState) (key : List ℕ) (e : Ledger) → noted_each d.keys (keyed_taken (Some key) d.ledger e) ≡ keys_behind d key e
keys_noted d key e = by (nat_lt (length d.ledger.jobs) (length e.jobs))
  where
    by : (b : Bool) → noted_each d.keys (if b then last_keyed (Some key) e else []) ≡ (if b then noted d.keys (length e.jobs) key else d.keys)
    by true = refl
    by false = refl

module _ {C : Type 0} (g : Ghosts C) (place : ℕ) where
  records_desk : (p q : C) (d : DeskState) (e : Ledger) (ks keys : List KeyedJob) → noted_each d.keys ks ≡ keys → Records g place p q d.ledger e ks → RecordsAt g place p q d (desk_with e keys)
  records_desk p q d e ks keys is records = record {
    sound = records.sound;
    adds = λ on. let a = records.adds on in record {
      changes = a.changes;
      leads = subst (λ (l : List KeyedJob). Leads place d a.changes (desk_with e l)) is (a.leads d.keys);
      added = a.added;
    };
  }

  pub records_plainly : (p q : C) (d : DeskState) (e : Ledger) → Records g place p q d.ledger e (keyed_taken None d.ledger e) → RecordsAt g place p q d (desk_with e d.keys)
  records_plainly p q d e records = records_desk p q d e (keyed_taken None d.ledger e) d.keys (ap (noted_each d.keys) (unkeyed d.ledger e)) records

  pub records_by_key : (p q : C) (d : DeskState) (e : Ledger) (key : List ℕ) → Records g place p q d.ledger e (keyed_taken (Some key) d.ledger e) → RecordsAt g place p q d (desk_with e (keys_behind d key e))
  records_by_key p q d e key records = records_desk p q d e (keyed_taken (Some key) d.ledger e) (keys_behind d key e) (keys_noted d key e) records

  -- the same of a desk that is this one, and of the keys that it has then
  pub records_new_key : (p q : C) (d x : DeskState) (e : Ledger) (key : List ℕ) (keys : List KeyedJob) → d ≡ x → keys ≡ keys_behind d key e → Records g place p q d.ledger e (keyed_taken (Some key) d.ledger e)
      → RecordsAt g place p q x (desk_with e keys)
  records_new_key p q d x e key keys same behind records =
      subst (λ (y : DeskState). RecordsAt g place p q y (desk_with e keys)) same
      (subst (λ (k : List KeyedJob). RecordsAt g place p q d (desk_with e k)) (sym behind) (records_by_key p q d e key records))

  pub records_no_change : (p : C) (d : DeskState) → RecordsAt g place p p d d
  records_no_change p d = record {
    sound = λ on. on;
    adds = λ on. record { changes = []; leads = no_change; added = sym (append-nil (g.added p)) };
  }

-- where a desk took a job, and where it did not
pub keys_if : (d : DeskState) (key : List ℕ) (e : Ledger) → length d.ledger.jobs < length e.jobs → keys_behind d key e ≡ noted d.keys (length e.jobs) key
keys_if d key e more =
    let yes : nat_lt (length d.ledger.jobs) (length e.jobs) ≡ true = grind (arith, nat_tests, more) in
    ap (λ (b : Bool). if b then noted d.keys (length e.jobs) key else d.keys) yes

pub keys_else : (d : DeskState) (key : List ℕ) (e : Ledger) → (length d.ledger.jobs < length e.jobs → ⊥) → keys_behind d key e ≡ d.keys
keys_else d key e none =
    let no : nat_lt (length d.ledger.jobs) (length e.jobs) ≡ false = grind (arith, nat_tests, none) in
    ap (λ (b : Bool). if b then noted d.keys (length e.jobs) key else d.keys) no
