-- A job that is over stays as it is, until it is forgotten.
use Rattle.std.proofs.Common.{◌≡◌, ◌≢◌, ◌⊎◌, ◌-◌, ◌<◌, ◌≤◌, ℕ, Bool, zero, suc, true, false, true≢false, nat_eq, if◌then◌else◌, List, [], ◌∷◌, ◌++◌, length, slice_get, Option, Some, None, Result, Ok, Err, refl, sym, ap, subst, ◌∙◌, inl, inr, arith}
use Rattle.std.proofs.lemmas.Bool.{cases_eq, cases_lt}
use Rattle.std.proofs.lemmas.Bool.Decides.{nat_tests}
use Rattle.serde_json.specs.Data.{Data}
use Rattle.credit_book.specs.declared.book.Report.{Report}
use Rattle.credit_book.specs.declared.board.Progress.{Progress}
use Rattle.job_core.specs.declared.admission.ProgramBytes.{ProgramBytes}
use Rattle.accounts.specs.declared.keep_limits.KeepLimits.{KeepLimits}
use Rattle.accounts.specs.declared.jobs.JobEntry.{JobEntry}
use Rattle.accounts.specs.declared.jobs.JobStanding.{JobStanding}
use Rattle.accounts.specs.declared.jobs.JobStanding.TheVariants.{Open, Reported, Failed}
use Rattle.job_core.specs.Admitted.{AdmittedJob}
use Rattle.accounts.specs.Jobs.{job_at, is_open, report_of, settled}
use Rattle.accounts.specs.Ledgers.{Ledger, Finishes, report_at, report_in, KeepsWithin}
use Rattle.accounts.specs.Forgetting.{ForgetsJobs}
use Rattle.sessions.specs.Grammar.{Asked, grant, account, submit, status, result}
use Rattle.sessions.specs.JobKeys.{job_among}
use Rattle.sessions.specs.Replies.{reply_data}
use Rattle.streams.specs.Passing.{Notes}
use Rattle.streams.specs.Answering as plainly
use Rattle.streams.specs.Answering.{Grants, GrantsNone, Settles, Submits, report_told, refused}
use Rattle.server_state.specs.Answering.{NotesEnd}
use Rattle.server_state.specs.Desks.{DeskReplies, RepliesByKey, RepliesOrRefuses, RepliesPlainly, looks_at, starts_at}
use Rattle.server_state.specs.Queries.{Query, plain, keyed, jobs, counts}
use Rattle.server_state.specs.States.{DeskState, JobsSteps}
use Rattle.server_state.proofs.ListEnds.{get_before}
use Rattle.server_state.proofs.ListLemmas.{set_apart}

pub job_is : (entries : List JobEntry) (number : ℕ) → 1 ≤ number → job_at entries number ≡ slice_get entries (number - 1)
job_is entries number some =
    let apart : nat_eq number 0 ≡ false = grind (arith, nat_tests) in
    ap (λ (b : Bool). if◌then◌else◌ {A = Option JobEntry} b None (slice_get entries (number - 1))) apart

pub job_there : (entries : List JobEntry) (number : ℕ) (entry : JobEntry) → job_at entries number ≡ Some entry → (1 ≤ number) × (slice_get entries (number - 1) ≡ Some entry)
job_there entries zero entry at = cc
job_there entries (suc n) entry at = (omega arith, sym (job_is entries (suc n) (omega arith)) ∙ at)

-- each job that is over stays as it is, or is forgotten
abbrev pub StayOver : List JobEntry → List JobEntry → Type 0
StayOver old new = (i : ℕ) (entry : JobEntry) → slice_get old i ≡ Some entry → is_open entry.standing ≡ false
    → (x : JobEntry) × (slice_get new i ≡ Some x) × ((x.standing ≡ entry.standing) ⊎ (x.standing ≡ Failed 76))

pub stay_same : (old new : List JobEntry) → new ≡ old → StayOver old new
stay_same old new same i entry at over = (entry, ap (λ es. slice_get es i) same ∙ at, inl refl)

pub stay_on : (a b c : List JobEntry) → StayOver a b → StayOver b c → StayOver a c
stay_on a b c first second i entry at over = by_first (first i entry at over)
  where
    onward : (x : JobEntry) → (y : JobEntry) × (slice_get c i ≡ Some y) × ((y.standing ≡ x.standing) ⊎ (y.standing ≡ Failed 76)) → (x.standing ≡ entry.standing) ⊎ (x.standing ≡ Failed 76)
        → (y : JobEntry) × (slice_get c i ≡ Some y) × ((y.standing ≡ entry.standing) ⊎ (y.standing ≡ Failed 76))
    onward x (y, there, inr gone) was = (y, there, inr gone)
    onward x (y, there, inl same) (inl was) = (y, there, inl (same ∙ was))
    onward x (y, there, inl same) (inr gone) = (y, there, inr (same ∙ gone))

    over_then : (x : JobEntry) → (x.standing ≡ entry.standing) ⊎ (x.standing ≡ Failed 76) → is_open x.standing ≡ false
    over_then x (inl same) = ap is_open same ∙ over
    over_then x (inr gone) = ap is_open gone

    by_first : (x : JobEntry) × (slice_get b i ≡ Some x) × ((x.standing ≡ entry.standing) ⊎ (x.standing ≡ Failed 76)) → (y : JobEntry) × (slice_get c i ≡ Some y) × ((y.standing ≡ entry.standing) ⊎ (y.standing ≡ Failed 76))
    by_first t = onward t.0 (second i t.0 t.1 (over_then t.0 t.2)) t.2

stay_pushed : (old : List JobEntry) (entry : JobEntry) → StayOver old (old ++ entry ∷ [])
stay_pushed old entry i x at over = (x, get_before old (entry ∷ []) i x at, inl refl)

-- an open job ends
stay_finished : (old : Ledger) (number : ℕ) (outcome : Result Report ℕ) (new : Ledger) → Finishes old number outcome new → StayOver old.jobs new.jobs
stay_finished old number outcome new f i entry at over = by_place (cases_eq i (number - 1))
  where
    by_place : (i ≡ number - 1) ⊎ (i ≢ number - 1) → (x : JobEntry) × (slice_get new.jobs i ≡ Some x) × ((x.standing ≡ entry.standing) ⊎ (x.standing ≡ Failed 76))
    by_place (inl same) =
        let there : Some entry ≡ Some f.entry = sym at ∙ ap (slice_get old.jobs) same ∙ (job_there old.jobs number f.entry f.was).1 in
        let is : entry ≡ f.entry = cc in
        let clash : false ≡ true = sym over ∙ ap (λ (e : JobEntry). is_open e.standing) is ∙ ap is_open f.opened in
        absurd (true≢false (sym clash))
    by_place (inr apart) =
        (entry, ap (λ es. slice_get es i) f.jobs.jobs ∙ set_apart old.jobs (number - 1) i (record f.entry { standing = settled f.entry.credit outcome }) apart ∙ at, inl refl)

stay_noted : (old : Ledger) (number : ℕ) (outcome : Result Report ℕ) (new : Ledger) → Notes old number outcome new → StayOver old.jobs new.jobs
stay_noted old number outcome new (inl f) = stay_finished old number outcome new f
stay_noted old number outcome new (inr t) = stay_same old.jobs new.jobs (ap (λ (l : Ledger). l.jobs) t.1)

-- jobs are forgotten
stay_forgotten : (old : List JobEntry) (ahead : ℕ) (new : List JobEntry) → ForgetsJobs old ahead new → StayOver old new
stay_forgotten old ahead new f i entry at over = by_place (cases_lt i ahead)
  where
    by_place : (i < ahead) ⊎ (ahead ≤ i) → (x : JobEntry) × (slice_get new i ≡ Some x) × ((x.standing ≡ entry.standing) ⊎ (x.standing ≡ Failed 76))
    by_place (inl less) = let gone = f.gone i entry less at over in (gone.0, gone.1, inr gone.2.standing)
    by_place (inr behind) = (entry, f.same i entry at (inl behind), inl refl)

stay_kept : (keep : KeepLimits) (old new : Ledger) → KeepsWithin keep old new → StayOver old.jobs new.jobs
stay_kept keep old new keeps = stay_forgotten old.jobs keeps.0 new.jobs keeps.1.forgets.jobs

-- ---- a request

module _ {R : Type 0} (starts : R → ℕ → AdmittedJob → Result (Unit {0}) ℕ → R → Type 0) (looks : R → ℕ → Progress → R → Type 0) where
  stay_settled : (d : Ledger) (number : ℕ) (o : Result (Unit {0}) ℕ) (a : Ledger) → Settles d number o a → StayOver d.jobs a.jobs
  stay_settled d number (Ok done) a settles = stay_same d.jobs a.jobs (ap (λ (l : Ledger). l.jobs) settles)
  stay_settled d number (Err code) a settles = stay_finished d number (Err code) a settles

  stay_submitted : (d : Ledger) (r : R) (name : List ℕ) (programs : List ProgramBytes) (credit : ℕ) (buffer : List ℕ) (told : Data) (a : Ledger) (s : R) → Submits starts d r name programs credit buffer told a s → StayOver d.jobs a.jobs
  stay_submitted d r name programs credit buffer told a s (inl t) =
      stay_on d.jobs t.mid.jobs a.jobs (subst (StayOver d.jobs) (sym t.takes.jobs.jobs) (stay_pushed d.jobs t.takes.entry)) (stay_settled t.mid (length t.mid.jobs) t.outcome a t.settles)
  stay_submitted d r name programs credit buffer told a s (inr n) = stay_same d.jobs a.jobs (ap (λ (l : Ledger). l.jobs) n.same)

  stay_replied : (d : Ledger) (r : R) (query : Result Asked ℕ) (told : Data) (a : Ledger) (s : R) → plainly.Replies starts looks d r query told a s → StayOver d.jobs a.jobs
  unfolding plainly.Replies
  stay_replied d r (Err code) told a s t = stay_same d.jobs a.jobs (ap (λ (l : Ledger). l.jobs) t.1)
  stay_replied d r (Ok (grant name amount)) told a s t = granted t.0
    where
      granted : Grants d name amount told a ⊎ GrantsNone d name amount told a → StayOver d.jobs a.jobs
      granted (inl g) = stay_same d.jobs a.jobs g.more.jobs
      granted (inr g) = stay_same d.jobs a.jobs (ap (λ (l : Ledger). l.jobs) g.same)
  stay_replied d r (Ok (account name)) told a s t = stay_same d.jobs a.jobs (ap (λ (l : Ledger). l.jobs) t.1)
  stay_replied d r (Ok (submit name order)) told a s t = stay_submitted d r name t.0 order.credit order.buffer told a s t.2
  stay_replied d r (Ok (status number)) told a s t = stay_same d.jobs a.jobs (ap (λ (l : Ledger). l.jobs) t.3)
  stay_replied d r (Ok (result number)) told a s t = stay_same d.jobs a.jobs (ap (λ (l : Ledger). l.jobs) t.1)

  -- a request for a result is told what the desk has of it
  pub reported_there : (d : Ledger) (r : R) (number : ℕ) (told : Data) (m : Ledger) (s : R) (query : Result Asked ℕ) → query ≡ Ok (result number) → plainly.Replies starts looks d r query told m s → told ≡ report_told (report_at d number)
  unfolding plainly.Replies
  reported_there d r number told m s query is replies = (subst (λ (q : Result Asked ℕ). plainly.Replies starts looks d r q told m s) is replies).0

-- ---- a desk

module _ {R : Type 0} (m : JobsSteps R) (place : ℕ) (keep : KeepLimits) where
  stay_plainly : (d : Ledger) (r : R) (asked : Asked) (frame : List ℕ) (e : Ledger) (s : R) → RepliesPlainly m place keep d r asked frame e s → StayOver d.jobs e.jobs
  stay_plainly d r asked frame e s t =
      stay_on d.jobs t.mid.jobs e.jobs (stay_replied (starts_at m place) (looks_at m place) d r (Ok asked) (reply_data t.told) t.mid s t.replies) (stay_kept keep t.mid e t.keeps)

  stay_unchanged : (d e : DeskState) → e ≡ d → StayOver d.ledger.jobs e.ledger.jobs
  stay_unchanged d e same = stay_same d.ledger.jobs e.ledger.jobs (ap (λ (x : DeskState). x.ledger.jobs) same)

  stay_requested : (d : DeskState) (r : R) (asked : Result Asked ℕ) (frame : List ℕ) (e : DeskState) (s : R) → RepliesOrRefuses m place keep d r asked frame e s → StayOver d.ledger.jobs e.ledger.jobs
  stay_requested d r (Ok asked) frame e s t = stay_plainly d.ledger r asked frame e.ledger s t.0
  stay_requested d r (Err code) frame e s t = stay_unchanged d e t.1

  stay_keyed : (known : Option ℕ) (d : DeskState) (r : R) (key : List ℕ) (asked : Result Asked ℕ) (frame : List ℕ) (e : DeskState) (s : R) → RepliesByKey m place keep known d r key asked frame e s → StayOver d.ledger.jobs e.ledger.jobs
  stay_keyed (Some job) d r key asked frame e s t = stay_unchanged d e t.1
  stay_keyed None d r key (Err code) frame e s t = stay_unchanged d e t.1
  stay_keyed None d r key (Ok asked) frame e s t = stay_plainly d.ledger r asked frame e.ledger s t.0

  pub stay_answered : (d : DeskState) (r : R) (query : Query) (frame : List ℕ) (e : DeskState) (s : R) → DeskReplies m place keep d r query frame e s → StayOver d.ledger.jobs e.ledger.jobs
  unfolding DeskReplies
  stay_answered d r (plain asked) frame e s t = stay_requested d r asked frame e s t
  stay_answered d r (keyed None asked) frame e s t = stay_unchanged d e t.1
  stay_answered d r (keyed (Some key) asked) frame e s t = stay_keyed (job_among d.keys key) d r key asked frame e s t
  stay_answered d r (jobs from) frame e s t = stay_unchanged d e t.1
  stay_answered d r (counts stops) frame e s t = absurd t

pub stay_ended : (number : ℕ) (outcome : Result Report ℕ) (d e : DeskState) → NotesEnd number outcome d e → StayOver d.ledger.jobs e.ledger.jobs
stay_ended number outcome d e n = stay_noted d.ledger number outcome e.ledger n.notes

-- ---- its result

-- a result stays as it was told, unless the job wasn't over
abbrev Stays : Option JobEntry → Option JobEntry → Type 0
Stays old new = (report_told (report_in old) ≡ refused 76) ⊎ (report_told (report_in old) ≡ refused 77)
    ⊎ (report_told (report_in new) ≡ report_told (report_in old)) ⊎ (report_told (report_in new) ≡ refused 76)

by_standing : (entry : JobEntry) (new : Option JobEntry) (standing : JobStanding) → entry.standing ≡ standing
    → (is_open standing ≡ false → (x : JobEntry) × (new ≡ Some x) × ((x.standing ≡ standing) ⊎ (x.standing ≡ Failed 76))) → Stays (Some entry) new
by_standing entry new standing is stays = by_form standing is stays
  where
    by_stay : (st : JobStanding) → entry.standing ≡ st → (x : JobEntry) × (new ≡ Some x) × ((x.standing ≡ st) ⊎ (x.standing ≡ Failed 76)) → Stays (Some entry) new
    by_stay st is (x, there, inl same) = inr (inr (inl (ap (λ o. report_told (report_in o)) there ∙ ap (λ s. report_told (report_of s)) (same ∙ sym is))))
    by_stay st is (x, there, inr gone) = inr (inr (inr (ap (λ o. report_told (report_in o)) there ∙ ap (λ s. report_told (report_of s)) gone)))

    by_form : (st : JobStanding) → entry.standing ≡ st → (is_open st ≡ false → (x : JobEntry) × (new ≡ Some x) × ((x.standing ≡ st) ⊎ (x.standing ≡ Failed 76))) → Stays (Some entry) new
    by_form Open is stays = inr (inl (ap (λ s. report_told (report_of s)) is))
    by_form (Failed code) is stays = by_stay (Failed code) is (stays refl)
    by_form (Reported report) is stays = by_stay (Reported report) is (stays refl)

by_entry : (i : ℕ) (old new : List JobEntry) → StayOver old new → (o : Option JobEntry) → slice_get old i ≡ o → Stays o (slice_get new i)
by_entry i old new stays None at = inl refl
by_entry i old new stays (Some entry) at = by_standing entry (slice_get new i) entry.standing refl (λ over. stays i entry at over)

-- the same of two desks
abbrev pub StaysAt : Ledger → Ledger → ℕ → Type 0
StaysAt d e number = (report_told (report_at d number) ≡ refused 76) ⊎ (report_told (report_at d number) ≡ refused 77)
    ⊎ (report_told (report_at e number) ≡ report_told (report_at d number)) ⊎ (report_told (report_at e number) ≡ refused 76)

pub result_stays : (d e : Ledger) (number : ℕ) → StayOver d.jobs e.jobs → StaysAt d e number
unfolding report_at
result_stays d e zero stays = inl refl
result_stays d e (suc n) stays =
    let old : job_at d.jobs (suc n) ≡ slice_get d.jobs (suc n - 1) = job_is d.jobs (suc n) (omega arith) in
    let new : job_at e.jobs (suc n) ≡ slice_get e.jobs (suc n - 1) = job_is e.jobs (suc n) (omega arith) in
    subst (λ (p : Option JobEntry × Option JobEntry). Stays p.0 p.1) (λ k. (sym old k, sym new k))
    (by_entry (suc n - 1) d.jobs e.jobs stays (slice_get d.jobs (suc n - 1)) refl)
