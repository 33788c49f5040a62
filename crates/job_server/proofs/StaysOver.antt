-- A job that is over stays as it is, until it is forgotten.
use Rattle.std.proofs.Common.{◌≡◌, ◌≢◌, ◌⊎◌, ◌-◌, ◌<◌, ◌≤◌, ℕ, zero, suc, true, false, true≢false, List, [], ◌∷◌, ◌++◌, length, slice_get, Option, Some, None, Result, Ok, Err, refl, sym, ap, subst, ◌∙◌, inl, inr, arith}
use Rattle.std.proofs.lemmas.Bool.{cases_eq, cases_lt}
use Rattle.serde_json.specs.Data.{Data}
use Rattle.credit_book.specs.declared.book.Report.{Report}
use Rattle.credit_book.specs.declared.board.Progress.{Progress}
use Rattle.job_core.specs.declared.admission.ProgramBytes.{ProgramBytes}
use Rattle.accounts.specs.declared.keep_limits.KeepLimits.{KeepLimits}
use Rattle.accounts.specs.declared.jobs.JobEntry.{JobEntry}
use Rattle.accounts.specs.declared.jobs.JobStanding.{JobStanding}
use Rattle.accounts.specs.declared.jobs.JobStanding.TheVariants.{Open, Reported, Failed}
use Rattle.job_core.specs.Admitted.{AdmittedJob}
use Rattle.accounts.specs.Jobs.{job_at, is_open, report_of, settled}
use Rattle.accounts.specs.Ledgers.{Ledger, Finishes, report_at, report_in, KeepsWithin}
use Rattle.accounts.specs.Forgetting.{ForgetsJobs}
use Rattle.accounts.proofs.Listed.{get_set_apart}
use Rattle.sessions.specs.Grammar.{Asked, grant, account, submit, status, result}
use Rattle.streams.specs.Passing.{Taken, none_yet as none_taken, one_more as one_taken, Notes}
use Rattle.streams.specs.Answering.{Replies, Grants, GrantsNone, Settles, Submits, report_told, refused}
use Rattle.sessions.specs.Replies.{reply_data, frame_or_refusal}
use Rattle.shared_desk.specs.Histories.{HistoryEntry, Query, Replays, none_yet as nothing_replayed, one_more as one_replayed}
use Rattle.job_server.specs.EndToEnd.{StaysTold, HasReply}
use Rattle.job_server.proofs.HostAnswers.{AnswersOnce, IsHost}
use Rattle.job_server.proofs.ListEnds.{get_before, last_same, last_of, none_pushed, joined_again}
use Rattle.job_server.proofs.StandsFor.{job_is, job_there}
use Rattle.job_server.proofs.ReplyFrames.{is_framed}

-- each job that is over stays as it is, or is forgotten
abbrev pub StayOver : List JobEntry → List JobEntry → Type 0
StayOver old new = (i : ℕ) (entry : JobEntry) → slice_get old i ≡ Some entry → is_open entry.standing ≡ false
    → (x : JobEntry) × (slice_get new i ≡ Some x) × ((x.standing ≡ entry.standing) ⊎ (x.standing ≡ Failed 76))

stay_same : (old new : List JobEntry) → new ≡ old → StayOver old new
stay_same old new same i entry at over = (entry, ap (λ es. slice_get es i) same ∙ at, inl refl)

stay_on : (a b c : List JobEntry) → StayOver a b → StayOver b c → StayOver a c
stay_on a b c first second i entry at over = by_first (first i entry at over)
  where
    then : (x : JobEntry) → (y : JobEntry) × (slice_get c i ≡ Some y) × ((y.standing ≡ x.standing) ⊎ (y.standing ≡ Failed 76)) → (x.standing ≡ entry.standing) ⊎ (x.standing ≡ Failed 76)
        → (y : JobEntry) × (slice_get c i ≡ Some y) × ((y.standing ≡ entry.standing) ⊎ (y.standing ≡ Failed 76))
    then x (y, there, inr gone) was = (y, there, inr gone)
    then x (y, there, inl same) (inl was) = (y, there, inl (same ∙ was))
    then x (y, there, inl same) (inr gone) = (y, there, inr (same ∙ gone))

    over_then : (x : JobEntry) → (x.standing ≡ entry.standing) ⊎ (x.standing ≡ Failed 76) → is_open x.standing ≡ false
    over_then x (inl same) = ap is_open same ∙ over
    over_then x (inr gone) = ap is_open gone

    by_first : (x : JobEntry) × (slice_get b i ≡ Some x) × ((x.standing ≡ entry.standing) ⊎ (x.standing ≡ Failed 76)) → (y : JobEntry) × (slice_get c i ≡ Some y) × ((y.standing ≡ entry.standing) ⊎ (y.standing ≡ Failed 76))
    by_first t = then t.0 (second i t.0 t.1 (over_then t.0 t.2)) t.2

stay_pushed : (old : List JobEntry) (entry : JobEntry) → StayOver old (old ++ entry ∷ [])
stay_pushed old entry i x at over = (x, get_before old (entry ∷ []) i x at, inl refl)

-- an open job ends
stay_finished : (old : Ledger) (number : ℕ) (outcome : Result Report ℕ) (new : Ledger) → Finishes old number outcome new → StayOver old.jobs new.jobs
stay_finished old number outcome new f i entry at over = by_place (cases_eq i (number - 1))
  where
    by_place : (i ≡ number - 1) ⊎ (i ≢ number - 1) → (x : JobEntry) × (slice_get new.jobs i ≡ Some x) × ((x.standing ≡ entry.standing) ⊎ (x.standing ≡ Failed 76))
    by_place (inl same) =
        let there : Some entry ≡ Some f.entry = sym at ∙ ap (slice_get old.jobs) same ∙ (job_there old.jobs number f.entry f.was).1 in
        let is : entry ≡ f.entry = cc in
        let clash : false ≡ true = sym over ∙ ap (λ (e : JobEntry). is_open e.standing) is ∙ ap is_open f.opened in
        absurd (true≢false (sym clash))
    by_place (inr apart) =
        (entry, ap (λ es. slice_get es i) f.jobs.jobs ∙ get_set_apart old.jobs (number - 1) i (record f.entry { standing = settled f.entry.credit outcome }) apart ∙ at, inl refl)

stay_noted : (old : Ledger) (number : ℕ) (outcome : Result Report ℕ) (new : Ledger) → Notes old number outcome new → StayOver old.jobs new.jobs
stay_noted old number outcome new (inl f) = stay_finished old number outcome new f
stay_noted old number outcome new (inr t) = stay_same old.jobs new.jobs (ap (λ (l : Ledger). l.jobs) t.1)

-- jobs are forgotten
stay_forgotten : (old : List JobEntry) (ahead : ℕ) (new : List JobEntry) → ForgetsJobs old ahead new → StayOver old new
stay_forgotten old ahead new f i entry at over = by_place (cases_lt i ahead)
  where
    by_place : (i < ahead) ⊎ (ahead ≤ i) → (x : JobEntry) × (slice_get new i ≡ Some x) × ((x.standing ≡ entry.standing) ⊎ (x.standing ≡ Failed 76))
    by_place (inl less) = let gone = f.gone i entry less at over in (gone.0, gone.1, inr gone.2.standing)
    by_place (inr behind) = (entry, f.same i entry at (inl behind), inl refl)

stay_kept : (keep : KeepLimits) (old new : Ledger) → KeepsWithin keep old new → StayOver old.jobs new.jobs
stay_kept keep old new keeps = stay_forgotten old.jobs keeps.0 new.jobs keeps.1.forgets.jobs

kept_or_same : (keep : KeepLimits) (old new : Ledger) → KeepsWithin keep old new ⊎ (new ≡ old) → StayOver old.jobs new.jobs
kept_or_same keep old new (inl keeps) = stay_kept keep old new keeps
kept_or_same keep old new (inr same) = stay_same old.jobs new.jobs (ap (λ (l : Ledger). l.jobs) same)

-- ---- a desk and a runner

module _ {R : Type 0} (starts : R → ℕ → AdmittedJob → Result (Unit {0}) ℕ → R → Type 0) (looks : R → ℕ → Progress → R → Type 0) (takes : R → Option (ℕ × Result Report ℕ) → R → Type 0) where
  stay_taken : (d : Ledger) (r : R) (e : Ledger) (s : R) → Taken takes d r e s → StayOver d.jobs e.jobs
  stay_taken d r e s none_taken = stay_same d.jobs d.jobs refl
  stay_taken d r e s (one_taken d1 r1 number outcome s1 e1 before step notes) = stay_on d.jobs d1.jobs e1.jobs (stay_taken d r d1 r1 before) (stay_noted d1 number outcome e1 notes)

  stay_settled : (d : Ledger) (number : ℕ) (o : Result (Unit {0}) ℕ) (a : Ledger) → Settles d number o a → StayOver d.jobs a.jobs
  stay_settled d number (Ok done) a settles = stay_same d.jobs a.jobs (ap (λ (l : Ledger). l.jobs) settles)
  stay_settled d number (Err code) a settles = stay_finished d number (Err code) a settles

  stay_submitted : (d : Ledger) (r : R) (name : List ℕ) (programs : List ProgramBytes) (credit : ℕ) (buffer : List ℕ) (told : Data) (a : Ledger) (s : R) → Submits starts d r name programs credit buffer told a s → StayOver d.jobs a.jobs
  stay_submitted d r name programs credit buffer told a s (inl t) =
      stay_on d.jobs t.mid.jobs a.jobs (subst (StayOver d.jobs) (sym t.takes.jobs.jobs) (stay_pushed d.jobs t.takes.entry)) (stay_settled t.mid (length t.mid.jobs) t.outcome a t.settles)
  stay_submitted d r name programs credit buffer told a s (inr n) = stay_same d.jobs a.jobs (ap (λ (l : Ledger). l.jobs) n.same)

  stay_replied : (d : Ledger) (r : R) (query : Result Asked ℕ) (told : Data) (a : Ledger) (s : R) → Replies starts looks d r query told a s → StayOver d.jobs a.jobs
  unfolding Replies
  stay_replied d r (Err code) told a s t = stay_same d.jobs a.jobs (ap (λ (l : Ledger). l.jobs) t.1)
  stay_replied d r (Ok (grant name amount)) told a s t = granted t.0
    where
      granted : Grants d name amount told a ⊎ GrantsNone d name amount told a → StayOver d.jobs a.jobs
      granted (inl g) = stay_same d.jobs a.jobs g.more.jobs
      granted (inr g) = stay_same d.jobs a.jobs (ap (λ (l : Ledger). l.jobs) g.same)
  stay_replied d r (Ok (account name)) told a s t = stay_same d.jobs a.jobs (ap (λ (l : Ledger). l.jobs) t.1)
  stay_replied d r (Ok (submit name order)) told a s t = stay_submitted d r name t.0 order.credit order.buffer told a s t.2
  stay_replied d r (Ok (status number)) told a s t = stay_same d.jobs a.jobs (ap (λ (l : Ledger). l.jobs) t.3)
  stay_replied d r (Ok (result number)) told a s t = stay_same d.jobs a.jobs (ap (λ (l : Ledger). l.jobs) t.1)

  stay_answered : (keep : KeepLimits) (d : Ledger) (r : R) (e : HistoryEntry) (a : Ledger) (s : R) → AnswersOnce starts looks takes keep d r e a s → StayOver d.jobs a.jobs
  stay_answered keep d r e a s once =
      let b = once.answered in
      stay_on d.jobs b.mid.jobs a.jobs (stay_taken d r b.mid b.passed.last b.passed.taken)
      (stay_on b.mid.jobs once.mid.jobs a.jobs (stay_replied b.mid b.rest e.query.asked (reply_data b.told) once.mid s b.replies) (kept_or_same keep once.mid a once.kept))

  -- a request for a result is told what the desk has of it
  pub reported_there : (d : Ledger) (r : R) (number : ℕ) (told : Data) (m : Ledger) (s : R) (query : Result Asked ℕ) → query ≡ Ok (result number) → Replies starts looks d r query told m s → told ≡ report_told (report_at d number)
  unfolding Replies
  reported_there d r number told m s query is replies = (subst (λ (q : Result Asked ℕ). Replies starts looks d r q told m s) is replies).0

-- ---- its result

-- a result stays as it was told, unless the job wasn't over
abbrev Stays : Option JobEntry → Option JobEntry → Type 0
Stays old new = (report_told (report_in old) ≡ refused 76) ⊎ (report_told (report_in old) ≡ refused 77)
    ⊎ (report_told (report_in new) ≡ report_told (report_in old)) ⊎ (report_told (report_in new) ≡ refused 76)

by_standing : (entry : JobEntry) (new : Option JobEntry) (standing : JobStanding) → entry.standing ≡ standing
    → (is_open standing ≡ false → (x : JobEntry) × (new ≡ Some x) × ((x.standing ≡ standing) ⊎ (x.standing ≡ Failed 76))) → Stays (Some entry) new
by_standing entry new standing is stays = by_form standing is stays
  where
    by_stay : (st : JobStanding) → entry.standing ≡ st → (x : JobEntry) × (new ≡ Some x) × ((x.standing ≡ st) ⊎ (x.standing ≡ Failed 76)) → Stays (Some entry) new
    by_stay st is (x, there, inl same) = inr (inr (inl (ap (λ o. report_told (report_in o)) there ∙ ap (λ s. report_told (report_of s)) (same ∙ sym is))))
    by_stay st is (x, there, inr gone) = inr (inr (inr (ap (λ o. report_told (report_in o)) there ∙ ap (λ s. report_told (report_of s)) gone)))

    by_form : (st : JobStanding) → entry.standing ≡ st → (is_open st ≡ false → (x : JobEntry) × (new ≡ Some x) × ((x.standing ≡ st) ⊎ (x.standing ≡ Failed 76))) → Stays (Some entry) new
    by_form Open is stays = inr (inl (ap (λ s. report_told (report_of s)) is))
    by_form (Failed code) is stays = by_stay (Failed code) is (stays refl)
    by_form (Reported report) is stays = by_stay (Reported report) is (stays refl)

by_entry : (i : ℕ) (old new : List JobEntry) → StayOver old new → (o : Option JobEntry) → slice_get old i ≡ o → Stays o (slice_get new i)
by_entry i old new stays None at = inl refl
by_entry i old new stays (Some entry) at = by_standing entry (slice_get new i) entry.standing refl (λ over. stays i entry at over)

-- the same of two desks
abbrev StaysAt : Ledger → Ledger → ℕ → Type 0
StaysAt d e number = (report_told (report_at d number) ≡ refused 76) ⊎ (report_told (report_at d number) ≡ refused 77)
    ⊎ (report_told (report_at e number) ≡ report_told (report_at d number)) ⊎ (report_told (report_at e number) ≡ refused 76)

result_stays : (d e : Ledger) (number : ℕ) → StayOver d.jobs e.jobs → StaysAt d e number
unfolding report_at
result_stays d e zero stays = inl refl
result_stays d e (suc n) stays =
    let old : job_at d.jobs (suc n) ≡ slice_get d.jobs (suc n - 1) = job_is d.jobs (suc n) (omega arith) in
    let new : job_at e.jobs (suc n) ≡ slice_get e.jobs (suc n - 1) = job_is e.jobs (suc n) (omega arith) in
    subst (λ (p : Option JobEntry × Option JobEntry). Stays p.0 p.1) (λ k. (sym old k, sym new k))
    (by_entry (suc n - 1) d.jobs e.jobs stays (slice_get d.jobs (suc n - 1)) refl)

-- ---- from one entry of a history to a later one

module _ {R S : Type 0} (starts : R → ℕ → AdmittedJob → Result (Unit {0}) ℕ → R → Type 0) (looks : R → ℕ → Progress → R → Type 0) (takes : R → Option (ℕ × Result Report ℕ) → R → Type 0)
    (answers : S → Query → List ℕ → S → Type 0) (desk : S → Ledger) (runner : S → R) (keeping : S → KeepLimits) (host : IsHost starts looks takes answers desk runner keeping) (begins : S → Type 0) where
  -- the states about an entry, and what stays from there to the end
  pub record IsAt (before : List HistoryEntry) (e : HistoryEntry) (end : S) : Type 0 where
    pub old : S
    pub new : S
    pub legal : Replays answers begins before old
    pub answered : answers old e.query e.reply new
    pub stays : StayOver (desk new).jobs (desk end).jobs

  pub is_at : (before after : List HistoryEntry) (e : HistoryEntry) (history : List HistoryEntry) (end : S) → Replays answers begins history end → history ≡ before ++ e ∷ after → IsAt before e end
  is_at before after e history end (nothing_replayed s first) is = absurd (none_pushed before after e is)
  is_at before [] e history end (one_replayed h s x t legal answered) is =
      let same = last_same h before x e is in
      record {
        old = s;
        new = t;
        legal = subst (λ l. Replays answers begins l s) same.0 legal;
        answered = subst (λ (y : HistoryEntry). answers s y.query y.reply t) same.1 answered;
        stays = stay_same (desk t).jobs (desk t).jobs refl;
      }
  is_at before (a ∷ after) e history end (one_replayed h s x t legal answered) is =
      let parted = last_of a after in
      let same = last_same h (before ++ e ∷ parted.0) x parted.1 (is ∙ ap (λ l. before ++ e ∷ l) parted.2 ∙ sym (joined_again before e parted.0 (parted.1 ∷ []))) in
      let early = is_at before parted.0 e h s legal same.0 in
      record {
        old = early.old;
        new = early.new;
        legal = early.legal;
        answered = early.answered;
        stays = stay_on (desk early.new).jobs (desk s).jobs (desk t).jobs early.stays (stay_answered starts looks takes (keeping s) (desk s) (runner s) x (desk t) (runner t) (host.once s x t answered).1);
      }

  -- the desk by which a result is told
  record IsToldBy (number : ℕ) (old : Ledger) (e : HistoryEntry) (new : Ledger) : Type 0 where
    telling : Ledger
    before : StayOver old.jobs telling.jobs
    after : StayOver telling.jobs new.jobs
    tells : HasReply e (report_told (report_at telling number))

  told_by : (number : ℕ) (keep : KeepLimits) (d : Ledger) (r : R) (e : HistoryEntry) (a : Ledger) (s : R) → AnswersOnce starts looks takes keep d r e a s → e.query.asked ≡ Ok (result number) → IsToldBy number d e a
  told_by number keep d r e a s once asks =
      let b = once.answered in
      let is = reported_there starts looks takes b.mid b.rest number (reply_data b.told) once.mid s e.query.asked asks b.replies in
      record {
        telling = b.mid;
        before = stay_taken starts looks takes d r b.mid b.passed.last b.passed.taken;
        after = stay_on b.mid.jobs once.mid.jobs a.jobs (stay_replied starts looks takes b.mid b.rest e.query.asked (reply_data b.told) once.mid s b.replies) (kept_or_same keep once.mid a once.kept);
        tells = b.frame ∙ is_framed b.told ∙ ap frame_or_refusal is;
      }

  pub results_stay : (before between after : List HistoryEntry) (e f : HistoryEntry) (number : ℕ) (end : S) → Replays answers begins (before ++ e ∷ (between ++ f ∷ after)) end
      → e.query.asked ≡ Ok (result number) → f.query.asked ≡ Ok (result number) → StaysTold e f
  results_stay before between after e f number end legal asks_e asks_f =
      let at_f = is_at (before ++ e ∷ between) after f (before ++ e ∷ (between ++ f ∷ after)) end legal (sym (joined_again before e between (f ∷ after))) in
      let at_e = is_at before between e (before ++ e ∷ between) at_f.old at_f.legal refl in
      let by_e = told_by number (keeping at_e.old) (desk at_e.old) (runner at_e.old) e (desk at_e.new) (runner at_e.new) (host.once at_e.old e at_e.new at_e.answered).1 asks_e in
      let by_f = told_by number (keeping at_f.old) (desk at_f.old) (runner at_f.old) f (desk at_f.new) (runner at_f.new) (host.once at_f.old f at_f.new at_f.answered).1 asks_f in
      let stays = stay_on by_e.telling.jobs (desk at_e.new).jobs by_f.telling.jobs by_e.after (stay_on (desk at_e.new).jobs (desk at_f.old).jobs by_f.telling.jobs at_e.stays by_f.before) in
      by_told by_e.telling by_f.telling by_e.tells by_f.tells (result_stays by_e.telling by_f.telling number stays)
    where
      by_told : (d g : Ledger) → HasReply e (report_told (report_at d number)) → HasReply f (report_told (report_at g number)) → StaysAt d g number → StaysTold e f
      by_told d g tells_e tells_f (inl unknown) = inl (tells_e ∙ ap frame_or_refusal unknown)
      by_told d g tells_e tells_f (inr (inl not_over)) = inr (inl (tells_e ∙ ap frame_or_refusal not_over))
      by_told d g tells_e tells_f (inr (inr (inl same))) = inr (inr (inl (tells_f ∙ ap frame_or_refusal same ∙ sym tells_e)))
      by_told d g tells_e tells_f (inr (inr (inr gone))) = inr (inr (inr (tells_f ∙ ap frame_or_refusal gone)))
