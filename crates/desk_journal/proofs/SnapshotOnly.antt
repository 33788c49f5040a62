-- The changes of a snapshot lead to no desk that isn't alike the one that they are of.
use Rattle.std.proofs.Common.{◌≡◌, ◌⊎◌, ◌+◌, ◌≤◌, ℕ, zero, suc, Vec, Global, Bool, true, false, List, [], ◌∷◌, ◌++◌, append_assoc, length, refl, sym, ap, subst, ◌∙◌, inl, inr, arith}
use Rattle.std.specs.Prelude.{All, string_bytes}
use Rattle.std.specs.List.{AllZip}
use Rattle.std.proofs.lemmas.List.{append-nil, length-append}
use Rattle.std.proofs.lemmas.List.Sums.{sum_by-append}
use Rattle.accounts.specs.Forgetting.{IsGone}
use Rattle.accounts.specs.Jobs.{is_open, spent_for}
use Rattle.accounts.specs.Ledgers.{granted_to, past_of, spent_by_jobs}
use Rattle.accounts.specs.declared.jobs.JobEntry.{JobEntry}
use Rattle.accounts.specs.declared.jobs.JobStanding.{JobStanding}
use Rattle.accounts.specs.declared.jobs.JobStanding.TheVariants.{Open, Reported, Failed}
use Rattle.credit_book.specs.declared.book.Report.{Report}
use Rattle.journal.specs.Records.{AllFitRecords, FitsRecord}
use Rattle.recovery.specs.Histories.{ReplaysChanges}
use Rattle.desk_journal.specs.AlikeDesks.{AreDesksAlike, AreEntriesAlike, AreOpenAlike, StandAlike}
use Rattle.desk_journal.specs.AlikeLemmas.{spent_alike, zip_append, zip_long}
use Rattle.desk_journal.specs.DeskSteps.{DeskState, MakesBytes, PutsBack}
use Rattle.desk_journal.specs.HeldJobs.{AreHeldFrom, none_left, one_over, one_open}
use Rattle.desk_journal.specs.SnapshotChanges.{AreJobChanges, IsFailureChange, IsGoneChange, IsReportChange, last_run, one_run, one_kept, one_taken}
use Rattle.desk_journal.specs.declared.journaled_desk.OpenJob.{OpenJob}
use Rattle.desk_journal.proofs.HeldLemmas.{all_first, all_rest, gone_over}
use Rattle.desk_journal.proofs.SameChanges.{IsTakenAgain, failure_made, gone_made, report_made, source_made}
use Rattle.desk_journal.proofs.SnapshotLead.{gone_spent, held_after, none_held, one_behind, spent_open, sum_two}

-- runs of gone jobs, as long, are alike
gone_alike : (first second : List JobEntry) → All IsGone first → All IsGone second → length first ≡ length second → AllZip AreEntriesAlike first second
gone_alike [] [] a b long = tt
gone_alike [] (y ∷ second) a b long = absurd (omega (arith, long))
gone_alike (x ∷ first) [] a b long = absurd (omega (arith, long))
gone_alike (x ∷ first) (y ∷ second) a b long =
    let p = all_first x first a in
    let q = all_first y second b in (
      record {
        tenant = p.tenant ∙ sym q.tenant;
        credit = p.credit ∙ sym q.credit;
        standing = subst (λ (s : JobStanding × JobStanding). StandAlike s.0 s.1) (λ k. (sym p.standing k, sym q.standing k)) refl;
      },
      gone_alike first second (all_rest x first a) (all_rest y second b) (omega (arith, long)),
    )

module _ (m : DeskState) where
  -- alike the desk with these jobs back
  pub record IsNear (done jobs : List JobEntry) (held : List OpenJob) (s : DeskState) : Type 0 where
    pub jobs_are : AllZip AreEntriesAlike s.desk.jobs done
    pub held_are : AllZip AreOpenAlike s.held held
    pub grants : (q : List ℕ) → granted_to s.desk q ≡ granted_to m.desk q
    pub past : (q : List ℕ) → past_of s.desk q ≡ past_of m.desk q + spent_by_jobs jobs q

  gone_near : (done gone jobs : List JobEntry) (held : List OpenJob) (s t : DeskState) (payload : List ℕ) → IsGoneChange gone payload → IsNear done (gone ++ jobs) held s → MakesBytes s payload t → IsNear (done ++ gone) jobs held t
  gone_near done gone jobs held s t payload change near made =
      let made_so = gone_made gone payload s t change made in
      let adds = made_so.0 in
      record {
        jobs_are = subst (λ (js : List JobEntry). AllZip AreEntriesAlike js (done ++ gone)) (sym adds.jobs.jobs)
            (zip_append AreEntriesAlike s.desk.jobs done adds.gone gone near.jobs_are (gone_alike adds.gone gone adds.are change.are adds.counted));
        held_are = subst (λ (h : List OpenJob). AllZip AreOpenAlike h held) (sym made_so.1) near.held_are;
        grants = λ q. adds.jobs.grants q ∙ near.grants q;
        past = λ q.
            let before = near.past q in
            let same = adds.jobs.past q in
            let none = gone_spent q gone change.are in
            omega (arith, before, same, none, sum_by-append (spent_for q) gone jobs);
      }

  back_near : (done jobs : List JobEntry) (entry : JobEntry) (held : List OpenJob) (s t : DeskState) (standing : JobStanding) → StandAlike standing entry.standing → IsNear done (entry ∷ jobs) held s
      → PutsBack (string_bytes entry.tenant) entry.credit standing s t → IsNear (done ++ entry ∷ []) jobs held t
  back_near done jobs entry held s t standing stands near back =
      let r = back.recalls in
      let same : AreEntriesAlike r.entry entry = record { tenant = r.tenant; credit = r.credited; standing = subst (λ (x : JobStanding). StandAlike x entry.standing) (sym r.stands) stands } in
      record {
        jobs_are = subst (λ (js : List JobEntry). AllZip AreEntriesAlike js (done ++ entry ∷ [])) (sym r.jobs) (zip_append AreEntriesAlike s.desk.jobs done (r.entry ∷ []) (entry ∷ []) near.jobs_are (same, tt));
        held_are = subst (λ (h : List OpenJob). AllZip AreOpenAlike h held) (sym back.held) near.held_are;
        grants = λ q. r.grants q ∙ near.grants q;
        past = λ q.
            let before = near.past q in
            let here = r.past q in
            let cost = spent_alike q r.entry entry same in
            omega (arith, before, here, cost, sum_two (spent_for q) entry jobs);
      }

  kept_near : (done jobs : List JobEntry) (entry : JobEntry) (held : List OpenJob) (s t : DeskState) (payload : List ℕ) → FitsRecord payload → IsReportChange entry payload ⊎ IsFailureChange entry payload
      → IsNear done (entry ∷ jobs) held s → MakesBytes s payload t → IsNear (done ++ entry ∷ []) jobs held t
  kept_near done jobs entry held s t payload fits (inl change) near made =
      let again = report_made entry payload s t fits change made in
      back_near done jobs entry held s t (Reported again.0) (subst (λ (x : JobStanding). StandAlike (Reported again.0) x) (sym change.standing) again.1) near again.2
  kept_near done jobs entry held s t payload fits (inr change) near made =
      back_near done jobs entry held s t (Failed change.code) (subst (λ (x : JobStanding). StandAlike (Failed change.code) x) (sym change.standing) refl) near (failure_made entry payload s t fits change made)

  taken_near : (done jobs : List JobEntry) (entry : JobEntry) (job : OpenJob) (held : List OpenJob) (s t : DeskState) → entry.standing ≡ Open → job.number ≡ length done + 1 → IsNear done (entry ∷ jobs) held s
      → IsTakenAgain entry job s t → IsNear (done ++ entry ∷ []) jobs (held ++ job ∷ []) t
  taken_near done jobs entry job held s t opened numbered near again =
      let takes = again.takes in
      let stands : StandAlike takes.entry.standing entry.standing = subst (λ (x : JobStanding × JobStanding). StandAlike x.0 x.1) (λ k. (sym takes.opened k, sym opened k)) tt in
      let same : AreEntriesAlike takes.entry entry = record { tenant = takes.tenant; credit = takes.credited; standing = stands } in
      let long = zip_long AreEntriesAlike s.desk.jobs done near.jobs_are in
      let longer = ap length takes.jobs.jobs in
      let number = again.number in
      record {
        jobs_are = subst (λ (js : List JobEntry). AllZip AreEntriesAlike js (done ++ entry ∷ [])) (sym takes.jobs.jobs) (zip_append AreEntriesAlike s.desk.jobs done (takes.entry ∷ []) (entry ∷ []) near.jobs_are (same, tt));
        held_are = subst (λ (h : List OpenJob). AllZip AreOpenAlike h (held ++ job ∷ [])) (sym again.held)
            (zip_append AreOpenAlike s.held held (again.taken ∷ []) (job ∷ []) near.held_are
            (record { number = omega (arith, number, longer, long, numbered, length-append s.desk.jobs (takes.entry ∷ [])); job = again.alike }, tt));
        grants = λ q. takes.jobs.grants q ∙ near.grants q;
        past = λ q.
            let before = near.past q in
            let same_past = takes.jobs.past q in
            let none = spent_open q entry opened in
            omega (arith, before, same_past, none, sum_two (spent_for q) entry jobs);
      }

  -- all jobs
  pub jobs_only : (done jobs : List JobEntry) (held_done held : List OpenJob) (sources : List (Vec ℕ Global)) (payloads : List (List ℕ)) (number : ℕ) (s u : DeskState) → AreJobChanges jobs sources payloads
      → AreHeldFrom number jobs held sources → number ≡ length done + 1 → m.desk.jobs ≡ done ++ jobs → m.held ≡ held_done ++ held → AllFitRecords payloads → IsNear done jobs held_done s
      → ReplaysChanges MakesBytes s payloads u → AreDesksAlike u m
  jobs_only done jobs held_done held sources payloads number s u (last_run gone payload change) are numbered is_jobs is_held fit near (t, made, is) =
      let none = none_held number gone held [] change.are are in
      let first = subst (λ (js : List JobEntry). IsNear done js held_done s) (sym (append-nil gone)) near in
      let last = gone_near done gone [] held_done s t payload change first made in
      subst (λ (x : DeskState). AreDesksAlike x m) (sym is) (record {
        grants = last.grants;
        past = λ q. let here = last.past q in omega (arith, here);
        jobs = subst (λ (js : List JobEntry). AllZip AreEntriesAlike t.desk.jobs js) (sym is_jobs) last.jobs_are;
        held = subst (λ (h : List OpenJob). AllZip AreOpenAlike t.held h) (sym (is_held ∙ (ap (λ (h : List OpenJob). held_done ++ h) none ∙ append-nil held_done))) last.held_are;
      })
  jobs_only done jobs held_done held sources payloads number s u (one_run gone others rest_sources payload rest_payloads change rest) are numbered is_jobs is_held fit near (t, made, on) =
      jobs_only (done ++ gone) others held_done held rest_sources rest_payloads (number + length gone) t u rest (held_after number gone others held rest_sources change.are are)
      (omega (arith, numbered, length-append done gone)) (is_jobs ∙ sym (append_assoc done gone others)) is_held fit.1 (gone_near done gone others held_done s t payload change near made) on
  jobs_only done jobs held_done held sources payloads number s u (one_kept entry others rest_sources payload rest_payloads kept change rest) (one_over n first js held_others sources_others is_over held_rest) numbered is_jobs is_held fit near (t, made, on) =
      jobs_only (done ++ entry ∷ []) others held_done held_others rest_sources rest_payloads (n + 1) t u rest held_rest
      (omega (arith, numbered, length-append done (entry ∷ []))) (is_jobs ∙ one_behind done entry others) is_held fit.1 (kept_near done others entry held_done s t payload fit.0 change near made) on
  jobs_only done jobs held_done held sources payloads number s u (one_kept entry others rest_sources payload rest_payloads kept change rest) (one_open n first js job held_others source sources_others is_number taken held_rest) numbered is_jobs is_held fit near steps =
      absurd (by change)
    where
      by : IsReportChange entry payload ⊎ IsFailureChange entry payload → ⊥
      by (inl c) = let clash : true ≡ false = sym (ap is_open taken.opened) ∙ ap is_open c.standing in cc
      by (inr c) = let clash : true ≡ false = sym (ap is_open taken.opened) ∙ ap is_open c.standing in cc
  jobs_only done jobs held_done held sources payloads number s u (one_taken entry others source rest_sources rest_payloads opened rest) (one_over n first js held_others sources_others is_over held_rest) numbered is_jobs is_held fit near steps =
      let clash : true ≡ false = sym (ap is_open opened) ∙ is_over in
      absurd cc
  jobs_only done jobs held_done held sources payloads number s u (one_taken entry others source rest_sources rest_payloads opened rest) (one_open n first js job held_others taken_source sources_others is_number taken held_rest) numbered is_jobs is_held fit near (t, made, on) =
      jobs_only (done ++ entry ∷ []) others (held_done ++ job ∷ []) held_others rest_sources rest_payloads (n + 1) t u rest held_rest
      (omega (arith, numbered, length-append done (entry ∷ []))) (is_jobs ∙ one_behind done entry others) (is_held ∙ one_behind held_done job held_others) fit.1
      (taken_near done others entry job held_done s t opened (is_number ∙ numbered) near (source_made entry job source.items s t fit.0 taken made)) on
