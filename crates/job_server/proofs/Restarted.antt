-- A recovered desk, whose open jobs were started again: its jobs stand for those that are known.
use Rattle.std.proofs.Common.{◌≡◌, ◌≢◌, ◌⊎◌, ◌+◌, ◌-◌, ℕ, zero, suc, List, [], ◌∷◌, ◌++◌, append_assoc, length, slice_get, Option, Some, None, Result, Ok, Err, refl, sym, ap, subst, ◌∙◌, inl, inr, arith}
use Rattle.std.proofs.lemmas.Bool.{cases_eq}
use Rattle.std.proofs.lemmas.List.{append-nil}
use Rattle.credit_book.specs.declared.book.Report.{Report}
use Rattle.credit_book.specs.declared.board.Progress.{Progress}
use Rattle.job_core.specs.Admitted.{AdmittedJob}
use Rattle.accounts.specs.declared.jobs.JobEntry.{JobEntry}
use Rattle.accounts.specs.declared.jobs.JobStanding.{JobStanding}
use Rattle.accounts.specs.declared.jobs.JobStanding.TheVariants.{Open, Reported, Failed}
use Rattle.accounts.specs.declared.keep_limits.KeepLimits.{KeepLimits}
use Rattle.accounts.specs.Ledgers.{Ledger}
use Rattle.accounts.proofs.Listed.{same_some}
use Rattle.desk_journal.specs.DeskSteps.{DeskState}
use Rattle.desk_journal.specs.OpenJobs.{open_job_at}
use Rattle.desk_journal.specs.declared.journaled_desk.OpenJob.{OpenJob}
use Rattle.desk_journal.proofs.OpenLemmas.{AreApart, AreHeldOpen, at_middle, none_ahead, pushed_at}
use Rattle.desk_recorder.specs.Restarts.{NotesStart, StartsEach, none_yet, one_more}
use Rattle.job_server.specs.AfterRestart.{AreRecovered, IsRecoveredAs, Itself, KnownJob, Over}
use Rattle.job_server.proofs.HistoryStands.{HoldsJobs}
use Rattle.job_server.proofs.StandsFor.{AllStand, StandsFor, all_stand, stand_noted}

-- ---- what is known of the desk's jobs

each_of : {X Y : Type 0} (P : ℕ → X → Y → Type 0) (x : X) (xs : List X) (y : Y) (ys : List Y) → P 0 x y → ((i : ℕ) (a : X) (b : Y) → slice_get xs i ≡ Some a → slice_get ys i ≡ Some b → P (suc i) a b)
    → (i : ℕ) (a : X) (b : Y) → slice_get (x ∷ xs) i ≡ Some a → slice_get (y ∷ ys) i ≡ Some b → P i a b
each_of {X} {Y} P x xs y ys here later zero a b at there = subst (λ (p : X × Y). P 0 p.0 p.1) (λ k. (same_some x a at k, same_some y b there k)) here
each_of P x xs y ys here later (suc i) a b at there = later i a b at there

-- where something fits each element of a list, a list of as many fits it
chosen : {X Y : Type 0} (P : ℕ → X → Y → Type 0) (xs : List X) → ((i : ℕ) (x : X) → slice_get xs i ≡ Some x → (y : Y) × P i x y)
    → (ys : List Y) × (length ys ≡ length xs) × ((i : ℕ) (x : X) (y : Y) → slice_get xs i ≡ Some x → slice_get ys i ≡ Some y → P i x y)
chosen P [] each = ([], refl, λ i x y at there. absurd cc)
chosen P (x ∷ xs) each =
    let here = each 0 x refl in
    let rest = chosen (λ i. P (suc i)) xs (λ i a at. each (suc i) a at) in
    (here.0 ∷ rest.0, ap suc rest.1, each_of P x xs here.0 rest.0 here.1 rest.2)

module _ (changes : List (List ℕ)) (state : DeskState) (sound : AreHeldOpen changes state) where
  recovered_one : (number : ℕ) (standing : JobStanding) → (standing ≡ Open → (job : AdmittedJob) × (open_job_at number state.held ≡ Some job)) → (job : KnownJob) × IsRecoveredAs state.held number standing job
  recovered_one number Open opened = let there = opened refl in (Itself there.0, (refl, there.1))
  recovered_one number (Reported report) opened = (Over (Ok report), refl)
  recovered_one number (Failed code) opened = (Over (Err code), refl)

  pub recovered_jobs : (known : List KnownJob) × AreRecovered state known
  recovered_jobs =
      let t = chosen (λ i (entry : JobEntry) (job : KnownJob). IsRecoveredAs state.held (i + 1) entry.standing job) state.desk.jobs
      (λ i entry at. recovered_one (i + 1) entry.standing (λ opened. sound.held i entry at opened)) in
      (t.0, record { count = t.1; each = t.2 })

  -- ---- they stand for what is to be started

  module _ (keep : KeepLimits) (first : List KnownJob) (recovered : AreRecovered state first) where
    abbrev to_start : ℕ → Option AdmittedJob
    to_start n = open_job_at n state.held

    first_stand : AllStand keep first state.desk.jobs to_start
    first_stand = record { count = sym recovered.count; each = λ i entry job at there. stands i entry job at (recovered.each i entry job at there) }
      where
        credited : (i : ℕ) (entry : JobEntry) (job : AdmittedJob) → slice_get state.desk.jobs i ≡ Some entry → open_job_at (i + 1) state.held ≡ Some job → entry.credit ≡ job.credit
        credited i entry job at held =
            let h = sound.opened (i + 1) job held in
            let place : i + 1 - 1 ≡ i = omega arith in
            let same : entry ≡ h.entry = same_some entry h.entry (sym at ∙ ap (slice_get state.desk.jobs) (sym place) ∙ h.at) in
            ap (λ (e : JobEntry). e.credit) same ∙ h.credited

        stands : (i : ℕ) (entry : JobEntry) (job : KnownJob) → slice_get state.desk.jobs i ≡ Some entry → IsRecoveredAs state.held (i + 1) entry.standing job → StandsFor (to_start (i + 1)) keep (length first) (i + 1) job entry.credit entry.standing
        stands i entry (Itself job) at is =
            subst (λ (st : JobStanding). StandsFor (to_start (i + 1)) keep (length first) (i + 1) (Itself job) entry.credit st) (sym is.0) (is.1, credited i entry job at is.1)
        stands i entry (Over outcome) at is = inl is

    -- ---- and for what was started

    module _ {R : Type 0} (starts : R → ℕ → AdmittedJob → Result (Unit {0}) ℕ → R → Type 0) (looks : R → ℕ → Progress → R → Type 0) (takes : R → Option (ℕ × Result Report ℕ) → R → Type 0)
        (held : R → ℕ → Option AdmittedJob) (holds : HoldsJobs starts looks takes held) where
      -- the runner holds those that were started, and the others wait
      abbrev by_job : Option AdmittedJob → R → ℕ → Option AdmittedJob
      by_job (Some job) r n = held r n
      by_job None r n = to_start n

      abbrev by_jobs : List OpenJob → R → ℕ → Option AdmittedJob
      by_jobs jobs r n = by_job (open_job_at n jobs) r n

      same_others : (o : Option AdmittedJob) (r s : R) (n : ℕ) → held s n ≡ held r n → by_job o s n ≡ by_job o r n
      same_others None r s n same = refl
      same_others (Some job) r s n same = same

      module _ (jobs : List OpenJob) (job : OpenJob) (rest : List OpenJob) (is : state.held ≡ jobs ++ job ∷ rest) where
        none : open_job_at job.number jobs ≡ None
        none = none_ahead jobs job rest (subst AreApart is sound.apart)

        waits : to_start job.number ≡ Some job.job
        waits = ap (open_job_at job.number) is ∙ at_middle jobs job rest none

        waited : (r : R) → by_jobs jobs r job.number ≡ Some job.job
        waited r = ap (λ (o : Option AdmittedJob). by_job o r job.number) none ∙ waits

        others : (r s : R) (n : ℕ) → n ≢ job.number → held s n ≡ held r n → by_jobs (jobs ++ job ∷ []) s n ≡ by_jobs jobs r n
        others r s n apart same =
            ap (λ (o : Option AdmittedJob). by_job o s n) (pushed_at jobs job n (λ e. apart (sym e))) ∙ same_others (open_job_at n jobs) r s n same

        started : (r s : R) → held s job.number ≡ Some job.job → by_jobs (jobs ++ job ∷ []) s job.number ≡ by_jobs jobs r job.number
        started r s here = ap (λ (o : Option AdmittedJob). by_job o s job.number) (at_middle jobs job [] none) ∙ here ∙ sym (waited r)

        after_start : (d : Ledger) (r : R) (outcome : Result (Unit {0}) ℕ) (s : R) (e : Ledger) → AllStand keep first d.jobs (by_jobs jobs r) → starts r job.number job.job outcome s → NotesStart d job.number outcome e
            → AllStand keep first e.jobs (by_jobs (jobs ++ job ∷ []) s)
        after_start d r (Ok done) s e stand step noted =
            let here = holds.started r job.number job.job done s step in
            subst (λ (l : Ledger). AllStand keep first l.jobs (by_jobs (jobs ++ job ∷ []) s)) (sym noted)
            (all_stand keep first d.jobs (by_jobs jobs r) (by_jobs (jobs ++ job ∷ []) s) (λ n. by_number here.0 here.1 n (cases_eq n job.number)) stand)
          where
            by_number : held s job.number ≡ Some job.job → ((m : ℕ) → m ≢ job.number → held s m ≡ held r m) → (n : ℕ) → (n ≡ job.number) ⊎ (n ≡ job.number → ⊥) → by_jobs (jobs ++ job ∷ []) s n ≡ by_jobs jobs r n
            by_number here same n (inl e) = subst (λ (m : ℕ). by_jobs (jobs ++ job ∷ []) s m ≡ by_jobs jobs r m) (sym e) (started r s here)
            by_number here same n (inr apart) = others r s n apart (same n apart)
        after_start d r (Err code) s e stand step noted =
            let refused = holds.refused r job.number job.job code s step in
            stand_noted keep first d (by_jobs jobs r) (by_jobs (jobs ++ job ∷ []) s) job.number (Err code) e stand (λ n apart. others r s n apart (refused.1 n)) (λ j at. refused.0) noted

      after_starts : (desk : Ledger) (runner : R) (jobs rest : List OpenJob) → state.held ≡ jobs ++ rest → (d : Ledger) (r : R) → AllStand keep first desk.jobs to_start → StartsEach starts desk runner jobs d r
          → AllStand keep first d.jobs (by_jobs jobs r)
      after_starts desk runner _ rest is _ _ stand none_yet = stand
      after_starts desk runner _ rest is _ _ stand (one_more jobs d r job outcome s e before step noted) =
          let whole = is ∙ append_assoc jobs (job ∷ []) rest in
          after_start jobs job rest whole d r outcome s e (after_starts desk runner jobs (job ∷ rest) whole d r stand before) step noted

      -- all were started
      all_started : (d : Ledger) (r : R) → AllStand keep first d.jobs (by_jobs state.held r) → AllStand keep first d.jobs (held r)
      all_started d r was = record { count = was.count; each = λ i entry job at there. by_held (i + 1) (open_job_at (i + 1) state.held) refl (i + 1) job entry.credit entry.standing (was.each i entry job at there) }
        where
          none_stands : (number : ℕ) (job : KnownJob) (credit : ℕ) (standing : JobStanding) (b : Option AdmittedJob) → StandsFor None keep (length first) number job credit standing → StandsFor b keep (length first) number job credit standing
          none_stands number (Itself job) credit Open b stands = let clash : None ≡ Some job = stands.0 in absurd cc
          none_stands number (Itself job) credit (Reported report) b stands = stands
          none_stands number (Itself job) credit (Failed code) b stands = stands
          none_stands number (Over outcome) credit standing b stands = stands

          by_held : (n : ℕ) (o : Option AdmittedJob) → open_job_at n state.held ≡ o → (number : ℕ) (job : KnownJob) (credit : ℕ) (standing : JobStanding) → StandsFor (by_jobs state.held r n) keep (length first) number job credit standing → StandsFor (held r n) keep (length first) number job credit standing
          by_held n None is number job credit standing stands =
              none_stands number job credit standing (held r n)
              (subst (λ (h : Option AdmittedJob). StandsFor h keep (length first) number job credit standing) (ap (λ (o : Option AdmittedJob). by_job o r n) is ∙ is) stands)
          by_held n (Some there) is number job credit standing stands =
              subst (λ (h : Option AdmittedJob). StandsFor h keep (length first) number job credit standing) (ap (λ (o : Option AdmittedJob). by_job o r n) is) stands

      pub restarted_stand : (desk : Ledger) → desk.jobs ≡ state.desk.jobs → (runner : R) (d : Ledger) (r : R) → StartsEach starts desk runner state.held d r → AllStand keep first d.jobs (held r)
      restarted_stand desk same runner d r each =
          all_started d r (after_starts desk runner state.held [] (sym (append-nil state.held)) d r (subst (λ (es : List JobEntry). AllStand keep first es to_start) (sym same) first_stand) each)
