-- A runner within a limit holds each job that was started, until it gives that.
use Rattle.std.proofs.Common.{◌≡◌, ◌≢◌, ◌⊎◌, ℕ, Option, Some, None, option_map, Result, Ok, Err, refl, sym, ap, ◌∙◌, inl, inr}
use Rattle.std.proofs.lemmas.Bool.{cases_eq}
use Rattle.credit_book.specs.declared.book.Report.{Report}
use Rattle.credit_book.specs.declared.board.Progress.{Progress}
use Rattle.job_core.specs.Admitted.{AdmittedJob}
use Rattle.job_pools.specs.Holding.{HeldJob}
use Rattle.job_pools.specs.Holds.{StartsBy, TellsBy, TakesBy, IsUnchangedBy, looks_by}
use Rattle.job_pools.specs.Bounded.{starts_within, looks_within, takes_within}
use Rattle.job_pools.specs.declared.limited_runner.LimitedRunner.{LimitedRunner}
use Rattle.job_pools.specs.LineBounded.{starts_by_line, looks_by_line, takes_by_line}
use Rattle.job_pools.specs.declared.line_limited_runner.LineLimitedRunner.{LineLimitedRunner}
use Rattle.job_server.proofs.HistoryStands.{HoldsJobs}

not_refused : (outcome : Result (Unit {0}) ℕ) (done : Unit {0}) → outcome ≡ Ok done → outcome ≡ Err 81 → ⊥
not_refused outcome done is same = cc

module _ {P : Type 0} (held_by : P → ℕ → Option HeldJob) (count_by : P → ℕ) where
  -- the job that is held under a number
  abbrev pub job_held : LimitedRunner P → ℕ → Option AdmittedJob
  job_held r n = option_map (λ (h : HeldJob). h.job) (held_by r.runner n)

  same_jobs : (old new : P) → IsUnchangedBy held_by count_by old new → (m : ℕ) → option_map (λ (h : HeldJob). h.job) (held_by new m) ≡ option_map (λ (h : HeldJob). h.job) (held_by old m)
  same_jobs old new u m = ap (option_map (λ (h : HeldJob). h.job)) (u.each m)

  seen_jobs : (old new : P) (n : ℕ) (told : Progress) (o : Option HeldJob) → held_by old n ≡ o → looks_by held_by count_by old n o told new → (m : ℕ) → option_map (λ (h : HeldJob). h.job) (held_by new m) ≡ option_map (λ (h : HeldJob). h.job) (held_by old m)
  unfolding looks_by
  seen_jobs old new n told None was looks m = same_jobs old new looks.1 m
  seen_jobs old new n told (Some held) was looks m =
      elim (cases_eq m n) [
        | inl same ↦
            ap (λ k. option_map (λ (h : HeldJob). h.job) (held_by new k)) same ∙ ap (option_map (λ (h : HeldJob). h.job)) looks.changes.here ∙ ap Some looks.seen.job
            ∙ sym (ap (option_map (λ (h : HeldJob). h.job)) was) ∙ sym (ap (λ k. option_map (λ (h : HeldJob). h.job) (held_by old k)) same)
        | inr apart ↦ ap (option_map (λ (h : HeldJob). h.job)) (looks.changes.others m apart)
      ]

  pub limited_holds : HoldsJobs (starts_within count_by (StartsBy held_by count_by)) (looks_within (TellsBy held_by count_by)) (takes_within (TakesBy held_by count_by)) job_held
  limited_holds = record {
    started = started;
    refused = refused;
    looked = λ r n told s t m. seen_jobs r.runner s.runner n told (held_by r.runner n) refl t.0 m;
    taken = λ r n outcome s t. (
      t.0.held.job,
      ap (option_map (λ (h : HeldJob). h.job)) t.0.was,
      t.0.end,
      λ m apart. ap (option_map (λ (h : HeldJob). h.job)) (t.0.changes.others m apart),
    );
    none = λ r s t m. same_jobs r.runner s.runner t.0 m;
  }
    where
      started : (r : LimitedRunner P) (n : ℕ) (job : AdmittedJob) (done : Unit {0}) (s : LimitedRunner P) → starts_within count_by (StartsBy held_by count_by) r n job (Ok done) s
          → (job_held s n ≡ Some job) × ((m : ℕ) → m ≢ n → job_held s m ≡ job_held r m)
      started r n job done s (inl full, limit) = absurd (not_refused (Ok done) done refl full.1)
      started r n job done s (inr starts, limit) = (
        ap (option_map (λ (h : HeldJob). h.job)) starts.1.changes.here ∙ ap Some starts.1.fresh.given,
        λ m apart. ap (option_map (λ (h : HeldJob). h.job)) (starts.1.changes.others m apart),
      )

      refused : (r : LimitedRunner P) (n : ℕ) (job : AdmittedJob) (code : ℕ) (s : LimitedRunner P) → starts_within count_by (StartsBy held_by count_by) r n job (Err code) s
          → ((code ≡ 81) ⊎ (code ≡ 99)) × ((m : ℕ) → job_held s m ≡ job_held r m)
      refused r n job code s (inl full, limit) = (
        inl (let same = full.1 in cc),
        λ m. ap (λ (p : P). option_map (λ (h : HeldJob). h.job) (held_by p m)) full.2,
      )
      refused r n job code s (inr starts, limit) = (starts.1.0, λ m. same_jobs r.runner s.runner starts.1.1 m)

-- ---- with a limit for each line of numbers

module _ {R : Type 0} (starts : R → ℕ → AdmittedJob → Result (Unit {0}) ℕ → R → Type 0) (looks : R → ℕ → Progress → R → Type 0) (takes : R → Option (ℕ × Result Report ℕ) → R → Type 0)
    (held : R → ℕ → Option AdmittedJob) (holds : HoldsJobs starts looks takes held) where
  abbrev pub held_in_lines : LineLimitedRunner R → ℕ → Option AdmittedJob
  held_in_lines r n = held r.runner n

  pub lines_hold : HoldsJobs (starts_by_line starts) (looks_by_line looks) (takes_by_line takes) held_in_lines
  lines_hold = record {
    started = started;
    refused = refused;
    looked = λ r n told s t m. holds.looked r.runner n told s.runner t.0 m;
    taken = λ r n outcome s t. holds.taken r.runner n outcome s.runner t.0;
    none = λ r s t m. holds.none r.runner s.runner t.0 m;
  }
    where
      started : (r : LineLimitedRunner R) (n : ℕ) (job : AdmittedJob) (done : Unit {0}) (s : LineLimitedRunner R) → starts_by_line starts r n job (Ok done) s
          → (held_in_lines s n ≡ Some job) × ((m : ℕ) → m ≢ n → held_in_lines s m ≡ held_in_lines r m)
      started r n job done s (inl full, counted, same) = absurd (not_refused (Ok done) done refl full.1)
      started r n job done s (inr room, counted, same) = holds.started r.runner n job done s.runner room.1

      refused : (r : LineLimitedRunner R) (n : ℕ) (job : AdmittedJob) (code : ℕ) (s : LineLimitedRunner R) → starts_by_line starts r n job (Err code) s
          → ((code ≡ 81) ⊎ (code ≡ 99)) × ((m : ℕ) → held_in_lines s m ≡ held_in_lines r m)
      refused r n job code s (inl full, counted, same) = (inl (let is = full.1 in cc), λ m. ap (λ (x : R). held x m) full.2)
      refused r n job code s (inr room, counted, same) = holds.refused r.runner n job code s.runner room.1
