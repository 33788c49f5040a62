-- A runner that holds jobs holds those of one desk, whatever steps it takes for others.
use Rattle.std.proofs.Common.{◌≡◌, ◌≢◌, ◌⊎◌, ◌<◌, ◌≤◌, ℕ, Option, Some, Result, Ok, Err, refl, sym, ap, ◌∙◌, inl, inr, arith}
use Rattle.std.proofs.lemmas.Bool.{cases_lt}
use Rattle.credit_book.specs.declared.book.Report.{Report}
use Rattle.credit_book.specs.declared.board.Progress.{Progress}
use Rattle.job_core.specs.Admitted.{AdmittedJob}
use Rattle.tenant_desks.specs.Placing.{placed}
use Rattle.tenant_desks.specs.Seen.{OthersSteps, no_step, one_start, one_look, one_end, no_end, starts_seen, looks_seen, takes_seen}
use Rattle.job_server.proofs.HistoryStands.{HoldsJobs}
use Rattle.job_server.proofs.Renumbered.{end_again}

-- two numbers at the runner are one only where the number and the place are
one_number : (m n p k : ℕ) → p < 1000 → k < 1000 → placed m p ≡ placed n k → (m ≡ n) × (p ≡ k)
one_number m n p k small other same = by_less (cases_lt m n) (cases_lt n m)
  where
    by_less : (m < n) ⊎ (n ≤ m) → (n < m) ⊎ (m ≤ n) → (m ≡ n) × (p ≡ k)
    by_less (inl lt) more = absurd (omega (arith, lt, same, small, other))
    by_less (inr le) (inl lt) = absurd (omega (arith, lt, same, small, other))
    by_less (inr le) (inr ge) = (omega (arith, le, ge), omega (arith, le, ge, same))

not_done : (outcome : Result (Unit {0}) ℕ) (done : Unit {0}) → outcome ≡ Ok done → outcome ≡ Err 81 → ⊥
not_done outcome done is same = cc

module _ {R : Type 0} (starts : R → ℕ → AdmittedJob → Result (Unit {0}) ℕ → R → Type 0) (looks : R → ℕ → Progress → R → Type 0) (takes : R → Option (ℕ × Result Report ℕ) → R → Type 0)
    (held : R → ℕ → Option AdmittedJob) (holds : HoldsJobs starts looks takes held) (place : ℕ) (small : place < 1000) where
  abbrev pub held_seen : R → ℕ → Option AdmittedJob
  held_seen r m = held r (placed m place)

  pub apart_from : (m n k : ℕ) → k ≢ place → k < 1000 → placed m place ≢ placed n k
  apart_from m n k apart other same = apart (sym (one_number m n place k small other same).1)

  apart_own : (m n : ℕ) → m ≢ n → placed m place ≢ placed n place
  apart_own m n apart same = apart (one_number m n place place small small same).0

  started_there : (r s : R) (n : ℕ) (job : AdmittedJob) (outcome : Result (Unit {0}) ℕ) → starts r n job outcome s → (m : ℕ) → m ≢ n → held s m ≡ held r m
  started_there r s n job (Ok done) step m apart = (holds.started r n job done s step).1 m apart
  started_there r s n job (Err code) step m apart = (holds.refused r n job code s step).1 m

  others_hold : (r s : R) → OthersSteps starts looks takes place r s → (m : ℕ) → held_seen s m ≡ held_seen r m
  others_hold r s no_step m = refl
  others_hold r s (one_start q t number other job outcome before apart few step) m =
      started_there q s (placed number other) job outcome step (placed m place) (apart_from m number other apart few) ∙ others_hold r q before m
  others_hold r s (one_look q t number other told before apart few step) m = holds.looked q (placed number other) told s step (placed m place) ∙ others_hold r q before m
  others_hold r s (one_end q t number other outcome before apart few step) m =
      (holds.taken q (placed number other) outcome s step).3 (placed m place) (apart_from m number other apart few) ∙ others_hold r q before m
  others_hold r s (no_end q t before step) m = holds.none q s step (placed m place) ∙ others_hold r q before m

  pub seen_holds : HoldsJobs (starts_seen starts looks takes place) (looks_seen starts looks takes place) (takes_seen starts looks takes place) held_seen
  seen_holds = record {
    started = started;
    refused = refused;
    looked = looked;
    taken = λ r n outcome s t.
        let step = holds.taken t.0 (placed n place) outcome s t.2 in (
          step.0,
          sym (others_hold r t.0 t.1 n) ∙ step.1,
          end_again (placed n place) n step.0 outcome step.2,
          λ m apart. step.3 (placed m place) (apart_own m n apart) ∙ others_hold r t.0 t.1 m,
        );
    none = λ r s t m. holds.none t.0 s t.2 (placed m place) ∙ others_hold r t.0 t.1 m;
  }
    where
      started : (r : R) (n : ℕ) (job : AdmittedJob) (done : Unit {0}) (s : R) → starts_seen starts looks takes place r n job (Ok done) s → (held_seen s n ≡ Some job) × ((m : ℕ) → m ≢ n → held_seen s m ≡ held_seen r m)
      started r n job done s (q, before, (inl step, same)) =
          let here = holds.started q (placed n place) job done s step.1 in (here.0, λ m apart. here.1 (placed m place) (apart_own m n apart) ∙ others_hold r q before m)
      started r n job done s (q, before, (inr past, same)) = absurd (not_done (Ok done) done refl past.1)

      refused : (r : R) (n : ℕ) (job : AdmittedJob) (code : ℕ) (s : R) → starts_seen starts looks takes place r n job (Err code) s → ((code ≡ 81) ⊎ (code ≡ 99)) × ((m : ℕ) → held_seen s m ≡ held_seen r m)
      refused r n job code s (q, before, (inl step, same)) =
          let here = holds.refused q (placed n place) job code s step.1 in (here.0, λ m. here.1 (placed m place) ∙ others_hold r q before m)
      refused r n job code s (q, before, (inr past, same)) = (inl (let is = past.1 in cc), λ m. ap (λ (x : R). held_seen x m) past.2 ∙ others_hold r q before m)

      looked : (r : R) (n : ℕ) (told : Progress) (s : R) → looks_seen starts looks takes place r n told s → (m : ℕ) → held_seen s m ≡ held_seen r m
      looked r n told s (q, before, (inl step, same)) m = holds.looked q (placed n place) told s step.1 (placed m place) ∙ others_hold r q before m
      looked r n told s (q, before, (inr past, same)) m = ap (λ (x : R). held_seen x m) past.2 ∙ others_hold r q before m
