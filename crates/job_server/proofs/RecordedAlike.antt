-- A desk whose changes are recorded, over two state types of its runner.
use Rattle.std.proofs.Common.{◌≡◌, ℕ, Bool, List, [], Option, Result, ap, ◌∙◌, subst}
use Rattle.credit_book.specs.declared.book.Report.{Report}
use Rattle.credit_book.specs.declared.board.Progress.{Progress}
use Rattle.job_core.specs.Admitted.{AdmittedJob}
use Rattle.accounts.specs.Ledgers.{Ledger}
use Rattle.sessions.specs.Grammar.{Asked}
use Rattle.desk_journal.specs.DeskSteps.{DeskState}
use Rattle.desk_journal.specs.declared.journaled_desk.OpenJob.{OpenJob}
use Rattle.desk_recorder.specs.RecordedAnswers.{answers_recorded}
use Rattle.desk_recorder.specs.Restarts.{StartsEach}
use Rattle.desk_recorder.specs.Restarts as restarts
use Rattle.desk_recorder.specs.declared.recording_handler.RecordingHandler.{RecordingHandler}
use Rattle.shared_desk.specs.ServerAsked.{answers_counting}
use Rattle.shared_desk.proofs.AskedOfDesks.{counting_alike}
use Rattle.shared_desk.specs.Histories.{by_any_passage}
use Rattle.job_pools.specs.declared.limited_runner.LimitedRunner.{LimitedRunner}
use Rattle.job_pools.specs.Bounded.{looks_within, starts_within, takes_within}
use Rattle.job_pools.specs.Holds.{StartsBy, TellsBy, TakesBy}
use Rattle.job_pools.specs.Started.{pooled_at, pooled_count}
use Rattle.job_server.specs.declared.bounds.Bounds.{Bounds}
use Rattle.job_server.specs.declared.fault.ServeFault.{ServeFault}
use Rattle.job_server.specs.AtOnce.{IsServingFrom, Pool}
use Rattle.job_server.specs.Recorded.{IsRestarted, IsServingRecorded, recorded_answers}
use Rattle.job_server.proofs.Alike.{answers_alike, beside}
use Rattle.job_server.proofs.AtOnceAlike.{limited, serving_kept, within_alike}

-- the handler with what its runner comes to
abbrev pub recording : {R T Q : Type 0} → (R → T) → RecordingHandler R Q → RecordingHandler T Q
recording f h = record { runner = f h.runner; keep = h.keep; recorder = h.recorder }

module _ {R T Q : Type 0} (f : R → T) (taken : Q → List ℕ) (failed : Q → Type 0)
    (starts : R → ℕ → AdmittedJob → Result (Unit {0}) ℕ → R → Type 0) (looks : R → ℕ → Progress → R → Type 0) (takes : R → Option (ℕ × Result Report ℕ) → R → Type 0)
    (starts1 : T → ℕ → AdmittedJob → Result (Unit {0}) ℕ → T → Type 0) (looks1 : T → ℕ → Progress → T → Type 0) (takes1 : T → Option (ℕ × Result Report ℕ) → T → Type 0)
    (starts_alike : (r : R) (n : ℕ) (o : AdmittedJob) (x : Result (Unit {0}) ℕ) (s : R) → starts r n o x s → starts1 (f r) n o x (f s))
    (looks_alike : (r : R) (n : ℕ) (p : Progress) (s : R) → looks r n p s → looks1 (f r) n p (f s))
    (takes_alike : (r : R) (x : Option (ℕ × Result Report ℕ)) (s : R) → takes r x s → takes1 (f r) x (f s)) where
  recorded_alike : (s : Ledger × RecordingHandler R Q) (query : Result Asked ℕ) (reply : List ℕ) (t : Ledger × RecordingHandler R Q) → answers_recorded starts looks takes taken failed s query reply t
      → answers_recorded starts1 looks1 takes1 taken failed (beside (recording f) s) query reply (beside (recording f) t)
  recorded_alike s query reply t a = (
    record {
      mid = a.0.mid;
      answered = answers_alike f starts looks takes starts1 looks1 takes1 starts_alike looks_alike takes_alike (s.0, s.1.runner) query reply (a.0.mid, t.1.runner) a.0.answered;
      kept = a.0.kept;
      going = a.0.going;
      told = a.0.told;
      records = a.0.records;
    },
    a.1,
  )

  each_alike : (desk : Ledger) (runner : R) (jobs : List OpenJob) (after : Ledger) (left : R) → StartsEach starts desk runner jobs after left → StartsEach starts1 desk (f runner) jobs after (f left)
  each_alike desk runner jobs after left restarts.none_yet = restarts.none_yet
  each_alike desk runner jobs after left (restarts.one_more earlier d r job outcome s e before starts_one noted) =
      restarts.one_more earlier d (f r) job outcome (f s) e (each_alike desk runner earlier d r before) (starts_alike r job.number job.job outcome s starts_one) noted

-- the limited runner is the one that was made of the pool and the bounds
pub limited_is : {R : Type 0} (f : R → Pool) (bounds : Bounds) (l : LimitedRunner R) (pool : R) → l.runner ≡ pool → l.limit ≡ bounds.open_jobs
    → ◌≡◌ {A = LimitedRunner Pool} (limited f l) (record { runner = f pool; limit = bounds.open_jobs })
limited_is {R} f bounds l pool is_pool is_limit =
    let made : Pool → ℕ → LimitedRunner Pool = λ p n. record { runner = p; limit = n } in
    ap (λ (p : R). made (f p) l.limit) is_pool ∙ ap (λ (n : ℕ). made (f pool) n) is_limit

module _ {R Q : Type 0} (f : R → Pool) (taken : Q → List ℕ) (failed : Q → Type 0)
    (starts : R → ℕ → AdmittedJob → Result (Unit {0}) ℕ → R → Type 0) (looks : R → ℕ → Progress → R → Type 0) (takes : R → Option (ℕ × Result Report ℕ) → R → Type 0)
    (starts_alike : (r : R) (n : ℕ) (j : AdmittedJob) (x : Result (Unit {0}) ℕ) (s : R) → starts r n j x s → StartsBy pooled_at pooled_count (f r) n j x (f s))
    (looks_alike : (r : R) (n : ℕ) (p : Progress) (s : R) → looks r n p s → TellsBy pooled_at pooled_count (f r) n p (f s))
    (takes_alike : (r : R) (x : Option (ℕ × Result Report ℕ)) (s : R) → takes r x s → TakesBy pooled_at pooled_count (f r) x (f s)) where
  -- the pool's own state is forgotten, but for the jobs that it was given and the boards that it watches
  pub recorded_serving : (state : DeskState) (bounds : Bounds) (l : LimitedRunner R) (pool : R) (begun end : Ledger × RecordingHandler (LimitedRunner R) Q) (sessions : ℕ) (may_stop : Bool) (outcome : Result (Unit {0}) ServeFault)
      → l.runner ≡ pool → l.limit ≡ bounds.open_jobs → ((f pool).0 ≡ []) × ((f pool).1.entries ≡ [])
      → IsRestarted (starts_within (λ r. pooled_count (f r)) starts) taken failed state l bounds.keep begun
      → (serving : IsServingFrom (answers_counting (by_any_passage (answers_recorded (starts_within (λ r. pooled_count (f r)) starts) (looks_within looks) (takes_within takes) taken failed))) (λ s. s ≡ begun) end sessions may_stop outcome)
      → (recorded : IsServingRecorded taken failed state bounds sessions may_stop outcome) × (recorded.serving.opened ≡ serving.opened) × (recorded.serving.closed ≡ serving.closed)
  recorded_serving state bounds l pool begun end sessions may_stop outcome is_pool is_limit none restarted serving =
      let within : (a : LimitedRunner R) (n : ℕ) (j : AdmittedJob) (x : Result (Unit {0}) ℕ) (m : LimitedRunner R) → starts_within (λ r. pooled_count (f r)) starts a n j x m → starts_within pooled_count (StartsBy pooled_at pooled_count) (limited f a) n j x (limited f m) =
      within_alike f pooled_count (StartsBy pooled_at pooled_count) (TellsBy pooled_at pooled_count) (TakesBy pooled_at pooled_count) starts looks takes starts_alike looks_alike takes_alike in
      let kept = serving_kept (beside (recording (limited f)))
      (answers_counting (by_any_passage (answers_recorded (starts_within (λ r. pooled_count (f r)) starts) (looks_within looks) (takes_within takes) taken failed)))
      (answers_counting (by_any_passage (recorded_answers taken failed)))
      (counting_alike (by_any_passage (answers_recorded (starts_within (λ r. pooled_count (f r)) starts) (looks_within looks) (takes_within takes) taken failed)) (by_any_passage (recorded_answers taken failed)) (beside (recording (limited f)))
      (λ s q reply t. recorded_alike (limited f) taken failed (starts_within (λ r. pooled_count (f r)) starts) (looks_within looks) (takes_within takes)
      (starts_within pooled_count (StartsBy pooled_at pooled_count)) (looks_within (TellsBy pooled_at pooled_count)) (takes_within (TakesBy pooled_at pooled_count))
      within (λ a n p m g. (looks_alike a.runner n p m.runner g.0, g.1)) (λ a x m g. (takes_alike a.runner x m.runner g.0, g.1)) s q.asked reply t))
      (λ s. s ≡ begun) (λ s. s ≡ beside (recording (limited f)) begun) (λ s is. ap (beside (recording (limited f))) is)
      end sessions may_stop outcome serving in (
        record {
          first = f pool;
          none = none;
          begun = beside (recording (limited f)) begun;
          restarted = record {
            fresh = restarted.fresh;
            none = restarted.none;
            started = subst (λ (x : LimitedRunner Pool). StartsEach (starts_within pooled_count (StartsBy pooled_at pooled_count)) state.desk x state.held begun.0 (limited f begun.1.runner)) (limited_is f bounds l pool is_pool is_limit)
                (each_alike {T = LimitedRunner Pool} {Q = Q} (limited f) taken failed (starts_within (λ r. pooled_count (f r)) starts) (looks_within looks) (takes_within takes)
                (starts_within pooled_count (StartsBy pooled_at pooled_count)) (looks_within (TellsBy pooled_at pooled_count)) (takes_within (TakesBy pooled_at pooled_count))
                within (λ a n p m g. (looks_alike a.runner n p m.runner g.0, g.1)) (λ a x m g. (takes_alike a.runner x m.runner g.0, g.1)) state.desk l state.held begun.0 begun.1.runner restarted.started);
            recorded = restarted.recorded;
            kept = restarted.kept;
          };
          end = beside (recording (limited f)) end;
          serving = kept.0;
        },
        kept.1,
        kept.2,
      )
