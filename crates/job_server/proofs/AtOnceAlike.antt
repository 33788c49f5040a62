-- Many connections at once, over two state types.
use Rattle.std.proofs.Common.{◌≡◌, ◌<◌, ◌≤◌, ◌-◌, ◌^◌, ℕ, Bool, false, List, length, min, Option, Result, Ok, Err, inl, inr, refl, sym, ap, ◌∙◌, arith}
use Rattle.std.specs.Prelude.{OnOk, IfErr}
use Rattle.sessions.specs.Grammar.{Asked}
use Rattle.accounts.specs.declared.keep_limits.KeepLimits.{KeepLimits}
use Rattle.accounts.specs.Ledgers.{Ledger}
use Rattle.streams.specs.declared.fault.StreamFault.{StreamFault}
use Rattle.shared_desk.specs.ServerAsked.{answers_counting}
use Rattle.shared_desk.proofs.AskedOfDesks.{counting_alike}
use Rattle.shared_desk.specs.declared.closed.ClosedConnection.{ClosedConnection}
use Rattle.shared_desk.specs.Histories.{HistoryEntry, Query, Replays, by_any_passage, none_yet, one_more}
use Rattle.shared_desk.specs.Closed.{first_fault}
use Rattle.credit_book.specs.declared.book.Report.{Report}
use Rattle.credit_book.specs.declared.board.Progress.{Progress}
use Rattle.job_core.specs.Admitted.{AdmittedJob}
use Rattle.job_server.specs.declared.fault.ServeFault.{ServeFault}
use Rattle.job_server.specs.declared.fault.ServeFault.TheVariants.{Socket, Connection, Threads, Restart}
use Rattle.job_server.specs.declared.keeping_handler.KeepingHandler.{KeepingHandler}
use Rattle.job_pools.specs.declared.limited_runner.LimitedRunner.{LimitedRunner}
use Rattle.job_pools.specs.Bounded.{looks_within, starts_within, takes_within}
use Rattle.job_server.specs.Kept.{answers_keeping}
use Rattle.job_pools.specs.Holds.{StartsBy, TellsBy, TakesBy}
use Rattle.job_pools.specs.Started.{pooled_at, pooled_count}
use Rattle.job_server.specs.AtOnce.{EndsBy, Hosted, IsServingFrom, Pool, hosted_answers, new_desk, new_host}
use Rattle.job_server.specs.declared.bounds.Bounds.{Bounds}
use Rattle.job_server.proofs.Alike.{beside, answers_alike}

module _ {S T : Type 0} (g : S → T) (answers : S → Query → List ℕ → S → Type 0) (answers1 : T → Query → List ℕ → T → Type 0)
    (alike : (s : S) (asked : Query) (reply : List ℕ) (t : S) → answers s asked reply t → answers1 (g s) asked reply (g t))
    (begins : S → Type 0) (begins1 : T → Type 0) (first : (s : S) → begins s → begins1 (g s)) where
  replays_alike : (history : List HistoryEntry) (s : S) → Replays answers begins history s → Replays answers1 begins1 history (g s)
  replays_alike history s (none_yet t start) = none_yet (g t) (first t start)
  replays_alike history s (one_more before t e u earlier answer) = one_more before (g t) e (g u) (replays_alike before t earlier) (alike t e.query e.reply u answer)

  pub serving_alike : (end : S) (sessions : ℕ) (may_stop : Bool) (outcome : Result (Unit {0}) ServeFault) → IsServingFrom answers begins end sessions may_stop outcome → IsServingFrom answers1 begins1 (g end) sessions may_stop outcome
  serving_alike end sessions may_stop outcome s = record {
    history = s.history;
    opened = s.opened;
    closed = s.closed;
    legal = replays_alike s.history end s.legal;
    others = s.others;
    parts = s.parts;
    served = s.served;
    well = s.well;
    fault = s.fault;
  }

  -- with as many connections, and those that are over
  pub serving_kept : (end : S) (sessions : ℕ) (may_stop : Bool) (outcome : Result (Unit {0}) ServeFault) → (serving : IsServingFrom answers begins end sessions may_stop outcome)
      → (served : IsServingFrom answers1 begins1 (g end) sessions may_stop outcome) × (served.opened ≡ serving.opened) × (served.closed ≡ serving.closed)
  unfolding serving_alike
  serving_kept end sessions may_stop outcome s = (serving_alike end sessions may_stop outcome s, refl, refl)

-- ---- a pool within its host's bounds

module _ {R Q : Type 0} (f : R → Q) where
  abbrev pub limited : LimitedRunner R → LimitedRunner Q
  limited l = record { runner = f l.runner; limit = l.limit }

  abbrev pub keeping : KeepingHandler (LimitedRunner R) → KeepingHandler (LimitedRunner Q)
  keeping h = record { runner = limited h.runner; keep = h.keep }

  module _ (held1 : Q → ℕ) (starts1 : Q → ℕ → AdmittedJob → Result (Unit {0}) ℕ → Q → Type 0) (looks1 : Q → ℕ → Progress → Q → Type 0) (takes1 : Q → Option (ℕ × Result Report ℕ) → Q → Type 0)
      (starts : R → ℕ → AdmittedJob → Result (Unit {0}) ℕ → R → Type 0) (looks : R → ℕ → Progress → R → Type 0) (takes : R → Option (ℕ × Result Report ℕ) → R → Type 0)
      (starts_alike : (r : R) (n : ℕ) (j : AdmittedJob) (x : Result (Unit {0}) ℕ) (s : R) → starts r n j x s → starts1 (f r) n j x (f s))
      (looks_alike : (r : R) (n : ℕ) (p : Progress) (s : R) → looks r n p s → looks1 (f r) n p (f s))
      (takes_alike : (r : R) (x : Option (ℕ × Result Report ℕ)) (s : R) → takes r x s → takes1 (f r) x (f s)) where
    pub within_alike : (l : LimitedRunner R) (n : ℕ) (j : AdmittedJob) (x : Result (Unit {0}) ℕ) (m : LimitedRunner R) → starts_within (λ r. held1 (f r)) starts l n j x m → starts_within held1 starts1 (limited l) n j x (limited m)
    within_alike l n j x m h = (
      elim h.0 [
        | inl full ↦ inl (full.0, full.1, ap f full.2)
        | inr room ↦ inr (room.0, starts_alike l.runner n j x m.runner room.1)
      ],
      h.1,
    )

    keeping_alike : (s : Ledger × KeepingHandler (LimitedRunner R)) (query : Result Asked ℕ) (reply : List ℕ) (t : Ledger × KeepingHandler (LimitedRunner R))
        → answers_keeping (starts_within (λ r. held1 (f r)) starts) (looks_within looks) (takes_within takes) s query reply t
        → answers_keeping (starts_within held1 starts1) (looks_within looks1) (takes_within takes1) (beside keeping s) query reply (beside keeping t)
    keeping_alike s query reply t h =
        let answer = answers_alike limited _ _ _ (starts_within held1 starts1) (looks_within looks1) (takes_within takes1) within_alike
        (λ l n p m g. (looks_alike l.runner n p m.runner g.0, g.1)) (λ l x m g. (takes_alike l.runner x m.runner g.0, g.1)) (s.0, s.1.runner) query reply (h.0.0, t.1.runner) h.0.1 in
        ((h.0.0, answer, h.0.2), h.1)

-- the handler is the one that was made of the pool and the bounds
hosted_is : {R : Type 0} (f : R → Pool) (bounds : Bounds) (desk : Ledger) (h : KeepingHandler (LimitedRunner R)) (l : LimitedRunner R) (pool : R) → desk ≡ new_desk → h.runner ≡ l → h.keep ≡ bounds.keep → l.runner ≡ pool → l.limit ≡ bounds.open_jobs
    → (desk, keeping f h) ≡ new_host bounds (f pool)
hosted_is {R} f bounds desk h l pool is_new is_limited kept is_pool is_limit =
    let host : Ledger → Pool → ℕ → KeepLimits → Hosted = λ d p n k. (d, record { runner = record { runner = p; limit = n }; keep = k }) in
    ap (λ (d : Ledger). host d (f h.runner.runner) h.runner.limit h.keep) is_new
    ∙ ap (λ (l1 : LimitedRunner R). host new_desk (f l1.runner) l1.limit h.keep) is_limited
    ∙ ap (λ (k : KeepLimits). host new_desk (f l.runner) l.limit k) kept
    ∙ ap (λ (p : R). host new_desk (f p) l.limit bounds.keep) is_pool
    ∙ ap (λ (n : ℕ). host new_desk (f pool) n bounds.keep) is_limit

module _ {R : Type 0} (f : R → Pool) (starts : R → ℕ → AdmittedJob → Result (Unit {0}) ℕ → R → Type 0) (looks : R → ℕ → Progress → R → Type 0) (takes : R → Option (ℕ × Result Report ℕ) → R → Type 0)
    (starts_alike : (r : R) (n : ℕ) (j : AdmittedJob) (x : Result (Unit {0}) ℕ) (s : R) → starts r n j x s → StartsBy pooled_at pooled_count (f r) n j x (f s))
    (looks_alike : (r : R) (n : ℕ) (p : Progress) (s : R) → looks r n p s → TellsBy pooled_at pooled_count (f r) n p (f s))
    (takes_alike : (r : R) (x : Option (ℕ × Result Report ℕ)) (s : R) → takes r x s → TakesBy pooled_at pooled_count (f r) x (f s)) where
  -- the pool's own state is forgotten, but for the jobs that it was given and the boards that it watches
  pub hosted_serving : (bounds : Bounds) (desk : Ledger) (h : KeepingHandler (LimitedRunner R)) (l : LimitedRunner R) (pool : R) (end : Ledger × KeepingHandler (LimitedRunner R)) (sessions : ℕ) (may_stop : Bool) (outcome : Result (Unit {0}) ServeFault)
      → desk ≡ new_desk → h.runner ≡ l → h.keep ≡ bounds.keep → l.runner ≡ pool → l.limit ≡ bounds.open_jobs
      → (serving : IsServingFrom (answers_counting (by_any_passage (answers_keeping (starts_within (λ r. pooled_count (f r)) starts) (looks_within looks) (takes_within takes)))) (λ s. s ≡ (desk, h)) end sessions may_stop outcome)
      → (hosted : IsServingFrom (answers_counting (by_any_passage hosted_answers)) (λ s. s ≡ new_host bounds (f pool)) (beside (keeping f) end) sessions may_stop outcome) × (hosted.opened ≡ serving.opened) × (hosted.closed ≡ serving.closed)
  unfolding serving_alike
  hosted_serving bounds desk h l pool end sessions may_stop outcome is_new is_limited kept is_pool is_limit serving = (
    serving_alike (beside (keeping f)) _ (answers_counting (by_any_passage hosted_answers))
        (counting_alike (by_any_passage (answers_keeping (starts_within (λ r. pooled_count (f r)) starts) (looks_within looks) (takes_within takes))) (by_any_passage hosted_answers) (beside (keeping f))
        (λ s q reply t. keeping_alike f pooled_count (StartsBy pooled_at pooled_count) (TellsBy pooled_at pooled_count) (TakesBy pooled_at pooled_count) starts looks takes starts_alike looks_alike takes_alike s q.asked reply t))
        (λ s. s ≡ (desk, h)) (λ s. s ≡ new_host bounds (f pool))
        (λ s is. ap (beside (keeping f)) is ∙ hosted_is f bounds desk h l pool is_new is_limited kept is_pool is_limit)
        end sessions may_stop outcome serving,
    refl,
    refl,
  )

-- ---- what a server tells of those that are over

over_all : (k over opened : ℕ) → over ≡ min k (2 ^ 64 - 1) → over ≡ opened → opened < 2 ^ 64 - 1 → k ≡ opened
over_all k over opened counted all small = grind arith

all_over : (k over opened : ℕ) → over ≡ min k (2 ^ 64 - 1) → k ≡ opened → opened < 2 ^ 64 - 1 → over ≡ opened
all_over k over opened counted all small = grind arith

pub well_of : (closed : List ClosedConnection) (opened sessions over : ℕ) (may_stop stopped : Bool) (given_up : Result (Unit {0}) StreamFault) (outcome : Result (Unit {0}) ServeFault)
    → over ≡ min (length closed) (2 ^ 64 - 1) → opened < 2 ^ 64 - 1 → given_up ≡ first_fault closed → (may_stop ≡ false → stopped ≡ false)
    → OnOk outcome ((over ≡ opened) × (given_up ≡ Ok tt) × (opened ≤ sessions) × (stopped ≡ false → opened ≡ sessions))
    → OnOk outcome ((length closed ≡ opened) × (first_fault closed ≡ Ok tt) × (opened ≤ sessions) × (may_stop ≡ false → opened ≡ sessions))
well_of closed opened sessions over may_stop stopped given_up (Ok done) counted small is only well =
    (over_all (length closed) over opened counted well.0 small, sym is ∙ well.1, well.2, λ never. well.3 (only never))
well_of closed opened sessions over may_stop stopped given_up (Err fault) counted small is only well = tt

ends_of : (closed : List ClosedConnection) (opened sessions over : ℕ) (given_up : Result (Unit {0}) StreamFault) (fault : ServeFault) → over ≡ min (length closed) (2 ^ 64 - 1) → opened < 2 ^ 64 - 1
    → given_up ≡ first_fault closed → EndsBy opened sessions over given_up fault → EndsBy opened sessions (length closed) (first_fault closed) fault
ends_of closed opened sessions over given_up Socket counted small is ends = ends
ends_of closed opened sessions over given_up (Connection fault) counted small is (inl same) = inl (sym is ∙ same)
ends_of closed opened sessions over given_up (Connection fault) counted small is (inr (none, inl few)) = inr (none, inl few)
ends_of closed opened sessions over given_up (Connection fault) counted small is (inr (none, inr (inl lost))) =
    inr (none, inr (inl (λ all. lost (all_over (length closed) over opened counted all small))))
ends_of closed opened sessions over given_up (Connection fault) counted small is (inr (none, inr (inr nothing))) = inr (none, inr (inr nothing))
ends_of closed opened sessions over given_up Threads counted small is ends = ends
ends_of closed opened sessions over given_up (Restart code) counted small is ends = absurd ends

pub fault_of_all : (closed : List ClosedConnection) (opened sessions over : ℕ) (given_up : Result (Unit {0}) StreamFault) (outcome : Result (Unit {0}) ServeFault) → over ≡ min (length closed) (2 ^ 64 - 1) → opened < 2 ^ 64 - 1
    → given_up ≡ first_fault closed → IfErr outcome (EndsBy opened sessions over given_up) → IfErr outcome (EndsBy opened sessions (length closed) (first_fault closed))
fault_of_all closed opened sessions over given_up (Ok done) counted small is ends = tt
fault_of_all closed opened sessions over given_up (Err fault) counted small is ends = ends_of closed opened sessions over given_up fault counted small is ends
