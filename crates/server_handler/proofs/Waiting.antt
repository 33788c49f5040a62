-- The first job that waits.
use Rattle.std.proofs.Common.{◌≡◌, ℕ, List, ◌∷◌, map, Result, ap, refl}
use Rattle.std.specs.Prelude.{is_ok}
use Rattle.server_state.specs.Answering.{waiting_behind}
use Rattle.server_state.specs.States.{JobsSteps, ServerState}
use Rattle.server_handler.specs.Serving.{BeginsOr, waiting_job}
use Rattle.server_handler.specs.declared.server.WaitingJob.{WaitingJob}

pub begun_first : {R : Type 0} (m : JobsSteps R) (s : ServerState R) (old new rest : List WaitingJob) (first : WaitingJob) (r q : R) (started : Result (Unit {0}) ℕ) → old ≡ first ∷ rest
    → m.starts r first.id first.job started q → map waiting_job new ≡ waiting_behind m (waiting_job first) started (map waiting_job rest)
    → BeginsOr (is_ok started) m (record s { waiting = map waiting_job old; jobs = r }) (record s { waiting = map waiting_job new; jobs = q })
begun_first m s old new rest first r q started is starts behind = (
  record {
    job = waiting_job first;
    others = map waiting_job rest;
    was = ap (map waiting_job) is;
    started = started;
    starts = starts;
    is = ap (λ w. record s { waiting = w; jobs = q }) behind;
  },
  refl,
)
