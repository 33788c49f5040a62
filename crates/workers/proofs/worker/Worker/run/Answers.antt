use Rattle.std.proofs.Common.{◌≡◌, ℕ, true, List, [], ◌∷◌, map, ap, ◌∙◌, refl, rules}
use Rattle.std.specs.Prelude.{MatchResult}
use Rattle.std.proofs.lemmas.List.{append-nil}
use mathlib.Core.List.{Mem, not-mem-nil, mem-cons_self}
use borrow.Author.Rules.{in_lives}
use Rattle.workers.specs.Handing.{IsHanded}
use Rattle.workers.specs.Seats.{HasOneMore, RanAndPaid, task_in}
use Rattle.verifier.specs.Checked.{program_of}
use Rattle.job_answer.proofs.SoloCredit.{paid_for}
use Rattle.workers.proofs.HeardLemmas.{settled_heard}
use Rattle.workers.proofs.SeatLemmas.{is_over, job_is, number_is, one_more_is}
use Rattle.workers.proofs.worker.Worker.run.Goals as goal

-- a list with no member
empty : (l : List ℕ) → ((a : ℕ) → Mem a l → Mem a []) → l ≡ []
empty [] none = refl
empty (x ∷ xs) none = absurd (not-mem-nil (none x mem-cons_self))

pub work_observed-requires-lives-S : goal.work_observed-requires-lives-S
work_observed-requires-lives-S g c κs within =
    rw (empty g.row.J.lives c.type_bounds.static-J) (simp (append-nil, in_lives, within.0.0, within.0.1.0, within.1.0) tt)

pub work_observed-requires-lives-G-RunObserver-3 : goal.work_observed-requires-lives-G-RunObserver-3
work_observed-requires-lives-G-RunObserver-3 g c κs within = rw (empty g.row.J.lives c.type_bounds.static-J) (search rules)

pub returns-clause-over : goal.returns-clause-over
returns-clause-over g c =
    let seat = c.requires.seat in
    settled_heard g.J.JobId.runs g.J.GatedJob.heard c.work_observed.new.spawner.turn c.work_observed.result.outcome c.work_observed.result.whole c.args.ticket.number
    (number_is c.list-programs.result.now c.args.ticket _ _ c.work_observed.result.outcome _ c.work_observed.ensures.outcome)
    (λ ran. let h = c.work_observed.ensures.heard ran in c.requires.gate c.args.ticket.number (record { begun = h.begun; ended = h.ended }))
    (is_over c.args.self.now c.work_observed.new.spawner (λ s. s.turn)
    (λ old child reply new. MatchResult reply
    (λ _. IsHanded old.lanes child new.lanes × (new.shared ≡ old.shared) × (new.ended ≡ old.ended) × HasOneMore old.turn child new.turn)
    (λ _. new ≡ old))
    (record {
      took = λ old new child h. one_more_is old.turn new.turn child h.3;
      refused = λ old new child back same. ap (λ s. task_in s.turn) same;
    })
    c.list-programs.result.now (λ o. (o.ran ≡ true → g.J.GatedJob.heard o.own.number) → RanAndPaid g.J.JobId.runs o)
    (λ o over told. (c.list-programs.ensures.runs o over told, paid_for (map program_of c.list-programs.result.now) o over)) c.args.ticket seat.0 seat.1 seat.2 c.requires.few c.work_observed.result.outcome c.work_observed.result.whole
    c.work_observed.ensures.outcome)

pub returns-clause-job : goal.returns-clause-job
returns-clause-job g c = job_is c.list-programs.result.now c.args.ticket _ _ c.work_observed.result.outcome _ c.work_observed.ensures.outcome ∙ c.requires.job
