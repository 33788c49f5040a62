use Rattle.std.proofs.Common.{IsTrue, take, length, arith, rules}
use Rattle.job_core.specs.Keeping.{kept_of}
use Rattle.job_core.proofs.Completion.{complete_book}
use Rattle.job_core.proofs.Runs.{first_of, parts}
use Rattle.job_core.proofs.Passing.{leads_through, leads_to_end}
use Rattle.job_core.proofs.tasks.Tasks.run.Goals as goal

pub returns-then-progress-clause-leads : goal.returns-then-progress-clause-leads
returns-then-progress-clause-leads c =
    let schedule = c.args.schedule.now in
    let named = c.named_ahead-named.ensures in
    let ran = c.run_task-count.ensures in
    let runs = ran.runs c.requires.behind.0 c.requires.behind.1 in
    let old = kept_of c.args.self.now in
    let new = kept_of c.run_task-count.new.self in
    let all = complete_book c.run_task-count.new.self runs.last runs.behind ran.booked in
    let is : IsTrue c.progress.result.complete = search rules in
    let done = all.0 (c.progress.ensures.complete.0 is) in (
      take (length schedule) schedule,
      parts schedule (length schedule),
      leads_to_end old new schedule c.named_ahead-named.result runs.last runs.behind done
          (leads_through old new schedule (first_of schedule) c.named_ahead-named.result c.run_task-count.result.0 c.run_task-count.result.1 c.requires.behind.0 runs ran.leads
          ran.whole ran.most named.some.1 named.alike),
    )

pub returns-clause-leads : goal.returns-clause-leads
returns-clause-leads c =
    let schedule = c.args.schedule.now in
    let named = c.named_ahead-named.ensures in
    let ran = c.run_task-count.ensures in
    let old = kept_of c.args.self.now in (
      take c.named_ahead-named.result schedule,
      parts schedule c.named_ahead-named.result,
      leads_through old (kept_of c.run_task-count.new.self) schedule (first_of schedule) c.named_ahead-named.result c.run_task-count.result.0 c.run_task-count.result.1
          c.requires.behind.0 (ran.runs c.requires.behind.0 c.requires.behind.1) ran.leads ran.whole ran.most named.some.1 named.alike,
    )
