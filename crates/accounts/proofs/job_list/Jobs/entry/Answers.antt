use Rattle.std.proofs.Common.{sym, arith}
use Rattle.accounts.proofs.Listed.{job_found, job_missing, job_none}
use Rattle.accounts.proofs.job_list.Jobs.entry.Goals as goal

pub returns-then-job-self : goal.returns-then-job-self
returns-then-job-self c = rw (← c.self.view_is) (job_none c.self.inside.inner c.args.job c.if-job-self.true)

pub returns-in-Some : goal.returns-in-Some
returns-in-Some c = rw (← c.self.view_is)
    (job_found c.self.inside.inner c.self.invariant c.args.job c.in-Some.entry.now (sym c.in-Some.ensures.value))

pub returns-in-None : goal.returns-in-None
returns-in-None c =
    let some = c.if-job-eq0.false in
    let most = c.if-job-self.false in
    rw (← c.self.view_is)
    (job_missing c.self.inside.inner c.args.job (omega (arith, some)) (omega (arith, most)) (sym c.in-None.ensures.value))
