use Rattle.std.proofs.Common.{rules}
use Rattle.conversation.proofs.handed_jobs.HandedJobsRunner.start.Goals as goal

pub returns-in-Ok-clause-starts : goal.returns-in-Ok-clause-starts
returns-in-Ok-clause-starts c = (c.in-Some.object, search rules, c.in-Ok.ensures.entries)
