use Rattle.server_log.proofs.server_counts.ServerCounts.jobs.Goals as goal

pub returns : goal.returns
returns c = (_, c.totals.ensures)
