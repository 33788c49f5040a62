use Rattle.server_log.proofs.server_counts.ServerCounts.connections.Goals as goal

pub returns : goal.returns
returns c = (_, _, c.connection_totals.ensures)
