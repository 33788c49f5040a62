use Rattle.std.proofs.Common.{◌∙◌, sym}
use Rattle.run_trace.proofs.JobLemmas.{front_of}
use Rattle.run_trace.proofs.tree.parent_of.Goals as goal

pub returns : goal.returns
returns c = front_of c.args.place.now (sym c.if-is_empty.false ∙ c.is_empty.ensures)
