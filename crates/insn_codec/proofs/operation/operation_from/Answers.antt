use Rattle.insn_codec.proofs.Rows.{row_found, row_only}
use Rattle.insn_codec.proofs.operation.operation_from.Goals as goal

pub returns-clause-found : goal.returns-clause-found
returns-clause-found c = rw c.row_from.ensures (row_found c.args.slot.now)

pub returns-clause-none : goal.returns-clause-none
returns-clause-none c = rw c.row_from.ensures (row_only c.args.slot.now)
