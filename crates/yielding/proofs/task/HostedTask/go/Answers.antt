use Rattle.std.proofs.Common.{sym, ◌∙◌}
use Rattle.yielding.proofs.task.HostedTask.go.Goals as goal

pub returns-clause-goes : goal.returns-clause-goes
returns-clause-goes c = rw (← c.self.view_is) (record {
  ready = sym c.has_ended.ensures ∙ c.if-has_ended.false;
  length_is = c.if-memory-self.false;
  goes = rw (c.deref.ensures, c.waits-asked.ensures) at c.go_piece-piece.ensures.goes;
  phase = c.phase_after-self-inside.ensures;
  size = c.go_piece-piece.ensures.len;
})
