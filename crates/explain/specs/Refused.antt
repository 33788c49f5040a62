-- Used by private contracts and proofs alone: programs that have a graph, and an instruction that
-- isn't allowed.
use Rattle.std.specs.Prelude.{ℕ, ◌≤◌, List}
use Rattle.machine_model.specs.Limits.{max_part}
use Rattle.insn_codec.specs.declared.insn.Placed.{Placed}
use Rattle.insn_codec.specs.Spelling.{IsProgram}
use Rattle.flow_graph.specs.Program.{code_of}
use Rattle.helpers.specs.Table.{Table}
use Rattle.instruction_rules.specs.declared.rule.Rule.{Rule}
use Rattle.verifier.specs.Refusals.{HasFlow}
use Rattle.verifier.specs.Verdict.{IsFaulty}

pub record IsRefusedAt (need : ℕ) (code : List ℕ) (helpers : Table) (slot : ℕ) : Type 0 where
  pub small : need ≤ max_part
  pub placed : List Placed
  pub program : IsProgram placed code
  pub flow : HasFlow (code_of placed)
  pub rule : Rule
  pub faulty : IsFaulty (record { need = need; helpers = helpers; code = code_of placed }) slot rule
