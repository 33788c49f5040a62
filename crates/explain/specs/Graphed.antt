-- Used by private contracts and proofs alone: programs that have a graph, with it.
use Rattle.std.specs.Prelude.{ℕ, ◌≤◌, List}
use Rattle.machine_model.specs.Limits.{max_part}
use Rattle.insn_codec.specs.Spelling.{IsProgram}
use Rattle.flow_graph.specs.Program.{code_of}
use Rattle.flow_graph.specs.Refusals.{IsBuilt}
use Rattle.explain.specs.declared.graphed_program.GraphedProgram.{GraphedProgram}

pub record HasGraph (need : ℕ) (code : List ℕ) (whole : GraphedProgram) : Type 0 where
  pub small : need ≤ max_part
  pub program : IsProgram whole.placed.items code
  pub built : IsBuilt (code_of whole.placed.items) whole.graph
