use Rattle.std.proofs.Common.{◌∙◌}
use Rattle.server_state.specs.States.{id_at, steps_of}
use Rattle.server_state.proofs.RefusedResults.{told_refusal}
use Rattle.server_state.proofs.ResultLemmas.{comes_at_each, told_at_each}
use Rattle.server_state.proofs.result_laws.results_come_from_submits.Goals as goal

pub returns : goal.returns
returns g c = record {
  told = λ first s events place begun desk happens there last now known are before after e number is asks.
      told_at_each (steps_of g.N.JobRunner) g.N.JobEnds.at g.N.JobEnds.ends g.N.JobEnds.refuses g.met.N.JobEnds.runs place first s events begun desk happens there last now known are before after e number is asks;
  submitted = λ first s events place begun desk happens there last now known are before after e number is asks f.
      comes_at_each (steps_of g.N.JobRunner) g.N.JobEnds.at g.N.JobEnds.ends g.N.JobEnds.refuses g.met.N.JobEnds.runs place first s events begun desk happens there last now known are before after e number is asks f;
  refused = λ first s events place begun desk happens there last now known are before after e number code is asks sent small.
      told_refusal (λ n. g.N.JobEnds.ends (id_at place n)) g.N.JobEnds.refuses first.keep begun.keys known before number e code
      (told_at_each (steps_of g.N.JobRunner) g.N.JobEnds.at g.N.JobEnds.ends g.N.JobEnds.refuses g.met.N.JobEnds.runs place first s events begun desk happens there last now known are before after e number is asks) sent small;
  adds_up = λ place known before number e c b. c.adds_up ∙ b.is_submit.admitted.same_credit;
}
