use Rattle.std.proofs.Common.{ap, rules, ◌∙◌, ◌∷◌, [], ◌++◌, List}
use Rattle.std.proofs.lemmas.Result.{IfOk-weaker}
use Rattle.explain.specs.Faults.{faults, no_graph}
use Rattle.explain.specs.Told.{ruled_slot}
use Rattle.explain.specs.declared.explanation.Explanation.{Explanation}
use Rattle.explain.proofs.FaultLemmas.{flow_of}
use Rattle.explain.proofs.faults.explain_all.Goals as goal

pub explain_refusal-requires : goal.explain_refusal-requires
explain_refusal-requires c = record { refused = c.in-Err.ensures.0 c.args.helpers.now; lasting = search rules }

pub returns-in-Err : goal.returns-in-Err
returns-in-Err c =
    no_graph c.in_ok-explain_refusal-in-Err.field-0 c.in_ok-explain_refusal-in-Err.ensures.told (ap ruled_slot c.in_ok-explain_refusal-in-Err.ensures.same ∙ c.in-Err.ensures.1)
    (c.in_ok-push-in-Err.ensures.items ∙ ap (λ (l : List Explanation). l ++ c.in_ok-explain_refusal-in-Err.field-0 ∷ []) c.new-list.ensures.items)

pub returns : goal.returns
returns c =
    IfOk-weaker c.faults.result _ _ (λ list told.
    faults c.in-Ok.ensures.small c.in-Ok.whole.placed.items c.in-Ok.ensures.program (flow_of _ c.in-Ok.whole.graph c.in-Ok.ensures.built)
    _ c.in_ok-lines.ensures (rw (c.deref.ensures.value, c.deref-2.ensures.value, c.in-Ok.ensures.built.same) at told)) c.faults.ensures
