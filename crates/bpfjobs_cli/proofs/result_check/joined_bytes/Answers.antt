use Rattle.std.proofs.Common.{◌∙◌, ap, sym, map, ◌++◌, ◌∷◌, []}
use Rattle.std.proofs.lemmas.List.{map-append}
use Rattle.machine_model.specs.Memory.{written}
use Rattle.reference.specs.Evaluating.{finished_of}
use Rattle.bpfjobs_cli.proofs.ResultLemmas.{joined_overlaid, overlaid, overlaid_last}
use Rattle.bpfjobs_cli.proofs.result_check.joined_bytes.Goals as goal

pub tasks-init : goal.tasks-init
tasks-init c =
    joined_overlaid c.args.size (map finished_of c.args.tasks.now)
    ∙ ap (λ m. overlaid m (map finished_of c.args.tasks.now)) (sym (c.in_ok-whole.ensures.items_if_clones_equal (λ y h. h)))

pub tasks-preserved : goal.tasks-preserved
tasks-preserved c =
    c.tasks.invariant
    ∙ ap (λ l. overlaid c.tasks.whole.items (map finished_of l)) c.in-Some.ensures.cases.0
    ∙ ap (overlaid c.tasks.whole.items) (map-append finished_of c.in-Some.others.now (c.in-Some.task.now ∷ []))
    ∙ overlaid_last c.tasks.whole.items (map finished_of c.in-Some.others.now) (finished_of c.in-Some.task.now)
    ∙ ap (λ m. overlaid m (map finished_of c.in-Some.others.now)) (sym (c.in_ok-whole-2.ensures ∙ ap (written c.tasks.whole.items c.in-Some.task.now.ending.base) c.deref.ensures.value))
