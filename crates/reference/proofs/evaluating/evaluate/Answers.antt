use Rattle.std.proofs.Common.{◌≡◌, ◌∙◌, ◌++◌, ◌∷◌, arith, inl, inr, Contains, List, Vec, [], ap, length, map, refl, subst, sym, Ok}
use Rattle.std.proofs.lemmas.List.{nil_from_length}
use Rattle.std.proofs.lemmas.List.Elements.{Contains-append_left, Contains-push}
use Rattle.std.proofs.lemmas.Result.{err_from_is_err_and}
use Rattle.machine_model.specs.JobState.{Task}
use Rattle.task_trees.specs.Eval.{root}
use Rattle.std.specs.declared.alloc.Global.{Global}
use Rattle.task_trees.specs.Answer.{RootComes}
use Rattle.reference.specs.Records.{program_of, task_of}
use Rattle.reference.proofs.FarEvaluations.{one_more}
use Rattle.reference.proofs.RunLemmas.{same_error}
use Rattle.reference.specs.Evaluating.{ComesFar, finished_of, used_so_far}
use Rattle.reference.specs.declared.evaluating.Pending.{Pending}
use Rattle.reference.proofs.Spending.{path_spends}
use Rattle.reference.specs.declared.evaluating.FinishedTask.{FinishedTask}
use Rattle.reference.proofs.Evaluations.{path_starts, path_over, path_popped, path_caught}
use Rattle.reference.proofs.evaluating.evaluate.Goals as goal

pub loop-init : goal.loop-init
loop-init c = record {
  comes = path_starts (map program_of c.args.programs.now) c.args.credit c.args.buffer.items c.new-path.result.items c.push.new.self.items c.new-done.result.items
      (record { task = c.root-root.result; bytes = c.args.buffer }) (c.root-root.ensures c.args.buffer.items (sym (ap length c.as_slice.ensures.value))) refl c.new-path.ensures.items
      c.in_ok-push.ensures.items c.new-done.ensures.items;
  spent = omega arith;
  far = λ p in_it.
      let first : Pending = record { task = c.root-root.result; bytes = c.args.buffer } in
      elim (one_more c.new-path.result.items c.push.new.self.items first p
      (λ (x : Pending). ComesFar (map program_of c.args.programs.now) (task_of x.task) x.bytes.items
      → ComesFar (map program_of c.args.programs.now) (root c.args.credit c.args.buffer.items) c.args.buffer.items) c.in_ok-push.ensures.items
      (λ far. subst (λ (t : Task). ComesFar (map program_of c.args.programs.now) t c.args.buffer.items)
      (c.root-root.ensures c.args.buffer.items (sym (ap length c.as_slice.ensures.value))) far) in_it) [
        | inl before ↦ let none : Contains [] p = subst (λ (ps : List Pending). Contains ps p) c.new-path.ensures.items before in
            absurd (omega (arith, none.1))
        | inr holds ↦ holds
      ];
}

pub returns-in_default-clause-comes : goal.returns-in_default-clause-comes
returns-in_default-clause-comes c = λ fs is.
    let same : c.loop.done ≡ fs = cc in
    let none : c.loop.path.items ≡ [] = nil_from_length c.loop.path.items (sym c.loop.path.ok.0 ∙ c.in_default.ensures.cases.0) in
    subst (λ (v : Vec FinishedTask Global). RootComes (map program_of c.args.programs.now) c.args.credit c.args.buffer.items (map finished_of v.items)) same
    ((c.loop.invariant.comes (map finished_of c.loop.done.items)).1 (path_over (map program_of c.args.programs.now) c.loop.path.items c.loop.done.items none))

pub returns-then-not-branch-clause-traps : goal.returns-then-not-branch-clause-traps
returns-then-not-branch-clause-traps c = λ _ fs a.
    path_caught (map program_of c.args.programs.now) c.loop.path.items c.pop.new.self.items c.loop.done.items c.in-Some.next c.in-Some.ensures.items
    (c.in_ok-advance.ensures.traps (ap Ok c.if-not-branch.true)) fs ((c.loop.invariant.comes fs).0 a)

pub loop-preserved : goal.loop-preserved
loop-preserved c = record {
  comes = λ fs.
      let step = path_popped (map program_of c.args.programs.now) c.loop.path.items c.pop.new.self.items c.advance.new.path.items c.loop.done.items
      c.advance.new.done.items c.in-Some.next c.in-Some.ensures.items (c.in_ok-advance.ensures.goes (ap Ok c.if-not-branch.false)) fs in
      (λ a. step.0 ((c.loop.invariant.comes fs).0 a), λ a. (c.loop.invariant.comes fs).1 (step.1 a));
  spent =
      let more = c.in_ok-advance.ensures.spends (ap Ok c.if-not-branch.false) in
      let same : used_so_far c.loop.path.items c.loop.done.items ≡ used_so_far (c.pop.new.self.items ++ c.in-Some.next ∷ []) c.loop.done.items =
      ap (λ (path : List Pending). used_so_far path c.loop.done.items) c.in-Some.ensures.items in
      omega (arith, more, same, c.loop.invariant.spent);
  far = λ p in_it.
      let popped = λ (x : Pending) (there : Contains (c.pop.new.self.items ++ c.in-Some.next ∷ []) x).
      c.loop.invariant.far x (subst (λ (ps : List Pending). Contains ps x) (sym c.in-Some.ensures.items) there) in
      elim (c.in_ok-advance.ensures.onward (ap Ok c.if-not-branch.false) p in_it) [
        | inl before ↦ popped p (Contains-append_left c.pop.new.self.items (c.in-Some.next ∷ []) p before)
        | inr leads ↦ λ far. popped c.in-Some.next (Contains-push c.pop.new.self.items c.in-Some.next) (leads far)
      ];
}

pub returns-clause-goes_on : goal.returns-clause-goes_on
returns-clause-goes_on c = λ _ fs a.
    let spends = path_spends (map program_of c.args.programs.now) c.loop.path.items c.loop.done.items fs ((c.loop.invariant.comes fs).0 a) in
    omega (arith, spends, c.loop.invariant.spent, c.loop-test.false, c.loop.auto.counter-end)

pub returns-in_err-advance-clause-far : goal.returns-in_err-advance-clause-far
returns-in_err-advance-clause-far c = λ is.
    let p = err_from_is_err_and c.from_residual-in_err-advance.result c.from_residual-in_err-advance.ensures.1 in
    let far = c.in_err-advance.ensures.far (same_error _ _ _ _ p.1 p.2 is) in
    c.loop.invariant.far c.in-Some.next (subst (λ (ps : List Pending). Contains ps c.in-Some.next) (sym c.in-Some.ensures.items)
    (Contains-push c.pop.new.self.items c.in-Some.next)) far
