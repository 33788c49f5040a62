-- Why an evaluation has no answer.
use Rattle.std.proofs.Common.{◌≡◌, ◌⊎◌, inl, inr, ℕ, suc, List, [], ◌∷◌, ◌++◌, slice_get, sym, subst, false, Some, Contains}
use Rattle.std.proofs.lemmas.List.Elements.{Contains-push_cases}
use Rattle.machine_model.specs.Machine.{State, Program, Birth, Effect, Continues, Spawns, effect}
use Rattle.machine_model.specs.JobState.{Task, child_of, entries_of, with_state}
use Rattle.task_trees.specs.Eval.{parent_of, state_with}
use Rattle.reference.specs.Records.{IsFarEffect, task_of}
use Rattle.reference.specs.Evaluating.{GoesOnTo, ComesFarWithin, ComesFar}
use Rattle.reference.specs.declared.evaluating.Pending.{Pending}

module _ (programs : List Program) (t : Task) (bytes : List ℕ) (p : Program) (there : slice_get programs t.program ≡ Some p) where
  -- its own effect is too large
  pub far_here : IsFarEffect t false (effect p (entries_of programs) (state_with t bytes)) → ComesFar programs t bytes
  far_here far = (1, (p, there, inl far))

  module _ (e : Effect) (is : effect p (entries_of programs) (state_with t bytes) ≡ e) where
    further : (n : ℕ) → GoesOnTo (ComesFarWithin programs n) t e → ComesFar programs t bytes
    further n on = (suc n, (p, there, inr (subst (λ (f : Effect). GoesOnTo (ComesFarWithin programs n) t f) (sym is) on)))

  pub far_on : (s : State) (then : Pending) → effect p (entries_of programs) (state_with t bytes) ≡ Continues s → task_of then.task ≡ with_state t s →
      then.bytes.items ≡ s.part → ComesFar programs (task_of then.task) then.bytes.items → ComesFar programs t bytes
  far_on s then is task same far =
      further (Continues s) is far.0 (subst (λ bs. ComesFarWithin programs far.0 (with_state t s) bs) same
      (subst (λ (u : Task). ComesFarWithin programs far.0 u then.bytes.items) task far.1))

  pub far_parent : (birth : Birth) (taken refused : State) (parent : Pending) →
      effect p (entries_of programs) (state_with t bytes) ≡ Spawns birth taken refused → task_of parent.task ≡ parent_of t taken →
      parent.bytes.items ≡ taken.part → ComesFar programs (task_of parent.task) parent.bytes.items → ComesFar programs t bytes
  far_parent birth taken refused parent is task same far =
      further (Spawns birth taken refused) is far.0 (inr (subst (λ bs. ComesFarWithin programs far.0 (parent_of t taken) bs) same
      (subst (λ (u : Task). ComesFarWithin programs far.0 u parent.bytes.items) task far.1)))

  pub far_child : (birth : Birth) (taken refused : State) (born : Pending) →
      effect p (entries_of programs) (state_with t bytes) ≡ Spawns birth taken refused → task_of born.task ≡ child_of t taken birth →
      born.bytes.items ≡ birth.bytes → ComesFar programs (task_of born.task) born.bytes.items → ComesFar programs t bytes
  far_child birth taken refused born is task same far =
      further (Spawns birth taken refused) is far.0 (inl (subst (λ bs. ComesFarWithin programs far.0 (child_of t taken birth) bs) same
      (subst (λ (u : Task). ComesFarWithin programs far.0 u born.bytes.items) task far.1)))

-- what stands in a path with one task more
pub one_more : (path path' : List Pending) (last p : Pending) (X : Pending → Type 0) → path' ≡ path ++ last ∷ [] → X last → Contains path' p →
    Contains path p ⊎ X p
one_more path path' last p X e holds in_it =
    elim (Contains-push_cases path last p (subst (λ (ps : List Pending). Contains ps p) e in_it)) [
      | inl before ↦ inl before
      | inr same ↦ inr (subst X same holds)
    ]
