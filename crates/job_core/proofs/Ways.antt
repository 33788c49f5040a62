-- One task's place, from its parent's.
use Rattle.std.proofs.Common.{◌≡◌, ℕ, suc, ◌<◌, ◌≤◌, ◌-◌, List, [], ◌∷◌, ◌++◌, get_or, length, take, reverse, slice_get, sym, ◌∙◌, arith, ap, Some}
use Rattle.std.proofs.lemmas.Option.{slice_get-get_or}
use Rattle.std.proofs.lemmas.List.{append_assoc, reverse-append}
use Rattle.machine_model.specs.JobState.{Member}
use Rattle.task_trees.specs.Families.{place_of, children_of, AreParents}

module _ (parents : List ℕ) (at : ℕ) (over : 0 < at) (within : at ≤ length parents) where
  parent_there : slice_get parents (at - 1) ≡ Some (get_or parents (at - 1) 0)
  parent_there = slice_get-get_or parents (at - 1) 0 (omega (arith, over, within))

  pub parent_older : (tasks : List Member) → AreParents parents tasks → get_or parents (at - 1) 0 ≤ length parents
  parent_older tasks are =
      let le = are.older (at - 1) (get_or parents (at - 1) 0) parent_there in omega (arith, le, within)

  pub parent_less : (tasks : List Member) → AreParents parents tasks → get_or parents (at - 1) 0 < at
  parent_less tasks are =
      let le = are.older (at - 1) (get_or parents (at - 1) 0) parent_there in omega (arith, le, over)

  -- a step on the way up
  pub one_up : (tasks : List Member) (m a : Member) (noted next : List ℕ) (nth : ℕ) → AreParents parents tasks →
      slice_get tasks (get_or parents (at - 1) 0) ≡ Some a → nth ≡ suc (children_of (get_or parents (at - 1) 0) (take (at - 1) parents)) →
      next ≡ noted ++ nth ∷ [] → ((b : Member) → slice_get tasks at ≡ Some b → place_of m ≡ place_of b ++ reverse noted) →
      place_of m ≡ place_of a ++ reverse next
  one_up tasks m a noted next nth are there is made way =
      let long = are.long in
      let here = slice_get-get_or tasks at a (omega (arith, within, long)) in
      let b : Member = get_or tasks at a in
      let split : suc (at - 1) ≡ at = omega (arith, over) in
      let place = are.each (at - 1) (get_or parents (at - 1) 0) b a parent_there (ap (slice_get tasks) split ∙ here) there in
      way b here ∙ ap (λ (l : List ℕ). l ++ reverse noted) (place ∙ ap (λ (i : ℕ). place_of a ++ i ∷ []) (sym is))
      ∙ append_assoc (place_of a) (nth ∷ []) (reverse noted)
      ∙ ap (λ (l : List ℕ). place_of a ++ l) (sym (ap reverse made ∙ reverse-append noted (nth ∷ [])))

-- at the top there is no more to add
pub at_top : (parents : List ℕ) (tasks : List Member) (at : ℕ) (m : Member) (noted : List ℕ) → AreParents parents tasks → at ≤ 0 →
    ((a : Member) → slice_get tasks at ≡ Some a → place_of m ≡ place_of a ++ noted) → noted ≡ place_of m
at_top parents tasks at m noted are low way =
    let long = are.long in
    let here = slice_get-get_or tasks at m (omega (arith, low, long)) in
    let zero_is : at ≡ 0 = omega (arith, low) in
    let top = are.top (get_or tasks at m) (ap (slice_get tasks) (sym zero_is) ∙ here) in
    sym (way (get_or tasks at m) here ∙ ap (λ (l : List ℕ). l ++ noted) top)
