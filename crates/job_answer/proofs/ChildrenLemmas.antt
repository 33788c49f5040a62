-- A task's seat knows just the children that the task was given.
use Rattle.std.proofs.Common.{◌≡◌, ℕ, ◌+◌, List, [], ◌∷◌, ◌++◌, map, Bool, true, false, Result, refl, sym, ◌∙◌, ap, inl, inr}
use Rattle.std.proofs.lemmas.List.{append_assoc, append-nil}
use Rattle.helpers.specs.declared.spawner.SpawnRecord.{SpawnRecord}
use Rattle.interpreter.specs.Telling.{Took, NotSpawned, IsRecordOf}
use Rattle.virtual_machine.specs.Through.{GoesThrough, if_refused}
use Rattle.task_trees.specs.Solo.{SpawnRequest}
use Rattle.task_register.specs.declared.seats.TaskStart.{TaskStart}
use Rattle.task_register.specs.declared.seats.SeatedTask.{SeatedTask}
use Rattle.job_answer.specs.SpawnTree.{taken, if_taken}
use Rattle.job_answer.specs.Gathered.{handed}
use Rattle.job_answer.specs.Children.{start_of, AddsEachChild, HasAdded}

started_so : (number base : ℕ) (child : SpawnRecord) (a : SpawnRequest) → IsRecordOf child a.birth (base + a.at) → start_of number child ≡ handed number base a
started_so number base child a of =
    let p = of.program in let s = of.share in let g = of.arg in let b = of.bytes in let at = of.starts in cc

record OneBorne (base : ℕ) (old : SeatedTask) (a : List SpawnRequest) (new : SeatedTask) : Type 0 where
  pub number : new.number ≡ old.number
  pub birth : new.birth ≡ old.birth
  pub children : new.children ≡ old.children ++ map (handed old.number base) a

module _ {S : Type 0} (own : S → SeatedTask) (spawns : S → SpawnRecord → Result (Unit {0}) SpawnRecord → S → Type 0) (bears : AddsEachChild own spawns) (base : ℕ) where
  one_reply : (old mid : S) (a : SpawnRequest) (b : Bool) →
      if_refused b (Took a.birth (base + a.at) (λ child reply. spawns old child reply mid)) (NotSpawned a.birth (base + a.at) (λ child reply. spawns old child reply mid) (mid ≡ old)) →
      OneBorne base (own old) (if_taken b a []) (own mid)
  one_reply old mid a false told =
      let is = bears.took old mid told.0 told.2 in
      let start = started_so (own old).number base told.0 a told.1 in
      record {
        number = ap (λ (o : SeatedTask). o.number) is;
        birth = ap (λ (o : SeatedTask). o.birth) is;
        children = ap (λ (o : SeatedTask). o.children) is ∙ ap (λ (s : TaskStart). (own old).children ++ s ∷ []) start;
      }
  one_reply old mid a true (inl told) =
      let is = bears.refused old mid told.0 told.0 told.2 in
      record {
        number = ap (λ (o : SeatedTask). o.number) is;
        birth = ap (λ (o : SeatedTask). o.birth) is;
        children = ap (λ (o : SeatedTask). o.children) is ∙ sym (append-nil (own old).children);
      }
  one_reply old mid a true (inr same) = record {
    number = ap (λ (s : S). (own s).number) same;
    birth = ap (λ (s : S). (own s).birth) same;
    children = ap (λ (s : S). (own s).children) same ∙ sym (append-nil (own old).children);
  }

  taken_first : (number : ℕ) (a : SpawnRequest) (later : List SpawnRequest) (b : Bool) →
      map (handed number base) (if_taken b a []) ++ map (handed number base) (taken later) ≡ map (handed number base) (if_taken b a (taken later))
  taken_first number a later true = refl
  taken_first number a later false = refl

  -- what the spawner went through are the children that the seat knows
  pub has_borne : (old new : S) (asked : List SpawnRequest) → GoesThrough spawns base old asked new → HasAdded base (own old) asked (own new)
  has_borne old new [] through = record {
    number = ap (λ (s : S). (own s).number) through;
    birth = ap (λ (s : S). (own s).birth) through;
    children = ap (λ (s : S). (own s).children) through ∙ sym (append-nil (own old).children);
  }
  has_borne old new (a ∷ later) through =
      let mid = through.0 in
      let first = one_reply old mid a a.refused through.1 in
      let rest = has_borne mid new later through.2 in
      record {
        number = rest.number ∙ first.number;
        birth = rest.birth ∙ first.birth;
        children = rest.children
            ∙ ap (λ l. l ++ map (handed (own mid).number base) (taken later)) first.children
            ∙ ap (λ n. ((own old).children ++ map (handed (own old).number base) (if_taken a.refused a [])) ++ map (handed n base) (taken later)) first.number
            ∙ append_assoc (own old).children (map (handed (own old).number base) (if_taken a.refused a [])) (map (handed (own old).number base) (taken later))
            ∙ ap (λ l. (own old).children ++ l) (taken_first (own old).number a later a.refused);
      }
