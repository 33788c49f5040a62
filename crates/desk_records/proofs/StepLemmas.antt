-- Two steps of a store.
use Rattle.std.proofs.Common.{◌≡◌, ◌≤◌, IsTrue, inl, inr, ap, refl, ◌∙◌, arith}
use Rattle.sqlite_trees.specs.declared.store.Store.{Ghosts}
use Rattle.sqlite_trees.specs.Tree.{Trees}
use Rattle.desk_store.specs.RowStores.{ChangesBatch, IsCalm, now_in}
use Rattle.desk_records.specs.Changes.{GoesOn}

pub goes : {S : Type 0} (g : Ghosts S) (a b : S) (rows : Trees) → ChangesBatch g a b rows → GoesOn g a b rows
goes g a b rows step = record { now_is = step.now_is; kept_is = step.kept_is; opens = (λ h. step.is_open, λ h. step.was_open); reals_are = step.reals_are }

pub goes_then : {S : Type 0} (g : Ghosts S) (a b c : S) (mid : Trees) (edit : Trees → Trees) → GoesOn g a b mid → GoesOn g b c (edit (now_in g b)) → GoesOn g a c (edit mid)
goes_then g a b c mid edit first second = record {
  now_is = second.now_is ∙ ap edit first.now_is;
  kept_is = second.kept_is ∙ first.kept_is;
  opens = (λ h. second.opens.0 (first.opens.0 h), λ h. first.opens.1 (second.opens.1 h));
  reals_are = second.reals_are ∙ first.reals_are;
}

pub calm_then : {S : Type 0} (g : Ghosts S) (a b c : S) → IsCalm g a b → IsCalm g b c → IsCalm g a c
calm_then g a b c first second = record {
  shield = λ h. second.shield (first.shield h);
  clean = omega (arith, first.clean, second.clean);
  counts = omega (arith, first.counts, second.counts);
  closes = λ clean is_open. elim (first.closes (omega (arith, second.clean)) is_open) [
    | inl still ↦ elim (second.closes clean still) [ inl last ↦ inl last | inr fault ↦ inr (omega (arith, first.counts, fault)) ]
    | inr fault ↦ inr (omega (arith, second.counts, fault))
  ];
  outcomes = λ db h. first.outcomes db (second.outcomes db h);
}
