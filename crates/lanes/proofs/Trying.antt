-- A worker tries the ways into the others' lanes one after the other.
use Rattle.std.proofs.Common.{◌≡◌, ℕ, zero, suc, ◌+◌, ◌<◌, List, [], ◌∷◌, length, get_or, set, subst, arith}
use Rattle.lanes.specs.declared.moves.TicketData.{TicketData}
use Rattle.lanes.specs.Sharing.{InOther, GaveNone, FirstGaveNone}

module _ {X : Type 0} (task : X → TicketData) (tries : ℕ) where
  one_more : (place : ℕ) (old now : List InOther) (way tried : InOther) → place < length now → way ≡ get_or now place way
      → GaveNone task tries way tried → FirstGaveNone task tries place old now → FirstGaveNone task tries (suc place) old (set now place tried)
  one_more zero old [] way tried lt here none so_far = absurd (let never : ⊥ = omega (arith, lt) in never)
  one_more zero [] (y ∷ ys) way tried lt here none so_far = absurd (let never : ⊥ = cc in never)
  one_more zero (x ∷ xs) (y ∷ ys) way tried lt here none so_far =
      let first : way ≡ x = cc in
      let rest : ys ≡ xs = cc in
      (subst (λ (w : InOther). GaveNone task tries w tried) first none, rest)
  one_more (suc place) [] now way tried lt here none so_far = absurd so_far
  one_more (suc place) (x ∷ xs) [] way tried lt here none so_far = absurd so_far
  one_more (suc place) (x ∷ xs) (y ∷ ys) way tried lt here none so_far =
      (so_far.0, one_more place xs ys way tried (omega (arith, lt)) here none so_far.1)

  pub one_more_tried : (place : ℕ) (old now : List InOther) (way tried : InOther) → place < length now → way ≡ get_or now place way
      → GaveNone task tries way tried → FirstGaveNone task tries place old now → FirstGaveNone task tries (place + 1) old (set now place tried)
  one_more_tried place old now way tried lt here none so_far =
      let next : suc place ≡ place + 1 = omega arith in
      subst (λ (n : ℕ). FirstGaveNone task tries n old (set now place tried)) next (one_more place old now way tried lt here none so_far)
