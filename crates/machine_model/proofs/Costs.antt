-- Costs fall along each edge by the price.
use Rattle.std.proofs.Common.{◌≡◌, ℕ, ◌+◌, ◌≤◌, List, ◌∷◌, ap, arith, Some, slice_index, sum_by}
use Rattle.std.proofs.lemmas.List.Sums.{sum_by-cons}
use Rattle.insn_codec.specs.declared.insn.Insn.{Insn}
use Rattle.machine_model.specs.Edges.{Code, Fact, IsEdge, Begins, insn_at, price}
use Rattle.machine_model.specs.Paths.{AreCosts, path_price, price_at, price_of}

price-at : (code : Code) (slot : ℕ) (i : Insn) → insn_at code slot ≡ Some i → price_at code slot ≡ price i
price-at code slot i e = ap price_of e

path_price-cons : (code : Code) (slot : ℕ) (path : List ℕ) → path_price code slot path ≡ price_at code slot + sum_by (price_at code) path
path_price-cons code slot path = sum_by-cons (price_at code) slot path

-- an instruction's price is held wherever its cost is
pub price_le_cost : (code : Code) (costs : List ℕ) (slot : ℕ) (i : Insn) → AreCosts code costs → insn_at code slot ≡ Some i →
    price i ≤ slice_index costs slot
price_le_cost code costs slot i are e =
    let c = are.each slot (i, e) in
    let total = path_price-cons code slot c.attained.0 in
    omega (arith, total, c.attained.2, price-at code slot i e)

-- the price and the cost of the next slot
pub cost_edge : (code : Code) (costs : List ℕ) (slot next : ℕ) (fact : Fact) (i : Insn) → AreCosts code costs → insn_at code slot ≡ Some i →
    IsEdge code slot fact next → Begins code next → price i + slice_index costs next ≤ slice_index costs slot
cost_edge code costs slot next fact i are e edge begins =
    let c = are.each slot (i, e) in
    let n = are.each next begins in
    let along = c.greatest (next ∷ n.attained.0) ((fact, edge), n.attained.1) in
    let total = path_price-cons code slot (next ∷ n.attained.0) in
    omega (arith, along, total, n.attained.2, price-at code slot i e)
