-- What arrives at each slot, as a table, and what is known at a slot that is refused.
use Rattle.std.specs.Prelude.{◌≡◌, ℕ, ◌≤◌, ◌<◌, List, Option, Some, None, length, slice_index, slice_index_or}
use Rattle.machine_model.specs.Edges.{Always, NotTaken, Taken}
use Rattle.flow_graph.specs.Cycles.{IsJoint}
use Rattle.verifier.specs.InStates.{Subject, InState, Unreached, Undefined, Reached, joined_in_state, joined_edges, edge_state, in_state}
use Rattle.explain.specs.declared.arriving.Arrival.{Arrival}
use Rattle.explain.specs.declared.arriving.Arrival.TheVariants as arrival
use Rattle.explain.specs.declared.arriving.AnalyzedProgram.{AnalyzedProgram}

abbrev pub subject_of_program : AnalyzedProgram → Subject
subject_of_program analyzed = record {
  need = analyzed.need;
  helpers = analyzed.helpers.now;
  code = analyzed.graph.now.code;
}

-- an arrival as the definition has it
abbrev pub arriving : Arrival → InState
arriving arrival.Unreached = Unreached
arriving arrival.Undefined = Undefined
arriving (arrival.Reached state) = Reached state

-- what the table has of a slot
abbrev pub arriving_at : List Arrival → ℕ → InState
arriving_at table s = arriving (slice_index_or table s arrival.Unreached)

-- what passes the edges from slot k to s joins what has come there
abbrev pub joined_from : Subject → (ℕ → InState) → ℕ → ℕ → InState → InState
joined_from p f s k a =
    joined_in_state (joined_in_state (joined_in_state a (edge_state p f s k Always))
    (edge_state p f s k NotTaken)) (edge_state p f s k Taken)

-- Used by private contracts and proofs alone: what has come to a slot from the slots that lead there
-- below this one, which leads there too, or from all of them.
abbrev pub IsJoinedTo : Subject → (ℕ → InState) → ℕ → InState → Option ℕ → Type 0
IsJoinedTo p f s a None = a ≡ joined_edges p f s (length p.code)
IsJoinedTo p f s a (Some q) = IsJoint p.code q s × (a ≡ joined_edges p f s q)

-- the table has what arrives at each slot
pub record AreArrivals (p : Subject) (table : List Arrival) : Type 0 where
  pub slots : length table ≡ length p.code
  pub each : (s : ℕ) → s < length p.code → arriving_at table s ≡ in_state p s

-- it has it for the slots at the first places of the order, and nothing of the others
pub record AreFilled (p : Subject) (order : List ℕ) (place : ℕ) (table : List Arrival) :
    Type 0 where
  pub slots : length table ≡ length p.code
  pub few : place ≤ length order
  pub each : (q : ℕ) → q < place → arriving_at table (slice_index order q)
      ≡ in_state p (slice_index order q)
  pub others : (s : ℕ) → ((q : ℕ) → q < place → slice_index order q ≡ s → ⊥)
      → arriving_at table s ≡ Unreached
