-- Numbers that never fall along an edge: none comes back to a slot whose edges all lead up.
use Rattle.std.proofs.Common.{◌≡◌, ℕ, ◌≤◌, ◌<◌, List, [], ◌∷◌, length, arith, Bool, IsTrue, ◌↔◌, sym, ◌∙◌, slice_index_or, false}
use Rattle.std.proofs.lemmas.List.{get_or_default}
use Rattle.machine_model.specs.Edges.{Code}
use Rattle.flow_graph.specs.Cycles.{IsPath, IsOnCycle}
use Rattle.flow_graph.specs.Reached.{AreAhead}
use Rattle.flow_graph.specs.Numbers.{number_at, NeverFall, LeadsOn, LeadsUp}
use Rattle.flow_graph.proofs.CodeLemmas.{begins_below}
use Rattle.flow_graph.proofs.OrderLemmas.{joint_begins}

path_up : (code : Code) (numbers : List ℕ) (from : ℕ) → NeverFall code numbers → LeadsUp code numbers from →
    (path : List ℕ) (s : ℕ) → IsPath code from path s → number_at numbers from < number_at numbers s
path_up code numbers from never up [] s h = up s h
path_up code numbers from never up (p ∷ path) s h =
    let first : number_at numbers from < number_at numbers p = path_up code numbers from never up path p h.1 in
    let last : number_at numbers p ≤ number_at numbers s = never p s h.0 in
    omega arith

pub no_way_back : (code : Code) (numbers : List ℕ) (slot : ℕ) → NeverFall code numbers → LeadsUp code numbers slot → IsOnCycle code slot → ⊥
no_way_back code numbers slot never up cycle =
    let less : number_at numbers slot < number_at numbers slot = path_up code numbers slot never up cycle.0 slot cycle.1 in
    omega arith

-- what holds of the edges from all slots of the code
pub all_edges : (code : Code) (numbers : List ℕ) (n : ℕ) → length code ≤ n →
    ((p : ℕ) → p < n → LeadsOn code numbers p) → NeverFall code numbers
all_edges code numbers n long below p s joint =
    let lt : p < length code = begins_below code p (joint_begins code p s joint) in
    let under : p < n = omega arith in
    below p under s joint

-- the mark of the slot that a walk began at
pub own_mark : (code : Code) (slot : ℕ) (marks : List Bool) (b : Bool) → AreAhead code slot marks → slot < length code →
    b ≡ slice_index_or marks slot b → IsTrue b ↔ IsOnCycle code slot
own_mark code slot marks b a lt is =
    let inside : slot < length marks = omega (arith, a.slots) in
    let same : b ≡ slice_index_or marks slot false = is ∙ get_or_default marks slot b false inside in (
      λ on. a.ahead slot (sym same ∙ on),
      λ cycle. same ∙ a.each cycle.0 slot cycle.1,
    )
