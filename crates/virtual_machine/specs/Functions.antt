-- What the functions of a caller may answer.
use Rattle.std.specs.Prelude.{◌≡◌, ◌≢◌, ℕ, ◌-◌, nat_lt, List, [], ◌∷◌, Option, Some, None, slice_index_or, if◌then◌else◌}
use Rattle.helpers.specs.Table.{Table, arity_in}
use Rattle.virtual_machine.specs.declared.registered.Registered.{Registered}

-- what a function may answer to five arguments
abbrev pub FunctionAnswers : Type 1
FunctionAnswers = ℕ → ℕ → ℕ → ℕ → ℕ → ℕ → Type 0

-- what a function may answer to a list of five arguments
abbrev pub to_list : FunctionAnswers → List ℕ → ℕ → Type 0
to_list post [] answer = ⊥
to_list post (a ∷ []) answer = ⊥
to_list post (a ∷ b ∷ []) answer = ⊥
to_list post (a ∷ b ∷ c ∷ []) answer = ⊥
to_list post (a ∷ b ∷ c ∷ d ∷ []) answer = ⊥
to_list post (a ∷ b ∷ c ∷ d ∷ e ∷ []) answer = post a b c d e answer
to_list post (a ∷ b ∷ c ∷ d ∷ e ∷ f ∷ more) answer = ⊥

-- what the function that a caller registered may answer
abbrev pub answers : {X : Type 0} {g : _} → Registered X g → List ℕ → ℕ → Type 0
answers {g = g} f = to_list (λ a b c d e answer.
    g.post f.function (a, (b, (c, (d, (e, tt))))) answer)

-- the function of this id, of which the first is 64
abbrev pub function_of : {R : Type 0} → List (Option R) → ℕ → Option R
function_of functions id = if nat_lt id 64 then None else slice_index_or functions (id - 64) None

-- what a call of this function may answer; where there is none, anything
abbrev pub may_answer : {X : Type 0} {g : _} → Option (Registered X g) → List ℕ → ℕ → Type 0
may_answer None arguments answer = Unit {0}
may_answer (Some f) arguments answer = answers f arguments answer

-- there is a function of this id, which may answer so
abbrev pub call_answers : {X : Type 0} {g : _} → List (Option (Registered X g)) → ℕ → List ℕ → ℕ
    → Type 0
call_answers functions id arguments answer =
    (f : _) × (function_of functions id ≡ Some f) × answers f arguments answer

-- the same helpers, with the same numbers of arguments
abbrev pub AreSameHelpers : Table → Table → Type 0
AreSameHelpers table other = (id : ℕ) → arity_in table id ≡ arity_in other id

-- each helper that was added to the table has a function
abbrev pub HaveFunctions : {R : Type 0} → Table → List (Option R) → Type 0
HaveFunctions table functions =
    (place arity : ℕ) → slice_index_or table place None ≡ Some arity
    → slice_index_or functions place None ≢ None
