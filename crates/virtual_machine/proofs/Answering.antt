-- What the functions answer is what the run asks for.
use Rattle.std.proofs.Common.{◌≡◌, ℕ, subst, Option, Some, List}
use Rattle.verifier.specs.Checked.{Checked}
use Rattle.virtual_machine.specs.declared.functions.Functions.{Functions}
use Rattle.virtual_machine.specs.declared.registered.Registered.{Registered}
use Rattle.virtual_machine.specs.Functions.{HaveFunctions, function_of, may_answer, call_answers}
use Rattle.virtual_machine.proofs.Asking.{has_function}
use Rattle.virtual_machine.proofs.AloneLemmas.{AreAnswers}

-- the function that there is answers
there_called : {X : Type 0} {g : _} (functions : List (Option (Registered X g))) (helper : ℕ) (arguments : List ℕ) (answer : ℕ) →
    (f : Registered X g) → function_of functions helper ≡ Some f → may_answer (function_of functions helper) arguments answer →
    call_answers functions helper arguments answer
there_called functions helper arguments answer f is may = (f, is, subst (λ o. may_answer o arguments answer) is may)

pub are_answers : {X : Type 0} {g : _} (p : Checked) (first now after : Functions X g) → now ≡ first → HaveFunctions p.helpers first.places.items →
    AreAnswers p (call_answers first.places.items)
    (λ helper arguments answer. (after ≡ now) × may_answer (function_of now.places.items helper) arguments answer) (after ≡ now)
are_answers p first now after quiet have helper arity arguments answer over is asked =
    let there = has_function p.helpers first.places.items helper arity have over is in (
      there_called first.places.items helper arguments answer there.0 there.1
          (subst (λ (fs : Functions _ _). may_answer (function_of fs.places.items helper) arguments answer) quiet asked.1),
      asked.0,
    )
