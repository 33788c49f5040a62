-- What a function of the host's may answer.
use Rattle.std.specs.Prelude.{ℕ}
use Rattle.machine_model.specs.Alone.{MayAnswer}
use Rattle.yielding.specs.declared.event.Question.{Question}

-- The function may answer so to a call, in some state of its own. `step f question word g` says
-- that it may answer the word to the question, and goes from one state to the other.
abbrev pub may_answer_by : {F : Type 0} → (F → Question → ℕ → F → Type 0) → MayAnswer
may_answer_by {F = F} step helper arguments word =
    (f : F) × (g : F) × step f (record { helper = helper; arguments = arguments }) word g
