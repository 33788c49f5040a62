use Rattle.std.proofs.Common.{◌≡◌, ℕ, List, None, Some, ap, min, ◌∙◌}
use Rattle.std.proofs.Math.ListN.{replicate}
use Rattle.std.proofs.lemmas.Result.{IfOk-weaker}
use Rattle.bpfrun_core.specs.Answered.{need_of}
use Rattle.bpfrun_core.proofs.answering.answer.Goals as goal

pub returns-in-Some : goal.returns-in-Some
returns-in-Some c =
    let need : c.need_of-need.result ≡ need_of c.args.asked.now.need (Some c.in-Some.memory.items) = c.need_of-need.ensures ∙ ap (λ (b : List ℕ). need_of c.args.asked.now.need (Some b)) c.deref.ensures.value in
    IfOk-weaker c.answer_input.result _ _ (λ a p. (c.answer_input.new.memory, rw c.in-Some.is (rw (need, c.deref_mut.ensures.value) at p))) c.answer_input.ensures

pub returns-in_ok-zeros-in-None : goal.returns-in_ok-zeros-in-None
returns-in_ok-zeros-in-None c =
    let need : c.need_of-need-in-None.result ≡ need_of c.args.asked.now.need None = c.need_of-need-in-None.ensures in
    let few : c.min.result ≡ min (need_of c.args.asked.now.need None) 65536 = c.min.ensures ∙ ap (λ (n : ℕ). min n 65536) need in
    let part : c.deref_mut-in-None.result.now ≡ replicate (min (need_of c.args.asked.now.need None) 65536) 0 = c.deref_mut-in-None.ensures.value ∙ (c.in_ok-zeros-in-None.ensures.items_if_clones_equal (λ y h. h) ∙ ap (λ (n : ℕ). replicate n 0) few) in
    IfOk-weaker c.answer_input-in-None.result _ _ (λ a p. (c.answer_input-in-None.new.memory, rw c.in-None.is (rw (need, part) at p))) c.answer_input-in-None.ensures
