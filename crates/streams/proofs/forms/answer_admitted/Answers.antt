use Rattle.std.proofs.Common.{sym, rules}
use Rattle.streams.proofs.Answered.{admitted_if, framed_as, taken_if, submits_by}
use Rattle.streams.proofs.EachForm.{to_admitted}
use Rattle.streams.proofs.forms.answer_admitted.Goals as goal

pub answer_taken-requires-clause-last : goal.answer_taken-requires-clause-last
answer_taken-requires-clause-last g c =
    let t = c.take-taken in
    taken_if t.result _ t.new.self _ _ t.ensures.taken t.ensures.number

pub returns-clause-done : goal.returns-clause-done
returns-clause-done g c =
    let t = c.take-taken in
    let s = c.submit.inside in
    framed_as c.answer_taken.result.1 _ _
    (λ told h. to_admitted g.N.Runner.starts g.N.Runner.looks _ _ _ _ told _ s.tenant s.programs.items s.credit s.buffer.value.items _ (sym c.submit.view_is) (search rules)
    (submits_by g.N.Runner.starts t.result _ t.new.self _ _ s.programs.items s.credit s.buffer.value.items t.ensures.taken t.ensures.number
    (admitted_if s.programs.items s.credit s.buffer.value.items s.admitted t.result c.submit.invariant.0 t.ensures.job)
    (t.ensures.refused s.programs.items s.buffer.value.items c.submit.invariant.0) t.ensures.unchanged told _ _ h))
    c.answer_taken.ensures.done
