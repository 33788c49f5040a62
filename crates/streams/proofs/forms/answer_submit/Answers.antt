use Rattle.streams.proofs.Answered.{framed_as, taken_if, submits_by}
use Rattle.streams.proofs.forms.answer_submit.Goals as goal

pub answer_taken-requires-clause-last : goal.answer_taken-requires-clause-last
answer_taken-requires-clause-last g c =
    let t = c.submit-taken in
    taken_if t.result c.args.desk.now t.new.self c.args.tenant.now c.args.credit t.ensures.taken t.ensures.number

pub returns-clause-done : goal.returns-clause-done
returns-clause-done g c =
    let t = c.submit-taken in
    framed_as c.answer_taken.result.1 _ _
    (λ told h. submits_by g.N.Runner.starts t.result c.args.desk.now t.new.self _ _ _ _ _ t.ensures.taken t.ensures.number t.ensures.admitted t.ensures.refused t.ensures.unchanged told _ _ h)
    c.answer_taken.ensures.done
