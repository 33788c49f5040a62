use Rattle.std.proofs.Common.{◌≡◌, ◌++◌, ◌∷◌, [], Ok, Err, map, refl, ap, ◌∙◌}
use Rattle.std.proofs.lemmas.List.{map-append}
use Rattle.job_core.specs.Admitted.{AdmittedJob}
use Rattle.server_state.specs.States.{steps_of}
use Rattle.server_handler.specs.Serving.{waiting_job}
use Rattle.server_handler.proofs.Waiting.{begun_first}
use Rattle.server_handler.proofs.server.begin_first.Goals as goal

pub returns-in-Ok-clause-begun : goal.returns-in-Ok-clause-begun
returns-in-Ok-clause-begun g c s some =
    begun_first (steps_of g.N.JobRunner) s c.args.waiting.now.items c.pop_front.new.self.items c.pop_front.new.self.items c.in-Some.first c.args.jobs.now c.start.new.self (Ok tt)
    c.in-Some.ensures.items c.in-Ok.ensures.starts refl

pub returns-in-Err-clause-begun : goal.returns-in-Err-clause-begun
returns-in-Err-clause-begun g c s some =
    let rest = c.pop_front.new.self.items in
    let first = c.in-Some.first in
    let back : map waiting_job c.push_back_reserved.new.self.items ≡ map waiting_job rest ++ waiting_job first ∷ [] =
    ap (map waiting_job) c.push_back_reserved.ensures.items ∙ map-append waiting_job rest (record { id = first.id; job = c.in-Err.refused.job } ∷ [])
    ∙ ap (λ (job : AdmittedJob). map waiting_job rest ++ (first.id, job) ∷ []) c.in-Err.ensures.same in
    begun_first (steps_of g.N.JobRunner) s c.args.waiting.now.items c.push_back_reserved.new.self.items rest first c.args.jobs.now c.start.new.self (Err c.in-Err.refused.code)
    c.in-Some.ensures.items c.in-Err.ensures.starts back
