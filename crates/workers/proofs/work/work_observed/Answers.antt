use Rattle.std.proofs.Common.{rules, refl, ap, ◌∙◌}
use Rattle.virtual_machine.specs.Through.{GoesThrough}
use Rattle.workers.proofs.Runs.{outcome_of, read_at}
use Rattle.workers.proofs.work.work_observed.Goals as goal

pub returns-in-Ok-clause-outcome : goal.returns-in-Ok-clause-outcome
returns-in-Ok-clause-outcome g c =
    let ran = c.in-Ok.ensures.answered in
    let found = c.in-Some.ensures.lookup.3 in
    let named = read_at c.args.programs.now c.program.result c.args.ticket.program c.in-Some.code.now c.program.ensures found.0 (found.1 c.in-Some.code.now) in
    outcome_of c.args.programs.now c.in-Some.code.now (g.S.Spawner.entries c.args.spawner.now) c.args.ticket
    (λ s asked. GoesThrough g.S.Spawner.spawns c.args.ticket.part.base c.args.spawner.now asked s) _ _ c.in-Ok.back.now c.in-Ok.observed.outcome c.in-Ok.observed.whole
    (search rules) c.requires.knows named (c.if-not-suffices.ensures.value.0 refl) ran.0

pub returns-in-Ok-clause-entries : goal.returns-in-Ok-clause-entries
returns-in-Ok-clause-entries g c = ap g.S.Spawner.entries (search rules) ∙ c.in-Ok.ensures.answered.1.0
