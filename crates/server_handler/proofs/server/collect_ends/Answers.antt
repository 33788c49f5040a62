use Rattle.std.proofs.Common.{[], ◌∷◌, ◌++◌, refl, ◌∙◌}
use Rattle.server_state.specs.Answering.{none_yet, one_more}
use Rattle.server_state.specs.States.{steps_of}
use Rattle.server_handler.proofs.Among.{all_both, all_nothing, ends_among}
use Rattle.server_handler.proofs.server.collect_ends.Goals as goal

pub jobs-init : goal.jobs-init
jobs-init g c = record {
  ready = c.requires;
  ended = λ s. ([], none_yet);
  records = all_nothing g.C.ChangeSink c.args.changes.now c.args.desks.now.items c.args.desks.now.items refl;
  count = refl;
}

pub jobs-preserved : goal.jobs-preserved
jobs-preserved g c = record {
  ready = c.in-Some.ensures.ready;
  ended = λ s. let e = c.jobs.invariant.ended s in (
    e.0 ++ (c.in-Some.id, c.in-Some.outcome) ∷ [],
    one_more e.0 (record s { desks = c.jobs.desks.items; jobs = c.jobs.jobs }) c.in-Some.id c.in-Some.outcome (record s { desks = c.note_end.new.desks.items; jobs = c.take.new.self }) e.1
        (ends_among (steps_of g.N.JobRunner) s c.jobs.desks.items c.jobs.jobs c.in-Some.id c.in-Some.outcome c.note_end.new.desks.items c.take.new.self c.in-Some.ensures.takes c.note_end.ensures.noted),
  );
  records = all_both g.C.ChangeSink c.args.changes.now c.jobs.changes c.note_end.new.changes c.args.desks.now.items c.jobs.desks.items c.note_end.new.desks.items c.jobs.invariant.records c.note_end.ensures.records;
  count = c.note_end.ensures.count ∙ c.jobs.invariant.count;
}

pub returns-in-None-clause-collected : goal.returns-in-None-clause-collected
returns-in-None-clause-collected g c s =
    let e = c.jobs.invariant.ended s in (
      e.0,
      record { last = record s { desks = c.jobs.desks.items; jobs = c.jobs.jobs }; ended = e.1; none_left = c.in-None.ensures.takes; is = refl },
    )
