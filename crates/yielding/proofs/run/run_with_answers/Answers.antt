use Rattle.std.proofs.Common.{of_calls, rules, ap, arith, refl, subst, sym, ◌∙◌, [], ◌∷◌, ◌++◌}
use Rattle.std.specs.Arc.{arc_value}
use Rattle.task_trees.specs.Solo.{entering}
use Rattle.verifier.specs.Checked.{Checked}
use Rattle.interpreter.specs.declared.credit.Credit.{Credit}
use Rattle.interpreter.specs.Representation.{RepresentsState, lent}
use Rattle.yielding.proofs.RunLemmas.{answers_more, runs_alone, way_asks, way_ends, way_limit, way_start}
use Rattle.yielding.proofs.run.run_with_answers.Goals as goal

pub pieces-init : goal.pieces-init
pieces-init g c =
    let started = c.in-Ok.ensures in
    let used = ap (λ (k : Credit). k.used) started.credit in
    record {
      callable = c.requires.callable;
      program = started.program;
      goes = rw started.phase refl;
      size = sym started.len;
      way = (
        [],
        refl,
        way_start _ _ _ _ _ started.phase
            (subst (λ (q : Checked). RepresentsState q c.in-Ok.task.frame (lent c.args.memory.now) c.in-Ok.task.credit
            (entering c.args.argument c.args.credit c.args.memory.now)) started.program (started.stands c.args.memory.now refl)),
      );
      within = omega (arith, used);
    }

pub pieces-preserved-in-AtLimit : goal.pieces-preserved-in-AtLimit
pieces-preserved-in-AtLimit g c =
    let before = c.pieces.invariant in
    let gone = rw c.in-AtLimit.is at c.in-Ok-go.ensures.goes in
    record {
      callable = before.callable;
      program = c.go.ensures.same.0 ∙ before.program;
      goes = rw gone.phase refl;
      size = gone.size ∙ before.size ∙ sym c.go.ensures.same.1;
      way = (before.way.0, before.way.1, way_limit _ _ _ _ _ _ _ _ _ before.program before.way.2 c.pieces.word gone);
      within = rw c.in-AtLimit.is at c.in-Ok-go.ensures.within;
    }

pub pieces-preserved : goal.pieces-preserved
pieces-preserved g c =
    let before = c.pieces.invariant in
    let gone = rw c.in-Asks.is at c.in-Ok-go.ensures.goes in
    record {
      callable = search (of_calls, rules);
      program = c.go.ensures.same.0 ∙ before.program;
      goes = rw gone.phase refl;
      size = gone.size ∙ before.size ∙ sym c.go.ensures.same.1;
      way = (
        before.way.0 ++ record { question = c.in-Asks.question; answer = c.answer-word.result } ∷ [],
        answers_more _ _ _ _ _ _ _ before.way.1 c.answer-word.ensures,
        way_asks _ _ _ _ _ _ _ _ _ before.program before.way.2 c.in-Asks.question c.answer-word.result gone,
      );
      within = rw c.in-Asks.is at c.in-Ok-go.ensures.within;
    }

pub returns-in-Ended-clause-runs : goal.returns-in-Ended-clause-runs
returns-in-Ended-clause-runs g c =
    let before = c.pieces.invariant in
    let gone = rw c.in-Ended.is at c.in-Ok-go.ensures.goes in
    let run = way_ends _ _ _ _ _ _ _ _ _ before.program before.way.2 (goal.F-step g) c.args.answer.now c.pieces.answer before.way.1 c.args.argument
    c.args.credit c.args.memory.now refl c.in-Ended.r0 gone in
    record {
      p = arc_value c.args.program;
      runnable = record { set = refl; affords = c.in-Ok.ensures.affords; fits = c.in-Ok.ensures.fits };
      runs = rw c.used.ensures (runs_alone _ _ _ _ _ _ _ _ _ _ run);
    }

pub returns-in-Ended-clause-asks : goal.returns-in-Ended-clause-asks
returns-in-Ended-clause-asks g c =
    let before = c.pieces.invariant in
    let gone = rw c.in-Ended.is at c.in-Ok-go.ensures.goes in
    rw c.used.ensures (way_ends _ _ _ _ _ _ _ _ _ before.program before.way.2 (goal.F-step g) c.args.answer.now c.pieces.answer before.way.1 c.args.argument
    c.args.credit c.args.memory.now refl c.in-Ended.r0 gone)
