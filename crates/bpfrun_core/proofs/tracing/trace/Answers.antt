use Rattle.bpfrun_core.specs.Traced.{stopped, unread}
use Rattle.bpfrun_core.proofs.SourceLemmas.{source_same}
use Rattle.bpfrun_core.proofs.tracing.trace.Goals as goal

pub returns-in-Err : goal.returns-in-Err
returns-in-Err c = unread c.in-Err.field-0 c.in-Err.ensures.unread

pub returns : goal.returns
returns c =
    let why = rw (c.need_of-need.ensures, c.deref.ensures.value, c.deref_mut.ensures.value, c.in_ok-part.ensures) at c.in-Err-run.ensures.0 in
    stopped c.in-Ok.code.items c.in-Err-run.field-0 c.in-Ok.ensures.read why

pub returns-in-Ok-run : goal.returns-in-Ok-run
returns-in-Ok-run c =
    let same = source_same c.args.asked.now.form c.args.input.now c.in-Ok.code.items _ c.in-Ok.ensures.read c.source_of-source.ensures in
    let steps = rw (c.deref-in-Ok-run.ensures.value, c.deref-in-Ok-run-2.ensures.value, c.in_ok-start.ensures) at c.in_ok-steps-in-Ok-run.ensures.steps in
    let runs = rw (c.need_of-need.ensures, c.deref.ensures.value, c.deref_mut.ensures.value, c.in_ok-part.ensures) at c.in-Ok-run.ensures in
    record {
      code = c.in-Ok.code.items;
      read = c.in-Ok.ensures.read;
      steps = rw same steps;
      r0 = c.in-Ok-run.field-0.r0;
      used = c.in-Ok-run.field-0.used;
      left = c.run.new.memory;
      runs = runs;
    }
