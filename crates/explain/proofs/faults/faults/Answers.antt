use Rattle.std.proofs.Common.{add-one, map}
use Rattle.std.proofs.lemmas.List.Elements.{All-push}
use Rattle.explain.specs.Arriving.{subject_of_program}
use Rattle.explain.specs.Faults.{IsFaultTold}
use Rattle.explain.specs.Lines.{numbered_text}
use Rattle.explain.proofs.FaultLemmas.{told_none, told_one}
use Rattle.explain.proofs.faults.faults.Goals as goal
use Rattle.explain.proofs.faults.faults.Goals.{in-None, in-Some+in_ok-push-in-Some}

pub loop-slot-preserved : goal.loop-slot-preserved
loop-slot-preserved c =
    rw add-one (elim c.match-branch-4.branch [
      | in-None w ↦
          rw w.list-is (record {
            all = told_none (subject_of_program c.args.analyzed.now) c.loop-slot.slot c.loop-slot.list.items c.loop-slot.invariant.all (rw w.in-None.is at c.in_ok-fault_at.ensures);
            each = c.loop-slot.invariant.each;
          })
      | in-Some+in_ok-push-in-Some w ↦
          let found = rw w.in-Some.is at c.in_ok-fault_at.ensures in
          rw (w.list-is, w.in_ok-push-in-Some.ensures.items) (record {
            all = told_one (subject_of_program c.args.analyzed.now) c.loop-slot.slot c.loop-slot.list.items w.in-Some.why c.loop-slot.invariant.all found.1;
            each = All-push (IsFaultTold (subject_of_program c.args.analyzed.now) c.args.placed.now (map numbered_text c.args.lines.now)) c.loop-slot.list.items w.in-Some.why c.loop-slot.invariant.each found.0;
          })
    ])
