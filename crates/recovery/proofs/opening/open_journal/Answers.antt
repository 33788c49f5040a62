use Rattle.std.proofs.Common.{◌≡◌, drop, sym, subst}
use Rattle.journal.specs.Tails.{HasNoRecord}
use Rattle.recovery.proofs.OpeningLemmas.{of_empty, of_torn}
use Rattle.recovery.proofs.opening.open_journal.Goals.{in-Empty, in-Torn}
use Rattle.recovery.proofs.opening.open_journal.Goals as goal

pub returns-in-Ok-clause-opened : goal.returns-in-Ok-clause-opened
returns-in-Ok-clause-opened g c =
    let found = c.in-Ok.ensures.reads in
    let inspected = c.inspect-inspection.ensures.reads in
    let rest = drop c.inspect-inspection.result.len c.args.bytes.now in
    let same : found.1 ≡ rest = (c.one_reading.ensures c.args.bytes.now found.0 inspected.0 found.1 rest found.2 inspected.1).1 in
    let kind = c.inspect-inspection.result.tail in
    let none : HasNoRecord rest = elim c.match-inspection.branch [
      | in-Empty w ↦ of_empty rest c.args.budget kind inspected.1.torn c.inspect-inspection.ensures.tail w.in-Empty.is
      | in-Torn w ↦ of_torn rest c.args.budget kind c.inspect-inspection.ensures.tail w.in-Torn.is
    ] in
    record {
      payloads = found.0;
      tail = found.1;
      reads = found.2;
      machine = found.3;
      good = found.4;
      undamaged = subst HasNoRecord (sym same) none;
    }
