use Rattle.std.proofs.Common.{ℕ, List, length, ap, sym, ◌∙◌}
use Rattle.journal.specs.Records.{journal_of}
use Rattle.journal_text.proofs.checking.check_journal.Goals as goal
use Rattle.journal_text.proofs.checking.check_journal.Goals.{in-Ok, in-Err}

pub returns-clause-whole : goal.returns-clause-whole
returns-clause-whole c = elim c.match-open_journal.branch [
  | in-Ok w ↦
      let opened = w.in-Ok.ensures.opened in
      let count = w.count_records.ensures in
      let same = (c.one_reading.ensures c.args.bytes.now opened.payloads count.0 opened.tail count.1 opened.reads count.2).0 in
      rw w.result-is (record {
        payloads = opened.payloads;
        tail = opened.tail;
        reads = opened.reads;
        records = count.3 ∙ ap length (sym same);
        len = count.4 ∙ ap (λ (ps : List (List ℕ)). length (journal_of ps)) (sym same);
        desk = w.in-Ok.field-0.machine;
        leads = opened.machine;
        undamaged = opened.undamaged;
      })
  | in-Err w ↦ rw w.result-is tt
]
