use Rattle.std.proofs.Common.{List, ℕ, [], sym, ap, ◌∙◌, subst, arith}
use Rattle.compaction.specs.Files.{HasNewJournal}
use Rattle.journal.specs.Logs.{LogState}
use Rattle.journal_file.specs.FilePairs.{pair_moments}
use Rattle.journal_file.proofs.shortening.put_shorter.Goals as goal

abbrev durable_log : List ℕ → LogState
durable_log bytes = record { durable = bytes; pending = [] }

pub returns-in-Ok-put_snapshot : goal.returns-in-Ok-put_snapshot
returns-in-Ok-put_snapshot g c =
    let moments = pair_moments c.put_snapshot.new.files in
    let compacted = c.in-Ok-put_snapshot.ensures.compacted c.args.journal.now c.in-Ok-pair_at.ensures in
    let there = c.deref-in-Ok-put_snapshot.ensures.value in
    let replaced = subst (λ (b : List ℕ). HasNewJournal b moments) (c.deref.ensures.value ∙ sym there) compacted.replaced in
    let half = c.if-len-journal.false in
    let long = c.len.ensures in
    let items = c.in-Ok.bytes.ok.0 in
    record {
      snapshot = c.in-Ok.ensures.bytes;
      half = omega (arith, half, long, items);
      state = c.into_log-log.ensures replaced ∙ ap durable_log there;
    }
