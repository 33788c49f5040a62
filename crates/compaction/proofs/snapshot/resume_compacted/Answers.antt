use Rattle.std.proofs.Common.{[], List, ℕ, ap, ◌∙◌}
use Rattle.journal.specs.Logs.{LogState}
use Rattle.compaction.proofs.snapshot.resume_compacted.Goals as goal

abbrev durable_log : List ℕ → LogState
durable_log bytes = record { durable = bytes; pending = [] }

pub returns-clause-journaled : goal.returns-clause-journaled
returns-clause-journaled g c done =
    let s = done.snapshot in
    let log = c.into_log.ensures done.replaced ∙ ap durable_log s.are in
    (s.payloads, s.restores, c.resume.ensures.journaled s.payloads s.fits s.restores.reaches log)
