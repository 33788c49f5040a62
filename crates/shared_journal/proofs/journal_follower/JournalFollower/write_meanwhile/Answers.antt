use Rattle.std.proofs.Common.{◌∙◌, ◌++◌, ap}
use Rattle.shared_journal.proofs.Standings.{stands_with_taken}
use Rattle.shared_journal.proofs.journal_follower.JournalFollower.write_meanwhile.Goals as goal

pub returns-then-len-lt-FEW-clause-stands : goal.returns-then-len-lt-FEW-clause-stands
returns-then-len-lt-FEW-clause-stands g c found =
    let taken = c.take-bytes.ensures.taken found in
    stands_with_taken _ _ _ c.take-bytes.result.items _ (c.loop.invariant.2 taken.0).1
    (c.in_ok-new.ensures ∙ (c.in_ok-with.ensures ∙ ap (λ l. c.loop.new.bytes.items ++ l) c.deref.ensures.value)) taken.1

pub loop-preserved : goal.loop-preserved
loop-preserved g c = (
  c.take-bytes.ensures.own ∙ c.loop.invariant.0,
  c.take-bytes.ensures.own ∙ c.loop.invariant.1,
  λ found. let taken = c.take-bytes.ensures.taken found in (
    (c.loop.invariant.2 taken.0).0,
    stands_with_taken _ _ _ c.take-bytes.result.items _ (c.loop.invariant.2 taken.0).1
        (c.in_ok-new.ensures ∙ (c.in_ok-with.ensures ∙ ap (λ l. c.loop.new.bytes.items ++ l) c.deref.ensures.value)) taken.1,
  ),
)
