use Rattle.std.proofs.Common.{sym, ◌∙◌, subst}
use Rattle.accounts.proofs.Scanning.{AreScanned, all_open, oldest, scanned_one}
use Rattle.accounts.proofs.kept_jobs.oldest_over.Goals as goal

pub returns-then-not-is_open-clause-some : goal.returns-then-not-is_open-clause-some
returns-then-not-is_open-clause-some c =
    oldest c.args.kept.now.entries c.in-Some.number.now c.in-Some.entry.now c.next.new.self
    (subst (AreScanned c.args.kept.now.entries) c.in-Some.ensures.steps c.loop-number.invariant.2)
    (sym c.is_open.ensures ∙ c.if-not-is_open.true)

pub loop-number-preserved : goal.loop-number-preserved
loop-number-preserved c = (
  tt,
  tt,
  scanned_one c.args.kept.now.entries c.in-Some.number.now c.in-Some.entry.now c.next.new.self
      (subst (AreScanned c.args.kept.now.entries) c.in-Some.ensures.steps c.loop-number.invariant.2)
      (sym c.is_open.ensures ∙ c.if-not-is_open.false),
)

pub returns-clause-none : goal.returns-clause-none
returns-clause-none c =
    all_open c.args.kept.now.entries (subst (AreScanned c.args.kept.now.entries) c.in-None.ensures.steps.0 c.loop-number.invariant.2)
