use Rattle.std.proofs.Common.{ap, ◌∙◌, refl}
use Rattle.std.proofs.lemmas.List.{take_all}
use Rattle.server_log.specs.Counting.{told_counts}
use Rattle.server_log.proofs.ToldCounts.{counted_more}
use Rattle.server_log.proofs.server_counts.refusal_counts.Goals as goal

pub codes-preserved : goal.codes-preserved
codes-preserved c =
    counted_more c.args.counts.now c.codes.code _ c.codes.found.items c.push_count.new.found.items c.codes-test.true refl c.codes.invariant c.in_ok-push_count.ensures

pub returns : goal.returns
returns c = c.codes.invariant ∙ ap (told_counts 0) (take_all c.codes.code c.args.counts.now c.codes-test.false)
