use Rattle.std.proofs.Common.{◌++◌, false, ap, ◌∙◌}
use Rattle.std.proofs.lemmas.List.{take_all, take_more}
use Rattle.sessions.specs.ServerTexts.{refusal_count_texts}
use Rattle.sessions.proofs.ServerLemmas.{behind_more, counted_more}
use Rattle.sessions.proofs.server_reply.write_refusal_counts.Goals as goal

pub loop-refusal-preserved : goal.loop-refusal-preserved
loop-refusal-preserved c =
    let more = take_more c.args.refusals.now c.loop-refusal.refusal-index _ c.loop-refusal-test.true in
    record {
      written = counted_more c.args.out.now.items _ _ _ _ _ _ _ more c.loop-refusal.invariant.written c.loop-refusal.invariant.later c.in_ok-put_comma.ensures c.in_ok-write_refusal_count.ensures;
      later = behind_more _ _ _ more;
    }

pub returns : goal.returns
returns c =
    c.loop-refusal.invariant.written
    ∙ ap (λ rs. c.args.out.now.items ++ refusal_count_texts false rs) (take_all c.loop-refusal.refusal-index c.args.refusals.now c.loop-refusal-test.false)
