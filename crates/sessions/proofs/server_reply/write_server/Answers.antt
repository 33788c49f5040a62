use Rattle.std.proofs.Common.{◌++◌, false, ap, ◌∙◌}
use Rattle.sessions.specs.ServerTexts.{refusal_count_texts}
use Rattle.sessions.proofs.ServerLemmas.{server_written}
use Rattle.sessions.proofs.server_reply.write_server.Goals as goal

pub returns : goal.returns
returns c =
    let counts = c.in_ok-write_refusal_counts.ensures ∙ ap (λ rs. c.extend_from_slice.new.self.items ++ refusal_count_texts false rs) c.deref.ensures.value in
    server_written c.args.out.now.items _ _ _ _ _ _ _ c.args.totals.now c.in_ok-write_front.ensures c.in_ok-put_number.ensures c.in_ok-put_number-2.ensures
    c.in_ok-extend_from_slice.ensures.items counts c.in_ok-put_number-3.ensures c.in_ok-extend_from_slice-2.ensures.items
