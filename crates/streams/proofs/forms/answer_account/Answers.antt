use Rattle.std.proofs.Common.{ap, ◌∙◌}
use Rattle.streams.specs.Answering.{account_told}
use Rattle.streams.proofs.forms.answer_account.Goals as goal

pub returns : goal.returns
returns c = record {
  told = c.account_reply.result;
  was = c.account_reply.ensures ∙ ap account_told c.account.ensures.account;
  frame = c.of_reply.ensures;
}
