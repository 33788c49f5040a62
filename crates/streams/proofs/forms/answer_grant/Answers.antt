use Rattle.streams.proofs.Answered.{granted}
use Rattle.streams.proofs.forms.answer_grant.Goals as goal

pub returns : goal.returns
returns c = record {
  told = c.account_reply.result;
  was = granted c.grant-account.result c.args.desk.now c.grant-account.new.self c.args.tenant.now c.args.amount _ c.account_reply.ensures
      c.grant-account.ensures.granted c.grant-account.ensures.account c.grant-account.ensures.refused c.grant-account.ensures.unchanged c.grant-account.ensures.within;
  frame = c.of_reply.ensures;
}
