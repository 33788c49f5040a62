use Rattle.streams.proofs.Answered.{granted}
use Rattle.server_handler.proofs.recorded_answers.answer_grant_recorded.Goals as goal

pub returns-clause-done : goal.returns-clause-done
returns-clause-done g c =
    let a = c.grant_recorded-account in
    record {
      told = c.account_reply.result;
      was = granted a.result c.args.desk.now a.new.desk c.args.tenant.now c.args.amount _ c.account_reply.ensures
          a.ensures.granted a.ensures.account a.ensures.refused a.ensures.unchanged a.ensures.within;
      frame = c.of_reply.ensures;
    }
