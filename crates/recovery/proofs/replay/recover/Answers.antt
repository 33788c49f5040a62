use Rattle.std.proofs.Common.{◌≡◌, List, ℕ, take, ap, subst, ◌∙◌}
use Rattle.journal.specs.Records.{journal_of}
use Rattle.recovery.specs.Histories.{IsAfter}
use Rattle.recovery.specs.declared.replay.RecoverFault.TheVariants.{Refused}
use Rattle.recovery.proofs.HistoryLemmas.{fault_alone}
use Rattle.recovery.proofs.replay.recover.Goals as goal

pub returns-in-Ok-clause-reads : goal.returns-in-Ok-clause-reads
returns-in-Ok-clause-reads g c =
    let r = c.in-Ok.ensures.replayed in
    (r.0, r.1, r.2, (c.start-machine.result, c.start-machine.ensures, r.3), r.4)

pub returns-in-Ok-clause-crash : goal.returns-in-Ok-clause-crash
returns-in-Ok-clause-crash g c history committed p =
    let r = c.in-Ok.ensures.replayed in
    let same : r.0 ≡ take p.count history = (c.one_reading.ensures c.args.bytes.now r.0 (take p.count history) r.1 p.tail r.2 p.reads).0 in
    let after : IsAfter g.M.StateMachine.starts g.M.StateMachine.steps r.0 c.replay_records.new.machine = (c.start-machine.result, c.start-machine.ensures, r.3) in
    record {
      count = p.count;
      at_least = p.at_least;
      at_most = p.at_most;
      machine = subst (λ (ps : List (List ℕ)). IsAfter g.M.StateMachine.starts g.M.StateMachine.steps ps c.replay_records.new.machine) same after;
      good = r.4 ∙ ap journal_of same;
    }

pub returns-in-Err-clause-refused : goal.returns-in-Err-clause-refused
returns-in-Err-clause-refused g c is payloads tail read =
    let r = c.in-Err.ensures.refused (fault_alone ℕ c.in-Err.fault Refused is) payloads tail read in
    record {
      before = r.before;
      payload = r.payload;
      more = r.more;
      are = r.are;
      machine = r.machine;
      after = (c.start-machine.result, c.start-machine.ensures, r.after);
      refused = r.refused;
    }
