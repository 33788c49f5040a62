use Rattle.std.proofs.Common.{[], ap, Ok}
use Rattle.shared_desk.proofs.OneAnswer.{replays_none}
use Rattle.shared_desk.proofs.Closing.{none_came, told_none, told_of}
use Rattle.shared_desk.proofs.desk.SharedDesk.new.Goals as goal

pub invariant_of-result : goal.invariant_of-result
invariant_of-result g c =
    let told = told_of [] c.args.recorder.1 0 (Ok tt) (ap (λ r. r.1) c.requires.empty) told_none in
    (c.requires.ready, replays_none _ _ _ _ (ap (λ r. r.0) c.requires.empty) c.requires.begins, told.0, told.1, told.2, none_came g.J.HistoryId.comes _ (ap (λ r. r.1) c.requires.empty))
