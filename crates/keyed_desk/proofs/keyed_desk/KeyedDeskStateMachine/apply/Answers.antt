use Rattle.std.proofs.Common.{subst}
use Rattle.desk_journal.specs.DeskChanges.{change_bytes}
use Rattle.desk_journal.specs.DeskSteps.{RefusesChangeBytes}
use Rattle.keyed_desk.specs.KeyedSteps.{KeyedState}
use Rattle.keyed_desk.proofs.Applied.{keyed_made, keyed_refused, kept_made, kept_refused, plain_refused}
use Rattle.keyed_desk.proofs.keyed_desk.KeyedDeskStateMachine.apply.Goals as goal

pub returns-in-Plain-clause-refused : goal.returns-in-Plain-clause-refused
returns-in-Plain-clause-refused c is = plain_refused c.args.self.now c.args.change.now c.in-Plain.change c.in-Plain.is
    (subst (λ (s : KeyedState). RefusesChangeBytes s.desk (change_bytes c.in-Plain.change)) c.self.view_is (c.apply.ensures.refused is))

pub returns-in-ByKey-clause-ok : goal.returns-in-ByKey-clause-ok
returns-in-ByKey-clause-ok c =
    keyed_made c.apply_by_key.result c.args.self.now c.apply_by_key.new.self c.args.change.now c.in-ByKey.key c.in-ByKey.change c.deref.result.now c.in-ByKey.is c.deref.ensures.value c.apply_by_key.ensures.ok

pub returns-in-ByKey-clause-refused : goal.returns-in-ByKey-clause-refused
returns-in-ByKey-clause-refused c is =
    keyed_refused c.args.self.now c.args.change.now c.in-ByKey.key c.in-ByKey.change c.deref.result.now c.in-ByKey.is c.deref.ensures.value (c.apply_by_key.ensures.refused is)

pub returns-in-KeyKept-clause-ok : goal.returns-in-KeyKept-clause-ok
returns-in-KeyKept-clause-ok c =
    kept_made c.keep_key.result c.args.self.now c.keep_key.new.self c.args.change.now c.in-KeyKept.job c.in-KeyKept.key c.deref-in-KeyKept.result.now c.in-KeyKept.is c.deref-in-KeyKept.ensures.value c.keep_key.ensures.ok

pub returns-in-KeyKept-clause-refused : goal.returns-in-KeyKept-clause-refused
returns-in-KeyKept-clause-refused c is =
    kept_refused c.args.self.now c.args.change.now c.in-KeyKept.job c.in-KeyKept.key c.deref-in-KeyKept.result.now c.in-KeyKept.is c.deref-in-KeyKept.ensures.value (c.keep_key.ensures.refused is)
