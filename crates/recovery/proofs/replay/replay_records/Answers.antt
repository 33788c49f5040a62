use Rattle.std.proofs.Common.{◌≡◌, ◌++◌, ◌+◌, ◌∷◌, [], ℕ, List, length, drop, arith, refl, ap, subst}
use Rattle.std.proofs.lemmas.List.{length-drop}
use Rattle.std.proofs.lemmas.Result.{err_from_is_err_and}
use Rattle.journal.specs.Records.{journal_of, DecodesTo}
use Rattle.recovery.specs.Histories.{AreStateChanges}
use Rattle.recovery.specs.declared.replay.RecoverFault.TheVariants.{NotAChange, Refused}
use Rattle.recovery.proofs.CrashLemmas.{reads_on, good_front, fit_more}
use Rattle.recovery.proofs.HistoryLemmas.{replays_more, change_there, same_fault}
use Rattle.recovery.proofs.replay.replay_records.Goals as goal

pub loop-payload-init : goal.loop-payload-init
loop-payload-init g c = (omega arith, [], refl, tt, refl)

pub loop-payload-preserved : goal.loop-payload-preserved
loop-payload-preserved g c =
    let p = c.in-Some.payload.now in
    let rest = c.loop-payload.rest.now in
    let i = c.loop-payload.invariant in
    let within = i.0 in
    let shorter = ap length c.split_at.ensures.back in (
      omega (arith, length-drop (8 + length p) rest),
      i.1 ++ p ∷ [],
      reads_on c.args.bytes.now rest c.split_at.result.1.now p i.1 (8 + length p) i.2 c.in-Some.ensures.some.1 c.split_at.ensures.back,
      fit_more i.1 p i.3 c.in-Some.ensures.some.0,
      replays_more g.M.StateMachine.steps c.args.machine.now i.1 c.loop-payload.machine p c.replay_one.new.machine i.4 c.in_ok-replay_one.ensures.ok,
    )

pub returns-clause-replayed : goal.returns-clause-replayed
returns-clause-replayed g c =
    let i = c.loop-payload.invariant in (
      i.1,
      c.loop-payload.rest.now,
      record { whole = i.2; each = i.3; torn = c.in_default.ensures.none },
      i.4,
      good_front c.args.bytes.now c.loop-payload.rest.now i.1 i.2,
      omega arith,
    )

pub returns-in_err-replay_one-clause-damaged : goal.returns-in_err-replay_one-clause-damaged
returns-in_err-replay_one-clause-damaged g c is payloads tail read changes =
    let p = err_from_is_err_and c.from_residual.result c.from_residual.ensures.1 in
    let fault = same_fault c.from_residual.result p.0 c.in_err-replay_one.field-0.0 NotAChange p.1 p.2 is in
    let i = c.loop-payload.invariant in
    let q = c.in-Some.payload.now in
    let rest = c.loop-payload.rest.now in
    let front : c.args.bytes.now ≡ journal_of (i.1 ++ q ∷ []) ++ drop (8 + length q) rest =
    reads_on c.args.bytes.now rest (drop (8 + length q) rest) q i.1 (8 + length q) i.2 c.in-Some.ensures.some.1 refl in
    let read_so = subst (λ (b : List ℕ). DecodesTo b payloads tail) front read in
    let more = c.whole_first.ensures (i.1 ++ q ∷ []) payloads (drop (8 + length q) rest) tail (fit_more i.1 q i.3 c.in-Some.ensures.some.0) read_so in
    let payload = g.M.StateChange.StateChange.payload in
    let change = change_there payload i.1 q more.0 (subst (AreStateChanges payload) more.1 changes) in
    c.in_err-replay_one.ensures.damaged fault change.0 change.1

pub returns-in_err-replay_one-clause-refused : goal.returns-in_err-replay_one-clause-refused
returns-in_err-replay_one-clause-refused g c is payloads tail read =
    let p = err_from_is_err_and c.from_residual.result c.from_residual.ensures.1 in
    let fault = same_fault c.from_residual.result p.0 c.in_err-replay_one.field-0.0 Refused p.1 p.2 is in
    let i = c.loop-payload.invariant in
    let q = c.in-Some.payload.now in
    let rest = c.loop-payload.rest.now in
    let front : c.args.bytes.now ≡ journal_of (i.1 ++ q ∷ []) ++ drop (8 + length q) rest =
    reads_on c.args.bytes.now rest (drop (8 + length q) rest) q i.1 (8 + length q) i.2 c.in-Some.ensures.some.1 refl in
    let read_so = subst (λ (b : List ℕ). DecodesTo b payloads tail) front read in
    let more = c.whole_first.ensures (i.1 ++ q ∷ []) payloads (drop (8 + length q) rest) tail (fit_more i.1 q i.3 c.in-Some.ensures.some.0) read_so in
    record {
      before = i.1;
      payload = q;
      more = more.0;
      are = more.1;
      machine = c.loop-payload.machine;
      after = i.4;
      refused = c.in_err-replay_one.ensures.refused fault;
    }
