use Rattle.std.proofs.Common.{◌≡◌, ◌≤◌, ◌++◌, ℕ, List, length, subst}
use Rattle.compaction.specs.Snapshots.{IsSnapshot}
use Rattle.sessions.specs.declared.job_key.KeyedJob.{KeyedJob}
use Rattle.keyed_desk.specs.KeyedSnapshots.{AreKeyChanges, AreKeyedAlike, HasLargeKeyedChange}
use Rattle.keyed_desk.specs.KeyedSteps.{IsNewKeyed, KeyedState, MakesKeyed}
use Rattle.std.proofs.lemmas.Result.{err_from_is_err_and}
use Rattle.recovery.proofs.HistoryLemmas.{same_fault}
use Rattle.compaction.specs.declared.snapshot.SnapshotFault.TheVariants.{TooLarge}
use Rattle.keyed_desk.proofs.KeysBack.{snapshot_made}
use Rattle.keyed_desk.proofs.keys_snapshot.KeyedDeskSnapshot.snapshot.Goals as goal

pub returns-in_err-snapshot-clause-refused : goal.returns-in_err-snapshot-clause-refused
returns-in_err-snapshot-clause-refused c is =
    let p = err_from_is_err_and c.from_residual.result c.from_residual.ensures.1 in
    subst HasLargeKeyedChange c.self.view_is (c.in_err-snapshot.ensures.refused (same_fault c.from_residual.result p.0 c.in_err-snapshot.field-0.0 TooLarge p.1 p.2 is))

pub returns-clause-ok : goal.returns-clause-ok
returns-clause-ok c =
    let before = c.args.out.now.items in
    let now = c.add_keys.new.out.items in
    let m : KeyedState = record { desk = c.self.inside.desk; keys = c.self.inside.keys.jobs } in
    let first = c.in_ok-snapshot.ensures.ok in
    let then = c.in_ok-add_keys.ensures in
    let changes = subst (λ (keys : List KeyedJob). AreKeyChanges keys then.0) c.as_slice.ensures.same then.1 in
    subst (λ (state : KeyedState). (bytes : List ℕ) × (now ≡ before ++ bytes) × IsSnapshot IsNewKeyed MakesKeyed AreKeyedAlike state bytes) c.self.view_is
    (snapshot_made m before c.snapshot.new.out.items now first.0 then.0 (subst (λ (keys : List KeyedJob). length keys ≤ 1000) c.as_slice.ensures.same c.as_slice.ensures.few) first.1 first.2 changes then.2 then.3)
