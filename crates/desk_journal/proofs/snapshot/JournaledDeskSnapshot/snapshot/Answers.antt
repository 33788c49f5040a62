use Rattle.std.proofs.Common.{◌≡◌, ◌++◌, ℕ, List, Vec, Global, inr, subst, sym}
use Rattle.accounts.specs.declared.kept_accounts.KeptAccount.{KeptAccount}
use Rattle.compaction.specs.Snapshots.{IsSnapshot}
use Rattle.desk_journal.specs.AlikeDesks.{AreDesksAlike}
use Rattle.desk_journal.specs.DeskSteps.{DeskState, IsNewDesk, MakesBytes}
use Rattle.desk_journal.specs.HeldJobs.{AreHeldFrom}
use Rattle.desk_journal.specs.SnapshotChanges.{AreAccountChanges, HasLargeChange}
use Rattle.desk_journal.proofs.Added.{snapshot_made}
use Rattle.desk_journal.proofs.DeskLemmas.{on_ok}
use Rattle.desk_journal.proofs.snapshot.JournaledDeskSnapshot.snapshot.Goals as goal

pub returns-clause-ok : goal.returns-clause-ok
returns-clause-ok c =
    let before = c.args.out.now.items in
    let now = c.add_jobs.new.out.items in
    let m : DeskState = record { desk = c.self.inside.desk; held = c.self.inside.held.items } in
    let opening = c.in_ok-add_accounts.ensures.added in
    let changes = subst (λ (accounts : List KeptAccount). AreAccountChanges accounts opening.0) c.deref.ensures.value opening.1 in
    let held = subst (λ (sources : List (Vec ℕ Global)). AreHeldFrom 1 c.self.inside.desk.jobs c.self.inside.held.items sources) (sym c.deref-2.ensures.value) c.self.invariant in
    on_ok c.add_jobs.result
    (λ jobs. subst (λ (state : DeskState). (bytes : List ℕ) × (now ≡ before ++ bytes) × IsSnapshot IsNewDesk MakesBytes AreDesksAlike state bytes) c.self.view_is
    (snapshot_made m c.in-Ok.accounts.items c.deref-2.result.now opening.0 jobs.0 before c.add_accounts.new.out.items now c.in-Ok.ensures held changes opening.2 opening.3 jobs.1 jobs.2 jobs.3))
    c.add_jobs.ensures.added

pub returns-clause-refused : goal.returns-clause-refused
returns-clause-refused c is = subst (λ (state : DeskState). HasLargeChange state) c.self.view_is (inr (c.add_jobs.ensures.too_large is))
