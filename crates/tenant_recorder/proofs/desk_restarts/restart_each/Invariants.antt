use Rattle.std.proofs.Common.{◌≡◌, ◌≤◌, ◌++◌, List, length, map, Vec}
use Rattle.std.specs.declared.alloc.Global.{Global}
use Rattle.std.specs.Vec.Iter.{into_iter_items, into_iter_len}
use Rattle.accounts.specs.Ledgers.{Ledger}
use Rattle.desk_journal.specs.declared.journaled_desk.OpenJob.{OpenJob}
use Rattle.tenant_recorder.specs.TenantRestarts.{RestartsEach}
use Rattle.tenant_recorder.proofs.desk_restarts.restart_each.Given as goal

abbrev pub invariant-desks : goal.invariant-desks
invariant-desks g l = record {
  left : l.yielded ++ into_iter_items l.own-iterator ≡ into_iter_items l.initial.own-iterator;
  len : into_iter_len l.own-iterator ≡ length (into_iter_items l.own-iterator);
  place : l.place ≡ length l.yielded;
  ready : g.N.Runner.ready l.runner.runner;
  starts : (desks : List Ledger) → length l.yielded ≤ length desks
      → RestartsEach g.N.Runner.starts desks l.fn.runner.runner (map (λ (v : Vec OpenJob Global). v.items) l.yielded) desks l.runner.runner;
}
