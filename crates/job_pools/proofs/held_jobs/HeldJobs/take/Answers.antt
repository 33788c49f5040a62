use Rattle.std.proofs.Common.{rules, ◌≡◌, Some, ap, subst}
use Rattle.std.specs.BTreeMap as tree
use Rattle.std.specs.Ordering.{nat_cmp}
use Rattle.slab.specs.Slab as slots
use Rattle.job_pools.specs.Endings.{IsReportedEnd}
use Rattle.job_pools.specs.Holding.{AreKept, job_by}
use Rattle.job_pools.proofs.Keeping.{kept_removed, others_removed, found_at, numbered}
use Rattle.job_pools.proofs.held_jobs.HeldJobs.take.Goals as goal

pub invariant_of-self-2 : goal.invariant_of-self-2
invariant_of-self-2 g c =
    let found = c.in_ok-number.ensures in
    record {
      kept = kept_removed (tree.get nat_cmp c.args.self.now.keys) (tree.get nat_cmp c.forget.new.values) (slots.get c.args.self.now.jobs) (slots.get c.try_remove.new.self)
          c.in_ok-number.number c.in_ok-number.key c.args.self.now.kept found.0 c.forget.ensures.gone c.forget.ensures.others c.try_remove.ensures.updates.others;
    }

pub returns : goal.returns
returns g c =
    let found = c.in_ok-number.ensures in
    let number = c.in_ok-number.number in
    let key = c.in_ok-number.key in
    let held = c.in-Some.running in
    let keys = tree.get nat_cmp c.args.self.now.keys in
    let keys' = tree.get nat_cmp c.forget.new.values in
    let jobs = slots.get c.args.self.now.jobs in
    let jobs' = slots.get c.try_remove.new.self in
    let kept : AreKept keys jobs = c.args.self.now.kept in
    let there : jobs key ≡ Some held = search rules in
    record {
      held = held;
      was = found_at keys jobs number key held found.0 there;
      end = subst (λ n. IsReportedEnd n held.job c.join.result) (numbered keys jobs number key held kept found.0 there) c.join.ensures;
      changes = record {
        here = ap (job_by jobs') c.forget.ensures.gone;
        others = others_removed keys keys' jobs jobs' number key kept found.0 c.forget.ensures.others c.try_remove.ensures.updates.others;
      };
      count = c.forget.ensures.count;
    }
