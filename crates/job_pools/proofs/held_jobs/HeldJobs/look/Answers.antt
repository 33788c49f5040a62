use Rattle.std.proofs.Common.{◌≡◌, Some, refl, sym}
use Rattle.std.specs.BTreeMap as tree
use Rattle.std.specs.Ordering.{nat_cmp}
use Rattle.slab.specs.Slab as slots
use Rattle.job_pools.specs.Holding.{job_by}
use Rattle.job_pools.proofs.Keeping.{kept_changed, others_changed, found_at, is_there, looks_held}
use Rattle.job_pools.proofs.held_jobs.HeldJobs.look.Goals as goal

pub look_at-requires : goal.look_at-requires
look_at-requires c =
    let there = is_there (tree.get nat_cmp c.args.self.now.keys) (slots.get c.args.self.now.jobs) c.args.number c.in-Some.key c.args.self.now.kept (sym c.in-Some.ensures) in
    rw there.1 refl

pub invariant_of-self : goal.invariant_of-self
invariant_of-self c =
    let seen = c.look_at.ensures in
    record {
      kept = kept_changed (tree.get nat_cmp c.args.self.now.keys) (slots.get c.args.self.now.jobs) (slots.get c.look_at.new.jobs) c.in-Some.key seen.0 seen.1
          c.args.self.now.kept seen.2 seen.4.changed seen.4.others seen.3.number;
    }

pub returns : goal.returns
returns c =
    let seen = c.look_at.ensures in
    let keys = tree.get nat_cmp c.args.self.now.keys in
    let before = slots.get c.args.self.now.jobs in
    let jobs = slots.get c.look_at.new.jobs in
    let here : keys c.args.number ≡ Some c.in-Some.key = sym c.in-Some.ensures in
    let was : job_by before (keys c.args.number) ≡ Some seen.0 = found_at keys before c.args.number c.in-Some.key seen.0 here seen.2 in
    looks_held c.args.self.now c.args.number seen.0 c.look_at.result _ was (record {
      later = seen.1;
      seen = seen.3;
      changes = record {
        here = found_at keys jobs c.args.number c.in-Some.key seen.1 here seen.4.changed;
        others = others_changed keys before jobs c.args.number c.in-Some.key c.args.self.now.kept here seen.4.others;
      };
      count = refl;
    })
