use Rattle.std.proofs.Common.{rules, ◌≡◌, ◌∙◌, ℕ, None, Some, refl, sym, ap}
use Rattle.std.specs.BTreeMap as tree
use Rattle.std.specs.Ordering.{nat_cmp}
use Rattle.slab.specs.Slab as slots
use Rattle.job_pools.specs.Holding.{AreKept, job_by}
use Rattle.job_pools.proofs.Keeping.{kept_same, kept_added, others_added, found_at}
use Rattle.job_pools.proofs.held_jobs.HeldJobs.start.Goals as goal

pub invariant_of-self-in-Ok-begin : goal.invariant_of-self-in-Ok-begin
invariant_of-self-in-Ok-begin g c =
    let keys = tree.get nat_cmp c.args.self.now.keys in
    let jobs = slots.get c.reserve.new.self in
    let kept : AreKept keys jobs =
    kept_same keys keys (slots.get c.args.self.now.jobs) jobs c.args.self.now.kept (λ n. refl) (λ k. ap (λ s. slots.get s k) c.reserve.ensures.rest_kept) in
    let key = c.insert_reserved.result in
    let here : tree.get nat_cmp c.note.new.values c.args.number ≡ Some key = search rules in
    record {
      kept = kept_added keys (tree.get nat_cmp c.note.new.values) jobs (slots.get c.insert_reserved.new.self) c.args.number key c.in-Ok-begin.running kept
          c.insert_reserved.ensures.was_vacant here c.in-Ok.ensures.others c.insert_reserved.ensures.updates.changed c.insert_reserved.ensures.updates.others
          c.in-Ok-begin.ensures.fresh.numbered;
    }

pub returns-in-Ok-begin : goal.returns-in-Ok-begin
returns-in-Ok-begin g c =
    let keys = tree.get nat_cmp c.args.self.now.keys in
    let keys' = tree.get nat_cmp c.note.new.values in
    let before = slots.get c.args.self.now.jobs in
    let jobs = slots.get c.reserve.new.self in
    let jobs' = slots.get c.insert_reserved.new.self in
    let same : (k : ℕ) → jobs k ≡ before k = λ k. ap (λ s. slots.get s k) c.reserve.ensures.rest_kept in
    let kept : AreKept keys before = c.args.self.now.kept in
    let key = c.insert_reserved.result in
    let here : keys' c.args.number ≡ Some key = search rules in
    let none : keys c.args.number ≡ None = search rules in
    let elsewhere : (k : ℕ) → (k ≡ key → ⊥) → jobs' k ≡ before k = λ k differs. c.insert_reserved.ensures.updates.others k differs ∙ same k in
    record {
      held = c.in-Ok-begin.running;
      was_none = ap (job_by before) none;
      fresh = c.in-Ok-begin.ensures.fresh;
      changes = record {
        here = found_at keys' jobs' c.args.number key c.in-Ok-begin.running here c.insert_reserved.ensures.updates.changed;
        others = others_added keys keys' before jobs' c.args.number key kept (sym (same key) ∙ c.insert_reserved.ensures.was_vacant) c.in-Ok.ensures.others elsewhere;
      };
      count = c.in-Ok.ensures.count;
    }
