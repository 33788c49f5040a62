use Rattle.std.proofs.Common.{sym, subst, arith, ap, sum_by}
use Rattle.job_core.specs.Keeping.{kept_of}
use Rattle.job_core.specs.Sums.{used_of}
use Rattle.job_core.specs.Representation.{WorldState, RepresentsJob}
use Rattle.job_core.proofs.Summing.{totals_are, used_sums, held_is}
use Rattle.job_core.proofs.world.World.totals.Goals as goal

pub used_by_live-used-requires : goal.used_by_live-used-requires
used_by_live-used-requires c =
    let behind = c.self.invariant.1 in
    let s = used_sums (kept_of c.self.inside.tasks) c.self.invariant.0 behind in
    let h = held_is (kept_of c.self.inside.tasks) c.self.invariant.0 behind in
    let same = ap (sum_by used_of) c.deref.ensures.value in
    omega (arith, s.1, h, behind.limit, same)

pub overflow_add-result : goal.overflow_add-result
overflow_add-result c =
    let behind = c.self.invariant.1 in
    let s = used_sums (kept_of c.self.inside.tasks) c.self.invariant.0 behind in
    let h = held_is (kept_of c.self.inside.tasks) c.self.invariant.0 behind in
    let same = ap (sum_by used_of) c.deref.ensures.value in
    omega (arith, s.1, h, behind.limit, same, c.used_by_live-used.ensures)

pub overflow_sub-result : goal.overflow_sub-result
overflow_sub-result c =
    let held = held_is (kept_of c.self.inside.tasks) c.self.invariant.0 c.self.invariant.1 in
    omega (arith, held, c.issued.ensures.issued, c.progress-progress.ensures.totals.0)

pub returns : goal.returns
returns c = λ j behind.
    rw (c.issued.ensures.issued, c.progress-progress.ensures.totals.0, c.progress-progress.ensures.totals.1)
    (totals_are (kept_of c.self.inside.tasks) j c.deref.result.now c.used_by_live-used.result
    (subst (λ (k : WorldState). RepresentsJob k j) (sym c.self.view_is) behind) c.deref.ensures.value c.used_by_live-used.ensures)
