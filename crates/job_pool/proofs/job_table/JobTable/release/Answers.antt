use Rattle.std.proofs.Common.{◌≡◌, ◌-◌, Some, None, set, refl, sym, ap, subst, ◌∙◌, arith}
use Rattle.std.specs.Prelude.{slice_get, slice_index_or}
use Rattle.job_pool.specs.Holdings.{DropsJob, held_job_at, open_in}
use Rattle.job_pool.proofs.Desks.{drops_job, index_get, job_below, job_was, named_by, no_held}
use Rattle.job_pool.proofs.job_table.JobTable.release.Goals as goal

pub overflow_sub-self : goal.overflow_sub-self
overflow_sub-self g c =
    let desks = c.args.self.now.desks.items in
    let id = c.args.id in
    let jobs = c.index_mut.result.now in
    let here : slice_get desks id.desk ≡ Some jobs = index_get desks id.desk jobs (job_below desks id c.requires.0 c.requires.1) ∙ ap Some (ap (λ d. slice_index_or desks d jobs) (sym c.from.ensures) ∙ sym c.index_mut.ensures.value) in
    let e = c.in-Some.ensures in
    let drops = drops_job desks id jobs c.release.new.jobs here c.in-Some.open (sym e.was) e.gone e.others e.count in
    let counted = c.args.self.now.counted in
    let fewer = drops.all in
    omega (arith, counted, fewer)

pub invariant_of-self : goal.invariant_of-self
invariant_of-self g c =
    let desks = c.args.self.now.desks.items in
    let id = c.args.id in
    let jobs = c.index_mut.result.now in
    let here : slice_get desks id.desk ≡ Some jobs = index_get desks id.desk jobs (job_below desks id c.requires.0 c.requires.1) ∙ ap Some (ap (λ d. slice_index_or desks d jobs) (sym c.from.ensures) ∙ sym c.index_mut.ensures.value) in
    let e = c.in-Some.ensures in
    let drops : DropsJob desks id c.in-Some.open (set desks c.from.result c.release.new.jobs) =
    subst (λ d. DropsJob desks id c.in-Some.open (set desks d c.release.new.jobs)) (sym c.from.ensures)
    (drops_job desks id jobs c.release.new.jobs here c.in-Some.open (sym e.was) e.gone e.others e.count) in
    let counted = c.args.self.now.counted in
    let fewer = drops.all in
    let left : c.args.self.now.count - 1 ≡ open_in (set desks c.from.result c.release.new.jobs) = omega (arith, counted, fewer) in
    record {
      counted = left;
      named = named_by desks (set desks c.from.result c.release.new.jobs) id None c.args.self.now.named drops.changes (λ h e'. absurd (no_held None h refl e'));
    }

pub unreachable-requires : goal.unreachable-requires
unreachable-requires g c =
    let desks = c.args.self.now.desks.items in
    let id = c.args.id in
    let jobs = c.index_mut.result.now in
    let here : slice_get desks id.desk ≡ Some jobs = index_get desks id.desk jobs (job_below desks id c.requires.0 c.requires.1) ∙ ap Some (ap (λ d. slice_index_or desks d jobs) (sym c.from.ensures) ∙ sym c.index_mut.ensures.value) in
    no_held (held_job_at desks id) c.requires.0
    (job_was desks (set desks id.desk jobs) id jobs jobs here refl ∙ (sym c.release.ensures.was ∙ c.in-None.is)) c.requires.1

pub returns : goal.returns
returns g c =
    let desks = c.args.self.now.desks.items in
    let id = c.args.id in
    let jobs = c.index_mut.result.now in
    let here : slice_get desks id.desk ≡ Some jobs = index_get desks id.desk jobs (job_below desks id c.requires.0 c.requires.1) ∙ ap Some (ap (λ d. slice_index_or desks d jobs) (sym c.from.ensures) ∙ sym c.index_mut.ensures.value) in
    let e = c.in-Some.ensures in
    subst (λ d. DropsJob desks id c.in-Some.open (set desks d c.release.new.jobs)) (sym c.from.ensures)
    (drops_job desks id jobs c.release.new.jobs here c.in-Some.open (sym e.was) e.gone e.others e.count)
