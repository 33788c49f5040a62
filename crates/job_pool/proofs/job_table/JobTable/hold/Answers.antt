use Rattle.std.proofs.Common.{◌≡◌, ◌+◌, Some, Ok, Err, Result, OnErr, set, sym, ap, subst, ◌∙◌, rules}
use Rattle.std.specs.Prelude.{slice_get, slice_index_or}
use Rattle.job_pool.specs.Holdings.{HoldsJob, SeenJob}
use Rattle.job_pool.proofs.Desks.{holds_job, index_get, named_by, named_same, same_table}
use Rattle.job_pool.proofs.job_table.JobTable.hold.Goals as goal

on_err : {X Y P : Type 0} (r : Result X Y) → P → OnErr r P
on_err (Ok x) p = tt
on_err (Err y) p = p

some_same : (a b : SeenJob) → Some a ≡ Some b → a ≡ b
some_same a b e = cc

pub invariant_of-self : goal.invariant_of-self
invariant_of-self g c =
    let desks = c.args.self.now.desks.items in
    let id = c.args.id in
    let jobs = c.index_mut.result.now in
    let here : slice_get desks id.desk ≡ Some jobs = index_get desks id.desk jobs c.requires.desk ∙ ap Some (ap (λ d. slice_index_or desks d jobs) (sym c.from.ensures) ∙ sym c.index_mut.ensures.value) in
    let e = c.in_err-hold.ensures in
    let same = same_table desks (set desks c.from.result c.hold.new.jobs) id jobs c.hold.new.jobs here (ap (λ d. set desks d c.hold.new.jobs) c.from.ensures) e.same e.same_count in
    record { counted = c.args.self.now.counted ∙ sym same.all; named = named_same desks (set desks c.from.result c.hold.new.jobs) c.args.self.now.named same }

pub returns-in_err-hold-clause-same : goal.returns-in_err-hold-clause-same
returns-in_err-hold-clause-same g c =
    let desks = c.args.self.now.desks.items in
    let id = c.args.id in
    let jobs = c.index_mut.result.now in
    let here : slice_get desks id.desk ≡ Some jobs = index_get desks id.desk jobs c.requires.desk ∙ ap Some (ap (λ d. slice_index_or desks d jobs) (sym c.from.ensures) ∙ sym c.index_mut.ensures.value) in
    let e = c.in_err-hold.ensures in
    on_err c.from_residual.result (same_table desks (set desks c.from.result c.hold.new.jobs) id jobs c.hold.new.jobs here (ap (λ d. set desks d c.hold.new.jobs) c.from.ensures) e.same e.same_count)

pub invariant_of-self-2 : goal.invariant_of-self-2
invariant_of-self-2 g c =
    let desks = c.args.self.now.desks.items in
    let id = c.args.id in
    let jobs = c.index_mut.result.now in
    let here : slice_get desks id.desk ≡ Some jobs = index_get desks id.desk jobs c.requires.desk ∙ ap Some (ap (λ d. slice_index_or desks d jobs) (sym c.from.ensures) ∙ sym c.index_mut.ensures.value) in
    let e = c.in_ok-hold.ensures in
    let held : HoldsJob desks id c.args.job (set desks c.from.result c.hold.new.jobs) =
    subst (λ d. HoldsJob desks id c.args.job (set desks d c.hold.new.jobs)) (sym c.from.ensures)
    (holds_job desks id jobs c.hold.new.jobs here c.args.job c.requires.free e.here e.others e.count) in
    let more : c.in-Some.count ≡ c.args.self.now.count + 1 = search rules in
    record {
      counted = more ∙ (ap (λ n. n + 1) c.args.self.now.counted ∙ sym held.all);
      named = named_by desks (set desks c.from.result c.hold.new.jobs) id (Some c.args.job) c.args.self.now.named held.changes
          (λ h e'. ap (λ (s : SeenJob). s.job.id) (some_same h c.args.job (sym e')) ∙ c.requires.named);
    }

pub returns-clause-held : goal.returns-clause-held
returns-clause-held g c =
    let desks = c.args.self.now.desks.items in
    let id = c.args.id in
    let jobs = c.index_mut.result.now in
    let here : slice_get desks id.desk ≡ Some jobs = index_get desks id.desk jobs c.requires.desk ∙ ap Some (ap (λ d. slice_index_or desks d jobs) (sym c.from.ensures) ∙ sym c.index_mut.ensures.value) in
    let e = c.in_ok-hold.ensures in
    subst (λ d. HoldsJob desks id c.args.job (set desks d c.hold.new.jobs)) (sym c.from.ensures)
    (holds_job desks id jobs c.hold.new.jobs here c.args.job c.requires.free e.here e.others e.count)
