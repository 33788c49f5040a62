use Rattle.std.proofs.Common.{◌+◌, ◌-◌, arith, ap, length, refl, sym}
use Rattle.std.proofs.lemmas.Result.{err_from_is_err_and}
use Rattle.compaction.specs.declared.snapshot.SnapshotFault.TheVariants.{TooLarge}
use Rattle.desk_journal.specs.DeskChanges.{change_bytes}
use Rattle.desk_journal.specs.declared.change.DeskChange.TheVariants.{JobsSkipped}
use Rattle.desk_journal.proofs.Added.{all_jobs_added, first_source, kept_added, large_job, large_source, no_job, not_gone, number_is, over_change, run_added, source_added}
use Rattle.desk_journal.proofs.DeskLemmas.{on_ok}
use Rattle.desk_journal.proofs.ListLemmas.{same_fault}
use Rattle.desk_journal.proofs.snapshot.add_jobs.Goals as goal

pub unreachable-requires : goal.unreachable-requires
unreachable-requires c =
    let most = c.jobs-test.true in
    let count = c.job_count-last.ensures in
    no_job c.args.desk.now.jobs (c.jobs.done + 1) (omega arith) (omega (arith, most, count)) (sym c.in_default.ensures)

pub unreachable-requires-in_default-split_first : goal.unreachable-requires-in_default-split_first
unreachable-requires-in_default-split_first c =
    let first = first_source c.args.desk.now.jobs c.args.sources.now (c.jobs.done + 1) c.jobs.rest.now c.args.out.now.items c.jobs.out.items c.jobs.invariant c.in-Some.entry.now (sym c.in-Some.ensures) (sym c.if-is_open.ensures) in
    let none = c.in_default-split_first.ensures.cases in
    absurd (omega (arith, ap length first.is, none))

pub returns-in_err-add_record-clause-too_large : goal.returns-in_err-add_record-clause-too_large
returns-in_err-add_record-clause-too_large c is =
    let p = err_from_is_err_and c.from_residual-in_err-add_record.result c.from_residual-in_err-add_record.ensures.1 in
    let fault = same_fault c.from_residual-in_err-add_record.result p.0 c.in_err-add_record.field-0.0 TooLarge p.1 p.2 is in
    large_source c.args.desk.now.jobs c.args.sources.now (c.jobs.done + 1) c.jobs.rest.now c.args.out.now.items c.jobs.out.items c.jobs.invariant c.in-Some.entry.now c.deref.result.now c.in-Some-split_first.first.now c.in-Some-split_first.others.now
    (sym c.in-Some.ensures) (sym c.if-is_open.ensures) c.in-Some-split_first.ensures.cases.0 c.deref.ensures.value (c.in_err-add_record.ensures.too_large fault)

pub returns-in_err-add_entry-clause-too_large : goal.returns-in_err-add_entry-clause-too_large
returns-in_err-add_entry-clause-too_large c is =
    let p = err_from_is_err_and c.from_residual-in_err-add_entry.result c.from_residual-in_err-add_entry.ensures.1 in
    let fault = same_fault c.from_residual-in_err-add_entry.result p.0 c.in_err-add_entry.field-0.0 TooLarge p.1 p.2 is in
    let large = c.in_err-add_entry.ensures.too_large fault in
    large_job c.args.desk.now.jobs (c.jobs.done + 1) c.in-Some.entry.now large.0 (omega arith) (sym c.in-Some.ensures) (over_change c.in-Some.entry.now large.0 large.1) large.2

pub jobs-preserved-then-next-number : goal.jobs-preserved-then-next-number
jobs-preserved-then-next-number c =
    let number = c.jobs.done + 1 in
    let next = c.next_kept-next.result in
    let past = c.if-next-number.true in
    let most = c.jobs-test.true in
    let count = c.job_count-last.ensures in
    number_is c.args.desk.now.jobs c.args.sources.now next (next - 1 + 1) c.jobs.rest.now c.args.out.now.items c.add_run.new.out.items (omega (arith, past))
    (run_added c.args.desk.now.jobs c.args.sources.now number c.jobs.rest.now c.args.out.now.items c.jobs.out.items c.jobs.invariant next c.add_run.new.out.items (change_bytes (JobsSkipped (next - number))) (omega (arith, most, count))
    c.next_kept-next.ensures c.add_run.ensures.few c.add_run.ensures.fits refl c.in_ok-add_run.ensures.added)

pub jobs-preserved-then-is_open : goal.jobs-preserved-then-is_open
jobs-preserved-then-is_open c =
    let most = c.jobs-test.true in
    let count = c.job_count-last.ensures in
    source_added c.args.desk.now.jobs c.args.sources.now (c.jobs.done + 1) c.jobs.rest.now c.args.out.now.items c.jobs.out.items c.jobs.invariant c.in-Some.entry.now c.add_record.new.out.items c.deref.result.now c.in-Some-split_first.first.now
    c.in-Some-split_first.others.now (sym c.in-Some.ensures) (sym c.if-is_open.ensures) (omega (arith, most, count)) c.in-Some-split_first.ensures.cases.0 c.deref.ensures.value c.in_ok-add_record.ensures.fits c.in_ok-add_record.ensures.added

pub jobs-preserved : goal.jobs-preserved
jobs-preserved c =
    let most = c.jobs-test.true in
    let count = c.job_count-last.ensures in
    let at = sym c.in-Some.ensures in
    let added = c.in_ok-add_entry.ensures.added in
    kept_added c.args.desk.now.jobs c.args.sources.now (c.jobs.done + 1) c.jobs.rest.now c.args.out.now.items c.jobs.out.items c.jobs.invariant c.in-Some.entry.now c.add_entry.new.out.items added.0 at
    (not_gone c.args.desk.now.jobs (c.jobs.done + 1) c.next_kept-next.result c.in-Some.entry.now c.next_kept-next.ensures c.if-next-number.false at) (sym c.if-is_open.ensures) added.1 (omega (arith, most, count)) added.2 added.3

pub returns-clause-added : goal.returns-clause-added
returns-clause-added c =
    let most = c.jobs-test.false in
    let count = c.job_count-last.ensures in
    on_ok c.add_run-2.result
    (λ bytes. all_jobs_added c.args.desk.now.jobs c.args.sources.now (c.jobs.done + 1) c.jobs.rest.now c.args.out.now.items c.jobs.out.items c.jobs.invariant c.add_run-2.new.out.items (change_bytes (JobsSkipped 0)) (omega (arith, most, count))
    c.add_run-2.ensures.fits refl bytes)
    c.add_run-2.ensures.added
