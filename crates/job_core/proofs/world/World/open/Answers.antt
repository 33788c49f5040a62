use Rattle.std.proofs.Common.{◌≤◌, ◌∙◌, ap, sym, refl, arith, rules, length, slice_get}
use Rattle.std.proofs.lemmas.Option.{slice_get_read}
use Rattle.credit_book.specs.Boards.{Sign}
use Rattle.machine_model.specs.JobState.{start}
use Rattle.job_core.specs.Admitted.{AdmittedJob}
use Rattle.job_core.proofs.Ledgers.{cost_some}
use Rattle.job_core.proofs.Starts.{entries_none, entries_more, entries_past, entries_long, opened}
use Rattle.job_core.proofs.world.World.open.Goals as goal

pub loop-program-init : goal.loop-program-init
loop-program-init c = rw (c.new-entries.ensures.items) entries_none

pub loop-program-preserved : goal.loop-program-preserved
loop-program-preserved c =
    rw (c.in_ok-push.ensures.items)
    (entries_more c.deref-program-items.result.now c.loop-program.program-index c.loop-program.entries.items c.program-item.result _
    c.loop-program-test.true c.program-item.is c.entry.ensures.verified
    (c.job.invariant.own c.loop-program.program-index c.program-item.result
    (ap (λ ps. slice_get ps c.loop-program.program-index) (sym c.deref-program-items.ensures.value)
    ∙ slice_get_read c.deref-program-items.result.now (length c.deref-program-items.result.now) c.loop-program.program-index c.program-item.result refl c.loop-program-test.true c.program-item.is))
    c.entry.ensures.entry c.loop-program.invariant)

pub invariant_of-result : goal.invariant_of-result
invariant_of-result c =
    let past : length c.deref-program-items.result.now ≤ c.loop-program.program-index = omega (arith, c.loop-program-test.false) in
    let are = entries_past c.deref-program-items.result.now c.job.inside.programs.items c.loop-program.program-index c.loop-program.entries.items
    c.deref-program-items.ensures.value past c.loop-program.invariant in
    let long = entries_long c.job.inside.programs.items c.loop-program.entries.items are in
    let few : length c.loop-program.entries.items ≤ 65536 = omega (arith, long, c.job.invariant.few) in
    record { few = search (rules, few) }

pub open-requires : goal.open-requires
open-requires c =
    let past : length c.deref-program-items.result.now ≤ c.loop-program.program-index = omega (arith, c.loop-program-test.false) in
    let are = entries_past c.deref-program-items.result.now c.job.inside.programs.items c.loop-program.program-index c.loop-program.entries.items
    c.deref-program-items.ensures.value past c.loop-program.invariant in
    let some = cost_some c.job.invariant.root (are.verified 0 c.job.invariant.root c.job.invariant.is_root) in
    (omega (arith, some, c.job.invariant.cost), c.job.invariant.limit)

pub invariant_of-result-2 : goal.invariant_of-result-2
invariant_of-result-2 c =
    let past : length c.deref-program-items.result.now ≤ c.loop-program.program-index = omega (arith, c.loop-program-test.false) in
    let are = entries_past c.deref-program-items.result.now c.job.inside.programs.items c.loop-program.program-index c.loop-program.entries.items
    c.deref-program-items.ensures.value past c.loop-program.invariant in
    let order : AdmittedJob = record { programs = c.job.inside.programs.items; credit = c.job.inside.credit; buffer = c.job.inside.buffer.items } in
    let post = c.in_ok-post.ensures.post in
    let book = c.in_ok-book.ensures.book in
    let issued = ap (λ (b : Sign). b.issued) post.0 ∙ c.in_ok-post.ensures.board.1 in
    let enter = c.enter.ensures in
    let both = opened order c.job.inside.programs.items c.loop-program.entries.items c.push-2.new.self.items c.in_ok-book.book c.whole.result c.in_ok-book.ticket c.enter.result c.new-lives.result.items _ _ _ _ c.job.invariant are refl c.whole.ensures.bytes c.whole.ensures.base
    issued (ap (λ (b : Sign). b.issued) book.0 ∙ issued) (book.1 ∙ post.1) book.2 c.in_ok-book.ensures.ticket
    enter.program enter.frame enter.part enter.credit c.new-lives.ensures.items c.in_ok-push-2.ensures.items c.new-parents.ensures.items in
    (start c.job.inside.credit c.job.inside.buffer.items, both.0, both.1)

pub returns-clause-start : goal.returns-clause-start
returns-clause-start c =
    let past : length c.deref-program-items.result.now ≤ c.loop-program.program-index = omega (arith, c.loop-program-test.false) in
    let are = entries_past c.deref-program-items.result.now c.job.inside.programs.items c.loop-program.program-index c.loop-program.entries.items
    c.deref-program-items.ensures.value past c.loop-program.invariant in
    let order : AdmittedJob = record { programs = c.job.inside.programs.items; credit = c.job.inside.credit; buffer = c.job.inside.buffer.items } in
    let post = c.in_ok-post.ensures.post in
    let book = c.in_ok-book.ensures.book in
    let issued = ap (λ (b : Sign). b.issued) post.0 ∙ c.in_ok-post.ensures.board.1 in
    let enter = c.enter.ensures in
    let both = opened order c.job.inside.programs.items c.loop-program.entries.items c.push-2.new.self.items c.in_ok-book.book c.whole.result c.in_ok-book.ticket c.enter.result c.new-lives.result.items _ _ _ _ c.job.invariant are refl c.whole.ensures.bytes c.whole.ensures.base
    issued (ap (λ (b : Sign). b.issued) book.0 ∙ issued) (book.1 ∙ post.1) book.2 c.in_ok-book.ensures.ticket
    enter.program enter.frame enter.part enter.credit c.new-lives.ensures.items c.in_ok-push-2.ensures.items c.new-parents.ensures.items in
    rw (← c.job.view_is) both.0
