use Rattle.std.proofs.Common.{◌≡◌, ◌≤◌, length, refl, sym, ap, ◌∙◌, rules, arith}
use Rattle.accounts.specs.Listing.{listed_from}
use Rattle.accounts.proofs.Listings.{found_all, found_enough, found_more, found_then, listed_none, listed_past, number_within}
use Rattle.accounts.proofs.listing.list_jobs.Goals as goal

pub jobs-init : goal.jobs-init
jobs-init c = record {
  some = c.requires;
  so_far = rw c.new-found.ensures.items refl;
  few = rw c.new-found.ensures.items (omega arith);
}

pub jobs-preserved : goal.jobs-preserved
jobs-preserved c =
    let some = c.jobs.invariant.some in
    let later = c.kept_from-here.ensures.later in
    let test = c.jobs-test.true in
    let len = c.len.ensures in
    let own = c.jobs.found.ok.0 in record {
      some = omega arith;
      so_far = found_then c.args.jobs.now c.args.from c.jobs.number c.kept_from-here.result c.in-Some.entry.now c.jobs.found.items c.list_one.new.found.items c.jobs.invariant.so_far
          c.kept_from-here.ensures.same (omega (arith, some, later)) (sym c.in-Some.ensures) c.in_ok-list_one.ensures;
      few = found_more c.kept_from-here.result c.in-Some.entry.now c.jobs.found.items c.list_one.new.found.items c.in_ok-list_one.ensures (omega (arith, test, len, own));
    }

pub jobs-smaller : goal.jobs-smaller
jobs-smaller c =
    let some = c.jobs.invariant.some in
    let later = c.kept_from-here.ensures.later in
    let within = number_within c.args.jobs.now c.kept_from-here.result c.in-Some.entry.now (omega (arith, some, later)) (sym c.in-Some.ensures) in
    omega (arith, later, within)

pub returns-in_default : goal.returns-in_default
returns-in_default c =
    let some = c.jobs.invariant.some in
    let later = c.kept_from-here.ensures.later in
    found_all c.args.jobs.now c.args.from c.jobs.found.items (listed_from c.args.jobs.now c.jobs.number) c.jobs.invariant.so_far
    (sym c.kept_from-here.ensures.same ∙ listed_none c.args.jobs.now c.kept_from-here.result (omega (arith, some, later)) (sym c.in_default.ensures)) c.jobs.invariant.few

pub returns-then-here-last : goal.returns-then-here-last
returns-then-here-last c =
    let some = c.jobs.invariant.some in
    let later = c.kept_from-here.ensures.later in
    let test = c.jobs-test.true in
    let len = c.len.ensures in
    let own = c.jobs.found.ok.0 in
    let last = c.if-here-last.true in
    let count = c.count-last.ensures in
    found_all c.args.jobs.now c.args.from c.list_one.new.found.items (listed_from c.args.jobs.now _)
    (found_then c.args.jobs.now c.args.from c.jobs.number c.kept_from-here.result c.in-Some.entry.now c.jobs.found.items c.list_one.new.found.items c.jobs.invariant.so_far
    c.kept_from-here.ensures.same (omega (arith, some, later)) (sym c.in-Some.ensures) c.in_ok-list_one.ensures)
    (listed_past c.args.jobs.now _ (omega (arith, last, count)))
    (found_more c.kept_from-here.result c.in-Some.entry.now c.jobs.found.items c.list_one.new.found.items c.in_ok-list_one.ensures (omega (arith, test, len, own)))

pub overflow_add-number : goal.overflow_add-number
overflow_add-number c =
    let some = c.jobs.invariant.some in
    let later = c.kept_from-here.ensures.later in
    let within = number_within c.args.jobs.now c.kept_from-here.result c.in-Some.entry.now (omega (arith, some, later)) (sym c.in-Some.ensures) in
    let apart = c.if-here-last.false in
    let count = c.count-last.ensures in
    let small = c.count-last.type_inv in
    omega (arith, within, apart, count, small)

pub returns : goal.returns
returns c =
    let test = c.jobs-test.false in
    let len = c.len.ensures in
    let own = c.jobs.found.ok.0 in
    found_enough c.args.jobs.now c.args.from c.jobs.found.items (listed_from c.args.jobs.now c.jobs.number) c.jobs.invariant.so_far c.jobs.invariant.few (omega (arith, test, len, own))
