use Rattle.std.proofs.Common.{◌≡◌, ◌+◌, ◌<◌, ◌≤◌, ◌∷◌, [], ◌++◌, List, length, length-append, ap, sym, ◌∙◌, append_assoc, refl, rules, arith}
use Rattle.std.proofs.lemmas.Result.{err_from_is_err_and}
use Rattle.std.specs.Vec.Iter.{into_iter_items}
use Rattle.accounts.specs.Ledgers.{Ledger}
use Rattle.tenant_recorder.specs.TenantRestarts.{none_yet}
use Rattle.tenant_recorder.proofs.Restarted.{refused_at, restarted_same}
use Rattle.tenant_recorder.proofs.desk_restarts.restart_each.Goals as goal

pub desks-init : goal.desks-init
desks-init g c = record {
  left = refl;
  len = search rules;
  place = refl;
  ready = c.requires.ready;
  starts = λ desks few. none_yet;
}

pub restart_at-requires-clause-place : goal.restart_at-requires-clause-place
restart_at-requires-clause-place g c =
    let at = c.desks in
    let x = c.in-Some.own in
    let steps : into_iter_items at.own-iterator ≡ x ∷ into_iter_items c.next.new.self = c.in-Some.ensures.steps.0 in
    let first : into_iter_items c.into_iter-own-iterator.result ≡ c.args.jobs.items = search rules in
    let whole = ap length (at.invariant.left ∙ first) in
    let parts = length-append at.yielded (into_iter_items at.own-iterator) in
    let some = ap length steps in
    let place = at.invariant.place in
    let few = c.requires.few in
    omega (arith, whole, parts, some, place, few)

pub desks-preserved : goal.desks-preserved
desks-preserved g c =
    let at = c.desks in
    let x = c.in-Some.own in
    let steps : into_iter_items at.own-iterator ≡ x ∷ into_iter_items c.next.new.self = c.in-Some.ensures.steps.0 in
    let r = c.restart_at in
    let grown : length (at.yielded ++ x ∷ []) ≡ length at.yielded + 1 = length-append at.yielded (x ∷ []) in
    record {
      left = append_assoc at.yielded (x ∷ []) _ ∙ rw (← steps) at.invariant.left;
      len = let was = at.invariant.len in let gone = c.in-Some.ensures.steps.1 in let short = ap length steps in omega arith;
      place = let was = at.invariant.place in omega arith;
      ready = r.ensures.ready;
      starts = λ desks few. restarted_same g.N.Runner.starts desks c.args.runner.now.runner at.yielded at.runner.runner x at.place r.new.runner.runner
          at.invariant.place (let is = at.invariant.place in omega (arith, few, grown, is)) (at.invariant.starts desks (omega (arith, few, grown))) c.in_ok-restart_at.ensures.starts;
    }

pub returns-in_err-restart_at-clause-refused : goal.returns-in_err-restart_at-clause-refused
returns-in_err-restart_at-clause-refused g c =
    let at = c.desks in
    let x = c.in-Some.own in
    let steps : into_iter_items at.own-iterator ≡ x ∷ into_iter_items c.next.new.self = c.in-Some.ensures.steps.0 in
    let first : into_iter_items c.into_iter-own-iterator.result ≡ c.args.jobs.items = search rules in
    let is : c.args.jobs.items ≡ at.yielded ++ x ∷ into_iter_items c.next.new.self = sym first ∙ sym (rw (← steps) at.invariant.left) in
    let all = ap length is in
    let parts = length-append at.yielded (x ∷ into_iter_items c.next.new.self) in
    let p = err_from_is_err_and c.from_residual.result c.from_residual.ensures.1 in
    rw (p.1, p.2) (λ (desks : List Ledger) (many : length desks ≡ length c.args.jobs.items).
    refused_at g.N.Runner.starts desks c.args.runner.now.runner at.yielded at.runner.runner x (into_iter_items c.next.new.self) c.args.jobs.items at.place _ c.restart_at.new.runner.runner
    is at.invariant.place (at.invariant.starts desks (omega (arith, many, all, parts))) c.in_err-restart_at.ensures.refused)
