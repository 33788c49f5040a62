use Rattle.std.proofs.Common.{◌≡◌, ◌+◌, Option, None, option_map, refl, sym, ap, ◌∙◌, inr, arith}
use Rattle.accounts.specs.Jobs.{job_at}
use Rattle.accounts.proofs.Keeping.{none_of}
use Rattle.accounts.proofs.NextKept.{gone_to_start, here_fits, next_behind, next_further, next_none, next_there}
use Rattle.accounts.proofs.job_list.Jobs.next_kept.Goals as goal

pub returns-in_default : goal.returns-in_default
returns-in_default c =
    next_none c.self.inside.inner c.self.invariant c.args.self.now c.self.view_is c.args.number c.loop-next.next c.requires c.loop-next.invariant.gone
    c.kept_from-here.result c.kept_from-here.ensures.later c.kept_from-here.ensures.gone c.loop-next-test.true
    (sym c.entry.ensures ∙ ap (option_map (λ e. e.now)) (none_of c.entry.result (λ s is. c.in_default.not-Some s is)))

pub returns-then-not-is_gone : goal.returns-then-not-is_gone
returns-then-not-is_gone c =
    next_there c.self.inside.inner c.self.invariant c.args.self.now c.self.view_is c.args.number c.loop-next.next c.requires c.loop-next.invariant.gone
    c.kept_from-here.result c.kept_from-here.ensures.later c.kept_from-here.ensures.gone c.in-Some.entry.now (sym c.in-Some.ensures)
    (c.if-not-is_gone.ensures.no refl)

pub overflow_add-next : goal.overflow_add-next
overflow_add-next c =
    let most = here_fits c.self.inside.inner c.self.invariant c.args.self.now c.self.view_is c.args.number c.loop-next.next c.requires c.loop-next.invariant.gone
    c.kept_from-here.result c.kept_from-here.ensures.later c.kept_from-here.ensures.gone c.in-Some.entry.now (sym c.in-Some.ensures) in
    let few = c.self.invariant.few in
    omega (arith, most, few)

pub loop-next-preserved : goal.loop-next-preserved
loop-next-preserved c =
    let most = here_fits c.self.inside.inner c.self.invariant c.args.self.now c.self.view_is c.args.number c.loop-next.next c.requires c.loop-next.invariant.gone
    c.kept_from-here.result c.kept_from-here.ensures.later c.kept_from-here.ensures.gone c.in-Some.entry.now (sym c.in-Some.ensures) in
    record {
      gone = next_further c.self.inside.inner c.self.invariant c.args.self.now c.self.view_is c.args.number c.loop-next.next c.requires c.loop-next.invariant.gone
          c.kept_from-here.result c.kept_from-here.ensures.later c.kept_from-here.ensures.gone c.in-Some.entry.now (sym c.in-Some.ensures)
          (c.if-not-is_gone.ensures.yes refl);
      first = inr (omega (arith, most));
    }

pub returns : goal.returns
returns c =
    next_behind c.self.inside.inner c.self.invariant c.args.self.now c.self.view_is c.args.number c.loop-next.next c.requires c.loop-next.invariant.gone
    c.loop-next-test.false c.loop-next.invariant.first
