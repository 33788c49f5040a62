use Rattle.std.proofs.Common.{ap, sym, subst, List, arith}
use Rattle.accounts.specs.Ledgers.{Ledger, Finishes}
use Rattle.desk_journal.specs.DeskSteps.{DeskState, IsWithout}
use Rattle.desk_journal.specs.declared.journaled_desk.OpenJob.{OpenJob}
use Rattle.desk_journal.proofs.DeskLemmas.{without}
use Rattle.desk_journal.proofs.HeldLemmas.{finished_held, source_there}
use Rattle.desk_journal.proofs.journaled_desk.JournaledDesk.finish.Goals as goal

pub returns-in-Ok-clause-ok : goal.returns-in-Ok-clause-ok
returns-in-Ok-clause-ok c =
    let some = c.in-Some.ensures.some.1 in
    let desk = ap (λ (s : DeskState). s.desk) c.self.view_is in
    let held = ap (λ (s : DeskState). s.held) c.self.view_is in
    let at = subst (λ (l : List OpenJob). IsWithout c.args.job l c.remove.new.self.items) held
    (subst (λ (l : List OpenJob). IsWithout c.args.job c.self.inside.held.items l) (sym c.remove.ensures.items)
    (without c.self.inside.held.items c.in-Some.place c.args.job some.0 (rw (← c.deref.ensures.value) some.1) some.2)) in
    (subst (λ (d : Ledger). Finishes d c.args.job c.args.outcome c.finish.new.self) desk c.in-Ok.ensures.finished, at)

pub remove-requires-in-Ok : goal.remove-requires-in-Ok
remove-requires-in-Ok c =
    let there = source_there c.self.inside.desk.jobs c.self.inside.held.items c.deref.result.now c.self.inside.sources.items c.in-Some.place c.self.invariant c.deref.ensures.value c.in-Some.ensures.some.0 in
    let long = c.self.inside.sources.ok.0 in
    omega (arith, there, long)

pub invariant_of-self : goal.invariant_of-self
invariant_of-self c =
    let some = c.in-Some.ensures.some.1 in
    finished_held c.self.inside.desk c.finish.new.self c.args.job c.in-Some.place c.args.outcome c.self.inside.held.items c.deref.result.now c.remove.new.self.items c.self.inside.sources.items c.remove-in-Ok.new.self.items some.0
    c.self.invariant c.in-Ok.ensures.finished c.deref.ensures.value some.1 some.2 c.remove.ensures.items c.remove-in-Ok.ensures.items
