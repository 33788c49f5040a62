use Rattle.std.proofs.Common.{List, ℕ, [], ◌∷◌, ◌++◌, Vec, Global, inr, ap, subst, ◌∙◌}
use Rattle.accounts.specs.Ledgers.{Ledger, Takes}
use Rattle.job_core.specs.Admission.{IsAdmittedFrom}
use Rattle.desk_journal.specs.DeskSteps.{DeskState}
use Rattle.desk_journal.specs.declared.journaled_desk.OpenJob.{OpenJob}
use Rattle.desk_journal.proofs.DeskLemmas.{refuses_so}
use Rattle.desk_journal.proofs.HeldLemmas.{submitted_held}
use Rattle.desk_journal.proofs.journaled_desk.JournaledDesk.submit.Goals as goal

pub invariant_of-self-in-Ok-submit : goal.invariant_of-self-in-Ok-submit
invariant_of-self-in-Ok-submit c =
    let buffer = c.in-Ok-to_vec.ensures.items_if_clones_equal (λ x y h. h) in
    let job : OpenJob = record { number = c.in-Ok-submit.number; job = c.in-Ok-submit.job } in
    submitted_held c.self.inside.desk c.submit.new.self c.args.tenant.now c.args.programs.now c.args.credit c.args.buffer.now c.in-Ok-to_vec.buffer.items c.self.inside.held.items c.push_reserved.new.self.items c.self.inside.sources.items
    c.push_reserved-in-Ok-submit.new.self.items job c.args.source c.in-Ok.name.now c.self.invariant c.in-Ok-submit.ensures.taken c.in-Ok.ensures.cases.0 c.in-Ok-submit.ensures.number c.in-Ok-submit.ensures.admitted buffer c.requires
    (c.push_reserved.ensures.items ∙ ap (λ (l : List OpenJob). l ++ job ∷ []) c.reserve.ensures.items)
    (c.push_reserved-in-Ok-submit.ensures.items ∙ ap (λ (l : List (Vec ℕ Global)). l ++ c.args.source ∷ []) c.reserve-2.ensures.items)

pub returns-in-Ok-submit-clause-ok : goal.returns-in-Ok-submit-clause-ok
returns-in-Ok-submit-clause-ok c =
    let buffer = c.in-Ok-to_vec.ensures.items_if_clones_equal (λ x y h. h) in
    let job : OpenJob = record { number = c.in-Ok-submit.number; job = c.in-Ok-submit.job } in
    let desk = ap (λ (s : DeskState). s.desk) c.self.view_is in
    let held = ap (λ (s : DeskState). s.held) c.self.view_is in
    let name = c.in-Ok.ensures.cases.0 in (
      subst (λ (p : Ledger × List ℕ). Takes p.0 p.1 c.args.credit c.submit.new.self) (λ k. (desk k, name k)) c.in-Ok-submit.ensures.taken,
      (
        job,
        subst (λ (b : List ℕ). IsAdmittedFrom c.args.programs.now c.args.credit b c.in-Ok-submit.job) buffer c.in-Ok-submit.ensures.admitted,
        c.in-Ok-submit.ensures.number,
        c.push_reserved.ensures.items ∙ (ap (λ (l : List OpenJob). l ++ job ∷ []) c.reserve.ensures.items ∙ ap (λ (l : List OpenJob). l ++ job ∷ []) held),
      ),
    )

pub returns-clause-refused : goal.returns-clause-refused
returns-clause-refused c is =
    let buffer = c.in-Ok-to_vec.ensures.items_if_clones_equal (λ x y h. h) in
    let desk = ap (λ (s : DeskState). s.desk) c.self.view_is in
    inr (
      c.in-Err.field-0,
      refuses_so c.self.inside.desk c.args.self.now.desk c.in-Ok.name.now c.args.tenant.now c.args.programs.now c.args.credit c.in-Ok-to_vec.buffer.items c.args.buffer.now c.in-Err.field-0 desk c.in-Ok.ensures.cases.0 buffer c.in-Err.ensures.refused,
    )
