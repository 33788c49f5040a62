use Rattle.std.proofs.Common.{ℕ, List, map, string_bytes, String, OnErr, refl, subst}
use Rattle.std.proofs.lemmas.Result.{on_err_weaker}
use Rattle.std.specs.declared.alloc.Global.{Global}
use Rattle.streams.specs.Prepared.{asked_of}
use Rattle.shared_desk.specs.Histories.{Query}
use Rattle.tenant_desks.specs.Answering.{DeskAnswer, KeptRunner, named_answers}
use Rattle.tenant_desks.specs.Routing.{desk_for}
use Rattle.tenant_desks.specs.Tenancies.{Tenancy}
use Rattle.tenant_desks.proofs.tenant_handler.TenantHandlerSharedHandlerTenantDesks.answer_by.Goals as goal

pub returns-clause-err : goal.returns-clause-err
returns-clause-err g c =
    let a = c.answer_among-refusal in
    let query : Query = record { passage = c.args.passage; asked = asked_of c.args.request; beyond = c.args._beyond } in
    let T : Tenancy × KeptRunner g.row.N.Denot → Type 0 =
    λ s. OnErr a.result.1 ((reply : List ℕ) × named_answers g.N.Runner.starts g.N.Runner.looks g.N.Runner.takes s query reply (
      record { names = map string_bytes c.desk.inside.names.items; desks = a.new.desks.items },
      record { runner = a.new.runner.runner; keep = c.self.inside.keep },
    )) in
    subst T (λ k. (c.desk.view_is k, c.self.view_is k))
    (on_err_weaker a.result.1 (λ told. (
      told.0,
      (
        subst (λ (names : List (String Global)). DeskAnswer g.N.Runner.starts g.N.Runner.looks g.N.Runner.takes c.self.inside.keep (desk_for (map string_bytes names) query.passage query.asked) query.asked
            c.desk.inside.desks.items c.self.inside.runner.runner told.0 a.new.desks.items a.new.runner.runner) c.deref.ensures.value told.1,
        refl,
        refl,
      ),
    )) a.ensures.err)
