use Rattle.std.proofs.Common.{◌≡◌, ◌+◌, length, sym, ap, subst, ◌∙◌, ℕ, arith}
use Rattle.std.proofs.lemmas.List.{length-map}
use Rattle.bpfjobs.specs.Listening.{HasDoors}
use Rattle.bpfjobs.proofs.beginning.begin.Goals as goal

pub returns-in-Ok-helpers_of : goal.returns-in-Ok-helpers_of
returns-in-Ok-helpers_of g c =
    let named = sym (length-map c.in-Ok.doors.items _) ∙ ap length c.in-Ok.ensures ∙ length-map c.deref-2.result.now _ in
    let lent = ap length c.deref-2.ensures.value in
    let many : length c.in-Ok.doors.items ≡ length c.args.server.now.tenants.tenants.items = omega (arith, named, lent) in (
      many,
      subst (λ (n : ℕ). HasDoors n c.in_ok-listening.listening) (ap length c.deref-4.ensures.value) c.in_ok-listening.ensures,
      c.parts_of-opened.ensures (length c.args.server.now.tenants.tenants.items + 1) c.in_ok-opened.ensures,
    )
