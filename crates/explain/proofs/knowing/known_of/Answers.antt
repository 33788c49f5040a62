use Rattle.std.proofs.Common.{◌≡◌, Some, subst, sym, refl, ◌∙◌, Option, ℕ}
use Rattle.explain.specs.Told.{IsKnownOf, ruled_slot}
use Rattle.explain.proofs.RefusedLemmas.{refused_at}
use Rattle.explain.proofs.knowing.known_of.Goals as goal

pub known_at-requires : goal.known_at-requires
known_at-requires c =
    refused_at c.args.need c.args.code.now c.args.helpers.now c.args.refusal.now c.in-Some.slot c.requires (sym c.ruled_slot.ensures ∙ c.in-Some.is)

pub returns-in_ok-known_at-in-Some : goal.returns-in_ok-known_at-in-Some
returns-in_ok-known_at-in-Some c =
    let slot : Some c.in-Some.slot ≡ ruled_slot c.args.refusal.now = sym (sym c.ruled_slot.ensures ∙ c.in-Some.is) in
    subst (λ (o : Option ℕ). IsKnownOf c.args.need c.args.code.now c.args.helpers.now o (Some c.in_ok-known_at-in-Some.field-0)) slot
    (c.in_ok-known_at-in-Some.field-0, refl, c.in_ok-known_at-in-Some.ensures)
