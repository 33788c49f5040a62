use Rattle.std.proofs.Common.{◌≡◌, ◌∙◌, ◌+◌, Bool, refl, subst, Some, w16, w64, SFits, rules, if◌then◌else◌}
use Rattle.std.proofs.lemmas.Int.{to_z-of_z}
use Rattle.insn_codec.specs.declared.insn.Insn.TheVariants.{JumpIf}
use Rattle.machine_model.specs.Edges.{leads}
use Rattle.machine_model.specs.Machine.{fact_of}
use Rattle.interpreter.specs.Representation.{at_slot}
use Rattle.interpreter.proofs.Jumps.{branch_lands, branch_all, tests_lead}
use Rattle.interpreter.proofs.Dispatch.{advances_tested}
use Rattle.interpreter.proofs.frame.Frame.jump_if.Goals as goal

pub landing-requires : goal.landing-requires
landing-requires c =
    let fits : SFits w16 c.args.offset = search rules in
    let is : c.from.result ≡ c.args.offset = c.from.ensures ∙ to_z-of_z w16 c.args.offset fits in
    let wide : SFits w64 c.from.result = search rules in
    rw (to_z-of_z w64 c.from.result wide, is)
    (branch_lands _ _ _ c.args.width c.args.condition c.args.dst c.args.src c.args.offset (c.requires.ready _ c.requires.is))

pub returns : goal.returns
returns c =
    let fits : SFits w16 c.args.offset = search rules in
    let is : c.from.result ≡ c.args.offset = c.from.ensures ∙ to_z-of_z w16 c.args.offset fits in
    let wide : SFits w64 c.from.result = search rules in
    let lands = rw (to_z-of_z w64 c.from.result wide, is) at c.landing.ensures in
    let next = if c.test-taken.result then c.landing.result else c.args.site.now.slot + 1 in
    let leads_on = tests_lead c.args.width c.args.condition c.args.dst c.args.src c.args.offset c.args.site.now.slot c.test-taken.result c.landing.result lands in
    advances_tested _ _ _ c.args.self.now c.args.self.now _ _ c.test-taken.result c.landing.result
    (JumpIf c.args.width c.args.condition c.args.dst c.args.src c.args.offset) c.requires.is refl
    (branch_all _ _ _ (at_slot c.args.self.now next) c.args.width c.args.condition c.args.dst c.args.src c.args.offset
    (c.requires.ready _ c.requires.is)
    (subst (λ (t : Bool). leads (JumpIf c.args.width c.args.condition c.args.dst c.args.src c.args.offset) c.args.site.now.slot (fact_of t) ≡ Some next)
    c.test-taken.ensures.value leads_on)
    (refl, refl) c.test-taken.ensures.named.0 c.test-taken.ensures.named.1)
