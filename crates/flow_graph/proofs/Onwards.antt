-- Where an instruction leads, by how it goes on.
use Rattle.std.proofs.Common.{◌≡◌, ℕ, ◌+◌, Some, None, Option, ap, ◌∙◌, refl, [], ◌∷◌}
use Rattle.std.specs.Prelude.{option_and_then}
use Rattle.insn_codec.specs.declared.insn.Insn.{Insn}
use Rattle.insn_codec.specs.declared.insn.Insn.TheVariants.{Alu, Mov, MovSx, Neg, End, LoadWide, Load, Store, StoreRegister, Jump, Jump32, JumpIf, Call, Exit}
use Rattle.machine_model.specs.Edges.{Code, Fact, Always, NotTaken, Taken, insn_at, leads, leads_at, target}
use Rattle.flow_graph.specs.declared.onward.Onward.{Onward}
use Rattle.flow_graph.specs.declared.onward.Onward.TheVariants.{Steps, StepsWide, Jumps, Branches}
use Rattle.flow_graph.specs.declared.fault.FlowFault.{FlowFault}
use Rattle.flow_graph.specs.Onward.{onward_of}
use Rattle.flow_graph.specs.Program.{second_slot}
use Rattle.flow_graph.specs.Faults.{first_of_faults}

abbrev pub leads_on : Onward → ℕ → Fact → Option ℕ
leads_on Steps slot Always = Some (slot + 1)
leads_on StepsWide slot Always = Some (slot + 2)
leads_on (Jumps offset) slot Always = target slot offset
leads_on (Branches offset) slot NotTaken = Some (slot + 1)
leads_on (Branches offset) slot Taken = target slot offset
leads_on onward slot fact = None

leads_always : (i : Insn) (slot : ℕ) → leads i slot Always ≡ leads_on (onward_of i) slot Always
leads_always (Alu w op dst src) slot = refl
leads_always (Mov w dst src) slot = refl
leads_always (MovSx e dst src) slot = refl
leads_always (Neg w dst) slot = refl
leads_always (End order size dst) slot = refl
leads_always (LoadWide dst value) slot = refl
leads_always (Load kind dst base offset) slot = refl
leads_always (Store size base offset imm) slot = refl
leads_always (StoreRegister size base offset src) slot = refl
leads_always (Jump offset) slot = refl
leads_always (Jump32 offset) slot = refl
leads_always (JumpIf w c dst src offset) slot = refl
leads_always (Call helper) slot = refl
leads_always Exit slot = refl

pub leads_is : (i : Insn) (slot : ℕ) (fact : Fact) → leads i slot fact ≡ leads_on (onward_of i) slot fact
leads_is i slot Always = leads_always i slot
leads_is (Alu w op dst src) slot fact = refl
leads_is (Mov w dst src) slot fact = refl
leads_is (MovSx e dst src) slot fact = refl
leads_is (Neg w dst) slot fact = refl
leads_is (End order size dst) slot fact = refl
leads_is (LoadWide dst value) slot fact = refl
leads_is (Load kind dst base offset) slot fact = refl
leads_is (Store size base offset imm) slot fact = refl
leads_is (StoreRegister size base offset src) slot fact = refl
leads_is (Jump offset) slot fact = refl
leads_is (Jump32 offset) slot fact = refl
leads_is (JumpIf w c dst src offset) slot fact = refl
leads_is (Call helper) slot fact = refl
leads_is Exit slot fact = refl

-- how many slots an instruction takes
abbrev pub width_of : Onward → ℕ
width_of StepsWide = 2
width_of onward = 1

abbrev pub other_slot : Onward → Code
other_slot StepsWide = None ∷ []
other_slot onward = []

pub second_is : (i : Insn) → second_slot i ≡ other_slot (onward_of i)
second_is (Alu w op dst src) = refl
second_is (Mov w dst src) = refl
second_is (MovSx e dst src) = refl
second_is (Neg w dst) = refl
second_is (End order size dst) = refl
second_is (LoadWide dst value) = refl
second_is (Load kind dst base offset) = refl
second_is (Store size base offset imm) = refl
second_is (StoreRegister size base offset src) = refl
second_is (Jump offset) = refl
second_is (Jump32 offset) = refl
second_is (JumpIf w c dst src offset) = refl
second_is (Call helper) = refl
second_is Exit = refl

pub leads_of : (code : Code) (slot : ℕ) (i : Insn) (fact : Fact) → insn_at code slot ≡ Some i →
    leads_at code slot fact ≡ leads_on (onward_of i) slot fact
leads_of code slot i fact e = ap (λ (o : Option Insn). option_and_then (λ j. leads j slot fact) o) e ∙ leads_is i slot fact

pub first_none : (a b : Option FlowFault) → first_of_faults a b ≡ None → (a ≡ None) × (b ≡ None)
first_none None b e = (refl, e)
first_none (Some fault) b e = absurd (cc)
