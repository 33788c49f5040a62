-- A fault of an edge tells its slot.
use Rattle.std.proofs.Common.{◌≡◌, ℕ, ◌+◌, ◌<◌, length, Some, None, Option, ap, sym, refl, inl, inr, ◌⊎◌, ◌≤◌, slice_get, subst, nat_lt, if◌then◌else◌, Bool, true, false}
use Rattle.std.specs.Prelude.{option_and_then}
use Rattle.std.proofs.lemmas.Bool.{cases_lt}
use Rattle.std.proofs.lemmas.Option.{slice_get_past}
use Rattle.insn_codec.specs.declared.insn.Insn.{Insn}
use Rattle.machine_model.specs.Edges.{Code, insn_at, target}
use Rattle.flow_graph.specs.declared.fault.FlowFault.{FlowFault}
use Rattle.flow_graph.specs.declared.fault.FlowFault.TheVariants.{JumpOut, IntoWide, Cycle, FallsOff, Unreachable, NoMemory}
use Rattle.flow_graph.specs.declared.onward.Onward.{Onward}
use Rattle.flow_graph.specs.declared.onward.Onward.TheVariants.{Steps, StepsWide, Jumps, Branches, Ends}
use Rattle.flow_graph.specs.Onward.{onward_of}
use Rattle.flow_graph.specs.Faults.{landing_fault, jump_fault, fall_fault, first_of_faults, onward_fault, fault_of, fault_at, IsFirstFault}
use Rattle.flow_graph.specs.Refusals.{Refuses}

abbrev IsAt : ℕ → FlowFault → Type 0
IsAt slot (JumpOut s) = s ≡ slot
IsAt slot (IntoWide s) = s ≡ slot
IsAt slot (Cycle s) = ⊥
IsAt slot (FallsOff s) = s ≡ slot
IsAt slot (Unreachable s) = ⊥
IsAt slot NoMemory = ⊥

same_fault : (a b : FlowFault) → Some a ≡ Some b → a ≡ b
same_fault a b e = cc

tested : (test : Bool) (slot : ℕ) (told fault : FlowFault) → IsAt slot told → (if test then None else Some told) ≡ Some fault → IsAt slot fault
tested true slot told fault a e = absurd (cc)
tested false slot told fault a e = subst (IsAt slot) (same_fault told fault e) a

landing_at : (slot to : ℕ) (x : Option (Option Insn)) (fault : FlowFault) → landing_fault slot to x ≡ Some fault → IsAt slot fault
landing_at slot to None fault e = subst (IsAt slot) (same_fault (JumpOut slot) fault e) refl
landing_at slot to (Some None) fault e = subst (IsAt slot) (same_fault (IntoWide slot) fault e) refl
landing_at slot to (Some (Some i)) fault e = absurd (cc)

jump_at : (code : Code) (slot : ℕ) (o : Option ℕ) (fault : FlowFault) → jump_fault code slot o ≡ Some fault → IsAt slot fault
jump_at code slot None fault e = subst (IsAt slot) (same_fault (JumpOut slot) fault e) refl
jump_at code slot (Some to) fault e = landing_at slot to (slice_get code to) fault e

fall_at : (code : Code) (slot to : ℕ) (fault : FlowFault) → fall_fault code slot to ≡ Some fault → IsAt slot fault
fall_at code slot to fault e = tested (nat_lt to (length code)) slot (FallsOff slot) fault refl e

pub either : (a b : Option FlowFault) (fault : FlowFault) → first_of_faults a b ≡ Some fault → (a ≡ Some fault) ⊎ (b ≡ Some fault)
either None b fault e = inr e
either (Some told) b fault e = inl e

onward_at : (code : Code) (slot : ℕ) (onward : Onward) (fault : FlowFault) → onward_fault code slot onward ≡ Some fault → IsAt slot fault
onward_at code slot Steps fault e = fall_at code slot (slot + 1) fault e
onward_at code slot StepsWide fault e = fall_at code slot (slot + 2) fault e
onward_at code slot (Jumps offset) fault e = jump_at code slot (target slot offset) fault e
onward_at code slot (Branches offset) fault e =
    elim (either (jump_fault code slot (target slot offset)) (fall_fault code slot (slot + 1)) fault e) [
      | inl jump ↦ jump_at code slot (target slot offset) fault jump
      | inr fall ↦ fall_at code slot (slot + 1) fault fall
    ]
onward_at code slot Ends fault e = absurd (cc)

of_at : (code : Code) (slot : ℕ) (o : Option Insn) (fault : FlowFault) → fault_of code slot o ≡ Some fault → IsAt slot fault
of_at code slot None fault e = absurd (cc)
of_at code slot (Some i) fault e = onward_at code slot (onward_of i) fault e

moved : (code : Code) (s slot : ℕ) (fault : FlowFault) → s ≡ slot → IsFirstFault code slot fault → IsFirstFault code s fault
moved code s slot fault same f = subst (λ (t : ℕ). IsFirstFault code t fault) (sym same) f

pub refuses_of : (code : Code) (slot : ℕ) (fault : FlowFault) → fault_at code slot ≡ Some fault →
    ((s : ℕ) → s < slot → fault_at code s ≡ None) → Refuses code fault
refuses_of code slot fault e least = told fault (of_at code slot (insn_at code slot) fault e) (record { applies = e; least = least })
  where
    told : (fault : FlowFault) → IsAt slot fault → IsFirstFault code slot fault → Refuses code fault
    told (JumpOut s) a f = moved code s slot (JumpOut s) a f
    told (IntoWide s) a f = moved code s slot (IntoWide s) a f
    told (Cycle s) a f = absurd a
    told (FallsOff s) a f = moved code s slot (FallsOff s) a f
    told (Unreachable s) a f = absurd a
    told NoMemory a f = absurd a

fault_past : (code : Code) (s : ℕ) → length code ≤ s → fault_at code s ≡ None
fault_past code s h =
    let e : insn_at code s ≡ None = ap (λ (o : Option (Option Insn)). option_and_then (λ i. i) o) (slice_get_past code s h) in
    ap (fault_of code s) e

-- where no slot of the code has a fault, none has
pub faultless_of : (code : Code) → ((s : ℕ) → s < length code → fault_at code s ≡ None) → (s : ℕ) → fault_at code s ≡ None
faultless_of code none s = elim (cases_lt s (length code)) [ inl h ↦ none s h | inr h ↦ fault_past code s h ]
