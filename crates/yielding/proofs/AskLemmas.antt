-- What a call of a helper of the host's asks.
use Rattle.std.proofs.Common.{◌≡◌, ◌≢◌, ℕ, ◌≤◌, ◌+◌, refl, sym, ◌∙◌, ap, arith, slice_index, Option, Some, None, inr}
use Rattle.insn_codec.specs.declared.insn.Insn.TheVariants.{Call}
use Rattle.machine_model.specs.Value.{Registers}
use Rattle.machine_model.specs.Edges.{price}
use Rattle.machine_model.specs.Machine.{State, Calls, call_registered, effect, meaning}
use Rattle.machine_model.specs.Alone.{no_entries}
use Rattle.helpers.specs.Piece.{Piece}
use Rattle.helpers.specs.Table.{arity_in}
use Rattle.instruction_rules.specs.Covers.{abs_at}
use Rattle.instruction_rules.specs.States.{call_fault, kind_fault, number_arguments, unset_arguments}
use Rattle.instruction_rules.specs.declared.state.AbsState as abstract
use Rattle.verifier.specs.Checked.{Checked, program_of}
use Rattle.interpreter.specs.declared.frame.Frame.{Frame}
use Rattle.interpreter.specs.declared.credit.Credit.{Credit}
use Rattle.interpreter.specs.Operands.{arguments_of}
use Rattle.interpreter.specs.Representation.{RepresentsTask, AtInsn, state_of}
use Rattle.interpreter.proofs.Faults.{first_none}
use Rattle.interpreter.proofs.Helpers.{IsRegistered, helper_known, is_registered, number_at, registered_calls}
use Rattle.interpreter.proofs.Steps.{effect_paid}
use Rattle.interpreter.proofs.Values.{is_number}

-- a helper that is called is in the table
pub is_there : (p : Checked) (f : Frame) (part : Piece) (credit : Credit) (helper : ℕ) → AtInsn p f part credit (Call helper) →
    arity_in p.helpers helper ≢ None
is_there p f part credit helper at none =
    let behind = at.covered.some.1 in
    helper_known p.need behind.state helper (arity_in p.helpers helper) (at.sound behind.state behind.known).allowed none

some_of : (o : Option ℕ) → o ≢ None → (n : ℕ) × (o ≡ Some n)
some_of None not = absurd (not refl)
some_of (Some n) not = (n, refl)

pub has_arity : (p : Checked) (f : Frame) (part : Piece) (credit : Credit) (helper : ℕ) → AtInsn p f part credit (Call helper) →
    (arity : ℕ) × (arity_in p.helpers helper ≡ Some arity)
has_arity p f part credit helper at = some_of (arity_in p.helpers helper) (is_there p f part credit helper at)

-- its arguments are numbers
are_numbers : (need : ℕ) (state : abstract.AbsState) (helper arity : ℕ) (o : Option ℕ) → IsRegistered helper → o ≡ Some arity →
    call_fault need state helper o ≡ None → number_arguments state arity ≡ None
are_numbers need state helper arity o other is e =
    let known : call_fault need state helper (Some arity) ≡ None = ap (call_fault need state helper) (sym is) ∙ e in
    let kinds : kind_fault need state helper arity ≡ None = (first_none (unset_arguments state arity) (kind_fault need state helper arity) known).1 in
    let same : kind_fault need state helper arity ≡ number_arguments state arity = rw (other.not_fill, other.not_sum) refl in
    sym same ∙ kinds

-- what the call asks of each task behind the frame, whose price is in the spent credit
asks_spent : (p : Checked) (f : Frame) (part : Piece) (credit spent : Credit) (helper arity : ℕ) → AtInsn p f part credit (Call helper) → 64 ≤ helper →
    arity_in p.helpers helper ≡ Some arity → spent ≡ record { held = credit.held; used = credit.used + price (Call helper) } → (registers : Registers) →
    RepresentsTask p f registers →
    effect (program_of p) no_entries (state_of f part credit registers) ≡ Calls helper (arguments_of f.words arity) (state_of f part spent registers)
asks_spent p f part credit spent helper arity at far known spent_is registers behind =
    let s : State = state_of f part spent registers in
    let other = is_registered helper (inr (omega (arith, far))) in
    let numbers = are_numbers p.need behind.state helper arity (arity_in p.helpers helper) other known (at.sound behind.state behind.known).allowed in
    let means : call_registered s helper (arity_in p.helpers helper) ≡ Calls helper (arguments_of f.words arity) s =
    ap (call_registered s helper) known
    ∙ registered_calls s f.words helper arity (λ r some le lt.
    is_number (abs_at behind.state r) (registers r) (slice_index f.words r) (number_at behind.state arity r numbers some le) (behind.values r) (behind.words r (omega (arith, lt)))) in
    let paid : effect (program_of p) no_entries (state_of f part credit registers) ≡ meaning (program_of p) no_entries s (Call helper) =
    effect_paid p f part credit (Call helper) at no_entries registers spent spent_is in
    let on : meaning (program_of p) no_entries s (Call helper) ≡ Calls helper (arguments_of f.words arity) s =
    rw (other.not_spawn, other.not_credit_left, other.not_part_len, other.not_fill, other.not_sum) means in
    paid ∙ on

pub asks : (p : Checked) (f : Frame) (part : Piece) (credit : Credit) (helper arity : ℕ) → AtInsn p f part credit (Call helper) → 64 ≤ helper →
    arity_in p.helpers helper ≡ Some arity → (registers : Registers) → RepresentsTask p f registers →
    effect (program_of p) no_entries (state_of f part credit registers)
    ≡ Calls helper (arguments_of f.words arity) (state_of f part (record { held = credit.held; used = credit.used + price (Call helper) }) registers)
asks p f part credit helper arity at far known registers behind =
    asks_spent p f part credit (record { held = credit.held; used = credit.used + price (Call helper) }) helper arity at far known refl registers behind
