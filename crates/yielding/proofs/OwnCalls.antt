-- An instruction that the task runs by itself asks nothing of the host.
use Rattle.std.proofs.Common.{◌≡◌, ℕ, ◌<◌, ◌==◌, ◌-◌, refl, sym, subst, ap, ◌∙◌, arith, true, Option, inl, inr, nat_lt, length, if◌then◌else◌}
use Rattle.std.proofs.lemmas.Bool.Decides.{nat_tests}
use Rattle.insn_codec.specs.declared.insn.Insn.{Insn}
use Rattle.insn_codec.specs.declared.insn.Insn.TheVariants.{Call, Exit}
use Rattle.machine_model.specs.Value.{Registers}
use Rattle.machine_model.specs.Edges.{price}
use Rattle.machine_model.specs.Machine.{State, Program, Effect, Continues, answered, call_registered, effect, fill, meaning, paid, spawn, sum_of}
use Rattle.machine_model.specs.Alone.{no_entries}
use Rattle.machine_model.proofs.OwnHelpers.{IsOwn, own_effect}
use Rattle.helpers.specs.Piece.{Piece}
use Rattle.helpers.specs.Table.{Table, arity_in, job_table}
use Rattle.verifier.specs.Checked.{Checked, program_of}
use Rattle.interpreter.specs.declared.frame.Frame.{Frame}
use Rattle.interpreter.specs.declared.credit.Credit.{Credit}
use Rattle.interpreter.specs.Representation.{AtInsn, state_of}
use Rattle.interpreter.proofs.Steps.{affords_price, effect_at}
use Rattle.virtual_machine.proofs.OwnTable.{own_table}
use Rattle.yielding.specs.Stops.{RunsByItself}

-- the program without the host's helpers
abbrev bare : Checked → Checked
bare p = record { need = p.need; helpers = job_table; code = p.code; states = p.states; costs = p.costs }

-- a helper of id 0 to 63 is the same with and without them
low_same : (table : Table) (helper : ℕ) → helper < 64 → arity_in table helper ≡ arity_in job_table helper
low_same table helper small = let t : nat_lt helper 64 ≡ true = grind (arith, nat_tests) in rw t refl

-- a call, by how many arguments the helper takes, if it is in the table
abbrev call_by : Program → State → ℕ → Option ℕ → Effect
call_by p s helper arity =
    if helper == 1 then spawn p no_entries s else
    if helper == 2 then Continues (answered s (s.held - s.used)) else
    if helper == 3 then Continues (answered s (length s.part)) else
    if helper == 4 then fill s else
    if helper == 5 then sum_of s else call_registered s helper arity

own_by : (p : Checked) (f : Frame) (part : Piece) (credit : Credit) (i : Insn) → AtInsn p f part credit i →
    ((s : State) → meaning (program_of (bare p)) no_entries s i ≡ meaning (program_of p) no_entries s i) → (registers : Registers) →
    IsOwn (effect (program_of p) no_entries (state_of f part credit registers))
own_by p f part credit i at same registers =
    let s : State = state_of f part credit registers in
    let affords = affords_price p f part credit i at in
    let one = effect_at (program_of p) no_entries s i at.insn affords in
    let two = effect_at (program_of (bare p)) no_entries s i at.insn affords in
    subst (λ (e : Effect). IsOwn e) (two ∙ same (paid s (price i)) ∙ sym one) (own_effect (program_of (bare p)) no_entries s (own_table (bare p) refl))

pub own_stop : (p : Checked) (f : Frame) (part : Piece) (credit : Credit) → RunsByItself p f part credit → (registers : Registers) →
    IsOwn (effect (program_of p) no_entries (state_of f part credit registers))
own_stop p f part credit by_itself registers = elim by_itself [
  | inl at ↦ own_by p f part credit Exit at (λ s. refl) registers
  | inr call ↦ own_by p f part credit (Call call.0) call.2
      (λ s. ap (λ (o : Option ℕ). call_by (program_of p) s call.0 o) (sym (low_same p.helpers call.0 call.1))) registers
]
