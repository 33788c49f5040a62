-- Each row of the table of opcodes is for slots of its operation alone.
use Rattle.std.proofs.Common.{◌≡◌, ℕ, ◌+◌, ◌≤◌, Bool, true, false, List, [], ◌∷◌, get_or, Option, Some, None, refl, zero, suc, ◌∙◌, arith}
use Rattle.std.specs.Prelude.{IfSome, ◌==◌, ◌&&◌, ◌||◌}
use Rattle.std.proofs.lemmas.Bool.Decides.{nat_tests}
use Rattle.insn_codec.specs.declared.slot.Slot.{Slot}
use Rattle.insn_codec.specs.declared.operation.Uses.{Uses}
use Rattle.insn_codec.specs.declared.operation.Operation.{Operation}
use Rattle.insn_codec.specs.declared.operation.Operation.TheVariants.{Alu, Mov, Neg, MovSx, End, LoadWide, Load, Store, StoreRegister, Jump, Jump32, JumpIf, Call, Exit}
use Rattle.insn_codec.specs.declared.opcodes.Limits.{Limits}
use Rattle.insn_codec.specs.declared.opcodes.TheConstants.{OPCODES}
use Rattle.insn_codec.specs.Table.{opcode_of, uses_of, selecting_offset, IsChosen}
use Rattle.insn_codec.specs.Opcodes.{IsWithin, ChoosesAlone}

-- ---- the fields that choose

abbrev is_zero_offset : Option ℕ → Limits → Bool
is_zero_offset None limits = true
is_zero_offset (Some n) limits = (n == 0) && (limits.offset == 0)

abbrev is_chosen : Operation → Limits → Bool
is_chosen (Alu width op source) limits = is_zero_offset (selecting_offset op) limits
is_chosen (Mov width source) limits = limits.offset == 0
is_chosen (MovSx extension) limits = false
is_chosen (End order size) limits = false
is_chosen LoadWide limits = limits.src == 0
is_chosen Call limits = limits.src == 0
is_chosen op limits = true

zero_offset : (o : Option ℕ) (limits : Limits) (s : Slot) → is_zero_offset o limits ≡ true → IsWithin limits s → IfSome o (λ n. s.offset ≡ n)
zero_offset None limits s h w = tt
zero_offset (Some n) limits s h w = let x = w.offset in grind (arith, nat_tests)

chosen : (op : Operation) (limits : Limits) (s : Slot) → is_chosen op limits ≡ true → IsWithin limits s → IsChosen op s
chosen (Alu width op source) limits s h w = zero_offset (selecting_offset op) limits s h w
chosen (Mov width source) limits s h w = let x = w.offset in grind (arith, nat_tests)
chosen (Neg width) limits s h w = tt
chosen (MovSx extension) limits s h w = absurd cc
chosen (End order size) limits s h w = absurd cc
chosen LoadWide limits s h w = let x = w.src in grind (arith, nat_tests)
chosen (Load kind) limits s h w = tt
chosen (Store size) limits s h w = tt
chosen (StoreRegister size) limits s h w = tt
chosen Jump limits s h w = tt
chosen Jump32 limits s h w = tt
chosen (JumpIf width condition source) limits s h w = tt
chosen Call limits s h w = let x = w.src in grind (arith, nat_tests)
chosen Exit limits s h w = tt

-- ---- one row

abbrev at_most_ten : ℕ → Bool
at_most_ten n = (n == 0) || (n == 10)

abbrev keeps_zero : Bool → ℕ → Bool
keeps_zero used limit = used || (limit == 0)

abbrev are_registers : Limits → Bool
are_registers limits = at_most_ten limits.dst && at_most_ten limits.src

abbrev are_zero : Uses → Limits → Bool
are_zero u limits = (keeps_zero u.dst limits.dst && keeps_zero u.src limits.src) && (keeps_zero u.offset limits.offset && keeps_zero u.imm limits.imm)

abbrev is_right : ℕ → Operation → Limits → Bool
is_right opcode op limits = ((opcode == opcode_of op) && is_chosen op limits) && (are_registers limits && are_zero (uses_of op) limits)

both : (a b : Bool) → a && b ≡ true → (a ≡ true) × (b ≡ true)
both true b h = (refl, h)
both false b h = absurd cc

at_most : (n limit : ℕ) → at_most_ten limit ≡ true → n ≤ limit → n ≤ 10
at_most n limit h le = grind (arith, nat_tests)

stays_zero : (used : Bool) (n limit : ℕ) → keeps_zero used limit ≡ true → n ≤ limit → used ≡ false → n ≡ 0
stays_zero true n limit h le e = absurd cc
stays_zero false n limit h le e = grind (arith, nat_tests)

opcode_is : (a b : ℕ) → (a == b) ≡ true → a ≡ b
opcode_is a b h = grind (arith, nat_tests)

right : (opcode : ℕ) (op : Operation) (limits : Limits) → is_right opcode op limits ≡ true → ChoosesAlone opcode op limits
right opcode op limits h s at w =
    let all = both _ _ h in
    let row = both _ _ all.0 in
    let fields = both _ _ all.1 in
    let registers = both _ _ fields.0 in
    let zero = both _ _ fields.1 in
    let first = both _ _ zero.0 in
    let last = both _ _ zero.1 in
    record {
      is_row = record { opcode = at ∙ opcode_is _ _ row.0; chosen = chosen op limits s row.1 w };
      named = record { dst = λ _. at_most _ _ registers.0 w.dst; src = λ _. at_most _ _ registers.1 w.src };
      zero_rest = record {
        dst = stays_zero _ _ _ first.0 w.dst;
        src = stays_zero _ _ _ first.1 w.src;
        offset = stays_zero _ _ _ last.0 w.offset;
        imm = stays_zero _ _ _ last.1 w.imm;
      };
    }

-- ---- all rows

abbrev Row : Type 0
Row = Option (Operation × Limits)

abbrev is_right_row : ℕ → Row → Bool
is_right_row opcode None = true
is_right_row opcode (Some row) = is_right opcode row.0 row.1

abbrev IsRightRow : ℕ → Row → Type 0
IsRightRow opcode row = IfSome row (λ r. ChoosesAlone opcode r.0 r.1)

abbrev are_right : ℕ → List Row → Bool
are_right opcode [] = true
are_right opcode (row ∷ rows) = is_right_row opcode row && are_right (opcode + 1) rows

right_row : (opcode : ℕ) (row : Row) → is_right_row opcode row ≡ true → IsRightRow opcode row
right_row opcode None h = tt
right_row opcode (Some row) h = right opcode row.0 row.1 h

right_at : (rows : List Row) (opcode i : ℕ) → are_right opcode rows ≡ true → IsRightRow (opcode + i) (get_or rows i None)
right_at [] opcode i h = tt
right_at (row ∷ rows) opcode zero h = let e : opcode + 0 ≡ opcode = omega arith in rw e (right_row opcode row (both _ _ h).0)
right_at (row ∷ rows) opcode (suc i) h = let e : opcode + suc i ≡ opcode + 1 + i = omega arith in rw e (right_at rows (opcode + 1) i (both _ _ h).1)

pub row_right : are_right 0 OPCODES ≡ true → (i opcode : ℕ) → i ≡ opcode → IsRightRow opcode (get_or OPCODES i None)
row_right all i opcode same = let e : opcode ≡ 0 + i = omega arith in rw e (right_at OPCODES 0 i all)
