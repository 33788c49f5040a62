-- The words for loads and for a task's start cover what they stand for.
use Rattle.std.proofs.Common.{◌≡◌, ℕ, pos, Bool, true, false, if◌then◌else◌, ◌-◌, ◌%◌, ◌^◌, arith}
use Rattle.std.specs.Prelude.{◌==◌}
use Rattle.value_ranges.proofs.CoverLemmas.{between_alone, covers_any, covers_between}
use Rattle.value_ranges.specs.Covers.{Covers}
use Rattle.value_ranges.specs.Words.{CoversEntry, CoversLoads, any_number, entry, load_range}
use Rattle.value_ranges.specs.declared.abs.Abs.{Abs}
use Rattle.machine_model.specs.Operators.{extended, signed}
use Rattle.machine_model.specs.Value.{Value}
use Rattle.machine_model.specs.Value as value
use Rattle.machine_model.proofs.OperatorLemmas.{residue-lt}
use Rattle.insn_codec.specs.declared.insn.LoadKind.{LoadKind}
use Rattle.insn_codec.specs.declared.insn.LoadKind.TheVariants as kind

extension : (w x : ℕ) → Covers any_number (value.Num (extended w 64 x))
extension w x = covers_any (extended w 64 x) (residue-lt 64 (signed w (x % 2 ^ w)))

pub covers_loaded : (k : LoadKind) → CoversLoads k (load_range k)
covers_loaded kind.Byte x h = covers_between 0 255 x (omega arith) (omega arith) (omega arith)
covers_loaded kind.Half x h = covers_between 0 65535 x (omega arith) (omega arith) (omega arith)
covers_loaded kind.Word x h = covers_between 0 (2 ^ 32 - 1) x (omega arith) (omega arith) (omega arith)
covers_loaded kind.Double x h = covers_any x h
covers_loaded kind.SignedByte x h = extension 8 x
covers_loaded kind.SignedHalf x h = extension 16 x
covers_loaded kind.SignedWord x h = extension 32 x

pub loaded_covers : (k : LoadKind) (r : Abs) → r ≡ load_range k → CoversLoads k r
loaded_covers k r e = rw e (covers_loaded k)

choice : (t : Bool) (a b : Abs) (v w : Value) → Covers a v → Covers b w → Covers (if t then a else b) (if t then v else w)
choice true a b v w h k = h
choice false a b v w h k = k

pub covers_entry : (need r : ℕ) → CoversEntry need r (entry need r)
covers_entry need r size arg h k l =
    choice (r == 10) _ _ _ _ (between_alone (pos 512)) (choice (r == 3) _ _ _ _ (covers_any arg l)
    (choice (r == 2) _ _ _ _ (covers_between need 65536 size h k (omega arith)) (choice (r == 1) _ _ _ _ (between_alone (pos 0)) tt)))

pub entry_covers : (need r : ℕ) (a : Abs) → a ≡ entry need r → CoversEntry need r a
entry_covers need r a e = rw e (covers_entry need r)
