-- A pointer moved by a number stays within the positions that the table gives.
use Rattle.std.proofs.Common.{◌≡◌, ℕ, ℤ, Bool, true, false, IfOk, Result, Ok, Err, Option, Some, arith, refl, ◌+ℤ◌, ◌-ℤ◌, ◌≤ℤ◌, if◌then◌else◌}
use Rattle.std.proofs.lemmas.Int.{ints, to_z-of_z}
use Rattle.value_ranges.specs.Numbers.{Ranges, Among}
use Rattle.machine_model.specs.Outcomes.{position_after, position_onto}
use Rattle.value_ranges.specs.Tables.{moved_up, moved_down, positions, positions_after, positions_onto}
use Rattle.value_ranges.specs.declared.fault.PointerFault.{PointerFault}
use Rattle.value_ranges.specs.declared.fault.PointerFault.TheVariants.{TooFar}
use Rattle.value_ranges.specs.Span.{Span, span, Between}
use Rattle.insn_codec.specs.declared.insn.Width.{Width}
use Rattle.insn_codec.specs.declared.insn.Width.TheVariants.{W64}
use Rattle.insn_codec.specs.declared.insn.AluOp.{AluOp}
use Rattle.insn_codec.specs.declared.insn.AluOp.TheVariants.{Add, Sub}

-- a signed value that is passed on is seen through its bits
pub ruleset signed_values = (ints, to_z-of_z)

either : (t : Bool) (lo hi m : ℤ) → lo ≤ℤ m → m ≤ℤ hi → IfOk {T = Span} {E = PointerFault} (if t then Err TooFar else Ok (span lo hi)) (λ p. Between p m)
either true lo hi m h k = tt
either false lo hi m h k = (h, k)

Between-positions : (lo hi m : ℤ) → lo ≤ℤ m → m ≤ℤ hi → IfOk (positions lo hi) (λ p. Between p m)
Between-positions lo hi m h k = either _ lo hi m h k

up : (p s : Span) (k m : ℤ) → Between p k → Between s m → IfOk (moved_up p s) (λ q. Between q (k +ℤ m))
up p s k m h j = Between-positions (p.lo +ℤ s.lo) (p.hi +ℤ s.hi) (k +ℤ m) (omega (arith, ints)) (omega (arith, ints))

down : (p s : Span) (k m : ℤ) → Between p k → Between s m → IfOk (moved_down p s) (λ q. Between q (k -ℤ m))
down p s k m h j = Between-positions (p.lo -ℤ s.hi) (p.hi -ℤ s.lo) (k -ℤ m) (omega (arith, ints)) (omega (arith, ints))

-- the position that the operator gives is there, and among the positions
abbrev pub HasPosition : Option ℤ → Span → Type 0
HasPosition o q = (m : ℤ) × (o ≡ Some m) × Between q m

position : (k : ℤ) (r : Result Span PointerFault) → IfOk r (λ q. Between q k) → IfOk r (HasPosition (Some k))
position k (Ok q) h = (k, refl, h)
position k (Err e) h = tt

pub after : (w : Width) (op : AluOp) (p : Span) (n : Ranges) (k : ℤ) (x : ℕ) → Between p k → Among n x → IfOk (positions_after w op p n) (HasPosition (position_after w op k x))
after W64 Add p n k x h j = position _ _ (up p n.signed k _ h j.1)
after W64 Sub p n k x h j = position _ _ (down p n.signed k _ h j.1)
after _ _ p n k x h j = tt

pub onto : (w : Width) (op : AluOp) (n : Ranges) (p : Span) (x : ℕ) (k : ℤ) → Among n x → Between p k → IfOk (positions_onto w op n p) (HasPosition (position_onto w op x k))
onto W64 Add n p x k j h = position _ _ (up p n.signed k _ h j.1)
onto _ _ n p x k j h = tt
