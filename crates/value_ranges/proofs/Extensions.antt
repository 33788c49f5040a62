-- Sign extension, byte order and negation: their rows cover what they give.
use Rattle.std.proofs.Common.{◌≡◌, ℕ, ◌-◌, ◌%◌, ◌^◌, ◌<◌, ◌≤◌, arith, ap, if◌then◌else◌}
use Rattle.std.proofs.Math.Nat.{mod-eq_of_lt, pow-le-pow_right}
use Rattle.std.proofs.lemmas.Bool.Decides.{nat_tests}
use Rattle.value_ranges.specs.Interval.{Interval, Within, full, single, is_single}
use Rattle.machine_model.specs.Operators.{bits_of, signed, extended}
use Rattle.machine_model.specs.Outcomes.{bits_from, extended_by, width_to, negated, ordered_by, end_bits}
use Rattle.value_ranges.specs.Tables.{extension_range, negated_range, ordered_range}
use Rattle.value_ranges.specs.Ranges.{cut, extended_range}
use Rattle.insn_codec.specs.declared.insn.Width.{Width}
use Rattle.insn_codec.specs.declared.insn.ByteOrder.{ByteOrder}
use Rattle.insn_codec.specs.declared.insn.ByteOrder.TheVariants.{Little, Big, Swap}
use Rattle.insn_codec.specs.declared.insn.EndSize.{EndSize}
use Rattle.insn_codec.specs.declared.insn.SignExtension.{SignExtension}
use Rattle.value_ranges.proofs.RowLemmas.{Within-cut, cut-fits}
use Rattle.machine_model.proofs.OperatorLemmas.{residue-lt, signed-small, negated-lt, ordered_by-lt}

half_pow : (n : ℕ) → 2 ^ (n - 1) ≤ 2 ^ n
half_pow n = pow-le-pow_right {n = 2} (omega arith) {i = n - 1} {j = n} (omega arith)

-- a number whose sign bit is not set stays as it is
extended-small : (w n x : ℕ) → x < 2 ^ (w - 1) → x < 2 ^ n → extended w n x ≡ x
extended-small w n x h k =
    let e : x % 2 ^ w ≡ x = mod-eq_of_lt (omega (arith, half_pow w)) in
    rw e (rw (signed-small w x h) (mod-eq_of_lt k))

Within-extended : (w n : ℕ) (b : Interval) (x : ℕ) → b.hi < 2 ^ n → Within b x → Within (extended_range w n b) (extended w n x)
Within-extended w n b x p h =
    let most = residue-lt n (signed w (x % 2 ^ w)) in
    let small : x < 2 ^ (w - 1) → extended w n x ≡ x = λ k. extended-small w n x k (omega arith) in
    let same : b.lo ≡ b.hi → extended w n b.lo ≡ extended w n x = λ e. let i : b.lo ≡ x = omega arith in ap (extended w n) i in
    grind (arith, nat_tests)

pub Within-extension : (e : SignExtension) (r : Interval) (x : ℕ) → Within r x → Within (extension_range e r) (extended_by e x)
Within-extension e r x h =
    let n = bits_of (width_to e) in
    Within-extended (bits_from e) n (cut n r) (x % 2 ^ n) (cut-fits n r) (Within-cut n r x h)

pub Within-negated : (w : Width) (r : Interval) (x : ℕ) → Within r x → Within (negated_range w r) (negated w x)
Within-negated w r x h =
    let most = negated-lt w x in
    let same : r.lo ≡ r.hi → negated w r.lo ≡ negated w x = λ e. let i : r.lo ≡ x = omega arith in ap (negated w) i in
    grind (arith, nat_tests)

Within-low : (s : EndSize) (r : Interval) (x : ℕ) → Within r x → Within (ordered_range Little s r) (ordered_by Little s x)
Within-low s r x h = grind (arith, nat_tests, mod-eq_of_lt, ordered_by-lt Little s x)

Within-turned : (c : ByteOrder) (s : EndSize) (r : Interval) (x : ℕ) → Within r x → Within (if is_single r then single (ordered_by c s r.lo) else full (end_bits s)) (ordered_by c s x)
Within-turned c s r x h =
    let most = ordered_by-lt c s x in
    let same : r.lo ≡ r.hi → ordered_by c s r.lo ≡ ordered_by c s x = λ e. let i : r.lo ≡ x = omega arith in ap (ordered_by c s) i in
    grind (arith, nat_tests)

pub Within-ordered : (c : ByteOrder) (s : EndSize) (r : Interval) (x : ℕ) → Within r x → Within (ordered_range c s r) (ordered_by c s x)
Within-ordered Little s r x h = Within-low s r x h
Within-ordered Big s r x h = Within-turned Big s r x h
Within-ordered Swap s r x h = Within-turned Swap s r x h
