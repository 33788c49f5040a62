-- The texts of operands: without a comma, and each of one value.
use Rattle.std.proofs.Common.{◌≡◌, ℕ, ℤ, pos, suc, ◌<◌, ◌≤◌, ◌^◌, List, [], ◌∷◌, ◌++◌, drop, refl, ap, sym, subst, inl, inr, arith}
use lib.IntN.{negsuc}
use Rattle.std.specs.Prelude.{FitsSigned}
use Rattle.std.specs.Int.{w16, w32}
use Rattle.std.specs.Fmt.{decimal, signed_decimal}
use Rattle.std.specs.Char.{digit_value}
use Rattle.std.specs.Str.Parse.{AllDigits, digits_value}
use Rattle.std.proofs.lemmas.Fmt.{digits_decimal, decimal_injective, signed_decimal_injective}
use Rattle.std.proofs.lemmas.Str.Parse.{IsNumeralModel, numerals_by_value, tells_digits}
use Rattle.insn_codec.specs.declared.insn.Operand.{Operand}
use Rattle.insn_codec.specs.declared.insn.Operand.TheVariants as operand
use Rattle.insn_codec.specs.Spelling.{IsOperand}
use Rattle.disassembler.specs.Line.{register_text, signed_text, operand_text, memory_text, two_operands}
use Rattle.disassembler.specs.Cut.{IsFree, StopsAtOnce}
use Rattle.disassembler.proofs.Cuts.{cut_once}

pub own : IsNumeralModel (AllDigits 10) (digits_value 10)
own = numerals_by_value (AllDigits 10) tells_digits

-- ---- texts without some bytes

pub free_digits : (s o : ℕ) → (digit_value s < 10 → ⊥) → (digit_value o < 10 → ⊥) → (ds : List ℕ) → AllDigits 10 ds → IsFree s o ds
free_digits s o a b [] h = tt
free_digits s o a b (d ∷ ds) h = (
  (λ e. a (subst (λ (x : ℕ). digit_value x < 10) e h.0)),
  (λ e. b (subst (λ (x : ℕ). digit_value x < 10) e h.0)),
  free_digits s o a b ds h.1,
)

pub free_append : (s o : ℕ) (xs ys : List ℕ) → IsFree s o xs → IsFree s o ys → IsFree s o (xs ++ ys)
free_append s o [] ys h k = k
free_append s o (x ∷ xs) ys h k = (h.0, h.1, free_append s o xs ys h.2 k)

pub free_decimal : (n : ℕ) → n < 2 ^ 64 → IsFree 44 44 (decimal n)
free_decimal n lt = free_digits 44 44 (λ h. absurd (omega arith)) (λ h. absurd (omega arith)) (decimal n) (digits_decimal own n lt)

pub apart : (m n : ℕ) → m < n → m ≡ n → ⊥
apart m n lt e = absurd (omega arith)

pub over : (m n : ℕ) → n < m → m ≡ n → ⊥
over m n lt e = absurd (omega arith)

pub free_register : (n : ℕ) → n ≤ 10 → IsFree 44 44 (register_text n)
free_register n h = (over 114 44 (omega arith), over 114 44 (omega arith), free_decimal n (omega arith))

pub free_operand : (o : Operand) → IsOperand o → IsFree 44 44 (operand_text o)
free_operand (operand.Reg n) h = free_register n h
free_operand (operand.Imm (pos n)) h = let m = h.sfits in free_decimal n (omega arith)
free_operand (operand.Imm (negsuc n)) h = let m = h.sfits in (over 45 44 (omega arith), over 45 44 (omega arith), free_decimal (suc n) (omega arith))

pub free_offset : (z : ℤ) → FitsSigned w16 z → IsFree 44 44 (signed_text z)
free_offset (pos n) h = let m = h.sfits in (apart 43 44 (omega arith), apart 43 44 (omega arith), free_decimal n (omega arith))
free_offset (negsuc n) h = let m = h.sfits in (over 45 44 (omega arith), over 45 44 (omega arith), free_decimal (suc n) (omega arith))

pub free_memory : (base : ℕ) (offset : ℤ) → base ≤ 10 → FitsSigned w16 offset → IsFree 44 44 (memory_text base offset)
free_memory base offset b o = (
  over 91 44 (omega arith),
  over 91 44 (omega arith),
  free_append 44 44 (register_text base) (signed_text offset ++ 93 ∷ []) (free_register base b)
      (free_append 44 44 (signed_text offset) (93 ∷ []) (free_offset offset o) (over 93 44 (omega arith), over 93 44 (omega arith), tt)),
)

-- ---- places in memory are cut at the sign

pub signless : (n : ℕ) → n ≤ 10 → IsFree 43 45 (register_text n)
signless n h = (over 114 43 (omega arith), over 114 45 (omega arith), free_digits 43 45 (λ k. absurd (omega arith)) (λ k. absurd (omega arith)) (decimal n) (digits_decimal own n (omega arith)))

pub signed_first : (z : ℤ) → StopsAtOnce 43 45 (signed_text z)
signed_first (pos n) = inl refl
signed_first (negsuc n) = inr refl

pub push_once : (xs ys : List ℕ) (c d : ℕ) → xs ++ c ∷ [] ≡ ys ++ d ∷ [] → xs ≡ ys
push_once [] [] c d e = refl
push_once [] (y ∷ []) c d e = absurd cc
push_once [] (y ∷ y' ∷ ys) c d e = absurd cc
push_once (x ∷ []) [] c d e = absurd cc
push_once (x ∷ x' ∷ xs) [] c d e = absurd cc
push_once (x ∷ xs) (y ∷ ys) c d e =
    let tail : xs ++ c ∷ [] ≡ ys ++ d ∷ [] = cc in
    let rest = push_once xs ys c d tail in
    let head : x ≡ y = cc in
    cc

-- ---- each text is of one value

heads : (c d : ℕ) (xs ys : List ℕ) → c ∷ xs ≡ d ∷ ys → c ≡ d
heads c d xs ys e = cc

pub one_register : (m n : ℕ) → m ≤ 10 → n ≤ 10 → register_text m ≡ register_text n → m ≡ n
one_register m n f g e = decimal_injective m n (omega arith) (omega arith) (ap (drop 1) e)

pub one_imm : (y z : ℤ) → FitsSigned w32 y → FitsSigned w32 z → signed_decimal y ≡ signed_decimal z → y ≡ z
one_imm (pos m) (pos n) f g e = let k = f.sfits in let l = g.sfits in signed_decimal_injective (pos m) (pos n) (omega arith) (omega arith) e
one_imm (pos m) (negsuc n) f g e = let k = f.sfits in let l = g.sfits in signed_decimal_injective (pos m) (negsuc n) (omega arith) (omega arith) e
one_imm (negsuc m) (pos n) f g e = let k = f.sfits in let l = g.sfits in signed_decimal_injective (negsuc m) (pos n) (omega arith) (omega arith) e
one_imm (negsuc m) (negsuc n) f g e = let k = f.sfits in let l = g.sfits in signed_decimal_injective (negsuc m) (negsuc n) (omega arith) (omega arith) e

pub one_offset : (y z : ℤ) → FitsSigned w32 y → FitsSigned w32 z → signed_text y ≡ signed_text z → y ≡ z
one_offset (pos m) (pos n) f g e = let k = f.sfits in let l = g.sfits in ap pos (decimal_injective m n (omega arith) (omega arith) (ap (drop 1) e))
one_offset (negsuc m) (negsuc n) f g e =
    let k = f.sfits in let l = g.sfits in
    let sucs : suc m ≡ suc n = decimal_injective (suc m) (suc n) (omega arith) (omega arith) (ap (drop 1) e) in
    ap negsuc cc
one_offset (pos m) (negsuc n) f g e = absurd (omega (arith, heads 43 45 _ _ e))
one_offset (negsuc m) (pos n) f g e = absurd (omega (arith, heads 45 43 _ _ e))

pub widened : (z : ℤ) → FitsSigned w16 z → FitsSigned w32 z
widened z f = let m = f.sfits in record { sfits = omega arith }

pub one_short_offset : (y z : ℤ) → FitsSigned w16 y → FitsSigned w16 z → signed_text y ≡ signed_text z → y ≡ z
one_short_offset y z f g e = one_offset y z (widened y f) (widened z g) e

-- a number doesn't begin with the letter of a register
pub no_register : (z : ℤ) (n : ℕ) → FitsSigned w32 z → signed_decimal z ≡ register_text n → ⊥
no_register (pos m) n f e =
    let k = f.sfits in
    let d : AllDigits 10 (register_text n) = subst (AllDigits 10) e (digits_decimal own m (omega arith)) in
    let h = d.0 in
    absurd (omega arith)
no_register (negsuc m) n f e = absurd (omega (arith, heads 45 114 _ _ e))

pub one_operand : (a b : Operand) → IsOperand a → IsOperand b → operand_text a ≡ operand_text b → a ≡ b
one_operand (operand.Imm y) (operand.Imm z) f g e = ap operand.Imm (one_imm y z f g e)
one_operand (operand.Reg m) (operand.Reg n) f g e = ap operand.Reg (one_register m n f g e)
one_operand (operand.Imm y) (operand.Reg n) f g e = absurd (no_register y n f e)
one_operand (operand.Reg m) (operand.Imm z) f g e = absurd (no_register z m g (sym e))

pub one_memory : (m n : ℕ) (y z : ℤ) → m ≤ 10 → n ≤ 10 → FitsSigned w16 y → FitsSigned w16 z → memory_text m y ≡ memory_text n z → (m ≡ n) × (y ≡ z)
one_memory m n y z fm fn fy fz e =
    let r = cut_once 43 45 (register_text m) (signed_text y ++ 93 ∷ []) (register_text n) (signed_text z ++ 93 ∷ []) (signless m fm) (signless n fn) (first y) (first z) (ap (drop 1) e) in
    (one_register m n fm fn r.0, one_short_offset y z fy fz (push_once (signed_text y) (signed_text z) 93 93 r.1))
  where
    first : (z : ℤ) → StopsAtOnce 43 45 (signed_text z ++ 93 ∷ [])
    first (pos n) = inl refl
    first (negsuc n) = inr refl

pub one_pair : (p q p' q' : List ℕ) → IsFree 44 44 p → IsFree 44 44 p' → two_operands p q ≡ two_operands p' q' → (p ≡ p') × (q ≡ q')
one_pair p q p' q' f f' e =
    let r = cut_once 44 44 p (44 ∷ 32 ∷ q) p' (44 ∷ 32 ∷ q') f f' (inl refl) (inl refl) e in
    (r.0, ap (drop 2) r.1)
