-- Texts of numbers.
use Rattle.std.proofs.Common.{◌≡◌, ◌≢◌, ℕ, ℤ, pos, zero, suc, ◌<◌, ◌≤◌, ◌^◌, List, [], ◌∷◌, length, get_or, drop, Option, Some, None, refl, ap, sym, subst, ◌∙◌, arith}
use lib.IntN.{negsuc}
use Rattle.std.specs.Prelude.{FitsSigned}
use Rattle.std.specs.Int.{w16, w32}
use Rattle.std.specs.Fmt.{decimal, signed_decimal}
use Rattle.std.specs.Char.{digit_value}
use Rattle.std.specs.Str.Parse.{AllDigits, digits_value}
use Rattle.std.proofs.lemmas.Fmt.{digits_decimal, digits_value-decimal, decimal-digits_value, decimal_nonempty, first_decimal, decimal_digit}
use Rattle.disassembler.specs.Line.{register_text, signed_text}
use Rattle.assembler.specs.Numbers.{IsNumber}
use Rattle.assembler.specs.Reading.{ReadsNegative, ReadsImm}
use Rattle.disassembler.proofs.Texts.{own}

pub is_decimal : (ds : List ℕ) (n : ℕ) → IsNumber ds n → n < 2 ^ 64 → ds ≡ decimal n
is_decimal ds n h lt =
    let small : digits_value 10 ds < 2 ^ 64 = subst (λ (x : ℕ). x < 2 ^ 64) (sym h.value) lt in
    sym (decimal-digits_value own ds h.digits h.some h.canonical small) ∙ ap decimal h.value

canonical : (n : ℕ) → n < 2 ^ 64 → get_or (decimal n) 0 0 ≡ 48 → length (decimal n) ≡ 1
canonical zero lt e = ap length (decimal_digit 0 (omega arith))
canonical (suc n) lt e = let f = first_decimal (suc n) (omega arith) lt in absurd (omega arith)

pub decimal_is : (n : ℕ) → n < 2 ^ 64 → IsNumber (decimal n) n
decimal_is n lt = record {
  some = decimal_nonempty n lt;
  digits = digits_decimal own n lt;
  canonical = canonical n lt;
  value = digits_value-decimal own n lt;
}

-- a number of more than 64 bits
pub large : (ds : List ℕ) (m n : ℕ) → IsNumber ds m → 2 ^ 64 ≤ m → n < 2 ^ 64 → ds ≢ decimal n
large ds m n h le lt e =
    let same : m ≡ n = sym h.value ∙ (ap (digits_value 10) e ∙ digits_value-decimal own n lt) in
    absurd (omega arith)

pub none_number : (ds : List ℕ) (n : ℕ) → ((m : ℕ) → IsNumber ds m → ⊥) → n < 2 ^ 64 → ds ≢ decimal n
none_number ds n h lt e = h n (subst (λ (x : List ℕ). IsNumber x n) (sym e) (decimal_is n lt))

-- two numbers of one text
pub one_value : (ds : List ℕ) (m n : ℕ) → ds ≡ decimal m → m < 2 ^ 64 → n < 2 ^ 64 → ds ≡ decimal n → m ≡ n
one_value ds m n e lm ln f = sym (digits_value-decimal own m lm) ∙ (ap (digits_value 10) (sym e ∙ f) ∙ digits_value-decimal own n ln)

-- the first byte of a number
pub first_digit : (n : ℕ) (c : ℕ) (cs : List ℕ) → n < 2 ^ 64 → c ∷ cs ≡ decimal n → digit_value c < 10
first_digit n c cs lt e = let d = digits_decimal own n lt in (subst (AllDigits 10) (sym e) d).0

-- ---- signs

heads : (c d : ℕ) (xs ys : List ℕ) → c ∷ xs ≡ d ∷ ys → c ≡ d
heads c d xs ys e = cc

pub cons_drop : (ts : List ℕ) (c : ℕ) → 0 < length ts → get_or ts 0 0 ≡ c → ts ≡ c ∷ drop 1 ts
cons_drop [] c lt e = absurd (omega arith)
cons_drop (t ∷ ts) c lt e = let same : t ≡ c = e in cc

pub imm_negative : (ts ds : List ℕ) (r : Option ℤ) → ts ≡ 45 ∷ ds → ReadsNegative ds r → ReadsImm ts r
imm_negative ts ds (Some (pos n)) e h = let m = h.1 in absurd (omega (arith, m))
imm_negative ts ds (Some (negsuc n)) e h = (e ∙ ap (λ (x : List ℕ). 45 ∷ x) h.0, let k = h.2 in record { sfits = omega arith })
imm_negative ts ds None e h = go
  where
    go : (z : ℤ) → FitsSigned w32 z → ts ≢ signed_decimal z
    go (pos n) f g = let m = f.sfits in let d = first_digit n 45 ds (omega arith) (sym e ∙ g) in absurd (omega arith)
    go (negsuc n) f g = let m = f.sfits in let both : 45 ∷ ds ≡ 45 ∷ decimal (suc n) = sym e ∙ g in h n (omega arith) cc

-- two offsets of one text
pub one_offset : (ts : List ℕ) (y z : ℤ) → FitsSigned w32 y → FitsSigned w32 z → ts ≡ signed_text y → ts ≡ signed_text z → y ≡ z
one_offset ts (pos m) (pos n) f g d e =
    let k = f.sfits in let l = g.sfits in
    let both : 43 ∷ decimal m ≡ 43 ∷ decimal n = sym d ∙ e in
    let same : decimal m ≡ decimal n = cc in
    ap pos (one_value (decimal m) m n refl (omega arith) (omega arith) same)
one_offset ts (negsuc m) (negsuc n) f g d e =
    let k = f.sfits in let l = g.sfits in
    let both : 45 ∷ decimal (suc m) ≡ 45 ∷ decimal (suc n) = sym d ∙ e in
    let same : decimal (suc m) ≡ decimal (suc n) = cc in
    let sucs : suc m ≡ suc n = one_value (decimal (suc m)) (suc m) (suc n) refl (omega arith) (omega arith) same in
    ap negsuc cc
one_offset ts (pos m) (negsuc n) f g d e = let both : 43 ∷ decimal m ≡ 45 ∷ decimal (suc n) = sym d ∙ e in absurd (omega (arith, heads 43 45 _ _ both))
one_offset ts (negsuc m) (pos n) f g d e = let both : 45 ∷ decimal (suc m) ≡ 43 ∷ decimal n = sym d ∙ e in absurd (omega (arith, heads 45 43 _ _ both))

pub behind_r : (ts : List ℕ) (n : ℕ) → ts ≡ register_text n → drop 1 ts ≡ decimal n
behind_r ts n e = ap (λ (x : List ℕ). drop 1 x) e

pub widened : (z : ℤ) → FitsSigned w16 z → FitsSigned w32 z
widened z f = let m = f.sfits in record { sfits = omega arith }
