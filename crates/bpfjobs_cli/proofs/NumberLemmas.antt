-- A subcommand's name, and a number that clap read.
use Rattle.std.proofs.Common.{◌≡◌, ℕ, ◌≤◌, List, Option, Some, None, Result, Ok, option_map, Err, Bool, true, false, [], ◌∷◌, ◌==◌, ◌<◌, ◌^◌, cond, drop, unwrap_or, ne_eqb, arith, refl, sym, ap, ap₂, ◌∙◌, subst}
use Rattle.std.specs.Prelude.{pos}
use Rattle.std.specs.Str.Parse.{IsNumeral, ParsesUnsigned, digits_value, starts_with_minus, without_leading_plus}
use Rattle.std.proofs.lemmas.Int.{ints}
use Rattle.std.proofs.lemmas.Str.Parse.{digit_from_value}
use Rattle.clap.specs.declared.parser.matches.Found.{Found}
use Rattle.clap.specs.Facts.{parser_of_value}
use Rattle.clap.specs.Lexer.{without_minus}
use Rattle.clap.specs.Values.{IsSignedIn, IsUnsignedIn, read_as, reading_of}
use Rattle.clap.specs.ValueTests.{accepts}
use Rattle.clap.specs.Walk.{Rule}
use Rattle.clap.specs.Words.{ReadsOne, Row, Text, one_of, one_text, rows_of}
use Rattle.clap.specs.declared.builder.value_parser.ValueParser.{ValueParser}
use Rattle.clap.specs.declared.builder.value_parser.ValueParser.TheVariants as vp
use Rattle.clap.proofs.ValueTestLemmas.{accepts-Accepts}
use Rattle.clap.proofs.WalkLemmas.{one_text-rows}
use Rattle.bpfjobs_cli.specs.Commands.{IsMaybeNumber, IsNumberIn}
use Rattle.bpfjobs_cli.proofs.RowLemmas.{HasValue}

-- a subcommand's name and rows
pub pair_of : (o : Option (Text × List Row)) (name : Text) (rows : List Row) → Some name ≡ option_map (λ p. p.0) o → Some rows ≡ option_map (λ p. p.1) o → o ≡ Some (name, rows)
pair_of None name rows first second = cc
pair_of (Some p) name rows first second =
    let name_is : name ≡ p.0 = ap (λ v. unwrap_or v name) first in
    let rows_is : rows ≡ p.1 = ap (λ v. unwrap_or v rows) second in
    ap Some (ap₂ (λ (x : Text) (y : List Row). (x, y)) (sym name_is) (sym rows_is))

pub named : {A : Type 0} (name : A → Text) (rows : A → List Row) (o : Option A) → option_map name o ≡ option_map (λ (p : Text × List Row). p.0) (option_map (λ a. (name a, rows a)) o)
named name rows None = refl
named name rows (Some a) = refl

-- ---- a number in a range

without_minus-cond : (t : Text) → without_minus t ≡ cond (starts_with_minus t) (drop 1 t) t
without_minus-cond [] = refl
without_minus-cond (x ∷ xs) = go (x == 45)
  where
    go : (b : Bool) → unwrap_or (cond b (Some xs) None) (x ∷ xs) ≡ cond b xs (x ∷ xs)
    go true = refl
    go false = refl

no_plus : (ds : List ℕ) → IsNumeral 10 ds → without_leading_plus ds ≡ ds
no_plus [] h = refl
no_plus (d ∷ ds) h =
    let plus : (d == 43) ≡ false = ne_eqb _ _ (λ e. omega (arith, digit_from_value d h.1.0)) in
    ap (λ (b : Bool). drop (cond b 1 0) (d ∷ ds)) plus

-- the text is a number from low to high
abbrev IsText : ℕ → ℕ → Text → Type 0
IsText low high t = IsNumeral 10 (without_leading_plus t) × (low ≤ digits_value 10 (without_leading_plus t)) × (digits_value 10 (without_leading_plus t) ≤ high)

signed_text : (low high : ℕ) (t : Text) → IsSignedIn (pos low) (pos high) t → IsText low high (without_minus t)
signed_text low high t passed = subst (IsText low high) (sym (without_minus-cond t)) (go (starts_with_minus t) refl)
  where
    go : (b : Bool) → starts_with_minus t ≡ b → IsText low high (cond b (drop 1 t) t)
    go true minus =
        let least = rw minus at passed.2 in
        let numeral : IsNumeral 10 (drop 1 t) = rw minus at passed.0 in
        let most = rw minus at passed.3 in
        rw (no_plus (drop 1 t) numeral) (numeral, omega (arith, ints), omega (arith, ints))
    go false minus =
        let least = rw minus at passed.2 in
        let most = rw minus at passed.3 in
        let numeral = rw minus at passed.0 in
        (numeral, omega (arith, ints), omega (arith, ints))

-- an argument whose parser takes numbers from low to high has one
pub signed_number : (a : Rule) (low high : ℕ) (rows : List Row) → a.parser ≡ Some (vp.Signed (pos low) (pos high)) → HasValue a rows → (n : ℕ) × IsNumberIn rows a.id low high n
signed_number a low high rows parser value =
    let is : parser_of_value a.parser ≡ vp.Signed (pos low) (pos high) = ap parser_of_value parser in
    let passed : IsSignedIn (pos low) (pos high) value.0 = accepts-Accepts a.ignore_case (vp.Signed (pos low) (pos high)) value.0
    (subst (λ (p : ValueParser). accepts a.ignore_case p value.0 ≡ true) is value.3) in
    let read : one_of a.id rows ≡ Some (without_minus value.0) = subst (λ (p : ValueParser). one_of a.id rows ≡ Some (read_as (reading_of p) value.0)) is value.1 in
    let text = signed_text low high value.0 passed in
    (digits_value 10 (without_leading_plus (without_minus value.0)), record { text = without_minus value.0; is_value = read; digits = text.0; value = refl; least = text.1; most = text.2 })

pub unsigned_number : (a : Rule) (low high : ℕ) (rows : List Row) → a.parser ≡ Some (vp.Unsigned low high) → HasValue a rows → (n : ℕ) × IsNumberIn rows a.id low high n
unsigned_number a low high rows parser value =
    let is : parser_of_value a.parser ≡ vp.Unsigned low high = ap parser_of_value parser in
    let passed : IsUnsignedIn low high value.0 = accepts-Accepts a.ignore_case (vp.Unsigned low high) value.0
    (subst (λ (p : ValueParser). accepts a.ignore_case p value.0 ≡ true) is value.3) in
    let read : one_of a.id rows ≡ Some value.0 = subst (λ (p : ValueParser). one_of a.id rows ≡ Some (read_as (reading_of p) value.0)) is value.1 in
    (digits_value 10 (without_leading_plus value.0), record { text = value.0; is_value = read; digits = passed.0; value = refl; least = passed.2; most = passed.3 })

-- a number that fits the type is read
some_at : {E : Type 0} (G : List ℕ → Result ℕ E → Type 0) (k low high n : ℕ) (text : Text) (r : Option ℕ) → ReadsOne G text r
    → ((u : List ℕ) (x : Result ℕ E) → G u x → ParsesUnsigned k 10 u x) → high < 2 ^ k
    → IsNumeral 10 (without_leading_plus text) → n ≡ digits_value 10 (without_leading_plus text) → n ≤ high → r ≡ Some n
some_at G k low high n text (Some v) read only fits digits value most = ap Some ((only text (Ok v) read).1 ∙ sym value)
some_at G k low high n text None read only fits digits value most =
    absurd (only text (Err read.0) read.1 (digits, omega (arith, value)))

pub some_number : {E : Type 0} (G : List ℕ → Result ℕ E → Type 0) (k low high n : ℕ) (f : Found) (id : Text) (r : Option ℕ) → IsNumberIn (rows_of f) id low high n
    → ((t : Text) → one_text f id ≡ Some t → ReadsOne G t r) → ((u : List ℕ) (x : Result ℕ E) → G u x → ParsesUnsigned k 10 u x) → high < 2 ^ k → r ≡ Some n
some_number G k low high n f id r number something only fits =
    some_at G k low high n number.text r (something number.text (one_text-rows f id ∙ number.is_value)) only fits number.digits number.value number.most

pub never_none : {X : Type 0} (x : X) (o : Option X) → o ≡ Some x → o ≡ None → ⊥
never_none x None is none = cc
never_none x (Some y) is none = cc

pub number_read : (f : Found) (id : Text) (low high n m : ℕ) (r : Option ℕ) → IsNumberIn (rows_of f) id low high n → r ≡ Some n → r ≡ Some m → IsNumberIn (rows_of f) id low high m
number_read f id low high n m r number is read = subst (λ (k : ℕ). IsNumberIn (rows_of f) id low high k) (ap (λ o. unwrap_or o n) (sym is ∙ read)) number

-- a number that may be missing is read as it is told
pub maybe_read : {E : Type 0} (G : List ℕ → Result ℕ E → Type 0) (k low high : ℕ) (f : Found) (id : Text) (told r : Option ℕ) → IsMaybeNumber (rows_of f) id low high told
    → (one_text f id ≡ None → r ≡ None) → ((t : Text) → one_text f id ≡ Some t → ReadsOne G t r) → ((u : List ℕ) (x : Result ℕ E) → G u x → ParsesUnsigned k 10 u x) → high < 2 ^ k
    → IsMaybeNumber (rows_of f) id low high r
maybe_read G k low high f id None r number nothing something only fits = subst (IsMaybeNumber (rows_of f) id low high) (sym (nothing (one_text-rows f id ∙ number))) number
maybe_read G k low high f id (Some n) r number nothing something only fits =
    subst (IsMaybeNumber (rows_of f) id low high) (sym (some_number G k low high n f id r number something only fits)) number
