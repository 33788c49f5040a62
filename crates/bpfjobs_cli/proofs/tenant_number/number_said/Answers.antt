use Rattle.std.proofs.Common.{rules, ◌≡◌, ℕ, ◌+◌, ◌-◌, ◌*◌, ◌<◌, ◌≤◌, ◌==◌, ◌&&◌, Bool, cond, true, false, List, length, get_or, take, Some, None, refl, sym, arith}
use Rattle.std.specs.Prelude.{nat_le}
use Rattle.std.specs.Char.{is_ascii_digit, digit_value}
use Rattle.std.specs.List.{list_all}
use Rattle.std.specs.Str.Parse.{digits_value}
use Rattle.std.proofs.lemmas.Bool.Decides.{nat_tests}
use Rattle.std.proofs.lemmas.Int.Digits.{digits_value_more}
use Rattle.std.proofs.lemmas.List.Folds.{list_all_more}
use Rattle.std.proofs.lemmas.Str.Parse.{digits_value-take-le}
use Rattle.bpfjobs_cli.specs.TenantLines.{number_said}
use Rattle.bpfjobs_cli.proofs.tenant_number.number_said.Goals as goal

next_value : (ds : List ℕ) (i number : ℕ) → i < length ds → is_ascii_digit (get_or ds i 0) ≡ true → number ≡ digits_value 10 (take i ds)
    → digits_value 10 (take (i + 1) ds) ≡ number * 10 + (get_or ds i 0 - 48)
next_value ds i number inside digit value =
    let worth : digit_value (get_or ds i 0) ≡ get_or ds i 0 - 48 = grind (arith, nat_tests) in
    rw (digits_value_more 10 ds i inside, worth, value)

too_large : (b c d : Bool) (n high : ℕ) → high < n → cond b None (cond (c && (nat_le n high && d)) (Some n) None) ≡ None
too_large true c d n high large = refl
too_large false true d n high large =
    let e : nat_le n high ≡ false = grind (arith, nat_tests) in
    rw e refl
too_large false false d n high large = refl

pub returns-then-next-from : goal.returns-then-next-from
unfolding number_said
returns-then-next-from c =
    let digits = c.args.digits.now in
    let next = next_value digits c.loop-byte.byte-index c.loop-byte.number c.loop-byte-test.true (search rules) c.loop-byte.invariant.1 in
    let most = digits_value-take-le 10 digits (c.loop-byte.byte-index + 1) (omega arith) in
    let large : c.args.high < digits_value 10 digits = grind arith in
    sym (too_large (length digits == 0) (list_all is_ascii_digit digits) (nat_le c.args.low (digits_value 10 digits)) (digits_value 10 digits) c.args.high large)

pub loop-byte-preserved : goal.loop-byte-preserved
loop-byte-preserved c =
    let digits = c.args.digits.now in
    let digit : is_ascii_digit (get_or digits c.loop-byte.byte-index 0) ≡ true = search rules in
    let next = next_value digits c.loop-byte.byte-index c.loop-byte.number c.loop-byte-test.true digit c.loop-byte.invariant.1 in
    let both = list_all_more is_ascii_digit digits c.loop-byte.byte-index 0 c.loop-byte-test.true in
    let all : list_all is_ascii_digit (take (c.loop-byte.byte-index + 1) digits) ≡ true = rw (both, c.loop-byte.invariant.0, digit) refl in
    let value : c.loop-byte.number * 10 + c.from.result ≡ digits_value 10 (take (c.loop-byte.byte-index + 1) digits) = search (rules, next) in
    let few : c.loop-byte.number * 10 + c.from.result ≤ c.args.high = search rules in
    (all, value, few)
