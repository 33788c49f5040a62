-- Each line that clap takes says a request: a program, and its numbers.
use Rattle.std.proofs.Common.{◌≡◌, ◌⊎◌, ℕ, Bool, codes, true, false, refl, sym, subst, inl, inr, arith, List, [], Option, Some, None, true≢false}
use Rattle.clap.specs.Walk.{Row, Rule, Text, first_of, nothing_held, one_of, rows_after}
use Rattle.clap.specs.Simple.{App, Shape, argument_words, built, filled, is_simple, matches_of, names_of, with_index}
use Rattle.clap.specs.Kinds.{HasKind, Kinds}
use Rattle.clap.specs.declared.error.Error.{Error}
use Rattle.clap.specs.Faults.{fault_of, is_simple_and_free, level_fault}
use Rattle.clap.proofs.OnLiterals.{clap_on_literals}
use Rattle.bpfjobs_cli.specs.Commands.{IsMaybeNumber, IsNumberIn}
use Rattle.bpfjobs_cli.proofs.NumberLemmas.{signed_number, unsigned_number}
use Rattle.bpfjobs_cli.proofs.RowLemmas.{HasValue, both, default_value, maybe_value, required_value}
use Rattle.bpfrun_core.specs.Program.{arg_rule, bpfrun_app, credit_rule, file_rule, bpfrun_need_rule}
use Rattle.bpfrun_core.specs.Requests.{SaysRequest}

-- the rules as clap builds them
abbrev rule : Rule → Rule
rule r = with_index 1 (filled r)

-- a rule with another id
other : {x y : Rule} → false ≡ true → x ≡ y
other e = absurd (true≢false (sym e))

abbrev top : Shape
top = (built bpfrun_app).top

pub plain : is_simple_and_free bpfrun_app ≡ true
unfolding clap_on_literals
plain = refl

-- the program is one of which clap's laws tell the matches
pub is_plain : is_simple bpfrun_app ≡ true
is_plain = (both (is_simple bpfrun_app) _ plain).0

module _ (words : List Text) (has : Bool) (below : Kinds) (none : level_fault top (names_of (built bpfrun_app)) nothing_held words has below ≡ []) where
  abbrev rows : List Row
  rows = rows_after top.rules (names_of (built bpfrun_app)) words

  file : (path : Text) × (first_of (codes "file") rows ≡ Some path)
  file =
      let value : HasValue (rule file_rule) rows = required_value (rule file_rule) refl (omega arith) top (names_of (built bpfrun_app)) words has below
      ((λ same. refl), (other, (other, (other, (other, (other, (other, (other, (other, (other, (other, (other, tt)))))))))))) none refl (inl refl) refl in
      (value.0, value.2)

  need : (number : Option ℕ) × IsMaybeNumber rows (codes "need") 0 4294967295 number
  need = go (maybe_value (rule bpfrun_need_rule) refl (omega arith) top (names_of (built bpfrun_app)) words has below
      (other, ((λ same. refl), (other, (other, (other, (other, (other, (other, (other, (other, (other, (other, tt)))))))))))) none)
    where
      go : (one_of (codes "need") rows ≡ None) ⊎ HasValue (rule bpfrun_need_rule) rows → (number : Option ℕ) × IsMaybeNumber rows (codes "need") 0 4294967295 number
      go (inl e) = (None, e)
      go (inr value) =
          let number = signed_number (rule bpfrun_need_rule) 0 4294967295 rows refl value in
          (Some number.0, number.1)

  credit : (number : ℕ) × IsNumberIn rows (codes "credit") 0 2147483647 number
  credit = signed_number (rule credit_rule) 0 2147483647 rows refl
      (default_value (rule credit_rule) refl (omega arith) top (names_of (built bpfrun_app)) words has below
      (other, (other, ((λ same. refl), (other, (other, (other, (other, (other, (other, (other, (other, (other, tt)))))))))))) none (inr (inr (inl refl))) (omega arith))

  arg : (number : ℕ) × IsNumberIn rows (codes "arg") 0 18446744073709551615 number
  arg = unsigned_number (rule arg_rule) 0 18446744073709551615 rows refl
      (default_value (rule arg_rule) refl (omega arith) top (names_of (built bpfrun_app)) words has below
      (other, (other, (other, ((λ same. refl), (other, (other, (other, (other, (other, (other, (other, (other, tt)))))))))))) none (inr (inr (inr (inl refl)))) (omega arith))

  says : SaysRequest rows
  says = record { file = file; need = need; credit = credit; arg = arg }

-- clap fails, or the line says a request
says_request : (words : List Text) → fault_of bpfrun_app words ≡ [] → SaysRequest (matches_of bpfrun_app words)
says_request words none = says (argument_words bpfrun_app words) _ _ none

pub line_says : (words : List Text) (a : App) → a ≡ bpfrun_app → fault_of a words ≡ [] → SaysRequest (matches_of a words)
line_says words a is none = subst (λ b. fault_of b words ≡ [] → SaysRequest (matches_of b words)) (sym is) (says_request words) none

-- an error of this program's is one of its line's
pub of_kind : (words : List Text) (a : App) (e : Error) → a ≡ bpfrun_app → HasKind (fault_of a words) e → HasKind (fault_of bpfrun_app words) e
of_kind words a e is has = subst (λ b. HasKind (fault_of b words) e) is has
