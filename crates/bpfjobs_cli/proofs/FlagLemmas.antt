-- What clap's getters tell of a flag.
use Rattle.std.proofs.Common.{◌≡◌, ◌↔◌, List, map, Bool, false, eqb, Option, Some, None, IsTrue, option_map, unwrap_or, sym, ap, ◌∙◌}
use Rattle.std.specs.Cmp.Lexicographic.{pointwise}
use Rattle.std.proofs.lemmas.Bool.Decides.{Decides-eqb}
use Rattle.std.proofs.lemmas.Slice.Eq.{slice_eq-Decides}
use Rattle.clap.specs.declared.parser.matches.Found.{Found}
use Rattle.std.specs.Borrow.{Bor}
use Rattle.clap.specs.Words.{Text, all_of, first_of, first_value, matched_of, raw_values, rows_of}
use Rattle.clap.proofs.WalkLemmas.{first_value-rows, raw_values-rows}

pub first_is : {X : Type 0} (now : X → Text) (f : Found) (id : Text) (o : Option X) → option_map now o ≡ first_value f id → first_of id (rows_of f) ≡ option_map now o
first_is now f id o e = sym (e ∙ first_value-rows f id)

pub first_some : {X : Type 0} (now : X → Text) (f : Found) (id : Text) (o : Option X) (x : X) → option_map now o ≡ first_value f id → o ≡ Some x → first_of id (rows_of f) ≡ Some (now x)
first_some now f id o x e is = first_is now f id o e ∙ ap (option_map now) is

-- a flag's text is looked at
pub flag_some : (found : Option Text) (text value : Text) (b : Bool) → found ≡ Some text → b ≡ pointwise eqb text value → IsTrue b ↔ (found ≡ Some value)
flag_some found text value b is e =
    let same = slice_eq-Decides Decides-eqb text value b e in
    (λ t. is ∙ ap Some (same.0 t), λ there. same.1 (ap (λ o. unwrap_or o text) (sym is ∙ there)))

pub flag_none : (found : Option Text) (value : Text) → found ≡ None → IsTrue false ↔ (found ≡ Some value)
flag_none found value is = (λ t. absurd cc, λ there. let clash = sym is ∙ there in absurd cc)

-- the values of an argument that may be given more than once
pub all_is : (f : Found) (id : Text) (o : Option (Bor (List (Bor Text)))) → option_map (λ s. map (λ v. v.now) s.now) o ≡ option_map raw_values (matched_of f id)
    → all_of id (rows_of f) ≡ option_map (λ s. map (λ v. v.now) s.now) o
all_is f id o e = sym (e ∙ raw_values-rows f id)
