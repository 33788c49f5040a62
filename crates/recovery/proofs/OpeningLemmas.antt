-- No record stands behind a journal that is opened.
use Rattle.std.proofs.Common.{◌≡◌, ◌≤◌, ℕ, List, [], length, sym, ap, subst, ◌∙◌, arith}
use Rattle.std.proofs.lemmas.List.{drop_all}
use Rattle.journal.specs.Records.{IsTorn}
use Rattle.journal.specs.Tails.{HasNoRecord, IsTail}
use Rattle.journal.specs.declared.inspection.TailKind.{TailKind}
use Rattle.journal.specs.declared.inspection.TailKind.TheVariants.{Empty, Torn}

pub of_empty : (tail : List ℕ) (budget : ℕ) (kind : TailKind) → IsTorn tail → IsTail tail budget kind → kind ≡ Empty → HasNoRecord tail
of_empty tail budget kind torn is e place =
    let none : tail ≡ [] = subst (IsTail tail budget) e is in
    let short : length tail ≤ place = omega (arith, ap length none) in
    subst IsTorn (none ∙ sym (drop_all place tail short)) torn

pub of_torn : (tail : List ℕ) (budget : ℕ) (kind : TailKind) → IsTail tail budget kind → kind ≡ Torn → HasNoRecord tail
of_torn tail budget kind is e = (subst (IsTail tail budget) e is).1
