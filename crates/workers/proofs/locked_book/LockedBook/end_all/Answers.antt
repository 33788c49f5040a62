use Rattle.std.proofs.Common.{◌≡◌, refl, reverse, ap, sym, subst, ◌∙◌, List, ◌∷◌, ◌++◌, []}
use Rattle.std.proofs.lemmas.List.{nil_from_length, reverse-append}
use Rattle.credit_book.specs.declared.task.Outcome.{Outcome}
use Rattle.workers.specs.AtDesk.{AreTasksEnded}
use Rattle.credit_book.specs.Books.{BookState}
use Rattle.workers.proofs.locked_book.LockedBook.end_all.Goals as goal

pub loop-outcome-init : goal.loop-outcome-init
loop-outcome-init g c = λ last h. h

turned : (xs rest : List Outcome) (o : Outcome) → xs ≡ rest ++ o ∷ [] → reverse xs ≡ o ∷ reverse rest
turned xs rest o is = ap reverse is ∙ reverse-append rest (o ∷ [])

pub loop-outcome-preserved : goal.loop-outcome-preserved
loop-outcome-preserved g c = λ last h.
    c.loop-outcome.invariant last
    (subst (λ (l : List Outcome). AreTasksEnded c.loop-outcome.self l last)
    (sym (turned c.loop-outcome.outcomes.items c.pop.new.self.items c.in-Some.outcome c.in-Some.ensures.items))
    (c.end.new.self, c.end.ensures, h))

nothing_left : (l : List Outcome) (d : BookState) → l ≡ [] → AreTasksEnded d (reverse l) d
nothing_left l d e = subst (λ (k : List Outcome). AreTasksEnded d (reverse k) d) (sym e) refl

pub returns-clause-ended : goal.returns-clause-ended
returns-clause-ended g c =
    c.loop-outcome.invariant c.loop-outcome.self (nothing_left c.loop-outcome.outcomes.items c.loop-outcome.self
    (nil_from_length c.loop-outcome.outcomes.items (sym c.loop-outcome.outcomes.ok.0 ∙ c.in_default.ensures.cases.0)))
