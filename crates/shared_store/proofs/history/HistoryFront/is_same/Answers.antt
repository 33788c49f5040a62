use Rattle.std.proofs.Common.{◌≡◌, ap, subst, arith, length, List}
use Rattle.std.proofs.lemmas.Bool.Decides.{nat_tests}
use mathlib.Core.List.{IsPrefix}
use Rattle.desk_records.specs.declared.stored_change.StoredChange.{StoredChange}
use Rattle.shared_store.proofs.Fronts.{prefix_same}
use Rattle.shared_store.proofs.history.HistoryFront.is_same.Goals as goal

pub returns-clause-same : goal.returns-clause-same
returns-clause-same g c eq =
    let both = c.learn.new.self.log in
    let this : IsPrefix c.self.inside.seen.log both = subst (λ (l : List StoredChange). IsPrefix l both) (ap (λ s. s.log) c.again-both.ensures) c.learn.ensures.2 in
    let few : c.other.inside.count ≡ c.self.inside.count = grind (arith, nat_tests) in
    let alike : length c.other.inside.seen.log ≡ length c.self.inside.seen.log = omega (arith, few, c.self.invariant.0, c.other.invariant.0) in
    rw (← c.self.view_is, ← c.other.view_is) (prefix_same c.other.inside.seen.log c.self.inside.seen.log both c.learn.ensures.3 this alike)
