use Rattle.std.proofs.Common.{◌≡◌, ◌++◌, ◌∷◌, [], ◌+◌, List, ap, arith, length, length-append, rules, subst, sym, ◌∙◌}
use Rattle.ledger_records.specs.RestoredDesks.{AreEachRestored, IsRestored}
use Rattle.ledger_records.specs.declared.restored_desk.RestoredDesk.{RestoredDesk}
use Rattle.ledger_records.proofs.OrderLemmas.{restored_more}
use Rattle.ledger_records.proofs.restored_desks.restore_desks.Goals as goal

pub loop-number-preserved : goal.loop-number-preserved
loop-number-preserved c =
    let old = c.loop-number.desks.items in
    let one = c.in_ok-desk.desk in
    let added : c.push_reserved.new.self.items ≡ old ++ one ∷ [] = search rules in
    let long = ap length added ∙ length-append old (one ∷ []) in
    let here : IsRestored c.args.records.now c.loop-number.number one = record { desk = c.in_ok-desk.ensures.desk; jobs = c.in_ok-desk.ensures.jobs } in (
      omega (arith, long, c.loop-number.invariant.0),
      subst (AreEachRestored c.args.records.now) (sym added) (restored_more c.args.records.now old one c.loop-number.invariant.1 (subst (λ p. IsRestored c.args.records.now p one) (sym c.loop-number.invariant.0) here)),
    )
