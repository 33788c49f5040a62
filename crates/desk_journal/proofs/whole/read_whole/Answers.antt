use Rattle.std.proofs.Common.{[], Err, drop, length, refl, sym, ap, ◌∙◌, arith}
use Rattle.std.proofs.lemmas.List.{append-nil, length-drop}
use Rattle.desk_journal.specs.declared.encoded.ReadFault.TheVariants.{NoValue}
use Rattle.desk_journal.proofs.ListLemmas.{same_fault}
use Rattle.desk_journal.proofs.whole.read_whole.Goals as goal

pub returns-in-Err-clause-refused : goal.returns-in-Err-clause-refused
returns-in-Err-clause-refused g c is value e =
    c.in-Err.ensures.refused (same_fault (Err c.in-Err.fault) c.in-Err.fault c.in-Err.fault NoValue refl refl is) value [] (sym e ∙ sym (append-nil (g.T.Encoded.bytes value)))

pub returns-then-length-input-clause-refused : goal.returns-then-length-input-clause-refused
returns-then-length-input-clause-refused g c is value e =
    let input = c.args.input.now in
    let length_there = c.in-Ok.found.1 in
    let whole = append-nil (g.T.Encoded.bytes value) ∙ e in
    let none = g.met.T.Encoded.one_rest value c.in-Ok.found.0 [] (drop length_there input) (omega (arith, ap length whole)) (whole ∙ c.in-Ok.ensures.found) in
    absurd (omega (arith, ap length none, length-drop length_there input, c.if-length-input.true))
