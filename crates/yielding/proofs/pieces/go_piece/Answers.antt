use Rattle.yielding.proofs.pieces.go_piece.Goals as goal

pub returns-clause-goes : goal.returns-clause-goes
returns-clause-goes c = λ s stands.
    let first = c.begin-first.ensures.begins s stands in
    let last = c.run_piece.ensures.runs first.0 first.2 in
    (first.0, first.1, last.0, last.1, last.2)
