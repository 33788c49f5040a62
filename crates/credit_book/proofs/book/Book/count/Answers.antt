use Rattle.std.proofs.Common.{ap, arith}
use Rattle.credit_book.specs.Books.{BookState}
use Rattle.credit_book.proofs.Books.{child_small, tasks_number}
use Rattle.credit_book.proofs.book.Book.count.Goals as goal

pub overflow_cast-result : goal.overflow_cast-result
overflow_cast-result c =
    let h = child_small _ _ _ _ _ _ _ c.self.invariant.0 in
    let len = c.len.ensures in omega arith

pub returns : goal.returns
returns c =
    let n = tasks_number _ _ _ _ _ _ _ c.self.invariant.0 c.args.self.now.history (ap (λ (a : BookState). a.history) c.self.view_is) in
    let len = c.len.ensures in omega arith
