use Rattle.std.proofs.Common.{refl, sym, subst}
use Rattle.credit_book.specs.Boards.{Sign}
use Rattle.credit_book.specs.Books.{BookState, IsReport}
use Rattle.credit_book.specs.History.{IsHistoryOf, IsComplete, table_of}
use Rattle.workers.proofs.Endings.{final_of}
use Rattle.workers.proofs.locked_book.LockedBook.close.Goals as goal

pub returns-in-Ok : goal.returns-in-Ok
returns-in-Ok g c =
    let inv = c.self.invariant in
    let book = c.self.inside.book in
    let legal = subst (λ (s : Sign). IsHistoryOf s.job s.issued book.history) inv.2 c.in-Ok.ensures.legal in
    let complete = c.in-Ok.ensures.variant.0 refl in
    let report = subst (λ n. IsReport n book.history c.in-Ok.report) inv.3 c.in-Ok.ensures.report in
    record {
      report = final_of _ _ _ book.history c.in-Ok.report legal complete report;
      closes = record {
        closed = record {
          history = book.history;
          known = c.self.inside.register.known;
          legal = legal;
          complete = complete;
          report_of = report;
          agrees = inv.0;
          all = c.look.ensures.all;
          first = c.look.ensures.root;
          each = c.look.ensures.runs;
        };
        told = inv.5;
      };
      own = subst (λ (d : BookState). IsReport d.size d.history c.in-Ok.report) c.self.view_is c.in-Ok.ensures.report;
      back = tt;
      alive = tt;
    }

pub returns-in-Err-clause-alive : goal.returns-in-Err-clause-alive
returns-in-Err-clause-alive g c = λ complete.
    let done : IsComplete (table_of c.self.inside.book.history) = subst (λ (d : BookState). IsComplete (table_of d.history)) (sym c.self.view_is) complete in
    absurd (let both = c.in-Err.ensures.variant.1 done in cc)
