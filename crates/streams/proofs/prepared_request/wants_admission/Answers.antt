use Rattle.std.proofs.Common.{List, ℕ, IsTrue, ◌↔◌, subst}
use Rattle.streams.specs.Prepared.{CoversCredit}
use Rattle.streams.proofs.prepared_request.wants_admission.Goals as goal

pub returns-in-Submit : goal.returns-in-Submit
returns-in-Submit c =
    rw c.in-Submit.is (subst (λ (name : List ℕ). IsTrue c.covers_credit.result ↔ CoversCredit c.args.desk.now name c.in-Submit.credit) c.deref.ensures c.covers_credit.ensures)
