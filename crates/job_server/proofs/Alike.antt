-- What is said of a state is said of what it comes to by a function, where that answers alike.
use Rattle.std.proofs.Common.{ℕ, List, Option, Some, None, Result, Ok, Err, inl, inr, ap}
use Rattle.credit_book.specs.declared.book.Report.{Report}
use Rattle.credit_book.specs.declared.board.Progress.{Progress}
use Rattle.job_core.specs.Admitted.{AdmittedJob}
use Rattle.job_core.specs.declared.admission.ProgramBytes.{ProgramBytes}
use Rattle.serde_json.specs.Data.{Data}
use Rattle.accounts.specs.Ledgers.{Ledger}
use Rattle.sessions.specs.Grammar.{Asked, grant, account, submit, status, result}
use Rattle.streams.specs.Passing.{Passes, Taken}
use Rattle.streams.specs.Passing as passing
use Rattle.streams.specs.Answering.{Replies, Submits}
use Rattle.job_server.specs.Kept.{answers_by}

-- ---- a desk and a runner, and that desk with what the runner comes to

abbrev pub beside : {R Q : Type 0} → (R → Q) → Ledger × R → Ledger × Q
beside f s = (s.0, f s.1)

module _ {R Q : Type 0} (f : R → Q)
    (starts : R → ℕ → AdmittedJob → Result (Unit {0}) ℕ → R → Type 0) (looks : R → ℕ → Progress → R → Type 0) (takes : R → Option (ℕ × Result Report ℕ) → R → Type 0)
    (starts1 : Q → ℕ → AdmittedJob → Result (Unit {0}) ℕ → Q → Type 0) (looks1 : Q → ℕ → Progress → Q → Type 0) (takes1 : Q → Option (ℕ × Result Report ℕ) → Q → Type 0)
    (starts_alike : (r : R) (n : ℕ) (o : AdmittedJob) (x : Result (Unit {0}) ℕ) (s : R) → starts r n o x s → starts1 (f r) n o x (f s))
    (looks_alike : (r : R) (n : ℕ) (p : Progress) (s : R) → looks r n p s → looks1 (f r) n p (f s))
    (takes_alike : (r : R) (x : Option (ℕ × Result Report ℕ)) (s : R) → takes r x s → takes1 (f r) x (f s)) where
  taken_alike : (desk : Ledger) (runner : R) (after : Ledger) (last : R) → Taken takes desk runner after last → Taken takes1 desk (f runner) after (f last)
  taken_alike desk runner after last passing.none_yet = passing.none_yet
  taken_alike desk runner after last (passing.one_more d r number outcome s e before takes_one notes) =
      passing.one_more d (f r) number outcome (f s) e (taken_alike desk runner d r before) (takes_alike r (Some (number, outcome)) s takes_one) notes

  passes_alike : (desk after : Ledger) (runner left : R) → Passes takes desk runner after left → Passes takes1 desk (f runner) after (f left)
  passes_alike desk after runner left p = record {
    last = f p.last;
    taken = taken_alike desk runner after p.last p.taken;
    none_left = takes_alike p.last None left p.none_left;
  }

  submits_alike : (desk after : Ledger) (runner left : R) (name : List ℕ) (programs : List ProgramBytes) (credit : ℕ) (buffer : List ℕ) (told : Data) →
      Submits starts desk runner name programs credit buffer told after left → Submits starts1 desk (f runner) name programs credit buffer told after (f left)
  submits_alike desk after runner left name programs credit buffer told (inl t) = inl (record {
    mid = t.mid;
    takes = t.takes;
    job = t.job;
    admitted = t.admitted;
    outcome = t.outcome;
    starts_job = starts_alike runner _ t.job t.outcome left t.starts_job;
    settles = t.settles;
    tells = t.tells;
  })
  submits_alike desk after runner left name programs credit buffer told (inr t) = inr (record {
    fault = t.fault;
    why = t.why;
    same = t.same;
    same_runner = ap f t.same_runner;
    tells = t.tells;
  })

  pub replies_alike : (desk after : Ledger) (runner left : R) (query : Result Asked ℕ) (told : Data) → Replies starts looks desk runner query told after left → Replies starts1 looks1 desk (f runner) query told after (f left)
  unfolding Replies
  replies_alike desk after runner left (Err code) told r = (r.0, r.1, ap f r.2)
  replies_alike desk after runner left (Ok (grant name amount)) told r = (r.0, ap f r.1)
  replies_alike desk after runner left (Ok (account name)) told r = (r.0, r.1, ap f r.2)
  replies_alike desk after runner left (Ok (submit name order)) told r = (r.0, r.1, submits_alike desk after runner left name r.0 order.credit order.buffer told r.2)
  replies_alike desk after runner left (Ok (status number)) told r = (r.0, looks_alike runner number r.0 left r.1, r.2, r.3)
  replies_alike desk after runner left (Ok (result number)) told r = (r.0, r.1, ap f r.2)

  pub answers_alike : (s : Ledger × R) (query : Result Asked ℕ) (reply : List ℕ) (t : Ledger × R) → answers_by starts looks takes s query reply t →
      answers_by starts1 looks1 takes1 (beside f s) query reply (beside f t)
  answers_alike s query reply t a = record {
    mid = a.mid;
    rest = f a.rest;
    passed = passes_alike s.0 a.mid s.1 a.rest a.passed;
    told = a.told;
    replies = replies_alike a.mid t.0 a.rest t.1 query _ a.replies;
    frame = a.frame;
  }
