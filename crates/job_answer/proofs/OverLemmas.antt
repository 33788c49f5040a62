-- What holds of each task that is over.
use Rattle.std.proofs.Common.{◌≡◌, ℕ, zero, suc, List, [], ◌∷◌, Option, Some, slice_get, ◌++◌, refl, subst}
use Rattle.credit_book.specs.declared.book.Report.{Report}
use Rattle.task_register.specs.declared.seats.TaskStart.{TaskStart}
use Rattle.task_register.specs.declared.seats.TaskResult.{TaskResult}
use Rattle.task_register.specs.Rule.{EachIs}
use Rattle.job_answer.specs.Closing.{ClosesJob}

pub one_some : {X : Type 0} (o : Option X) (a b : X) → o ≡ Some a → o ≡ Some b → a ≡ b
one_some o a b x y = cc

pub each_at : (P : TaskResult → Type 0) (os : List TaskResult) (k : ℕ) (o : TaskResult) → EachIs P os → slice_get os k ≡ Some o → P o
each_at P [] k o each e = absurd (cc)
each_at P (x ∷ xs) zero o each e = subst P (one_some (Some x) x o refl e) each.0
each_at P (x ∷ xs) (suc k) o each e = each_at P xs k o each.1 e

pub each_more : (P : TaskResult → Type 0) (os : List TaskResult) (o : TaskResult) → EachIs P os → P o → EachIs P (os ++ o ∷ [])
each_more P [] o each last = (last, tt)
each_more P (x ∷ xs) o each last = (each.0, each_more P xs o each.1 last)

pub each_less : (P : TaskResult → Type 0) (os : List TaskResult) (o : TaskResult) → EachIs P (os ++ o ∷ []) → EachIs P os × P o
each_less P [] o each = (tt, each.0)
each_less P (x ∷ xs) o each = let rest = each_less P xs o each.1 in ((each.0, rest.0), rest.1)

pub each_both : (P Q : TaskResult → Type 0) (os : List TaskResult) → EachIs P os → EachIs Q os → EachIs (λ o. P o × Q o) os
each_both P Q [] a b = tt
each_both P Q (o ∷ os) a b = ((a.0, b.0), each_both P Q os a.1 b.1)

module _ (P Q : TaskResult → Type 0) (weaker : (o : TaskResult) → P o → Q o) where
  pub each_weaker : (os : List TaskResult) → EachIs P os → EachIs Q os
  each_weaker [] each = tt
  each_weaker (o ∷ os) each = (weaker o each.0, each_weaker os each.1)

  -- a closed job closes where less is to hold of each task
  pub closes_weaker : (job issued size : ℕ) (root : TaskStart) (report : Report) → ClosesJob job issued size root P report → ClosesJob job issued size root Q report
  closes_weaker job issued size root report closed = record {
    history = closed.history;
    known = closed.known;
    legal = closed.legal;
    complete = closed.complete;
    report_of = closed.report_of;
    agrees = closed.agrees;
    all = closed.all;
    first = closed.first;
    each = each_weaker closed.known.over closed.each;
  }
