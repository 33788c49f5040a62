-- What was done, and its frame.
use Rattle.std.proofs.Common.{◌≡◌, ◌⊎◌, ◌≤◌, ◌+◌, ◌-◌, ℕ, List, [], ◌∷◌, ◌++◌, length, length-append, slice_get, slice_set, refl, sym, ◌∙◌, ap, subst, arith, nat_eq, if◌then◌else◌, false, Option, Some, None, Result, Ok, Err, OnOk, OnErr, IfOk, IfErr, inl, inr, unwrap_or, MatchResult}
use Rattle.std.proofs.lemmas.Bool.Decides.{nat_tests}
use Rattle.refusal.specs.declared.NoMemory.{NoMemory}
use Rattle.serde_json.specs.Data.{Data}
use Rattle.credit_book.specs.declared.book.Report.{Report}
use Rattle.credit_book.specs.declared.board.Progress.{Progress}
use Rattle.job_core.specs.Admitted as core
use Rattle.job_core.specs.Admission.{IsAdmittedFrom}
use Rattle.job_core.specs.declared.admission.ProgramBytes.{ProgramBytes}
use Rattle.job_core.specs.declared.admission.AdmitFault.{AdmitFault}
use Rattle.accounts.specs.declared.fault.DeskFault.{DeskFault}
use Rattle.accounts.specs.declared.fault.DeskFault.TheVariants as fault
use Rattle.accounts.specs.declared.tenants.Account.{Account}
use Rattle.accounts.specs.declared.jobs.JobEntry.{JobEntry}
use Rattle.accounts.specs.declared.jobs.JobStanding.TheVariants.{Failed}
use Rattle.accounts.specs.Jobs.{job_at}
use Rattle.accounts.specs.declared.fault.SubmitFault.{SubmitFault}
use Rattle.accounts.specs.Ahead.{IsAdmissionOf}
use Rattle.accounts.specs.Ledgers.{Ledger, HasBalance, granted_to, most_granted, GrantsMore, RefusesGrant, RefusesSubmit, Takes, Finishes, IsNotOpen, account_at}
use Rattle.sessions.specs.Grammar.{Asked}
use Rattle.sessions.specs.Replies.{reply_data, frame_of, frame_or_refusal, submit_data}
use Rattle.sessions.specs.declared.reply.Reply.{Reply}
use Rattle.streams.specs.Passing.{Passes}
use Rattle.streams.specs.Refusing.{IsJustTaken, LastStands, SaysRefusal, start_refused}
use Rattle.streams.specs.Answering.{Answers, Framed, Grants, GrantsNone, IsOpenJob, Replies, Settles, StartsTaken, Submits, account_told, submit_refused}

-- a grant is made, or it isn't
pub granted : (r : Result Account DeskFault) (desk after : Ledger) (name : List ℕ) (amount : ℕ) (told : Data) → told ≡ account_told r →
    OnOk r (GrantsMore desk name amount after) → IfOk r (λ _. r ≡ account_at after name) → IfErr r (λ e. RefusesGrant desk name amount e) →
    OnErr r (after ≡ desk) → OnOk r (unwrap_or (granted_to desk name) 0 + amount ≤ most_granted) → Grants desk name amount told after ⊎ GrantsNone desk name amount told after
granted (Ok a) desk after name amount told tells more is why same within = inl (record { within = within; more = more; account = a; is = sym is; tells = tells })
granted (Err e) desk after name amount told tells more is why same within = inr (record { fault = e; why = why; same = same; tells = tells })

last_of : (js : List JobEntry) (e : JobEntry) → slice_get (js ++ e ∷ []) (length js) ≡ Some e
last_of [] e = refl
last_of (j ∷ js) e = last_of js e

job_last : (js : List JobEntry) (e : JobEntry) (n : ℕ) → n ≡ length (js ++ e ∷ []) → job_at (js ++ e ∷ []) n ≡ Some e
job_last js e n is =
    let more : n ≡ length js + 1 = omega (arith, is, length-append js (e ∷ [])) in
    let some : nat_eq n 0 ≡ false = grind (arith, nat_tests) in
    let place : n - 1 ≡ length js = omega (arith, more) in
    ap (λ b. if b then None else slice_get (js ++ e ∷ []) (n - 1)) some ∙ ap (slice_get (js ++ e ∷ [])) place ∙ last_of js e

-- the job that is taken is the last one
just_taken : (old new : Ledger) (name : List ℕ) (credit n : ℕ) → Takes old name credit new → n ≡ length new.jobs → IsJustTaken new n
just_taken old new name credit n takes is =
    (is, record { front = old.jobs; entry = takes.entry; last = takes.jobs.jobs; stands = takes.opened })

-- it is open
pub open_taken : (desk : Ledger) (n : ℕ) → IsJustTaken desk n → IsOpenJob desk n
open_taken desk n taken =
    let l = taken.1 in
    let here = job_last l.front l.entry n (taken.0 ∙ ap length l.last) in
    (l.entry, subst (λ (js : List JobEntry). job_at js n ≡ Some l.entry) (sym l.last) here, l.stands)

pub opened : (old new : Ledger) (name : List ℕ) (credit n : ℕ) → Takes old name credit new → n ≡ length new.jobs → IsOpenJob new n
opened old new name credit n takes is = open_taken new n (just_taken old new name credit n takes is)

-- so it is there to be ended
pub finished : {T : Type 0} (r : Result T DeskFault) (old new : Ledger) (number : ℕ) (outcome : Result Report ℕ) → IsOpenJob old number →
    OnOk r (Finishes old number outcome new) → IfErr r (λ e. (e ≡ fault.NoJob) × IsNotOpen old number) → Finishes old number outcome new
finished (Ok x) old new number outcome there done refused = done
finished (Err e) old new number outcome there done refused = absurd (refused.1 there.0 there.1 there.2)

-- a frame is that of its reply's text, or of refusal 65
pub is_frame : (r : Reply) → frame_of r ≡ frame_or_refusal (reply_data r)
unfolding frame_of
is_frame r = refl

-- the job of a number is the last one, if one was taken
pub taken_if : (r : Result (ℕ × core.AdmittedJob) SubmitFault) (old new : Ledger) (name : List ℕ) (credit : ℕ) → OnOk r (Takes old name credit new) → IfOk r (λ t. t.0 ≡ length new.jobs) → IfOk r (λ t. IsJustTaken new t.0)
taken_if (Ok t) old new name credit takes is = just_taken old new name credit t.0 takes is
taken_if (Err e) old new name credit takes is = tt

set_last : (js : List JobEntry) (e f : JobEntry) → slice_set (js ++ e ∷ []) (length js) f ≡ js ++ f ∷ []
set_last [] e f = refl
set_last (j ∷ js) e f = ap (λ (l : List JobEntry). j ∷ l) (set_last js e f)

-- the desk's last job is over with a number
failed_last : (desk after : Ledger) (n code : ℕ) → IsJustTaken desk n → Finishes desk n (Err code) after → LastStands after (Failed code) × (n ≡ length after.jobs)
failed_last desk after n code taken over =
    let l = taken.1 in
    let over_entry : JobEntry = record over.entry { standing = Failed code } in
    let size = length-append l.front (l.entry ∷ []) in
    let place : n - 1 ≡ length l.front = let at = taken.0 ∙ ap length l.last in omega (arith, at, size) in
    let jobs : after.jobs ≡ l.front ++ over_entry ∷ [] =
    over.jobs.jobs ∙ ap (λ (js : List JobEntry). slice_set js (n - 1) over_entry) l.last
    ∙ ap (λ k. slice_set (l.front ++ l.entry ∷ []) k over_entry) place ∙ set_last l.front l.entry over_entry in
    let longer = length-append l.front (over_entry ∷ []) in
    let number : n ≡ length after.jobs =
    let at = taken.0 ∙ ap length l.last in let now = ap length jobs in omega (arith, at, size, now, longer) in
    (record { front = l.front; entry = over_entry; last = jobs; stands = refl }, number)

-- what is told of a start is so of the desk
pub says_started : (desk after : Ledger) (n : ℕ) (outcome : Result (Unit {0}) ℕ) (reply : List ℕ) → IsJustTaken desk n → Settles desk n outcome after →
    reply ≡ frame_or_refusal (submit_data n) → SaysRefusal after (start_refused n outcome) reply
says_started desk after n (Ok started) reply taken settles is =
    rw settles (taken.1, is ∙ ap (λ k. frame_or_refusal (submit_data k)) taken.0)
says_started desk after n (Err code) reply taken settles is =
    let last = failed_last desk after n code taken settles in (last.0, last.1, is)

-- a job that was taken was admitted
pub admitted_if : (programs : List ProgramBytes) (credit : ℕ) (buffer : List ℕ) (a : Result core.AdmittedJob AdmitFault) (r : Result (ℕ × core.AdmittedJob) SubmitFault)
    → IsAdmissionOf programs credit buffer a → IfOk r (λ t. a ≡ Ok t.1) → IfOk r (λ t. IsAdmittedFrom programs credit buffer t.1)
admitted_if programs credit buffer a (Ok t) admission is = subst (IsAdmissionOf programs credit buffer) is admission
admitted_if programs credit buffer a (Err e) admission is = tt

-- what a submit comes to is a job that is taken and started, or one that isn't taken
pub submits_by : {R : Type 0} (starts : R → ℕ → core.AdmittedJob → Result (Unit {0}) ℕ → R → Type 0) (r : Result (ℕ × core.AdmittedJob) SubmitFault) (desk mid : Ledger) (runner : R) (name : List ℕ) (programs : List ProgramBytes) (credit : ℕ) (buffer : List ℕ)
    → OnOk r (Takes desk name credit mid) → IfOk r (λ t. t.0 ≡ length mid.jobs) → IfOk r (λ t. IsAdmittedFrom programs credit buffer t.1)
    → IfErr r (λ e. RefusesSubmit desk name programs credit buffer e) → OnErr r (mid ≡ desk) → (told : Data) (after : Ledger) (left : R)
    → MatchResult r (λ t. StartsTaken starts mid runner t.0 t.1 told after left) (λ fault. (after ≡ mid) × (left ≡ runner) × (told ≡ submit_refused fault))
    → Submits starts desk runner name programs credit buffer told after left
submits_by starts (Ok t) desk mid runner name programs credit buffer takes number admitted why same told after left done = inl (record {
  mid = mid;
  takes = takes;
  job = t.1;
  admitted = admitted;
  outcome = done.outcome;
  starts_job = subst (λ (n : ℕ). starts runner n t.1 done.outcome left) number done.starts_job;
  settles = subst (λ (n : ℕ). Settles mid n done.outcome after) number done.settles;
  tells = done.tells ∙ ap submit_data number;
})
submits_by starts (Err e) desk mid runner name programs credit buffer takes number admitted why same told after left done =
    inr (record { fault = e; why = why; same = done.0 ∙ same; same_runner = done.1; tells = done.2 })

-- what was done is told by the same frame, in other words
pub framed_as : (r : Result (List ℕ) NoMemory) (P Q : Data → Type 0) → ((d : Data) → P d → Q d) → Framed r P → Framed r Q
framed_as r P Q leads framed = record { told = framed.told; was = leads (reply_data framed.told) framed.was; frame = framed.frame }

module _ {R : Type 0} (starts : R → ℕ → core.AdmittedJob → Result (Unit {0}) ℕ → R → Type 0) (looks : R → ℕ → Progress → R → Type 0)
    (takes : R → Option (ℕ × Result Report ℕ) → R → Type 0) (desk : Ledger) (runner : R) (query : Result Asked ℕ) (mid : Ledger) (rest : R)
    (after : Ledger) (left : R) (passed : Passes takes desk runner mid rest) where
  pub answered_ok : (r : Result (List ℕ) NoMemory) → Framed r (λ told. Replies starts looks mid rest query told after left) →
      IfOk r (λ f. Answers starts looks takes desk runner query f after left)
  answered_ok (Ok f) framed =
      record { mid = mid; rest = rest; passed = passed; told = framed.told; replies = framed.was; frame = framed.frame }
  answered_ok (Err e) framed = tt

  pub answered_err : (r : Result (List ℕ) NoMemory) → Framed r (λ told. Replies starts looks mid rest query told after left) →
      OnErr r ((reply : List ℕ) × Answers starts looks takes desk runner query reply after left)
  answered_err (Ok f) framed = tt
  answered_err (Err e) framed =
      (frame_of framed.told, record { mid = mid; rest = rest; passed = passed; told = framed.told; replies = framed.was; frame = refl })

account_same : (a b : Account) (r : Result Account DeskFault) → r ≡ Ok a → r ≡ Ok b → a ≡ b
account_same a b r is same = cc

-- a tenant's balance covers a credit just where its account does
pub within_balance : (desk : Ledger) (name : List ℕ) (credit : ℕ) (r : Result Account DeskFault) (a : Account) → r ≡ account_at desk name → r ≡ Ok a →
    ((credit ≤ a.balance) → (balance : ℕ) × HasBalance desk name balance × (credit ≤ balance))
    × (((balance : ℕ) × HasBalance desk name balance × (credit ≤ balance)) → credit ≤ a.balance)
within_balance desk name credit r a is ok = (
  (λ le. (a.balance, record { account = a; is = sym is ∙ ok; same = refl }, le)),
  (λ w. let same = account_same w.1.account a (account_at desk name) w.1.is (sym is ∙ ok) in
      let balance = sym w.1.same ∙ ap (λ (x : Account). x.balance) same in
      let le = w.2 in omega (arith, balance, le)),
)

-- and nothing is covered where there is none
pub never_within : (desk : Ledger) (name : List ℕ) (credit : ℕ) (r : Result Account DeskFault) (e : DeskFault) → r ≡ account_at desk name → r ≡ Err e →
    ((balance : ℕ) × HasBalance desk name balance × (credit ≤ balance)) → ⊥
never_within desk name credit r e is none w = let clash = sym none ∙ is ∙ w.1.is in absurd cc
