-- What is told at two desks that are alike, where the same is asked.
use Rattle.std.proofs.Common.{◌≡◌, ◌≢◌, ◌⊎◌, ◌+◌, ◌≤◌, ◌<◌, ℕ, List, [], ◌∷◌, length, map, Option, Some, None, Result, Ok, Err, unwrap_or, refl, sym, ap, subst, ◌∙◌, inl, inr, arith}
use Rattle.credit_book.specs.declared.board.Progress.{Progress}
use Rattle.job_core.specs.declared.admission.ProgramBytes.{ProgramBytes}
use Rattle.job_core.specs.declared.admission.AdmitFault.{AdmitFault}
use Rattle.job_core.specs.declared.admission.AdmitFault.TheVariants as admit
use Rattle.job_core.specs.Admitted.{AdmittedJob}
use Rattle.job_core.specs.Admission.{IsAdmittedFrom, RefusesJob}
use Rattle.accounts.specs.declared.fault.DeskFault.{DeskFault}
use Rattle.accounts.specs.declared.fault.DeskFault.TheVariants as fault
use Rattle.accounts.specs.declared.fault.SubmitFault.{SubmitFault}
use Rattle.accounts.specs.declared.fault.SubmitFault.TheVariants as submit
use Rattle.accounts.specs.declared.jobs.JobEntry.{JobEntry}
use Rattle.accounts.specs.declared.jobs.JobStanding.{JobStanding}
use Rattle.accounts.specs.declared.jobs.JobStanding.TheVariants.{Open, Reported, Failed}
use Rattle.accounts.specs.declared.tenants.Account.{Account}
use Rattle.accounts.specs.Faults.{desk_code}
use Rattle.accounts.specs.Jobs.{job_at, progress_of}
use Rattle.accounts.specs.Ledgers.{Ledger, HasBalance, RefusesGrant, RefusesSubmit, Takes, Finishes, account_at, account_in, past_of, granted_to, most_granted, progress_at, progress_in}
use Rattle.sessions.specs.Grammar.{Asked, grant, account, submit as submit_asks, status, result, program_asked}
use Rattle.sessions.specs.Replies.{reply_data, status_data, submit_data}
use Rattle.sessions.specs.declared.reply.Reply.{Reply}
use Rattle.streams.specs.Answering.{Replies, Grants, GrantsNone, Settles, TakesJob, Submits, account_told, progress_told, report_told, refused, submit_refused}
use Rattle.server_state.proofs.AlikeDesks.{AlikeDesks, AlikeJobs, AlikeOptions, account_alike, report_alike, jobs_alike, push_alike, length_alike, finishes_alike, grants_alike, job_alike}

-- a start that comes to this
abbrev pub starts_to : {P : Type 0} → Result (Unit {0}) ℕ → (P → ℕ → AdmittedJob → Result (Unit {0}) ℕ → P → Type 0) → P → ℕ → AdmittedJob → Result (Unit {0}) ℕ → P → Type 0
starts_to outcome starts old number job came new = starts old number job came new × (came ≡ outcome)

-- Admission is the same for programs that are asked for the same, but for want of memory.
pub record OneAdmission : Type 0 where
  pub taken : (ps qs : List ProgramBytes) (credit : ℕ) (buffer : List ℕ) (job : AdmittedJob) (why : AdmitFault) → map program_asked ps ≡ map program_asked qs
      → IsAdmittedFrom ps credit buffer job → RefusesJob qs credit buffer why → why ≡ admit.NoMemory
  pub refused : (ps qs : List ProgramBytes) (credit : ℕ) (buffer : List ℕ) (why other : AdmitFault) → map program_asked ps ≡ map program_asked qs
      → RefusesJob ps credit buffer why → RefusesJob qs credit buffer other → why ≢ admit.NoMemory → other ≢ admit.NoMemory → why ≡ other

-- the reply isn't 99
abbrev pub HadMemory : Reply → Type 0
HadMemory told = reply_data told ≢ refused 99

-- the reply tells how far a job is
abbrev pub IsProgressOf : Reply → Progress → Type 0
IsProgressOf told p = reply_data told ≡ status_data p.complete p.returned p.spent

-- the same is told, or how far a job is
abbrev pub AlikeReplies : Reply → Reply → Type 0
AlikeReplies t u = (reply_data t ≡ reply_data u) ⊎ ((p q : Progress) × IsProgressOf t p × IsProgressOf u q)

pub flip : (d e : Ledger) → AlikeDesks d e → AlikeDesks e d
flip d e a = record { grants = λ q. sym (a.grants q); past = λ q. sym (a.past q); jobs = turned d.jobs e.jobs a.jobs }
  where
    turned : (xs ys : List JobEntry) → AlikeJobs xs ys → AlikeJobs ys xs
    turned [] [] t = tt
    turned [] (y ∷ ys) t = absurd t
    turned (x ∷ xs) [] t = absurd t
    turned (x ∷ xs) (y ∷ ys) t = (record { tenant = sym t.0.tenant; credit = sym t.0.credit; standing = sym t.0.standing }, turned xs ys t.1)

pub carried : (d e d' e' : Ledger) → d' ≡ d → e' ≡ e → AlikeDesks d e → AlikeDesks d' e'
carried d e d' e' first second a =
    let P : Ledger × Ledger → Type 0 = λ p. AlikeDesks p.0 p.1 in subst P (λ k. (sym first k, sym second k)) a

-- ---- a grant

only_large : (desk : Ledger) (name : List ℕ) (amount : ℕ) (why : DeskFault) (told : Reply) → RefusesGrant desk name amount why → reply_data told ≡ refused (desk_code why) → HadMemory told
    → (most_granted < unwrap_or (granted_to desk name) 0 + amount) × (reply_data told ≡ refused 65)
only_large desk name amount fault.TooLarge told refuses tells had = (refuses, tells)
only_large desk name amount fault.NoMemory told refuses tells had = absurd (had tells)
only_large desk name amount fault.NoTenant told refuses tells had = absurd refuses
only_large desk name amount fault.NoJob told refuses tells had = absurd refuses
only_large desk name amount fault.NotComplete told refuses tells had = absurd refuses
only_large desk name amount (fault.Failed code) told refuses tells had = absurd refuses

not_both : (d e : Ledger) (name : List ℕ) (amount : ℕ) → AlikeDesks d e → unwrap_or (granted_to d name) 0 + amount ≤ most_granted → most_granted < unwrap_or (granted_to e name) 0 + amount → ⊥
not_both d e name amount a within over =
    let same : unwrap_or (granted_to d name) 0 + amount ≡ unwrap_or (granted_to e name) 0 + amount = ap (λ (o : Option ℕ). unwrap_or o 0 + amount) (a.grants name) in
    omega (arith, within, over, same)

grant_alike : (d e : Ledger) (name : List ℕ) (amount : ℕ) (t u : Reply) (d' e' : Ledger) → AlikeDesks d e → Grants d name amount (reply_data t) d' ⊎ GrantsNone d name amount (reply_data t) d'
    → Grants e name amount (reply_data u) e' ⊎ GrantsNone e name amount (reply_data u) e' → HadMemory t → HadMemory u → AlikeDesks d' e' × AlikeReplies t u
grant_alike d e name amount t u d' e' a (inl g) (inl h) mt mu =
    let after = grants_alike d e d' e' name amount a g.more h.more in
    (after, inl (g.tells ∙ ap account_told (sym g.is ∙ account_alike d' e' name after ∙ h.is) ∙ sym h.tells))
grant_alike d e name amount t u d' e' a (inl g) (inr n) mt mu =
    absurd (not_both d e name amount a g.within (only_large e name amount n.fault u n.why n.tells mu).0)
grant_alike d e name amount t u d' e' a (inr n) (inl h) mt mu =
    absurd (not_both e d name amount (flip d e a) h.within (only_large d name amount n.fault t n.why n.tells mt).0)
grant_alike d e name amount t u d' e' a (inr n) (inr m) mt mu =
    (carried d e d' e' n.same m.same a, inl ((only_large d name amount n.fault t n.why n.tells mt).1 ∙ sym (only_large e name amount m.fault u m.why m.tells mu).1))

-- ---- how far a job is

progress_standing : (s : JobStanding) (p q : Progress) → (progress_of s p ≡ progress_of s q) ⊎ ((progress_of s p ≡ Ok p) × (progress_of s q ≡ Ok q))
progress_standing Open p q = inr (refl, refl)
progress_standing (Reported report) p q = inl refl
progress_standing (Failed code) p q = inl refl

progress_options : (o n : Option JobEntry) (p q : Progress) → AlikeOptions o n → (progress_in o p ≡ progress_in n q) ⊎ ((progress_in o p ≡ Ok p) × (progress_in n q ≡ Ok q))
progress_options None None p q a = inl refl
progress_options None (Some y) p q a = absurd a
progress_options (Some x) None p q a = absurd a
progress_options (Some x) (Some y) p q a =
    subst (λ (s : JobStanding). (progress_of x.standing p ≡ progress_of s q) ⊎ ((progress_of x.standing p ≡ Ok p) × (progress_of s q ≡ Ok q))) a.standing (progress_standing x.standing p q)

progress_alike : (d e : Ledger) (number : ℕ) (p q : Progress) (t u : Reply) → AlikeDesks d e → reply_data t ≡ progress_told (progress_at d number p) → reply_data u ≡ progress_told (progress_at e number q)
    → AlikeReplies t u
unfolding progress_at
progress_alike d e number p q t u a first second = by_options (progress_options (job_at d.jobs number) (job_at e.jobs number) p q (job_alike d.jobs e.jobs number a.jobs))
  where
    by_options : (progress_in (job_at d.jobs number) p ≡ progress_in (job_at e.jobs number) q) ⊎ ((progress_in (job_at d.jobs number) p ≡ Ok p) × (progress_in (job_at e.jobs number) q ≡ Ok q)) → AlikeReplies t u
    by_options (inl same) = inl (first ∙ ap progress_told same ∙ sym second)
    by_options (inr both) = inr (p, q, first ∙ ap progress_told both.0, second ∙ ap progress_told both.1)

-- ---- a submit

no_balance : (desk : Ledger) (name : List ℕ) (balance : ℕ) → granted_to desk name ≡ None → HasBalance desk name balance → ⊥
unfolding account_at
no_balance desk name balance none had =
    let clash = sym (ap (account_in desk.jobs (past_of desk name) name) none) ∙ had.is in cc

balance_same : (d e : Ledger) (name : List ℕ) (b c : ℕ) → AlikeDesks d e → HasBalance d name b → HasBalance e name c → b ≡ c
balance_same d e name b c a first second =
    sym first.same ∙ balances (account_at e name) first.account second.account (sym (account_alike d e name a) ∙ first.is) second.is ∙ second.same
  where
    balances : (o : Result Account DeskFault) (x y : Account) → o ≡ Ok x → o ≡ Ok y → x.balance ≡ y.balance
    balances o x y one other = let accounts : x ≡ y = cc in ap (λ (z : Account). z.balance) accounts

-- one desk takes the job, and the other doesn't
not_taken : OneAdmission → (d e : Ledger) (name : List ℕ) (ps qs : List ProgramBytes) (credit : ℕ) (buffer : List ℕ) (mid : Ledger) (job : AdmittedJob) (why : SubmitFault) (told : Reply) → AlikeDesks d e
    → map program_asked ps ≡ map program_asked qs → Takes d name credit mid → IsAdmittedFrom ps credit buffer job → RefusesSubmit e name qs credit buffer why → reply_data told ≡ submit_refused why → HadMemory told → ⊥
not_taken one d e name ps qs credit buffer mid job submit.NoTenant told a same takes admitted refuses tells had =
    no_balance d name takes.balance (a.grants name ∙ refuses) takes.had
not_taken one d e name ps qs credit buffer mid job submit.BalanceLow told a same takes admitted refuses tells had =
    let balances = balance_same d e name takes.balance refuses.0 a takes.had refuses.1 in
    let low = refuses.2 in
    let enough = takes.enough in
    omega (arith, balances, low, enough)
not_taken one d e name ps qs credit buffer mid job (submit.Admit why) told a same takes admitted refuses tells had =
    had (tells ∙ ap (λ w. submit_refused (submit.Admit w)) (one.taken ps qs credit buffer job why same admitted refuses.3))

-- neither takes it
both_refuse : OneAdmission → (d e : Ledger) (name : List ℕ) (ps qs : List ProgramBytes) (credit : ℕ) (buffer : List ℕ) (why other : SubmitFault) (t u : Reply) → AlikeDesks d e
    → map program_asked ps ≡ map program_asked qs → RefusesSubmit d name ps credit buffer why → RefusesSubmit e name qs credit buffer other → reply_data t ≡ submit_refused why → reply_data u ≡ submit_refused other
    → HadMemory t → HadMemory u → reply_data t ≡ reply_data u
both_refuse one d e name ps qs credit buffer submit.NoTenant submit.NoTenant t u a same first second tt_is uu_is mt mu = tt_is ∙ sym uu_is
both_refuse one d e name ps qs credit buffer submit.NoTenant submit.BalanceLow t u a same first second tt_is uu_is mt mu =
    absurd (no_balance e name second.0 (sym (a.grants name) ∙ first) second.1)
both_refuse one d e name ps qs credit buffer submit.NoTenant (submit.Admit other) t u a same first second tt_is uu_is mt mu =
    absurd (no_balance e name second.0 (sym (a.grants name) ∙ first) second.1)
both_refuse one d e name ps qs credit buffer submit.BalanceLow submit.NoTenant t u a same first second tt_is uu_is mt mu =
    absurd (no_balance d name first.0 (a.grants name ∙ second) first.1)
both_refuse one d e name ps qs credit buffer submit.BalanceLow submit.BalanceLow t u a same first second tt_is uu_is mt mu = tt_is ∙ sym uu_is
both_refuse one d e name ps qs credit buffer submit.BalanceLow (submit.Admit other) t u a same first second tt_is uu_is mt mu =
    let balances = balance_same d e name first.0 second.0 a first.1 second.1 in
    let low = first.2 in
    let enough = second.2 in
    absurd (omega (arith, balances, low, enough))
both_refuse one d e name ps qs credit buffer (submit.Admit why) submit.NoTenant t u a same first second tt_is uu_is mt mu =
    absurd (no_balance d name first.0 (a.grants name ∙ second) first.1)
both_refuse one d e name ps qs credit buffer (submit.Admit why) submit.BalanceLow t u a same first second tt_is uu_is mt mu =
    let balances = balance_same d e name first.0 second.0 a first.1 second.1 in
    let low = second.2 in
    let enough = first.2 in
    absurd (omega (arith, balances, low, enough))
both_refuse one d e name ps qs credit buffer (submit.Admit why) (submit.Admit other) t u a same first second tt_is uu_is mt mu =
    tt_is
    ∙ ap (λ w. submit_refused (submit.Admit w))
    (one.refused ps qs credit buffer why other same first.3 second.3 (λ none. mt (tt_is ∙ ap (λ w. submit_refused (submit.Admit w)) none)) (λ none. mu (uu_is ∙ ap (λ w. submit_refused (submit.Admit w)) none)))
    ∙ sym uu_is

settles_alike : (d e : Ledger) (m n : ℕ) (outcome : Result (Unit {0}) ℕ) (d' e' : Ledger) → AlikeDesks d e → m ≡ n → Settles d m outcome d' → Settles e n outcome e' → AlikeDesks d' e'
settles_alike d e m n (Ok done) d' e' a same first second = carried d e d' e' first second a
settles_alike d e m n (Err code) d' e' a same first second =
    finishes_alike d e d' e' n (Err code) a (subst (λ (k : ℕ). Finishes d k (Err code) d') same first) second

module _ {P : Type 0} (starts : P → ℕ → AdmittedJob → Result (Unit {0}) ℕ → P → Type 0) (looks : P → ℕ → Progress → P → Type 0) (one : OneAdmission) where
  both_take : (d e : Ledger) (r s : P) (name : List ℕ) (ps qs : List ProgramBytes) (credit : ℕ) (buffer : List ℕ) (t u : Reply) (d' e' : Ledger) (r' s' : P) (started : Result (Unit {0}) ℕ) → AlikeDesks d e
      → TakesJob (starts_to started starts) d r name ps credit buffer (reply_data t) d' r' → TakesJob (starts_to started starts) e s name qs credit buffer (reply_data u) e' s' → AlikeDesks d' e' × AlikeReplies t u
  both_take d e r s name ps qs credit buffer t u d' e' r' s' started a first second = (
    settles_alike first.mid second.mid _ _ started d' e' mids numbers
        (subst (λ o. Settles first.mid (length first.mid.jobs) o d') first.starts_job.1 first.settles)
        (subst (λ o. Settles second.mid (length second.mid.jobs) o e') second.starts_job.1 second.settles),
    inl (first.tells ∙ ap submit_data numbers ∙ sym second.tells),
  )
    where
      mids : AlikeDesks first.mid second.mid
      mids = jobs_alike d e first.mid second.mid _ _ a first.takes.jobs second.takes.jobs (push_alike d.jobs e.jobs first.takes.entry second.takes.entry a.jobs (record {
        tenant = first.takes.tenant ∙ sym second.takes.tenant;
        credit = first.takes.credited ∙ sym second.takes.credited;
        standing = first.takes.opened ∙ sym second.takes.opened;
      }))

      numbers : length first.mid.jobs ≡ length second.mid.jobs
      numbers = length_alike first.mid.jobs second.mid.jobs mids.jobs

  submit_alike : (d e : Ledger) (r s : P) (name : List ℕ) (ps qs : List ProgramBytes) (credit : ℕ) (buffer : List ℕ) (t u : Reply) (d' e' : Ledger) (r' s' : P) (started : Result (Unit {0}) ℕ) → AlikeDesks d e
      → map program_asked ps ≡ map program_asked qs → Submits (starts_to started starts) d r name ps credit buffer (reply_data t) d' r' → Submits (starts_to started starts) e s name qs credit buffer (reply_data u) e' s'
      → HadMemory t → HadMemory u → AlikeDesks d' e' × AlikeReplies t u
  submit_alike d e r s name ps qs credit buffer t u d' e' r' s' started a same (inl x) (inl y) mt mu = both_take d e r s name ps qs credit buffer t u d' e' r' s' started a x y
  submit_alike d e r s name ps qs credit buffer t u d' e' r' s' started a same (inl x) (inr n) mt mu =
      absurd (not_taken one d e name ps qs credit buffer x.mid x.job n.fault u a same x.takes x.admitted n.why n.tells mu)
  submit_alike d e r s name ps qs credit buffer t u d' e' r' s' started a same (inr n) (inl y) mt mu =
      absurd (not_taken one e d name qs ps credit buffer y.mid y.job n.fault t (flip d e a) (sym same) y.takes y.admitted n.why n.tells mt)
  submit_alike d e r s name ps qs credit buffer t u d' e' r' s' started a same (inr n) (inr m) mt mu =
      (carried d e d' e' n.same m.same a, inl (both_refuse one d e name ps qs credit buffer n.fault m.fault t u a same n.why m.why n.tells m.tells mt mu))

  -- ---- each form of request

  pub replies_alike : (d e : Ledger) (r s : P) (query : Result Asked ℕ) (t u : Reply) (d' e' : Ledger) (r' s' : P) (started : Result (Unit {0}) ℕ) → AlikeDesks d e
      → Replies (starts_to started starts) looks d r query (reply_data t) d' r' → Replies (starts_to started starts) looks e s query (reply_data u) e' s' → HadMemory t → HadMemory u
      → AlikeDesks d' e' × AlikeReplies t u
  unfolding Replies
  replies_alike d e r s (Err code) t u d' e' r' s' started a x y mt mu = (carried d e d' e' x.1 y.1 a, inl (x.0 ∙ sym y.0))
  replies_alike d e r s (Ok (grant name amount)) t u d' e' r' s' started a x y mt mu = grant_alike d e name amount t u d' e' a x.0 y.0 mt mu
  replies_alike d e r s (Ok (account name)) t u d' e' r' s' started a x y mt mu =
      (carried d e d' e' x.1 y.1 a, inl (x.0 ∙ ap account_told (account_alike d e name a) ∙ sym y.0))
  replies_alike d e r s (Ok (submit_asks name order)) t u d' e' r' s' started a x y mt mu =
      submit_alike d e r s name x.0 y.0 order.credit order.buffer t u d' e' r' s' started a (x.1 ∙ sym y.1) x.2 y.2 mt mu
  replies_alike d e r s (Ok (status number)) t u d' e' r' s' started a x y mt mu = (carried d e d' e' x.3 y.3 a, progress_alike d e number x.0 y.0 t u a x.2 y.2)
  replies_alike d e r s (Ok (result number)) t u d' e' r' s' started a x y mt mu =
      (carried d e d' e' x.1 y.1 a, inl (x.0 ∙ ap report_told (report_alike d e number a) ∙ sym y.0))
