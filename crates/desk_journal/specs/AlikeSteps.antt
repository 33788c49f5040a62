-- Where a change leads from a desk, it leads from one that this is alike, to one that is.
use Rattle.std.proofs.Common.{◌≡◌, ◌⊎◌, ◌+◌, ◌-◌, ◌≤◌, ◌<◌, ℕ, zero, suc, Bool, true, false, cond, List, [], ◌∷◌, ◌++◌, length, slice_get, slice_set, nat_eq, if◌then◌else◌, Option, Some, None, unwrap_or, Result, Ok, Err, refl, sym, ap, subst, ◌∙◌, inl, inr, arith}
use Rattle.std.specs.Prelude.{string_bytes}
use Rattle.std.specs.List.{AllZip}
use Rattle.std.specs.Map.{update}
use Rattle.std.specs.Str.{bytes_eq}
use Rattle.std.proofs.lemmas.Bool.{cases_Bool}
use Rattle.std.proofs.lemmas.Bool.Decides.{nat_tests}
use Rattle.std.proofs.lemmas.List.{length-append}
use Rattle.accounts.specs.Forgetting.{ForgetsJobs, IsGone, IsJobOver}
use Rattle.accounts.specs.Jobs.{is_open, job_at, settled, spent_for}
use Rattle.accounts.specs.Ledgers.{Finishes, Forgets, GrantsMore, HasBalance, HasJobs, Ledger, Takes, account_at, granted_to, past_of}
use Rattle.accounts.specs.Restoring.{AddsGone, OpensAccount, Recalls}
use Rattle.accounts.specs.declared.jobs.JobEntry.{JobEntry}
use Rattle.accounts.specs.declared.jobs.JobStanding.{JobStanding}
use Rattle.accounts.specs.declared.jobs.JobStanding.TheVariants.{Open, Reported, Failed}
use Rattle.credit_book.specs.declared.book.Report.{Report}
use Rattle.job_core.specs.Admission.{IsAdmittedFrom}
use Rattle.desk_journal.specs.AlikeDesks.{AreDesksAlike, AreEntriesAlike, AreOpenAlike, StandAlike}
use Rattle.desk_journal.specs.AlikeLemmas.{Split, accounts_alike, entries_self, open_self, open_too, stand_open, stand_self, zip_append, zip_get, zip_long, zip_none, zip_self, zip_set, zip_split}
use Rattle.desk_journal.specs.DeskSteps.{DeskState, EndsJob, IsWithout, Makes, MakesBytes, PutsBack}
use Rattle.desk_journal.specs.declared.change.DeskChange.{DeskChange}
use Rattle.desk_journal.specs.declared.change.DeskChange.TheVariants.{Granted, Submitted, Finished, Failed as Fails, Forgotten, AccountOpened, JobsSkipped, ReportKept, FailureKept}
use Rattle.desk_journal.specs.declared.journaled_desk.OpenJob.{OpenJob}

abbrev ledger : List (List ℕ × ℕ) → List (List ℕ × ℕ) → List JobEntry → Ledger
ledger grants past jobs = record { grants = grants; past = past; jobs = jobs }

abbrev desk_state : Ledger → List OpenJob → DeskState
desk_state desk held = record { desk = desk; held = held }

-- ---- jobs that are forgotten

-- Of two lists that are alike, the first of which was forgotten: the second is.
abbrev also_forgotten : ℕ → List JobEntry → List JobEntry → List JobEntry
also_forgotten ahead [] new = []
also_forgotten zero (e ∷ old) new = e ∷ old
also_forgotten (suc ahead) (e ∷ old) [] = e ∷ also_forgotten ahead old []
also_forgotten (suc ahead) (e ∷ old) (x ∷ new) = cond (is_open e.standing) e x ∷ also_forgotten ahead old new

rest_forgotten : (ahead : ℕ) (e x : JobEntry) (old new : List JobEntry) → ForgetsJobs (e ∷ old) (suc ahead) (x ∷ new) → ForgetsJobs old ahead new
rest_forgotten ahead e x old new f = record {
  count = let long = f.count in omega (arith, long);
  gone = λ i entry lt at over. f.gone (suc i) entry (omega (arith, lt)) at over;
  same = λ i entry at why. f.same (suc i) entry at (elim why [ inl le ↦ inl (omega (arith, le)) | inr is ↦ inr is ]);
}

-- all stay
all_stay : (old new : List JobEntry) → ForgetsJobs old zero new → (k : ℕ) (e : JobEntry) → slice_get old k ≡ Some e → slice_get new k ≡ Some e
all_stay old new f k e at = f.same k e at (inl (omega arith))

zip_pointwise : (xs ys zs : List JobEntry) → AllZip AreEntriesAlike xs ys → length zs ≡ length xs → ((k : ℕ) (e : JobEntry) → slice_get xs k ≡ Some e → slice_get zs k ≡ Some e) → AllZip AreEntriesAlike zs ys
zip_pointwise [] [] [] a long each = tt
zip_pointwise [] [] (z ∷ zs) a long each = absurd (omega (arith, long))
zip_pointwise [] (y ∷ ys) zs a long each = absurd a
zip_pointwise (x ∷ xs) [] zs a long each = absurd a
zip_pointwise (x ∷ xs) (y ∷ ys) [] a long each = absurd (omega (arith, long))
zip_pointwise (x ∷ xs) (y ∷ ys) (z ∷ zs) a long each =
    let same : z ≡ x = ap (λ o. unwrap_or o z) (each zero x refl) in
    (subst (λ (w : JobEntry). AreEntriesAlike w y) (sym same) a.0, zip_pointwise xs ys zs a.1 (omega (arith, long)) (λ k e at. each (suc k) e at))

record AlsoForgotten (ahead : ℕ) (new second third : List JobEntry) : Type 0 where
  forgets : ForgetsJobs second ahead third
  alike : AllZip AreEntriesAlike new third

-- the first one more
first_forgotten : (ahead : ℕ) (e y x : JobEntry) (old second new : List JobEntry) → AreEntriesAlike e y → ForgetsJobs (e ∷ old) (suc ahead) (x ∷ new)
    → AlsoForgotten ahead new second (also_forgotten ahead second new) → AlsoForgotten (suc ahead) (x ∷ new) (y ∷ second) (also_forgotten (suc ahead) (y ∷ second) (x ∷ new))
first_forgotten ahead e y x old second new first_alike f rest = by (is_open y.standing) refl
  where
    opened : is_open e.standing ≡ is_open y.standing
    opened = stand_open e.standing y.standing first_alike.standing

    -- the first one, and the rest
    with_first : (z : JobEntry) → AreEntriesAlike x z → (IsJobOver y → IsGone z) → (is_open y.standing ≡ true → z ≡ y) → AlsoForgotten (suc ahead) (x ∷ new) (y ∷ second) (z ∷ also_forgotten ahead second new)
    with_first z alike gone same = record { forgets = record { count = ap suc rest.forgets.count; gone = gone_there; same = same_there }; alike = (alike, rest.alike) }
      where
        gone_there : (i : ℕ) (entry : JobEntry) → i < suc ahead → slice_get (y ∷ second) i ≡ Some entry → IsJobOver entry
            → (w : JobEntry) × (slice_get (z ∷ also_forgotten ahead second new) i ≡ Some w) × IsGone w
        gone_there zero entry lt at over = (z, refl, gone (ap (λ (w : JobEntry). is_open w.standing) (ap (λ o. unwrap_or o y) at) ∙ over))
        gone_there (suc i) entry lt at over = rest.forgets.gone i entry (omega (arith, lt)) at over

        same_there : (i : ℕ) (entry : JobEntry) → slice_get (y ∷ second) i ≡ Some entry → (suc ahead ≤ i) ⊎ (is_open entry.standing ≡ true) → slice_get (z ∷ also_forgotten ahead second new) i ≡ Some entry
        same_there zero entry at (inl le) = absurd (omega (arith, le))
        same_there zero entry at (inr is) =
            let first : y ≡ entry = ap (λ o. unwrap_or o y) at in
            ap Some (same (ap (λ (w : JobEntry). is_open w.standing) first ∙ is) ∙ first)
        same_there (suc i) entry at (inl le) = rest.forgets.same i entry at (inl (omega (arith, le)))
        same_there (suc i) entry at (inr is) = rest.forgets.same i entry at (inr is)

    by : (b : Bool) → is_open y.standing ≡ b → AlsoForgotten (suc ahead) (x ∷ new) (y ∷ second) (cond b y x ∷ also_forgotten ahead second new)
    by true is =
        let stays : x ≡ e = ap (λ o. unwrap_or o x) (f.same zero e refl (inr (opened ∙ is))) in
        with_first y (subst (λ (w : JobEntry). AreEntriesAlike w y) (sym stays) first_alike) (λ over. let clash : true ≡ false = sym is ∙ over in absurd cc) (λ same. refl)
    by false is =
        let t = f.gone zero e (omega arith) refl (opened ∙ is) in
        let first : x ≡ t.0 = ap (λ o. unwrap_or o x) t.1 in
        with_first x (entries_self x) (λ over. subst IsGone (sym first) t.2) (λ same. let clash : true ≡ false = sym same ∙ is in absurd cc)

forgotten_alike : (ahead : ℕ) (old second new : List JobEntry) → AllZip AreEntriesAlike old second → ForgetsJobs old ahead new → AlsoForgotten ahead new second (also_forgotten ahead second new)
forgotten_alike ahead [] [] [] a f = record { forgets = record { count = refl; gone = λ i e lt at over. absurd cc; same = λ i e at why. absurd cc }; alike = tt }
forgotten_alike ahead [] [] (x ∷ new) a f = absurd (let long = f.count in omega (arith, long))
forgotten_alike ahead [] (y ∷ second) new a f = absurd a
forgotten_alike ahead (e ∷ old) [] new a f = absurd a
forgotten_alike ahead (e ∷ old) (y ∷ second) [] a f = absurd (let long = f.count in omega (arith, long))
forgotten_alike zero (e ∷ old) (y ∷ second) (x ∷ new) a f = record {
  forgets = record {
    count = refl;
    gone = λ i entry lt at over. absurd (omega (arith, lt));
    same = λ i entry at why. at;
  };
  alike = zip_pointwise (e ∷ old) (y ∷ second) (x ∷ new) a f.count (all_stay (e ∷ old) (x ∷ new) f);
}
forgotten_alike (suc ahead) (e ∷ old) (y ∷ second) (x ∷ new) a f =
    first_forgotten ahead e y x old second new a.0 f (forgotten_alike ahead old second new a.1 (rest_forgotten ahead e x old new f))

-- ---- each form of a change

updated_alike : (f g : List ℕ → Option ℕ) (name : List ℕ) (w v : Option ℕ) (q : List ℕ) → f q ≡ g q → w ≡ v → update bytes_eq f name w q ≡ update bytes_eq g name v q
updated_alike f g name w v q same value = ap (λ (x : Option ℕ). cond (bytes_eq name q) x (f q)) value ∙ ap (λ (x : Option ℕ). cond (bytes_eq name q) v x) same

entry_at_place : (jobs : List JobEntry) (number : ℕ) (entry : JobEntry) → job_at jobs number ≡ Some entry → (slice_get jobs (number - 1) ≡ Some entry) × ((other : List JobEntry) (x : JobEntry) → slice_get other (number - 1) ≡ Some x → job_at other number ≡ Some x)
entry_at_place jobs number entry at = by (nat_eq number 0) at
  where
    by : (b : Bool) → if◌then◌else◌ {A = Option JobEntry} b None (slice_get jobs (number - 1)) ≡ Some entry
        → (slice_get jobs (number - 1) ≡ Some entry) × ((other : List JobEntry) (x : JobEntry) → slice_get other (number - 1) ≡ Some x → if◌then◌else◌ {A = Option JobEntry} b None (slice_get other (number - 1)) ≡ Some x)
    by true here = absurd cc
    by false here = (here, λ other x there. there)

module _ (s t u : DeskState) (are : AreDesksAlike s t) where
  -- a step of the other desk, to one that is alike
  abbrev Twin : DeskChange → Type 0
  Twin change = (v : DeskState) × Makes change t v × AreDesksAlike u v

  same_balance : (name : List ℕ) (balance : ℕ) → HasBalance s.desk name balance → HasBalance t.desk name balance
  same_balance name balance had = record {
    account = had.account;
    is = sym (accounts_alike s.desk t.desk name (are.grants name) (are.past name) are.jobs) ∙ had.is;
    same = had.same;
  }

  grant_alike : (name : List ℕ) (amount : ℕ) → GrantsMore s.desk name amount u.desk → u.held ≡ s.held
      → (v : DeskState) × (GrantsMore t.desk name amount v.desk × (v.held ≡ t.held)) × AreDesksAlike u v
  grant_alike name amount grants held =
      let v = desk_state (ledger u.desk.grants t.desk.past t.desk.jobs) t.held in (
        v,
        (
          record {
            grants = λ q. grants.grants q ∙ updated_alike (granted_to s.desk) (granted_to t.desk) name (Some (unwrap_or (granted_to s.desk name) 0 + amount)) (Some (unwrap_or (granted_to t.desk name) 0 + amount)) q (are.grants q)
                (ap (λ (o : Option ℕ). Some (unwrap_or o 0 + amount)) (are.grants name));
            past = λ q. refl;
            jobs = refl;
          },
          refl,
        ),
        record {
          grants = λ q. refl;
          past = λ q. grants.past q ∙ are.past q;
          jobs = subst (λ (js : List JobEntry). AllZip AreEntriesAlike js t.desk.jobs) (sym grants.jobs) are.jobs;
          held = subst (λ (h : List OpenJob). AllZip AreOpenAlike h t.held) (sym held) are.held;
        },
      )

  -- entries come behind, and nothing else changes but the past
  behind_alike : (more : List JobEntry) (past : List (List ℕ × ℕ)) (held : List OpenJob) → u.desk.jobs ≡ s.desk.jobs ++ more → ((q : List ℕ) → granted_to u.desk q ≡ granted_to s.desk q)
      → ((q : List ℕ) → past_of u.desk q ≡ past_of (ledger t.desk.grants past (t.desk.jobs ++ more)) q) → AllZip AreOpenAlike u.held held → AreDesksAlike u (desk_state (ledger t.desk.grants past (t.desk.jobs ++ more)) held)
  behind_alike more past held jobs grants same_past same_held = record {
    grants = λ q. grants q ∙ are.grants q;
    past = same_past;
    jobs = subst (λ (js : List JobEntry). AllZip AreEntriesAlike js (t.desk.jobs ++ more)) (sym jobs) (zip_append AreEntriesAlike s.desk.jobs t.desk.jobs more more are.jobs (zip_self AreEntriesAlike entries_self more));
    held = same_held;
  }

  submit_alike : (name : List ℕ) (credit : ℕ) (taken : OpenJob) → Takes s.desk name credit u.desk → taken.number ≡ length u.desk.jobs → u.held ≡ s.held ++ taken ∷ []
      → (v : DeskState) × (Takes t.desk name credit v.desk × (taken.number ≡ length v.desk.jobs) × (v.held ≡ t.held ++ taken ∷ [])) × AreDesksAlike u v
  submit_alike name credit taken takes numbered held =
      let more = takes.entry ∷ [] in
      let v = desk_state (ledger t.desk.grants t.desk.past (t.desk.jobs ++ more)) (t.held ++ taken ∷ []) in
      let same_held = subst (λ (h : List OpenJob). AllZip AreOpenAlike h (t.held ++ taken ∷ [])) (sym held) (zip_append AreOpenAlike s.held t.held (taken ∷ []) (taken ∷ []) are.held (open_self taken, tt)) in (
        v,
        (
          record {
            entry = takes.entry;
            tenant = takes.tenant;
            credited = takes.credited;
            opened = takes.opened;
            balance = takes.balance;
            had = same_balance name takes.balance takes.had;
            enough = takes.enough;
            jobs = record { grants = λ q. refl; past = λ q. refl; jobs = refl };
          },
          omega (arith, numbered, ap length takes.jobs.jobs, length-append s.desk.jobs more, length-append t.desk.jobs more, zip_long AreEntriesAlike s.desk.jobs t.desk.jobs are.jobs),
          refl,
        ),
        behind_alike more t.desk.past (t.held ++ taken ∷ []) takes.jobs.jobs takes.jobs.grants (λ q. takes.jobs.past q ∙ are.past q) same_held,
      )

  end_alike : (number : ℕ) (outcome : Result Report ℕ) → EndsJob number outcome s u → (v : DeskState) × EndsJob number outcome t v × AreDesksAlike u v
  end_alike number outcome ends = (v, (finishes, without_too), alike)
    where
      over : Finishes s.desk number outcome u.desk
      over = ends.0

      without : IsWithout number s.held u.held
      without = ends.1

      here : (slice_get s.desk.jobs (number - 1) ≡ Some over.entry) × ((other : List JobEntry) (x : JobEntry) → slice_get other (number - 1) ≡ Some x → job_at other number ≡ Some x)
      here = entry_at_place s.desk.jobs number over.entry over.was

      twin : (y : JobEntry) × (slice_get t.desk.jobs (number - 1) ≡ Some y) × AreEntriesAlike over.entry y
      twin = zip_get AreEntriesAlike s.desk.jobs t.desk.jobs (number - 1) over.entry are.jobs here.0

      parts : Split AreOpenAlike without.before without.gone without.after t.held
      parts = zip_split AreOpenAlike without.before without.gone without.after t.held (subst (λ (h : List OpenJob). AllZip AreOpenAlike h t.held) without.was are.held)

      changed : JobEntry
      changed = record twin.0 { standing = settled twin.0.credit outcome }

      v : DeskState
      v = desk_state (ledger t.desk.grants t.desk.past (slice_set t.desk.jobs (number - 1) changed)) (parts.front ++ parts.back)

      finishes : Finishes t.desk number outcome v.desk
      finishes = record {
        entry = twin.0;
        was = here.1 t.desk.jobs twin.0 twin.1;
        opened = open_too over.entry.standing twin.0.standing twin.2.standing over.opened;
        jobs = record { grants = λ q. refl; past = λ q. refl; jobs = refl };
      }

      without_too : IsWithout number t.held v.held
      without_too = record { before = parts.front; gone = parts.mid; after = parts.back; was = parts.is; numbered = sym parts.mids.number ∙ without.numbered; now = refl }

      now_alike : AreEntriesAlike (record over.entry { standing = settled over.entry.credit outcome }) changed
      now_alike = record {
        tenant = twin.2.tenant;
        credit = twin.2.credit;
        standing = subst (λ (c : ℕ). StandAlike (settled over.entry.credit outcome) (settled c outcome)) twin.2.credit (stand_self (settled over.entry.credit outcome));
      }

      alike : AreDesksAlike u v
      alike = record {
        grants = λ q. over.jobs.grants q ∙ are.grants q;
        past = λ q. over.jobs.past q ∙ are.past q;
        jobs = subst (λ (js : List JobEntry). AllZip AreEntriesAlike js v.desk.jobs) (sym over.jobs.jobs)
            (zip_set AreEntriesAlike s.desk.jobs t.desk.jobs (number - 1) (record over.entry { standing = settled over.entry.credit outcome }) changed are.jobs now_alike);
        held = subst (λ (h : List OpenJob). AllZip AreOpenAlike h v.held) (sym without.now) (zip_append AreOpenAlike without.before parts.front without.after parts.back parts.fronts parts.backs);
      }

  forget_alike : (ahead : ℕ) → Forgets s.desk ahead u.desk → u.held ≡ s.held → (v : DeskState) × (Forgets t.desk ahead v.desk × (v.held ≡ t.held)) × AreDesksAlike u v
  forget_alike ahead forgets held = (v, (record { jobs = also.forgets; grants = λ q. refl; accounts = accounts }, refl), alike)
    where
      third : List JobEntry
      third = also_forgotten ahead t.desk.jobs u.desk.jobs

      also : AlsoForgotten ahead u.desk.jobs t.desk.jobs third
      also = forgotten_alike ahead s.desk.jobs t.desk.jobs u.desk.jobs are.jobs forgets.jobs

      v : DeskState
      v = desk_state (ledger t.desk.grants u.desk.past third) t.held

      alike : AreDesksAlike u v
      alike = record {
        grants = λ q. forgets.grants q ∙ are.grants q;
        past = λ q. refl;
        jobs = also.alike;
        held = subst (λ (h : List OpenJob). AllZip AreOpenAlike h t.held) (sym held) are.held;
      }

      accounts : (q : List ℕ) → account_at v.desk q ≡ account_at t.desk q
      accounts q = sym (accounts_alike u.desk v.desk q (alike.grants q) (alike.past q) alike.jobs) ∙ (forgets.accounts q ∙ accounts_alike s.desk t.desk q (are.grants q) (are.past q) are.jobs)

  account_alike : (name : List ℕ) (granted spent : ℕ) → OpensAccount s.desk name granted spent u.desk → u.held ≡ s.held
      → (v : DeskState) × (OpensAccount t.desk name granted spent v.desk × (v.held ≡ t.held)) × AreDesksAlike u v
  account_alike name granted spent opens held =
      let v = desk_state (ledger u.desk.grants u.desk.past []) t.held in (
        v,
        (
          record {
            early = zip_none AreEntriesAlike s.desk.jobs t.desk.jobs are.jobs opens.early;
            fresh = sym (are.grants name) ∙ opens.fresh;
            within = opens.within;
            limit = opens.limit;
            grants = λ q. opens.grants q ∙ updated_alike (granted_to s.desk) (granted_to t.desk) name (Some granted) (Some granted) q (are.grants q) refl;
            past = λ q. opens.past q ∙ ap (λ (n : ℕ). cond (bytes_eq name q) spent n) (are.past q);
            jobs = refl;
          },
          refl,
        ),
        record {
          grants = λ q. refl;
          past = λ q. refl;
          jobs = subst (λ (js : List JobEntry). AllZip AreEntriesAlike js []) (sym opens.jobs) tt;
          held = subst (λ (h : List OpenJob). AllZip AreOpenAlike h t.held) (sym held) are.held;
        },
      )

  skip_alike : (count : ℕ) → AddsGone s.desk count u.desk → u.held ≡ s.held → (v : DeskState) × (AddsGone t.desk count v.desk × (v.held ≡ t.held)) × AreDesksAlike u v
  skip_alike count adds held =
      let v = desk_state (ledger t.desk.grants t.desk.past (t.desk.jobs ++ adds.gone)) t.held in (
        v,
        (record { gone = adds.gone; counted = adds.counted; are = adds.are; jobs = record { grants = λ q. refl; past = λ q. refl; jobs = refl } }, refl),
        behind_alike adds.gone t.desk.past t.held adds.jobs.jobs adds.jobs.grants (λ q. adds.jobs.past q ∙ are.past q) (subst (λ (h : List OpenJob). AllZip AreOpenAlike h t.held) (sym held) are.held),
      )

  back_alike : (name : List ℕ) (credit : ℕ) (standing : JobStanding) → PutsBack name credit standing s u → (v : DeskState) × PutsBack name credit standing t v × AreDesksAlike u v
  back_alike name credit standing back =
      let r = back.recalls in
      let v = desk_state (ledger t.desk.grants u.desk.past (t.desk.jobs ++ r.entry ∷ [])) t.held in (
        v,
        record {
          recalls = record {
            entry = r.entry;
            tenant = r.tenant;
            credited = r.credited;
            stands = r.stands;
            over = r.over;
            known = (r.known.0, sym (are.grants name) ∙ r.known.1);
            grants = λ q. refl;
            past = λ q. r.past q ∙ are.past q;
            jobs = refl;
          };
          narrow = back.narrow;
          held = refl;
        },
        behind_alike (r.entry ∷ []) u.desk.past t.held r.jobs r.grants (λ q. refl) (subst (λ (h : List OpenJob). AllZip AreOpenAlike h t.held) (sym back.held) are.held),
      )

  change_alike : (change : DeskChange) → Makes change s u → Twin change
  change_alike (Granted tenant amount) made = grant_alike tenant.items amount made.0 made.1
  change_alike (Submitted tenant programs credit buffer) made =
      let w = submit_alike tenant.items credit made.1.0 made.0 made.1.2 made.1.3 in
      (w.0, (w.1.0, (made.1.0, made.1.1, w.1.1, w.1.2)), w.2)
  change_alike (Finished number report) made =
      let w = end_alike number (Ok made.0) made.2 in
      (w.0, (made.0, made.1, w.1), w.2)
  change_alike (Fails number code) made = end_alike number (Err code) made
  change_alike (Forgotten ahead) made = forget_alike ahead made.0 made.1
  change_alike (AccountOpened tenant granted spent) made = account_alike tenant.items granted spent made.0 made.1
  change_alike (JobsSkipped count) made =
      let w = skip_alike count made.0 made.2 in
      (w.0, (w.1.0, made.1, w.1.1), w.2)
  change_alike (ReportKept tenant credit report) made =
      let w = back_alike tenant.items credit (Reported made.0) made.2 in
      (w.0, (made.0, made.1, w.1), w.2)
  change_alike (FailureKept tenant credit code) made = back_alike tenant.items credit (Failed code) made

pub alike_step : (s t u : DeskState) (change : List ℕ) → AreDesksAlike s t → MakesBytes s change u → (v : DeskState) × MakesBytes t change v × AreDesksAlike u v
alike_step s t u change are made =
    let w = change_alike s t u are made.0 made.2 in
    (w.0, (made.0, made.1, w.1), w.2)
