-- Changes of the same bytes are the same, as far as a desk tells.
use Rattle.std.proofs.Common.{◌≡◌, ◌⊎◌, ◌+◌, ◌≤◌, ◌<◌, ◌^◌, ℕ, zero, suc, Vec, Global, List, [], ◌∷◌, ◌++◌, append_assoc, take, drop, length, slice_get, Some, Ok, refl, sym, ap, subst, ◌∙◌, arith}
use Rattle.std.specs.Prelude.{string_bytes}
use Rattle.std.specs.List.{AllZip}
use Rattle.std.specs.Int.{w32, w64, to_le_bytes, from_le_bytes}
use Rattle.std.proofs.lemmas.List.{append-nil, drop_at, length-append, take_at}
use Rattle.std.proofs.lemmas.Nat.{from_le_bytes-to_le_bytes_4}
use Rattle.accounts.specs.Ledgers.{Takes, most_granted}
use Rattle.accounts.specs.Restoring.{AddsGone, OpensAccount}
use Rattle.accounts.specs.declared.jobs.JobEntry.{JobEntry}
use Rattle.accounts.specs.declared.jobs.JobStanding.TheVariants.{Reported, Failed}
use Rattle.credit_book.specs.declared.book.Report.{Report}
use Rattle.journal.specs.Records.{FitsRecord}
use Rattle.job_core.specs.Admission.{AreAccepted, IsAdmittedFrom}
use Rattle.job_core.specs.Admitted.{AdmittedJob}
use Rattle.job_core.specs.declared.admission.ProgramBytes.{ProgramBytes}
use Rattle.verifier.specs.Checked.{Checked}
use Rattle.desk_journal.specs.AlikeDesks.{AreJobsAlike, AreProgramsAlike, AreReportsAlike}
use Rattle.desk_journal.specs.ChangeLemmas.{if_account_opened, if_failure_kept, if_jobs_skipped, if_report_kept, if_submitted}
use Rattle.desk_journal.specs.Changes.{program_bytes, report_bytes, task_bytes}
use Rattle.desk_journal.specs.CodecLemmas.{count_within, counted_rest, same_count}
use Rattle.desk_journal.specs.DeskChanges.{body_bytes, change_bytes, tag_of}
use Rattle.desk_journal.specs.DeskSteps.{DeskState, IsCopyOf, Makes, MakesBytes, PutsBack}
use Rattle.desk_journal.specs.Encodings.{bytes_of_all, counted_bytes, list_bytes}
use Rattle.desk_journal.specs.HeldJobs.{IsTakenBy}
use Rattle.desk_journal.specs.PartLemmas.{program_there}
use Rattle.desk_journal.specs.SnapshotChanges.{IsFailureChange, IsGoneChange, IsReportChange}
use Rattle.desk_journal.specs.declared.change.DeskChange.{DeskChange}
use Rattle.desk_journal.specs.declared.change.DeskChange.TheVariants.{Submitted, AccountOpened, JobsSkipped, ReportKept, FailureKept}
use Rattle.desk_journal.specs.declared.journaled_desk.OpenJob.{OpenJob}
use Rattle.desk_journal.proofs.ProgramAlike.{AreSamePrograms, program_alike}

-- ---- bytes

both_same : (x y : ℕ) (xs ys : List ℕ) → x ∷ xs ≡ y ∷ ys → (x ≡ y) × (xs ≡ ys)
both_same x y xs ys same = (cc, ap (drop 1) same)

counted_long : (v r : List ℕ) → length (counted_bytes v ++ r) ≡ 8 + (length v + length r)
counted_long v r = omega (arith, length-append (counted_bytes v) r, length-append (to_le_bytes w64 (length v)) v)

counted_same : (v w r s : List ℕ) → length (counted_bytes v ++ r) < 2 ^ 64 → counted_bytes v ++ r ≡ counted_bytes w ++ s → (v ≡ w) × (r ≡ s)
counted_same v w r s small same =
    let whole = ap length same in
    let split : to_le_bytes w64 (length v) ++ (v ++ r) ≡ to_le_bytes w64 (length w) ++ (w ++ s) = sym (append_assoc (to_le_bytes w64 (length v)) v r) ∙ (same ∙ append_assoc (to_le_bytes w64 (length w)) w s) in
    let t = same_count (length v) (length w) (v ++ r) (w ++ s) (omega (arith, small, counted_long v r)) (omega (arith, small, whole, counted_long v r, counted_long w s)) split in
    (sym (take_at v r (length v) refl) ∙ (ap (take (length v)) t.1 ∙ take_at w s (length v) (sym t.0)), counted_rest v w r s small same)

four_same : (m n : ℕ) (r s : List ℕ) → m < 2 ^ 32 → n < 2 ^ 32 → to_le_bytes w32 m ++ r ≡ to_le_bytes w32 n ++ s → (m ≡ n) × (r ≡ s)
four_same m n r s small_m small_n same =
    (sym (from_le_bytes-to_le_bytes_4 m small_m) ∙ (ap (λ l. from_le_bytes w32 (take 4 l)) same ∙ from_le_bytes-to_le_bytes_4 n small_n), ap (drop 4) same)

-- ---- programs

all_same : (ps qs : List ProgramBytes) (r s : List ℕ) → length ps ≡ length qs → length (bytes_of_all program_bytes ps ++ r) < 2 ^ 64 → bytes_of_all program_bytes ps ++ r ≡ bytes_of_all program_bytes qs ++ s
    → AllZip AreSamePrograms ps qs × (r ≡ s)
all_same [] [] r s many small same = (tt, same)
all_same [] (q ∷ qs) r s many small same = absurd (omega (arith, many))
all_same (p ∷ ps) [] r s many small same = absurd (omega (arith, many))
all_same (p ∷ ps) (q ∷ qs) r s many small same =
    let x = bytes_of_all program_bytes ps ++ r in
    let y = bytes_of_all program_bytes qs ++ s in
    let left : bytes_of_all program_bytes (p ∷ ps) ++ r ≡ to_le_bytes w32 p.need ++ (counted_bytes p.code.items ++ x) = append_assoc (program_bytes p) (bytes_of_all program_bytes ps) r ∙ append_assoc (to_le_bytes w32 p.need) (counted_bytes p.code.items) x in
    let right : bytes_of_all program_bytes (q ∷ qs) ++ s ≡ to_le_bytes w32 q.need ++ (counted_bytes q.code.items ++ y) = append_assoc (program_bytes q) (bytes_of_all program_bytes qs) s ∙ append_assoc (to_le_bytes w32 q.need) (counted_bytes q.code.items) y in
    let split = sym left ∙ (same ∙ right) in
    let need : to_le_bytes w32 p.need ≡ to_le_bytes w32 q.need = ap (take 4) split in
    let long = ap length left in
    let code = counted_same p.code.items q.code.items x y (omega (arith, small, long, length-append (to_le_bytes w32 p.need) (counted_bytes p.code.items ++ x))) (ap (drop 4) split) in
    let rest = all_same ps qs r s (omega (arith, many)) (omega (arith, small, long, length-append (to_le_bytes w32 p.need) (counted_bytes p.code.items ++ x), counted_long p.code.items x)) code.1 in
    (((need, code.0), rest.0), rest.1)

list_same : (ps qs : List ProgramBytes) (r s : List ℕ) → length (list_bytes program_bytes ps ++ r) < 2 ^ 64 → list_bytes program_bytes ps ++ r ≡ list_bytes program_bytes qs ++ s → AllZip AreSamePrograms ps qs × (r ≡ s)
list_same ps qs r s small same =
    let left = append_assoc (to_le_bytes w64 (length ps)) (bytes_of_all program_bytes ps) r in
    let right = append_assoc (to_le_bytes w64 (length qs)) (bytes_of_all program_bytes qs) s in
    let split : to_le_bytes w64 (length ps) ++ (bytes_of_all program_bytes ps ++ r) ≡ to_le_bytes w64 (length qs) ++ (bytes_of_all program_bytes qs ++ s) = sym left ∙ (same ∙ right) in
    let long = ap length left in
    let other = ap length right in
    let whole = ap length same in
    let few = count_within program_bytes program_there ps in
    let few_too = count_within program_bytes program_there qs in
    let t = same_count (length ps) (length qs) (bytes_of_all program_bytes ps ++ r) (bytes_of_all program_bytes qs ++ s)
    (omega (arith, small, long, few, length-append (to_le_bytes w64 (length ps)) (bytes_of_all program_bytes ps ++ r), length-append (bytes_of_all program_bytes ps) r))
    (omega (arith, small, whole, other, few_too, length-append (to_le_bytes w64 (length qs)) (bytes_of_all program_bytes qs ++ s), length-append (bytes_of_all program_bytes qs) s)) split in
    all_same ps qs r s t.0 (omega (arith, small, long, length-append (to_le_bytes w64 (length ps)) (bytes_of_all program_bytes ps ++ r))) t.1

rest_accepted : (p : ProgramBytes) (v : Checked) (ps : List ProgramBytes) (vs : List Checked) → AreAccepted (p ∷ ps) (v ∷ vs) → AreAccepted ps vs
rest_accepted p v ps vs a = record { count = let many = a.count in omega (arith, many); each = λ n q w at there. a.each (suc n) q w at there }

accepted_alike : (ps qs : List ProgramBytes) (vs ws : List Checked) → AllZip AreSamePrograms ps qs → AreAccepted ps vs → AreAccepted qs ws → AllZip AreProgramsAlike vs ws
accepted_alike [] [] [] [] same a b = tt
accepted_alike [] [] [] (w ∷ ws) same a b = absurd (let many = b.count in omega (arith, many))
accepted_alike [] [] (v ∷ vs) ws same a b = absurd (let many = a.count in omega (arith, many))
accepted_alike [] (q ∷ qs) vs ws same a b = absurd same
accepted_alike (p ∷ ps) [] vs ws same a b = absurd same
accepted_alike (p ∷ ps) (q ∷ qs) [] ws same a b = absurd (let many = a.count in omega (arith, many))
accepted_alike (p ∷ ps) (q ∷ qs) (v ∷ vs) [] same a b = absurd (let many = b.count in omega (arith, many))
accepted_alike (p ∷ ps) (q ∷ qs) (v ∷ vs) (w ∷ ws) same a b =
    (program_alike p q v w same.0 (a.each zero p v refl refl) (b.each zero q w refl refl), accepted_alike ps qs vs ws same.1 (rest_accepted p v ps vs a) (rest_accepted q w qs ws b))

admitted_alike : (ps qs : List ProgramBytes) (credit : ℕ) (a b : List ℕ) (x y : AdmittedJob) → AllZip AreSamePrograms ps qs → a ≡ b → IsAdmittedFrom ps credit a x → IsAdmittedFrom qs credit b y → AreJobsAlike x y
admitted_alike ps qs credit a b x y same buffers first second = record {
  programs = accepted_alike ps qs x.programs y.programs same first.accepted second.accepted;
  credit = first.same_credit ∙ sym second.same_credit;
  buffer = first.same_buffer ∙ (buffers ∙ sym second.same_buffer);
}

-- ---- changes

body_small : (change : DeskChange) (payload : List ℕ) → FitsRecord payload → payload ≡ change_bytes change → length (body_bytes change) < 2 ^ 64
body_small change payload fits is = let long = ap length is in omega (arith, fits, long, length-append (tag_of change ∷ []) (body_bytes change))

-- a run of gone jobs
pub gone_made : (gone : List JobEntry) (payload : List ℕ) (s t : DeskState) → IsGoneChange gone payload → MakesBytes s payload t → AddsGone s.desk (length gone) t.desk × (t.held ≡ s.held)
gone_made gone payload s t change made =
    let same = both_same (tag_of made.0) 8 (body_bytes made.0) (to_le_bytes w64 (length gone)) (made.1 ∙ change.is) in
    if_jobs_skipped (λ (c : DeskChange). body_bytes c ≡ to_le_bytes w64 (length gone) → Makes c s t → AddsGone s.desk (length gone) t.desk × (t.held ≡ s.held)) made.0 same.0 by same.1 made.2
  where
    by : (count : ℕ) → to_le_bytes w64 count ≡ to_le_bytes w64 (length gone) → Makes (JobsSkipped count) s t → AddsGone s.desk (length gone) t.desk × (t.held ≡ s.held)
    by count same m =
        let is = (same_count count (length gone) [] [] m.1 change.few (ap (λ (l : List ℕ). l ++ []) same)).0 in
        (subst (λ (n : ℕ). AddsGone s.desk n t.desk) is m.0, m.2)

-- an account
pub account_made : (tenant : Vec ℕ Global) (granted spent : ℕ) (payload : List ℕ) (s t : DeskState) → FitsRecord payload → spent ≤ granted → granted ≤ most_granted → payload ≡ change_bytes (AccountOpened tenant granted spent)
    → MakesBytes s payload t → OpensAccount s.desk tenant.items granted spent t.desk × (t.held ≡ s.held)
account_made tenant granted spent payload s t fits within limit is made =
    let same = both_same (tag_of made.0) 7 (body_bytes made.0) (body_bytes (AccountOpened tenant granted spent)) (made.1 ∙ is) in
    if_account_opened (λ (c : DeskChange). body_bytes c ≡ body_bytes (AccountOpened tenant granted spent) → Makes c s t → OpensAccount s.desk tenant.items granted spent t.desk × (t.held ≡ s.held)) made.0 same.0 by same.1 made.2
  where
    small : length (body_bytes (AccountOpened tenant granted spent)) < 2 ^ 64
    small = body_small (AccountOpened tenant granted spent) payload fits is

    by : (name : Vec ℕ Global) (sum cost : ℕ) → body_bytes (AccountOpened name sum cost) ≡ body_bytes (AccountOpened tenant granted spent) → Makes (AccountOpened name sum cost) s t
        → OpensAccount s.desk tenant.items granted spent t.desk × (t.held ≡ s.held)
    by name sum cost same m =
        let first = counted_same name.items tenant.items (to_le_bytes w64 sum ++ to_le_bytes w64 cost) (to_le_bytes w64 granted ++ to_le_bytes w64 spent) (omega (arith, small, ap length same)) same in
        let few = m.0.within in
        let most = m.0.limit in
        let sums = same_count sum granted (to_le_bytes w64 cost) (to_le_bytes w64 spent) (omega (arith, most)) (omega (arith, limit)) first.1 in
        let costs = (same_count cost spent [] [] (omega (arith, few, most)) (omega (arith, within, limit)) (ap (λ (l : List ℕ). l ++ []) sums.1)).0 in
        (subst (λ (p : List ℕ × ℕ × ℕ). OpensAccount s.desk p.0 p.1 p.2 t.desk) (λ k. (first.0 k, sums.0 k, costs k)) m.0, m.1)

reports_same : (copy report : Report) → copy.spent < 2 ^ 32 → copy.returned < 2 ^ 32 → report.spent < 2 ^ 32 → report.returned < 2 ^ 32 → report_bytes copy ≡ report_bytes report → AreReportsAlike copy report
reports_same copy report a b c d same =
    let spent = four_same copy.spent report.spent (to_le_bytes w32 copy.returned ++ (counted_bytes copy.buffer.items ++ list_bytes task_bytes copy.tasks.items)) (to_le_bytes w32 report.returned ++ (counted_bytes report.buffer.items ++ list_bytes task_bytes report.tasks.items)) a c same in
    let returned = four_same copy.returned report.returned (counted_bytes copy.buffer.items ++ list_bytes task_bytes copy.tasks.items) (counted_bytes report.buffer.items ++ list_bytes task_bytes report.tasks.items) b d spent.1 in
    record { spent = spent.0; returned = returned.0; bytes = same }

-- a job with a report
pub report_made : (entry : JobEntry) (payload : List ℕ) (s t : DeskState) → FitsRecord payload → (change : IsReportChange entry payload) → MakesBytes s payload t
    → (copy : Report) × AreReportsAlike copy change.report × PutsBack (string_bytes entry.tenant) entry.credit (Reported copy) s t
report_made entry payload s t fits change made =
    let whole = ReportKept change.tenant entry.credit change.report in
    let same = both_same (tag_of made.0) 9 (body_bytes made.0) (body_bytes whole) (made.1 ∙ change.is) in
    if_report_kept (λ (c : DeskChange). body_bytes c ≡ body_bytes whole → Makes c s t → Goal) made.0 same.0 by same.1 made.2
  where
    Goal : Type 0
    Goal = (copy : Report) × AreReportsAlike copy change.report × PutsBack (string_bytes entry.tenant) entry.credit (Reported copy) s t

    small : length (body_bytes (ReportKept change.tenant entry.credit change.report)) < 2 ^ 64
    small = body_small (ReportKept change.tenant entry.credit change.report) payload fits change.is

    by : (name : Vec ℕ Global) (credit : ℕ) (report : Report) → body_bytes (ReportKept name credit report) ≡ body_bytes (ReportKept change.tenant entry.credit change.report) → Makes (ReportKept name credit report) s t → Goal
    by name credit report same m =
        let first = counted_same name.items change.tenant.items (to_le_bytes w32 credit ++ report_bytes report) (to_le_bytes w32 entry.credit ++ report_bytes change.report) (omega (arith, small, ap length same)) same in
        let second = four_same credit entry.credit (report_bytes report) (report_bytes change.report) m.2.narrow change.credit first.1 in
        let named = first.0 ∙ change.same in (
          m.0,
          reports_same m.0 change.report m.1.spent m.1.returned change.spent change.returned (m.1.same ∙ second.1),
          subst (λ (p : List ℕ × ℕ). PutsBack p.0 p.1 (Reported m.0) s t) (λ k. (named k, second.0 k)) m.2,
        )

-- a job that failed
pub failure_made : (entry : JobEntry) (payload : List ℕ) (s t : DeskState) → FitsRecord payload → (change : IsFailureChange entry payload) → MakesBytes s payload t
    → PutsBack (string_bytes entry.tenant) entry.credit (Failed change.code) s t
failure_made entry payload s t fits change made =
    let whole = FailureKept change.tenant entry.credit change.code in
    let same = both_same (tag_of made.0) 10 (body_bytes made.0) (body_bytes whole) (made.1 ∙ change.is) in
    if_failure_kept (λ (c : DeskChange). body_bytes c ≡ body_bytes whole → Makes c s t → Goal) made.0 same.0 by same.1 made.2
  where
    Goal : Type 0
    Goal = PutsBack (string_bytes entry.tenant) entry.credit (Failed change.code) s t

    small : length (body_bytes (FailureKept change.tenant entry.credit change.code)) < 2 ^ 64
    small = body_small (FailureKept change.tenant entry.credit change.code) payload fits change.is

    by : (name : Vec ℕ Global) (credit : ℕ) (code : ℕ) → body_bytes (FailureKept name credit code) ≡ body_bytes (FailureKept change.tenant entry.credit change.code) → Makes (FailureKept name credit code) s t → Goal
    by name credit code same m =
        let first = counted_same name.items change.tenant.items (to_le_bytes w32 credit ++ (code ∷ [])) (to_le_bytes w32 entry.credit ++ (change.code ∷ [])) (omega (arith, small, ap length same)) same in
        let second = four_same credit entry.credit (code ∷ []) (change.code ∷ []) m.narrow change.credit first.1 in
        let third = both_same code change.code [] [] second.1 in
        let named = first.0 ∙ change.same in
        subst (λ (p : List ℕ × ℕ × ℕ). PutsBack p.0 p.1 (Failed p.2) s t) (λ k. (named k, second.0 k, third.0 k)) m

-- a job that was taken
pub record IsTakenAgain (entry : JobEntry) (job : OpenJob) (s t : DeskState) : Type 0 where
  pub takes : Takes s.desk (string_bytes entry.tenant) entry.credit t.desk
  pub taken : OpenJob
  pub number : taken.number ≡ length t.desk.jobs
  pub held : t.held ≡ s.held ++ taken ∷ []
  pub alike : AreJobsAlike taken.job job.job

pub source_made : (entry : JobEntry) (job : OpenJob) (source : List ℕ) (s t : DeskState) → FitsRecord source → IsTakenBy source entry job.job → MakesBytes s source t → IsTakenAgain entry job s t
source_made entry job source s t fits by_source made =
    let same = both_same (tag_of made.0) 2 (body_bytes made.0) (body_bytes whole) (made.1 ∙ by_source.is.is) in
    if_submitted (λ (c : DeskChange). body_bytes c ≡ body_bytes whole → Makes c s t → IsTakenAgain entry job s t) made.0 same.0 by same.1 made.2
  where
    whole : DeskChange
    whole = Submitted by_source.is.tenant_bytes by_source.is.program_list entry.credit by_source.is.buffer_bytes

    small : length (body_bytes whole) < 2 ^ 64
    small = body_small whole source fits by_source.is.is

    by : (name : Vec ℕ Global) (programs : Vec ProgramBytes Global) (credit : ℕ) (buffer : Vec ℕ Global) → body_bytes (Submitted name programs credit buffer) ≡ body_bytes whole → Makes (Submitted name programs credit buffer) s t → IsTakenAgain entry job s t
    by name programs credit buffer same m =
        let from = by_source.is in
        let behind = to_le_bytes w32 credit ++ counted_bytes buffer.items in
        let behind_too = to_le_bytes w32 entry.credit ++ counted_bytes from.buffer_bytes.items in
        let long = ap length same in
        let first = counted_same name.items from.tenant_bytes.items (list_bytes program_bytes programs.items ++ behind) (list_bytes program_bytes from.program_list.items ++ behind_too) (omega (arith, small, long)) same in
        let second = list_same programs.items from.program_list.items behind behind_too (omega (arith, small, long, counted_long name.items (list_bytes program_bytes programs.items ++ behind))) first.1 in
        let limit = m.1.1.limits.limit in
        let limit_too = by_source.admitted.limits.limit in
        let third = four_same credit entry.credit (counted_bytes buffer.items) (counted_bytes from.buffer_bytes.items) (omega (arith, limit)) (omega (arith, limit_too)) second.1 in
        let long_two = counted_long name.items (list_bytes program_bytes programs.items ++ behind) in
        let fourth = counted_same buffer.items from.buffer_bytes.items [] []
        (omega (arith, small, long, long_two, length-append (list_bytes program_bytes programs.items) behind, length-append (to_le_bytes w32 credit) (counted_bytes buffer.items), length-append (counted_bytes buffer.items) [])) (ap (λ (l : List ℕ). l ++ []) third.1) in
        let named = first.0 ∙ from.tenant in
        let admitted = subst (λ (c : ℕ). IsAdmittedFrom programs.items c buffer.items m.1.0.job) third.0 m.1.1 in
        let programs_same = subst (λ (ps : List ProgramBytes). AllZip AreSamePrograms programs.items ps) from.programs_are second.0 in
        record {
          takes = subst (λ (p : List ℕ × ℕ). Takes s.desk p.0 p.1 t.desk) (λ k. (named k, third.0 k)) m.0;
          taken = m.1.0;
          number = m.1.2;
          held = m.1.3;
          alike = admitted_alike programs.items by_source.programs entry.credit buffer.items by_source.buffer m.1.0.job job.job programs_same (fourth.0 ∙ from.buffer_is) admitted by_source.admitted;
        }
