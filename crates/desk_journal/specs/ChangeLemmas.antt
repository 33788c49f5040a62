-- What stands behind a change's bytes.
use Rattle.std.proofs.Common.{Vec, Global, ◌≡◌, ◌≢◌, ◌≤◌, ◌<◌, ◌^◌, ℕ, List, [], ◌∷◌, ◌++◌, drop, length, sym, ap, arith}
use Rattle.std.proofs.lemmas.List.{length-append}
use Rattle.std.specs.Int.{w32, w64, to_le_bytes}
use Rattle.credit_book.specs.declared.book.Report.{Report}
use Rattle.job_core.specs.declared.admission.ProgramBytes.{ProgramBytes}
use Rattle.desk_journal.specs.Changes.{program_bytes, report_bytes}
use Rattle.desk_journal.specs.CodecLemmas.{OneRest, counted_rest, list_rest, pair_rest}
use Rattle.desk_journal.specs.DeskChanges.{body_bytes, change_bytes, tag_of}
use Rattle.desk_journal.specs.Encodings.{counted_bytes, list_bytes}
use Rattle.desk_journal.specs.NumberLemmas.{rest_behind_1, rest_behind_4, rest_behind_8}
use Rattle.desk_journal.specs.PartLemmas.{program_there, program_rest, report_rest}
use Rattle.desk_journal.specs.declared.change.DeskChange.{DeskChange}
use Rattle.desk_journal.specs.declared.change.DeskChange.TheVariants.{Granted, Submitted, Finished, Failed, Forgotten, AccountOpened, JobsSkipped, ReportKept, FailureKept}

-- what stands behind a job's programs, credit and buffer
order_rest : OneRest (λ (t : List ProgramBytes × (ℕ × List ℕ)). list_bytes program_bytes t.0 ++ (to_le_bytes w32 t.1.0 ++ counted_bytes t.1.1))
order_rest t u r s =
    pair_rest (λ (l : List ProgramBytes). list_bytes program_bytes l) (λ (p : ℕ × List ℕ). to_le_bytes w32 p.0 ++ counted_bytes p.1) (list_rest program_bytes program_there program_rest)
    (λ p q x y. pair_rest (λ (n : ℕ). to_le_bytes w32 n) (λ (l : List ℕ). counted_bytes l) (λ a b v w few is. rest_behind_4 a b v w is) counted_rest p.0 p.1 q.0 q.1 x y) t.0 t.1 u.0 u.1 r s

-- what stands behind two numbers
numbers_rest : OneRest (λ (t : ℕ × ℕ). to_le_bytes w64 t.0 ++ to_le_bytes w64 t.1)
numbers_rest t u r s = pair_rest (λ (n : ℕ). to_le_bytes w64 n) (λ (n : ℕ). to_le_bytes w64 n) (λ a b x y few is. rest_behind_8 a b x y is) (λ a b x y few is. rest_behind_8 a b x y is) t.0 t.1 u.0 u.1 r s

-- what stands behind a credit and a report, or a credit and a code
credit_report_rest : OneRest (λ (t : ℕ × Report). to_le_bytes w32 t.0 ++ report_bytes t.1)
credit_report_rest t u r s = pair_rest (λ (n : ℕ). to_le_bytes w32 n) report_bytes (λ a b x y few is. rest_behind_4 a b x y is) report_rest t.0 t.1 u.0 u.1 r s

credit_code_rest : OneRest (λ (t : ℕ × ℕ). to_le_bytes w32 t.0 ++ (t.1 ∷ []))
credit_code_rest t u r s = pair_rest (λ (n : ℕ). to_le_bytes w32 n) (λ (n : ℕ). n ∷ []) (λ a b x y few is. rest_behind_4 a b x y is) (λ a b x y few is. rest_behind_1 a b x y is) t.0 t.1 u.0 u.1 r s

-- ---- the form that a tag names

pub if_granted : (P : DeskChange → Type 0) (c : DeskChange) → tag_of c ≡ 1 → ((tenant : Vec ℕ Global) (amount : ℕ) → P (Granted tenant amount)) → P c
if_granted P (Granted tenant amount) tag it = it tenant amount
if_granted P (Submitted tenant programs credit buffer) tag it = absurd (omega (arith, tag))
if_granted P (Finished job report) tag it = absurd (omega (arith, tag))
if_granted P (Failed job code) tag it = absurd (omega (arith, tag))
if_granted P (Forgotten ahead) tag it = absurd (omega (arith, tag))
if_granted P (AccountOpened tenant granted spent) tag it = absurd (omega (arith, tag))
if_granted P (JobsSkipped count) tag it = absurd (omega (arith, tag))
if_granted P (ReportKept tenant credit report) tag it = absurd (omega (arith, tag))
if_granted P (FailureKept tenant credit code) tag it = absurd (omega (arith, tag))

pub if_submitted : (P : DeskChange → Type 0) (c : DeskChange) → tag_of c ≡ 2 → ((tenant : Vec ℕ Global) (programs : Vec ProgramBytes Global) (credit : ℕ) (buffer : Vec ℕ Global) → P (Submitted tenant programs credit buffer)) → P c
if_submitted P (Granted tenant amount) tag it = absurd (omega (arith, tag))
if_submitted P (Submitted tenant programs credit buffer) tag it = it tenant programs credit buffer
if_submitted P (Finished job report) tag it = absurd (omega (arith, tag))
if_submitted P (Failed job code) tag it = absurd (omega (arith, tag))
if_submitted P (Forgotten ahead) tag it = absurd (omega (arith, tag))
if_submitted P (AccountOpened tenant granted spent) tag it = absurd (omega (arith, tag))
if_submitted P (JobsSkipped count) tag it = absurd (omega (arith, tag))
if_submitted P (ReportKept tenant credit report) tag it = absurd (omega (arith, tag))
if_submitted P (FailureKept tenant credit code) tag it = absurd (omega (arith, tag))

pub if_finished : (P : DeskChange → Type 0) (c : DeskChange) → tag_of c ≡ 3 → ((job : ℕ) (report : Report) → P (Finished job report)) → P c
if_finished P (Granted tenant amount) tag it = absurd (omega (arith, tag))
if_finished P (Submitted tenant programs credit buffer) tag it = absurd (omega (arith, tag))
if_finished P (Finished job report) tag it = it job report
if_finished P (Failed job code) tag it = absurd (omega (arith, tag))
if_finished P (Forgotten ahead) tag it = absurd (omega (arith, tag))
if_finished P (AccountOpened tenant granted spent) tag it = absurd (omega (arith, tag))
if_finished P (JobsSkipped count) tag it = absurd (omega (arith, tag))
if_finished P (ReportKept tenant credit report) tag it = absurd (omega (arith, tag))
if_finished P (FailureKept tenant credit code) tag it = absurd (omega (arith, tag))

pub if_failed : (P : DeskChange → Type 0) (c : DeskChange) → tag_of c ≡ 4 → ((job : ℕ) (code : ℕ) → P (Failed job code)) → P c
if_failed P (Granted tenant amount) tag it = absurd (omega (arith, tag))
if_failed P (Submitted tenant programs credit buffer) tag it = absurd (omega (arith, tag))
if_failed P (Finished job report) tag it = absurd (omega (arith, tag))
if_failed P (Failed job code) tag it = it job code
if_failed P (Forgotten ahead) tag it = absurd (omega (arith, tag))
if_failed P (AccountOpened tenant granted spent) tag it = absurd (omega (arith, tag))
if_failed P (JobsSkipped count) tag it = absurd (omega (arith, tag))
if_failed P (ReportKept tenant credit report) tag it = absurd (omega (arith, tag))
if_failed P (FailureKept tenant credit code) tag it = absurd (omega (arith, tag))

pub if_forgotten : (P : DeskChange → Type 0) (c : DeskChange) → tag_of c ≡ 6 → ((ahead : ℕ) → P (Forgotten ahead)) → P c
if_forgotten P (Granted tenant amount) tag it = absurd (omega (arith, tag))
if_forgotten P (Submitted tenant programs credit buffer) tag it = absurd (omega (arith, tag))
if_forgotten P (Finished job report) tag it = absurd (omega (arith, tag))
if_forgotten P (Failed job code) tag it = absurd (omega (arith, tag))
if_forgotten P (Forgotten ahead) tag it = it ahead
if_forgotten P (AccountOpened tenant granted spent) tag it = absurd (omega (arith, tag))
if_forgotten P (JobsSkipped count) tag it = absurd (omega (arith, tag))
if_forgotten P (ReportKept tenant credit report) tag it = absurd (omega (arith, tag))
if_forgotten P (FailureKept tenant credit code) tag it = absurd (omega (arith, tag))

pub if_account_opened : (P : DeskChange → Type 0) (c : DeskChange) → tag_of c ≡ 7 → ((tenant : Vec ℕ Global) (granted : ℕ) (spent : ℕ) → P (AccountOpened tenant granted spent)) → P c
if_account_opened P (Granted tenant amount) tag it = absurd (omega (arith, tag))
if_account_opened P (Submitted tenant programs credit buffer) tag it = absurd (omega (arith, tag))
if_account_opened P (Finished job report) tag it = absurd (omega (arith, tag))
if_account_opened P (Failed job code) tag it = absurd (omega (arith, tag))
if_account_opened P (Forgotten ahead) tag it = absurd (omega (arith, tag))
if_account_opened P (AccountOpened tenant granted spent) tag it = it tenant granted spent
if_account_opened P (JobsSkipped count) tag it = absurd (omega (arith, tag))
if_account_opened P (ReportKept tenant credit report) tag it = absurd (omega (arith, tag))
if_account_opened P (FailureKept tenant credit code) tag it = absurd (omega (arith, tag))

pub if_jobs_skipped : (P : DeskChange → Type 0) (c : DeskChange) → tag_of c ≡ 8 → ((count : ℕ) → P (JobsSkipped count)) → P c
if_jobs_skipped P (Granted tenant amount) tag it = absurd (omega (arith, tag))
if_jobs_skipped P (Submitted tenant programs credit buffer) tag it = absurd (omega (arith, tag))
if_jobs_skipped P (Finished job report) tag it = absurd (omega (arith, tag))
if_jobs_skipped P (Failed job code) tag it = absurd (omega (arith, tag))
if_jobs_skipped P (Forgotten ahead) tag it = absurd (omega (arith, tag))
if_jobs_skipped P (AccountOpened tenant granted spent) tag it = absurd (omega (arith, tag))
if_jobs_skipped P (JobsSkipped count) tag it = it count
if_jobs_skipped P (ReportKept tenant credit report) tag it = absurd (omega (arith, tag))
if_jobs_skipped P (FailureKept tenant credit code) tag it = absurd (omega (arith, tag))

pub if_report_kept : (P : DeskChange → Type 0) (c : DeskChange) → tag_of c ≡ 9 → ((tenant : Vec ℕ Global) (credit : ℕ) (report : Report) → P (ReportKept tenant credit report)) → P c
if_report_kept P (Granted tenant amount) tag it = absurd (omega (arith, tag))
if_report_kept P (Submitted tenant programs credit buffer) tag it = absurd (omega (arith, tag))
if_report_kept P (Finished job report) tag it = absurd (omega (arith, tag))
if_report_kept P (Failed job code) tag it = absurd (omega (arith, tag))
if_report_kept P (Forgotten ahead) tag it = absurd (omega (arith, tag))
if_report_kept P (AccountOpened tenant granted spent) tag it = absurd (omega (arith, tag))
if_report_kept P (JobsSkipped count) tag it = absurd (omega (arith, tag))
if_report_kept P (ReportKept tenant credit report) tag it = it tenant credit report
if_report_kept P (FailureKept tenant credit code) tag it = absurd (omega (arith, tag))

pub if_failure_kept : (P : DeskChange → Type 0) (c : DeskChange) → tag_of c ≡ 10 → ((tenant : Vec ℕ Global) (credit : ℕ) (code : ℕ) → P (FailureKept tenant credit code)) → P c
if_failure_kept P (Granted tenant amount) tag it = absurd (omega (arith, tag))
if_failure_kept P (Submitted tenant programs credit buffer) tag it = absurd (omega (arith, tag))
if_failure_kept P (Finished job report) tag it = absurd (omega (arith, tag))
if_failure_kept P (Failed job code) tag it = absurd (omega (arith, tag))
if_failure_kept P (Forgotten ahead) tag it = absurd (omega (arith, tag))
if_failure_kept P (AccountOpened tenant granted spent) tag it = absurd (omega (arith, tag))
if_failure_kept P (JobsSkipped count) tag it = absurd (omega (arith, tag))
if_failure_kept P (ReportKept tenant credit report) tag it = absurd (omega (arith, tag))
if_failure_kept P (FailureKept tenant credit code) tag it = it tenant credit code

-- ---- what stands behind

body_rest : (v w : DeskChange) (r s : List ℕ) → tag_of v ≡ tag_of w → length (body_bytes v ++ r) < 2 ^ 64 → body_bytes v ++ r ≡ body_bytes w ++ s → r ≡ s
body_rest (Granted tenant1 amount1) w r s tags small same =
    if_granted (λ (d : DeskChange). body_bytes (Granted tenant1 amount1) ++ r ≡ body_bytes d ++ s → r ≡ s) w (sym tags) (λ tenant2 amount2 same. pair_rest (λ (l : List ℕ). counted_bytes l) (λ (n : ℕ). to_le_bytes w32 n) counted_rest (λ a b x y few is. rest_behind_4 a b x y is) tenant1.items amount1 tenant2.items amount2 r s small same) same
body_rest (Submitted tenant1 programs1 credit1 buffer1) w r s tags small same =
    if_submitted (λ (d : DeskChange). body_bytes (Submitted tenant1 programs1 credit1 buffer1) ++ r ≡ body_bytes d ++ s → r ≡ s) w (sym tags) (λ tenant2 programs2 credit2 buffer2 same. pair_rest (λ (l : List ℕ). counted_bytes l) (λ (t : List ProgramBytes × (ℕ × List ℕ)). list_bytes program_bytes t.0 ++ (to_le_bytes w32 t.1.0 ++ counted_bytes t.1.1)) counted_rest order_rest tenant1.items (programs1.items, (credit1, buffer1.items)) tenant2.items (programs2.items, (credit2, buffer2.items)) r s small same) same
body_rest (Finished job1 report1) w r s tags small same =
    if_finished (λ (d : DeskChange). body_bytes (Finished job1 report1) ++ r ≡ body_bytes d ++ s → r ≡ s) w (sym tags) (λ job2 report2 same. pair_rest (λ (n : ℕ). to_le_bytes w64 n) report_bytes (λ a b x y few is. rest_behind_8 a b x y is) report_rest job1 report1 job2 report2 r s small same) same
body_rest (Failed job1 code1) w r s tags small same =
    if_failed (λ (d : DeskChange). body_bytes (Failed job1 code1) ++ r ≡ body_bytes d ++ s → r ≡ s) w (sym tags) (λ job2 code2 same. pair_rest (λ (n : ℕ). to_le_bytes w64 n) (λ (n : ℕ). n ∷ []) (λ a b x y few is. rest_behind_8 a b x y is) (λ a b x y few is. rest_behind_1 a b x y is) job1 code1 job2 code2 r s small same) same
body_rest (Forgotten ahead1) w r s tags small same =
    if_forgotten (λ (d : DeskChange). body_bytes (Forgotten ahead1) ++ r ≡ body_bytes d ++ s → r ≡ s) w (sym tags) (λ ahead2 same. rest_behind_8 ahead1 ahead2 r s same) same
body_rest (AccountOpened tenant1 granted1 spent1) w r s tags small same =
    if_account_opened (λ (d : DeskChange). body_bytes (AccountOpened tenant1 granted1 spent1) ++ r ≡ body_bytes d ++ s → r ≡ s) w (sym tags) (λ tenant2 granted2 spent2 same. pair_rest (λ (l : List ℕ). counted_bytes l) (λ (t : ℕ × ℕ). to_le_bytes w64 t.0 ++ to_le_bytes w64 t.1) counted_rest numbers_rest tenant1.items (granted1, spent1) tenant2.items (granted2, spent2) r s small same) same
body_rest (JobsSkipped count1) w r s tags small same =
    if_jobs_skipped (λ (d : DeskChange). body_bytes (JobsSkipped count1) ++ r ≡ body_bytes d ++ s → r ≡ s) w (sym tags) (λ count2 same. rest_behind_8 count1 count2 r s same) same
body_rest (ReportKept tenant1 credit1 report1) w r s tags small same =
    if_report_kept (λ (d : DeskChange). body_bytes (ReportKept tenant1 credit1 report1) ++ r ≡ body_bytes d ++ s → r ≡ s) w (sym tags) (λ tenant2 credit2 report2 same. pair_rest (λ (l : List ℕ). counted_bytes l) (λ (t : ℕ × Report). to_le_bytes w32 t.0 ++ report_bytes t.1) counted_rest credit_report_rest tenant1.items (credit1, report1) tenant2.items (credit2, report2) r s small same) same
body_rest (FailureKept tenant1 credit1 code1) w r s tags small same =
    if_failure_kept (λ (d : DeskChange). body_bytes (FailureKept tenant1 credit1 code1) ++ r ≡ body_bytes d ++ s → r ≡ s) w (sym tags) (λ tenant2 credit2 code2 same. pair_rest (λ (l : List ℕ). counted_bytes l) (λ (t : ℕ × ℕ). to_le_bytes w32 t.0 ++ (t.1 ∷ [])) counted_rest credit_code_rest tenant1.items (credit1, code1) tenant2.items (credit2, code2) r s small same) same

pub change_there : (c : DeskChange) → 1 ≤ length (change_bytes c)
change_there c = omega (arith, length-append (tag_of c ∷ []) (body_bytes c))

head_is : (x y : ℕ) (xs ys : List ℕ) → x ∷ xs ≡ y ∷ ys → (x ≡ y) × (xs ≡ ys)
head_is x y xs ys same = (cc, ap (drop 1) same)

pub change_rest : OneRest change_bytes
change_rest v w r s small same =
    let t = head_is (tag_of v) (tag_of w) (body_bytes v ++ r) (body_bytes w ++ s) same in
    body_rest v w r s t.0 (omega (arith, small, length-append (change_bytes v) r, length-append (tag_of v ∷ []) (body_bytes v), length-append (body_bytes v) r)) t.1

-- each form has one of these numbers
pub known_tag : (c : DeskChange) (n : ℕ) → tag_of c ≡ n → 1 ≤ n × n ≤ 10 × n ≢ 5
known_tag (Granted tenant amount) n is = (omega (arith, is), omega (arith, is), λ other. omega (arith, is, other))
known_tag (Submitted tenant programs credit buffer) n is = (omega (arith, is), omega (arith, is), λ other. omega (arith, is, other))
known_tag (Finished job report) n is = (omega (arith, is), omega (arith, is), λ other. omega (arith, is, other))
known_tag (Failed job code) n is = (omega (arith, is), omega (arith, is), λ other. omega (arith, is, other))
known_tag (Forgotten ahead) n is = (omega (arith, is), omega (arith, is), λ other. omega (arith, is, other))
known_tag (AccountOpened tenant granted spent) n is = (omega (arith, is), omega (arith, is), λ other. omega (arith, is, other))
known_tag (JobsSkipped count) n is = (omega (arith, is), omega (arith, is), λ other. omega (arith, is, other))
known_tag (ReportKept tenant credit report) n is = (omega (arith, is), omega (arith, is), λ other. omega (arith, is, other))
known_tag (FailureKept tenant credit code) n is = (omega (arith, is), omega (arith, is), λ other. omega (arith, is, other))
