-- A change of a desk as JSON.
use Rattle.std.specs.Prelude.{ℕ, List, map, codes, if◌then◌else◌}
use Rattle.std.specs.Str.{is_utf8}
use Rattle.hex.specs.Hex.{encode_lower}
use Rattle.serde_json.specs.Data.{Data, string, array, object, no_members, member}
use Rattle.credit_book.specs.declared.book.Report.{Report}
use Rattle.job_core.specs.declared.admission.ProgramBytes.{ProgramBytes}
use Rattle.sessions.specs.Replies.{items, task_data, whole}
use Rattle.desk_journal.specs.declared.change.DeskChange.{DeskChange}
use Rattle.desk_journal.specs.declared.change.DeskChange.TheVariants.{Granted, Submitted, Finished, Failed, Forgotten, AccountOpened, JobsSkipped, ReportKept, FailureKept}

-- bytes that are no text, in hexadecimal
abbrev pub bytes_data : List ℕ → Data
bytes_data bytes = object (member (codes "bytes") (string (encode_lower bytes)) no_members)

-- a tenant's name or a job's key, or bytes that no desk takes for one
abbrev pub name_data : List ℕ → Data
name_data name = if is_utf8 name then string name else bytes_data name

-- a program of a job
unfoldable pub submitted_program : ProgramBytes → Data
submitted_program p =
    object (member (codes "code") (string (encode_lower p.code.items))
    (member (codes "need") (whole p.need) no_members))

-- credit that a tenant was granted
unfoldable pub granted_data : ℕ → List ℕ → ℕ → Data
granted_data at tenant amount =
    object (member (codes "amount") (whole amount) (member (codes "at") (whole at)
    (member (codes "change") (string (codes "granted"))
    (member (codes "tenant") (name_data tenant) no_members))))

-- a job that was taken, by its number
unfoldable pub submitted_data : ℕ → ℕ → List ℕ → List ProgramBytes → ℕ → List ℕ → Data
submitted_data at job tenant programs credit buffer =
    object (member (codes "at") (whole at)
    (member (codes "buffer") (string (encode_lower buffer))
    (member (codes "change") (string (codes "submitted"))
    (member (codes "credit") (whole credit) (member (codes "job") (whole job)
    (member (codes "programs") (array (items (map submitted_program programs)))
    (member (codes "tenant") (name_data tenant) no_members)))))))

-- a job that came to a report
unfoldable pub finished_data : ℕ → ℕ → Report → Data
finished_data at job report =
    object (member (codes "at") (whole at)
    (member (codes "buffer") (string (encode_lower report.buffer.items))
    (member (codes "change") (string (codes "finished")) (member (codes "job") (whole job)
    (member (codes "returned") (whole report.returned)
    (member (codes "spent") (whole report.spent)
    (member (codes "tasks") (array (items (map task_data report.tasks.items))) no_members)))))))

-- a job that failed, by the number of its refusal
unfoldable pub failed_data : ℕ → ℕ → ℕ → Data
failed_data at job code =
    object (member (codes "at") (whole at) (member (codes "change") (string (codes "finished"))
    (member (codes "code") (whole code) (member (codes "job") (whole job) no_members))))

-- of the first so many jobs, those that are over were forgotten
unfoldable pub forgotten_data : ℕ → ℕ → Data
forgotten_data at ahead =
    object (member (codes "ahead") (whole ahead) (member (codes "at") (whole at)
    (member (codes "change") (string (codes "forgotten")) no_members)))

-- a tenant's account that is there again
unfoldable pub opened_data : ℕ → List ℕ → ℕ → ℕ → Data
opened_data at tenant granted spent =
    object (member (codes "at") (whole at)
    (member (codes "change") (string (codes "account_opened"))
    (member (codes "granted") (whole granted) (member (codes "spent") (whole spent)
    (member (codes "tenant") (name_data tenant) no_members)))))

-- so many forgotten jobs
unfoldable pub skipped_data : ℕ → ℕ → Data
skipped_data at count =
    object (member (codes "at") (whole at)
    (member (codes "change") (string (codes "jobs_skipped"))
    (member (codes "count") (whole count) no_members)))

-- a report's sums, its buffer and its tasks
unfoldable pub kept_data : Report → Data
kept_data report =
    object (member (codes "buffer") (string (encode_lower report.buffer.items))
    (member (codes "returned") (whole report.returned)
    (member (codes "spent") (whole report.spent)
    (member (codes "tasks") (array (items (map task_data report.tasks.items))) no_members))))

-- a job that is there again with its report, by its number
unfoldable pub kept_report_data : ℕ → ℕ → List ℕ → ℕ → Report → Data
kept_report_data at job tenant credit report =
    object (member (codes "at") (whole at)
    (member (codes "change") (string (codes "report_kept"))
    (member (codes "credit") (whole credit) (member (codes "job") (whole job)
    (member (codes "report") (kept_data report)
    (member (codes "tenant") (name_data tenant) no_members))))))

-- a job that failed and is there again, by its number
unfoldable pub kept_failure_data : ℕ → ℕ → List ℕ → ℕ → ℕ → Data
kept_failure_data at job tenant credit code =
    object (member (codes "at") (whole at)
    (member (codes "change") (string (codes "failure_kept"))
    (member (codes "code") (whole code) (member (codes "credit") (whole credit)
    (member (codes "job") (whole job) (member (codes "tenant") (name_data tenant) no_members))))))

-- a change whose record begins at this byte; a job that it takes gets this number
abbrev pub change_data : ℕ → ℕ → DeskChange → Data
change_data at number (Granted tenant amount) = granted_data at tenant.items amount
change_data at number (Submitted tenant programs credit buffer) =
    submitted_data at number tenant.items programs.items credit buffer.items
change_data at number (Finished job report) = finished_data at job report
change_data at number (Failed job code) = failed_data at job code
change_data at number (Forgotten ahead) = forgotten_data at ahead
change_data at number (AccountOpened tenant granted spent) =
    opened_data at tenant.items granted spent
change_data at number (JobsSkipped count) = skipped_data at count
change_data at number (ReportKept tenant credit report) =
    kept_report_data at number tenant.items credit report
change_data at number (FailureKept tenant credit code) =
    kept_failure_data at number tenant.items credit code
