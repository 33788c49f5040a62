-- A request to a server as JSON, and the status by its reply.
use Rattle.std.specs.Prelude.{◌≡◌, ℕ, Bool, false, List, map, codes, if◌then◌else◌, Option, Some, None, Ok, Err, option_and_then, option_map, string_bytes}
use Rattle.hex.specs.Hex.{encode_lower}
use Rattle.serde_json.specs.Data.{Data, Members, string, array, object, no_members, member}
use Rattle.serde_json.specs.Find.{as_bool, get}
use Rattle.job_core.specs.declared.admission.ProgramBytes.{ProgramBytes}
use Rattle.sessions.specs.Answers.{ObjectAnswer}
use Rattle.sessions.specs.Grammar.{ReadsJson}
use Rattle.sessions.specs.Replies.{items, key_ahead, whole}
use Rattle.sessions.specs.declared.fault.SessionFault.{SessionFault}
use Rattle.sessions.specs.declared.fault.SessionFault.TheVariants.{NoMemory}
use Rattle.sessions.specs.declared.request.JobObject.{JobObject}
use Rattle.bpfjobs_cli.specs.declared.ask.ServerQuestion.{ServerQuestion}
use Rattle.bpfjobs_cli.specs.declared.ask.ServerQuestion.TheVariants as question

-- the last member, a tenant's name, if there is one
abbrev pub asked_tenant : Option (List ℕ) → Members
asked_tenant None = no_members
asked_tenant (Some name) = member (codes "tenant") (string name) no_members

unfoldable pub account_request : Option (List ℕ) → Data
account_request tenant = object (member (codes "op") (string (codes "account")) (asked_tenant tenant))

unfoldable pub asked_program : ProgramBytes → Data
asked_program p =
    object (member (codes "code") (string (encode_lower p.code.items))
    (member (codes "need") (whole p.need) no_members))

unfoldable pub submit_request : Option (List ℕ) → Option (List ℕ) → JobObject → Data
submit_request tenant key job =
    object (member (codes "buffer") (string (encode_lower job.buffer.items))
    (member (codes "credit") (whole job.credit)
    (key_ahead key
    (member (codes "op") (string (codes "submit"))
    (member (codes "programs") (array (items (map asked_program job.programs.items)))
    (asked_tenant tenant))))))

unfoldable pub job_request : List ℕ → ℕ → Data
job_request op job = object
    (member (codes "job") (whole job) (member (codes "op") (string op) no_members))

abbrev pub first_asked : Option ℕ → Members → Members
first_asked None others = others
first_asked (Some from) others = member (codes "from") (whole from) others

unfoldable pub jobs_request : Option ℕ → Data
jobs_request from =
    object (first_asked from (member (codes "op") (string (codes "jobs")) no_members))

unfoldable pub grant_request : List ℕ → ℕ → Data
grant_request tenant amount =
    object (member (codes "amount") (whole amount)
    (member (codes "op") (string (codes "grant")) (asked_tenant (Some tenant))))

unfoldable pub server_request : List ℕ → Data
server_request op = object (member (codes "op") (string op) no_members)

-- the JSON of a request, of which the input says the job
abbrev pub IsRequestData : ServerQuestion → List ℕ → Data → Type 0
IsRequestData (question.Account tenant) input d =
    d ≡ account_request (option_map string_bytes tenant)
IsRequestData (question.Submit tenant key) input d =
    (job : JobObject) × ObjectAnswer false (Ok job) input
    × (d ≡ submit_request (option_map string_bytes tenant) (option_map string_bytes key) job)
IsRequestData (question.Status job) input d = d ≡ job_request (codes "status") job
IsRequestData (question.Result job) input d = d ≡ job_request (codes "result") job
IsRequestData (question.Jobs from) input d = d ≡ jobs_request from
IsRequestData (question.Grant tenant amount) input d = d ≡ grant_request (string_bytes tenant) amount
IsRequestData question.Server input d = d ≡ server_request (codes "server")
IsRequestData question.Stop input d = d ≡ server_request (codes "stop")

-- the input says no job, or there is no memory
abbrev pub IsDeclinedBy : List ℕ → SessionFault → Type 0
IsDeclinedBy input fault = ObjectAnswer false (Err fault) input

-- nothing but want of memory declines a request without a job
abbrev pub IsRequestFault : ServerQuestion → List ℕ → SessionFault → Type 0
IsRequestFault (question.Account tenant) input fault = fault ≡ NoMemory
IsRequestFault (question.Submit tenant key) input fault = IsDeclinedBy input fault
IsRequestFault (question.Status job) input fault = fault ≡ NoMemory
IsRequestFault (question.Result job) input fault = fault ≡ NoMemory
IsRequestFault (question.Jobs from) input fault = fault ≡ NoMemory
IsRequestFault (question.Grant tenant amount) input fault = fault ≡ NoMemory
IsRequestFault question.Server input fault = fault ≡ NoMemory
IsRequestFault question.Stop input fault = fault ≡ NoMemory

-- whether a reply is no refusal, if it says so
abbrev pub said_ok : Data → Option Bool
said_ok d = option_and_then as_bool (get (codes "ok") d)

-- 0 where a reply is ok, 1 where it is a refusal; none of bytes that are no reply
abbrev pub IsReplyStatus : List ℕ → Option ℕ → Type 0
IsReplyStatus text (Some status) =
    (d : Data) × ReadsJson text d × (ok : Bool) × (said_ok d ≡ Some ok)
    × (status ≡ if ok then 0 else 1)
IsReplyStatus text None = (d : Data) → ReadsJson text d → said_ok d ≡ None
