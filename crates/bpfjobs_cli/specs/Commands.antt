-- The command that a subcommand and its matches are.
use Rattle.std.specs.Prelude.{◌≡◌, ◌≢◌, ◌==◌, ◌↔◌, ◌⊎◌, ℕ, ◌≤◌, ◌<◌, ◌^◌, if◌then◌else◌, IfSome, Bool, IsTrue, List, [], codes, Ok, map, unwrap_or, Option, Some, None, is_some, option_and_then, option_map, String, string_bytes, false, true}
use Rattle.std.specs.declared.alloc.Global.{Global}
use Rattle.std.specs.Borrow.{Bor}
use Rattle.std.specs.Str.Parse.{IsNumeral, digits_value, without_leading_plus}
use Rattle.clap.specs.Faults.{fault_of}
use Rattle.clap.specs.Words.{HasKind, Row, Text, all_of, first_of, kind_of, one_of, subcommand_of, takes}
use Rattle.clap.specs.declared.error.kind.ErrorKind.TheVariants.{DisplayHelp, DisplayVersion, OutOfMemory}
use Rattle.bpfjobs_cli.specs.declared.ask.Ask.{Ask as Asking}
use Rattle.bpfjobs_cli.specs.declared.ask.AskFault.{AskFault}
use Rattle.bpfjobs_cli.specs.declared.ask.AskFault.TheVariants as ask_fault
use Rattle.bpfjobs_cli.specs.declared.ask.AskWord.{AskWord}
use Rattle.bpfjobs_cli.specs.declared.ask.AskWord.TheVariants as word
use Rattle.bpfjobs_cli.specs.declared.ask.ServerQuestion.{ServerQuestion}
use Rattle.bpfjobs_cli.specs.declared.ask.ServerQuestion.TheVariants as question
use Rattle.bpfjobs_cli.specs.declared.commands.Command.{Command}
use Rattle.bpfjobs_cli.specs.declared.commands.Command.TheVariants.{Assemble, Disassemble, Verify, Play, Run, Serve, Journal, Ask, Job, Check}
use Rattle.bpfjobs_cli.specs.declared.commands.Endpoint.{Endpoint}
use Rattle.bpfjobs_cli.specs.declared.commands.Endpoint.TheVariants.{Port, Socket}
use Rattle.bpfjobs_cli.specs.declared.commands.EndpointFault.{EndpointFault}
use Rattle.bpfjobs_cli.specs.declared.commands.EndpointFault.TheVariants.{Missing, Two, GrantsWithPort, SocketPath, TenantsWithPort, JobsOfNoTenant, SyncOfNoJournal, UnknownSync}
use Rattle.bpfjobs_cli.specs.declared.commands.Serve.{Serve as Server}
use Rattle.bpfjobs_cli.specs.declared.commands.ServeOptions.{ServeOptions}
use Rattle.bpfjobs_cli.specs.declared.commands.Shown.{Shown}
use Rattle.bpfjobs_cli.specs.declared.commands.Usage.{Usage}
use Rattle.bpfjobs_cli.specs.declared.job_sources.JobSources.{JobSources}
use Rattle.bpfjobs_cli.specs.declared.job_sources.JobWordFault.{JobWordFault}
use Rattle.bpfjobs_cli.specs.declared.job_sources.JobWordFault.TheVariants as word_fault
use Rattle.bpfjobs_cli.specs.declared.journal_sync.JournalSync.{JournalSync}
use Rattle.bpfjobs_cli.specs.declared.tenant_socket.TenantFault.{TenantFault}
use Rattle.bpfjobs_cli.specs.declared.tenant_socket.TenantWords.{TenantWords}
use Rattle.bpfjobs_cli.specs.declared.commands.Usage.TheVariants as usage
use Rattle.bpfjobs_cli.specs.AskWords.{ask_word, words_fit}
use Rattle.bpfjobs_cli.specs.JobUsages.{IsBufferFault, IsScheduleFault, IsWordsFault, IsWordUsageBy}
use Rattle.bpfjobs_cli.specs.JobWords.{buffer_said, said_source, schedule_by, source_said}
use Rattle.bpfjobs_cli.specs.JournalSyncs.{sync_by}
use Rattle.bpfjobs_cli.specs.Program.{bpfjobs_app}
use Rattle.bpfjobs_cli.specs.Tenants.{AreTenants, IsWrongWord, entered, is_socket_path, tenants_in, words_said}

-- the value of an argument, read as a number from low to high; clap reads a leading plus
pub record IsNumberIn (rows : List Row) (id : Text) (low high number : ℕ) : Type 0 where
  pub text : Text
  pub is_value : one_of id rows ≡ Some text
  pub digits : IsNumeral 10 (without_leading_plus text)
  pub value : number ≡ digits_value 10 (without_leading_plus text)
  pub least : low ≤ number
  pub most : number ≤ high

-- the same of an argument that may be missing
abbrev pub IsMaybeNumber : List Row → Text → ℕ → ℕ → Option ℕ → Type 0
IsMaybeNumber rows id low high None = one_of id rows ≡ None
IsMaybeNumber rows id low high (Some number) = IsNumberIn rows id low high number

-- the flag is among the words
abbrev pub IsFlagOf : List Row → Text → Bool → Type 0
IsFlagOf rows id given = IsTrue given ↔ (first_of id rows ≡ Some (codes "true"))

-- the argument is among the words
abbrev pub HasText : List Row → Text → Type 0
HasText rows id = is_some (first_of id rows) ≡ true

-- the port that the words name
abbrev pub IsPortOf : List Row → ℕ → Type 0
IsPortOf rows port = IsNumberIn rows (codes "port") 1 65535 port

-- the endpoint of a server: a port alone, or sockets at paths that can have one, and no port
abbrev pub IsEndpointOf : List Row → Endpoint → Type 0
IsEndpointOf rows (Port port) =
    IsPortOf rows port × (first_of (codes "socket") rows ≡ None)
    × (first_of (codes "grants") rows ≡ None)
IsEndpointOf rows (Socket path grants) =
    (one_of (codes "port") rows ≡ None)
    × (first_of (codes "socket") rows ≡ Some (string_bytes path))
    × (first_of (codes "grants") rows ≡ option_map string_bytes grants)
    × (is_socket_path (string_bytes path) ≡ true)
    × IfSome grants (λ second. is_socket_path (string_bytes second) ≡ true)

-- the words of the arguments `--tenant`, in their order
abbrev pub tenant_words : List Row → List Text
tenant_words rows = unwrap_or (all_of (codes "tenant") rows) []

-- they name a tenant, or a file of tenants
abbrev pub NameTenants : List Row → Type 0
NameTenants rows =
    (is_some (all_of (codes "tenant") rows) ≡ true) ⊎ HasText rows (codes "tenants")

-- they name neither
abbrev pub NameNoTenant : List Row → Type 0
NameNoTenant rows =
    (all_of (codes "tenant") rows ≡ None) × (first_of (codes "tenants") rows ≡ None)

-- the jobs that each tenant may have open, if the words say it: then they name tenants
abbrev pub AreJobsOf : List Row → Option ℕ → Type 0
AreJobsOf rows jobs =
    IsMaybeNumber rows (codes "tenant-jobs") 1 1000000 jobs × ((jobs ≡ None) ⊎ NameTenants rows)

-- the tenants with sockets of their own: none beside a port
abbrev pub AreTenantsOf : List Row → Endpoint → TenantWords → Type 0
AreTenantsOf rows (Port port) tenants =
    NameNoTenant rows × AreJobsOf rows tenants.open_jobs × (tenants.tenants.items ≡ [])
    × (tenants.file ≡ None)
AreTenantsOf rows (Socket path grants) tenants =
    (entered [] 0 (words_said (tenant_words rows)) ≡ Ok (tenants_in tenants.tenants.items))
    × (first_of (codes "tenants") rows ≡ option_map string_bytes tenants.file)
    × AreJobsOf rows tenants.open_jobs

-- the path of the journal, if the words name one
abbrev pub IsJournalOf : List Row → Option (String Global) → Type 0
IsJournalOf rows journal =
    first_of (codes "journal") rows ≡ option_map string_bytes journal

-- The journal is synced as the words say, and always ahead of a reply where they say nothing. If they
-- say it, they name a journal.
abbrev pub IsSyncOf : List Row → JournalSync → Type 0
IsSyncOf rows sync =
    (sync_by (first_of (codes "journal-sync") rows) ≡ Some sync)
    × ((first_of (codes "journal-sync") rows ≡ None) ⊎ HasText rows (codes "journal"))

-- an argument is a path at which no socket can be
abbrev pub IsNoSocketPath : List Row → Text → Type 0
IsNoSocketPath rows id =
    (path : Text) × (first_of id rows ≡ Some path) × (is_socket_path path ≡ false)

-- the words name no endpoint, or what doesn't go together
abbrev pub IsEndpointFault : List Row → EndpointFault → Type 0
IsEndpointFault rows Missing =
    (one_of (codes "port") rows ≡ None) × (first_of (codes "socket") rows ≡ None)
IsEndpointFault rows Two = ((port : ℕ) × IsPortOf rows port) × HasText rows (codes "socket")
IsEndpointFault rows GrantsWithPort =
    ((port : ℕ) × IsPortOf rows port) × (first_of (codes "socket") rows ≡ None)
    × HasText rows (codes "grants")
IsEndpointFault rows SocketPath =
    (one_of (codes "port") rows ≡ None) × HasText rows (codes "socket")
    × (IsNoSocketPath rows (codes "socket") ⊎ IsNoSocketPath rows (codes "grants"))
IsEndpointFault rows TenantsWithPort =
    ((port : ℕ) × IsPortOf rows port) × (first_of (codes "socket") rows ≡ None)
    × (first_of (codes "grants") rows ≡ None) × NameTenants rows
IsEndpointFault rows JobsOfNoTenant =
    ((jobs : ℕ) × IsNumberIn rows (codes "tenant-jobs") 1 1000000 jobs) × NameNoTenant rows
IsEndpointFault rows SyncOfNoJournal =
    HasText rows (codes "journal-sync") × (first_of (codes "journal") rows ≡ None)
IsEndpointFault rows UnknownSync = sync_by (first_of (codes "journal-sync") rows) ≡ None

-- a word names no tenant, beside a socket
pub record IsTenantFault (rows : List Row) (word : Text) (f : TenantFault) : Type 0 where
  pub portless : one_of (codes "port") rows ≡ None
  pub socket : HasText rows (codes "socket")
  pub wrong : IsWrongWord (tenant_words rows) word f

-- Connections that are taken in all: as many as the words say. Where they say none, it is one, and
-- any number where there are several at once.
abbrev pub sessions_said : Option ℕ → ℕ → Option ℕ
sessions_said (Some sessions) clients = Some sessions
sessions_said None clients = if clients == 1 then Some 1 else None

abbrev pub AreSessionsOf : List Row → ℕ → Option ℕ → Type 0
AreSessionsOf rows clients sessions =
    (said : Option ℕ) × IsMaybeNumber rows (codes "sessions") 1 1000000 said
    × (sessions ≡ sessions_said said clients)

-- the options of a server
pub record AreOptionsOf (rows : List Row) (options : ServeOptions) : Type 0 where
  pub workers : IsNumberIn rows (codes "workers") 1 16 options.workers
  pub sessions : AreSessionsOf rows options.clients options.sessions
  pub clients : IsNumberIn rows (codes "clients") 1 1024 options.clients
  pub timeout : IsNumberIn rows (codes "timeout") 0 3600 options.timeout
  pub open_jobs : IsNumberIn rows (codes "open-jobs") 0 1000000 options.open_jobs
  pub keep : IsNumberIn rows (codes "keep") 0 1000000 options.keep
  pub keep_bytes : IsNumberIn rows (codes "keep-bytes") 0 4294967295 options.keep_bytes
  pub until_eof : IsFlagOf rows (codes "until-eof") options.until_eof
  pub logs : IsFlagOf rows (codes "log") options.logs

-- a server
pub record IsServeOf (rows : List Row) (serve : Server) : Type 0 where
  pub endpoint : IsEndpointOf rows serve.endpoint
  pub tenants : AreTenantsOf rows serve.endpoint serve.tenants
  pub journal : IsJournalOf rows serve.journal
  pub journal_sync : IsSyncOf rows serve.journal_sync
  pub options : AreOptionsOf rows serve.options

-- the word of the question
abbrev pub IsAskWordOf : List Row → AskWord → Type 0
IsAskWordOf rows w = option_and_then ask_word (first_of (codes "word") rows) ≡ Some w

-- the number of a job that a text is
abbrev pub IsJobNumber : Text → ℕ → Type 0
IsJobNumber text job =
    IsNumeral 10 (without_leading_plus text) × (job ≡ digits_value 10 (without_leading_plus text))
    × (job < 2 ^ 64)

-- the number of the job that the words name
abbrev pub IsAskedJobOf : List Row → ℕ → Type 0
IsAskedJobOf rows job =
    (text : Text) × (first_of (codes "subject") rows ≡ Some text) × IsJobNumber text job

abbrev pub IsAskedTextOf : List Row → Text → Option (String Global) → Type 0
IsAskedTextOf rows id text = first_of id rows ≡ option_map string_bytes text

-- the amount, and the number of the first job of a listing, if the words say them
abbrev pub IsAmountOf : List Row → Option ℕ → Type 0
IsAmountOf rows amount = IsMaybeNumber rows (codes "amount") 1 2147483647 amount

abbrev pub IsFromOf : List Row → Option ℕ → Type 0
IsFromOf rows from = IsMaybeNumber rows (codes "from") 1 18446744073709551615 from

-- the question that the words say
abbrev pub IsQuestionOf : List Row → ServerQuestion → Type 0
IsQuestionOf rows (question.Account tenant) =
    IsAskWordOf rows word.Account × IsAskedTextOf rows (codes "subject") tenant
IsQuestionOf rows (question.Submit tenant key) =
    IsAskWordOf rows word.Submit × IsAskedTextOf rows (codes "subject") tenant
    × IsAskedTextOf rows (codes "key") key
IsQuestionOf rows (question.Status job) = IsAskWordOf rows word.Status × IsAskedJobOf rows job
IsQuestionOf rows (question.Result job) = IsAskWordOf rows word.Result × IsAskedJobOf rows job
IsQuestionOf rows (question.Jobs from) = IsAskWordOf rows word.Jobs × IsFromOf rows from
IsQuestionOf rows (question.Grant tenant amount) =
    IsAskWordOf rows word.Grant × (first_of (codes "subject") rows ≡ Some (string_bytes tenant))
    × IsAmountOf rows (Some amount)
IsQuestionOf rows question.Server = IsAskWordOf rows word.Server
IsQuestionOf rows question.Stop = IsAskWordOf rows word.Stop

-- what else the words say goes with the word
abbrev pub AreFit : List Row → AskWord → Bool → Type 0
AreFit rows w fit =
    (amount from : Option ℕ) × IsAmountOf rows amount × IsFromOf rows from
    × (words_fit w (is_some (first_of (codes "subject") rows)) (is_some amount)
    (is_some (first_of (codes "key") rows)) (is_some from) ≡ fit)

-- a request to a server that runs
pub record IsAskOf (rows : List Row) (ask : Asking) : Type 0 where
  pub endpoint : IsEndpointOf rows ask.endpoint
  pub wait : IsNumberIn rows (codes "wait") 0 3600 ask.wait
  pub question : IsQuestionOf rows ask.question
  pub fit : (w : AskWord) × IsAskWordOf rows w × AreFit rows w true

-- the words name no number of a job
abbrev pub NamesNoJob : List Row → Type 0
NamesNoJob rows =
    (text : Text) × (first_of (codes "subject") rows ≡ Some text)
    × ((job : ℕ) → IsJobNumber text job → ⊥)

-- the words name no place of a server, or are no question
abbrev pub IsAskFault : List Row → AskFault → Type 0
IsAskFault rows ask_fault.Place = (f : EndpointFault) × IsEndpointFault rows f
IsAskFault rows ask_fault.Words =
    (option_and_then ask_word (first_of (codes "word") rows) ≡ None)
    ⊎ ((w : AskWord) × IsAskWordOf rows w × AreFit rows w false) ⊎ NamesNoJob rows

-- the words FILE:NEED, in their order
abbrev pub source_words : List Row → List Text
source_words rows = unwrap_or (all_of (codes "sources") rows) []

-- a job of source files
pub record IsSourceJobOf (rows : List Row) (job : JobSources) : Type 0 where
  pub credit : IsNumberIn rows (codes "credit") 0 4294967295 job.credit
  pub buffer : option_and_then buffer_said (first_of (codes "buffer") rows) ≡ Some job.buffer.items
  pub schedule : schedule_by (first_of (codes "schedule") rows) ≡ Some job.schedule.items
  pub sources : map source_said (source_words rows) ≡ map said_source job.sources.items

-- a word says no source, or the buffer or the schedule is none
abbrev pub IsJobFault : List Row → JobWordFault → Type 0
IsJobFault rows (word_fault.Source told) =
    IsWordsFault (source_words rows) (word_fault.Source told)
IsJobFault rows word_fault.Buffer =
    IsBufferFault (first_of (codes "buffer") rows) word_fault.Buffer
IsJobFault rows word_fault.Schedule =
    IsScheduleFault (first_of (codes "schedule") rows) word_fault.Schedule

-- both of two files are the standard input
abbrev pub AreOneInput : List Row → Type 0
AreOneInput rows = (first_of (codes "job") rows ≡ Some (codes "-"))
    × (first_of (codes "result") rows ≡ Some (codes "-"))

abbrev pub IsCommandOf : Text → List Row → Command → Type 0
IsCommandOf name rows Assemble = name ≡ codes "assemble"
IsCommandOf name rows Disassemble = name ≡ codes "disassemble"
IsCommandOf name rows (Verify need) =
    (name ≡ codes "verify") × IsNumberIn rows (codes "need") 0 4294967295 need
IsCommandOf name rows Play = name ≡ codes "play"
IsCommandOf name rows (Run workers) =
    (name ≡ codes "run") × IsNumberIn rows (codes "workers") 1 16 workers
IsCommandOf name rows (Serve serve) = (name ≡ codes "serve") × IsServeOf rows serve
IsCommandOf name rows (Journal path checks) =
    (name ≡ codes "journal") × (first_of (codes "file") rows ≡ Some (string_bytes path))
    × IsFlagOf rows (codes "check") checks
IsCommandOf name rows (Ask ask) = (name ≡ codes "ask") × IsAskOf rows ask
IsCommandOf name rows (Job job) = (name ≡ codes "job") × IsSourceJobOf rows job
IsCommandOf name rows (Check job result) =
    (name ≡ codes "check") × (first_of (codes "job") rows ≡ Some (string_bytes job))
    × (first_of (codes "result") rows ≡ Some (string_bytes result)) × (AreOneInput rows → ⊥)

-- the file that a command reads: none where the words name none, or `-`, the standard input
abbrev pub IsInputOf : List Row → Option (Bor Text) → Type 0
IsInputOf rows None =
    (first_of (codes "input") rows ≡ None) ⊎ (first_of (codes "input") rows ≡ Some (codes "-"))
IsInputOf rows (Some path) =
    (first_of (codes "input") rows ≡ Some path.now) × (path.now ≢ codes "-")

-- what is shown beside the answer
pub record IsShownOf (rows : List Row) (shown : Shown) : Type 0 where
  pub traces : IsFlagOf rows (codes "trace") shown.traces
  pub trace_json : first_of (codes "trace-json") rows
      ≡ option_map (λ path. path.now) shown.trace_json
  pub tree : first_of (codes "tree") rows ≡ option_map (λ path. path.now) shown.tree

-- the words of `serve` say its options, and perhaps a port and a number of jobs
pub record SaysServe (rows : List Row) : Type 0 where
  pub port : (n : Option ℕ) × IsMaybeNumber rows (codes "port") 1 65535 n
  pub jobs : (n : Option ℕ) × IsMaybeNumber rows (codes "tenant-jobs") 1 1000000 n
  pub options : (o : ServeOptions) × AreOptionsOf rows o

-- the words of `ask` are a word, and perhaps a port and numbers
pub record SaysAsk (rows : List Row) : Type 0 where
  pub word : HasText rows (codes "word")
  pub port : (n : Option ℕ) × IsMaybeNumber rows (codes "port") 1 65535 n
  pub wait : (n : ℕ) × IsNumberIn rows (codes "wait") 0 3600 n
  pub amount : (n : Option ℕ) × IsAmountOf rows n
  pub from : (n : Option ℕ) × IsFromOf rows n

-- the words of `job` are a number and a buffer's word, and others
pub record SaysJob (rows : List Row) : Type 0 where
  pub credit : (n : ℕ) × IsNumberIn rows (codes "credit") 0 4294967295 n
  pub buffer : HasText rows (codes "buffer")

-- the words of `check` are two paths
pub record SaysCheck (rows : List Row) : Type 0 where
  pub job : HasText rows (codes "job")
  pub result : HasText rows (codes "result")

-- they are those of a command, but for a server's endpoint
pub data SaysCommand (name : Text) (rows : List Row) : Type 0 where
  says_assemble : name ≡ codes "assemble" → SaysCommand name rows
  says_disassemble : name ≡ codes "disassemble" → SaysCommand name rows
  says_verify : name ≡ codes "verify"
      → ((need : ℕ) × IsNumberIn rows (codes "need") 0 4294967295 need) → SaysCommand name rows
  says_play : name ≡ codes "play" → SaysCommand name rows
  says_run : name ≡ codes "run"
      → ((workers : ℕ) × IsNumberIn rows (codes "workers") 1 16 workers) → SaysCommand name rows
  says_serve : name ≡ codes "serve" → SaysServe rows → SaysCommand name rows
  says_journal : name ≡ codes "journal" → HasText rows (codes "file") → SaysCommand name rows
  says_ask : name ≡ codes "ask" → SaysAsk rows → SaysCommand name rows
  says_job : name ≡ codes "job" → SaysJob rows → SaysCommand name rows
  says_check : name ≡ codes "check" → SaysCheck rows → SaysCommand name rows

-- the port is in range
abbrev pub IsEndpointInRange : Endpoint → Type 0
IsEndpointInRange (Port port) = (1 ≤ port) × (port ≤ 65535)
IsEndpointInRange (Socket path grants) =
    (is_socket_path (string_bytes path) ≡ true)
    × IfSome grants (λ second. is_socket_path (string_bytes second) ≡ true)

-- a server's numbers are in range
pub record IsServeInRange (serve : Server) : Type 0 where
  pub endpoint : IsEndpointInRange serve.endpoint
  pub tenants : AreTenants (tenants_in serve.tenants.tenants.items)
  pub tenant_jobs : IfSome serve.tenants.open_jobs (λ n. (1 ≤ n) × (n ≤ 1000000))
  pub workers : (1 ≤ serve.options.workers) × (serve.options.workers ≤ 16)
  pub sessions : IfSome serve.options.sessions (λ n. (1 ≤ n) × (n ≤ 1000000))
  pub clients : (1 ≤ serve.options.clients) × (serve.options.clients ≤ 1024)
  pub timeout : serve.options.timeout ≤ 3600
  pub open_jobs : serve.options.open_jobs ≤ 1000000
  pub keep : serve.options.keep ≤ 1000000
  pub keep_bytes : serve.options.keep_bytes ≤ 4294967295

-- a command's numbers are in range
abbrev pub IsInRange : Command → Type 0
IsInRange Assemble = Unit {0}
IsInRange Disassemble = Unit {0}
IsInRange (Verify need) = Unit {0}
IsInRange Play = Unit {0}
IsInRange (Run workers) = (1 ≤ workers) × (workers ≤ 16)
IsInRange (Serve serve) = IsServeInRange serve
IsInRange (Journal path checks) = Unit {0}
IsInRange (Ask ask) = IsEndpointInRange ask.endpoint × (ask.wait ≤ 3600)
IsInRange (Job job) = Unit {0}
IsInRange (Check job result) = Unit {0}

-- the place of a server is refused for want of memory, or for what the words say of it
abbrev pub IsPlaceUsage : List Row → Usage → Type 0
IsPlaceUsage rows (usage.Refused error) = ⊥
IsPlaceUsage rows (usage.Endpoint fault) = IsEndpointFault rows fault
IsPlaceUsage rows (usage.Tenant word f) = ⊥
IsPlaceUsage rows (usage.Ask fault) = ⊥
IsPlaceUsage rows (usage.Job fault) = ⊥
IsPlaceUsage rows usage.TwoInputs = ⊥
IsPlaceUsage rows usage.NoMemory = Unit {0}

-- the words of `ask` are refused for want of memory, or for their own
abbrev pub IsAskUsage : List Row → Usage → Type 0
IsAskUsage rows (usage.Refused error) = ⊥
IsAskUsage rows (usage.Endpoint fault) = ⊥
IsAskUsage rows (usage.Tenant word f) = ⊥
IsAskUsage rows (usage.Ask fault) = IsAskFault rows fault
IsAskUsage rows (usage.Job fault) = ⊥
IsAskUsage rows usage.TwoInputs = ⊥
IsAskUsage rows usage.NoMemory = Unit {0}

-- the options of a server are refused for want of memory, for their endpoint, or for a tenant
abbrev pub IsEndpointUsage : List Row → Usage → Type 0
IsEndpointUsage rows (usage.Refused error) = ⊥
IsEndpointUsage rows (usage.Endpoint fault) = IsEndpointFault rows fault
IsEndpointUsage rows (usage.Tenant word f) = IsTenantFault rows (string_bytes word) f
IsEndpointUsage rows (usage.Ask fault) = ⊥
IsEndpointUsage rows (usage.Job fault) = ⊥
IsEndpointUsage rows usage.TwoInputs = ⊥
IsEndpointUsage rows usage.NoMemory = Unit {0}

-- the words of `job` are refused for want of memory, or for their own
abbrev pub IsJobUsage : List Row → Usage → Type 0
IsJobUsage rows = IsWordUsageBy (IsJobFault rows)

-- the words of a command are refused for want of memory, as the options of a server, or as the
-- words of `ask`, `job` or `check`
abbrev pub IsCommandUsage : Text → List Row → Usage → Type 0
IsCommandUsage name rows (usage.Refused error) = ⊥
IsCommandUsage name rows (usage.Endpoint fault) =
    (name ≡ codes "serve") × IsEndpointFault rows fault
IsCommandUsage name rows (usage.Tenant word f) =
    (name ≡ codes "serve") × IsTenantFault rows (string_bytes word) f
IsCommandUsage name rows (usage.Ask fault) = (name ≡ codes "ask") × IsAskFault rows fault
IsCommandUsage name rows (usage.Job fault) = (name ≡ codes "job") × IsJobFault rows fault
IsCommandUsage name rows usage.TwoInputs = (name ≡ codes "check") × AreOneInput rows
IsCommandUsage name rows usage.NoMemory = Unit {0}

-- Words that clap takes are refused for want of memory, where a server's options name no endpoint or
-- a word names no tenant, or where those of `ask`, `job` or `check` are no request, no job, or one
-- input twice. Any others are refused for want of memory, or for a fault that clap finds in them.
abbrev pub IsUsage : Usage → List Text → Type 0
IsUsage (usage.Refused error) words =
    (takes bpfjobs_app words ≡ true → kind_of error ≡ OutOfMemory)
    × HasKind (fault_of bpfjobs_app words) error
IsUsage (usage.Endpoint fault) words =
    (fault_of bpfjobs_app words ≡ []) × (rows : List Row)
    × (subcommand_of bpfjobs_app words ≡ Some (codes "serve", rows)) × IsEndpointFault rows fault
IsUsage (usage.Tenant word f) words =
    (fault_of bpfjobs_app words ≡ []) × (rows : List Row)
    × (subcommand_of bpfjobs_app words ≡ Some (codes "serve", rows))
    × IsTenantFault rows (string_bytes word) f
IsUsage (usage.Ask fault) words =
    (fault_of bpfjobs_app words ≡ []) × (rows : List Row)
    × (subcommand_of bpfjobs_app words ≡ Some (codes "ask", rows)) × IsAskFault rows fault
IsUsage (usage.Job fault) words =
    (fault_of bpfjobs_app words ≡ []) × (rows : List Row)
    × (subcommand_of bpfjobs_app words ≡ Some (codes "job", rows)) × IsJobFault rows fault
IsUsage usage.TwoInputs words =
    (fault_of bpfjobs_app words ≡ []) × (rows : List Row)
    × (subcommand_of bpfjobs_app words ≡ Some (codes "check", rows)) × AreOneInput rows
IsUsage usage.NoMemory words = Unit {0}

-- the words ask for help, or for the version: that is no mistake
abbrev pub AsksHelp : Usage → Type 0
AsksHelp (usage.Refused error) = (kind_of error ≡ DisplayHelp) ⊎ (kind_of error ≡ DisplayVersion)
AsksHelp (usage.Endpoint fault) = ⊥
AsksHelp (usage.Tenant word f) = ⊥
AsksHelp (usage.Ask fault) = ⊥
AsksHelp (usage.Job fault) = ⊥
AsksHelp usage.TwoInputs = ⊥
AsksHelp usage.NoMemory = ⊥
