-- The JSON of a reply.
use Rattle.std.specs.Prelude.{ℕ, ◌==◌, List, [], ◌∷◌, map, length, Bool, true, false, codes, nat_le, if◌then◌else◌, Option, Some, None}
use Rattle.hex.specs.Hex.{encode_lower}
use Rattle.serde_json.specs.Data.{Data, boolean, number, unsigned, string, array, object, Items, no_items, item, Members, no_members, member}
use Rattle.serde_json.specs.Written.{compact_text}
use Rattle.credit_book.specs.declared.event.TaskEnd.{TaskEnd}
use Rattle.accounts.specs.declared.listing.ListedJob.{ListedJob}
use Rattle.accounts.specs.declared.listing.ListedState.{ListedState}
use Rattle.accounts.specs.declared.listing.ListedState.TheVariants.{Open, Over, Failed}
use Rattle.sessions.specs.Frames.{framed}
use Rattle.sessions.specs.declared.job_key.KeyedJob.{KeyedJob}
use Rattle.sessions.specs.declared.reply.Reply.{Reply}
use Rattle.sessions.specs.declared.reply.Reply.TheVariants as reply
use Rattle.sessions.specs.declared.server_totals.ConnectionTotals.{ConnectionTotals}
use Rattle.sessions.specs.declared.server_totals.JobTotals.{JobTotals}
use Rattle.sessions.specs.declared.server_totals.RefusalCount.{RefusalCount}
use Rattle.sessions.specs.declared.server_totals.ServerTotals.{ServerTotals}

-- a whole number
abbrev pub whole : ℕ → Data
whole n = number (unsigned n)

-- the program and the slot of a refusal, where it has them
abbrev pub place_members : Option ℕ → Option ℕ → Members
place_members None slot = no_members
place_members (Some program) None = member (codes "program") (whole program) no_members
place_members (Some program) (Some slot) =
    member (codes "program") (whole program) (member (codes "slot") (whole slot) no_members)

unfoldable pub refusal_data : ℕ → Option ℕ → Option ℕ → Data
refusal_data code program slot =
    object (member (codes "code") (whole code)
    (member (codes "ok") (boolean false) (place_members program slot)))

unfoldable pub account_data : ℕ → ℕ → ℕ → ℕ → Data
account_data balance granted opened spent =
    object (member (codes "balance") (whole balance) (member (codes "granted") (whole granted)
    (member (codes "ok") (boolean true)
    (member (codes "open") (whole opened) (member (codes "spent") (whole spent) no_members)))))

unfoldable pub submit_data : ℕ → Data
submit_data job = object
    (member (codes "job") (whole job) (member (codes "ok") (boolean true) no_members))

unfoldable pub status_data : Bool → ℕ → ℕ → Data
status_data complete returned spent =
    object (member (codes "complete") (boolean complete) (member (codes "ok") (boolean true)
    (member (codes "returned") (whole returned) (member (codes "spent") (whole spent) no_members))))

unfoldable pub task_data : TaskEnd → Data
task_data t =
    object (member (codes "number") (whole t.number) (member (codes "program") (whole t.program)
    (member (codes "r0") (whole t.r0)
    (member (codes "ran") (boolean t.ran) (member (codes "rest") (whole t.rest)
    (member (codes "spent") (whole t.spent) no_members))))))

-- a list of values as an array's items
abbrev pub items : List Data → Items
items [] = no_items
items (d ∷ ds) = item d (items ds)

unfoldable pub result_data : List ℕ → ℕ → ℕ → List TaskEnd → Data
result_data buffer returned spent tasks =
    object (member (codes "buffer") (string (encode_lower buffer))
    (member (codes "ok") (boolean true)
    (member (codes "returned") (whole returned) (member (codes "spent") (whole spent)
    (member (codes "tasks") (array (items (map task_data tasks))) no_members)))))

unfoldable pub play_data : List ℕ → Bool → ℕ → ℕ → ℕ → ℕ → Data
play_data buffer complete held returned spent used =
    object (member (codes "buffer") (string (encode_lower buffer))
    (member (codes "complete") (boolean complete)
    (member (codes "held") (whole held)
    (member (codes "ok") (boolean true) (member (codes "returned") (whole returned)
    (member (codes "spent") (whole spent) (member (codes "used") (whole used) no_members)))))))

-- the key of a job, by the first of these that has its number
abbrev pub key_among : List KeyedJob → ℕ → Option (List ℕ)
key_among [] job = None
key_among (keyed ∷ keys) job =
    if keyed.job == job then Some keyed.key else key_among keys job

-- a job's key ahead of other members, if it has one
abbrev pub key_ahead : Option (List ℕ) → Members → Members
key_ahead None others = others
key_ahead (Some key) others = member (codes "key") (string key) others

-- a job in a listing: its number, its key, if it has one, how it stands, and the code by which it
-- failed, if it did
unfoldable pub listed_data : ℕ → Option (List ℕ) → ListedState → Data
listed_data job key Open =
    object (member (codes "job") (whole job)
    (key_ahead key (member (codes "state") (string (codes "open")) no_members)))
listed_data job key Over =
    object (member (codes "job") (whole job)
    (key_ahead key (member (codes "state") (string (codes "over")) no_members)))
listed_data job key (Failed code) =
    object (member (codes "code") (whole code) (member (codes "job") (whole job)
    (key_ahead key (member (codes "state") (string (codes "failed")) no_members))))

-- a job in a listing, with its key where that is among these
abbrev pub listed_by : List KeyedJob → ListedJob → Data
listed_by keys j = listed_data j.job (key_among keys j.job) j.state

-- a listing, with the number of the last job, and the keys that are remembered
unfoldable pub jobs_data : ℕ → List ListedJob → List KeyedJob → Data
jobs_data count jobs keys =
    object (member (codes "count") (whole count)
    (member (codes "jobs") (array (items (map (listed_by keys) jobs)))
    (member (codes "ok") (boolean true) no_members)))

unfoldable pub connections_data : ConnectionTotals → Data
connections_data c =
    object (member (codes "open") (whole c.opened)
    (member (codes "taken") (whole c.taken) no_members))

unfoldable pub job_totals_data : JobTotals → Data
job_totals_data j =
    object (member (codes "failed") (whole j.failed) (member (codes "open") (whole j.opened)
    (member (codes "over") (whole j.over) (member (codes "taken") (whole j.taken)
    (member (codes "waiting") (whole j.waiting) no_members)))))

-- how many refusals had a number
unfoldable pub refusal_count_data : RefusalCount → Data
refusal_count_data r =
    object (member (codes "code") (whole r.code)
    (member (codes "count") (whole r.count) no_members))

-- all that a server counts, and the versions of its protocol and of itself
unfoldable pub server_data : ConnectionTotals → ℕ → JobTotals → ℕ → List RefusalCount → ℕ → Data
server_data connections instance jobs lines_lost refusals seconds =
    object (member (codes "connections") (connections_data connections)
    (member (codes "instance") (whole instance)
    (member (codes "jobs") (job_totals_data jobs)
    (member (codes "lines_lost") (whole lines_lost)
    (member (codes "ok") (boolean true)
    (member (codes "protocol") (whole 1)
    (member (codes "refusals") (array (items (map refusal_count_data refusals)))
    (member (codes "seconds") (whole seconds)
    (member (codes "version") (string (codes "0.1.0")) no_members)))))))))

abbrev pub totals_data : ServerTotals → Data
totals_data t =
    server_data t.connections t.instance t.jobs t.lines_lost t.refusals.items t.seconds

abbrev pub reply_data : Reply → Data
reply_data (reply.Refused code program slot) = refusal_data code program slot
reply_data (reply.Account balance granted opened spent) = account_data balance granted opened spent
reply_data (reply.Submit job) = submit_data job
reply_data (reply.Status complete returned spent) = status_data complete returned spent
reply_data (reply.Result buffer returned spent tasks) =
    result_data buffer.now returned spent tasks.now
reply_data (reply.Play buffer complete held returned spent used) =
    play_data buffer.now complete held returned spent used
reply_data (reply.Jobs count jobs keys) = jobs_data count jobs.now keys.now
reply_data (reply.Server totals) = totals_data totals.now

-- the bytes of a reply
abbrev pub text_of : Reply → List ℕ
text_of reply = compact_text (reply_data reply)

-- the longest text that a frame holds
abbrev pub longest_reply : ℕ
longest_reply = 4294967295

-- a reply whose length no four bytes write is answered by refusal 65
unfoldable pub frame_or_refusal : Data → List ℕ
frame_or_refusal told =
    if nat_le (length (compact_text told)) longest_reply then framed (compact_text told)
    else framed (compact_text (refusal_data 65 None None))

unfoldable pub frame_of : Reply → List ℕ
frame_of reply = frame_or_refusal (reply_data reply)
