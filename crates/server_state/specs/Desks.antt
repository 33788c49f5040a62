-- What a desk answers, as if there were no other.
use Rattle.std.specs.Prelude.{◌≡◌, ℕ, suc, zero, List, length, nat_lt, if◌then◌else◌, Option, Some, None, Result, Ok, Err}
use Rattle.job_core.specs.Admitted.{AdmittedJob}
use Rattle.credit_book.specs.declared.board.Progress.{Progress}
use Rattle.accounts.specs.Ledgers.{Ledger, KeepsWithin}
use Rattle.accounts.specs.Listing.{listing}
use Rattle.accounts.specs.declared.keep_limits.KeepLimits.{KeepLimits}
use Rattle.sessions.specs.Grammar.{Asked}
use Rattle.sessions.specs.JobKeys.{job_among, noted}
use Rattle.sessions.specs.Replies.{frame_of, frame_or_refusal, jobs_data, reply_data}
use Rattle.sessions.specs.declared.job_key.KeyedJob.{KeyedJob}
use Rattle.sessions.specs.declared.reply.Reply.{Reply}
use Rattle.sessions.specs.declared.reply.Reply.TheVariants as reply
use Rattle.streams.specs.Answering as plainly
use Rattle.server_state.specs.States.{DeskState, JobsSteps, id_at}
use Rattle.server_state.specs.Queries.{Query, plain, keyed, jobs, counts}

-- the frame of a refusal that has a number alone, and that of the number of a job that was taken
abbrev pub refusal_frame : ℕ → List ℕ
refusal_frame code = frame_of (reply.Refused code None None)

abbrev pub submit_frame : ℕ → List ℕ
submit_frame job = frame_of (reply.Submit job)

-- the first number that there is from here on
abbrev pub first_number : ℕ → ℕ
first_number zero = 1
first_number (suc n) = suc n

-- The frame of the jobs of a desk from a number on, of which the first 1,000 are returned: each job
-- that is not forgotten, its state, and its key, where that is remembered; and the number of the
-- last job.
unfoldable pub jobs_frame : DeskState → ℕ → List ℕ
jobs_frame desk from =
    frame_or_refusal (jobs_data (length desk.ledger.jobs)
    (listing desk.ledger.jobs (first_number from)) desk.keys)

-- the keys behind a submit by a new key: with the job that the ledger took last, if it took one
abbrev pub keys_behind : DeskState → List ℕ → Ledger → List KeyedJob
keys_behind old key new =
    if nat_lt (length old.ledger.jobs) (length new.jobs)
    then noted old.keys (length new.jobs) key else old.keys

module _ {R : Type 0} (m : JobsSteps R) (place : ℕ) where
  -- the runner of all jobs, by the numbers of this desk
  abbrev pub starts_at : R → ℕ → AdmittedJob → Result (Unit {0}) ℕ → R → Type 0
  starts_at r number job started s = m.starts r (id_at place number) job started s

  abbrev pub looks_at : R → ℕ → Progress → R → Type 0
  looks_at r number seen s = m.looks r (id_at place number) seen s

  module _ (keep : KeepLimits) where
    -- A request is answered by the ledger, which then forgets what it does not keep.
    pub record RepliesPlainly (old : Ledger) (r : R) (asked : Asked) (frame : List ℕ)
        (new : Ledger) (s : R) : Type 0 where
      pub mid : Ledger
      pub told : Reply
      pub replies : plainly.Replies starts_at looks_at old r (Ok asked) (reply_data told) mid s
      pub is : frame ≡ frame_of told
      pub keeps : KeepsWithin keep mid new

    -- a request, or the number of its refusal, which changes nothing
    abbrev pub RepliesOrRefuses : DeskState → R → Result Asked ℕ → List ℕ → DeskState → R → Type 0
    RepliesOrRefuses old r (Ok asked) frame new s =
        RepliesPlainly old.ledger r asked frame new.ledger s × (new.keys ≡ old.keys)
    RepliesOrRefuses old r (Err code) frame new s =
        (frame ≡ refusal_frame code) × (new ≡ old) × (s ≡ r)

    -- a submit by a key that is remembered returns that key's job, and one by a new key is answered,
    -- and the job that was taken has the key
    abbrev pub RepliesByKey : Option ℕ → DeskState → R → List ℕ → Result Asked ℕ → List ℕ
        → DeskState → R → Type 0
    RepliesByKey (Some job) old r key asked frame new s =
        (frame ≡ submit_frame job) × (new ≡ old) × (s ≡ r)
    RepliesByKey None old r key (Err code) frame new s =
        (frame ≡ refusal_frame code) × (new ≡ old) × (s ≡ r)
    RepliesByKey None old r key (Ok asked) frame new s =
        RepliesPlainly old.ledger r asked frame new.ledger s
        × (new.keys ≡ keys_behind old key new.ledger)

    -- The reply of the desk to a query, and the desk and the runner behind it.
    unfoldable pub DeskReplies : DeskState → R → Query → List ℕ → DeskState → R → Type 0
    DeskReplies old r (plain asked) frame new s = RepliesOrRefuses old r asked frame new s
    DeskReplies old r (keyed None asked) frame new s =
        (frame ≡ refusal_frame 73) × (new ≡ old) × (s ≡ r)
    DeskReplies old r (keyed (Some key) asked) frame new s =
        RepliesByKey (job_among old.keys key) old r key asked frame new s
    DeskReplies old r (jobs from) frame new s =
        (frame ≡ jobs_frame old from) × (new ≡ old) × (s ≡ r)
    DeskReplies old r (counts stops) frame new s = ⊥
