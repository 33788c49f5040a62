-- What is answered to a frame, where the host runs the jobs.
use Rattle.std.specs.Prelude.{◌≡◌, ℕ, List, Result}
use Rattle.sessions.specs.Grammar.{Asked}
use Rattle.streams.specs.Answering.{Answers}
use Rattle.conversation.specs.Handed.{handed_looks, handed_starts, handed_takes}
use Rattle.conversation.specs.Objects.{IsObjectFor}
use Rattle.conversation.specs.declared.clerk.Clerk.{Clerk}
use Rattle.conversation.specs.declared.handed_jobs.HandedJobs.{HandedJobs}

-- The object of the job that a frame asks for is made ready, and then the frame is answered over
-- the ledger: a job that is taken waits for the host, with its object.
pub record ClerkAnswers (old : Clerk) (query : Result Asked ℕ) (reply : List ℕ) (new : Clerk) :
    Type 0 where
  pub mid : HandedJobs
  pub same : mid.waiting.entries ≡ old.jobs.waiting.entries
  pub ready : IsObjectFor mid.ready query
  pub answered : Answers handed_starts handed_looks handed_takes old.ledger mid query reply
      new.ledger new.jobs

abbrev pub clerk_answers : Unit {0} × Clerk → Result Asked ℕ → List ℕ → Unit {0} × Clerk → Type 0
clerk_answers s query reply t = ClerkAnswers s.1 query reply t.1
