-- One answer of a server that connections share.
use Rattle.std.proofs.Common.{◌≡◌, ℕ, List, Result, Ok, Err, IfOk, OnErr, subst}
use Rattle.refusal.specs.declared.NoMemory.{NoMemory}
use Rattle.credit_book.specs.declared.book.Report.{Report}
use Rattle.sessions.specs.Grammar.{Asked}
use Rattle.shared_desk.specs.Histories as shared
use Rattle.server_state.specs.Answering.{ServerAnswers, Collects}
use Rattle.server_state.specs.Changing.{RecordsAll}
use Rattle.server_state.specs.Queries.{Query}
use Rattle.server_state.specs.States.{JobsSteps, ServerState}
use Rattle.server_state.specs.declared.access.Access.{Access}
use Rattle.server_state.specs.declared.change.ChangeSink.{Ghosts}
use Rattle.server_state.specs.declared.job_id.JobId.{JobId}
use Rattle.server_handler.specs.DeskAnswers.{IsReply}
use Rattle.server_handler.specs.Naming.{IsOwnNamed}
use Rattle.server_handler.specs.Shared.{AnswersShared, access_of, query_with}
use Rattle.server_handler.proofs.Among.{all_both}
use Rattle.server_handler.proofs.Replied.{is_reply_weaker}

pub reply_ok : (r : Result (List ℕ) NoMemory) (P : List ℕ → Type 0) → IsReply r P → IfOk r P
reply_ok (Ok frame) P is = is
reply_ok (Err none) P is = tt

pub reply_err : (r : Result (List ℕ) NoMemory) (P : List ℕ → Type 0) → IsReply r P → OnErr r ((frame : List ℕ) × P frame)
reply_err (Ok frame) P is = tt
reply_err (Err none) P is = is

module _ {R C : Type 0} (m : JobsSteps R) (g : Ghosts C) (s mid t : ServerState R) (p q r : C) (query : shared.Query) where
  pub answers_shared : (own : Query) (asked : Result Asked ℕ) (frame : List ℕ) → IsOwnNamed s.names (access_of query.passage) query.asked asked → own ≡ query_with asked query.beyond
      → (ends : List (JobId × Result Report ℕ)) × Collects m s ends mid → ServerAnswers m mid (access_of query.passage) own frame t → RecordsAll g p q s.desks mid.desks → RecordsAll g q r mid.desks t.desks
      → AnswersShared m g (s, p) query frame (t, r)
  answers_shared own asked frame by_name same collected answered first second = record {
    ends = collected.0;
    asked = asked;
    named = by_name;
    answers = record {
      mid = mid;
      collects = collected.1;
      answers = subst (λ (x : Query). ServerAnswers m mid (access_of query.passage) x frame t) same answered;
    };
    records = all_both g p q r s.desks mid.desks t.desks first second;
  }

  -- the same of a reply that is decided, by an access that is the passage's
  pub reply_shared : (access : Access) (own : Query) (asked : Result Asked ℕ) (reply : Result (List ℕ) NoMemory) (before : C) → access ≡ access_of query.passage → before ≡ p
      → IsOwnNamed s.names access query.asked asked → own ≡ query_with asked query.beyond
      → (ends : List (JobId × Result Report ℕ)) × Collects m s ends mid → IsReply reply (λ frame. ServerAnswers m mid access own frame t) → RecordsAll g before q s.desks mid.desks → RecordsAll g q r mid.desks t.desks
      → IsReply reply (λ frame. AnswersShared m g (s, p) query frame (t, r))
  reply_shared access own asked reply before rights start by_name same collected answered first second =
      is_reply_weaker reply (λ frame. ServerAnswers m mid access own frame t) (λ frame. AnswersShared m g (s, p) query frame (t, r))
      (λ frame x. answers_shared own asked frame (subst (λ (a : Access). IsOwnNamed s.names a query.asked asked) rights by_name) same collected
      (subst (λ (a : Access). ServerAnswers m mid a own frame t) rights x) (subst (λ (b : C). RecordsAll g b q s.desks mid.desks) start first) second)
      answered
