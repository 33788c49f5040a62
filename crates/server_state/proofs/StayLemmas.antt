-- The result of a job that is over is sent as it was, until the job is forgotten.
use Rattle.std.proofs.Common.{◌≡◌, ℕ, List, [], ◌∷◌, ◌++◌, nat_lt, if◌then◌else◌, Ok, slice_get, Some, refl, sym, ap, subst, ◌∙◌, inl, inr}
use Rattle.job_core.specs.Admitted.{AdmittedJob}
use Rattle.accounts.specs.Ledgers.{Ledger, report_at}
use Rattle.accounts.specs.declared.keep_limits.KeepLimits.{KeepLimits}
use Rattle.sessions.specs.Grammar.{result}
use Rattle.sessions.specs.Replies.{frame_of, frame_or_refusal, reply_data}
use Rattle.sessions.specs.declared.reply.Reply.{Reply}
use Rattle.streams.specs.Answering as plainly
use Rattle.streams.specs.Answering.{report_told, refused}
use Rattle.server_state.specs.declared.access.Access.{Access}
use Rattle.server_state.specs.declared.job_id.JobId.{JobId}
use Rattle.server_state.specs.Alone.{one_desk, part_of, seen_by_desk, waiting_of}
use Rattle.server_state.specs.Desks.{DeskReplies, refusal_frame}
use Rattle.server_state.specs.Histories.{ServerEvent, was_asked, has_ended, Happens}
use Rattle.server_state.specs.Keyed.{frame_of_event}
use Rattle.server_state.specs.Queries.{Destination, Query, desk_at, goes, desk_query, plain, refused_by}
use Rattle.server_state.specs.Results.{AsksForResult, StaysSent}
use Rattle.server_state.specs.States.{DeskState, JobsSteps, ServerState, starting_to}
use Rattle.server_state.proofs.AloneLemmas.{each_alone}
use Rattle.server_state.proofs.ListEnds.{joined_again, none_pushed}
use Rattle.server_state.proofs.Moments.{Comes, IsAsideAt, Moment, Moments, moment, one_more}
use Rattle.server_state.proofs.StaysOver.{StayOver, StaysAt, result_stays, stay_answered, stay_ended, stay_on, stay_same}

pub framed : (told : Reply) → frame_of told ≡ frame_or_refusal (reply_data told)
unfolding frame_of
framed told = refl

pub refusal_framed : (code : ℕ) → refusal_frame code ≡ frame_or_refusal (refused code)
unfolding frame_of
refusal_framed code = refl

-- a connection of the desk asks the desk
own_place : (access : Access) (number : ℕ) → access.desk ≡ 0 → goes [] access (plain (Ok (result number))) ≡ desk_at 0
own_place access number own = ap (λ (n : ℕ). if◌then◌else◌ {A = Destination} (nat_lt 0 n) (refused_by 74) (desk_at n)) own

module _ {R : Type 0} (m : JobsSteps R) (keep : KeepLimits) where
  -- a request for a result is sent what the desk has of it
  result_sent : (d : DeskState) (r : R) (number : ℕ) (frame : List ℕ) (e : DeskState) (s : R) → DeskReplies m 0 keep d r (plain (Ok (result number))) frame e s → frame ≡ frame_or_refusal (report_told (report_at d.ledger number))
  unfolding DeskReplies plainly.Replies
  result_sent d r number frame e s t = t.0.is ∙ framed t.0.told ∙ ap frame_or_refusal t.0.replies.0

module _ {R : Type 0} (m : JobsSteps R) (keep : KeepLimits) where
  pub sent_at : (x : ServerEvent) (d : DeskState) (r : R) (e : DeskState) (s : R) (number : ℕ) → AsksForResult number x → Comes m keep x d r e s
      → (frame_of_event x ≡ frame_or_refusal (report_told (report_at d.ledger number))) × StayOver d.ledger.jobs e.ledger.jobs
  sent_at (has_ended id outcome) d r e s number asks comes = absurd asks
  sent_at (was_asked connection access query frame started) d r e s number asks (inl t) = (
    result_sent (starting_to started m) keep d r number frame e s
        (subst (λ (q : Query). DeskReplies (starting_to started m) 0 keep d r (desk_query [] access q) frame e s) asks.0 t.1),
    stay_answered (starting_to started m) 0 keep d r (desk_query [] access query) frame e s t.1,
  )
  sent_at (was_asked connection access query frame started) d r e s number asks (inr aside) =
      absurd (subst (λ (to : Destination). IsAsideAt to frame) (ap (goes [] access) asks.0 ∙ own_place access number asks.1) aside)

  -- ---- the moments ahead of a moment

  abbrev Nothing : List ServerEvent → DeskState → List (JobId × AdmittedJob) → R → Type 0
  Nothing events d w r = Unit {0}

  abbrev AllMoments : List ServerEvent → DeskState → List (JobId × AdmittedJob) → R → Type 0
  AllMoments events d w r = Moments m keep Nothing events d

  moment_of : (first : DeskState) (waiting : List (JobId × AdmittedJob)) (q : R) (before after : List ServerEvent) (x : ServerEvent) (s : ServerState R) → Happens m (one_desk keep first waiting q) (before ++ x ∷ after) s
      → (last : DeskState) × Moment m keep AllMoments before x last
  moment_of first waiting q before after x s happens =
      moment m keep AllMoments
      (λ events d w connection access query frame started r e s was to replies. one_more m keep Nothing events (was_asked connection access query frame started) d w r e s tt was (inl (to, replies))
      (stay_answered (starting_to started m) 0 keep d r (desk_query [] access query) frame e s replies))
      (λ events d w r connection access query frame started to was is aside. one_more m keep Nothing events (was_asked connection access query frame started) d w r d r tt was
      (inr (subst (λ (o : Destination). IsAsideAt o frame) (sym is) aside)) (stay_same d.ledger.jobs d.ledger.jobs refl))
      (λ events d w id outcome r e s was takes here noted. one_more m keep Nothing events (has_ended id outcome) d w r e s tt was tt (stay_ended id.number outcome d e noted))
      (λ events d w id outcome r s was takes apart. one_more m keep Nothing events (has_ended id outcome) d w r d s tt was tt (stay_same d.ledger.jobs d.ledger.jobs refl))
      (λ events d job others started r s was starts. was)
      (λ events d w r s was none. was)
      first waiting q (λ b a y is. absurd (none_pushed b a y is)) before after x s happens

  pub stays : (first : DeskState) (waiting : List (JobId × AdmittedJob)) (q : R) (before between after : List ServerEvent) (x y : ServerEvent) (number : ℕ) (s : ServerState R)
      → Happens m (one_desk keep first waiting q) (before ++ x ∷ (between ++ y ∷ after)) s → AsksForResult number x → AsksForResult number y → StaysSent x y
  stays first waiting q before between after x y number s happens asks_x asks_y =
      let at_y = moment_of first waiting q (before ++ x ∷ between) after y s (subst (λ l. Happens m (one_desk keep first waiting q) l s) (sym (joined_again before x between (y ∷ after))) happens) in
      let at_x = at_y.1.holds before between x refl in
      let by_x = sent_at x at_x.old at_x.runner at_x.new at_x.left number asks_x at_x.comes in
      let by_y = sent_at y at_y.1.old at_y.1.runner at_y.1.new at_y.1.left number asks_y at_y.1.comes in
      by_sent at_x.old.ledger at_y.1.old.ledger by_x.0 by_y.0
      (result_stays at_x.old.ledger at_y.1.old.ledger number (stay_on at_x.old.ledger.jobs at_x.new.ledger.jobs at_y.1.old.ledger.jobs by_x.1 at_x.stays))
    where
      by_sent : (d g : Ledger) → frame_of_event x ≡ frame_or_refusal (report_told (report_at d number)) → frame_of_event y ≡ frame_or_refusal (report_told (report_at g number)) → StaysAt d g number → StaysSent x y
      by_sent d g sent_x sent_y (inl unknown) = inl (sent_x ∙ ap frame_or_refusal unknown ∙ sym (refusal_framed 76))
      by_sent d g sent_x sent_y (inr (inl not_over)) = inr (inl (sent_x ∙ ap frame_or_refusal not_over ∙ sym (refusal_framed 77)))
      by_sent d g sent_x sent_y (inr (inr (inl same))) = inr (inr (inl (sent_y ∙ ap frame_or_refusal same ∙ sym sent_x)))
      by_sent d g sent_x sent_y (inr (inr (inr gone))) = inr (inr (inr (sent_y ∙ ap frame_or_refusal gone ∙ sym (refusal_framed 76))))

-- the same at each desk of any server
pub stays_at_each : {R : Type 0} (m : JobsSteps R) (first s : ServerState R) (events : List ServerEvent) (place : ℕ) (begun desk : DeskState) → Happens m first events s → slice_get first.desks place ≡ Some begun → slice_get s.desks place ≡ Some desk
    → (before between after : List ServerEvent) (x y : ServerEvent) (number : ℕ) → part_of first.names place events ≡ before ++ x ∷ (between ++ y ∷ after) → AsksForResult number x → AsksForResult number y → StaysSent x y
stays_at_each m first s events place begun desk happens there at before between after x y number is asks_x asks_y =
    let own = each_alone m place first begun there events s desk happens at in
    stays (seen_by_desk m place) first.keep begun (waiting_of place first.waiting) first.jobs before between after x y number (one_desk first.keep desk (waiting_of place s.waiting) own.left)
    (subst (λ l. Happens (seen_by_desk m place) (one_desk first.keep begun (waiting_of place first.waiting) first.jobs) l (one_desk first.keep desk (waiting_of place s.waiting) own.left)) is own.happens) asks_x asks_y
