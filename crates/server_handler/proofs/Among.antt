-- One desk among others: what it answers, and what is added, for the whole server.
use Rattle.std.proofs.Common.{◌≡◌, ℕ, zero, suc, List, [], ◌∷◌, ◌++◌, append_assoc, append-nil, slice_get, slice_set, Some, Result, IfOk, refl, sym, ap, subst, ◌∙◌, inl, inr}
use Rattle.refusal.specs.declared.NoMemory.{NoMemory}
use Rattle.credit_book.specs.declared.book.Report.{Report}
use Rattle.server_state.specs.Answering.{ServerAnswers, AnswersAt, EndsJob}
use Rattle.server_state.specs.Changing.{AddsAll, LeadAll, Leads, Makes, RecordsAll, desk_of, no_change, one_change}
use Rattle.server_state.specs.Changing as changing
use Rattle.server_state.specs.Desks.{DeskReplies, refusal_frame}
use Rattle.server_state.specs.Queries.{Destination, Query, desk_at, desk_query, goes, refused_by}
use Rattle.server_state.specs.States.{DeskState, JobsSteps, ServerState}
use Rattle.server_state.specs.declared.access.Access.{Access}
use Rattle.server_state.specs.declared.change.DeskChange.{DeskChange}
use Rattle.server_state.specs.declared.change.ChangeSink.{Ghosts}
use Rattle.server_state.specs.declared.job_id.JobId.{JobId}
use Rattle.server_handler.specs.DeskAnswers.{IsReply, RecordsAt}
use Rattle.server_handler.specs.Serving.{NotesAmong}
use Rattle.server_handler.proofs.Replied.{is_reply, is_reply_weaker}

-- ---- lists of which one item was set

set_here : {X : Type 0} (xs : List X) (i : ℕ) (x y : X) → slice_get xs i ≡ Some x → slice_get (slice_set xs i y) i ≡ Some y
set_here [] i x y at = cc
set_here (z ∷ xs) zero x y at = refl
set_here (z ∷ xs) (suc i) x y at = set_here xs i x y at

set_same : {X : Type 0} (xs : List X) (i : ℕ) (x : X) → slice_get xs i ≡ Some x → slice_set xs i x ≡ xs
set_same [] i x at = cc
set_same (z ∷ xs) zero x at = let same : z ≡ x = cc in ap (λ y. y ∷ xs) (sym same)
set_same (z ∷ xs) (suc i) x at = ap (λ ys. z ∷ ys) (set_same xs i x at)

set_twice : {X : Type 0} (xs : List X) (i : ℕ) (x y : X) → slice_set (slice_set xs i x) i y ≡ slice_set xs i y
set_twice [] i x y = refl
set_twice (z ∷ xs) zero x y = refl
set_twice (z ∷ xs) (suc i) x y = ap (λ ys. z ∷ ys) (set_twice xs i x y)

-- ---- what is added

lead_all : (place : ℕ) (desks : List DeskState) (d e : DeskState) (cs : List DeskChange) → slice_get desks place ≡ Some d → Leads place d cs e → LeadAll desks cs (slice_set desks place e)
lead_all place desks d _ _ at changing.no_change = subst (λ (ds : List DeskState). LeadAll desks [] ds) (sym (set_same desks place d at)) no_change
lead_all place desks d e _ at (changing.one_change cs mid c u before here makes) =
    let was = lead_all place desks d mid cs at before in
    let there : slice_get (slice_set desks place mid) (desk_of c) ≡ Some mid = ap (slice_get (slice_set desks place mid)) here ∙ set_here desks place d mid at in
    subst (λ (ds : List DeskState). LeadAll desks (cs ++ c ∷ []) ds) (ap (λ (i : ℕ). slice_set (slice_set desks place mid) i u) here ∙ set_twice desks place mid u)
    (one_change cs (slice_set desks place mid) c mid u was there makes)

all_then : (a b e : List DeskState) (cs ds : List DeskChange) → LeadAll a cs b → LeadAll b ds e → LeadAll a (cs ++ ds) e
all_then a b _ cs _ first no_change = subst (λ (l : List DeskChange). LeadAll a l b) (sym (append-nil cs)) first
all_then a b e cs _ first (one_change ds desks c mid u before there makes) =
    subst (λ (l : List DeskChange). LeadAll a l (slice_set desks (desk_of c) u)) (append_assoc cs ds (c ∷ []))
    (one_change (cs ++ ds) desks c mid u (all_then a b desks cs ds first before) there makes)

module _ {C : Type 0} (g : Ghosts C) where
  pub all_both : (p q r : C) (a b e : List DeskState) → RecordsAll g p q a b → RecordsAll g q r b e → RecordsAll g p r a e
  all_both p q r a b e first second = record {
    sound = λ on. first.sound (second.sound on);
    adds = λ on. let x = first.adds (second.sound on) in let y = second.adds on in record {
      changes = x.changes ++ y.changes;
      lead = all_then a b e x.changes y.changes x.lead y.lead;
      added = y.added ∙ ap (λ (l : List DeskChange). l ++ y.changes) x.added ∙ append_assoc (g.added p) x.changes y.changes;
    };
  }

  pub all_nothing : (p : C) (a b : List DeskState) → b ≡ a → RecordsAll g p p a b
  all_nothing p a b same = record {
    sound = λ on. on;
    adds = λ on. record { changes = []; lead = subst (λ (ds : List DeskState). LeadAll a [] ds) (sym same) no_change; added = sym (append-nil (g.added p)) };
  }

  pub all_at : (p q : C) (place : ℕ) (desks : List DeskState) (d e : DeskState) → slice_get desks place ≡ Some d → RecordsAt g place p q d e → RecordsAll g p q desks (slice_set desks place e)
  all_at p q place desks d e at records = record {
    sound = records.sound;
    adds = λ on. let x = records.adds on in record { changes = x.changes; lead = lead_all place desks d e x.changes at x.leads; added = x.added };
  }

-- ---- for the whole server

module _ {R : Type 0} (m : JobsSteps R) (s : ServerState R) where
  at_desks : List DeskState → R → ServerState R
  at_desks desks r = record s { desks = desks; jobs = r }

  pub ends_among : (desks : List DeskState) (r : R) (id : JobId) (outcome : Result Report ℕ) (new : List DeskState) (q : R) → m.takes r (Some (id, outcome)) q → NotesAmong desks id outcome new
      → EndsJob m (record s { desks = desks; jobs = r }) id outcome (record s { desks = new; jobs = q })
  unfolding at_desks
  ends_among desks r id outcome new q takes (inl n) = record {
    takes = takes;
    notes = inl (record { before = n.before; was = n.was; after = n.after; changed = n.notes; is = ap (λ (ds : List DeskState). at_desks ds q) n.is });
  }
  ends_among desks r id outcome new q takes (inr past) = record { takes = takes; notes = inr (past.0, ap (λ (ds : List DeskState). at_desks ds q) past.1) }

  pub answered_nowhere : (desks : List DeskState) (r : R) (access : Access) (query : Query) (code : ℕ) (reply : Result (List ℕ) NoMemory) → goes s.names access query ≡ refused_by code
      → IfOk reply (λ frame. frame ≡ refusal_frame code)
      → IsReply reply (λ frame. ServerAnswers m (record s { desks = desks; jobs = r }) access query frame (record s { desks = desks; jobs = r }))
  answered_nowhere desks r access query code reply to is =
      is_reply reply (λ frame. ServerAnswers m (record s { desks = desks; jobs = r }) access query frame (record s { desks = desks; jobs = r })) (refusal_frame code) is
      (subst (λ (d : Destination). AnswersAt m d (record s { desks = desks; jobs = r }) (desk_query s.names access query) (refusal_frame code) (record s { desks = desks; jobs = r })) (sym to) (refl, refl))

  pub answered_among : (desks : List DeskState) (r : R) (access : Access) (query own : Query) (place : ℕ) (before after : DeskState) (q : R) (reply : Result (List ℕ) NoMemory) → goes s.names access query ≡ desk_at place
      → own ≡ desk_query s.names access query → slice_get desks place ≡ Some before
      → IsReply reply (λ frame. DeskReplies m place s.keep before r own frame after q)
      → IsReply reply (λ frame. ServerAnswers m (record s { desks = desks; jobs = r }) access query frame (record s { desks = slice_set desks place after; jobs = q }))
  answered_among desks r access query own place before after q reply to same was is =
      is_reply_weaker reply (λ frame. DeskReplies m place s.keep before r own frame after q) _
      (λ frame t. subst (λ (d : Destination). AnswersAt m d (record s { desks = desks; jobs = r }) (desk_query s.names access query) frame (record s { desks = slice_set desks place after; jobs = q })) (sym to) (record {
        before = before;
        was = was;
        after = after;
        changed = subst (λ (x : Query). DeskReplies m place s.keep before r x frame after q) same t;
        is = refl;
      }))
      is
