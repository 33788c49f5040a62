-- After every history, each desk is one that its entries lead to alone.
use Rattle.std.proofs.Common.{◌≡◌, ◌≢◌, ℕ, List, [], ◌∷◌, ◌++◌, length, slice_get, unwrap_or, Option, Some, Result, Ok, Err, refl, sym, ap, subst, ◌∙◌, inl, inr}
use Rattle.credit_book.specs.declared.book.Report.{Report}
use Rattle.credit_book.specs.declared.board.Progress.{Progress}
use Rattle.job_core.specs.Admitted.{AdmittedJob}
use Rattle.accounts.specs.declared.keep_limits.KeepLimits.{KeepLimits}
use Rattle.accounts.specs.Ledgers.{Ledger, Finishes}
use Rattle.sessions.specs.Grammar.{Asked}
use Rattle.streams.specs.Passing.{Notes}
use Rattle.shared_desk.specs.Histories.{HistoryEntry, none_yet as nothing_replayed, one_more as one_replayed}
use Rattle.tenant_desks.specs.Placing.{placed}
use Rattle.tenant_desks.specs.PlacedRunners.{starts_placed, looks_placed}
use Rattle.tenant_desks.specs.Routing.{desk_for}
use Rattle.tenant_desks.specs.Tenancies.{Tenancy, fresh_desk}
use Rattle.tenant_desks.specs.Answering.{KeptRunner, NotesAtPlace, EndsTaken, AnswersAlone, AnswersWhere, for_place, refusal_frame, named_answers, none_yet as none_taken, one_more as one_taken}
use Rattle.tenant_desks.specs.Alone.{IsAloneHistory, IsTenantHistory, IsToldWhy, AreToldWhy, DeskEvent, was_asked, has_ended, entries_in, sent_to, is_place, none_yet, one_ended, one_asked}
use Rattle.tenant_desks.proofs.ChangedDesks.{EachDesk, each_changed, count_changed, count_taken}
use Rattle.tenant_desks.proofs.StartedTo.{answered_to}
use Rattle.tenant_desks.proofs.SentEntries.{sent_here, sent_elsewhere, another_place}

-- the first desk at a place
abbrev pub first_of : List Ledger → ℕ → Ledger
first_of firsts place = unwrap_or (slice_get firsts place) fresh_desk

entries_ended : (events : List DeskEvent) (number : ℕ) (outcome : Result Report ℕ) → entries_in (events ++ has_ended number outcome ∷ []) ≡ entries_in events
entries_ended [] number outcome = refl
entries_ended (was_asked e started ∷ events) number outcome = ap (λ es. e ∷ es) (entries_ended events number outcome)
entries_ended (has_ended n o ∷ events) number outcome = entries_ended events number outcome

entries_asked : (events : List DeskEvent) (e : HistoryEntry) (started : Result (Unit {0}) ℕ) → entries_in (events ++ was_asked e started ∷ []) ≡ entries_in events ++ e ∷ []
entries_asked [] e started = refl
entries_asked (was_asked f other ∷ events) e started = ap (λ es. f ∷ es) (entries_asked events e started)
entries_asked (has_ended n o ∷ events) e started = entries_asked events e started

module _ {R : Type 0} (starts : R → ℕ → AdmittedJob → Result (Unit {0}) ℕ → R → Type 0) (looks : R → ℕ → Progress → R → Type 0) (takes : R → Option (ℕ × Result Report ℕ) → R → Type 0) (firsts : List Ledger) where
  -- the desk at the place is one that these entries lead to alone, from the first desk there
  abbrev Alone : List (List ℕ) → KeepLimits → List HistoryEntry → ℕ → Ledger → Type 0
  Alone names keep history place desk = IsAloneHistory starts looks takes place keep (first_of firsts place) (sent_to names place history) desk

  -- ---- ends of jobs are passed to the desks

  -- what happens more at the desk

  alone_ended : (place : ℕ) (keep : KeepLimits) (entries : List HistoryEntry) (d e : Ledger) (number : ℕ) (outcome : Result Report ℕ) (r s : R) → IsAloneHistory starts looks takes place keep (first_of firsts place) entries d
      → takes r (Some (placed number place, outcome)) s → Finishes d number outcome e → IsAloneHistory starts looks takes place keep (first_of firsts place) entries e
  alone_ended place keep entries d e number outcome r s h step finishes = record {
    events = h.events ++ has_ended number outcome ∷ [];
    same = entries_ended h.events number outcome ∙ h.same;
    happens = one_ended h.events d e number outcome r s h.happens step finishes;
  }

  alone_asked : (place : ℕ) (keep : KeepLimits) (entries : List HistoryEntry) (d a : Ledger) (e : HistoryEntry) (r s : R) → IsAloneHistory starts looks takes place keep (first_of firsts place) entries d
      → AnswersAlone (starts_placed starts) (looks_placed looks) keep (for_place place r) (for_place place s) e.query.asked e.reply d a → IsAloneHistory starts looks takes place keep (first_of firsts place) (entries ++ e ∷ []) a
  alone_asked place keep entries d a e r s h alone =
      let told = answered_to (starts_placed starts) (looks_placed looks) keep (for_place place r) (for_place place s) e.query.asked e.reply d a alone in
      record {
        events = h.events ++ was_asked e told.0 ∷ [];
        same = entries_asked h.events e told.0 ∙ ap (λ es. es ++ e ∷ []) h.same;
        happens = one_asked h.events d a e told.0 r s h.happens told.1;
      }

  after_note : (names : List (List ℕ)) (keep : KeepLimits) (history : List HistoryEntry) (old : List Ledger) (r : R) (number : ℕ) (outcome : Result Report ℕ) (s : R) (new : List Ledger)
      → takes r (Some (number, outcome)) s → NotesAtPlace old number outcome new → EachDesk (Alone names keep history) old → EachDesk (Alone names keep history) new
  after_note names keep history old r number outcome s new step n was = elim n.noted [
    | inl c ↦ each_changed (Alone names keep history) (Alone names keep history) n.place (λ before after. Notes before n.own outcome after) old new c noted (λ i d apart h. h) was
    | inr t ↦ subst (EachDesk (Alone names keep history)) (sym t.1) was
  ]
    where
      noted : (d e : Ledger) → Alone names keep history n.place d → Notes d n.own outcome e → Alone names keep history n.place e
      noted d e h (inl finishes) =
          alone_ended n.place keep (sent_to names n.place history) d e n.own outcome r s h (subst (λ (m : ℕ). takes r (Some (m, outcome)) s) n.is step) finishes
      noted d e h (inr t) = subst (Alone names keep history n.place) (sym t.1) h

  after_taken : (names : List (List ℕ)) (keep : KeepLimits) (history : List HistoryEntry) (ds : List Ledger) (r : R) (es : List Ledger) (s : R)
      → EndsTaken takes ds r es s → EachDesk (Alone names keep history) ds → EachDesk (Alone names keep history) es
  after_taken names keep history ds r es s none_taken was = was
  after_taken names keep history ds r es s (one_taken ds1 r1 number outcome s1 es1 before step noted) was =
      after_note names keep history ds1 r1 number outcome s1 es1 step noted (after_taken names keep history ds r ds1 r1 before was)

  -- ---- an answer

  after_where : (names : List (List ℕ)) (keep : KeepLimits) (history : List HistoryEntry) (e : HistoryEntry) (place : Result ℕ ℕ) (ds : List Ledger) (r : R) (es : List Ledger) (s : R)
      → desk_for names e.query.passage e.query.asked ≡ place → AnswersWhere starts looks keep place e.query.asked ds r e.reply es s
      → EachDesk (Alone names keep history) ds → EachDesk (Alone names keep (history ++ e ∷ [])) es
  after_where names keep history e (Err code) ds r es s goes answered was =
      λ i desk at.
      subst (λ es. IsAloneHistory starts looks takes i keep (first_of firsts i) es desk) (sym (sent_elsewhere names i history e (ap (is_place i) goes)))
      (was i desk (ap (λ l. slice_get l i) (sym answered.1) ∙ at))
  after_where names keep history e (Ok place) ds r es s goes answered was =
      each_changed (Alone names keep history) (Alone names keep (history ++ e ∷ [])) place (AnswersAlone (starts_placed starts) (looks_placed looks) keep (for_place place r) (for_place place s) e.query.asked e.reply)
      ds es answered here others was
    where
      here : (d a : Ledger) → Alone names keep history place d → AnswersAlone (starts_placed starts) (looks_placed looks) keep (for_place place r) (for_place place s) e.query.asked e.reply d a
          → Alone names keep (history ++ e ∷ []) place a
      here d a h alone =
          subst (λ es. IsAloneHistory starts looks takes place keep (first_of firsts place) es a) (sym (sent_here names place history e goes))
          (alone_asked place keep (sent_to names place history) d a e r s h alone)

      others : (i : ℕ) (d : Ledger) → i ≢ place → Alone names keep history i d → Alone names keep (history ++ e ∷ []) i d
      others i d apart h =
          subst (λ es. IsAloneHistory starts looks takes i keep (first_of firsts i) es d) (sym (sent_elsewhere names i history e (ap (is_place i) goes ∙ another_place i place apart))) h

  pub count_where : (keep : KeepLimits) (place : Result ℕ ℕ) (query : Result Asked ℕ) (ds : List Ledger) (r : R) (reply : List ℕ) (es : List Ledger) (s : R)
      → AnswersWhere starts looks keep place query ds r reply es s → length es ≡ length ds
  count_where keep (Err code) query ds r reply es s t = ap length t.1
  count_where keep (Ok place) query ds r reply es s c = count_changed place _ ds es c

  -- ---- whole histories

  -- a state after a history
  pub record Stands (names : List (List ℕ)) (keep : KeepLimits) (history : List HistoryEntry) (s : Tenancy × KeptRunner R) : Type 0 where
    pub named : s.0.names ≡ names
    pub keeps : s.1.keep ≡ keep
    pub count : length s.0.desks ≡ length firsts
    pub each : EachDesk (Alone names keep history) s.0.desks

  after_answer : (names : List (List ℕ)) (keep : KeepLimits) (history : List HistoryEntry) (s : Tenancy × KeptRunner R) (e : HistoryEntry) (t : Tenancy × KeptRunner R)
      → named_answers starts looks takes s e.query e.reply t → Stands names keep history s → Stands names keep (history ++ e ∷ []) t
  after_answer names keep history s e t answers was =
      let a = answers.0 in
      let P : List (List ℕ) × KeepLimits → Type 0 = λ p. AnswersWhere starts looks p.1 (desk_for p.0 e.query.passage e.query.asked) e.query.asked a.mid a.rest e.reply t.0.desks t.1.runner in
      let answered = subst P (λ k. (was.named k, was.keeps k)) a.answered in
      record {
        named = answers.1 ∙ was.named;
        keeps = answers.2 ∙ was.keeps;
        count = count_where keep _ e.query.asked a.mid a.rest e.reply t.0.desks t.1.runner answered ∙ count_taken takes s.0.desks s.1.runner a.mid a.passed.last a.passed.taken ∙ was.count;
        each = after_where names keep history e _ a.mid a.rest t.0.desks t.1.runner refl answered
            (after_taken names keep history s.0.desks s.1.runner a.mid a.passed.last a.passed.taken was.each);
      }

  pub stands : (names : List (List ℕ)) (keep : KeepLimits) (history : List HistoryEntry) (s : Tenancy × KeptRunner R) → IsTenantHistory starts looks takes names firsts keep history s → Stands names keep history s
  stands names keep history s (nothing_replayed t begins) = record {
    named = ap (λ (x : Tenancy). x.names) begins.0;
    keeps = begins.1;
    count = ap (λ (x : Tenancy). length x.desks) begins.0;
    each = λ place desk at. let first : first_of firsts place ≡ desk = ap (λ (o : Option Ledger). unwrap_or o fresh_desk) (ap (λ (x : Tenancy). slice_get x.desks place) (sym begins.0) ∙ at) in
        subst (IsAloneHistory starts looks takes place keep (first_of firsts place) []) first (record { events = []; same = refl; happens = none_yet });
  }
  stands names keep history s (one_replayed h t e u before answered) = after_answer names keep h t e u answered (stands names keep h t before)

  pub as_many_desks : (names : List (List ℕ)) (keep : KeepLimits) (history : List HistoryEntry) (end : Tenancy × KeptRunner R) → IsTenantHistory starts looks takes names firsts keep history end → length end.0.desks ≡ length firsts
  as_many_desks names keep history end legal = (stands names keep history end legal).count

  pub each_alone : (names : List (List ℕ)) (keep : KeepLimits) (history : List HistoryEntry) (end : Tenancy × KeptRunner R) (place : ℕ) (first desk : Ledger)
      → IsTenantHistory starts looks takes names firsts keep history end → slice_get firsts place ≡ Some first → slice_get end.0.desks place ≡ Some desk
      → IsAloneHistory starts looks takes place keep first (sent_to names place history) desk
  each_alone names keep history end place first desk legal begun at =
      let same : first_of firsts place ≡ first = ap (λ (o : Option Ledger). unwrap_or o fresh_desk) begun in
      subst (λ (d : Ledger). IsAloneHistory starts looks takes place keep d (sent_to names place history) desk) same ((stands names keep history end legal).each place desk at)

  -- ---- what goes nowhere

  same_frame : (place : Result ℕ ℕ) (a b : ℕ) → place ≡ Err a → place ≡ Err b → refusal_frame a ≡ refusal_frame b
  same_frame place a b first second = let codes : a ≡ b = cc in ap refusal_frame codes

  told_why : (keep : KeepLimits) (names : List (List ℕ)) (e : HistoryEntry) (place : Result ℕ ℕ) (ds : List Ledger) (r : R) (es : List Ledger) (s : R)
      → desk_for names e.query.passage e.query.asked ≡ place → AnswersWhere starts looks keep place e.query.asked ds r e.reply es s → IsToldWhy names e
  told_why keep names e (Err code) ds r es s goes answered other is =
      answered.0 ∙ same_frame (desk_for names e.query.passage e.query.asked) code other goes is
  told_why keep names e (Ok place) ds r es s goes answered other is = let clash : Ok place ≡ Err other = sym goes ∙ is in cc

  told_joined : (names : List (List ℕ)) (history : List HistoryEntry) (e : HistoryEntry) → AreToldWhy names history → IsToldWhy names e → AreToldWhy names (history ++ e ∷ [])
  told_joined names [] e was last = (last, tt)
  told_joined names (x ∷ history) e was last = (was.0, told_joined names history e was.1 last)

  pub are_told_why : (names : List (List ℕ)) (keep : KeepLimits) (history : List HistoryEntry) (end : Tenancy × KeptRunner R) → IsTenantHistory starts looks takes names firsts keep history end → AreToldWhy names history
  are_told_why names keep history end (nothing_replayed t begins) = tt
  are_told_why names keep history end (one_replayed h s e t before answered) =
      let named = (stands names keep h s before).named in
      let a = answered.0 in
      let P : List (List ℕ) → Type 0 = λ ns. AnswersWhere starts looks s.1.keep (desk_for ns e.query.passage e.query.asked) e.query.asked a.mid a.rest e.reply t.0.desks t.1.runner in
      told_joined names h e (are_told_why names keep h s before) (told_why s.1.keep names e _ a.mid a.rest t.0.desks t.1.runner refl (subst P named a.answered))
