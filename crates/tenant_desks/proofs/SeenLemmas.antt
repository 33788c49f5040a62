-- After every history, a tenant's part is one of a plain desk.
use Rattle.std.proofs.Common.{◌≡◌, ◌≢◌, ◌⊎◌, ◌≤◌, ◌<◌, ℕ, zero, suc, false, List, [], ◌∷◌, ◌++◌, length, slice_get, slice_set, Option, Some, None, Result, Ok, Err, refl, sym, ap, subst, ◌∙◌, inl, inr, arith}
use Rattle.std.proofs.lemmas.Bool.{cases_lt}
use Rattle.credit_book.specs.declared.book.Report.{Report}
use Rattle.credit_book.specs.declared.board.Progress.{Progress}
use Rattle.job_core.specs.declared.admission.ProgramBytes.{ProgramBytes}
use Rattle.job_core.specs.Admitted.{AdmittedJob}
use Rattle.accounts.specs.declared.keep_limits.KeepLimits.{KeepLimits}
use Rattle.accounts.specs.Ledgers.{Ledger}
use Rattle.sessions.specs.Grammar.{Asked, grant, account, submit, status, result}
use Rattle.sessions.specs.Replies.{reply_data}
use Rattle.sessions.specs.declared.reply.Reply.{Reply}
use Rattle.streams.specs.Answering.{Replies, Submits}
use Rattle.streams.specs.Passing.{Notes, Taken, none_yet as nothing_taken, one_more as one_taken}
use Rattle.shared_desk.specs.Histories.{HistoryEntry, Query, Replays, none_yet as nothing_replayed, one_more as one_replayed}
use Rattle.tenant_desks.specs.declared.placed_runner.PlacedRunner.{PlacedRunner}
use Rattle.tenant_desks.specs.Placing.{placed}
use Rattle.tenant_desks.specs.PlacedRunners.{starts_placed, looks_placed}
use Rattle.tenant_desks.specs.Routing.{desk_for}
use Rattle.tenant_desks.specs.Tenancies.{Tenancy, ChangesAt}
use Rattle.tenant_desks.specs.Answering.{KeptRunner, NotesAtPlace, EndsTaken, AnswersAlone, AnswersWhere, for_place, named_answers, none_yet as none_ended, one_more as one_ended}
use Rattle.tenant_desks.specs.Alone.{IsTenantHistory, is_place, sent_to}
use Rattle.tenant_desks.specs.Seen.{OthersSteps, no_step, one_start, one_look, one_end, no_end, starts_seen, looks_seen, takes_seen, answers_seen}
use Rattle.tenant_desks.proofs.ChangedDesks.{count_taken}
use Rattle.tenant_desks.proofs.SentEntries.{sent_here, sent_elsewhere, another_place}
use Rattle.tenant_desks.proofs.AloneLemmas.{Stands, stands}

-- a history that begins with one of these states begins with one of more states
pub begins_more : {S : Type 0} {begins more : S → Type 0} (answers : S → Query → List ℕ → S → Type 0) → ((x : S) → begins x → more x) → (history : List HistoryEntry) (s : S) → Replays answers begins history s → Replays answers more history s
begins_more answers weaker _ s (nothing_replayed t is) = nothing_replayed t (weaker t is)
begins_more answers weaker _ s (one_replayed h t e u before answered) = one_replayed h t e u (begins_more answers weaker h t before) answered

-- ---- desks of which one changes

pub same_or_not : (i j : ℕ) → (i ≡ j) ⊎ (i ≢ j)
same_or_not i j = by_less (cases_lt i j) (cases_lt j i)
  where
    by_less : (i < j) ⊎ (j ≤ i) → (j < i) ⊎ (i ≤ j) → (i ≡ j) ⊎ (i ≢ j)
    by_less (inl lt) other = inr (λ same. absurd (omega (arith, lt, same)))
    by_less (inr le) (inl lt) = inr (λ same. absurd (omega (arith, lt, same)))
    by_less (inr le) (inr ge) = inl (omega (arith, le, ge))

set_here : {X : Type 0} (xs : List X) (i : ℕ) (x y : X) → slice_get xs i ≡ Some x → slice_get (slice_set xs i y) i ≡ Some y
set_here [] i x y at = cc
set_here (z ∷ xs) zero x y at = refl
set_here (z ∷ xs) (suc i) x y at = set_here xs i x y at

set_apart : {X : Type 0} (xs : List X) (i j : ℕ) (y : X) → j ≢ i → slice_get (slice_set xs i y) j ≡ slice_get xs j
set_apart [] i j y apart = refl
set_apart (x ∷ xs) zero zero y apart = absurd (apart refl)
set_apart (x ∷ xs) zero (suc j) y apart = refl
set_apart (x ∷ xs) (suc i) zero y apart = refl
set_apart (x ∷ xs) (suc i) (suc j) y apart = set_apart xs i j y (λ same. apart (ap suc same))

some_same : {X : Type 0} (o : Option X) (x y : X) → o ≡ Some x → o ≡ Some y → x ≡ y
some_same o x y first second = cc

within : {X : Type 0} (xs : List X) (i : ℕ) (x : X) → slice_get xs i ≡ Some x → i < length xs
within [] i x at = cc
within (y ∷ xs) zero x at = omega arith
within (y ∷ xs) (suc i) x at = let later = within xs i x at in omega (arith, later)

there_is : {X : Type 0} (xs : List X) (i : ℕ) → i < length xs → (x : X) × (slice_get xs i ≡ Some x)
there_is [] i lt = absurd (omega (arith, lt))
there_is (x ∷ xs) zero lt = (x, refl)
there_is (x ∷ xs) (suc i) lt = there_is xs i (omega (arith, lt))

module _ (change : Ledger → Ledger → Type 0) (place : ℕ) (old new : List Ledger) (d : Ledger) (at : slice_get old place ≡ Some d) where
  pub changed_here : (k : ℕ) → place ≡ k → ChangesAt k change old new → (e : Ledger) × change d e × (slice_get new place ≡ Some e)
  changed_here k same c =
      let there : slice_get old k ≡ Some d = ap (slice_get old) (sym same) ∙ at in (
        c.after,
        subst (λ (x : Ledger). change x c.after) (some_same (slice_get old k) c.before d c.was there) c.changed,
        ap (slice_get new) same ∙ ap (λ (l : List Ledger). slice_get l k) c.is ∙ set_here old k c.before c.after c.was,
      )

  pub changed_apart : (k : ℕ) → place ≢ k → ChangesAt k change old new → slice_get new place ≡ Some d
  changed_apart k apart c = ap (λ (l : List Ledger). slice_get l place) c.is ∙ set_apart old k place c.after apart ∙ at

module _ {R : Type 0} (starts : R → ℕ → AdmittedJob → Result (Unit {0}) ℕ → R → Type 0) (looks : R → ℕ → Progress → R → Type 0) (takes : R → Option (ℕ × Result Report ℕ) → R → Type 0) (place : ℕ) (firsts : List Ledger) (begun : Ledger) (start : R → Type 0) where
  abbrev Others : R → R → Type 0
  Others r s = OthersSteps starts looks takes place r s

  -- ---- the runner's own steps, and those for others

  runners_same : (k : ℕ) (r s : R) → for_place k s ≡ for_place k r → s ≡ r
  runners_same k r s same = ap (λ (x : PlacedRunner R). x.runner) same

  submits_seen : (desk : Ledger) (r : R) (name : List ℕ) (programs : List ProgramBytes) (credit : ℕ) (buffer : List ℕ) (told : Reply) (after : Ledger) (s : R)
      → Submits (starts_placed starts) desk (for_place place r) name programs credit buffer (reply_data told) after (for_place place s)
      → Submits (starts_seen starts looks takes place) desk r name programs credit buffer (reply_data told) after s
  submits_seen desk r name programs credit buffer told after s (inl t) = inl (record {
    mid = t.mid;
    takes = t.takes;
    job = t.job;
    admitted = t.admitted;
    outcome = t.outcome;
    starts_job = (r, no_step, t.starts_job);
    settles = t.settles;
    tells = t.tells;
  })
  submits_seen desk r name programs credit buffer told after s (inr n) = inr (record {
    fault = n.fault;
    why = n.why;
    same = n.same;
    same_runner = runners_same place r s n.same_runner;
    tells = n.tells;
  })

  replies_seen : (desk : Ledger) (r : R) (query : Result Asked ℕ) (told : Reply) (after : Ledger) (s : R)
      → Replies (starts_placed starts) (looks_placed looks) desk (for_place place r) query (reply_data told) after (for_place place s)
      → Replies (starts_seen starts looks takes place) (looks_seen starts looks takes place) desk r query (reply_data told) after s
  unfolding Replies
  replies_seen desk r (Err code) told after s t = (t.0, t.1, runners_same place r s t.2)
  replies_seen desk r (Ok (grant name amount)) told after s t = (t.0, runners_same place r s t.1)
  replies_seen desk r (Ok (account name)) told after s t = (t.0, t.1, runners_same place r s t.2)
  replies_seen desk r (Ok (submit name order)) told after s t = (t.0, t.1, submits_seen desk r name t.0 order.credit order.buffer told after s t.2)
  replies_seen desk r (Ok (status number)) told after s t = (t.0, (r, no_step, t.1), t.2, t.3)
  replies_seen desk r (Ok (result number)) told after s t = (t.0, t.1, runners_same place r s t.2)

  stays_put : (q r s : R) → Others q r → s ≡ r → Others q s
  stays_put q r s before same = subst (Others q) (sym same) before

  module _ (k : ℕ) (apart : k ≢ place) (small : k < 1000) where
    others_submit : (desk : Ledger) (q r : R) (name : List ℕ) (programs : List ProgramBytes) (credit : ℕ) (buffer : List ℕ) (told : Reply) (after : Ledger) (s : R) → Others q r
        → Submits (starts_placed starts) desk (for_place k r) name programs credit buffer (reply_data told) after (for_place k s) → Others q s
    others_submit desk q r name programs credit buffer told after s before (inl t) = elim t.starts_job.0 [
      | inl started ↦ one_start r s (length t.mid.jobs) k t.job t.outcome before apart small started.1
      | inr refused ↦ stays_put q r s before refused.2
    ]
    others_submit desk q r name programs credit buffer told after s before (inr n) = stays_put q r s before (runners_same k r s n.same_runner)

    others_reply : (desk : Ledger) (q r : R) (query : Result Asked ℕ) (told : Reply) (after : Ledger) (s : R) → Others q r
        → Replies (starts_placed starts) (looks_placed looks) desk (for_place k r) query (reply_data told) after (for_place k s) → Others q s
    unfolding Replies
    others_reply desk q r (Err code) told after s before t = stays_put q r s before (runners_same k r s t.2)
    others_reply desk q r (Ok (grant name amount)) told after s before t = stays_put q r s before (runners_same k r s t.1)
    others_reply desk q r (Ok (account name)) told after s before t = stays_put q r s before (runners_same k r s t.2)
    others_reply desk q r (Ok (submit name order)) told after s before t = others_submit desk q r name t.0 order.credit order.buffer told after s before t.2
    others_reply desk q r (Ok (status number)) told after s before t = elim t.1.0 [
      | inl looked ↦ one_look r s number k t.0 before apart small looked.1
      | inr past ↦ stays_put q r s before past.2
    ]
    others_reply desk q r (Ok (result number)) told after s before t = stays_put q r s before (runners_same k r s t.2)

  -- ---- the tenant's part so far

  -- The part is legal, and leads to a desk and a runner. Ends of the desk's jobs since then lead to the
  -- desk as it is, and steps for others to the runner.
  record Part (names : List (List ℕ)) (keep : KeepLimits) (history : List HistoryEntry) (desks : List Ledger) (r : R) : Type 0 where
    first : Ledger
    from : R
    legal : Replays (answers_seen starts looks takes place keep) (λ s. (s.0 ≡ begun) × start s.1) (sent_to names place history) (first, from)
    desk : Ledger
    at : slice_get desks place ≡ Some desk
    since : R
    taken : Taken (takes_seen starts looks takes place) first from desk since
    others : Others since r

  after_end : (names : List (List ℕ)) (keep : KeepLimits) (history : List HistoryEntry) (old : List Ledger) (r : R) (number : ℕ) (outcome : Result Report ℕ) (s : R) (new : List Ledger)
      → takes r (Some (number, outcome)) s → NotesAtPlace old number outcome new → Part names keep history old r → Part names keep history new s
  after_end names keep history old r number outcome s new step n was = by_noted n.noted
    where
      taken_there : takes r (Some (placed n.own n.place, outcome)) s
      taken_there = subst (λ (m : ℕ). takes r (Some (m, outcome)) s) n.is step

      of_others : n.place ≢ place → slice_get new place ≡ Some was.desk → Part names keep history new s
      of_others apart there = record {
        first = was.first;
        from = was.from;
        legal = was.legal;
        desk = was.desk;
        at = there;
        since = was.since;
        taken = was.taken;
        others = one_end r s n.own n.place outcome was.others apart n.small taken_there;
      }

      own : place ≡ n.place → (e : Ledger) × Notes was.desk n.own outcome e × (slice_get new place ≡ Some e) → Part names keep history new s
      own same t = record {
        first = was.first;
        from = was.from;
        legal = was.legal;
        desk = t.0;
        at = t.2;
        since = s;
        taken = one_taken was.desk was.since n.own outcome s t.0 was.taken
            (r, was.others, subst (λ (k : ℕ). takes r (Some (placed n.own k, outcome)) s) (sym same) taken_there) t.1;
        others = no_step;
      }

      by_noted : ChangesAt n.place (λ before after. Notes before n.own outcome after) old new ⊎ ((length old ≤ n.place) × (new ≡ old)) → Part names keep history new s
      by_noted (inl c) = elim (same_or_not place n.place) [
        | inl same ↦ own same (changed_here (λ before after. Notes before n.own outcome after) place old new was.desk was.at n.place same c)
        | inr apart ↦ of_others (λ is. apart (sym is)) (changed_apart (λ before after. Notes before n.own outcome after) place old new was.desk was.at n.place apart c)
      ]
      by_noted (inr past) =
          let here = within old place was.desk was.at in
          let beyond = past.0 in
          of_others (λ is. absurd (omega (arith, here, beyond, is))) (ap (λ (l : List Ledger). slice_get l place) past.1 ∙ was.at)

  after_ends : (names : List (List ℕ)) (keep : KeepLimits) (history : List HistoryEntry) (ds : List Ledger) (r : R) (es : List Ledger) (s : R)
      → EndsTaken takes ds r es s → Part names keep history ds r → Part names keep history es s
  after_ends names keep history ds r es s none_ended was = was
  after_ends names keep history ds r es s (one_ended ds1 r1 number outcome s1 es1 before step noted) was =
      after_end names keep history ds1 r1 number outcome s1 es1 step noted (after_ends names keep history ds r ds1 r1 before was)

  -- ---- an answer

  module _ (names : List (List ℕ)) (keep : KeepLimits) (history : List HistoryEntry) (e : HistoryEntry) (ds : List Ledger) (last r : R) (es : List Ledger) (s : R) (none_left : takes last None r) (was : Part names keep history ds last) where
    elsewhere : is_place place (desk_for names e.query.passage e.query.asked) ≡ false → slice_get es place ≡ Some was.desk → Others was.since s → Part names keep (history ++ e ∷ []) es s
    elsewhere goes there others = record {
      first = was.first;
      from = was.from;
      legal = subst (λ l. Replays (answers_seen starts looks takes place keep) (λ x. (x.0 ≡ begun) × start x.1) l (was.first, was.from)) (sym (sent_elsewhere names place history e goes)) was.legal;
      desk = was.desk;
      at = there;
      since = was.since;
      taken = was.taken;
      others = others;
    }

    here : (after : Ledger) → desk_for names e.query.passage e.query.asked ≡ Ok place
        → AnswersAlone (starts_placed starts) (looks_placed looks) keep (for_place place r) (for_place place s) e.query.asked e.reply was.desk after → slice_get es place ≡ Some after → Part names keep (history ++ e ∷ []) es s
    here after goes a there = record {
      first = after;
      from = s;
      legal = subst (λ l. Replays (answers_seen starts looks takes place keep) (λ x. (x.0 ≡ begun) × start x.1) l (after, s)) (sym (sent_here names place history e goes))
          (one_replayed (sent_to names place history) (was.first, was.from) e (after, s) was.legal (
            a.mid,
            record {
              mid = was.desk;
              rest = r;
              passed = record { last = was.since; taken = was.taken; none_left = (last, was.others, none_left) };
              told = a.told;
              replies = replies_seen was.desk r e.query.asked a.told a.mid s a.replies;
              frame = a.frame;
            },
            a.keeps,
          ));
      desk = after;
      at = there;
      since = s;
      taken = nothing_taken;
      others = no_step;
    }

    answered : (to : Result ℕ ℕ) → length ds ≤ 1000 → desk_for names e.query.passage e.query.asked ≡ to → AnswersWhere starts looks keep to e.query.asked ds r e.reply es s → Part names keep (history ++ e ∷ []) es s
    answered (Err code) few goes t =
        elsewhere (ap (is_place place) goes) (ap (λ (l : List Ledger). slice_get l place) t.1 ∙ was.at) (stays_put was.since r s (no_end last r was.others none_left) t.2)
    answered (Ok k) few goes c = elim (same_or_not place k) [
      | inl same ↦ own same (subst (λ (i : ℕ). AnswersWhere starts looks keep (Ok i) e.query.asked ds r e.reply es s) (sym same) c)
      | inr apart ↦ elsewhere (ap (is_place place) goes ∙ another_place place k apart)
          (changed_apart (AnswersAlone (starts_placed starts) (looks_placed looks) keep (for_place k r) (for_place k s) e.query.asked e.reply) place ds es was.desk was.at k apart c)
          (others_reply k (λ is. apart (sym is)) (let lt = within ds k c.before c.was in omega (arith, lt, few)) c.before was.since r e.query.asked c.changed.told c.changed.mid s
          (no_end last r was.others none_left) c.changed.replies)
    ]
      where
        own : place ≡ k → AnswersWhere starts looks keep (Ok place) e.query.asked ds r e.reply es s → Part names keep (history ++ e ∷ []) es s
        own same x =
            let t = changed_here (AnswersAlone (starts_placed starts) (looks_placed looks) keep (for_place place r) (for_place place s) e.query.asked e.reply) place ds es was.desk was.at place refl x in
            here t.0 (goes ∙ ap Ok (sym same)) t.1 t.2

  -- ---- whole histories

  after_answer : (names : List (List ℕ)) (keep : KeepLimits) (history : List HistoryEntry) (s : Tenancy × KeptRunner R) (e : HistoryEntry) (t : Tenancy × KeptRunner R) → length firsts ≤ 257
      → named_answers starts looks takes s e.query e.reply t → Stands starts looks takes firsts names keep history s → Part names keep history s.0.desks s.1.runner → Part names keep (history ++ e ∷ []) t.0.desks t.1.runner
  after_answer names keep history s e t few answers stood was =
      let a = answers.0 in
      let P : List (List ℕ) × KeepLimits → Type 0 = λ p. AnswersWhere starts looks p.1 (desk_for p.0 e.query.passage e.query.asked) e.query.asked a.mid a.rest e.reply t.0.desks t.1.runner in
      let told = subst P (λ k. (stood.named k, stood.keeps k)) a.answered in
      let count = stood.count in
      let same = count_taken takes s.0.desks s.1.runner a.mid a.passed.last a.passed.taken in
      answered names keep history e a.mid a.passed.last a.rest t.0.desks t.1.runner a.passed.none_left (after_ends names keep history s.0.desks s.1.runner a.mid a.passed.last a.passed.taken was)
      (desk_for names e.query.passage e.query.asked) (omega (arith, count, same, few)) refl told

  -- a history from a state whose runner is one of these
  abbrev pub IsHistoryFrom : List (List ℕ) → KeepLimits → List HistoryEntry → Tenancy × KeptRunner R → Type 0
  IsHistoryFrom names keep = Replays (named_answers starts looks takes) (λ x. ((x.0 ≡ record { names = names; desks = firsts }) × (x.1.keep ≡ keep)) × start x.1.runner)

  part : (names : List (List ℕ)) (keep : KeepLimits) (history : List HistoryEntry) (s : Tenancy × KeptRunner R) → length firsts ≤ 257 → slice_get firsts place ≡ Some begun → IsHistoryFrom names keep history s
      → Part names keep history s.0.desks s.1.runner
  part names keep history s few there (nothing_replayed t begins) =
      record {
        first = begun;
        from = s.1.runner;
        legal = nothing_replayed (begun, s.1.runner) (refl, begins.1);
        desk = begun;
        at = ap (λ (x : Tenancy). slice_get x.desks place) begins.0.0 ∙ there;
        since = s.1.runner;
        taken = nothing_taken;
        others = no_step;
      }
  part names keep history s few there (one_replayed h t e u before told) =
      after_answer names keep h t e u few told (stands starts looks takes firsts names keep h t (begins_more (named_answers starts looks takes) (λ x begins. begins.0) h t before)) (part names keep h t few there before)

  -- the part begins with the same runner
  pub plain_part_from : (names : List (List ℕ)) (keep : KeepLimits) (history : List HistoryEntry) (end : Tenancy × KeptRunner R) → length firsts ≤ 257 → slice_get firsts place ≡ Some begun → IsHistoryFrom names keep history end
      → (s : Ledger × R) × Replays (answers_seen starts looks takes place keep) (λ x. (x.0 ≡ begun) × start x.1) (sent_to names place history) s
  plain_part_from names keep history end few there legal = let p = part names keep history end few there legal in ((p.first, p.from), p.legal)

pub plain_part : {R : Type 0} (starts : R → ℕ → AdmittedJob → Result (Unit {0}) ℕ → R → Type 0) (looks : R → ℕ → Progress → R → Type 0) (takes : R → Option (ℕ × Result Report ℕ) → R → Type 0) (place : ℕ) (firsts : List Ledger) (begun : Ledger)
    (names : List (List ℕ)) (keep : KeepLimits) (history : List HistoryEntry) (end : Tenancy × KeptRunner R) → length firsts ≤ 257 → slice_get firsts place ≡ Some begun → IsTenantHistory starts looks takes names firsts keep history end
    → (s : Ledger × R) × Replays (answers_seen starts looks takes place keep) (λ x. x.0 ≡ begun) (sent_to names place history) s
plain_part {R} starts looks takes place firsts begun names keep history end few there legal =
    let p = plain_part_from starts looks takes place firsts begun (λ _. Unit {0}) names keep history end few there (begins_more (named_answers starts looks takes) (λ x begins. (begins, tt)) history end legal) in
    (p.0, begins_more (answers_seen starts looks takes place keep) (λ x begins. begins.0) (sent_to names place history) p.0 p.1)
