-- Two desks at which the same happens are alike, and send the same.
use Rattle.std.proofs.Common.{◌≡◌, ◌≢◌, ◌⊎◌, ◌-◌, ◌+◌, ℕ, zero, suc, List, [], ◌∷◌, ◌++◌, drop, take, length, nat_lt, if◌then◌else◌, Option, Some, None, Result, Ok, Err, refl, sym, ap, subst, ◌∙◌, inl, inr}
use Rattle.std.specs.Str.{bytes_eq}
use Rattle.credit_book.specs.declared.book.Report.{Report}
use Rattle.job_core.specs.Admitted.{AdmittedJob}
use Rattle.accounts.proofs.LastJob.{all_kept}
use Rattle.accounts.specs.Jobs.{job_at}
use Rattle.accounts.specs.Ledgers.{Finishes, IsNotOpen, Ledger}
use Rattle.accounts.specs.Limits.{keeps_all}
use Rattle.accounts.specs.Listing.{all_listed, listed_from, listed_job, listed_state, listing, most_listed}
use Rattle.accounts.specs.declared.jobs.JobEntry.{JobEntry}
use Rattle.accounts.specs.declared.jobs.JobStanding.{JobStanding}
use Rattle.accounts.specs.declared.jobs.JobStanding.TheVariants.{Open}
use Rattle.accounts.specs.declared.listing.ListedJob.{ListedJob}
use Rattle.sessions.specs.Grammar.{Asked}
use Rattle.sessions.specs.JobKeys.{job_among, noted}
use Rattle.sessions.specs.Replies.{frame_of, frame_or_refusal, jobs_data, reply_data}
use Rattle.sessions.specs.declared.job_key.KeyedJob.{KeyedJob}
use Rattle.sessions.specs.declared.reply.Reply.{Reply}
use Rattle.streams.specs.Passing.{Notes}
use Rattle.server_state.specs.AlikeEvents.{EachTwo, HappensAlike, IsSentAlike, TellsHowFar}
use Rattle.server_state.specs.Alone.{one_desk}
use Rattle.server_state.specs.Answering.{NotesEnd, TellsCounts}
use Rattle.server_state.specs.Desks.{DeskReplies, RepliesByKey, RepliesOrRefuses, RepliesPlainly, first_number, jobs_frame, keys_behind, looks_at, refusal_frame, starts_at}
use Rattle.server_state.specs.Histories.{Happens, ServerEvent, was_asked, has_ended}
use Rattle.server_state.specs.Queries.{Destination, Query, counts, desk_at, desk_query, goes, jobs, keyed, plain}
use Rattle.server_state.specs.States.{DeskState, JobsSteps, ServerState, starting_to}
use Rattle.server_state.specs.declared.access.Access.{Access}
use Rattle.server_state.specs.declared.job_id.JobId.{JobId}
use Rattle.server_state.proofs.AdmissionLemmas.{one_admission}
use Rattle.server_state.proofs.AlikeDesks.{AlikeDesks, AlikeEntries, AlikeJobs, AlikeOptions, finishes_alike, job_alike, length_alike}
use Rattle.server_state.proofs.AlikeReplies.{AlikeReplies, HadMemory, carried, flip, replies_alike}
use Rattle.server_state.proofs.OneDesk.{IsAside, of_counts, of_refusal}
use Rattle.server_state.proofs.Traces.{Trace, nothing, asked, aside, ended, lost, trace_of}

pub record AlikeStates (d e : DeskState) : Type 0 where
  pub ledgers : AlikeDesks d.ledger e.ledger
  pub keys : d.keys ≡ e.keys

-- the frames of two events that are sent alike
abbrev Sent : List ℕ → List ℕ → Type 0
Sent frame f = (frame ≡ f) ⊎ (TellsHowFar frame × TellsHowFar f) ⊎ (TellsCounts frame × TellsCounts f)

-- ---- listings

drop_alike : (n : ℕ) (xs ys : List JobEntry) → AlikeJobs xs ys → AlikeJobs (drop n xs) (drop n ys)
drop_alike zero xs ys a = a
drop_alike (suc n) [] [] a = tt
drop_alike (suc n) [] (y ∷ ys) a = absurd a
drop_alike (suc n) (x ∷ xs) [] a = absurd a
drop_alike (suc n) (x ∷ xs) (y ∷ ys) a = drop_alike n xs ys a.1

listed_alike : (number : ℕ) (xs ys : List JobEntry) → AlikeJobs xs ys → all_listed number xs ≡ all_listed number ys
listed_alike number [] [] a = refl
listed_alike number [] (y ∷ ys) a = absurd a
listed_alike number (x ∷ xs) [] a = absurd a
listed_alike number (x ∷ xs) (y ∷ ys) a = λ k.
    (if◌then◌else◌ {A = List ListedJob} (bytes_eq (a.0.tenant k) []) [] (record { job = number; state = listed_state (a.0.standing k) } ∷ [])) ++ listed_alike (number + 1) xs ys a.1 k

listing_alike : (number : ℕ) (xs ys : List JobEntry) → AlikeJobs xs ys → listing xs number ≡ listing ys number
unfolding listed_from
listing_alike number xs ys a = ap (take most_listed) (listed_alike number (drop (number - 1) xs) (drop (number - 1) ys) (drop_alike (number - 1) xs ys a))

jobs_frame_alike : (d e : DeskState) (from : ℕ) → AlikeStates d e → jobs_frame d from ≡ jobs_frame e from
unfolding jobs_frame
jobs_frame_alike d e from a = λ k.
    frame_or_refusal (jobs_data (length_alike d.ledger.jobs e.ledger.jobs a.ledgers.jobs k) (listing_alike (first_number from) d.ledger.jobs e.ledger.jobs a.ledgers.jobs k) (a.keys k))

-- ---- ends

there_alike : (o : Option JobEntry) (x : JobEntry) → AlikeOptions (Some x) o → (y : JobEntry) × (o ≡ Some y) × AlikeEntries x y
there_alike None x a = absurd a
there_alike (Some y) x a = (y, refl, a)

not_both : (d e d' : Ledger) (number : ℕ) (outcome : Result Report ℕ) → AlikeDesks d e → Finishes d number outcome d' → IsNotOpen e number → ⊥
not_both d e d' number outcome a f none =
    let at = subst (λ (o : Option JobEntry). AlikeOptions o (job_at e.jobs number)) f.was (job_alike d.jobs e.jobs number a.jobs) in
    let y = there_alike (job_at e.jobs number) f.entry at in
    none y.0 y.1 (sym y.2.standing ∙ f.opened)

notes_alike : (d e d' e' : Ledger) (number : ℕ) (outcome : Result Report ℕ) → AlikeDesks d e → Notes d number outcome d' → Notes e number outcome e' → AlikeDesks d' e'
notes_alike d e d' e' number outcome a (inl f) (inl g) = finishes_alike d e d' e' number outcome a f g
notes_alike d e d' e' number outcome a (inl f) (inr n) = absurd (not_both d e d' number outcome a f n.0)
notes_alike d e d' e' number outcome a (inr n) (inl f) = absurd (not_both e d e' number outcome (flip d e a) f n.0)
notes_alike d e d' e' number outcome a (inr n) (inr o) = carried d e d' e' n.1 o.1 a

ends_alike : (d e d' e' : DeskState) (number : ℕ) (outcome : Result Report ℕ) → AlikeStates d e → NotesEnd number outcome d d' → NotesEnd number outcome e e' → AlikeStates d' e'
ends_alike d e d' e' number outcome a n o = record {
  ledgers = notes_alike d.ledger e.ledger d'.ledger e'.ledger number outcome a.ledgers n.notes o.notes;
  keys = n.keys ∙ a.keys ∙ sym o.keys;
}

-- ---- replies

framed_alike : (told : Reply) (frame : List ℕ) → frame ≡ frame_of told → frame ≡ frame_or_refusal (reply_data told)
unfolding frame_of
framed_alike told frame is = is

had_memory : (told : Reply) (frame : List ℕ) → frame ≡ frame_of told → frame ≢ refusal_frame 99 → HadMemory told
unfolding frame_of
had_memory told frame is apart same = apart (is ∙ ap frame_or_refusal same)

sent : (t u : Reply) (frame f : List ℕ) → frame ≡ frame_of t → f ≡ frame_of u → AlikeReplies t u → Sent frame f
sent t u frame f first second (inl same) = inl (framed_alike t frame first ∙ ap frame_or_refusal same ∙ sym (framed_alike u f second))
sent t u frame f first second (inr both) = inr (inl (
  (both.0.complete, both.0.returned, both.0.spent, framed_alike t frame first ∙ ap frame_or_refusal both.2),
  (both.1.complete, both.1.returned, both.1.spent, framed_alike u f second ∙ ap frame_or_refusal both.3),
))

same_states : (d e d' e' : DeskState) → d' ≡ d → e' ≡ e → AlikeStates d e → AlikeStates d' e'
same_states d e d' e' first second a = let P : DeskState × DeskState → Type 0 = λ p. AlikeStates p.0 p.1 in subst P (λ k. (sym first k, sym second k)) a

module _ {R : Type 0} (m : JobsSteps R) (started : Result (Unit {0}) ℕ) where
  abbrev ours : JobsSteps R
  ours = starting_to started m

  plainly_alike : (d e : Ledger) (r s : R) (asks : Asked) (frame f : List ℕ) (d' e' : Ledger) (r' s' : R) → AlikeDesks d e → RepliesPlainly ours 0 keeps_all d r asks frame d' r' → RepliesPlainly ours 0 keeps_all e s asks f e' s'
      → frame ≢ refusal_frame 99 → f ≢ refusal_frame 99 → AlikeDesks d' e' × Sent frame f
  plainly_alike d e r s asks frame f d' e' r' s' a t u first second =
      let both = replies_alike (starts_at m 0) (looks_at m 0) one_admission d e r s (Ok asks) t.told u.told t.mid u.mid r' s' started a t.replies u.replies (had_memory t.told frame t.is first) (had_memory u.told f u.is second) in
      (carried t.mid u.mid d' e' (all_kept t.mid d' t.keeps) (all_kept u.mid e' u.keeps) both.0, sent t.told u.told frame f t.is u.is both.1)

  request_alike : (d e : DeskState) (r s : R) (asks : Result Asked ℕ) (frame f : List ℕ) (d' e' : DeskState) (r' s' : R) → AlikeStates d e → RepliesOrRefuses ours 0 keeps_all d r asks frame d' r'
      → RepliesOrRefuses ours 0 keeps_all e s asks f e' s' → frame ≢ refusal_frame 99 → f ≢ refusal_frame 99 → AlikeStates d' e' × Sent frame f
  request_alike d e r s (Ok asks) frame f d' e' r' s' a t u first second =
      let both = plainly_alike d.ledger e.ledger r s asks frame f d'.ledger e'.ledger r' s' a.ledgers t.0 u.0 first second in
      (record { ledgers = both.0; keys = t.1 ∙ a.keys ∙ sym u.1 }, both.1)
  request_alike d e r s (Err code) frame f d' e' r' s' a t u first second = (same_states d e d' e' t.1 u.1 a, inl (t.0 ∙ sym u.0))

  keys_alike : (d e : DeskState) (key : List ℕ) (d' e' : Ledger) → AlikeStates d e → AlikeDesks d' e' → keys_behind d key d' ≡ keys_behind e key e'
  keys_alike d e key d' e' a b = λ k. keys_behind_of (length_alike d.ledger.jobs e.ledger.jobs a.ledgers.jobs k) (length_alike d'.jobs e'.jobs b.jobs k) (a.keys k)
    where
      keys_behind_of : ℕ → ℕ → List KeyedJob → List KeyedJob
      keys_behind_of before after keys = if nat_lt before after then noted keys after key else keys

  by_key_alike : (known : Option ℕ) (d e : DeskState) (r s : R) (key : List ℕ) (asks : Result Asked ℕ) (frame f : List ℕ) (d' e' : DeskState) (r' s' : R) → AlikeStates d e → RepliesByKey ours 0 keeps_all known d r key asks frame d' r'
      → RepliesByKey ours 0 keeps_all known e s key asks f e' s' → frame ≢ refusal_frame 99 → f ≢ refusal_frame 99 → AlikeStates d' e' × Sent frame f
  by_key_alike (Some job) d e r s key asks frame f d' e' r' s' a t u first second = (same_states d e d' e' t.1 u.1 a, inl (t.0 ∙ sym u.0))
  by_key_alike None d e r s key (Err code) frame f d' e' r' s' a t u first second = (same_states d e d' e' t.1 u.1 a, inl (t.0 ∙ sym u.0))
  by_key_alike None d e r s key (Ok asks) frame f d' e' r' s' a t u first second =
      let both = plainly_alike d.ledger e.ledger r s asks frame f d'.ledger e'.ledger r' s' a.ledgers t.0 u.0 first second in
      (record { ledgers = both.0; keys = t.1 ∙ keys_alike d e key d'.ledger e'.ledger a both.0 ∙ sym u.1 }, both.1)

  answers_alike : (d e : DeskState) (r s : R) (query : Query) (frame f : List ℕ) (d' e' : DeskState) (r' s' : R) → AlikeStates d e → DeskReplies ours 0 keeps_all d r query frame d' r' → DeskReplies ours 0 keeps_all e s query f e' s'
      → frame ≢ refusal_frame 99 → f ≢ refusal_frame 99 → AlikeStates d' e' × Sent frame f
  unfolding DeskReplies
  answers_alike d e r s (plain asks) frame f d' e' r' s' a t u first second = request_alike d e r s asks frame f d' e' r' s' a t u first second
  answers_alike d e r s (keyed None asks) frame f d' e' r' s' a t u first second = (same_states d e d' e' t.1 u.1 a, inl (t.0 ∙ sym u.0))
  answers_alike d e r s (keyed (Some key) asks) frame f d' e' r' s' a t u first second =
      by_key_alike (job_among d.keys key) d e r s key asks frame f d' e' r' s' a t (subst (λ (keys : List KeyedJob). RepliesByKey ours 0 keeps_all (job_among keys key) e s key asks f e' s') (sym a.keys) u) first second
  answers_alike d e r s (jobs from) frame f d' e' r' s' a t u first second = (same_states d e d' e' t.1 u.1 a, inl (t.0 ∙ jobs_frame_alike d e from a ∙ sym u.0))
  answers_alike d e r s (counts stops) frame f d' e' r' s' a t u first second = absurd t

-- ---- two lists that are longer by one

module _ (P : ServerEvent → ServerEvent → Type 0) where
  each_pushed : (xs ys : List ServerEvent) (x y : ServerEvent) → EachTwo P xs ys → P x y → EachTwo P (xs ++ x ∷ []) (ys ++ y ∷ [])
  each_pushed [] [] x y each p = (p, tt)
  each_pushed [] (w ∷ ys) x y each p = absurd each
  each_pushed (v ∷ xs) [] x y each p = absurd each
  each_pushed (v ∷ xs) (w ∷ ys) x y each p = (each.0, each_pushed xs ys x y each.1 p)

  none_and_more : (ys : List ServerEvent) (y : ServerEvent) → EachTwo P [] (ys ++ y ∷ []) → ⊥
  none_and_more [] y each = each
  none_and_more (w ∷ ys) y each = each

  more_and_none : (xs : List ServerEvent) (x : ServerEvent) → EachTwo P (xs ++ x ∷ []) [] → ⊥
  more_and_none [] x each = each
  more_and_none (v ∷ xs) x each = each

  each_last : (xs ys : List ServerEvent) (x y : ServerEvent) → EachTwo P (xs ++ x ∷ []) (ys ++ y ∷ []) → EachTwo P xs ys × P x y
  each_last [] [] x y each = (tt, each.0)
  each_last [] (w ∷ ys) x y each = absurd (none_and_more ys y each.1)
  each_last (v ∷ xs) [] x y each = absurd (more_and_none xs x each.1)
  each_last (v ∷ xs) (w ∷ ys) x y each = let later = each_last xs ys x y each.1 in ((each.0, later.0), later.1)

same_entries : (xs : List JobEntry) → AlikeJobs xs xs
same_entries [] = tt
same_entries (x ∷ xs) = (record { tenant = refl; credit = refl; standing = refl }, same_entries xs)

alike_itself : (d : DeskState) → AlikeStates d d
alike_itself d = record { ledgers = record { grants = λ q. refl; past = λ q. refl; jobs = same_entries d.ledger.jobs }; keys = refl }

-- ---- all that happens

aside_alike : (to : Destination) (frame f : List ℕ) → IsAside to frame → IsAside to f → Sent frame f
aside_alike _ frame f (of_counts a x) (of_counts b y) = inr (inr (x, y))
aside_alike _ frame f (of_refusal code) (of_refusal c) = inl refl

module _ {R : Type 0} (m : JobsSteps R) (begun : DeskState) where
  abbrev Led : List ServerEvent → DeskState → Type 0
  Led = Trace m keeps_all begun

  -- the same was asked, and answered at the desk
  both_asked : (xs ys : List ServerEvent) (c d : DeskState) (connection n : ℕ) (access a : Access) (query q : Query) (frame f : List ℕ) (started s : Result (Unit {0}) ℕ) (r p : R) (c' d' : DeskState) (r' p' : R) → AlikeStates c d
      → EachTwo IsSentAlike xs ys → DeskReplies (starting_to started m) 0 keeps_all c r (desk_query [] access query) frame c' r' → DeskReplies (starting_to s m) 0 keeps_all d p (desk_query [] a q) f d' p'
      → HappensAlike (was_asked connection access query frame started) (was_asked n a q f s)
      → AlikeStates c' d' × EachTwo IsSentAlike (xs ++ was_asked connection access query frame started ∷ []) (ys ++ was_asked n a q f s ∷ [])
  both_asked xs ys c d connection n access a query q frame f started s r p c' d' r' p' alike before t u same =
      let T : Access × Query × Result (Unit {0}) ℕ → Type 0 = λ x. DeskReplies (starting_to x.2 m) 0 keeps_all c r (desk_query [] x.0 x.1) frame c' r' in
      let now = answers_alike m s c d r p (desk_query [] a q) frame f c' d' r' p' alike (subst T (λ k. (same.0 k, same.1 k, same.2 k)) t) u same.3 same.4 in
      (now.0, each_pushed IsSentAlike xs ys (was_asked connection access query frame started) (was_asked n a q f s) before now.1)

  -- the same goes to the same place
  same_place : (access a : Access) (query q : Query) → access ≡ a → query ≡ q → goes [] access query ≡ goes [] a q
  same_place access a query q one two = λ k. goes [] (one k) (two k)

  both_ended : (xs ys : List ServerEvent) (id other : JobId) (outcome o : Result Report ℕ) → EachTwo IsSentAlike xs ys → EachTwo IsSentAlike (xs ++ has_ended id outcome ∷ []) (ys ++ has_ended other o ∷ [])
  both_ended xs ys id other outcome o before = each_pushed IsSentAlike xs ys (has_ended id outcome) (has_ended other o) before tt

  pub all_alike : (first second : List ServerEvent) (d e : DeskState) → Led first d → Led second e → EachTwo HappensAlike first second → AlikeStates d e × EachTwo IsSentAlike first second
  all_alike _ _ d e nothing nothing same = (alike_itself begun, tt)
  all_alike _ _ d e nothing (asked ys d2 n a q f s p e2 p2 ht to replies) same = absurd (none_and_more HappensAlike ys _ same)
  all_alike _ _ d e nothing (aside ys d2 n a q f s ht apart is) same = absurd (none_and_more HappensAlike ys _ same)
  all_alike _ _ d e nothing (ended ys d2 id o e2 ht here noted) same = absurd (none_and_more HappensAlike ys _ same)
  all_alike _ _ d e nothing (lost ys d2 id o ht apart) same = absurd (none_and_more HappensAlike ys _ same)
  all_alike _ _ d e (asked xs c connection access query frame started r c2 r2 h to replies) nothing same = absurd (more_and_none HappensAlike xs _ same)
  all_alike _ _ d e (aside xs c connection access query frame started h apart is) nothing same = absurd (more_and_none HappensAlike xs _ same)
  all_alike _ _ d e (ended xs c id outcome c2 h here noted) nothing same = absurd (more_and_none HappensAlike xs _ same)
  all_alike _ _ d e (lost xs c id outcome h apart) nothing same = absurd (more_and_none HappensAlike xs _ same)
  all_alike _ _ d e (asked xs c connection access query frame started r c2 r2 h to replies) (asked ys d2 n a q f s p e2 p2 ht there others) same =
      let last = each_last HappensAlike xs ys (was_asked connection access query frame started) (was_asked n a q f s) same in
      let was = all_alike xs ys c d2 h ht last.0 in
      both_asked xs ys c d2 connection n access a query q frame f started s r p c2 e2 r2 p2 was.0 was.1 replies others last.1
  all_alike _ _ d e (asked xs c connection access query frame started r c2 r2 h to replies) (aside ys d2 n a q f s ht apart is) same =
      let last = each_last HappensAlike xs ys (was_asked connection access query frame started) (was_asked n a q f s) same in
      absurd (apart (sym (same_place access a query q last.1.0 last.1.1) ∙ to))
  all_alike _ _ d e (aside xs c connection access query frame started h apart is) (asked ys d2 n a q f s p e2 p2 ht there others) same =
      let last = each_last HappensAlike xs ys (was_asked connection access query frame started) (was_asked n a q f s) same in
      absurd (apart (same_place access a query q last.1.0 last.1.1 ∙ there))
  all_alike _ _ d e (aside xs c connection access query frame started h apart is) (aside ys d2 n a q f s ht far other) same =
      let last = each_last HappensAlike xs ys (was_asked connection access query frame started) (was_asked n a q f s) same in
      let was = all_alike xs ys c d2 h ht last.0 in
      let sent = aside_alike (goes [] a q) frame f (subst (λ (to : Destination). IsAside to frame) (same_place access a query q last.1.0 last.1.1) is) other in
      (was.0, each_pushed IsSentAlike xs ys (was_asked connection access query frame started) (was_asked n a q f s) was.1 sent)
  all_alike _ _ d e (asked xs c connection access query frame started r c2 r2 h to replies) (ended ys d2 id o e2 ht here noted) same = absurd (each_last HappensAlike xs ys _ _ same).1
  all_alike _ _ d e (asked xs c connection access query frame started r c2 r2 h to replies) (lost ys d2 id o ht apart) same = absurd (each_last HappensAlike xs ys _ _ same).1
  all_alike _ _ d e (aside xs c connection access query frame started h apart is) (ended ys d2 id o e2 ht here noted) same = absurd (each_last HappensAlike xs ys _ _ same).1
  all_alike _ _ d e (aside xs c connection access query frame started h apart is) (lost ys d2 id o ht far) same = absurd (each_last HappensAlike xs ys _ _ same).1
  all_alike _ _ d e (ended xs c id outcome c2 h here noted) (asked ys d2 n a q f s p e2 p2 ht to others) same = absurd (each_last HappensAlike xs ys _ _ same).1
  all_alike _ _ d e (ended xs c id outcome c2 h here noted) (aside ys d2 n a q f s ht apart is) same = absurd (each_last HappensAlike xs ys _ _ same).1
  all_alike _ _ d e (lost xs c id outcome h apart) (asked ys d2 n a q f s p e2 p2 ht to others) same = absurd (each_last HappensAlike xs ys _ _ same).1
  all_alike _ _ d e (lost xs c id outcome h apart) (aside ys d2 n a q f s ht far is) same = absurd (each_last HappensAlike xs ys _ _ same).1
  all_alike _ _ d e (ended xs c id outcome c2 h here noted) (ended ys d2 other o e2 ht there noted_too) same =
      let last = each_last HappensAlike xs ys (has_ended id outcome) (has_ended other o) same in
      let was = all_alike xs ys c d2 h ht last.0 in
      let T : JobId × Result Report ℕ → Type 0 = λ t. NotesEnd t.0.number t.1 c c2 in
      (ends_alike c d2 c2 e2 other.number o was.0 (subst T (λ k. (last.1.0 k, last.1.1 k)) noted) noted_too, both_ended xs ys id other outcome o was.1)
  all_alike _ _ d e (ended xs c id outcome c2 h here noted) (lost ys d2 other o ht apart) same =
      let last = each_last HappensAlike xs ys (has_ended id outcome) (has_ended other o) same in
      absurd (apart (ap (λ (i : JobId). i.desk) (sym last.1.0) ∙ here))
  all_alike _ _ d e (lost xs c id outcome h apart) (ended ys d2 other o e2 ht there noted) same =
      let last = each_last HappensAlike xs ys (has_ended id outcome) (has_ended other o) same in
      absurd (apart (ap (λ (i : JobId). i.desk) last.1.0 ∙ there))
  all_alike _ _ d e (lost xs c id outcome h apart) (lost ys d2 other o ht far) same =
      let last = each_last HappensAlike xs ys (has_ended id outcome) (has_ended other o) same in
      let was = all_alike xs ys c d2 h ht last.0 in (was.0, both_ended xs ys id other outcome o was.1)

  pub sent_alike : (waiting others : List (JobId × AdmittedJob)) (r q : R) (first second : List ServerEvent) (s t : ServerState R) → Happens m (one_desk keeps_all begun waiting r) first s → Happens m (one_desk keeps_all begun others q) second t
      → EachTwo HappensAlike first second → EachTwo IsSentAlike first second
  sent_alike waiting others r q first second s t h k same =
      let x = trace_of m keeps_all begun waiting r first s h in
      let y = trace_of m keeps_all begun others q second t k in
      (all_alike first second x.0 y.0 x.2 y.2 same).1
