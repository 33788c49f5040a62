-- Each submit that takes a job is sent a greater number than those before it.
use Rattle.std.proofs.Common.{◌≡◌, ◌≢◌, ◌+◌, ◌-◌, ◌<◌, ◌≤◌, ◌^◌, ◌⊎◌, ℕ, zero, suc, Bool, true, false, List, [], ◌∷◌, ◌++◌, length, drop, nat_le, if◌then◌else◌, codes, decimal, Option, None, Some, slice_get, refl, sym, ap, subst, ◌∙◌, inl, inr, arith, length-append, Err}
use Rattle.std.specs.Str.{bytes_eq}
use Rattle.std.proofs.lemmas.Slice.Eq.{bytes_eq-Decides}
use Rattle.std.proofs.lemmas.Bool.Decides.{nat_tests}
use Rattle.std.proofs.lemmas.List.{append_cancel_right}
use Rattle.std.proofs.lemmas.Fmt.{decimal_injective, length-decimal-le}
use Rattle.serde_json.proofs.OnLiterals.{serde_json_on_literals}
use Rattle.serde_json.specs.Written.{compact_text}
use Rattle.job_core.specs.Admitted.{AdmittedJob}
use Rattle.accounts.specs.Faults.{submit_code, submit_program, submit_slot}
use Rattle.accounts.specs.declared.jobs.JobEntry.{JobEntry}
use Rattle.accounts.specs.declared.keep_limits.KeepLimits.{KeepLimits}
use Rattle.server_state.specs.declared.job_id.JobId.{JobId}
use Rattle.sessions.specs.Frames.{framed}
use Rattle.sessions.specs.JobKeys.{job_among, latest}
use Rattle.sessions.specs.Replies.{submit_data, refusal_data, frame_or_refusal, longest_reply}
use Rattle.sessions.specs.declared.job_key.KeyedJob.{KeyedJob}
use Rattle.sessions.specs.declared.reply.Reply.TheVariants as reply
use Rattle.server_state.specs.Alone.{one_desk, part_of, seen_by_desk, waiting_of}
use Rattle.server_state.specs.Desks.{refusal_frame, submit_frame}
use Rattle.server_state.specs.Histories.{ServerEvent, Happens}
use Rattle.server_state.specs.Keyed.{AreKeyed, event_key, frame_of_event, none_yet as none_keyed, one_taken, none_taken, one_again as again_keyed, other as none_asked}
use Rattle.server_state.specs.Results.{AreKnown, IsNewKey, IsNewSubmit, IsSubmit, IsSubmitRefusal, Itself, KnownJob, NoneHas, Over, SendsAgain, TakesNoJob, none_yet, one_more, no_more, one_again}
use Rattle.server_state.specs.States.{DeskState, JobsSteps, ServerState}
use Rattle.server_state.proofs.AloneLemmas.{each_alone}
use Rattle.server_state.proofs.KnownLemmas.{Known, known_asked, known_aside, known_ended, known_lost}
use Rattle.server_state.proofs.ListEnds.{length_pushed, last_same, last_of, none_pushed, joined_again}
use Rattle.server_state.proofs.Moments.{behind}
use Rattle.server_state.proofs.ReplyFrames.{third, third_of_submit, third_of_refused}
use Rattle.server_state.proofs.StayLemmas.{framed as reply_framed, refusal_framed}

-- ---- the frame tells the number

submit_text : (n : ℕ) → compact_text (submit_data n) ≡ codes "{\"job\":" ++ (decimal n ++ codes ",\"ok\":true}")
unfolding serde_json_on_literals submit_data
submit_text n = refl

is_short : (n : ℕ) → n < 2 ^ 64 → length (compact_text (submit_data n)) ≤ longest_reply
is_short n small =
    let digits : length (decimal n) ≤ 20 = length-decimal-le 20 n (omega arith) (omega (arith, small)) small in
    let all : length (compact_text (submit_data n)) ≡ 7 + (length (decimal n) + 11) =
    ap length (submit_text n) ∙ length-append (codes "{\"job\":") (decimal n ++ codes ",\"ok\":true}") ∙ ap (λ k. 7 + k) (length-append (decimal n) (codes ",\"ok\":true}")) in
    omega (arith, digits, all)

submit_framed : (n : ℕ) → n < 2 ^ 64 → frame_or_refusal (submit_data n) ≡ framed (compact_text (submit_data n))
unfolding frame_or_refusal
submit_framed n small =
    let short = is_short n small in
    let fits : nat_le (length (compact_text (submit_data n))) longest_reply ≡ true = grind (arith, nat_tests) in
    ap (λ (b : Bool). if◌then◌else◌ {A = List ℕ} b (framed (compact_text (submit_data n))) (framed (compact_text (refusal_data 65 None None)))) fits

same_number : (m n : ℕ) → m < 2 ^ 64 → n < 2 ^ 64 → frame_or_refusal (submit_data m) ≡ frame_or_refusal (submit_data n) → m ≡ n
same_number m n small_m small_n same =
    let frames : framed (compact_text (submit_data m)) ≡ framed (compact_text (submit_data n)) = sym (submit_framed m small_m) ∙ same ∙ submit_framed n small_n in
    let texts : compact_text (submit_data m) ≡ compact_text (submit_data n) = ap (drop 4) frames in
    let digits : decimal m ++ codes ",\"ok\":true}" ≡ decimal n ++ codes ",\"ok\":true}" = ap (drop 7) (sym (submit_text m) ∙ texts ∙ submit_text n) in
    decimal_injective m n small_m small_n (append_cancel_right (decimal m) (decimal n) (codes ",\"ok\":true}") digits)

same_sent : (m n : ℕ) → m < 2 ^ 64 → n < 2 ^ 64 → submit_frame m ≡ submit_frame n → m ≡ n
same_sent m n small_m small_n same = same_number m n small_m small_n (sym (reply_framed (reply.Submit m)) ∙ same ∙ reply_framed (reply.Submit n))

third_sent : (n : ℕ) → n < 2 ^ 64 → third (submit_frame n) ≡ 106
third_sent n small = ap third (reply_framed (reply.Submit n) ∙ submit_framed n small) ∙ third_of_submit n

third_refused : (code : ℕ) → third (refusal_frame code) ≡ 99
third_refused code = ap third (refusal_framed code) ∙ third_of_refused code None None

-- the number of a job is no refusal
pub sent_no_refusal : (n : ℕ) (frame : List ℕ) → n < 2 ^ 64 → frame ≡ submit_frame n → IsSubmitRefusal frame → ⊥
sent_no_refusal n frame small sent refusal = by refusal
  where
    clash : (other : List ℕ) → third other ≡ 99 → frame ≡ other → ⊥
    clash other is same = let both : 106 ≡ 99 = sym (third_sent n small) ∙ ap third (sym sent ∙ same) ∙ is in absurd (omega (arith, both))

    by : IsSubmitRefusal frame → ⊥
    by (inl t) = clash _ (third_of_refused (submit_code t.0) (submit_program t.0) (submit_slot t.0)) t.1
    by (inr (inl t)) = clash (refusal_frame 73) (third_refused 73) t
    by (inr (inr t)) = clash (refusal_frame 74) (third_refused 74) t

-- ---- a key that no event had is not remembered

among_later : (x : KeyedJob) (keys : List KeyedJob) (key : List ℕ) → job_among (x ∷ keys) key ≡ None → job_among keys key ≡ None
among_later x keys key none = by (bytes_eq x.key key) none
  where
    by : (b : Bool) → (if◌then◌else◌ {A = Option ℕ} b (Some x.job) (job_among keys key)) ≡ None → job_among keys key ≡ None
    by true is = cc
    by false is = is

among_drop : (n : ℕ) (keys : List KeyedJob) (key : List ℕ) → job_among keys key ≡ None → job_among (drop n keys) key ≡ None
among_drop zero keys key none = none
among_drop (suc n) [] key none = none
among_drop (suc n) (x ∷ keys) key none = among_drop n keys key (among_later x keys key none)

among_pushed : (keys : List KeyedJob) (x : KeyedJob) (key : List ℕ) → job_among keys key ≡ None → bytes_eq x.key key ≡ false → job_among (keys ++ x ∷ []) key ≡ None
among_pushed [] x key none apart = ap (λ (b : Bool). if◌then◌else◌ {A = Option ℕ} b (Some x.job) None) apart
among_pushed (y ∷ keys) x key none apart = by (bytes_eq y.key key) none (λ later. among_pushed keys x key later apart)
  where
    by : (b : Bool) → (if◌then◌else◌ {A = Option ℕ} b (Some y.job) (job_among keys key)) ≡ None → (job_among keys key ≡ None → job_among (keys ++ x ∷ []) key ≡ None)
        → (if◌then◌else◌ {A = Option ℕ} b (Some y.job) (job_among (keys ++ x ∷ []) key)) ≡ None
    by true is later = is
    by false is later = later is

bytes_apart : (x y : List ℕ) → (x ≡ y → ⊥) → bytes_eq x y ≡ false
bytes_apart x y apart = by (bytes_eq x y) refl
  where
    by : (b : Bool) → bytes_eq x y ≡ b → b ≡ false
    by true is = absurd (apart ((bytes_eq-Decides x y).0 is))
    by false is = refl

none_has : (key : List ℕ) (events : List ServerEvent) (e : ServerEvent) → NoneHas key (events ++ e ∷ []) → NoneHas key events × (event_key e ≢ Some key)
none_has key [] e none = (tt, none.0)
none_has key (x ∷ events) e none = let later = none_has key events e none.1 in ((none.0, later.0), later.1)

none_among : (keys : List KeyedJob) (key : List ℕ) (events : List ServerEvent) (all : List KeyedJob) → AreKeyed keys events all → job_among keys key ≡ None → NoneHas key events → job_among all key ≡ None
none_among keys key _ _ none_keyed none no_event = none
none_among keys key _ _ (one_taken events all e own job are has unknown sent) none no_event =
    let parts = none_has key events e no_event in
    among_pushed all (record { job = job; key = own }) key (none_among keys key events all are none parts.0)
    (bytes_apart own key (λ same. parts.1 (has ∙ ap Some same)))
none_among keys key _ _ (none_taken events all e own are has unknown sent) none no_event = none_among keys key events all are none (none_has key events e no_event).0
none_among keys key _ _ (again_keyed events all e own job are has known sent) none no_event = none_among keys key events all are none (none_has key events e no_event).0
none_among keys key _ _ (none_asked events all e are has) none no_event = none_among keys key events all are none (none_has key events e no_event).0

-- a submit by a new key is not sent the number of an earlier job
new_not_again : (keys : List KeyedJob) (before : List ServerEvent) (e : ServerEvent) (has : Option (List ℕ)) → event_key e ≡ has → IsNewKey keys before has → SendsAgain keys before e → ⊥
new_not_again keys before e None is new again = let clash = sym is ∙ again.has in cc
new_not_again keys before e (Some key) is new again =
    let same : key ≡ again.key = some_key key again.key (sym is ∙ again.has) in
    let none = among_drop (length again.keyed_jobs - 1000) again.keyed_jobs key (none_among keys key before again.keyed_jobs again.are new.0 new.1) in
    let known = ap (job_among (latest again.keyed_jobs)) same ∙ again.known in
    let clash = sym none ∙ known in
    cc
  where
    some_key : (x y : List ℕ) → ◌≡◌ {A = Option (List ℕ)} (Some x) (Some y) → x ≡ y
    some_key x y both = cc

-- ---- the jobs that were taken before an event, and with it

module _ (keys : List KeyedJob) (first : List KnownJob) where
  -- the number that an event's job has
  abbrev Takes : List ServerEvent → ServerEvent → List KnownJob → ℕ → Type 0
  Takes before e known count = TakesNoJob e ⊎ SendsAgain keys before e ⊎ ((job : AdmittedJob) × IsSubmit e (length known + 1) job × (length known + 1 ≤ count))

  -- an event takes a job or none, and what comes later takes no job back
  record TakesAt (before : List ServerEvent) (e : ServerEvent) (count : ℕ) : Type 0 where
    known : List KnownJob
    are : AreKnown keys first before known
    here : Takes before e known count

  grown : (before : List ServerEvent) (e : ServerEvent) (m n : ℕ) → m ≤ n → TakesAt before e m → TakesAt before e n
  grown before e m n le t = record { known = t.known; are = t.are; here = by_here t.here }
    where
      by_here : Takes before e t.known m → Takes before e t.known n
      by_here (inl none) = inl none
      by_here (inr (inl again)) = inr (inl again)
      by_here (inr (inr s)) = let lt = s.2 in inr (inr (s.0, s.1, omega (arith, lt, le)))

  -- the last event of a history
  at_last : (before h : List ServerEvent) (e x : ServerEvent) (known : List KnownJob) (count : ℕ) → h ++ x ∷ [] ≡ before ++ e ∷ [] → AreKnown keys first h known → Takes h x known count → TakesAt before e count
  at_last before h e x known count is are here =
      let same = last_same h before x e is in
      record {
        known = known;
        are = subst (λ l. AreKnown keys first l known) same.0 are;
        here = subst (λ (p : List ServerEvent × ServerEvent). Takes p.0 p.1 known count) (λ k. (same.0 k, same.1 k)) here;
      }

  -- one before the last
  front : (before after h : List ServerEvent) (e x a : ServerEvent) → h ++ x ∷ [] ≡ before ++ e ∷ a ∷ after → (rest : List ServerEvent) × (h ≡ before ++ e ∷ rest)
  front before after h e x a is =
      let parted = last_of a after in
      let same = last_same h (before ++ e ∷ parted.0) x parted.1 (is ∙ ap (λ l. before ++ e ∷ l) parted.2 ∙ sym (joined_again before e parted.0 (parted.1 ∷ []))) in
      (parted.0, same.0)

  takes_at : (before after : List ServerEvent) (e : ServerEvent) (events : List ServerEvent) (known : List KnownJob) → AreKnown keys first events known → events ≡ before ++ e ∷ after → TakesAt before e (length known)
  takes_at before after e _ _ none_yet is = absurd (none_pushed before after e is)
  takes_at before [] e _ _ (one_more h known x job are is_submit) is =
      at_last before h e x known _ is are (inr (inr (job, is_submit, let more = length_pushed known (Itself job) in omega (arith, more))))
  takes_at before [] e _ _ (no_more h known x are none) is = at_last before h e x known _ is are (inl none)
  takes_at before [] e _ _ (one_again h known x are again) is = at_last before h e x known _ is are (inr (inl again))
  takes_at before (a ∷ after) e _ _ (one_more h known x job are is_submit) is =
      let f = front before after h e x a is in
      let more = length_pushed known (Itself job) in
      grown before e (length known) (length (known ++ Itself job ∷ [])) (omega (arith, more)) (takes_at before f.0 e h known are f.1)
  takes_at before (a ∷ after) e _ _ (no_more h known x are none) is = let f = front before after h e x a is in takes_at before f.0 e h known are f.1
  takes_at before (a ∷ after) e _ _ (one_again h known x are again) is = let f = front before after h e x a is in takes_at before f.0 e h known are f.1

  few_jobs : (events : List ServerEvent) (known : List KnownJob) → AreKnown keys first events known → length known ≤ length first + length events
  few_jobs _ _ none_yet = omega arith
  few_jobs _ _ (one_more h known x job are is_submit) =
      let le = few_jobs h known are in let a = length_pushed known (Itself job) in let b = length_pushed h x in omega (arith, le, a, b)
  few_jobs _ _ (no_more h known x are none) = let le = few_jobs h known are in let b = length_pushed h x in omega (arith, le, b)
  few_jobs _ _ (one_again h known x are again) = let le = few_jobs h known are in let b = length_pushed h x in omega (arith, le, b)

  -- the number that a new submit is sent is the next one
  sent_next : (before : List ServerEvent) (e : ServerEvent) (count n : ℕ) (t : TakesAt before e count) → IsNewSubmit keys before e → frame_of_event e ≡ submit_frame n → n < 2 ^ 64 → length first + length before < 2 ^ 64 - 1
      → (n ≡ length t.known + 1) × (length t.known + 1 ≤ count)
  sent_next before e count n t new sent small short = by_here t.here
    where
      by_here : Takes before e t.known count → (n ≡ length t.known + 1) × (length t.known + 1 ≤ count)
      by_here (inl (inl other)) = absurd (other new.0)
      by_here (inl (inr refusal)) = absurd (sent_no_refusal n (frame_of_event e) small sent refusal)
      by_here (inr (inl again)) = absurd (new_not_again keys before e (event_key e) refl new.1 again)
      by_here (inr (inr s)) =
          let few = few_jobs before t.known t.are in
          let lt : length t.known + 1 < 2 ^ 64 = omega (arith, few, short) in
          (same_sent n (length t.known + 1) small lt (sym sent ∙ s.1.sent), s.2)

  pub rises : (before between after : List ServerEvent) (e f : ServerEvent) (known : List KnownJob) (m n : ℕ) → AreKnown keys first (before ++ e ∷ (between ++ f ∷ after)) known → length first + length (before ++ e ∷ between) < 2 ^ 64 - 1
      → IsNewSubmit keys before e → frame_of_event e ≡ submit_frame m → m < 2 ^ 64 → IsNewSubmit keys (before ++ e ∷ between) f → frame_of_event f ≡ submit_frame n → n < 2 ^ 64 → m < n
  rises before between after e f known m n are short new_e sent_e small_m new_f sent_f small_n =
      let at_f = takes_at (before ++ e ∷ between) after f (before ++ e ∷ (between ++ f ∷ after)) known are (sym (joined_again before e between (f ∷ after))) in
      let at_e = takes_at before between e (before ++ e ∷ between) at_f.known at_f.are refl in
      let early : length first + length before < 2 ^ 64 - 1 = let all = length-append before (e ∷ between) in omega (arith, short, all) in
      let one = sent_next before e (length at_f.known) m at_e new_e sent_e small_m early in
      let two = sent_next (before ++ e ∷ between) f (length known) n at_f new_f sent_f small_n short in
      let m_is = one.0 in
      let m_le = one.1 in
      let n_is = two.0 in
      omega (arith, m_is, m_le, n_is)

-- ---- at a server of one desk

-- the jobs that are known behind a history, where as many are known at first as the desk has
pub known_behind : {R : Type 0} (m : JobsSteps R) (keep : KeepLimits) (begun : DeskState) (waiting : List (JobId × AdmittedJob)) (q : R) (first : List KnownJob) (events : List ServerEvent) (s : ServerState R) → begun.keys ≡ latest begun.keys
    → length begun.ledger.jobs ≡ length first → Happens m (one_desk keep begun waiting q) events s → (d : DeskState) × Known begun.keys first events d
known_behind m keep begun waiting q first events s last count happens =
    behind m keep (λ events d w r. Known begun.keys first events d)
    (λ events d w connection access query frame started r e s was to replies. known_asked m keep begun.keys first events d connection access query frame started r e s was to replies)
    (λ events d w r connection access query frame started to was is aside. known_aside begun.keys first events d connection access query frame started to was is aside)
    (λ events d w id outcome r e s was takes here noted. known_ended begun.keys first events d e id outcome was noted)
    (λ events d w id outcome r s was takes apart. known_lost begun.keys first events d id outcome was)
    (λ events d job others started r s was starts. was)
    (λ events d w r s was none. was)
    begun waiting q (record { keyed = record { all = begun.keys; are = none_keyed; same = last }; known = first; are = none_yet; count = count }) events s happens

-- some jobs, as many as a desk has
abbrev some_jobs : List JobEntry → List KnownJob
some_jobs [] = []
some_jobs (x ∷ xs) = Over (Err 0) ∷ some_jobs xs

as_many : (entries : List JobEntry) → length entries ≡ length (some_jobs entries)
as_many [] = refl
as_many (x ∷ xs) = ap suc (as_many xs)

-- the same at each desk of any server
pub rises_at_each : {R : Type 0} (m : JobsSteps R) (first s : ServerState R) (events : List ServerEvent) (place : ℕ) (begun desk : DeskState) → Happens m first events s → slice_get first.desks place ≡ Some begun → begun.keys ≡ latest begun.keys
    → slice_get s.desks place ≡ Some desk → (before between after : List ServerEvent) (e f : ServerEvent) (k n : ℕ) → part_of first.names place events ≡ before ++ e ∷ (between ++ f ∷ after)
    → length begun.ledger.jobs + length (before ++ e ∷ between) < 2 ^ 64 - 1 → IsNewSubmit begun.keys before e → frame_of_event e ≡ submit_frame k → k < 2 ^ 64
    → IsNewSubmit begun.keys (before ++ e ∷ between) f → frame_of_event f ≡ submit_frame n → n < 2 ^ 64 → k < n
rises_at_each m first s events place begun desk happens there last at before between after e f k n is short new_e sent_e small_k new_f sent_f small_n =
    let own = each_alone m place first begun there events s desk happens at in
    let jobs = some_jobs begun.ledger.jobs in
    let count = as_many begun.ledger.jobs in
    let known = known_behind (seen_by_desk m place) first.keep begun (waiting_of place first.waiting) first.jobs jobs (part_of first.names place events) (one_desk first.keep desk (waiting_of place s.waiting) own.left) last count own.happens in
    rises begun.keys jobs before between after e f known.1.known k n (subst (λ l. AreKnown begun.keys jobs l known.1.known) is known.1.are) (omega (arith, short, count))
    new_e sent_e small_k new_f sent_f small_n
