-- Each submit is told a greater number than those before it.
use Rattle.std.proofs.Common.{◌≡◌, ◌+◌, ◌-◌, ◌<◌, ◌≤◌, ◌^◌, ◌⊎◌, ℕ, Bool, true, List, [], ◌∷◌, ◌++◌, length, drop, nat_le, if◌then◌else◌, codes, decimal, None, refl, sym, ap, subst, ◌∙◌, inl, inr, arith, length-append}
use Rattle.std.proofs.lemmas.Bool.Decides.{nat_tests}
use Rattle.std.proofs.lemmas.List.{append_cancel_right}
use Rattle.std.proofs.lemmas.Fmt.{decimal_injective, length-decimal-le}
use Rattle.serde_json.proofs.OnLiterals.{serde_json_on_literals}
use Rattle.serde_json.specs.Written.{compact_text}
use Rattle.job_core.specs.Admitted.{AdmittedJob}
use Rattle.accounts.specs.Faults.{submit_code, submit_program, submit_slot}
use Rattle.sessions.specs.Frames.{framed}
use Rattle.sessions.specs.Replies.{submit_data, refusal_data, frame_or_refusal, longest_reply}
use Rattle.shared_desk.specs.Histories.{HistoryEntry}
use Rattle.job_server.specs.EndToEnd.{AreTaken, none_yet, one_more, no_more, IsSubmit, TakesNoJob, AsksForJob, HasReply}
use Rattle.job_server.proofs.ListEnds.{length_pushed, last_same, last_of, none_pushed, joined_again}
use Rattle.job_server.proofs.ReplyFrames.{third, third_of_submit, third_of_refused}

-- ---- the frame tells the number

submit_text : (n : ℕ) → compact_text (submit_data n) ≡ codes "{\"job\":" ++ (decimal n ++ codes ",\"ok\":true}")
unfolding serde_json_on_literals submit_data
submit_text n = refl

is_short : (n : ℕ) → n < 2 ^ 64 → length (compact_text (submit_data n)) ≤ longest_reply
is_short n small =
    let digits : length (decimal n) ≤ 20 = length-decimal-le 20 n (omega arith) (omega (arith, small)) small in
    let all : length (compact_text (submit_data n)) ≡ 7 + (length (decimal n) + 11) =
    ap length (submit_text n) ∙ length-append (codes "{\"job\":") (decimal n ++ codes ",\"ok\":true}") ∙ ap (λ k. 7 + k) (length-append (decimal n) (codes ",\"ok\":true}")) in
    omega (arith, digits, all)

submit_framed : (n : ℕ) → n < 2 ^ 64 → frame_or_refusal (submit_data n) ≡ framed (compact_text (submit_data n))
unfolding frame_or_refusal
submit_framed n small =
    let short = is_short n small in
    let fits : nat_le (length (compact_text (submit_data n))) longest_reply ≡ true = grind (arith, nat_tests) in
    ap (λ (b : Bool). if◌then◌else◌ {A = List ℕ} b (framed (compact_text (submit_data n))) (framed (compact_text (refusal_data 65 None None)))) fits

same_number : (m n : ℕ) → m < 2 ^ 64 → n < 2 ^ 64 → frame_or_refusal (submit_data m) ≡ frame_or_refusal (submit_data n) → m ≡ n
same_number m n small_m small_n same =
    let frames : framed (compact_text (submit_data m)) ≡ framed (compact_text (submit_data n)) = sym (submit_framed m small_m) ∙ same ∙ submit_framed n small_n in
    let texts : compact_text (submit_data m) ≡ compact_text (submit_data n) = ap (drop 4) frames in
    let digits : decimal m ++ codes ",\"ok\":true}" ≡ decimal n ++ codes ",\"ok\":true}" = ap (drop 7) (sym (submit_text m) ∙ texts ∙ submit_text n) in
    decimal_injective m n small_m small_n (append_cancel_right (decimal m) (decimal n) (codes ",\"ok\":true}") digits)

-- ---- the jobs that were taken before an entry, and with it

-- an entry takes a job or none, and what comes later takes no job back
record TakesAt (before : List HistoryEntry) (e : HistoryEntry) (count : ℕ) : Type 0 where
  jobs : List AdmittedJob
  taken : AreTaken before jobs
  here : (TakesNoJob e) ⊎ ((job : AdmittedJob) × IsSubmit e (length jobs + 1) job × (length jobs + 1 ≤ count))

grown : (before : List HistoryEntry) (e : HistoryEntry) (m n : ℕ) → m ≤ n → TakesAt before e m → TakesAt before e n
grown before e m n le t = record { jobs = t.jobs; taken = t.taken; here = by_here t.here }
  where
    by_here : (TakesNoJob e) ⊎ ((job : AdmittedJob) × IsSubmit e (length t.jobs + 1) job × (length t.jobs + 1 ≤ m)) → (TakesNoJob e) ⊎ ((job : AdmittedJob) × IsSubmit e (length t.jobs + 1) job × (length t.jobs + 1 ≤ n))
    by_here (inl none) = inl none
    by_here (inr s) = let lt = s.2 in inr (s.0, s.1, omega (arith, lt, le))

takes_at : (before after : List HistoryEntry) (e : HistoryEntry) (history : List HistoryEntry) (jobs : List AdmittedJob) → AreTaken history jobs → history ≡ before ++ e ∷ after → TakesAt before e (length jobs)
takes_at before after e _ _ none_yet is = absurd (none_pushed before after e is)
takes_at before [] e _ _ (one_more h jobs x job taken is_submit) is =
    let same = last_same h before x e is in record {
      jobs = jobs;
      taken = subst (λ l. AreTaken l jobs) same.0 taken;
      here = inr (job, subst (λ (y : HistoryEntry). IsSubmit y (length jobs + 1) job) same.1 is_submit, let more = length_pushed jobs job in omega (arith, more));
    }
takes_at before [] e _ _ (no_more h jobs x taken no_job) is =
    let same = last_same h before x e is in
    record { jobs = jobs; taken = subst (λ l. AreTaken l jobs) same.0 taken; here = inl (subst TakesNoJob same.1 no_job) }
takes_at before (a ∷ after) e _ _ (one_more h jobs x job taken is_submit) is =
    let parted = last_of a after in
    let same = last_same h (before ++ e ∷ parted.0) x parted.1 (is ∙ ap (λ l. before ++ e ∷ l) parted.2 ∙ sym (joined_again before e parted.0 (parted.1 ∷ []))) in
    let more = length_pushed jobs job in
    grown before e (length jobs) (length (jobs ++ job ∷ [])) (omega (arith, more)) (takes_at before parted.0 e h jobs taken same.0)
takes_at before (a ∷ after) e _ _ (no_more h jobs x taken no_job) is =
    let parted = last_of a after in
    let same = last_same h (before ++ e ∷ parted.0) x parted.1 (is ∙ ap (λ l. before ++ e ∷ l) parted.2 ∙ sym (joined_again before e parted.0 (parted.1 ∷ []))) in
    takes_at before parted.0 e h jobs taken same.0

few_jobs : (history : List HistoryEntry) (jobs : List AdmittedJob) → AreTaken history jobs → length jobs ≤ length history
few_jobs _ _ none_yet = omega arith
few_jobs _ _ (one_more h jobs x job taken is_submit) =
    let le = few_jobs h jobs taken in let a = length_pushed jobs job in let b = length_pushed h x in omega (arith, le, a, b)
few_jobs _ _ (no_more h jobs x taken no_job) = let le = few_jobs h jobs taken in let b = length_pushed h x in omega (arith, le, b)

-- the number that a submit is told is the next one
told_next : (before : List HistoryEntry) (e : HistoryEntry) (count n : ℕ) (t : TakesAt before e count) → AsksForJob e.query.asked → HasReply e (submit_data n) → n < 2 ^ 64 → length before < 2 ^ 64 - 1 → (n ≡ length t.jobs + 1) × (length t.jobs + 1 ≤ count)
told_next before e count n t asks tells small short = by_here t.here
  where
    by_here : (TakesNoJob e) ⊎ ((job : AdmittedJob) × IsSubmit e (length t.jobs + 1) job × (length t.jobs + 1 ≤ count)) → (n ≡ length t.jobs + 1) × (length t.jobs + 1 ≤ count)
    by_here (inl (inl other)) = absurd (other asks)
    by_here (inl (inr refusal)) =
        let clash : 106 ≡ 99 =
        sym (third_of_submit n) ∙ ap third (sym (submit_framed n small)) ∙ ap third (sym tells) ∙ ap third refusal.1 ∙ third_of_refused (submit_code refusal.0) (submit_program refusal.0) (submit_slot refusal.0) in
        absurd (omega (arith, clash))
    by_here (inr s) =
        let few = few_jobs before t.jobs t.taken in
        let lt : length t.jobs + 1 < 2 ^ 64 = omega (arith, few, short) in
        (same_number n (length t.jobs + 1) small lt (sym tells ∙ s.1.tells), s.2)

pub numbers_rise : (before between after : List HistoryEntry) (e f : HistoryEntry) (jobs : List AdmittedJob) (m n : ℕ) → AreTaken (before ++ e ∷ (between ++ f ∷ after)) jobs → length (before ++ e ∷ between) < 2 ^ 64 - 1
    → AsksForJob e.query.asked → HasReply e (submit_data m) → m < 2 ^ 64 → AsksForJob f.query.asked → HasReply f (submit_data n) → n < 2 ^ 64 → m < n
numbers_rise before between after e f jobs m n taken short asks_e tells_e small_m asks_f tells_f small_n =
    let at_f = takes_at (before ++ e ∷ between) after f (before ++ e ∷ (between ++ f ∷ after)) jobs taken (sym (joined_again before e between (f ∷ after))) in
    let at_e = takes_at before between e (before ++ e ∷ between) at_f.jobs at_f.taken refl in
    let early : length before < 2 ^ 64 - 1 = let all = length-append before (e ∷ between) in omega (arith, short, all) in
    let first = told_next before e (length at_f.jobs) m at_e asks_e tells_e small_m early in
    let second = told_next (before ++ e ∷ between) f (length jobs) n at_f asks_f tells_f small_n short in
    let m_is = first.0 in
    let m_le = first.1 in
    let n_is = second.0 in
    omega (arith, m_is, m_le, n_is)
