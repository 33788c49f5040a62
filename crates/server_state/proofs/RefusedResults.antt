-- A refusal that a request for a result is sent has its cause, by its bytes.
use Rattle.std.proofs.Common.{◌≡◌, ◌+◌, ◌<◌, ◌≤◌, ◌^◌, ◌⊎◌, ℕ, Bool, true, List, ◌++◌, length, drop, nat_le, if◌then◌else◌, codes, decimal, None, Result, Ok, Err, refl, sym, ap, ◌∙◌, inl, inr, arith, length-append}
use Rattle.std.proofs.lemmas.Bool.Decides.{nat_tests}
use Rattle.std.proofs.lemmas.List.{append_cancel_right}
use Rattle.std.proofs.lemmas.Fmt.{decimal_injective, length-decimal-le}
use Rattle.serde_json.proofs.OnLiterals.{serde_json_on_literals}
use Rattle.serde_json.specs.Data.{Data}
use Rattle.serde_json.specs.Written.{compact_text}
use Rattle.credit_book.specs.declared.book.Report.{Report}
use Rattle.accounts.specs.declared.keep_limits.KeepLimits.{KeepLimits}
use Rattle.job_core.specs.Admitted.{AdmittedJob}
use Rattle.sessions.specs.Frames.{framed}
use Rattle.sessions.specs.Replies.{refusal_data, frame_or_refusal, longest_reply}
use Rattle.sessions.specs.declared.job_key.KeyedJob.{KeyedJob}
use Rattle.streams.specs.Answering.{refused}
use Rattle.server_state.specs.Desks.{refusal_frame}
use Rattle.server_state.specs.Histories.{ServerEvent}
use Rattle.server_state.specs.Keyed.{frame_of_event}
use Rattle.server_state.specs.Results.{IsResultKnown, IsToldKnown, IsToldRefusal, KnownJob, failed, forgotten, not_over, outcome_told, report_data, reported, unknown, was_over}
use Rattle.server_state.proofs.ReplyFrames.{framed_cases, third, third_of_refused, third_of_result}
use Rattle.server_state.proofs.StayLemmas.{refusal_framed}

-- ---- the frame tells the number

refusal_text : (n : ℕ) → compact_text (refused n) ≡ codes "{\"code\":" ++ (decimal n ++ codes ",\"ok\":false}")
unfolding serde_json_on_literals refusal_data
refusal_text n = refl

refused_framed : (n : ℕ) → n < 2 ^ 64 → frame_or_refusal (refused n) ≡ framed (compact_text (refused n))
unfolding frame_or_refusal
refused_framed n small =
    let digits : length (decimal n) ≤ 20 = length-decimal-le 20 n (omega arith) (omega (arith, small)) small in
    let all : length (compact_text (refused n)) ≡ 8 + (length (decimal n) + 12) =
    ap length (refusal_text n) ∙ length-append (codes "{\"code\":") (decimal n ++ codes ",\"ok\":false}") ∙ ap (λ k. 8 + k) (length-append (decimal n) (codes ",\"ok\":false}")) in
    let short : length (compact_text (refused n)) ≤ longest_reply = omega (arith, digits, all) in
    let fits : nat_le (length (compact_text (refused n))) longest_reply ≡ true = grind (arith, nat_tests) in
    ap (λ (b : Bool). if◌then◌else◌ {A = List ℕ} b (framed (compact_text (refused n))) (framed (compact_text (refused 65)))) fits

same_frame : (m n : ℕ) → m < 2 ^ 64 → n < 2 ^ 64 → framed (compact_text (refused m)) ≡ framed (compact_text (refused n)) → m ≡ n
same_frame m n small_m small_n frames =
    let texts : compact_text (refused m) ≡ compact_text (refused n) = ap (drop 4) frames in
    let digits : decimal m ++ codes ",\"ok\":false}" ≡ decimal n ++ codes ",\"ok\":false}" = ap (drop 8) (sym (refusal_text m) ∙ texts ∙ refusal_text n) in
    decimal_injective m n small_m small_n (append_cancel_right (decimal m) (decimal n) (codes ",\"ok\":false}") digits)

same_code : (m n : ℕ) → m < 2 ^ 64 → n < 2 ^ 64 → frame_or_refusal (refused m) ≡ frame_or_refusal (refused n) → m ≡ n
same_code m n small_m small_n same = same_frame m n small_m small_n (sym (refused_framed m small_m) ∙ same ∙ refused_framed n small_n)

-- ---- the refusal is one of those that a result may be

module _ (ends : ℕ → AdmittedJob → Result Report ℕ → Type 0) (refuses : ℕ → Type 0) (keep : KeepLimits) (known : List KnownJob) (number code : ℕ) (small : code < 2 ^ 64) where
  abbrev IsCaused : Type 0
  IsCaused = ((cause : ℕ) × IsResultKnown ends refuses keep known number (refused cause) × (cause < 2 ^ 64 → cause ≡ code)) ⊎ (code ≡ 65)

  as_told : (cause : ℕ) → IsResultKnown ends refuses keep known number (refused cause) → frame_or_refusal (refused cause) ≡ frame_or_refusal (refused code) → IsCaused
  as_told cause is same = inl (cause, is, λ small_cause. same_code cause code small_cause small same)

  too_long : (report : Report) → frame_or_refusal (report_data report) ≡ frame_or_refusal (refused code) → code ≡ 65
  too_long report same =
      framed_cases (λ bytes. bytes ≡ frame_or_refusal (refused code) → code ≡ 65) (report_data report)
      (λ is. let clash : 98 ≡ 99 = sym (third_of_result report.buffer.items report.returned report.spent report.tasks.items) ∙ ap third is ∙ third_of_refused code None None in absurd (omega (arith, clash)))
      (λ is. sym (same_frame 65 code (omega arith) small (is ∙ refused_framed code small)))
      same

  by_outcome : (outcome : Result Report ℕ) → IsResultKnown ends refuses keep known number (outcome_told outcome) → frame_or_refusal (outcome_told outcome) ≡ frame_or_refusal (refused code) → IsCaused
  by_outcome (Ok report) is same = inr (too_long report same)
  by_outcome (Err cause) is same = as_told cause is same

  by_result : (told : Data) → IsResultKnown ends refuses keep known number told → frame_or_refusal told ≡ frame_or_refusal (refused code) → IsCaused
  by_result _ (failed job cause at fails) same = as_told cause (failed job cause at fails) same
  by_result _ (not_over job at) same = as_told 77 (not_over job at) same
  by_result _ (forgotten job at may) same = as_told 76 (forgotten job at may) same
  by_result _ (unknown at) same = as_told 76 (unknown at) same
  by_result _ (reported job report at ended) same = inr (too_long report same)
  by_result _ (was_over outcome at) same = by_outcome outcome (was_over outcome at) same

pub told_refusal : (ends : ℕ → AdmittedJob → Result Report ℕ → Type 0) (refuses : ℕ → Type 0) (keep : KeepLimits) (keys : List KeyedJob) (first : List KnownJob) (before : List ServerEvent) (number : ℕ) (e : ServerEvent) (code : ℕ)
    → IsToldKnown ends refuses keep keys first before number e → frame_of_event e ≡ refusal_frame code → code < 2 ^ 64 → IsToldRefusal ends refuses keep keys first before number code
told_refusal ends refuses keep keys first before number e code t sent small = record {
  known = t.known;
  are = t.are;
  is_result = by_result ends refuses keep t.known number code small t.told t.is_result (sym t.sent ∙ sent ∙ refusal_framed code);
}
