-- A refusal that a request for a result is told has its cause, by its bytes.
use Rattle.accounts.specs.declared.keep_limits.KeepLimits.{KeepLimits}
use Rattle.std.proofs.Common.{◌≡◌, ◌+◌, ◌<◌, ◌≤◌, ◌^◌, ◌⊎◌, ℕ, Bool, true, List, ◌++◌, length, drop, nat_le, if◌then◌else◌, codes, decimal, None, refl, sym, ap, subst, ◌∙◌, inl, inr, arith, length-append}
use Rattle.std.proofs.lemmas.Bool.Decides.{nat_tests}
use Rattle.std.proofs.lemmas.List.{append_cancel_right}
use Rattle.std.proofs.lemmas.Fmt.{decimal_injective, length-decimal-le}
use Rattle.serde_json.proofs.OnLiterals.{serde_json_on_literals}
use Rattle.serde_json.specs.Data.{Data}
use Rattle.serde_json.specs.Written.{compact_text}
use Rattle.job_core.specs.Admitted.{AdmittedJob}
use Rattle.sessions.specs.Frames.{framed}
use Rattle.sessions.specs.Replies.{refusal_data, frame_or_refusal, longest_reply}
use Rattle.streams.specs.Answering.{refused}
use Rattle.shared_desk.specs.Histories.{HistoryEntry}
use Rattle.job_server.specs.EndToEnd.{FailsBy, IsResultOf, reported, failed, not_over, forgotten, unknown, IsToldResult, IsToldRefusal, HasReply, report_data}
use Rattle.job_server.proofs.ReplyFrames.{third, third_of_result, third_of_refused, framed_cases}

-- ---- the frame tells the number

refusal_text : (n : ℕ) → compact_text (refused n) ≡ codes "{\"code\":" ++ (decimal n ++ codes ",\"ok\":false}")
unfolding serde_json_on_literals refusal_data
refusal_text n = refl

refused_framed : (n : ℕ) → n < 2 ^ 64 → frame_or_refusal (refused n) ≡ framed (compact_text (refused n))
unfolding frame_or_refusal
refused_framed n small =
    let digits : length (decimal n) ≤ 20 = length-decimal-le 20 n (omega arith) (omega (arith, small)) small in
    let all : length (compact_text (refused n)) ≡ 8 + (length (decimal n) + 12) =
    ap length (refusal_text n) ∙ length-append (codes "{\"code\":") (decimal n ++ codes ",\"ok\":false}") ∙ ap (λ k. 8 + k) (length-append (decimal n) (codes ",\"ok\":false}")) in
    let short : length (compact_text (refused n)) ≤ longest_reply = omega (arith, digits, all) in
    let fits : nat_le (length (compact_text (refused n))) longest_reply ≡ true = grind (arith, nat_tests) in
    ap (λ (b : Bool). if◌then◌else◌ {A = List ℕ} b (framed (compact_text (refused n))) (framed (compact_text (refused 65)))) fits

same_frame : (m n : ℕ) → m < 2 ^ 64 → n < 2 ^ 64 → framed (compact_text (refused m)) ≡ framed (compact_text (refused n)) → m ≡ n
same_frame m n small_m small_n frames =
    let texts : compact_text (refused m) ≡ compact_text (refused n) = ap (drop 4) frames in
    let digits : decimal m ++ codes ",\"ok\":false}" ≡ decimal n ++ codes ",\"ok\":false}" = ap (drop 8) (sym (refusal_text m) ∙ texts ∙ refusal_text n) in
    decimal_injective m n small_m small_n (append_cancel_right (decimal m) (decimal n) (codes ",\"ok\":false}") digits)

same_code : (m n : ℕ) → m < 2 ^ 64 → n < 2 ^ 64 → frame_or_refusal (refused m) ≡ frame_or_refusal (refused n) → m ≡ n
same_code m n small_m small_n same = same_frame m n small_m small_n (sym (refused_framed m small_m) ∙ same ∙ refused_framed n small_n)

-- ---- the numbers are small

fails_small : (code : ℕ) → FailsBy code → code < 2 ^ 64
fails_small code (inl is) = omega (arith, is)
fails_small code (inr is) = omega (arith, is)

-- ---- the refusal is one of those that a result may be

module _ (keep : KeepLimits) (jobs : List AdmittedJob) (number code : ℕ) (small : code < 2 ^ 64) where
  as_told : (m : ℕ) → m < 2 ^ 64 → IsResultOf keep jobs number (refused m) → frame_or_refusal (refused m) ≡ frame_or_refusal (refused code) → IsResultOf keep jobs number (refused code) ⊎ (code ≡ 65)
  as_told m small_m is same = inl (subst (λ (n : ℕ). IsResultOf keep jobs number (refused n)) (same_code m code small_m small same) is)

  too_long : (told : Data) → third (framed (compact_text told)) ≡ 98 → frame_or_refusal told ≡ frame_or_refusal (refused code) → code ≡ 65
  too_long told own same =
      framed_cases (λ bytes. bytes ≡ frame_or_refusal (refused code) → code ≡ 65) told
      (λ is. let clash : 98 ≡ 99 = sym own ∙ ap third is ∙ third_of_refused code None None in absurd (omega (arith, clash)))
      (λ is. sym (same_frame 65 code (omega arith) small (is ∙ refused_framed code small)))
      same

  by_result : (told : Data) → IsResultOf keep jobs number told → frame_or_refusal told ≡ frame_or_refusal (refused code) → IsResultOf keep jobs number (refused code) ⊎ (code ≡ 65)
  by_result _ (failed job c at fails) same = as_told c (fails_small c fails) (failed job c at fails) same
  by_result _ (not_over job at) same = as_told 77 (omega arith) (not_over job at) same
  by_result _ (forgotten job at may) same = as_told 76 (omega arith) (forgotten job at may) same
  by_result _ (unknown at) same = as_told 76 (omega arith) (unknown at) same
  by_result _ (reported job report at run) same = inr (too_long (report_data report) (third_of_result report.buffer.items report.returned report.spent report.tasks.items) same)

pub told_refusal : (keep : KeepLimits) (before : List HistoryEntry) (number : ℕ) (e : HistoryEntry) (code : ℕ) → IsToldResult keep before number e → HasReply e (refused code) → code < 2 ^ 64 → IsToldRefusal keep before number code
told_refusal keep before number e code t tells small = record { jobs = t.jobs; taken = t.taken; is_result = by_result keep t.jobs number code small t.told t.is_result (sym t.tells ∙ tells) }
