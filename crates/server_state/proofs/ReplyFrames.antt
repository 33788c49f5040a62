-- The frames of a result, of a refusal and of a submit's reply differ in their seventh byte.
use Rattle.std.proofs.Common.{◌≡◌, ℕ, List, Bool, true, false, Option, None, length, get_or, nat_le, if◌then◌else◌, refl}
use Rattle.serde_json.proofs.OnLiterals.{serde_json_on_literals}
use Rattle.serde_json.specs.Data.{Data}
use Rattle.serde_json.specs.Written.{compact_text}
use Rattle.credit_book.specs.declared.event.TaskEnd.{TaskEnd}
use Rattle.sessions.specs.Frames.{framed}
use Rattle.sessions.specs.Replies.{refusal_data, submit_data, result_data, frame_or_refusal, longest_reply}

-- the third byte of a frame's payload
abbrev pub third : List ℕ → ℕ
third frame = get_or frame 6 0

pub third_of_result : (buffer : List ℕ) (returned spent : ℕ) (tasks : List TaskEnd) → third (framed (compact_text (result_data buffer returned spent tasks))) ≡ 98
unfolding serde_json_on_literals result_data
third_of_result buffer returned spent tasks = refl

pub third_of_refusal : (code : ℕ) (program slot : Option ℕ) → third (framed (compact_text (refusal_data code program slot))) ≡ 99
unfolding serde_json_on_literals refusal_data
third_of_refusal code program slot = refl

pub third_of_submit : (job : ℕ) → third (framed (compact_text (submit_data job))) ≡ 106
unfolding serde_json_on_literals submit_data
third_of_submit job = refl

-- the frame of a reply is its own, or that of refusal 65
pub framed_cases : (P : List ℕ → Type 0) (told : Data) → P (framed (compact_text told)) → P (framed (compact_text (refusal_data 65 None None))) → P (frame_or_refusal told)
unfolding frame_or_refusal
framed_cases P told own other = by_length (nat_le (length (compact_text told)) longest_reply)
  where
    by_length : (b : Bool) → P (if◌then◌else◌ {A = List ℕ} b (framed (compact_text told)) (framed (compact_text (refusal_data 65 None None))))
    by_length true = own
    by_length false = other

pub third_of_refused : (code : ℕ) (program slot : Option ℕ) → third (frame_or_refusal (refusal_data code program slot)) ≡ 99
third_of_refused code program slot =
    framed_cases (λ bytes. third bytes ≡ 99) (refusal_data code program slot) (third_of_refusal code program slot) (third_of_refusal 65 None None)
