-- The text of what a job came to, piece by piece, and how long it is.
use Rattle.std.proofs.Common.{◌≡◌, ℕ, suc, ◌+◌, ◌-◌, ◌<◌, List, [], ◌∷◌, ◌++◌, length, map, sum_by, Bool, true, false, codes, decimal, refl, sym, subst, ap, ◌∙◌, arith, length-append}
use Rattle.std.proofs.lemmas.List.{append_assoc, append-nil}
use Rattle.std.proofs.lemmas.List.Sums.{sum_by-cons}
use Rattle.serde_json.proofs.OnLiterals.{serde_json_on_literals}
use Rattle.serde_json.specs.Written.{comma_if, compact_text, items_text}
use Rattle.serde_json.specs.Data.{boolean, string}
use Rattle.hex.specs.Hex.{encode_lower}
use Rattle.credit_book.specs.declared.event.TaskEnd.{TaskEnd}
use Rattle.sessions.specs.Replies.{items, result_data, task_data}
use Rattle.sessions.specs.ResultTexts.{behind_tasks, result_text, task_texts, weight}
use Rattle.std.specs.Int.{w32, to_be_bytes}
use Rattle.sessions.specs.declared.result.JobOutcome.{JobOutcome}
use Rattle.sessions.specs.Frames.{framed}
use Rattle.sessions.specs.Outcomes.{outcome_data}
use Rattle.sessions.specs.Replies.{longest_reply}
use Rattle.sessions.proofs.Writing.{seven}

-- ---- the tasks

told_items : (later : Bool) (ts : List TaskEnd) → items_text later (items (map task_data ts)) ≡ task_texts later ts ++ 93 ∷ []
told_items later [] = refl
told_items later (t ∷ ts) =
    ap (λ l. comma_if later ++ (compact_text (task_data t) ++ l)) (told_items true ts)
    ∙ ap (λ l. comma_if later ++ l) (sym (append_assoc (compact_text (task_data t)) (task_texts true ts) (93 ∷ [])))
    ∙ sym (append_assoc (comma_if later) (compact_text (task_data t) ++ task_texts true ts) (93 ∷ []))

behind_some : (ts : List TaskEnd) → behind_tasks true ts ≡ true
behind_some [] = refl
behind_some (t ∷ ts) = refl

behind_push : (later : Bool) (ts : List TaskEnd) (t : TaskEnd) → behind_tasks later (ts ++ t ∷ []) ≡ true
behind_push later [] t = refl
behind_push later (u ∷ us) t = refl

pub told_push : (later : Bool) (ts : List TaskEnd) (t : TaskEnd) → task_texts later (ts ++ t ∷ []) ≡ task_texts later ts ++ (comma_if (behind_tasks later ts) ++ compact_text (task_data t))
told_push later [] t = ap (λ l. comma_if later ++ l) (append-nil (compact_text (task_data t)))
told_push later (u ∷ us) t =
    ap (λ l. comma_if later ++ (compact_text (task_data u) ++ l))
    (told_push true us t ∙ ap (λ b. task_texts true us ++ (comma_if b ++ compact_text (task_data t))) (behind_some us))
    ∙ ap (λ l. comma_if later ++ l) (sym (append_assoc (compact_text (task_data u)) (task_texts true us) (44 ∷ compact_text (task_data t))))
    ∙ sym (append_assoc (comma_if later) (compact_text (task_data u) ++ task_texts true us) (44 ∷ compact_text (task_data t)))

-- one task more
pub tasks_more : (o y0 y1 y2 : List ℕ) (later : Bool) (before after : List TaskEnd) (t : TaskEnd) → after ≡ before ++ t ∷ [] → y0 ≡ o ++ task_texts false before → later ≡ behind_tasks false before →
    y1 ≡ y0 ++ comma_if later → y2 ≡ y1 ++ compact_text (task_data t) → y2 ≡ o ++ task_texts false after
tasks_more o y0 y1 y2 later before after t more e0 el e1 e2 =
    e2 ∙ ap (λ l. l ++ compact_text (task_data t)) (e1 ∙ ap (λ l. l ++ comma_if later) e0 ∙ append_assoc o (task_texts false before) (comma_if later))
    ∙ append_assoc o (task_texts false before ++ comma_if later) (compact_text (task_data t))
    ∙ ap (λ l. o ++ l) (append_assoc (task_texts false before) (comma_if later) (compact_text (task_data t)) ∙ ap (λ b. task_texts false before ++ (comma_if b ++ compact_text (task_data t))) el
    ∙ sym (told_push false before t) ∙ ap (task_texts false) (sym more))

pub behind_more : (before after : List TaskEnd) (t : TaskEnd) → after ≡ before ++ t ∷ [] → true ≡ behind_tasks false after
behind_more before after t more = sym (ap (behind_tasks false) more ∙ behind_push false before t)

-- a task with its comma, and the others behind it
one_more : (l a n : ℕ) → l ≡ a + n → suc l ≡ (a + 1) + n
one_more l a n e = omega (arith, e)

one_fewer : (l a n : ℕ) → l ≡ a + n → l ≡ (a + 1) + n - 1
one_fewer l a n e = omega (arith, e)

behind_one : (t : TaskEnd) (ts : List TaskEnd) → length (task_texts true ts) ≡ sum_by weight ts → length (compact_text (task_data t) ++ task_texts true ts) ≡ length (compact_text (task_data t)) + sum_by weight ts
behind_one t ts more = length-append (compact_text (task_data t)) (task_texts true ts) ∙ ap (λ n. length (compact_text (task_data t)) + n) more

-- with a comma ahead of each
told_weight : (ts : List TaskEnd) → length (task_texts true ts) ≡ sum_by weight ts
told_weight [] = refl
told_weight (t ∷ ts) =
    one_more (length (compact_text (task_data t) ++ task_texts true ts)) (length (compact_text (task_data t))) (sum_by weight ts) (behind_one t ts (told_weight ts))
    ∙ sym (sum_by-cons weight t ts)

told_length : (ts : List TaskEnd) → length (task_texts false ts) ≡ sum_by weight ts - 1
told_length [] = refl
told_length (t ∷ ts) =
    one_fewer (length (compact_text (task_data t) ++ task_texts true ts)) (length (compact_text (task_data t))) (sum_by weight ts) (behind_one t ts (told_weight ts))
    ∙ ap (λ n. n - 1) (sym (sum_by-cons weight t ts))

-- ---- the whole

pub result_is : (buffer : List ℕ) (returned spent : ℕ) (tasks : List TaskEnd) → compact_text (result_data buffer returned spent tasks) ≡ result_text (compact_text (string (encode_lower buffer))) returned spent tasks
unfolding serde_json_on_literals result_data result_text
result_is buffer returned spent tasks =
    let rest : items_text false (items (map task_data tasks)) ++ 125 ∷ [] ≡ task_texts false tasks ++ codes "]}" =
    ap (λ l. l ++ 125 ∷ []) (told_items false tasks) ∙ append_assoc (task_texts false tasks) (93 ∷ []) (125 ∷ []) in
    ap (λ l. codes "{\"buffer\":" ++ (compact_text (string (encode_lower buffer)) ++ ((codes ",\"ok\":true,\"returned\":" ++ decimal returned) ++ ((codes ",\"spent\":" ++ decimal spent) ++ (codes ",\"tasks\":[" ++ l))))) rest

pub task_is : (t : TaskEnd) → compact_text (task_data t) ≡
    (codes "{\"number\":" ++ decimal t.number) ++ ((codes ",\"program\":" ++ decimal t.program) ++ ((codes ",\"r0\":" ++ decimal t.r0) ++ ((codes ",\"ran\":" ++ compact_text (boolean t.ran))
    ++ ((codes ",\"rest\":" ++ decimal t.rest) ++ ((codes ",\"spent\":" ++ decimal t.spent) ++ codes "}")))))
unfolding serde_json_on_literals task_data
task_is t = refl

pub task_written : (o y1 y2 y3 y4 y5 y6 y7 : List ℕ) (number program rest spent : ℕ) (t : TaskEnd) → number ≡ t.number → program ≡ t.program → rest ≡ t.rest → spent ≡ t.spent →
    y1 ≡ o ++ (codes "{\"number\":" ++ decimal number) → y2 ≡ y1 ++ (codes ",\"program\":" ++ decimal program) → y3 ≡ y2 ++ (codes ",\"r0\":" ++ decimal t.r0) → y4 ≡ y3 ++ (codes ",\"ran\":" ++ compact_text (boolean t.ran)) →
    y5 ≡ y4 ++ (codes ",\"rest\":" ++ decimal rest) → y6 ≡ y5 ++ (codes ",\"spent\":" ++ decimal spent) → y7 ≡ y6 ++ codes "}" → y7 ≡ o ++ compact_text (task_data t)
task_written o y1 y2 y3 y4 y5 y6 y7 number program rest spent t n p r s e1 e2 e3 e4 e5 e6 e7 =
    seven o _ _ _ _ _ _ _ y1 y2 y3 y4 y5 y6 y7 (e1 ∙ ap (λ k. o ++ (codes "{\"number\":" ++ decimal k)) n) (e2 ∙ ap (λ k. y1 ++ (codes ",\"program\":" ++ decimal k)) p) e3 e4
    (e5 ∙ ap (λ k. y4 ++ (codes ",\"rest\":" ++ decimal k)) r) (e6 ∙ ap (λ k. y5 ++ (codes ",\"spent\":" ++ decimal k)) s) e7
    ∙ ap (λ l. o ++ l) (sym (task_is t))

pub result_written : (o y1 y2 y3 y4 y5 y6 y7 buffer : List ℕ) (r s returned spent : ℕ) (tasks : List TaskEnd) → r ≡ returned → s ≡ spent →
    y1 ≡ o ++ codes "{\"buffer\":" → y2 ≡ y1 ++ buffer → y3 ≡ y2 ++ (codes ",\"ok\":true,\"returned\":" ++ decimal r) → y4 ≡ y3 ++ (codes ",\"spent\":" ++ decimal s) →
    y5 ≡ y4 ++ codes ",\"tasks\":[" → y6 ≡ y5 ++ task_texts false tasks → y7 ≡ y6 ++ codes "]}" → y7 ≡ o ++ result_text buffer returned spent tasks
unfolding result_text
result_written o y1 y2 y3 y4 y5 y6 y7 buffer r s returned spent tasks a b e1 e2 e3 e4 e5 e6 e7 =
    seven o _ _ _ _ _ _ _ y1 y2 y3 y4 y5 y6 y7 e1 e2 (e3 ∙ ap (λ k. y2 ++ (codes ",\"ok\":true,\"returned\":" ++ decimal k)) a) (e4 ∙ ap (λ k. y3 ++ (codes ",\"spent\":" ++ decimal k)) b) e5 e6 e7

-- ---- lengths

behind_list : (a b : List ℕ) (n : ℕ) → length b ≡ n → length (a ++ b) ≡ length a + n
behind_list a b n e = length-append a b ∙ ap (λ k. length a + k) e

behind_pair : (a b c : List ℕ) (n : ℕ) → length c ≡ n → length ((a ++ b) ++ c) ≡ (length a + length b) + n
behind_pair a b c n e = behind_list (a ++ b) c n e ∙ ap (λ k. k + n) (length-append a b)

result_sum : (b r s t w : ℕ) → t ≡ w - 1 → 10 + (b + ((22 + r) + ((9 + s) + (10 + (t + 2))))) ≡ 53 + (r + s) + (w - 1) + b
result_sum b r s t w e = omega (arith, e)

pub result_length : (buffer : List ℕ) (returned spent : ℕ) (tasks : List TaskEnd) →
    length (result_text buffer returned spent tasks) ≡ 53 + (length (decimal returned) + length (decimal spent)) + (sum_by weight tasks - 1) + length buffer
unfolding result_text
result_length buffer returned spent tasks =
    behind_list (codes "{\"buffer\":") _ _ (behind_list buffer _ _ (behind_pair (codes ",\"ok\":true,\"returned\":") (decimal returned) _ _
    (behind_pair (codes ",\"spent\":") (decimal spent) _ _ (behind_list (codes ",\"tasks\":[") _ _ (behind_list (task_texts false tasks) (codes "]}") _ refl)))))
    ∙ result_sum (length buffer) (length (decimal returned)) (length (decimal spent)) (length (task_texts false tasks)) (sum_by weight tasks) (told_length tasks)

task_sum : (n p r w s t : ℕ) → (10 + n) + ((11 + p) + ((6 + r) + ((7 + w) + ((8 + s) + ((9 + t) + 1))))) ≡ 52 + w + (n + p) + (r + s + t)
task_sum n p r w s t = omega arith

pub task_length : (t : TaskEnd) → length (compact_text (task_data t)) ≡
    52 + length (compact_text (boolean t.ran)) + (length (decimal t.number) + length (decimal t.program)) + (length (decimal t.r0) + length (decimal t.rest) + length (decimal t.spent))
task_length t =
    ap length (task_is t) ∙ behind_pair (codes "{\"number\":") (decimal t.number) _ _ (behind_pair (codes ",\"program\":") (decimal t.program) _ _
    (behind_pair (codes ",\"r0\":") (decimal t.r0) _ _ (behind_pair (codes ",\"ran\":") (compact_text (boolean t.ran)) _ _
    (behind_pair (codes ",\"rest\":") (decimal t.rest) _ _ (behind_pair (codes ",\"spent\":") (decimal t.spent) (codes "}") _ refl)))))
    ∙ task_sum (length (decimal t.number)) (length (decimal t.program)) (length (decimal t.r0)) (length (compact_text (boolean t.ran))) (length (decimal t.rest)) (length (decimal t.spent))

pub task_counted : (t : TaskEnd) (w n p r s u : ℕ) → w ≡ length (compact_text (boolean t.ran)) → n ≡ length (decimal t.number) → p ≡ length (decimal t.program) → r ≡ length (decimal t.r0) →
    s ≡ length (decimal t.rest) → u ≡ length (decimal t.spent) → 52 + w + (n + p) + (r + s + u) ≡ length (compact_text (task_data t))
task_counted t w n p r s u ew en ep er es eu = rw (ew, en, ep, er, es, eu) (sym (task_length t))

pub result_counted : (buffer : List ℕ) (returned spent : ℕ) (tasks : List TaskEnd) (w r s : ℕ) → w ≡ sum_by weight tasks → r ≡ length (decimal returned) → s ≡ length (decimal spent) →
    53 + (r + s) + (w - 1) + length buffer ≡ length (result_text buffer returned spent tasks)
result_counted buffer returned spent tasks w r s ew er es = rw (ew, er, es) (sym (result_length buffer returned spent tasks))

long_sum : (r s w b : ℕ) → 4294967296 < w → 4294967295 < 53 + (r + s) + (w - 1) + b
long_sum r s w b h = omega (arith, h)

pub result_long : (buffer : List ℕ) (returned spent : ℕ) (tasks : List TaskEnd) → longest_reply + 1 < sum_by weight tasks → longest_reply < length (result_text buffer returned spent tasks)
result_long buffer returned spent tasks h =
    subst (λ n. longest_reply < n) (sym (result_length buffer returned spent tasks)) (long_sum (length (decimal returned)) (length (decimal spent)) (sum_by weight tasks) (length buffer) h)

-- ---- an outcome's text, and its frame

pub outcome_is : (o : JobOutcome) (buffer : List ℕ) → buffer ≡ compact_text (string (encode_lower o.buffer.now)) → result_text buffer o.returned o.spent o.tasks.now ≡ compact_text (outcome_data o)
outcome_is o buffer e = ap (λ b. result_text b o.returned o.spent o.tasks.now) e ∙ sym (result_is o.buffer.now o.returned o.spent o.tasks.now)

pub frame_written : (y0 y1 y2 bytes text : List ℕ) (count : ℕ) → y0 ≡ [] → bytes ≡ to_be_bytes w32 count → y1 ≡ y0 ++ bytes → count ≡ length text → y2 ≡ y1 ++ text → y2 ≡ framed text
frame_written y0 y1 y2 bytes text count e0 eb e1 ec e2 =
    e2 ∙ ap (λ l. l ++ text) (e1 ∙ ap (λ l. l ++ bytes) e0 ∙ eb ∙ ap (to_be_bytes w32) ec)
