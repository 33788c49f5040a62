-- The text of what a server counts, piece by piece.
use Rattle.std.proofs.Common.{◌≡◌, ℕ, List, [], ◌∷◌, ◌++◌, map, Bool, true, false, codes, decimal, refl, sym, ap, ◌∙◌}
use Rattle.std.proofs.lemmas.List.{append_assoc, append-nil}
use Rattle.serde_json.proofs.OnLiterals.{serde_json_on_literals}
use Rattle.serde_json.specs.Written.{comma_if, compact_text, items_text}
use Rattle.sessions.specs.declared.server_totals.ConnectionTotals.{ConnectionTotals}
use Rattle.sessions.specs.declared.server_totals.JobTotals.{JobTotals}
use Rattle.sessions.specs.declared.server_totals.RefusalCount.{RefusalCount}
use Rattle.sessions.specs.declared.server_totals.ServerTotals.{ServerTotals}
use Rattle.sessions.specs.Replies.{connections_data, items, job_totals_data, refusal_count_data, server_data, totals_data}
use Rattle.sessions.specs.ServerTexts.{behind_counted, refusal_count_text, refusal_count_texts, totals_front}
use Rattle.sessions.proofs.Writing.{five, seven, three, two}

-- ---- the counts of refusals

counted_items : (later : Bool) (rs : List RefusalCount) → items_text later (items (map refusal_count_data rs)) ≡ refusal_count_texts later rs ++ 93 ∷ []
counted_items later [] = refl
counted_items later (r ∷ rs) =
    ap (λ l. comma_if later ++ (refusal_count_text r ++ l)) (counted_items true rs)
    ∙ ap (λ l. comma_if later ++ l) (sym (append_assoc (refusal_count_text r) (refusal_count_texts true rs) (93 ∷ [])))
    ∙ sym (append_assoc (comma_if later) (refusal_count_text r ++ refusal_count_texts true rs) (93 ∷ []))

behind_some : (rs : List RefusalCount) → behind_counted true rs ≡ true
behind_some [] = refl
behind_some (r ∷ rs) = refl

behind_push : (later : Bool) (rs : List RefusalCount) (r : RefusalCount) → behind_counted later (rs ++ r ∷ []) ≡ true
behind_push later [] r = refl
behind_push later (s ∷ ss) r = refl

counted_push : (later : Bool) (rs : List RefusalCount) (r : RefusalCount)
    → refusal_count_texts later (rs ++ r ∷ []) ≡ refusal_count_texts later rs ++ (comma_if (behind_counted later rs) ++ refusal_count_text r)
counted_push later [] r = ap (λ l. comma_if later ++ l) (append-nil (refusal_count_text r))
counted_push later (s ∷ ss) r =
    ap (λ l. comma_if later ++ (refusal_count_text s ++ l))
    (counted_push true ss r ∙ ap (λ b. refusal_count_texts true ss ++ (comma_if b ++ refusal_count_text r)) (behind_some ss))
    ∙ ap (λ l. comma_if later ++ l) (sym (append_assoc (refusal_count_text s) (refusal_count_texts true ss) (44 ∷ refusal_count_text r)))
    ∙ sym (append_assoc (comma_if later) (refusal_count_text s ++ refusal_count_texts true ss) (44 ∷ refusal_count_text r))

-- one count more
pub counted_more : (o y0 y1 y2 : List ℕ) (later : Bool) (before after : List RefusalCount) (r : RefusalCount) → after ≡ before ++ r ∷ [] → y0 ≡ o ++ refusal_count_texts false before
    → later ≡ behind_counted false before → y1 ≡ y0 ++ comma_if later → y2 ≡ y1 ++ refusal_count_text r → y2 ≡ o ++ refusal_count_texts false after
counted_more o y0 y1 y2 later before after r more e0 el e1 e2 =
    e2 ∙ ap (λ l. l ++ refusal_count_text r) (e1 ∙ ap (λ l. l ++ comma_if later) e0 ∙ append_assoc o (refusal_count_texts false before) (comma_if later))
    ∙ append_assoc o (refusal_count_texts false before ++ comma_if later) (refusal_count_text r)
    ∙ ap (λ l. o ++ l) (append_assoc (refusal_count_texts false before) (comma_if later) (refusal_count_text r)
    ∙ ap (λ b. refusal_count_texts false before ++ (comma_if b ++ refusal_count_text r)) el
    ∙ sym (counted_push false before r) ∙ ap (refusal_count_texts false) (sym more))

pub behind_more : (before after : List RefusalCount) (r : RefusalCount) → after ≡ before ++ r ∷ [] → true ≡ behind_counted false after
behind_more before after r more = sym (ap (behind_counted false) more ∙ behind_push false before r)

-- ---- the parts

count_is : (r : RefusalCount) → refusal_count_text r ≡ (codes "{\"code\":" ++ decimal r.code) ++ ((codes ",\"count\":" ++ decimal r.count) ++ codes "}")
unfolding serde_json_on_literals refusal_count_data
count_is r = refl

pub count_written : (o y1 y2 y3 : List ℕ) (r : RefusalCount) → y1 ≡ o ++ (codes "{\"code\":" ++ decimal r.code) → y2 ≡ y1 ++ (codes ",\"count\":" ++ decimal r.count) → y3 ≡ y2 ++ codes "}"
    → y3 ≡ o ++ refusal_count_text r
count_written o y1 y2 y3 r e1 e2 e3 =
    three o (codes "{\"code\":" ++ decimal r.code) (codes ",\"count\":" ++ decimal r.count) (codes "}") y1 y2 y3 e1 e2 e3 ∙ ap (λ l. o ++ l) (sym (count_is r))

connections_is : (c : ConnectionTotals) → compact_text (connections_data c) ≡ (codes "{\"open\":" ++ decimal c.opened) ++ ((codes ",\"taken\":" ++ decimal c.taken) ++ codes "}")
unfolding serde_json_on_literals connections_data
connections_is c = refl

pub connections_written : (o y1 y2 y3 : List ℕ) (c : ConnectionTotals) → y1 ≡ o ++ (codes "{\"open\":" ++ decimal c.opened) → y2 ≡ y1 ++ (codes ",\"taken\":" ++ decimal c.taken) → y3 ≡ y2 ++ codes "}"
    → y3 ≡ o ++ compact_text (connections_data c)
connections_written o y1 y2 y3 c e1 e2 e3 =
    three o (codes "{\"open\":" ++ decimal c.opened) (codes ",\"taken\":" ++ decimal c.taken) (codes "}") y1 y2 y3 e1 e2 e3 ∙ ap (λ l. o ++ l) (sym (connections_is c))

jobs_is : (j : JobTotals) → compact_text (job_totals_data j) ≡ (codes "{\"failed\":" ++ decimal j.failed)
    ++ ((codes ",\"open\":" ++ decimal j.opened) ++ ((codes ",\"over\":" ++ decimal j.over) ++ ((codes ",\"taken\":" ++ decimal j.taken) ++ ((codes ",\"waiting\":" ++ decimal j.waiting) ++ codes "}"))))
unfolding serde_json_on_literals job_totals_data
jobs_is j = refl

pub jobs_written : (o y1 y2 y3 y4 y5 y6 : List ℕ) (j : JobTotals) → y1 ≡ o ++ (codes "{\"failed\":" ++ decimal j.failed) → y2 ≡ y1 ++ (codes ",\"open\":" ++ decimal j.opened)
    → y3 ≡ y2 ++ (codes ",\"over\":" ++ decimal j.over) → y4 ≡ y3 ++ (codes ",\"taken\":" ++ decimal j.taken) → y5 ≡ y4 ++ (codes ",\"waiting\":" ++ decimal j.waiting) → y6 ≡ y5 ++ codes "}"
    → y6 ≡ o ++ compact_text (job_totals_data j)
jobs_written o y1 y2 y3 y4 y5 y6 j e1 e2 e3 e4 e5 e6 =
    five o (codes "{\"failed\":" ++ decimal j.failed) (codes ",\"open\":" ++ decimal j.opened) (codes ",\"over\":" ++ decimal j.over) (codes ",\"taken\":" ++ decimal j.taken)
    ((codes ",\"waiting\":" ++ decimal j.waiting) ++ codes "}") y1 y2 y3 y4 y6 e1 e2 e3 e4 (two y4 (codes ",\"waiting\":" ++ decimal j.waiting) (codes "}") y5 y6 e5 e6)
    ∙ ap (λ l. o ++ l) (sym (jobs_is j))

pub front_written : (o y1 y2 y3 y4 y5 : List ℕ) (c : ConnectionTotals) (instance : ℕ) (j : JobTotals) → y1 ≡ o ++ codes "{\"connections\":" → y2 ≡ y1 ++ compact_text (connections_data c)
    → y3 ≡ y2 ++ (codes ",\"instance\":" ++ decimal instance) → y4 ≡ y3 ++ codes ",\"jobs\":" → y5 ≡ y4 ++ compact_text (job_totals_data j) → y5 ≡ o ++ totals_front c instance j
front_written o y1 y2 y3 y4 y5 c instance j e1 e2 e3 e4 e5 =
    five o (codes "{\"connections\":") (compact_text (connections_data c)) (codes ",\"instance\":" ++ decimal instance) (codes ",\"jobs\":") (compact_text (job_totals_data j)) y1 y2 y3 y4 y5 e1 e2 e3 e4 e5

-- ---- the whole

-- the members from the lost lines on
abbrev behind_front : ServerTotals → List ℕ
behind_front t =
    (codes ",\"lines_lost\":" ++ decimal t.lines_lost) ++ ((codes ",\"ok\":true,\"protocol\":" ++ decimal 1) ++ (codes ",\"refusals\":["
    ++ (refusal_count_texts false t.refusals.items ++ ((codes "],\"seconds\":" ++ decimal t.seconds) ++ codes ",\"version\":\"0.1.0\"}"))))

-- the members behind the refusals
abbrev behind_counts : ServerTotals → List ℕ
behind_counts t = (codes ",\"seconds\":" ++ decimal t.seconds) ++ codes ",\"version\":\"0.1.0\"}"

counts_end : (t : ServerTotals) → items_text false (items (map refusal_count_data t.refusals.items)) ++ behind_counts t
    ≡ refusal_count_texts false t.refusals.items ++ ((codes "],\"seconds\":" ++ decimal t.seconds) ++ codes ",\"version\":\"0.1.0\"}")
counts_end t = ap (λ l. l ++ behind_counts t) (counted_items false t.refusals.items) ∙ append_assoc (refusal_count_texts false t.refusals.items) (93 ∷ []) (behind_counts t)

-- the pieces of the front, and what stands behind it, nested to the right
front_then : (c : ConnectionTotals) (instance : ℕ) (j : JobTotals) (rest : List ℕ) → totals_front c instance j ++ rest
    ≡ codes "{\"connections\":" ++ (compact_text (connections_data c) ++ ((codes ",\"instance\":" ++ decimal instance) ++ (codes ",\"jobs\":" ++ (compact_text (job_totals_data j) ++ rest))))
front_then c instance j rest =
    ap (λ l. codes "{\"connections\":" ++ l)
    (append_assoc (compact_text (connections_data c)) ((codes ",\"instance\":" ++ decimal instance) ++ (codes ",\"jobs\":" ++ compact_text (job_totals_data j))) rest
    ∙ ap (λ l. compact_text (connections_data c) ++ l)
    (append_assoc (codes ",\"instance\":" ++ decimal instance) (codes ",\"jobs\":" ++ compact_text (job_totals_data j)) rest))

server_is : (t : ServerTotals) → compact_text (totals_data t) ≡ totals_front t.connections t.instance t.jobs ++ behind_front t
unfolding serde_json_on_literals server_data
server_is t =
    ap (λ l. codes "{\"connections\":" ++ (compact_text (connections_data t.connections) ++ ((codes ",\"instance\":" ++ decimal t.instance)
    ++ (codes ",\"jobs\":" ++ (compact_text (job_totals_data t.jobs) ++ ((codes ",\"lines_lost\":" ++ decimal t.lines_lost) ++ ((codes ",\"ok\":true,\"protocol\":" ++ decimal 1) ++ (codes ",\"refusals\":[" ++ l))))))))
    (counts_end t)
    ∙ sym (front_then t.connections t.instance t.jobs (behind_front t))

pub server_written : (o y1 y2 y3 y4 y5 y6 y7 : List ℕ) (t : ServerTotals) → y1 ≡ o ++ totals_front t.connections t.instance t.jobs → y2 ≡ y1 ++ (codes ",\"lines_lost\":" ++ decimal t.lines_lost)
    → y3 ≡ y2 ++ (codes ",\"ok\":true,\"protocol\":" ++ decimal 1) → y4 ≡ y3 ++ codes ",\"refusals\":[" → y5 ≡ y4 ++ refusal_count_texts false t.refusals.items
    → y6 ≡ y5 ++ (codes "],\"seconds\":" ++ decimal t.seconds) → y7 ≡ y6 ++ codes ",\"version\":\"0.1.0\"}" → y7 ≡ o ++ compact_text (totals_data t)
server_written o y1 y2 y3 y4 y5 y6 y7 t e1 e2 e3 e4 e5 e6 e7 =
    seven o (totals_front t.connections t.instance t.jobs) (codes ",\"lines_lost\":" ++ decimal t.lines_lost) (codes ",\"ok\":true,\"protocol\":" ++ decimal 1) (codes ",\"refusals\":[")
    (refusal_count_texts false t.refusals.items) (codes "],\"seconds\":" ++ decimal t.seconds) (codes ",\"version\":\"0.1.0\"}") y1 y2 y3 y4 y5 y6 y7 e1 e2 e3 e4 e5 e6 e7
    ∙ ap (λ l. o ++ l) (sym (server_is t))
