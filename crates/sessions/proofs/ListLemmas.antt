-- The text of a listing, piece by piece.
use Rattle.std.proofs.Common.{◌≡◌, ℕ, List, [], ◌∷◌, ◌++◌, map, Bool, true, false, Option, Some, None, codes, decimal, refl, sym, ap, ◌∙◌}
use Rattle.std.proofs.lemmas.List.{append_assoc, append-nil}
use Rattle.serde_json.proofs.OnLiterals.{serde_json_on_literals}
use Rattle.serde_json.specs.Data.{string}
use Rattle.serde_json.specs.Written.{comma_if, compact_text, items_text}
use Rattle.accounts.specs.declared.listing.ListedJob.{ListedJob}
use Rattle.accounts.specs.declared.listing.ListedState.{ListedState}
use Rattle.accounts.specs.declared.listing.ListedState.TheVariants.{Open, Over, Failed}
use Rattle.sessions.specs.Replies.{items, jobs_data, key_among, listed_by, listed_data}
use Rattle.sessions.specs.declared.job_key.KeyedJob.{KeyedJob}
use Rattle.sessions.specs.ListTexts.{behind_listed, key_text, listed_text, listed_texts}
use Rattle.sessions.proofs.Writing.{four, three, two}

-- ---- all of them

told_items : (keys : List KeyedJob) (later : Bool) (ts : List ListedJob) → items_text later (items (map (listed_by keys) ts)) ≡ listed_texts keys later ts ++ 93 ∷ []
told_items keys later [] = refl
told_items keys later (t ∷ ts) =
    ap (λ l. comma_if later ++ (listed_text keys t ++ l)) (told_items keys true ts)
    ∙ ap (λ l. comma_if later ++ l) (sym (append_assoc (listed_text keys t) (listed_texts keys true ts) (93 ∷ [])))
    ∙ sym (append_assoc (comma_if later) (listed_text keys t ++ listed_texts keys true ts) (93 ∷ []))

behind_some : (ts : List ListedJob) → behind_listed true ts ≡ true
behind_some [] = refl
behind_some (t ∷ ts) = refl

behind_push : (later : Bool) (ts : List ListedJob) (t : ListedJob) → behind_listed later (ts ++ t ∷ []) ≡ true
behind_push later [] t = refl
behind_push later (u ∷ us) t = refl

pub told_push : (keys : List KeyedJob) (later : Bool) (ts : List ListedJob) (t : ListedJob) → listed_texts keys later (ts ++ t ∷ []) ≡ listed_texts keys later ts ++ (comma_if (behind_listed later ts) ++ listed_text keys t)
told_push keys later [] t = ap (λ l. comma_if later ++ l) (append-nil (listed_text keys t))
told_push keys later (u ∷ us) t =
    ap (λ l. comma_if later ++ (listed_text keys u ++ l))
    (told_push keys true us t ∙ ap (λ b. listed_texts keys true us ++ (comma_if b ++ listed_text keys t)) (behind_some us))
    ∙ ap (λ l. comma_if later ++ l) (sym (append_assoc (listed_text keys u) (listed_texts keys true us) (44 ∷ listed_text keys t)))
    ∙ sym (append_assoc (comma_if later) (listed_text keys u ++ listed_texts keys true us) (44 ∷ listed_text keys t))

-- one job more
pub listed_more : (keys : List KeyedJob) (o y0 y1 y2 : List ℕ) (later : Bool) (before after : List ListedJob) (t : ListedJob) → after ≡ before ++ t ∷ [] → y0 ≡ o ++ listed_texts keys false before → later ≡ behind_listed false before →
    y1 ≡ y0 ++ comma_if later → y2 ≡ y1 ++ listed_text keys t → y2 ≡ o ++ listed_texts keys false after
listed_more keys o y0 y1 y2 later before after t more e0 el e1 e2 =
    e2 ∙ ap (λ l. l ++ listed_text keys t) (e1 ∙ ap (λ l. l ++ comma_if later) e0 ∙ append_assoc o (listed_texts keys false before) (comma_if later))
    ∙ append_assoc o (listed_texts keys false before ++ comma_if later) (listed_text keys t)
    ∙ ap (λ l. o ++ l) (append_assoc (listed_texts keys false before) (comma_if later) (listed_text keys t) ∙ ap (λ b. listed_texts keys false before ++ (comma_if b ++ listed_text keys t)) el
    ∙ sym (told_push keys false before t) ∙ ap (listed_texts keys false) (sym more))

pub behind_more : (before after : List ListedJob) (t : ListedJob) → after ≡ before ++ t ∷ [] → true ≡ behind_listed false after
behind_more before after t more = sym (ap (behind_listed false) more ∙ behind_push false before t)

-- ---- one job

open_is : (n : ℕ) (key : Option (List ℕ)) → compact_text (listed_data n key Open) ≡ (codes "{\"job\":" ++ decimal n) ++ (key_text key ++ codes ",\"state\":\"open\"}")
unfolding serde_json_on_literals listed_data
open_is n None = refl
open_is n (Some key) = refl

over_is : (n : ℕ) (key : Option (List ℕ)) → compact_text (listed_data n key Over) ≡ (codes "{\"job\":" ++ decimal n) ++ (key_text key ++ codes ",\"state\":\"over\"}")
unfolding serde_json_on_literals listed_data
over_is n None = refl
over_is n (Some key) = refl

failed_is : (n code : ℕ) (key : Option (List ℕ)) → compact_text (listed_data n key (Failed code)) ≡ (codes "{\"code\":" ++ decimal code) ++ ((codes ",\"job\":" ++ decimal n) ++ (key_text key ++ codes ",\"state\":\"failed\"}"))
unfolding serde_json_on_literals listed_data
failed_is n code None = refl
failed_is n code (Some key) = refl

pub open_written : (o y1 y2 y3 : List ℕ) (n : ℕ) (key : Option (List ℕ)) → y1 ≡ o ++ (codes "{\"job\":" ++ decimal n) → y2 ≡ y1 ++ key_text key → y3 ≡ y2 ++ codes ",\"state\":\"open\"}"
    → y3 ≡ o ++ compact_text (listed_data n key Open)
open_written o y1 y2 y3 n key e1 e2 e3 = three o _ _ _ y1 y2 y3 e1 e2 e3 ∙ ap (λ l. o ++ l) (sym (open_is n key))

pub over_written : (o y1 y2 y3 : List ℕ) (n : ℕ) (key : Option (List ℕ)) → y1 ≡ o ++ (codes "{\"job\":" ++ decimal n) → y2 ≡ y1 ++ key_text key → y3 ≡ y2 ++ codes ",\"state\":\"over\"}"
    → y3 ≡ o ++ compact_text (listed_data n key Over)
over_written o y1 y2 y3 n key e1 e2 e3 = three o _ _ _ y1 y2 y3 e1 e2 e3 ∙ ap (λ l. o ++ l) (sym (over_is n key))

pub failed_written : (o y1 y2 y3 y4 : List ℕ) (n code number : ℕ) (key : Option (List ℕ)) → number ≡ code → y1 ≡ o ++ (codes "{\"code\":" ++ decimal number) → y2 ≡ y1 ++ (codes ",\"job\":" ++ decimal n)
    → y3 ≡ y2 ++ key_text key → y4 ≡ y3 ++ codes ",\"state\":\"failed\"}" → y4 ≡ o ++ compact_text (listed_data n key (Failed code))
failed_written o y1 y2 y3 y4 n code number key same e1 e2 e3 e4 =
    four o _ _ _ _ y1 y2 y3 y4 (e1 ∙ ap (λ k. o ++ (codes "{\"code\":" ++ decimal k)) same) e2 e3 e4 ∙ ap (λ l. o ++ l) (sym (failed_is n code key))

-- the text of a job that stands so
pub listed_as : (o y : List ℕ) (j : ListedJob) (key : Option (List ℕ)) (state : ListedState) → j.state ≡ state → y ≡ o ++ compact_text (listed_data j.job key state) → y ≡ o ++ compact_text (listed_data j.job key j.state)
listed_as o y j key state is written = written ∙ ap (λ s. o ++ compact_text (listed_data j.job key s)) (sym is)

-- the text of a job, with its key
pub listed_keyed : (keys : List KeyedJob) (o y : List ℕ) (j : ListedJob) (key : Option (List ℕ)) → key ≡ key_among keys j.job → y ≡ o ++ compact_text (listed_data j.job key j.state) → y ≡ o ++ listed_text keys j
listed_keyed keys o y j key is written = written ∙ ap (λ k. o ++ compact_text (listed_data j.job k j.state)) is

-- the text behind a key, where one is there
pub key_put : (o y1 y2 quoted : List ℕ) (key : List ℕ) → quoted ≡ compact_text (string key) → y1 ≡ o ++ codes ",\"key\":" → y2 ≡ y1 ++ quoted → y2 ≡ o ++ key_text (Some key)
key_put o y1 y2 quoted key is e1 e2 = two o (codes ",\"key\":") (compact_text (string key)) y1 y2 e1 (e2 ∙ ap (λ l. y1 ++ l) is)

-- ---- the whole

jobs_is : (count : ℕ) (jobs : List ListedJob) (keys : List KeyedJob) → compact_text (jobs_data count jobs keys) ≡ (codes "{\"count\":" ++ decimal count) ++ (codes ",\"jobs\":[" ++ (listed_texts keys false jobs ++ codes "],\"ok\":true}"))
unfolding serde_json_on_literals jobs_data
jobs_is count jobs keys =
    ap (λ l. (codes "{\"count\":" ++ decimal count) ++ (codes ",\"jobs\":[" ++ l))
    (ap (λ l. l ++ codes ",\"ok\":true}") (told_items keys false jobs) ∙ append_assoc (listed_texts keys false jobs) (93 ∷ []) (codes ",\"ok\":true}"))

pub jobs_written : (o y1 y2 y3 y4 : List ℕ) (count : ℕ) (jobs : List ListedJob) (keys : List KeyedJob) → y1 ≡ o ++ (codes "{\"count\":" ++ decimal count) → y2 ≡ y1 ++ codes ",\"jobs\":[" → y3 ≡ y2 ++ listed_texts keys false jobs
    → y4 ≡ y3 ++ codes "],\"ok\":true}" → y4 ≡ o ++ compact_text (jobs_data count jobs keys)
jobs_written o y1 y2 y3 y4 count jobs keys e1 e2 e3 e4 = four o _ _ _ _ y1 y2 y3 y4 e1 e2 e3 e4 ∙ ap (λ l. o ++ l) (sym (jobs_is count jobs keys))
