-- The text of an object with one member more.
use Rattle.std.proofs.Common.{◌≡◌, ◌-◌, ℕ, List, [], ◌∷◌, ◌++◌, codes, length, drop, take, true, refl, sym, ap, ◌∙◌, arith, append_assoc}
use Rattle.std.proofs.lemmas.List.{append-nil, length-append}
use Rattle.std.proofs.Math.Seq.{take-append_seam}
use Rattle.serde_json.specs.Data.{Data, Members, string, object, no_members, member}
use Rattle.serde_json.specs.Written.{compact_text, members_text}
use Rattle.desk_journal.specs.declared.change.DeskChange.{DeskChange}
use Rattle.desk_journal.specs.declared.change.DeskChange.TheVariants.{Granted, Submitted, Finished, Failed, Forgotten, AccountOpened, JobsSkipped, ReportKept, FailureKept}
use Rattle.journal_text.specs.ChangeData.{change_data, failed_data, finished_data, forgotten_data, granted_data, kept_failure_data, kept_report_data, name_data, opened_data, skipped_data, submitted_data}
use Rattle.journal_text.specs.KeyedData.{by_key_data, key_data, with_member}

-- a member's text and what stands behind it
one_member : (name d front behind : List ℕ) → name ++ 58 ∷ (d ++ (front ++ behind)) ≡ (name ++ 58 ∷ (d ++ front)) ++ behind
one_member name d front behind = sym (append_assoc name (58 ∷ (d ++ front)) behind ∙ ap (λ l. name ++ 58 ∷ l) (append_assoc d front behind))

-- the text of one member and the closing brace
abbrev last_text : List ℕ → Data → List ℕ
last_text name d = compact_text (string name) ++ 58 ∷ (compact_text d ++ 125 ∷ [])

-- the closing brace gives way to one member more
more_text : (ms : Members) (name : List ℕ) (d : Data)
    → (front : List ℕ) × (members_text true ms ≡ front ++ 125 ∷ []) × (members_text true (with_member ms name d) ≡ front ++ 44 ∷ last_text name d)
more_text no_members name d = ([], refl, refl)
more_text (member first e ms) name d =
    let rest = more_text ms name d in (
      44 ∷ (compact_text (string first) ++ 58 ∷ (compact_text e ++ rest.0)),
      ap (λ l. 44 ∷ (compact_text (string first) ++ 58 ∷ (compact_text e ++ l))) rest.1 ∙ ap (λ l. 44 ∷ l) (one_member (compact_text (string first)) (compact_text e) rest.0 (125 ∷ [])),
      ap (λ l. 44 ∷ (compact_text (string first) ++ 58 ∷ (compact_text e ++ l))) rest.2 ∙ ap (λ l. 44 ∷ l) (one_member (compact_text (string first)) (compact_text e) rest.0 (44 ∷ last_text name d)),
    )

without_last : (front : List ℕ) (last : ℕ) (all : List ℕ) → all ≡ front ++ last ∷ [] → take (length all - 1) all ≡ front
without_last front last all is =
    let place : length all - 1 ≡ length front = omega (arith, ap length is, length-append front (last ∷ [])) in
    ap (λ n. take n all) place ∙ (ap (take (length front)) is ∙ take-append_seam front (last ∷ []))

-- an object with members gets its last one behind a comma in place of the brace
joined_object : (first : List ℕ) (e : Data) (ms : Members) (key : List ℕ) (object_text : List ℕ) → object_text ≡ compact_text (object (member first e ms))
    → take (length object_text - 1) object_text ++ 44 ∷ last_text (codes "key") (name_data key) ≡ compact_text (by_key_data (object (member first e ms)) key)
joined_object first e ms key object_text is =
    let rest = more_text ms (codes "key") (name_data key) in
    let head = λ (l : List ℕ). 123 ∷ (compact_text (string first) ++ 58 ∷ (compact_text e ++ l)) in
    let cut = λ (x : List ℕ). ap (λ l. 123 ∷ l) (one_member (compact_text (string first)) (compact_text e) rest.0 x) in
    let front = without_last (head rest.0) 125 object_text (is ∙ (ap head rest.1 ∙ cut (125 ∷ []))) in
    ap (λ l. l ++ 44 ∷ last_text (codes "key") (name_data key)) front ∙ sym (ap head rest.2 ∙ cut (44 ∷ last_text (codes "key") (name_data key)))

-- a change is told as an object with members
are_members : (at number : ℕ) (change : DeskChange) → (first : List ℕ) × (e : Data) × (ms : Members) × (change_data at number change ≡ object (member first e ms))
unfolding granted_data submitted_data finished_data failed_data forgotten_data opened_data skipped_data kept_report_data kept_failure_data
are_members at number (Granted tenant amount) = (_, _, _, refl)
are_members at number (Submitted tenant programs credit buffer) = (_, _, _, refl)
are_members at number (Finished job report) = (_, _, _, refl)
are_members at number (Failed job code) = (_, _, _, refl)
are_members at number (Forgotten ahead) = (_, _, _, refl)
are_members at number (AccountOpened tenant granted spent) = (_, _, _, refl)
are_members at number (JobsSkipped count) = (_, _, _, refl)
are_members at number (ReportKept tenant credit report) = (_, _, _, refl)
are_members at number (FailureKept tenant credit code) = (_, _, _, refl)

joined_with_key : (at number : ℕ) (change : DeskChange) (key object_text : List ℕ) → object_text ≡ compact_text (change_data at number change)
    → take (length object_text - 1) object_text ++ 44 ∷ last_text (codes "key") (name_data key) ≡ compact_text (by_key_data (change_data at number change) key)
joined_with_key at number change key object_text is =
    let are = are_members at number change in
    joined_object are.0 are.1 are.2 key object_text (is ∙ ap compact_text are.3) ∙ sym (ap (λ (d : Data). compact_text (by_key_data d key)) are.3)

-- what is left of an object's text behind its first byte
without_first : (first : ℕ) (rest all : List ℕ) → all ≡ first ∷ rest → take (length all - 1) (drop 1 all) ≡ rest
without_first first rest all is =
    let long : length all - 1 ≡ length rest = omega (arith, ap length is) in
    ap (λ n. take n (drop 1 all)) long ∙ (ap (take (length rest)) (ap (drop 1) is ∙ sym (append-nil rest)) ∙ take-append_seam rest [])

-- The text of a change's object without its last byte, a comma, and that of a key's object without
-- its first byte are the text of the change's object with the key.
pub keyed_text : (at number : ℕ) (change : DeskChange) (key object_text key_text front pushed all : List ℕ) → object_text ≡ compact_text (change_data at number change) → key_text ≡ compact_text (key_data key)
    → front ≡ take (length object_text - 1) object_text → pushed ≡ front ++ 44 ∷ [] → all ≡ pushed ++ take (length key_text - 1) (drop 1 key_text) → all ≡ compact_text (by_key_data (change_data at number change) key)
keyed_text at number change key object_text key_text front pushed all is is_key cut comma last =
    let member_text = last_text (codes "key") (name_data key) in
    last
    ∙ (ap (λ l. pushed ++ l) (without_first 123 member_text key_text is_key)
    ∙ (ap (λ l. l ++ member_text) comma
    ∙ (append_assoc front (44 ∷ []) member_text
    ∙ (ap (λ l. l ++ 44 ∷ member_text) cut ∙ joined_with_key at number change key object_text is))))
