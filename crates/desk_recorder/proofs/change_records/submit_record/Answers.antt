use Rattle.std.proofs.Common.{◌≡◌, ◌∙◌, ◌++◌, ◌∷◌, [], List, ℕ, rules, subst, sym}
use Rattle.std.specs.Int.{w32, to_le_bytes}
use Rattle.std.proofs.lemmas.Result.{IfOk-weaker}
use Rattle.journal.specs.Records.{FitsRecord}
use Rattle.desk_journal.specs.Changes.{program_bytes}
use Rattle.desk_journal.specs.Encodings.{counted_bytes, list_bytes}
use Rattle.keyed_desk.specs.KeyedChanges.{by_key_bytes}
use Rattle.desk_recorder.proofs.Steps.{records_submit, records_submit_by_key}
use Rattle.desk_recorder.proofs.change_records.submit_record.Goals as goal

pub returns-in-Some-clause-record : goal.returns-in-Some-clause-record
returns-in-Some-clause-record c =
    let same = c.in-Ok.ensures.items_if_clones_equal (λ x y h. h) in
    rw c.in-Some.is (IfOk-weaker c.record_by_key.result _ _ (λ bytes are. records_submit_by_key bytes.items c.in-Some.key.now c.in-Ok.tenant c.args.programs c.args.credit c.args.buffer c.args.tenant.now c.record_by_key.ensures.key are (search rules)) c.record_by_key.ensures.record)

pub returns-in-Some-clause-too_large : goal.returns-in-Some-clause-too_large
returns-in-Some-clause-too_large c =
    let same = c.in-Ok.ensures.items_if_clones_equal (λ x y h. h) in
    let copied : c.in-Ok.tenant.items ≡ c.args.tenant.now = search rules in
    rw c.in-Some.is (λ refused name is fits.
    c.record_by_key.ensures.too_large refused
    (subst (λ (n : List ℕ). FitsRecord (by_key_bytes c.in-Some.key.now ((2 ∷ []) ++ (counted_bytes n ++ (list_bytes program_bytes c.args.programs.items ++ (to_le_bytes w32 c.args.credit ++ counted_bytes c.args.buffer.items)))))) (is ∙ sym copied) fits))

pub returns-in-None-clause-record : goal.returns-in-None-clause-record
returns-in-None-clause-record c =
    let same = c.in-Ok.ensures.items_if_clones_equal (λ x y h. h) in
    rw c.in-None.is (IfOk-weaker c.record_bytes.result _ _ (λ bytes are. records_submit bytes.items c.in-Ok.tenant c.args.programs c.args.credit c.args.buffer c.args.tenant.now are (search rules)) c.record_bytes.ensures.bytes)

pub returns-in-None-clause-too_large : goal.returns-in-None-clause-too_large
returns-in-None-clause-too_large c =
    let same = c.in-Ok.ensures.items_if_clones_equal (λ x y h. h) in
    let copied : c.in-Ok.tenant.items ≡ c.args.tenant.now = search rules in
    rw c.in-None.is (λ refused name is fits.
    c.record_bytes.ensures.too_large refused
    (subst (λ (n : List ℕ). FitsRecord ((2 ∷ []) ++ (counted_bytes n ++ (list_bytes program_bytes c.args.programs.items ++ (to_le_bytes w32 c.args.credit ++ counted_bytes c.args.buffer.items))))) (is ∙ sym copied) fits))
