use Rattle.std.proofs.Common.{◌≡◌, ◌∙◌, List, [], ℕ, rules, subst, sym, ◌++◌, ◌∷◌}
use Rattle.std.specs.Int.{w32, to_le_bytes}
use Rattle.std.proofs.lemmas.Result.{IfOk-weaker}
use Rattle.journal.specs.Records.{FitsRecord}
use Rattle.desk_journal.specs.Encodings.{counted_bytes}
use Rattle.desk_recorder.proofs.Steps.{records_grant}
use Rattle.desk_recorder.proofs.change_records.grant_record.Goals as goal

pub returns-clause-record : goal.returns-clause-record
returns-clause-record c =
    let same = c.in-Ok.ensures.items_if_clones_equal (λ x y h. h) in
    IfOk-weaker c.record_bytes.result _ _ (λ bytes are. records_grant bytes.items c.in-Ok.tenant c.args.amount c.args.tenant.now are (search rules)) c.record_bytes.ensures.bytes

pub returns-clause-too_large : goal.returns-clause-too_large
returns-clause-too_large c refused name is fits =
    let same = c.in-Ok.ensures.items_if_clones_equal (λ x y h. h) in
    let copied : c.in-Ok.tenant.items ≡ c.args.tenant.now = search rules in
    c.record_bytes.ensures.too_large refused
    (subst (λ (n : List ℕ). FitsRecord ((1 ∷ []) ++ (counted_bytes n ++ to_le_bytes w32 c.args.amount))) (is ∙ sym copied) fits)
