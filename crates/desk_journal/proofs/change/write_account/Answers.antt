use Rattle.std.proofs.Common.{ℕ, List, ◌++◌, ap, ◌∙◌}
use Rattle.std.specs.Int.{w64, to_le_bytes}
use Rattle.desk_journal.specs.Encodings.{counted_bytes}
use Rattle.desk_journal.proofs.ListLemmas.{joined_three}
use Rattle.desk_journal.proofs.change.write_account.Goals as goal

pub returns : goal.returns
returns c =
    let out = c.args.out.now.items in
    let tenant = counted_bytes c.args.tenant.now in
    let second = to_le_bytes w64 c.args.granted in
    let third = to_le_bytes w64 c.args.spent in
    let two = c.in_ok-write.ensures ∙ ap (λ (l : List ℕ). l ++ second) c.in_ok-write_bytes.ensures in
    c.in_ok-write-2.ensures ∙ (ap (λ (l : List ℕ). l ++ third) two ∙ joined_three out tenant second third)
