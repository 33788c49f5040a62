use Rattle.std.proofs.Common.{ℕ, List, ◌++◌, ap, ◌∙◌}
use Rattle.std.specs.Int.{w32, to_le_bytes}
use Rattle.desk_journal.specs.Changes.{program_bytes}
use Rattle.desk_journal.specs.Encodings.{counted_bytes, list_bytes}
use Rattle.desk_journal.proofs.ListLemmas.{joined_four}
use Rattle.desk_journal.proofs.change.write_submitted.Goals as goal

pub returns : goal.returns
returns c =
    let out = c.args.out.now.items in
    let tenant = counted_bytes c.args.tenant.now in
    let programs = list_bytes program_bytes c.args.programs.now in
    let credit = to_le_bytes w32 c.args.credit in
    let buffer = counted_bytes c.args.buffer.now in
    let two = c.in_ok-write_list.ensures ∙ ap (λ (l : List ℕ). l ++ programs) c.in_ok-write_bytes.ensures in
    let three = c.in_ok-write.ensures ∙ ap (λ (l : List ℕ). l ++ credit) two in
    c.in_ok-write_bytes-2.ensures ∙ (ap (λ (l : List ℕ). l ++ buffer) three ∙ joined_four out tenant programs credit buffer)
