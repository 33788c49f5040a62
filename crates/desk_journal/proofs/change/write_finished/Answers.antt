use Rattle.std.proofs.Common.{ℕ, List, ◌++◌, ap, ◌∙◌, append_assoc}
use Rattle.std.specs.Int.{w64, to_le_bytes}
use Rattle.desk_journal.specs.Changes.{report_bytes}
use Rattle.desk_journal.proofs.change.write_finished.Goals as goal

pub returns : goal.returns
returns c =
    c.in_ok-write-2.ensures ∙ (ap (λ (l : List ℕ). l ++ report_bytes c.args.report.now) c.in_ok-write.ensures ∙ append_assoc c.args.out.now.items (to_le_bytes w64 c.args.job) (report_bytes c.args.report.now))
