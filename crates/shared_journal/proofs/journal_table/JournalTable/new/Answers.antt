use Rattle.std.proofs.Common.{◌≡◌, false, true, List, [], ◌∷◌, ◌++◌, Some, None, ◌∙◌, ap, sym, refl}
use mathlib.Core.Option.{some}
use mathlib.Core.List.{map}
use Rattle.journal_file.specs.FileLogs.{file_state}
use Rattle.journal_file.specs.declared.file_log.FileLog.{FileLog}
use Rattle.shared_journal.specs.declared.journal_part.JournalPart.{JournalPart}
use Rattle.shared_journal.proofs.JournalSteps.{begins_journal}
use Rattle.shared_journal.proofs.journal_table.JournalTable.new.Goals as goal

pub new-requires-3 : goal.new-requires-3
new-requires-3 c =
    let waiting : JournalPart = record { bytes = c.new.result; commits = None; batch = 0; is_followed = false } in
    let settled : JournalPart = record { bytes = c.args.bytes; commits = Some c.new-2.result; batch = 0; is_followed = true } in
    let parts = c.push_reserved-2.ensures.items ∙ ap (λ (l : List JournalPart). l ++ settled ∷ []) (c.push_reserved.ensures.items ∙ ap (λ (l : List JournalPart). l ++ waiting ∷ []) c.in_ok-parts.ensures.items) in
    begins_journal _ waiting settled c.new-2.result _ (ap (λ (l : List JournalPart). map some l) parts) c.new.ensures.items refl c.new-2.ensures.1
    (ap file_state c.new-2.ensures.0 ∙ whole c.args.log c.of-key.result.value c.of-key.ensures c.requires.none_pending)
    (λ e. c.requires.followed ∙ ap (λ (l : FileLog). (file_state l).durable) (sym c.of-key.ensures))
  where
    whole : (log value : FileLog) → value ≡ log → (file_state log).pending ≡ [] → file_state log ≡ record { durable = (file_state value).durable; pending = [] }
    whole log value same none_pending i = record { durable = (file_state (sym same i)).durable; pending = none_pending i }
