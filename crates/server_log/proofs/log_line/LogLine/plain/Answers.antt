use Rattle.std.proofs.Common.{◌≡◌, ◌∙◌, ◌++◌, ap, sym, List, ℕ, Option, None, option_map}
use Rattle.std.proofs.lemmas.List.{append-nil}
use Rattle.std.proofs.lemmas.Result.{IfOk-weaker}
use Rattle.server_log.specs.LogLines.{note_of, plain_lost, plain_note}
use Rattle.server_log.proofs.log_line.LogLine.plain.Goals as goal

-- an event that is no note has no words
without_note : (lost : List ℕ) (words : Option (List ℕ)) → words ≡ None → lost ≡ lost ++ plain_note words
without_note lost words is = sym (append-nil lost) ∙ sym (ap (λ (o : Option (List ℕ)). lost ++ plain_note o) is)

pub returns-in-None : goal.returns-in-None
returns-in-None c =
    let none : note_of c.args.self.now.event ≡ None = sym c.note.ensures ∙ ap (λ o. option_map (λ text. text.now) o) c.in-None.is in
    IfOk-weaker c.format-in-None.result _ _
    (λ text is. is ∙ without_note (plain_lost c.args.self.now.lost) (note_of c.args.self.now.event) none) c.format-in-None.ensures.ok
