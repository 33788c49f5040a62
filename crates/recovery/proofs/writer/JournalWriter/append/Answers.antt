use Rattle.std.proofs.Common.{ℕ, List, take, true, refl, ap, ◌∙◌}
use Rattle.journal.specs.Records.{record_of}
use Rattle.journal.specs.Logs.{appended}
use Rattle.recovery.proofs.CrashLemmas.{at_same, at_append, keeps_more, keeps_part, one_more}
use Rattle.recovery.proofs.writer.JournalWriter.append.Goals as goal

pub returns-then-self-clause-any_moment : goal.returns-then-self-clause-any_moment
returns-then-self-clause-any_moment g c history committed payload left keeps fits is s =
    one_more left history committed payload (at_same c.cut_anywhere.ensures history committed _ _ _ left keeps refl s)

pub returns-in-Ok-clause-appended : goal.returns-in-Ok-clause-appended
returns-in-Ok-clause-appended g c history committed payload keeps fits is =
    let old = g.L.Log.state c.args.self.now.log in
    let new = g.L.Log.state c.append.new.self in
    keeps_more history committed c.args.self.now.stopped payload old new keeps c.if-self.false fits (c.in-Ok.ensures.ok ∙ ap (appended old) is)

pub returns-in-Ok-clause-any_moment : goal.returns-in-Ok-clause-any_moment
returns-in-Ok-clause-any_moment g c history committed payload left keeps fits is s =
    let old = g.L.Log.state c.args.self.now.log in
    let new = g.L.Log.state c.append.new.self in
    let stopped = c.args.self.now.stopped in
    let log = c.in-Ok.ensures.ok ∙ ap (appended old) is in
    let after = keeps_more history committed stopped payload old new keeps c.if-self.false fits log in
    at_append c.cut_anywhere.ensures history committed stopped stopped payload (record_of payload) left old new keeps after log s

pub returns-in-Err-clause-failed : goal.returns-in-Err-clause-failed
returns-in-Err-clause-failed g c history committed payload keeps fits is failed =
    let old = g.L.Log.state c.args.self.now.log in
    let new = g.L.Log.state c.append.new.self in
    let part = c.in-Err.ensures.err in
    keeps_part history committed c.args.self.now.stopped payload part.0 old new keeps c.if-self.false fits (part.1 ∙ ap (λ (b : List ℕ). appended old (take part.0 b)) is)

pub returns-in-Err-clause-any_moment : goal.returns-in-Err-clause-any_moment
returns-in-Err-clause-any_moment g c history committed payload left keeps fits is s =
    let old = g.L.Log.state c.args.self.now.log in
    let new = g.L.Log.state c.append.new.self in
    let stopped = c.args.self.now.stopped in
    let part = c.in-Err.ensures.err in
    let log = part.1 ∙ ap (λ (b : List ℕ). appended old (take part.0 b)) is in
    let after = keeps_part history committed stopped payload part.0 old new keeps c.if-self.false fits log in
    at_append c.cut_anywhere.ensures history committed stopped true payload (take part.0 (record_of payload)) left old new keeps after log s
