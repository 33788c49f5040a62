use Rattle.std.proofs.Common.{◌≡◌, ◌<◌, ◌∙◌, ℕ, length, ap, sym, arith}
use Rattle.sessions.specs.JobKeys.{noted}
use Rattle.streams.specs.Prepared.{asked_of}
use Rattle.server_state.specs.Changing.{desk_with}
use Rattle.server_state.specs.Desks.{keys_behind}
use Rattle.server_state.specs.States.{DeskState, steps_of}
use Rattle.server_handler.proofs.Replied.{keys_else, keys_if, new_key_answered, records_new_key}
use Rattle.server_handler.proofs.served_desk.answer_new_key.Goals as goal

pub returns-then-before-after-clause-replies : goal.returns-then-before-after-clause-replies
returns-then-before-after-clause-replies g c =
    let a = c.answer_ledger-told in
    let d : DeskState = desk_with c.desk.inside.ledger c.desk.inside.keys in
    let before = c.job_count-before.ensures in
    let after = c.job_count-after.ensures in
    let longer = c.if-before-after.true in
    let more : length d.ledger.jobs < length a.new.ledger.jobs = omega (arith, before, after, longer) in
    let keys : c.note.new.self ≡ keys_behind d c.args.key a.new.ledger =
    c.note.ensures ∙ ap (λ (n : ℕ). noted c.desk.inside.keys n c.args.key) after ∙ sym (keys_if d c.args.key a.new.ledger more) in
    new_key_answered (steps_of g.N.JobRunner) c.args.keep c.args.runner.now.desk d c.args.desk.now c.args.runner.now.jobs c.args.key (asked_of c.args.submit) a.result.1 a.new.ledger c.note.new.self a.new.runner.jobs
    c.desk.view_is keys c.requires.unknown a.ensures.replies

pub returns-then-before-after-clause-records : goal.returns-then-before-after-clause-records
returns-then-before-after-clause-records g c =
    let a = c.answer_ledger-told in
    let d : DeskState = desk_with c.desk.inside.ledger c.desk.inside.keys in
    let before = c.job_count-before.ensures in
    let after = c.job_count-after.ensures in
    let longer = c.if-before-after.true in
    let more : length d.ledger.jobs < length a.new.ledger.jobs = omega (arith, before, after, longer) in
    let keys : c.note.new.self ≡ keys_behind d c.args.key a.new.ledger =
    c.note.ensures ∙ ap (λ (n : ℕ). noted c.desk.inside.keys n c.args.key) after ∙ sym (keys_if d c.args.key a.new.ledger more) in
    records_new_key g.C.ChangeSink c.args.runner.now.desk c.args.changes.now a.new.changes d c.args.desk.now a.new.ledger c.args.key c.note.new.self c.desk.view_is keys a.ensures.records

pub returns-else-before-after-clause-replies : goal.returns-else-before-after-clause-replies
returns-else-before-after-clause-replies g c =
    let a = c.answer_ledger-told in
    let d : DeskState = desk_with c.desk.inside.ledger c.desk.inside.keys in
    let before = c.job_count-before.ensures in
    let after = c.job_count-after.ensures in
    let shorter = c.if-before-after.false in
    let keys = sym (keys_else d c.args.key a.new.ledger (λ more. absurd (omega (arith, before, after, shorter, more)))) in
    new_key_answered (steps_of g.N.JobRunner) c.args.keep c.args.runner.now.desk d c.args.desk.now c.args.runner.now.jobs c.args.key (asked_of c.args.submit) a.result.1 a.new.ledger c.desk.inside.keys a.new.runner.jobs
    c.desk.view_is keys c.requires.unknown a.ensures.replies

pub returns-else-before-after-clause-records : goal.returns-else-before-after-clause-records
returns-else-before-after-clause-records g c =
    let a = c.answer_ledger-told in
    let d : DeskState = desk_with c.desk.inside.ledger c.desk.inside.keys in
    let before = c.job_count-before.ensures in
    let after = c.job_count-after.ensures in
    let shorter = c.if-before-after.false in
    let keys = sym (keys_else d c.args.key a.new.ledger (λ more. absurd (omega (arith, before, after, shorter, more)))) in
    records_new_key g.C.ChangeSink c.args.runner.now.desk c.args.changes.now a.new.changes d c.args.desk.now a.new.ledger c.args.key c.desk.inside.keys c.desk.view_is keys a.ensures.records
