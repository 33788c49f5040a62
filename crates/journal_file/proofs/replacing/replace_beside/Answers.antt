use Rattle.journal_file.specs.FilePairs.{pair_moments}
use Rattle.journal_file.proofs.ReplacingLemmas.{keeps_stood, ahead_stood, either_stood}
use Rattle.journal_file.proofs.replacing.replace_beside.Goals as goal

pub returns-clause-any_moment : goal.returns-clause-any_moment
returns-clause-any_moment g c left may =
    let journal = c.args.log.now.durable.bytes in
    let beside = (pair_moments c.args.files.now).now.beside in
    let at = pair_moments c.stand_beside.new.self in
    let is = c.stand_beside.ensures.moments in
    either_stood journal beside at is c.args.rest.now left
    (c.replace_journal.ensures.any_moment journal left (keeps_stood journal beside at is) (ahead_stood journal beside at is) may)
