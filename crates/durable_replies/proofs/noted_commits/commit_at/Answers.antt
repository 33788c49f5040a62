use Rattle.std.proofs.Common.{rules, ◌≡◌}
use Rattle.durable_replies.proofs.Commits.{durable_at}
use Rattle.durable_replies.proofs.noted_commits.commit_at.Goals as goal

pub returns-clause-ok : goal.returns-clause-ok
returns-clause-ok g c =
    let durable : (g.N.GroupNote.known c.commit.new.self).durable ≡ (g.N.GroupNote.known c.commit.new.self).seen = search rules in
    durable_at g.H.SharedHandler.answers g.J.Origin.begins g.H.Noted.covers g.K.NoteMaker.desk g.N.GroupNote.known (g.K.NoteMaker.desk c.args.journal.now) c.place.result c.note.new.into c.commit.new.self c.args.client.now c.place.ensures c.note.ensures.noted c.commit.ensures.same
    c.commit.ensures.seen durable
