use Rattle.std.proofs.Common.{◌<◌, ◌∙◌, List, ℕ, length, refl, sym, ap, subst, rules, arith}
use Rattle.std.proofs.lemmas.Option.{slice_get_read}
use Rattle.accounts.specs.declared.keep_limits.KeepLimits.{KeepLimits}
use Rattle.server_state.specs.Desks.{DeskReplies}
use Rattle.server_state.specs.Queries.{desk_query, goes}
use Rattle.server_state.specs.States.{steps_of}
use Rattle.server_handler.specs.DeskAnswers.{IsReply, query_asked}
use Rattle.server_handler.proofs.Among.{all_at, all_nothing, answered_among, answered_nowhere}
use Rattle.server_handler.proofs.server.answer_among.Goals as goal

pub returns-in-Err-clause-replies : goal.returns-in-Err-clause-replies
returns-in-Err-clause-replies g c s named kept =
    answered_nowhere (steps_of g.N.JobRunner) s c.args.desks.now.items c.args.runner.now.jobs c.args.access (query_asked c.args.query) c.in-Err.code c.refuse.result.1
    (ap (λ (names : List (List ℕ)). goes names c.args.access (query_asked c.args.query)) named ∙ c.in-Err.ensures.desk) c.refuse.ensures

pub returns-in-Err-clause-records : goal.returns-in-Err-clause-records
returns-in-Err-clause-records g c = all_nothing g.C.ChangeSink c.args.changes.now c.args.desks.now.items c.args.desks.now.items refl

pub returns-clause-replies : goal.returns-clause-replies
returns-clause-replies g c s named kept =
    let m = steps_of g.N.JobRunner in
    let desks = c.args.desks.now.items in
    let r = c.args.runner.now.jobs in
    let a = c.answer_query in
    let own = query_asked c.desk_query-query.result in
    let before = c.index_mut.result.now in
    let within : c.in-Ok.place < length desks = search (rules, arith) in
    answered_among m s desks r c.args.access (query_asked c.args.query) own c.in-Ok.place before a.new.desk a.new.runner.jobs a.result.1
    (ap (λ (names : List (List ℕ)). goes names c.args.access (query_asked c.args.query)) named ∙ c.in-Ok.ensures.desk)
    (c.desk_query-query.ensures ∙ ap (λ (names : List (List ℕ)). desk_query names c.args.access (query_asked c.args.query)) (sym named))
    (slice_get_read desks (length desks) c.in-Ok.place before refl within c.index_mut.ensures.value)
    (subst (λ (k : KeepLimits). IsReply a.result.1 (λ frame. DeskReplies m c.in-Ok.place k before r own frame a.new.desk a.new.runner.jobs)) (sym kept) a.ensures.replies)

pub returns-clause-records : goal.returns-clause-records
returns-clause-records g c =
    let desks = c.args.desks.now.items in
    let within : c.in-Ok.place < length desks = search (rules, arith) in
    all_at g.C.ChangeSink c.args.changes.now c.answer_query.new.changes c.in-Ok.place desks c.index_mut.result.now c.answer_query.new.desk
    (slice_get_read desks (length desks) c.in-Ok.place c.index_mut.result.now refl within c.index_mut.ensures.value) c.answer_query.ensures.records
