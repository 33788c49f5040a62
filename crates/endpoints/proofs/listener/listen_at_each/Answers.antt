use Rattle.std.proofs.Common.{rules, arith, refl, subst, sym, ◌<◌, ◌+◌, length, List, take}
use Rattle.std.proofs.lemmas.Option.{slice_get_read}
use Rattle.endpoints.specs.Listening.{AreListening}
use Rattle.endpoints.proofs.ListeningLemmas.{one_listens}
use Rattle.endpoints.proofs.listener.listen_at_each.Goals as goal

pub endpoints-preserved : goal.endpoints-preserved
endpoints-preserved g c =
    let s = g.Y.Socket.Socket in
    let within : c.endpoints.place < length c.args.endpoints.now = search (rules, arith) in
    let there = slice_get_read c.args.endpoints.now (length c.args.endpoints.now) c.endpoints.place c.index-endpoints-place.result refl within c.index-endpoints-place.is in
    let new = c.in-Ok.ensures.opened in
    let more = one_listens s.listens_at s.admits c.args.endpoints.now c.endpoints.sockets.items c.endpoints.place (c.endpoints.place + 1) c.index-endpoints-place.result new.0 c.endpoints.invariant.1 there new.2 refl in
    (omega (arith, within), subst (λ (ss : List _). AreListening s.listens_at s.admits (take (c.endpoints.place + 1) c.args.endpoints.now) ss) (sym new.1) more)

pub returns-in-Err-clause-refused : goal.returns-in-Err-clause-refused
returns-in-Err-clause-refused g c =
    let s = g.Y.Socket.Socket in
    let within : c.endpoints.place < length c.args.endpoints.now = search (rules, arith) in
    let there = slice_get_read c.args.endpoints.now (length c.args.endpoints.now) c.endpoints.place c.index-endpoints-place.result refl within c.index-endpoints-place.is in (
      record { endpoint = c.index-endpoints-place.result; is = there; why = c.in-Err.ensures.refused },
      subst (λ (ss : List _). AreListening s.listens_at s.admits (take c.endpoints.place c.args.endpoints.now) ss) (sym c.in-Err.ensures.same) c.endpoints.invariant.1,
    )
