use Rattle.std.proofs.Common.{subst, List, take}
use Rattle.endpoints.specs.declared.endpoint.Endpoint.{Endpoint}
use Rattle.endpoints.specs.Listening.{AreListening, IsRefusedEndpoint}
use Rattle.endpoints.proofs.ListeningLemmas.{cannot_open}
use Rattle.endpoints.proofs.listener.Listener.open.Goals as goal

pub returns-in-Err-clause-fault : goal.returns-in-Err-clause-fault
returns-in-Err-clause-fault g c =
    let s = g.Y.Socket.Socket in
    let items = c.args.endpoints.items in
    let why = subst (λ (es : List Endpoint). IsRefusedEndpoint g.Y.System.refused es c.in-Err.place c.in-Err.error) c.deref.ensures.value c.in-Err.ensures.refused.0 in
    let ahead = subst (λ (es : List Endpoint). AreListening s.listens_at s.admits (take c.in-Err.place es) c.listen_at_each.new.sockets.items) c.deref.ensures.value c.in-Err.ensures.refused.1 in
    cannot_open s.listens_at s.admits g.Y.System.refused g.Y.System.closed items c.in-Err.place c.in-Err.error c.fault_at.result c.listen_at_each.new.sockets.items why c.fault_at.ensures.place c.fault_at.ensures.error ahead c.close.ensures
