use Rattle.std.proofs.Common.{arith, refl, subst, length, List, ℕ}
use Rattle.std.proofs.lemmas.Option.{slice_get_read, slice_get_within}
use Rattle.endpoints.specs.declared.endpoint.Endpoint.{Endpoint}
use Rattle.endpoints.specs.Listening.{AllHadNone, GaveInTurn, WasAsked}
use Rattle.endpoints.specs.Turns.{FailedOne, HadNoneBetween, SocketGave, IsFairTurn}
use Rattle.endpoints.proofs.ListeningLemmas.{as_many, came_by, failed_by, fair_by, none_by}
use Rattle.endpoints.proofs.listener.Listener.ask.Goals as goal

pub returns-in-Err-clause-failed : goal.returns-in-Err-clause-failed
returns-in-Err-clause-failed g c =
    let s = g.Y.Socket.Socket in
    let outcome : _ → Type 0 = λ x. s.failed x c.in-Err.error in
    let here = subst (λ (ss : List _). FailedOne outcome ss) c.deref.ensures.value c.in-Err.ensures.failed in
    let asked = failed_by s.listens_at s.admits outcome c.self.inside.endpoints.items c.self.inside.sockets.items c.self.invariant here in
    subst (λ (v : List Endpoint × ℕ). (n : ℕ) × WasAsked s.listens_at s.admits outcome v.0 n) c.self.view_is asked

pub index-requires : goal.index-requires
index-requires g c =
    let s = g.Y.Socket.Socket in
    let gave = rw c.in-Ok-Some.field-0-is at c.in-Ok-Some.ensures.gave in
    let here = subst (λ (ss : List _). SocketGave s.gave ss c.in-Ok-Some.place c.in-Ok-Some.stream) c.deref.ensures.value gave in
    let within = slice_get_within c.self.inside.sockets.items c.in-Ok-Some.place here.socket here.is in
    let many = as_many s.listens_at s.admits c.self.inside.endpoints.items c.self.inside.sockets.items c.self.invariant in
    omega (arith, within, many, c.self.inside.endpoints.ok.0)

pub returns-in-Ok-Some-clause-came : goal.returns-in-Ok-Some-clause-came
returns-in-Ok-Some-clause-came g c =
    let s = g.Y.Socket.Socket in
    let gave = rw c.in-Ok-Some.field-0-is at c.in-Ok-Some.ensures.gave in
    let here = subst (λ (ss : List _). SocketGave s.gave ss c.in-Ok-Some.place c.in-Ok-Some.stream) c.deref.ensures.value gave in
    let within = slice_get_within c.self.inside.sockets.items c.in-Ok-Some.place here.socket here.is in
    let many = as_many s.listens_at s.admits c.self.inside.endpoints.items c.self.inside.sockets.items c.self.invariant in
    let there = slice_get_read c.self.inside.endpoints.items (length c.self.inside.endpoints.items) c.in-Ok-Some.place c.index.result.now refl (omega (arith, within, many)) c.index.ensures in
    came_by s.listens_at s.admits s.gave c.self.inside.endpoints.items c.self.inside.sockets.items c.in-Ok-Some.place c.index.result.now c.in-Ok-Some.stream c.self.invariant here there

pub returns-in-Ok-Some-clause-fair : goal.returns-in-Ok-Some-clause-fair
returns-in-Ok-Some-clause-fair g c =
    let s = g.Y.Socket.Socket in
    let fair = rw c.in-Ok-Some.field-0-is at c.in-Ok-Some.ensures.fair in
    let here = subst (λ (ss : List _). IsFairTurn s.had_none ss c.self.inside.last c.in-Ok-Some.place) c.deref.ensures.value fair in
    let told = fair_by s.listens_at s.admits s.had_none c.self.inside.endpoints.items c.self.inside.sockets.items c.self.inside.last c.in-Ok-Some.place c.self.invariant here in
    subst (λ (v : List Endpoint × ℕ). GaveInTurn s.listens_at s.admits s.had_none c.self.inside.endpoints.items v.1 c.in-Ok-Some.place) c.self.view_is told

pub returns-in-Ok-None-clause-none : goal.returns-in-Ok-None-clause-none
returns-in-Ok-None-clause-none g c =
    let s = g.Y.Socket.Socket in
    let none = rw c.in-Ok-None.field-0-is at c.in-Ok-None.ensures.none in
    let here = subst (λ (ss : List _). HadNoneBetween s.had_none ss 0 (length ss)) c.deref.ensures.value none in
    let told = none_by s.listens_at s.admits s.had_none c.self.inside.endpoints.items c.self.inside.sockets.items c.self.invariant here in
    (refl, subst (λ (v : List Endpoint × ℕ). AllHadNone s.listens_at s.admits s.had_none v.0) c.self.view_is told)
