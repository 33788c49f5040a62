-- Sockets that listen, each for its endpoint.
use Rattle.std.proofs.Common.{◌≡◌, ◌<◌, ◌+◌, ◌⊎◌, ℕ, zero, suc, List, [], ◌∷◌, ◌++◌, length, take, slice_get, Some, refl, sym, subst, arith}
use Rattle.std.proofs.lemmas.Option.{slice_get_within}
use Rattle.std.specs.Prelude.{IfSome}
use Rattle.std.specs.IoError.{error_kind}
use Rattle.std.specs.declared.io.Error.{Error}
use Rattle.std.specs.declared.io.ErrorKind.TheVariants.{OutOfMemory}
use Rattle.endpoints.specs.declared.endpoint.Endpoint.{Endpoint}
use Rattle.endpoints.specs.declared.endpoint.Place.{Place}
use Rattle.endpoints.specs.declared.endpoint.SocketMode.{SocketMode}
use Rattle.endpoints.specs.declared.listen_fault.ListenFault.{ListenFault}
use Rattle.endpoints.specs.Listening.{AllHadNone, AreListening, CameBy, CannotOpen, GaveInTurn, IsRefusedEndpoint, IsSocketOf, WasAsked}
use Rattle.endpoints.specs.Turns.{FailedOne, HadNoneBetween, SocketGave, IsFairTurn}

module _ {S : Type 0} (listens_at : S → Place → Type 0) (admits : S → SocketMode → Type 0) where
  -- the endpoint of the socket at a place
  pub endpoint_of : (es : List Endpoint) (ss : List S) (n : ℕ) (s : S) → AreListening listens_at admits es ss → slice_get ss n ≡ Some s
      → (e : Endpoint) × (slice_get es n ≡ Some e) × IsSocketOf listens_at admits s e
  endpoint_of [] [] n s are at = cc
  endpoint_of [] (y ∷ ss) n s are at = absurd are
  endpoint_of (x ∷ es) [] n s are at = absurd are
  endpoint_of (x ∷ es) (y ∷ ss) zero s are at =
      let same : y ≡ s = cc in (x, refl, subst (λ (t : S). IsSocketOf listens_at admits t x) same are.0)
  endpoint_of (x ∷ es) (y ∷ ss) (suc n) s are at = endpoint_of es ss n s are.1 at

  -- the socket of the endpoint at a place
  pub socket_of : (es : List Endpoint) (ss : List S) (n : ℕ) → AreListening listens_at admits es ss → n < length es → (s : S) × (slice_get ss n ≡ Some s)
  socket_of [] [] n are within = absurd (omega (arith, within))
  socket_of [] (y ∷ ss) n are within = absurd are
  socket_of (x ∷ es) [] n are within = absurd are
  socket_of (x ∷ es) (y ∷ ss) zero are within = (y, refl)
  socket_of (x ∷ es) (y ∷ ss) (suc n) are within = socket_of es ss n are.1 (omega (arith, within))

  -- there are as many sockets as endpoints
  pub as_many : (es : List Endpoint) (ss : List S) → AreListening listens_at admits es ss → length ss ≡ length es
  as_many [] [] are = refl
  as_many [] (y ∷ ss) are = absurd are
  as_many (x ∷ es) [] are = absurd are
  as_many (x ∷ es) (y ∷ ss) are = omega (arith, as_many es ss are.1)

  -- a socket that gave a connection gave it by its endpoint
  pub came_by : {T : Type 0} (gave : S → T → Type 0) (es : List Endpoint) (ss : List S) (n : ℕ) (e : Endpoint) (stream : T)
      → AreListening listens_at admits es ss → SocketGave gave ss n stream → slice_get es n ≡ Some e → CameBy listens_at admits gave es n stream e.access
  came_by gave es ss n e stream are gives at =
      let own = endpoint_of es ss n gives.socket are gives.is in
      let same : own.0 ≡ e = cc in
      record {
        endpoint = e;
        is = at;
        socket = gives.socket;
        listens = subst (λ (x : Endpoint). IsSocketOf listens_at admits gives.socket x) same own.2;
        given = gives.given;
        same = refl;
      }

  -- a fair turn of the sockets is one of their endpoints
  pub fair_by : (had_none : S → Type 0) (es : List Endpoint) (ss : List S) (last n : ℕ) → AreListening listens_at admits es ss → IsFairTurn had_none ss last n
      → GaveInTurn listens_at admits had_none es last n
  fair_by had_none es ss last n are fair ahead within asked =
      let there = socket_of es ss ahead are within in
      let own = endpoint_of es ss ahead there.0 are there.1 in
      (own.0, (there.0, own.1, own.2, fair ahead there.0 asked there.1))

  -- sockets that all had none are those of endpoints that had none
  pub none_by : (had_none : S → Type 0) (es : List Endpoint) (ss : List S) → AreListening listens_at admits es ss → HadNoneBetween had_none ss 0 (length ss)
      → AllHadNone listens_at admits had_none es
  none_by had_none es ss are none place within =
      let there = socket_of es ss place are within in
      let own = endpoint_of es ss place there.0 are there.1 in
      (own.0, (there.0, own.1, own.2, none place there.0 (omega arith) (slice_get_within ss place there.0 there.1) there.1))

  -- a socket that failed was asked for its endpoint
  pub failed_by : (failed : S → Type 0) (es : List Endpoint) (ss : List S) → AreListening listens_at admits es ss → FailedOne failed ss
      → (n : ℕ) × WasAsked listens_at admits failed es n
  failed_by failed es ss are one =
      let own = endpoint_of es ss one.0 one.1.0 are one.1.1 in (one.0, (own.0, (one.1.0, own.1, own.2, one.1.2)))

  -- one socket more, for the endpoint behind
  pub one_listens : (es : List Endpoint) (ss : List S) (n m : ℕ) (e : Endpoint) (s : S) → AreListening listens_at admits (take n es) ss → slice_get es n ≡ Some e
      → IsSocketOf listens_at admits s e → m ≡ n + 1 → AreListening listens_at admits (take m es) (ss ++ s ∷ [])
  one_listens es ss n zero e s are at own more = absurd (omega (arith, more))
  one_listens [] ss n (suc m) e s are at own more = cc
  one_listens (x ∷ es) [] zero (suc m) e s are at own more =
      let same : x ≡ e = cc in
      let none : m ≡ 0 = omega (arith, more) in
      subst (λ (k : ℕ). AreListening listens_at admits (x ∷ take k es) (s ∷ [])) (sym none) (subst (λ (y : Endpoint). IsSocketOf listens_at admits s y) (sym same) own, tt)
  one_listens (x ∷ es) (y ∷ ss) zero (suc m) e s are at own more = absurd are
  one_listens (x ∷ es) [] (suc n) (suc m) e s are at own more = absurd are
  one_listens (x ∷ es) (y ∷ ss) (suc n) (suc m) e s are at own more = (are.0, one_listens es ss n m e s are.1 at own (omega (arith, more)))

  -- a fault that names the endpoint that was refused
  pub cannot_open : (refused : Place → Error → Type 0) (closed : List S → Type 0) (es : List Endpoint) (n : ℕ) (error : Error) (fault : ListenFault) (ss : List S)
      → IsRefusedEndpoint refused es n error → IfSome (slice_get es n) (λ e. fault.place ≡ e.place) → fault.error ≡ error
      → AreListening listens_at admits (take n es) ss → closed ss → CannotOpen listens_at admits refused closed es fault
  cannot_open refused closed es n error fault ss why named same ahead gone =
      let there : fault.place ≡ why.endpoint.place = rw why.is at named in
      record {
        place = n;
        endpoint = why.endpoint;
        is = why.is;
        why = subst (λ (e : Error). refused why.endpoint.place e ⊎ (error_kind e ≡ OutOfMemory)) (sym same) why.why;
        named = there;
        sockets = ss;
        ahead = ahead;
        gone = gone;
      }
