-- What a server with doors of tenants comes to, by whether there are any.
use Rattle.std.proofs.Common.{◌≡◌, ◌⊎◌, ◌==◌, ℕ, Bool, true, false, true≢false, List, [], ◌∷◌, length, is_some, All, Result, Err, inl, inr, refl, sym, ap, ◌∙◌, nat_lt, nat_eq, arith}
use Rattle.std.proofs.lemmas.Bool.Decides.{nat_tests}
use Rattle.streams.specs.declared.fault.StreamFault.TheVariants.{NoMemory}
use Rattle.shared_desk.specs.declared.door.Door.TheVariants.{Grants, Port, Socket, Tenant}
use Rattle.shared_desk.specs.declared.passage.Passage.{Passage}
use Rattle.shared_desk.specs.Grants.{by_port}
use Rattle.job_server.specs.declared.bounds.Bounds.{Bounds}
use Rattle.job_server.specs.declared.fault.ServeFault.{ServeFault}
use Rattle.job_server.specs.declared.fault.ServeFault.TheVariants as fault
use Rattle.job_server.specs.declared.tenant_door.TenantDoor.{TenantDoor}
use Rattle.job_server.specs.declared.socket_listener.SocketListener.{SocketListener}
use Rattle.job_server.specs.AtOnce.{HasNotBegun, IsServing}
use Rattle.job_server.specs.Listening.{AreOf, CameBy}
use Rattle.job_server.specs.TenantServing.{GrantsByNoTenant, IsServingAt, IsServingBy, IsServingTenants}
use Rattle.job_server.specs.TenantSockets.{passage_at}

-- ---- with tenants or without

pub none_if : {D : Type 0} (doors : List D) → true ≡ (length doors == 0) → doors ≡ []
none_if [] e = refl
none_if (d ∷ ds) e = absurd (let none : length (d ∷ ds) ≡ 0 = grind (arith, nat_tests) in omega (arith, none))

pub some_if : {D : Type 0} (doors : List D) → false ≡ (length doors == 0) → doors ≡ [] → ⊥
some_if doors e none =
    let is : length doors ≡ 0 = ap length none in
    let yes_it : (length doors == 0) ≡ true = grind (arith, nat_tests) in
    true≢false (sym yes_it ∙ sym e)

module _ {L : Type 0} (opens fails : L → L → Type 0) (passage_of : L → Passage) (listener : L) (doors : List TenantDoor) (bounds : Bounds) (sessions : ℕ) (may_stop : Bool) (outcome : Result (Unit {0}) ServeFault) where
  -- without
  pub plain_at : doors ≡ [] → (s : IsServing bounds sessions may_stop outcome) → AreOf opens fails listener s.serving.opened → All (λ c. CameBy opens passage_of c.passage) s.serving.closed
      → IsServingAt opens fails passage_of listener doors bounds sessions may_stop outcome
  plain_at none s of came = by_doors doors none
    where
      by_doors : (ds : List TenantDoor) → ds ≡ [] → IsServingAt opens fails passage_of listener ds bounds sessions may_stop outcome
      by_doors [] e = (s, of, came)
      by_doors (d ∷ ds) e = absurd cc

  -- with
  pub tenants_at : (doors ≡ [] → ⊥) → (s : IsServingTenants doors bounds sessions may_stop outcome) → AreOf opens fails listener s.serving.opened → All (λ c. CameBy opens passage_of c.passage) s.serving.closed
      → IsServingAt opens fails passage_of listener doors bounds sessions may_stop outcome
  tenants_at some s of came = by_doors doors some s of came
    where
      by_doors : (ds : List TenantDoor) → (ds ≡ [] → ⊥) → (t : IsServingTenants ds bounds sessions may_stop outcome) → AreOf opens fails listener t.serving.opened → All (λ c. CameBy opens passage_of c.passage) t.serving.closed
          → IsServingAt opens fails passage_of listener ds bounds sessions may_stop outcome
      by_doors [] e t o k = absurd (e refl)
      by_doors (d ∷ ds) e t o k = (t, o, k)

  -- a server by this listener is one, where no tenant's connection may grant
  by_listener : ((p : Passage) → CameBy opens passage_of p → GrantsByNoTenant p) → (ds : List TenantDoor) → IsServingAt opens fails passage_of listener ds bounds sessions may_stop outcome → IsServingBy ds bounds sessions may_stop outcome
  by_listener none [] s = s.0
  by_listener none (d ∷ ds) s = (s.0, λ k c lt. none _ (s.2 k c lt))

  pub served_by : ((p : Passage) → CameBy opens passage_of p → GrantsByNoTenant p) → IsServingAt opens fails passage_of listener doors bounds sessions may_stop outcome ⊎ HasNotBegun outcome
      → IsServingBy doors bounds sessions may_stop outcome ⊎ HasNotBegun outcome
  served_by none (inl s) = inl (by_listener none doors s)
  served_by none (inr e) = inr e

-- ---- passages

door_of_port : (n : ℕ) → Port ≡ Tenant n → ⊥
door_of_port n e = cc

-- nobody comes by a tenant's door at a port
pub port_grants : {L : Type 0} (opens : L → L → Type 0) (p : Passage) → CameBy opens (λ _. by_port) p → GrantsByNoTenant p
port_grants opens p came n e = absurd (door_of_port n (sym (ap (λ (q : Passage). q.door) came.is) ∙ e))

-- a passage by the sockets of tenants
place_grants : (tenants : ℕ) (has_grants : Bool) (place : ℕ) → GrantsByNoTenant (passage_at tenants has_grants place)
place_grants tenants has_grants place n e = by_tests (nat_lt place tenants) (nat_eq place tenants) refl refl e
  where
    by_tests : (low same : Bool) → nat_lt place tenants ≡ low → nat_eq place tenants ≡ same → (passage_at tenants has_grants place).door ≡ Tenant n → (passage_at tenants has_grants place).may_grant ≡ false
    by_tests true same is is2 t = rw is refl
    by_tests false true is is2 t = absurd (let u : Socket ≡ Tenant n = rw (is, is2) at t in cc)
    by_tests false false is is2 t = absurd (let u : Grants ≡ Tenant n = rw (is, is2) at t in cc)

pub sockets_grant : {S : Type 0} (opens : SocketListener S → SocketListener S → Type 0) (p : Passage)
    → CameBy opens (λ l. passage_at (length l.tenants.items) (is_some l.grants) l.last) p → GrantsByNoTenant p
sockets_grant opens p came n e =
    let l = came.after in
    let at = place_grants (length l.tenants.items) (is_some l.grants) l.last n (sym (ap (λ (q : Passage). q.door) came.is) ∙ e) in
    ap (λ (q : Passage). q.may_grant) came.is ∙ at
