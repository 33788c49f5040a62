-- What a server begins with: a desk or desks, and what answers there.
use Rattle.std.proofs.Common.{◌≡◌, ◌+◌, ℕ, Bool, cond, true, false, List, [], ◌∷◌, All, length, map, replicate, Option, Some, None, Result, Err, refl, sym, inr, ap, ◌∙◌, subst, arith}
use Rattle.std.proofs.lemmas.Slice.Eq.{bytes_eq-Decides}
use Rattle.std.specs.Str.{bytes_eq}
use Rattle.streams.specs.declared.fault.StreamFault.TheVariants.{NoMemory}
use Rattle.accounts.specs.declared.keep_limits.KeepLimits.{KeepLimits}
use Rattle.accounts.specs.Ledgers.{Ledger}
use Rattle.shared_desk.specs.declared.passage.Passage.{Passage}
use Rattle.shared_desk.specs.Histories.{Query, none_yet}
use Rattle.tenant_desks.specs.Tenancies.{AreFirstDesks, IsFirstDesk, IsFirstTenancy, Tenancy, fresh_desk}
use Rattle.tenant_desks.specs.Answering.{KeptRunner}
use Rattle.tenant_desks.specs.AtDoors.{BehindDoors}
use Rattle.job_pools.specs.LineBounded.{new_by_line}
use Rattle.job_pools.specs.declared.line_limited_runner.LineLimitedRunner.{LineLimitedRunner}
use Rattle.job_server.specs.declared.bounds.Bounds.{Bounds}
use Rattle.job_server.specs.declared.tenant_door.TenantDoor.{TenantDoor}
use Rattle.job_server.specs.TenantLimits.{door_limits}
use Rattle.job_server.specs.TenantServing.{BeginsAtDesks, door_credits}
use Rattle.job_server.specs.declared.fault.ServeFault.{ServeFault}
use Rattle.job_server.specs.declared.fault.ServeFault.TheVariants.{Connection}
use Rattle.job_server.specs.declared.keeping_handler.KeepingHandler.{KeepingHandler}
use Rattle.job_server.specs.AtOnce.{IsServingFrom, new_desk}
use Rattle.job_server.specs.Listening.{AreOf, CameBy, nothing_yet}

-- one desk
pub desk_begins : {N : Type 0} (desk : Ledger) (handler kept : KeepingHandler N) (runner : N) (keep : KeepLimits) → desk ≡ new_desk → handler ≡ kept → kept.runner ≡ runner → kept.keep ≡ keep
    → ◌≡◌ {A = Ledger × KeepingHandler N} (desk, handler) (new_desk, record { runner = runner; keep = keep })
desk_begins {N} desk handler kept runner keep is_new same is_runner is_keep =
    let both : Ledger → KeepingHandler N → Ledger × KeepingHandler N = λ d h. (d, h) in
    ap (λ (d : Ledger). both d handler) is_new ∙ ap (both new_desk) same
    ∙ ap (both new_desk) (λ i. record { runner = is_runner i; keep = is_keep i })

-- a desk on which a tenant was granted its first credit
abbrev granted_desk : List ℕ → Option ℕ → Ledger
granted_desk name None = fresh_desk
granted_desk name (Some credit) = record { grants = (name, credit) ∷ []; past = []; jobs = [] }

none_ahead : (n : ℕ) → 0 + n ≡ n
none_ahead n = omega arith

-- a name is another one as that is it
bytes_turn : (x y : List ℕ) → bytes_eq x y ≡ bytes_eq y x
bytes_turn x y = by_tests (bytes_eq x y) (bytes_eq y x) refl refl
  where
    by_tests : (a b : Bool) → bytes_eq x y ≡ a → bytes_eq y x ≡ b → a ≡ b
    by_tests true true first second = refl
    by_tests false false first second = refl
    by_tests true false first second = let same = (bytes_eq-Decides y x).1 (sym ((bytes_eq-Decides x y).0 first)) in let clash = sym same ∙ second in cc
    by_tests false true first second = let same = (bytes_eq-Decides x y).1 (sym ((bytes_eq-Decides y x).0 second)) in let clash = sym same ∙ first in cc

granted_first : (name : List ℕ) (credit : Option ℕ) → IsFirstDesk name credit (granted_desk name credit)
granted_first name None = refl
granted_first name (Some credit) = record {
  grants = λ q. ap (λ (b : Bool). cond b (Some credit) None) (bytes_turn q name) ∙ sym (ap (λ (n : ℕ). cond (bytes_eq name q) (Some n) None) (none_ahead credit));
  past = λ q. refl;
  jobs = refl;
}

abbrev granted_desks : List (List ℕ × Option ℕ) → List Ledger
granted_desks [] = []
granted_desks (t ∷ tenants) = granted_desk t.0 t.1 ∷ granted_desks tenants

granted_all : (tenants : List (List ℕ × Option ℕ)) → AreFirstDesks tenants (granted_desks tenants)
granted_all [] = tt
granted_all (t ∷ tenants) = (granted_first t.0 t.1, granted_all tenants)

-- there are such desks
first_tenancy : (tenants : List (List ℕ × Option ℕ)) → (t : Tenancy) × IsFirstTenancy tenants t
first_tenancy tenants = (
  record { names = map (λ (x : List ℕ × Option ℕ). x.0) tenants; desks = fresh_desk ∷ granted_desks tenants },
  record { names = refl; firsts = granted_desks tenants; granted = granted_all tenants; desks = refl },
)

-- a desk for each tenant
pub tenants_begin : {N : Type 0} (doors : List TenantDoor) (bounds : Bounds) (runner : N) → (begun : Tenancy × BehindDoors (KeptRunner (LineLimitedRunner N))) × BeginsAtDesks doors bounds runner begun
tenants_begin {N} doors bounds runner =
    let t = first_tenancy (door_credits doors) in
    let handler : KeptRunner (LineLimitedRunner N) = record { runner = new_by_line (door_limits bounds.tenant_jobs doors) runner; keep = bounds.keep } in
    ((t.0, record { handler = handler; keys = replicate (length doors + 1) [] }), (t.1, refl, refl))

module _ {S L : Type 0} (answers : S → Query → List ℕ → S → Type 0) (opens fails : L → L → Type 0) (passage_of : L → Passage) (listener : L) (sessions : ℕ) (may_stop : Bool) where
  -- so many were served, from here on
  abbrev pub ServedFrom : S → S → Result (Unit {0}) ServeFault → Type 0
  ServedFrom first end outcome =
      (s : IsServingFrom answers (λ s. s ≡ first) end sessions may_stop outcome) × AreOf opens fails listener s.opened × All (λ c. CameBy opens passage_of c.passage) s.closed

  -- the same, up to some end
  abbrev pub Served : S → Result (Unit {0}) ServeFault → Type 0
  Served first outcome =
      (end : S) × (s : IsServingFrom answers (λ s. s ≡ first) end sessions may_stop outcome) × AreOf opens fails listener s.opened × All (λ c. CameBy opens passage_of c.passage) s.closed

  pub begun_as : (a b end : S) (outcome : Result (Unit {0}) ServeFault) → a ≡ b → ServedFrom a end outcome → Served b outcome
  begun_as a b end outcome same s =
      let t = subst (λ (x : S). ServedFrom x end outcome) same s in
      (end, t.0, t.1, t.2)

  -- nobody was served, since there is no memory
  pub none_served : (first : S) → Served first (Err (Connection NoMemory))
  none_served first = (
    first,
    record {
      history = [];
      opened = 0;
      closed = [];
      legal = none_yet first refl;
      others = λ n le. refl;
      parts = tt;
      served = λ k d lt. absurd (omega (arith, lt));
      well = tt;
      fault = inr (refl, inr (inr refl));
    },
    record { last = listener; given = nothing_yet },
    λ k d lt. absurd (omega (arith, lt)),
  )
