-- One tenant more: what is entered, and that all of them stay apart.
use Rattle.std.proofs.Common.{◌≡◌, ◌≤◌, ◌+◌, ◌&&◌, ◌||◌, ◌∙◌, ℕ, Bool, cond, true, false, not, List, [], ◌∷◌, ◌++◌, length, map, refl, sym, ap, ap₂, subst, arith, Option, Some, None, Ok, Err, true≢false}
use Rattle.std.specs.Prelude.{nat_le, string_bytes}
use Rattle.std.specs.List.{AllByRecursion, IsDistinct, list_all, list_any}
use Rattle.std.specs.Str.{bytes_eq, is_utf8}
use Rattle.std.proofs.lemmas.Bool.Decides.{nat_tests}
use Rattle.std.proofs.lemmas.List.{append-nil, length-append, map-append}
use Rattle.std.proofs.lemmas.List.Folds.{list_all-append}
use Rattle.sessions.specs.Grammar.{is_name}
use Rattle.bpfjobs_cli.specs.declared.tenant_socket.TenantFault.{TenantFault}
use Rattle.bpfjobs_cli.specs.declared.tenant_socket.TenantFault.TheVariants as fault
use Rattle.bpfjobs_cli.specs.declared.tenant_socket.TenantSettings.{TenantSettings}
use Rattle.bpfjobs_cli.specs.declared.tenant_socket.TenantSocket.{TenantSocket}
use Rattle.bpfjobs_cli.specs.declared.tenant_text.Said.{Said}
use Rattle.bpfjobs_cli.specs.declared.tenant_text.Said.TheVariants as said
use Rattle.bpfjobs_cli.specs.TenantLines.{SaidText, said_by, says_nothing, says_other, says_no_jobs, says_no_credit, says_tenant}
use Rattle.bpfjobs_cli.specs.Tenants.{AreTenants, Entered, NamedTenant, entered, fault_beside, fault_said, has_name, has_path, is_socket_path, tenant_of, tenants_in, tenants_of, unless_fault}
use Rattle.bpfjobs_cli.specs.Entries.{TakesSaid}

-- ---- what is entered

pub entered_more : (before after : List NamedTenant) (n : ℕ) (said : SaidText) (rest : List SaidText) → TakesSaid before said after
    → entered before n (said ∷ rest) ≡ entered after (n + 1) rest
entered_more before after n said rest takes =
    ap (λ (o : Option TenantFault). unless_fault o n (entered (before ++ tenants_of said) (n + 1) rest)) takes.faultless
    ∙ ap (λ (ts : List NamedTenant). entered ts (n + 1) rest) (sym takes.more)

pub entered_stops : (before : List NamedTenant) (n : ℕ) (said : SaidText) (rest : List SaidText) (f : TenantFault) → fault_said before said ≡ Some f
    → entered before n (said ∷ rest) ≡ Err (n, f)
entered_stops before n said rest f wrong =
    ap (λ (o : Option TenantFault). unless_fault o n (entered (before ++ tenants_of said) (n + 1) rest)) wrong

-- ---- all stay apart

no_fault : (f : TenantFault) → Some f ≡ None → ⊥
no_fault f e = cc

-- no fault is told where a test holds
passes : (b : Bool) (f : TenantFault) (rest : Option TenantFault) → cond b (Some f) rest ≡ None → (b ≡ false) × (rest ≡ None)
passes true f rest e = absurd (no_fault f e)
passes false f rest e = (refl, e)

not_false : (b : Bool) → not b ≡ false → b ≡ true
not_false true e = refl
not_false false e = absurd (true≢false e)

-- a name and a path of one more tenant
record Fits (ts : List NamedTenant) (name path : List ℕ) : Type 0 where
  pub name_is : is_name name ≡ true
  pub path_is : is_socket_path path ≡ true
  pub new_name : has_name ts name ≡ false
  pub new_path : has_path ts path ≡ false
  pub room : nat_le 256 (length ts) ≡ false

fits_beside : (ts : List NamedTenant) (name path : List ℕ) → fault_beside ts name path ≡ None → Fits ts name path
unfolding fault_beside
fits_beside ts name path e =
    let first = passes (not (is_name name)) fault.Name _ e in
    let second = passes (not (is_socket_path path)) fault.Path _ first.1 in
    let third = passes (has_name ts name) fault.NameTwice _ second.1 in
    let fourth = passes (has_path ts path) fault.PathTwice _ third.1 in
    let last = passes (nat_le 256 (length ts)) fault.TooMany _ fourth.1 in
    record { name_is = not_false _ first.0; path_is = not_false _ second.0; new_name = third.0; new_path = fourth.0; room = last.0 }

fits_tenant : (ts : List NamedTenant) (name path : List ℕ) (settings : TenantSettings) → fault_said ts (says_tenant name path settings) ≡ None → Fits ts name path
unfolding fault_said
fits_tenant ts name path settings e = go (is_utf8 name && is_utf8 path) e
  where
    go : (b : Bool) → cond b (fault_beside ts name path) (Some fault.NotText) ≡ None → Fits ts name path
    go true h = fits_beside ts name path h
    go false h = absurd (no_fault fault.NotText h)

neither : (a b : Bool) → (a || b) ≡ false → (a ≡ false) × (b ≡ false)
neither true b e = absurd (true≢false e)
neither false b e = (refl, e)

other_more : (x y : List ℕ) (part : NamedTenant → List ℕ) (ts : List NamedTenant) (t : NamedTenant) → part t ≡ y → bytes_eq x y ≡ false
    → AllByRecursion (λ z. bytes_eq x z ≡ false) (map part ts) → AllByRecursion (λ z. bytes_eq x z ≡ false) (map part (ts ++ t ∷ []))
other_more x y part [] t is new all = (ap (bytes_eq x) is ∙ new, tt)
other_more x y part (s ∷ ts) t is new all = (all.0, other_more x y part ts t is new all.1)

apart_more : (part : NamedTenant → List ℕ) (y : List ℕ) (ts : List NamedTenant) (t : NamedTenant) → part t ≡ y → list_any (λ s. bytes_eq (part s) y) ts ≡ false
    → IsDistinct bytes_eq (map part ts) → IsDistinct bytes_eq (map part (ts ++ t ∷ []))
unfolding IsDistinct
apart_more part y [] t is new apart = (tt, tt)
apart_more part y (s ∷ ts) t is new apart =
    let both = neither (bytes_eq (part s) y) (list_any (λ r. bytes_eq (part r) y) ts) new in
    (other_more (part s) y part ts t is both.0 apart.0, apart_more part y ts t is both.1 apart.1)

all_more : (p : NamedTenant → Bool) (ts : List NamedTenant) (t : NamedTenant) → list_all p ts ≡ true → p t ≡ true → list_all p (ts ++ t ∷ []) ≡ true
all_more p ts t all one = list_all-append p ts (t ∷ []) ∙ rw (all, one) refl

under : (n : ℕ) → nat_le 256 n ≡ false → n + 1 ≤ 256
under n e = grind (arith, nat_tests)

tenants_more : (ts : List NamedTenant) (name path : List ℕ) (settings : TenantSettings) → AreTenants ts → Fits ts name path → AreTenants (ts ++ (name, path, settings) ∷ [])
tenants_more ts name path settings are fits = record {
  names = all_more (λ t. is_name t.0) ts (name, path, settings) are.names fits.name_is;
  paths = all_more (λ t. is_socket_path t.1) ts (name, path, settings) are.paths fits.path_is;
  names_apart = apart_more (λ t. t.0) name ts (name, path, settings) refl fits.new_name are.names_apart;
  paths_apart = apart_more (λ t. t.1) path ts (name, path, settings) refl fits.new_path are.paths_apart;
  count = subst (λ n. n ≤ 256) (sym (length-append ts ((name, path, settings) ∷ []))) (under (length ts) fits.room);
}

said_more : (ts : List NamedTenant) (said : SaidText) → fault_said ts said ≡ None → AreTenants ts → AreTenants (ts ++ tenants_of said)
said_more ts says_nothing e are = subst AreTenants (sym (append-nil ts)) are
said_more ts says_other e are = subst AreTenants (sym (append-nil ts)) are
said_more ts says_no_jobs e are = subst AreTenants (sym (append-nil ts)) are
said_more ts says_no_credit e are = subst AreTenants (sym (append-nil ts)) are
said_more ts (says_tenant name path settings) e are = tenants_more ts name path settings are (fits_tenant ts name path settings e)

never : (n : ℕ) (f : TenantFault) (all : List NamedTenant) → ◌≡◌ {A = Entered} (Err (n, f)) (Ok all) → ⊥
never n f all e = cc

same_all : (a b : List NamedTenant) → ◌≡◌ {A = Entered} (Ok a) (Ok b) → a ≡ b
same_all a b e = cc

pub all_apart : (ts : List NamedTenant) (n : ℕ) (saids : List SaidText) (all : List NamedTenant) → AreTenants ts → entered ts n saids ≡ Ok all → AreTenants all
all_apart ts n [] all are e = subst AreTenants (same_all ts all e) are
all_apart ts n (said ∷ rest) all are e = go (fault_said ts said) refl e (λ more h. all_apart (ts ++ tenants_of said) (n + 1) rest all more h)
  where
    go : (o : Option TenantFault) → fault_said ts said ≡ o → unless_fault o n (entered (ts ++ tenants_of said) (n + 1) rest) ≡ Ok all
        → (AreTenants (ts ++ tenants_of said) → entered (ts ++ tenants_of said) (n + 1) rest ≡ Ok all → AreTenants all) → AreTenants all
    go None none h onward = onward (said_more ts said none are) h
    go (Some f) some h onward = absurd (never n f all h)

-- none are apart
pub none_apart : AreTenants []
unfolding IsDistinct
none_apart = record { names = refl; paths = refl; names_apart = tt; paths_apart = tt; count = omega arith }

-- ---- what one text comes to

pub takes_nothing : (ts : List NamedTenant) (s : Said) → s ≡ said.Nothing → TakesSaid ts (said_by s) ts
unfolding fault_said
takes_nothing ts s is = subst (λ (x : Said). TakesSaid ts (said_by x) ts) (sym is) (record { faultless = refl; more = sym (append-nil ts) })

pub refuses_other : (ts : List NamedTenant) (s : Said) → s ≡ said.Other → fault_said ts (said_by s) ≡ Some fault.Form
unfolding fault_said
refuses_other ts s is = rw is refl

pub refuses_jobs : (ts : List NamedTenant) (s : Said) → s ≡ said.NoJobs → fault_said ts (said_by s) ≡ Some fault.OpenJobs
unfolding fault_said
refuses_jobs ts s is = rw is refl

pub refuses_credit : (ts : List NamedTenant) (s : Said) → s ≡ said.NoCredit → fault_said ts (said_by s) ≡ Some fault.Credit
unfolding fault_said
refuses_credit ts s is = rw is refl

module _ (ts : List NamedTenant) (name path : List ℕ) (settings : TenantSettings) where
  pub refuses_bytes : false ≡ is_utf8 name && is_utf8 path → fault_said ts (says_tenant name path settings) ≡ Some fault.NotText
  unfolding fault_said
  refuses_bytes test = rw (sym test) refl

  pub refuses_tenant : (f : TenantFault) → true ≡ is_utf8 name && is_utf8 path → Some f ≡ fault_beside ts name path → fault_said ts (says_tenant name path settings) ≡ Some f
  unfolding fault_said
  refuses_tenant f test why = rw (sym test) (sym why)

  pub takes_tenant : (after : List NamedTenant) → true ≡ is_utf8 name && is_utf8 path → None ≡ fault_beside ts name path → after ≡ ts ++ (name, path, settings) ∷ []
      → TakesSaid ts (says_tenant name path settings) after
  unfolding fault_said
  takes_tenant after test none more = record { faultless = rw (sym test) (sym none); more = more }

pub pushed_tenant : (ts after : List TenantSocket) (t : TenantSocket) (name path : List ℕ) → after ≡ ts ++ t ∷ [] → string_bytes t.name ≡ name → string_bytes t.path ≡ path
    → tenants_in after ≡ tenants_in ts ++ (name, path, t.settings) ∷ []
pushed_tenant ts after t name path is a b =
    ap tenants_in is ∙ map-append tenant_of ts (t ∷ []) ∙ ap₂ (λ (x y : List ℕ). tenants_in ts ++ (x, y, t.settings) ∷ []) a b
