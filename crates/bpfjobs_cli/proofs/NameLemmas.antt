-- When a text is a tenant's name, and what is then wrong with a tenant.
use Rattle.std.proofs.Common.{◌≡◌, ◌&&◌, ◌∙◌, ℕ, ◌<◌, ◌≤◌, Bool, List, length, false, true, refl, sym, arith, Some, None}
use Rattle.std.specs.Prelude.{nat_le, string_bytes}
use Rattle.std.specs.List.{list_all, list_any}
use Rattle.std.specs.Str.{IsUtf8, bytes_eq, is_utf8}
use Rattle.std.proofs.lemmas.Bool.{le-leb, leb-true}
use Rattle.std.proofs.lemmas.Bool.Decides.{nat_tests}
use Rattle.std.proofs.lemmas.List.{length-map}
use Rattle.std.proofs.lemmas.Str.{IsUtf8-from_is_utf8, is_utf8-from_IsUtf8}
use Rattle.clap.proofs.WalkLemmas.{list_any-map}
use Rattle.sessions.specs.Grammar.{is_name, is_name_byte}
use Rattle.bpfjobs_cli.specs.declared.tenant_socket.TenantFault.TheVariants as fault
use Rattle.bpfjobs_cli.specs.declared.tenant_socket.TenantSocket.{TenantSocket}
use Rattle.bpfjobs_cli.specs.Tenants.{fault_beside, has_name, has_path, is_socket_path, tenant_of, tenants_in}

pub name_empty : (text : List ℕ) → length text ≡ 0 → is_name text ≡ false
unfolding is_name
name_empty text empty = grind (arith, nat_tests)

pub name_long : (text : List ℕ) → 32 < length text → is_name text ≡ false
unfolding is_name
name_long text long = grind (arith, nat_tests)

pub name_holds : (text : List ℕ) → 0 < length text → length text ≤ 32 → is_name text ≡ list_all is_name_byte text
unfolding is_name
name_holds text some short = grind (arith, nat_tests)

-- ---- texts

not_text : (bytes : List ℕ) → (IsUtf8 bytes → ⊥) → is_utf8 bytes ≡ false
not_text bytes wrong = go (is_utf8 bytes) refl
  where
    go : (b : Bool) → is_utf8 bytes ≡ b → b ≡ false
    go true e = absurd (wrong (IsUtf8-from_is_utf8 bytes e))
    go false e = refl

module _ (name path : List ℕ) where
  pub both_text : IsUtf8 name → IsUtf8 path → true ≡ is_utf8 name && is_utf8 path
  both_text a b = rw (is_utf8-from_IsUtf8 name a, is_utf8-from_IsUtf8 path b) refl

  pub path_no_text : IsUtf8 name → (IsUtf8 path → ⊥) → false ≡ is_utf8 name && is_utf8 path
  path_no_text a b = rw (is_utf8-from_IsUtf8 name a, not_text path b) refl

  pub name_no_text : (IsUtf8 name → ⊥) → false ≡ is_utf8 name && is_utf8 path
  name_no_text a = rw (not_text name a) refl

-- ---- tenants beside a name and a path

over : (a b : ℕ) → b < a → nat_le a b ≡ false
over a b lt = go (nat_le a b) refl
  where
    go : (t : Bool) → nat_le a b ≡ t → t ≡ false
    go true e = absurd (omega (arith, lt, leb-true a b e))
    go false e = refl

-- a tenant has this name, or this path
abbrev HasName : List TenantSocket → List ℕ → Bool
HasName ts name = list_any (λ t. bytes_eq (string_bytes t.name) name) ts

abbrev HasPath : List TenantSocket → List ℕ → Bool
HasPath ts path = list_any (λ t. bytes_eq (string_bytes t.path) path) ts

module _ (ts : List TenantSocket) (name path : List ℕ) where
  names_in : HasName ts name ≡ has_name (tenants_in ts) name
  names_in = list_any-map (λ t. bytes_eq t.0 name) tenant_of ts

  paths_in : HasPath ts path ≡ has_path (tenants_in ts) path
  paths_in = list_any-map (λ t. bytes_eq t.1 path) tenant_of ts

  pub beside_no_name : is_name name ≡ false → Some fault.Name ≡ fault_beside (tenants_in ts) name path
  unfolding fault_beside
  beside_no_name e = rw e refl

  pub beside_no_path : is_name name ≡ true → is_socket_path path ≡ false → Some fault.Path ≡ fault_beside (tenants_in ts) name path
  unfolding fault_beside
  beside_no_path e f = rw (e, f) refl

  module _ (e : is_name name ≡ true) (f : is_socket_path path ≡ true) where
    pub beside_name : HasName ts name ≡ true → Some fault.NameTwice ≡ fault_beside (tenants_in ts) name path
    unfolding fault_beside
    beside_name g = rw (e, f, sym names_in ∙ g) refl

    pub beside_path : HasName ts name ≡ false → HasPath ts path ≡ true → Some fault.PathTwice ≡ fault_beside (tenants_in ts) name path
    unfolding fault_beside
    beside_path g h = rw (e, f, sym names_in ∙ g, sym paths_in ∙ h) refl

    pub beside_many : HasName ts name ≡ false → HasPath ts path ≡ false → 256 ≤ length ts → Some fault.TooMany ≡ fault_beside (tenants_in ts) name path
    unfolding fault_beside
    beside_many g h many =
        let full : nat_le 256 (length (tenants_in ts)) ≡ true = rw (length-map ts tenant_of) (le-leb 256 (length ts) many) in
        rw (e, f, sym names_in ∙ g, sym paths_in ∙ h, full) refl

    pub beside_none : HasName ts name ≡ false → HasPath ts path ≡ false → length ts < 256 → None ≡ fault_beside (tenants_in ts) name path
    unfolding fault_beside
    beside_none g h few =
        let room : nat_le 256 (length (tenants_in ts)) ≡ false = rw (length-map ts tenant_of) (over 256 (length ts) few) in
        rw (e, f, sym names_in ∙ g, sym paths_in ∙ h, room) refl
