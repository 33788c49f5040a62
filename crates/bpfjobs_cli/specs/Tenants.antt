-- The tenants with sockets of their own: as words NAME=PATH and lines NAME PATH have them.
use Rattle.std.specs.Prelude.{◌≡◌, ◌≤◌, ◌==◌, ◌&&◌, ◌+◌, ℕ, Bool, not, nat_le, true, List, [], ◌∷◌, ◌++◌, length, map, string_bytes, slice_get, if◌then◌else◌, Option, Some, None, Result, Ok, Err}
use Rattle.std.specs.List.{IsDistinct, list_any, list_all, slice_split}
use Rattle.std.specs.Str.{bytes_eq, is_utf8}
use Rattle.sessions.specs.Grammar.{is_name}
use Rattle.bpfjobs_cli.specs.declared.tenant_socket.TenantSocket.{TenantSocket}
use Rattle.bpfjobs_cli.specs.declared.tenant_socket.TenantSettings.{TenantSettings}
use Rattle.bpfjobs_cli.specs.declared.tenant_socket.TenantFault.{TenantFault}
use Rattle.bpfjobs_cli.specs.declared.tenant_socket.TenantFault.TheVariants as fault
use Rattle.bpfjobs_cli.specs.declared.tenant_socket.WrongTenant.{WrongTenant}
use Rattle.bpfjobs_cli.specs.declared.tenant_socket.WrongTenant.TheVariants as wrong
use Rattle.bpfjobs_cli.specs.declared.tenant_text.Delimiter.TheVariants.{LineEnd}
use Rattle.bpfjobs_cli.specs.TenantLines.{SaidText, is_delimiter, line_says, says_nothing, says_other, says_no_jobs, says_no_credit, says_tenant, word_says}

-- a tenant's name, the path of its socket, and what is said beside them
abbrev pub NamedTenant : Type 0
NamedTenant = List ℕ × List ℕ × TenantSettings

abbrev pub tenant_of : TenantSocket → NamedTenant
tenant_of t = (string_bytes t.name, string_bytes t.path, t.settings)

abbrev pub tenants_in : List TenantSocket → List NamedTenant
tenants_in ts = map tenant_of ts

-- ---- one text after the other

-- a tenant has this name, or this path
abbrev pub has_name : List NamedTenant → List ℕ → Bool
has_name ts name = list_any (λ t. bytes_eq t.0 name) ts

abbrev pub has_path : List NamedTenant → List ℕ → Bool
has_path ts path = list_any (λ t. bytes_eq t.1 path) ts

-- the path of a socket: 1 to 104 bytes, none of them 0
unfoldable pub is_socket_path : List ℕ → Bool
is_socket_path path =
    not (length path == 0) && nat_le (length path) 104 && not (list_any (λ byte. byte == 0) path)

-- the reason why a name and a path aren't those of one more tenant
unfoldable pub fault_beside : List NamedTenant → List ℕ → List ℕ → Option TenantFault
fault_beside ts name path =
    if not (is_name name) then Some fault.Name
    else if not (is_socket_path path) then Some fault.Path
    else if has_name ts name then Some fault.NameTwice
    else if has_path ts path then Some fault.PathTwice
    else if nat_le 256 (length ts) then Some fault.TooMany else None

-- the reason why what is said is no further tenant, nor nothing
unfoldable pub fault_said : List NamedTenant → SaidText → Option TenantFault
fault_said ts says_nothing = None
fault_said ts says_other = Some fault.Form
fault_said ts says_no_jobs = Some fault.OpenJobs
fault_said ts says_no_credit = Some fault.Credit
fault_said ts (says_tenant name path settings) =
    if is_utf8 name && is_utf8 path then fault_beside ts name path else Some fault.NotText

-- the tenant that is said, if one is
abbrev pub tenants_of : SaidText → List NamedTenant
tenants_of says_nothing = []
tenants_of says_other = []
tenants_of says_no_jobs = []
tenants_of says_no_credit = []
tenants_of (says_tenant name path settings) = (name, path, settings) ∷ []

abbrev pub Entered : Type 0
Entered = Result (List NamedTenant) (ℕ × TenantFault)

-- it goes on, or ends at this number with a fault
abbrev pub unless_fault : Option TenantFault → ℕ → Entered → Entered
unless_fault None n goes = goes
unless_fault (Some f) n goes = Err (n, f)

-- The tenants, and those that texts say, in their order. Or the number of the first wrong text,
-- where they are counted from this one on, and what is wrong with it.
abbrev pub entered : List NamedTenant → ℕ → List SaidText → Entered
entered ts n [] = Ok ts
entered ts n (s ∷ rest) =
    unless_fault (fault_said ts s) n (entered (ts ++ tenants_of s) (n + 1) rest)

abbrev pub words_said : List (List ℕ) → List SaidText
words_said words = map word_says words

-- the lines of a file, counted from 1
abbrev pub lines_said : List ℕ → List SaidText
lines_said text = map line_says (slice_split (is_delimiter LineEnd) text)

-- a word is wrong
abbrev pub IsWrongWord : List (List ℕ) → List ℕ → TenantFault → Type 0
IsWrongWord words word f =
    (n : ℕ) × (entered [] 0 (words_said words) ≡ Err (n, f)) × (slice_get words n ≡ Some word)

-- a line is wrong, or there is no memory
abbrev pub IsWrongLine : WrongTenant → Entered → Type 0
IsWrongLine (wrong.At n f) outcome = outcome ≡ Err (n, f)
IsWrongLine wrong.NoMemory outcome = Unit {0}

-- ---- what holds of all that are entered

-- each has a tenant's name and a socket's path; no name and no path is there twice; there are 256 at most
pub record AreTenants (ts : List NamedTenant) : Type 0 where
  pub names : list_all (λ t. is_name t.0) ts ≡ true
  pub paths : list_all (λ t. is_socket_path t.1) ts ≡ true
  pub names_apart : IsDistinct bytes_eq (map (λ t. t.0) ts)
  pub paths_apart : IsDistinct bytes_eq (map (λ t. t.1) ts)
  pub count : length ts ≤ 256
