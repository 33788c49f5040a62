-- When a socket can be at a path.
use Rattle.std.proofs.Common.{◌≡◌, ◌==◌, ℕ, ◌<◌, ◌≤◌, List, length, false, arith}
use Rattle.std.specs.Prelude.{not}
use Rattle.std.specs.List.{list_any}
use Rattle.std.proofs.lemmas.Bool.Decides.{nat_tests}
use Rattle.bpfjobs_cli.specs.Tenants.{is_socket_path}

pub path_empty : (path : List ℕ) → length path ≡ 0 → is_socket_path path ≡ false
unfolding is_socket_path
path_empty path empty = grind (arith, nat_tests)

pub path_long : (path : List ℕ) → 104 < length path → is_socket_path path ≡ false
unfolding is_socket_path
path_long path long = grind (arith, nat_tests)

pub path_holds : (path : List ℕ) → 0 < length path → length path ≤ 104
    → is_socket_path path ≡ not (list_any (λ byte. byte == 0) path)
unfolding is_socket_path
path_holds path some short = grind (arith, nat_tests)
