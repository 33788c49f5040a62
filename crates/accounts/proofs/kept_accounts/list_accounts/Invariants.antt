use Rattle.std.proofs.Common.{◌≡◌, ◌++◌, map}
use Rattle.std.specs.BTreeMap as tree
use Rattle.std.specs.String.{string_cmp}
use Rattle.accounts.specs.KeptAccounts.{kept_as, kept_from_sums}
use Rattle.accounts.proofs.kept_accounts.list_accounts.Given as goal

abbrev pub invariant-loop-name : goal.invariant-loop-name
invariant-loop-name l =
    (goal.iterator-loop-name).can_next l.name-iterator ×
    (goal.iterator-loop-name).is_finite l.name-iterator ×
    tree.IsOrdered string_cmp l.tenants ×
    (map kept_as l.accounts.items ++ map kept_from_sums l.name-iterator ≡ map kept_from_sums l.tenants.entries)
