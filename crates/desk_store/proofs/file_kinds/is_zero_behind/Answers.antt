use Rattle.std.proofs.Common.{◌≤◌, arith, length, refl}
use Rattle.std.proofs.lemmas.Bool.Decides.{nat_tests}
use Rattle.std.proofs.lemmas.List.{drop_all}
use Rattle.desk_store.proofs.file_kinds.is_zero_behind.Goals as goal

pub returns-then-bytes-le108 : goal.returns-then-bytes-le108
returns-then-bytes-le108 c =
    let short : length c.args.bytes.now ≤ 108 = grind (arith, nat_tests) in
    rw (drop_all 108 c.args.bytes.now short) refl
