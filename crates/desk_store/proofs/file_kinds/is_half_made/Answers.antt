use Rattle.std.proofs.Common.{◌≡◌, ◌==◌, ◌++◌, ◌∷◌, [], arith, codes, false, length, nat_le, refl, rules, slice_index, subst, true, List, ℕ}
use Rattle.std.proofs.lemmas.Bool.Decides.{nat_tests}
use Rattle.desk_store.specs.KindsOfFiles.{is_partly}
use Rattle.desk_store.proofs.file_kinds.is_half_made.Goals as goal

pub returns-then-not-is_partly : goal.returns-then-not-is_partly
returns-then-not-is_partly c =
    let bytes = c.args.bytes.now in
    let first : (slice_index bytes 0 == 0) ≡ true = grind (arith, nat_tests) in
    let short : nat_le (length bytes) 4096 ≡ true = grind (arith, nat_tests) in
    let text : c.as_slice.result.now ≡ codes "SQLite format 3" ++ 0 ∷ [] = c.as_slice.ensures in
    let here : is_partly bytes c.as_slice.result.now ≡ false = search rules in
    let other : is_partly bytes (codes "SQLite format 3" ++ 0 ∷ []) ≡ false = subst (λ (t : List ℕ). is_partly bytes t ≡ false) text here in
    rw (first, short, other) refl

pub returns : goal.returns
returns c =
    let bytes = c.args.bytes.now in
    let first : (slice_index bytes 0 == 0) ≡ true = grind (arith, nat_tests) in
    let short : nat_le (length bytes) 4096 ≡ true = grind (arith, nat_tests) in
    let text : c.as_slice.result.now ≡ codes "SQLite format 3" ++ 0 ∷ [] = c.as_slice.ensures in
    let here : is_partly bytes c.as_slice.result.now ≡ true = search rules in
    let partly : is_partly bytes (codes "SQLite format 3" ++ 0 ∷ []) ≡ true = subst (λ (t : List ℕ). is_partly bytes t ≡ true) text here in
    rw (first, short, partly, c.is_zero_behind.ensures) refl
