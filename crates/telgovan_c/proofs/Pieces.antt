-- A piece of the memory, put back after a run.
use Rattle.std.specs.Prelude.{◌≡◌, ℕ, ◌+◌, ◌-◌, List, ◌++◌, take, drop}
use Rattle.std.proofs.Common.{arith, ap}
use borrow.Rule.Slice.PartMut.{put_mid, Post-is}

pub put_back : (start size : ℕ) (old left : List ℕ) → put_mid start (start + size - start) old left ≡ take start old ++ (left ++ drop (start + size) old)
put_back start size old left =
    ap (λ (rest : List ℕ). take start old ++ (left ++ rest)) (Post-is start (start + size) old (omega arith))
