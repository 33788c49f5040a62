-- What there is at a place is one thing.
use Rattle.std.proofs.Common.{◌≡◌, Option, Some, None}

pub one_some : {A : Type 0} (o : Option A) (x y : A) → o ≡ Some x → o ≡ Some y → x ≡ y
one_some o x y a b = cc

pub none_some : {A : Type 0} (o : Option A) (x : A) → o ≡ None → o ≡ Some x → ⊥
none_some o x a b = cc
