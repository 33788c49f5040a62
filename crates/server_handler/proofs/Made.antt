-- Changes that are made, if they are.
use Rattle.std.proofs.Common.{Option, None, Some, IfSome}

pub if_some_weaker : {A : Type 0} {P Q : A → Type 0} (o : Option A) → ((a : A) → P a → Q a) → IfSome o P → IfSome o Q
if_some_weaker None weaker is = tt
if_some_weaker (Some a) weaker is = weaker a is
