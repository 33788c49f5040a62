-- Which events leave what was spent and returned.
use Rattle.std.specs.Prelude.{◌≡◌, List, [], ◌∷◌, ◌++◌}
use Rattle.credit_book.specs.declared.event.Event.{Event}
use Rattle.credit_book.specs.declared.event.Event.TheVariants.{Open, Spawn, Park, Claim, End}

abbrev pub IsQuiet : Event → Type 0
IsQuiet (Open job issued) = Unit {0}
IsQuiet (Spawn parent child program share arg base len) = Unit {0}
IsQuiet (Park n) = Unit {0}
IsQuiet (Claim n) = Unit {0}
IsQuiet (End n used r0 ran base bytes) = ⊥

-- no end is among these
abbrev pub NoEnd : List Event → Type 0
NoEnd [] = Unit {0}
NoEnd (e ∷ es) = IsQuiet e × NoEnd es

abbrev pub IsEnd : Event → Type 0
IsEnd (Open job issued) = ⊥
IsEnd (Spawn parent child program share arg base len) = ⊥
IsEnd (Park n) = ⊥
IsEnd (Claim n) = ⊥
IsEnd (End n used r0 ran base bytes) = Unit {0}

-- the history goes on after what was known with no end, and then with one end more
pub record GrowsByEnd (known now : List Event) : Type 0 where
  pub later : List Event
  pub quiet : NoEnd later
  pub end : Event
  pub is_end : IsEnd end
  pub now_is : now ≡ (known ++ later) ++ end ∷ []
