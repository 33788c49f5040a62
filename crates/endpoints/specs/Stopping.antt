-- The flag that stops a server.
use Rattle.std.specs.Prelude.{◌≡◌, ℕ, List, Bool, true, false, Option, None, Some}
use Rattle.std.specs.declared.sync.OnceToken.{OnceToken}

-- what was seen shows that this flag is up, whose name is that of what it is made of
abbrev pub IsOfFlag : {F : Type 0} → (F → ℕ) → Option F → Option (OnceToken (Unit {0})) → Type 0
IsOfFlag name flag None = Unit {0}
IsOfFlag name None (Some token) = ⊥
IsOfFlag name (Some flag) (Some token) = token.of ≡ name flag

-- The bytes that a stream has left, where nothing stops it. With a flag it isn't known how many of them
-- come before that is raised.
abbrev pub left_unless_stopped : Bool → Option (List ℕ) → Option (List ℕ)
left_unless_stopped false left = left
left_unless_stopped true left = None
