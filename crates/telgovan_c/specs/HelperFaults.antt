-- Why the helpers of a host aren't taken, as C says which.
use Rattle.std.specs.Prelude.{◌≡◌, ℕ, ◌<◌, ◌≤◌, List, length}
use Rattle.telgovan_c.specs.declared.helper_fault.HelperFault.{HelperFault}
use Rattle.telgovan_c.specs.declared.helper_fault.HelperFault.TheVariants.{BadId, TooManyArguments, NoMemory}
use Rattle.telgovan_c.specs.Hosted.{HasLongOne, IsArity}

abbrev pub code_of_helper_fault : HelperFault → ℕ
code_of_helper_fault BadId = 44
code_of_helper_fault TooManyArguments = 45
code_of_helper_fault NoMemory = 99

-- why one word isn't taken
abbrev pub IsWordFault : ℕ → HelperFault → Type 0
IsWordFault word BadId = ⊥
IsWordFault word TooManyArguments = IsArity word → ⊥
IsWordFault word NoMemory = Unit {0}

-- why all of them aren't
abbrev pub AreNoHelpers : List ℕ → HelperFault → Type 0
AreNoHelpers words BadId = 64 < length words
AreNoHelpers words TooManyArguments = (length words ≤ 64) × HasLongOne words
AreNoHelpers words NoMemory = length words ≤ 64
