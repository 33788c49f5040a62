-- What is left where a command is given up.
use Rattle.std.proofs.Common.{◌≡◌, ◌<◌, ℕ, List, ◌++◌, length, take, Option, refl, sym, subst}
use Rattle.streams.specs.declared.fault.StreamFault.{StreamFault}
use Rattle.streams.specs.declared.fault.StreamFault.TheVariants.{ReadFailed, WriteFailed, NoMemory}
use Rattle.bpfjobs_cli.specs.Performing.{IsGivenUpBy}

-- ahead of the answer nothing is written
pub given_up_early : (fault : StreamFault) (answers : List ℕ → ℕ → Option ℕ → Type 0) (over : Type 0) (before : List ℕ) → (fault ≡ WriteFailed → ⊥) → IsGivenUpBy fault answers over before before
given_up_early ReadFailed answers over before not = refl
given_up_early WriteFailed answers over before not = absurd (not refl)
given_up_early NoMemory answers over before not = refl

-- what the writer took of the answer where it failed
abbrev pub IsTold : List ℕ → List ℕ → List ℕ → StreamFault → Type 0
IsTold text before after fault = (fault ≡ WriteFailed) × (n : ℕ) × (n < length text) × (after ≡ before ++ take n text)

pub given_up_late : (fault : StreamFault) (answers : List ℕ → ℕ → Option ℕ → Type 0) (over : Type 0) (before after text : List ℕ) (status : ℕ) (code : Option ℕ) → over → answers text status code → IsTold text before after fault → IsGivenUpBy fault answers over before after
given_up_late fault answers over before after text status code is_over answer told =
    subst (λ f. IsGivenUpBy f answers over before after) (sym told.0) (is_over, text, status, code, answer, told.1, told.2, told.3)
