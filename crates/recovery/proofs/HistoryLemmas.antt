-- Changes more.
use Rattle.std.proofs.Common.{◌≡◌, ℕ, List, [], ◌∷◌, ◌++◌, refl, sym, ap, ◌∙◌, subst}
use Rattle.std.specs.Prelude.{Result, Err, IsErrOf}
use Rattle.recovery.specs.Histories.{ReplaysChanges, IsAfter, AreStateChanges}

pub replays_more : {M : Type 0} (steps : M → List ℕ → M → Type 0) (old : M) (changes : List (List ℕ)) (mid : M) (change : List ℕ) (new : M)
    → ReplaysChanges steps old changes mid → steps mid change new → ReplaysChanges steps old (changes ++ change ∷ []) new
replays_more {M} steps old [] mid change new r s = (new, subst (λ (m : M). steps m change new) r s, refl)
replays_more {M} steps old (e ∷ changes) mid change new r s = (r.0, r.1, replays_more steps r.0 changes mid change new r.2 s)

pub after_more : {M : Type 0} (starts : M → Type 0) (steps : M → List ℕ → M → Type 0) (changes : List (List ℕ)) (mid : M) (change : List ℕ) (new : M)
    → IsAfter starts steps changes mid → steps mid change new → IsAfter starts steps (changes ++ change ∷ []) new
after_more starts steps changes mid change new a s = (a.0, a.1, replays_more steps a.0 changes mid change new a.2 s)

pub replays_on : {M : Type 0} (steps : M → List ℕ → M → Type 0) (first : M) (history more : List (List ℕ)) (mid later : M)
    → ReplaysChanges steps first history mid → ReplaysChanges steps mid more later → ReplaysChanges steps first (history ++ more) later
replays_on {M} steps first [] more mid later r s = subst (λ (m : M). ReplaysChanges steps m more later) r s
replays_on {M} steps first (change ∷ history) more mid later r s = (r.0, r.1, replays_on steps r.0 history more mid later r.2 s)

pub after_on : {M : Type 0} (starts : M → Type 0) (steps : M → List ℕ → M → Type 0) (history more : List (List ℕ)) (mid later : M)
    → IsAfter starts steps history mid → ReplaysChanges steps mid more later → IsAfter starts steps (history ++ more) later
after_on starts steps history more mid later a r = (a.0, a.1, replays_on steps a.0 history more mid later a.2 r)

-- a payload that stands among those of changes is one of a change
pub change_there : {E : Type 0} (payload : E → List ℕ) (before : List (List ℕ)) (bytes : List ℕ) (more : List (List ℕ))
    → AreStateChanges payload ((before ++ bytes ∷ []) ++ more) → (change : E) × (payload change ≡ bytes)
change_there payload [] bytes more all = all.0
change_there payload (p ∷ before) bytes more all = change_there payload before bytes more all.1

failed : (U : Type 0) {F : Type 0} {y fault : F} → y ≡ fault → IsErrOf {T = U} (Err y) fault
failed U {F} {y} {fault} e = ap Err e

-- the fault that a call passes on
pub same_fault : {T U F : Type 0} (r : Result T F) (x y fault : F) → r ≡ Err x → x ≡ y → IsErrOf r fault → IsErrOf {T = U} (Err y) fault
same_fault {T} {U} {F} r x y fault e same is =
    let at = sym e ∙ is in
    let is_fault : x ≡ fault = cc in
    failed U (sym same ∙ is_fault)

-- a fault, whatever a call answers without one
pub fault_alone : (U : Type 0) {T F : Type 0} (y fault : F) → IsErrOf {T = T} (Err y) fault → IsErrOf {T = U} (Err y) fault
fault_alone U y fault is = let same : y ≡ fault = cc in failed U same
