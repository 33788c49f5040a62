-- Replies that wait behind those that may go out.
use Rattle.std.proofs.Common.{◌≡◌, inl, inr, List, ℕ, Bool, [], ◌++◌, refl, sym, ap, subst, append-nil, Result, Ok, Err, IfErr}
use Rattle.std.specs.Prelude.{OnOk}
use Rattle.streams.specs.LettingGo.{LetsGoBut}
use Rattle.streams.specs.Unanswered.{IsUnanswered}
use Rattle.streams.specs.declared.fault.StreamFault.{StreamFault}
use Rattle.streams.specs.declared.fault.StreamFault.TheVariants.{ReadFailed, WriteFailed, NoMemory}

module _ {D H W : Type 0} (answers : D × H → List ℕ → List ℕ → D × H → Type 0) (lets_go : W × H → List ℕ → Type 0)
    (behind : (s : W) (desk : D) (handler : H) (waits payload reply : List ℕ) (desk' : D) (handler' : H) → lets_go (s, handler) waits → answers (desk, handler) payload reply (desk', handler') → lets_go (s, handler') (waits ++ reply)) where
  -- a reply that is lost waits like any other
  pub waits_unanswered : (s : W) (desk : D) (handler : H) (waits payload : List ℕ) (desk' : D) (handler' : H) → IsUnanswered answers (desk, handler) payload (desk', handler') → lets_go (s, handler) waits
      → (lost : List ℕ) × lets_go (s, handler') (waits ++ lost)
  waits_unanswered s desk handler waits payload desk' handler' (inl same) go =
      let P : H → Type 0 = λ h. lets_go (s, h) (waits ++ []) in
      ([], subst P (sym (ap (λ (t : D × H). t.1) same)) (subst (λ (l : List ℕ). lets_go (s, handler) l) (sym (append-nil waits)) go))
  waits_unanswered s desk handler waits payload desk' handler' (inr answered) go =
      (answered.0, behind s desk handler waits payload answered.0 desk' handler' go answered.1)

-- all of them wait
pub waits_nothing_lost : {A : Type 0} (lets_go : A → List ℕ → Type 0) (s : A) (waits : List ℕ) → lets_go s waits → (lost : List ℕ) × lets_go s (waits ++ lost)
waits_nothing_lost lets_go s waits go = ([], subst (lets_go s) (sym (append-nil waits)) go)

-- what waits where a piece wasn't answered to its end, or was
pub waits_then : {A : Type 0} (answered : Result Bool StreamFault) (lets_go : A → List ℕ → Type 0) (s : A) (waits : List ℕ) → (answered ≡ Err WriteFailed → ⊥) → OnOk answered (lets_go s waits)
    → IfErr answered (λ fault. LetsGoBut fault lets_go s waits) → (rest : List ℕ) × lets_go s (waits ++ rest)
waits_then (Ok goes_on) lets_go s waits not go given_up = waits_nothing_lost lets_go s waits go
waits_then (Err ReadFailed) lets_go s waits not go given_up = absurd given_up
waits_then (Err WriteFailed) lets_go s waits not go given_up = absurd (not refl)
waits_then (Err NoMemory) lets_go s waits not go given_up = given_up
