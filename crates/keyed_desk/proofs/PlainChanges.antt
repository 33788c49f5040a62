-- Changes with keys, and those of the desk alone.
use Rattle.std.proofs.Common.{◌≡◌, ℕ, List, [], ◌∷◌, refl, sym, ap, subst, ◌∙◌}
use Rattle.sessions.specs.declared.job_key.KeyedJob.{KeyedJob}
use Rattle.recovery.specs.Histories.{ReplaysChanges}
use Rattle.desk_journal.specs.DeskChanges.{change_bytes}
use Rattle.desk_journal.specs.DeskSteps.{DeskState, MakesBytes}
use Rattle.keyed_desk.specs.KeyedChanges.{by_key_bytes}
use Rattle.keyed_desk.specs.KeyedSteps.{ArePlainOf, KeyedState, MakesKeyed, alone, by_key, key_kept, no_change, one_plain, one_by_key, one_kept}
use Rattle.keyed_desk.proofs.Tags.{not_by_key, not_key_kept}

abbrev pub keyed : DeskState → List KeyedJob → KeyedState
keyed desk keys = record { desk = desk; keys = keys }

-- changes of the desk alone leave the keys as they are
pub lifted : (payloads : List (List ℕ)) (s t : DeskState) (keys : List KeyedJob) → ReplaysChanges MakesBytes s payloads t → ReplaysChanges MakesKeyed (keyed s keys) payloads (keyed t keys)
lifted [] s t keys r = ap (λ (d : DeskState). keyed d keys) r
lifted (p ∷ payloads) s t keys r = (keyed r.0 keys, alone r.1 refl, lifted payloads r.0 t keys r.2)

-- and are nothing else: each is one of the desk alone, as it leads from some desk to another
pub lowered : (payloads : List (List ℕ)) (s t : DeskState) (a b : KeyedState) → ReplaysChanges MakesBytes s payloads t → ReplaysChanges MakesKeyed a payloads b → ReplaysChanges MakesBytes a.desk payloads b.desk × (b.keys ≡ a.keys)
lowered [] s t a b there r = (ap (λ (x : KeyedState). x.desk) r, ap (λ (x : KeyedState). x.keys) r)
lowered (p ∷ payloads) s t a b there (mid, alone step keys, more) =
    let rest = lowered payloads there.0 t mid b there.2 more in
    ((mid.desk, step, rest.0), rest.1 ∙ keys)
lowered (p ∷ payloads) s t a b there (mid, by_key key inner is is_key step keys, more) = absurd (not_by_key there.1.0 _ (there.1.1 ∙ is))
lowered (p ∷ payloads) s t a b there (mid, key_kept job key is narrow is_key desk keys, more) = absurd (not_key_kept there.1.0 _ (there.1.1 ∙ is))

-- Without its keys, a history leads to the same desk.
pub without_keys : (changes : List (List ℕ)) (a b : KeyedState) → ReplaysChanges MakesKeyed a changes b → (rest : List (List ℕ)) × ArePlainOf changes rest × ReplaysChanges MakesBytes a.desk rest b.desk
without_keys [] a b r = ([], no_change, ap (λ (x : KeyedState). x.desk) r)
without_keys (c ∷ changes) a b (mid, alone step keys, more) =
    let tail = without_keys changes mid b more in (
      change_bytes step.0 ∷ tail.0,
      subst (λ (x : List ℕ). ArePlainOf (x ∷ changes) (change_bytes step.0 ∷ tail.0)) step.1 (one_plain step.0 changes tail.0 tail.1),
      (mid.desk, (step.0, refl, step.2), tail.2),
    )
without_keys (c ∷ changes) a b (mid, by_key key inner is is_key step keys, more) =
    let tail = without_keys changes mid b more in (
      change_bytes step.0 ∷ tail.0,
      subst (λ (x : List ℕ). ArePlainOf (x ∷ changes) (change_bytes step.0 ∷ tail.0)) (ap (by_key_bytes key) step.1 ∙ sym is) (one_by_key key step.0 changes tail.0 tail.1),
      (mid.desk, (step.0, refl, step.2), tail.2),
    )
without_keys (c ∷ changes) a b (mid, key_kept job key is narrow is_key desk keys, more) =
    let tail = without_keys changes mid b more in (
      tail.0,
      subst (λ (x : List ℕ). ArePlainOf (x ∷ changes) tail.0) (sym is) (one_kept job key changes tail.0 tail.1),
      subst (λ (d : DeskState). ReplaysChanges MakesBytes d tail.0 b.desk) desk tail.2,
    )
