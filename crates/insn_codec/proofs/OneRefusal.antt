-- Bytes have one refusal at most, but for want of memory.
use Rattle.std.proofs.Common.{◌≡◌, ◌≢◌, ◌⊎◌, ℕ, ◌*◌, ◌<◌, List, [], ◌∷◌, ◌++◌, length, drop, refl, sym, ap, subst, ◌∙◌, append_assoc, arith, inl, inr}
use Rattle.std.specs.List.{AllByRecursion}
use Rattle.insn_codec.specs.declared.slot.Slot.{Slot}
use Rattle.insn_codec.specs.declared.insn.Insn.{Insn}
use Rattle.insn_codec.specs.declared.operation.Operation.{Operation}
use Rattle.insn_codec.specs.declared.operation.Operation.TheVariants as row
use Rattle.insn_codec.specs.declared.decoder.SlotFault.{SlotFault}
use Rattle.insn_codec.specs.declared.decoder.SlotFault.TheVariants as step
use Rattle.insn_codec.specs.declared.fault.CodecFault.{CodecFault}
use Rattle.insn_codec.specs.declared.fault.CodecFault.TheVariants as fault
use Rattle.insn_codec.specs.Layout.{slot_at}
use Rattle.insn_codec.specs.Table.{uses_of, IsRow, RegistersAreNamed, UnusedAreZero}
use Rattle.insn_codec.specs.Spelling.{spelling, spellings, IsInsn, IsAt, IsWhole, IsRefusal, HasUnused, IsHalfWide}
use Rattle.insn_codec.specs.Steps.{StepFault, fault_at}
use Rattle.insn_codec.proofs.OneSpelling.{one_row, one_spelling}
use Rattle.insn_codec.proofs.Accepted.{no_fault}

-- ---- one slot has one fault

both_named : (s : Slot) (a b : Operation) → IsRow a s → (RegistersAreNamed (uses_of a) s → ⊥) → IsRow b s → RegistersAreNamed (uses_of b) s → ⊥
both_named s a b p bad q named = bad (subst (λ (o : Operation). RegistersAreNamed (uses_of o) s) (one_row s b a q p) named)

unused_or_half : (s : Slot) (after : List ℕ) → HasUnused s after → IsHalfWide s after → ⊥
unused_or_half s after u h = elim u.3 [
  | inl z ↦ z (subst (λ (o : Operation). UnusedAreZero (uses_of o) s) (one_row s row.LoadWide u.0 h.0.is_row u.1) h.0.zero_rest)
  | inr w ↦ let n : length after ≡ 0 = ap length h.1 in let more : 0 < length after = w.1 in absurd (omega arith)
]

step_once : (t : List ℕ) (f g : SlotFault) → StepFault f t → StepFault g t → f ≡ g
step_once t step.UnknownOp step.UnknownOp u v = refl
step_once t step.UnknownOp step.BadRegister u v = absurd (u v.0 v.1)
step_once t step.UnknownOp step.UnusedField u v = absurd (u v.0 v.1)
step_once t step.UnknownOp step.HalfWide u v = absurd (u row.LoadWide v.0.is_row)
step_once t step.BadRegister step.UnknownOp u v = absurd (v u.0 u.1)
step_once t step.BadRegister step.BadRegister u v = refl
step_once t step.BadRegister step.UnusedField u v = absurd (both_named (slot_at t) u.0 v.0 u.1 u.2 v.1 v.2)
step_once t step.BadRegister step.HalfWide u v = absurd (both_named (slot_at t) u.0 row.LoadWide u.1 u.2 v.0.is_row v.0.named)
step_once t step.UnusedField step.UnknownOp u v = absurd (v u.0 u.1)
step_once t step.UnusedField step.BadRegister u v = absurd (both_named (slot_at t) v.0 u.0 v.1 v.2 u.1 u.2)
step_once t step.UnusedField step.UnusedField u v = refl
step_once t step.UnusedField step.HalfWide u v = absurd (unused_or_half (slot_at t) (drop 8 t) u v)
step_once t step.HalfWide step.UnknownOp u v = absurd (v row.LoadWide u.0.is_row)
step_once t step.HalfWide step.BadRegister u v = absurd (both_named (slot_at t) v.0 row.LoadWide v.1 v.2 u.0.is_row u.0.named)
step_once t step.HalfWide step.UnusedField u v = absurd (unused_or_half (slot_at t) (drop 8 t) v u)
step_once t step.HalfWide step.HalfWide u v = refl

-- ---- one slot is the lowest

-- what stands before a fault is spelled, so that two faults stand after the same instructions
same_place : (f g : SlotFault) (a b : List Insn) (r t : List ℕ) → AllByRecursion IsInsn a → AllByRecursion IsInsn b → StepFault f r → StepFault g t
    → spellings a ++ r ≡ spellings b ++ t → (a ≡ b) × (r ≡ t)
same_place f g [] [] r t p q u v e = (refl, e)
same_place f g [] (j ∷ b) r t p q u v e =
    absurd (no_fault f j (spellings b ++ t) q.0 (subst (λ (x : List ℕ). StepFault f x) (e ∙ append_assoc (spelling j) (spellings b) t) u))
same_place f g (i ∷ a) [] r t p q u v e =
    absurd (no_fault g i (spellings a ++ r) p.0 (subst (λ (x : List ℕ). StepFault g x) (sym e ∙ append_assoc (spelling i) (spellings a) r) v))
same_place f g (i ∷ a) (j ∷ b) r t p q u v e =
    let whole : spelling i ++ (spellings a ++ r) ≡ spelling j ++ (spellings b ++ t) =
    sym (append_assoc (spelling i) (spellings a) r) ∙ e ∙ append_assoc (spelling j) (spellings b) t in
    let one = one_spelling i j (spellings a ++ r) (spellings b ++ t) p.0 q.0 whole in
    let more = same_place f g a b r t p.1 q.1 u v one.1 in
    let head : i ≡ j = one.0 in
    let tail : a ≡ b = more.0 in
    (cc, more.1)

at_once : (bytes : List ℕ) (f g : SlotFault) (m n : ℕ) → IsAt m bytes (λ t. StepFault f t) → IsAt n bytes (λ t. StepFault g t) → fault_at f m ≡ fault_at g n
at_once bytes f g m n h k =
    let one = same_place f g h.0 k.0 h.1 k.1 h.2.fit k.2.fit h.3 k.3 (sym h.2.parts ∙ k.2.parts) in
    let long : length (spellings h.0) ≡ length (spellings k.0) = ap (λ (a : List Insn). length (spellings a)) one.0 in
    let left : 8 * m ≡ length (spellings h.0) = h.2.place in
    let right : 8 * n ≡ length (spellings k.0) = k.2.place in
    let same : m ≡ n = omega arith in
    let fault : f ≡ g = step_once k.1 f g (subst (λ (t : List ℕ). StepFault f t) one.1 h.3) k.3 in
    ap (λ (x : SlotFault). fault_at x m) fault ∙ ap (fault_at g) same

-- ---- a refusal is of the length, or of a slot

record IsOfSlot (bytes : List ℕ) (e : CodecFault) : Type 0 where
  kind : SlotFault
  at : ℕ
  is : e ≡ fault_at kind at
  whole : IsWhole bytes
  there : IsAt at bytes (λ t. StepFault kind t)

abbrev IsOfLength : CodecFault → Type 0
IsOfLength fault.Empty = Unit {0}
IsOfLength fault.Ragged = Unit {0}
IsOfLength fault.TooLong = Unit {0}
IsOfLength e = ⊥

sorted : (bytes : List ℕ) (e : CodecFault) → IsRefusal e bytes → e ≢ fault.NoMemory → IsOfSlot bytes e ⊎ (IsOfLength e × (IsWhole bytes → ⊥))
sorted bytes fault.Empty r m = inr (tt, λ w. let n : length bytes ≡ 0 = ap length r in let some = w.some in absurd (omega arith))
sorted bytes fault.Ragged r m = inr (tt, λ w. r w.even)
sorted bytes fault.TooLong r m = inr (tt, λ w. let short = w.short in let long = r.1 in absurd (omega arith))
sorted bytes (fault.UnknownOp n) r m = inl (record { kind = step.UnknownOp; at = n; is = refl; whole = r.0; there = r.1 })
sorted bytes (fault.BadRegister n) r m = inl (record { kind = step.BadRegister; at = n; is = refl; whole = r.0; there = r.1 })
sorted bytes (fault.UnusedField n) r m = inl (record { kind = step.UnusedField; at = n; is = refl; whole = r.0; there = r.1 })
sorted bytes (fault.HalfWide n) r m = inl (record { kind = step.HalfWide; at = n; is = refl; whole = r.0; there = r.1 })
sorted bytes fault.NoMemory r m = absurd (m refl)

lengths_once : (bytes : List ℕ) (e f : CodecFault) → IsOfLength e → IsOfLength f → IsRefusal e bytes → IsRefusal f bytes → e ≡ f
lengths_once bytes fault.Empty fault.Empty p q r s = refl
lengths_once bytes fault.Empty fault.Ragged p q r s = absurd (s (rw r refl))
lengths_once bytes fault.Empty fault.TooLong p q r s = let n : length bytes ≡ 0 = ap length r in let long = s.1 in absurd (omega arith)
lengths_once bytes fault.Ragged fault.Empty p q r s = absurd (r (rw s refl))
lengths_once bytes fault.Ragged fault.Ragged p q r s = refl
lengths_once bytes fault.Ragged fault.TooLong p q r s = absurd (r s.0)
lengths_once bytes fault.TooLong fault.Empty p q r s = let n : length bytes ≡ 0 = ap length s in let long = r.1 in absurd (omega arith)
lengths_once bytes fault.TooLong fault.Ragged p q r s = absurd (s r.0)
lengths_once bytes fault.TooLong fault.TooLong p q r s = refl
lengths_once bytes fault.Empty f p q r s = absurd q
lengths_once bytes fault.Ragged f p q r s = absurd q
lengths_once bytes fault.TooLong f p q r s = absurd q
lengths_once bytes e f p q r s = absurd p

pub one_refusal : (bytes : List ℕ) (e f : CodecFault) → IsRefusal e bytes → IsRefusal f bytes → e ≢ fault.NoMemory → f ≢ fault.NoMemory → e ≡ f
one_refusal bytes e f r s m n = elim (sorted bytes e r m) [
  | inl x ↦ elim (sorted bytes f s n) [
    | inl y ↦ x.is ∙ at_once bytes x.kind y.kind x.at y.at x.there y.there ∙ sym y.is
    | inr y ↦ absurd (y.1 x.whole)
  ]
  | inr x ↦ elim (sorted bytes f s n) [
    | inl y ↦ absurd (x.1 y.whole)
    | inr y ↦ lengths_once bytes e f x.0 y.0 r s
  ]
]
