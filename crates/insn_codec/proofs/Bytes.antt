-- A slot's bytes and its fields; a program's bytes and its instructions.
use Rattle.std.proofs.Common.{◌≡◌, ◌≢◌, ℕ, ◌+◌, ◌*◌, ◌%◌, ◌<◌, ◌≤◌, List, [], ◌∷◌, ◌++◌, length, get_or, take, drop, map, refl, sym, ap, subst, ◌∙◌, append_assoc, length-append, arith, inr}
use Rattle.std.specs.List.{flat_map, AllByRecursion}
use Rattle.std.proofs.lemmas.List.{length-drop, get_or-drop, map-append, drop-drop, flat_map_more, take-append-drop}
use Rattle.std.proofs.lemmas.List.Concat.{flat_map-append}
use Rattle.insn_codec.specs.declared.slot.Slot.{Slot}
use Rattle.insn_codec.specs.declared.insn.Insn.{Insn}
use Rattle.insn_codec.specs.declared.insn.Placed.{Placed}
use Rattle.insn_codec.specs.declared.operation.Operation.{Operation}
use Rattle.insn_codec.specs.declared.operation.Operation.TheVariants as row
use Rattle.insn_codec.specs.Layout.{slot_bytes, slot_at}
use Rattle.insn_codec.specs.Spelling.{IsInsn, IsClean, IsWhole, first_slot, other_slots, half, slots_of, spelling, spellings, placed_from}
use Rattle.insn_codec.specs.declared.decoder.SlotFault.{SlotFault}
use Rattle.insn_codec.specs.declared.decoder.SlotFault.TheVariants.{UnknownOp, BadRegister, UnusedField, HalfWide}
use Rattle.insn_codec.specs.Steps.{BeginsWith, HalfFault, StepFault, high_slots}

abbrev pub IsBytes : List ℕ → Type 0
IsBytes bytes = (i : ℕ) → get_or bytes i 0 < 256

abbrev pub IsBytes-drop : (n : ℕ) (bytes : List ℕ) → IsBytes bytes → IsBytes (drop n bytes)
IsBytes-drop n bytes h i = rw get_or-drop (h (n + i))

cons8 : (a b c d e f g h a' b' c' d' e' f' g' h' : ℕ) (rest : List ℕ) → a ≡ a' → b ≡ b' → c ≡ c' → d ≡ d' → e ≡ e' → f ≡ f' → g ≡ g' → h ≡ h'
    → a ∷ b ∷ c ∷ d ∷ e ∷ f ∷ g ∷ h ∷ rest ≡ a' ∷ b' ∷ c' ∷ d' ∷ e' ∷ f' ∷ g' ∷ h' ∷ rest
cons8 a b c d e f g h a' b' c' d' e' f' g' h' rest p1 p2 p3 p4 p5 p6 p7 p8 = cc

-- the fields of eight bytes spell these bytes
pub bytes_again : (bytes : List ℕ) → IsBytes bytes → 8 ≤ length bytes → bytes ≡ slot_bytes (slot_at bytes) ++ drop 8 bytes
bytes_again [] fits long = absurd (omega arith)
bytes_again (a ∷ []) fits long = absurd (omega arith)
bytes_again (a ∷ b ∷ []) fits long = absurd (omega arith)
bytes_again (a ∷ b ∷ c ∷ []) fits long = absurd (omega arith)
bytes_again (a ∷ b ∷ c ∷ d ∷ []) fits long = absurd (omega arith)
bytes_again (a ∷ b ∷ c ∷ d ∷ e ∷ []) fits long = absurd (omega arith)
bytes_again (a ∷ b ∷ c ∷ d ∷ e ∷ f ∷ []) fits long = absurd (omega arith)
bytes_again (a ∷ b ∷ c ∷ d ∷ e ∷ f ∷ g ∷ []) fits long = absurd (omega arith)
bytes_again (a ∷ b ∷ c ∷ d ∷ e ∷ f ∷ g ∷ h ∷ rest) fits long =
    let hc : c < 256 = fits 2 in
    let hd : d < 256 = fits 3 in
    let he : e < 256 = fits 4 in
    let hf : f < 256 = fits 5 in
    let hg : g < 256 = fits 6 in
    let hh : h < 256 = fits 7 in
    cons8 _ _ _ _ _ _ _ _ _ _ _ _ _ _ _ _ rest refl (omega arith) (omega arith) (omega arith) (omega arith) (omega arith) (omega arith) (omega arith)

begins_from : (insn : Insn) (rest : List ℕ) (slots : List Slot) → IsInsn insn → slots_of insn ≡ slots
    → (8 * length slots ≤ length rest) × (rest ≡ flat_map slot_bytes slots ++ drop (8 * length slots) rest) → BeginsWith insn rest
begins_from insn rest slots fit e h = let both = subst (λ (x : List Slot). (8 * length x ≤ length rest) × (rest ≡ flat_map slot_bytes x ++ drop (8 * length x) rest)) (sym e) h in (fit, both.0, both.1)

pub narrow_begins : (insn : Insn) (rest : List ℕ) → IsInsn insn → first_slot insn ≡ slot_at rest → other_slots insn ≡ [] → IsBytes rest → 8 ≤ length rest → BeginsWith insn rest
narrow_begins insn rest fit first others fits long =
    let e : slots_of insn ≡ slot_at rest ∷ [] = cc in
    begins_from insn rest (slot_at rest ∷ []) fit e (long, bytes_again rest fits long)

pub wide_begins : (insn : Insn) (rest : List ℕ) (high : ℕ) → IsInsn insn → first_slot insn ≡ slot_at rest → other_slots insn ≡ half high ∷ [] → IsBytes rest
    → 8 ≤ length rest → 8 ≤ length (drop 8 rest) → slot_at (drop 8 rest) ≡ half high → BeginsWith insn rest
wide_begins insn rest high fit first others fits long more second =
    let e : slots_of insn ≡ slot_at rest ∷ slot_at (drop 8 rest) ∷ [] = cc in
    let one = bytes_again rest fits long in
    let two = bytes_again (drop 8 rest) (IsBytes-drop 8 rest fits) more in
    begins_from insn rest (slot_at rest ∷ slot_at (drop 8 rest) ∷ []) fit e
    (omega (arith, length-drop 8 rest), one ∙ ap (λ (x : List ℕ). slot_bytes (slot_at rest) ++ x) (two ∙ ap (λ (x : List ℕ). slot_bytes (slot_at (drop 8 rest)) ++ x) (drop_twice rest)))
  where
    drop_twice : (xs : List ℕ) → drop 8 (drop 8 xs) ≡ drop 16 xs
    drop_twice xs = drop-drop 8 8 xs

pub wide_found : (insn : Insn) (rest after : List ℕ) (op : Operation) (high high' : ℕ) → IsInsn insn → first_slot insn ≡ slot_at rest → other_slots insn ≡ high_slots op high → op ≡ row.LoadWide → high ≡ high'
    → after ≡ drop 8 rest → IsBytes rest → 8 ≤ length rest → (8 ≤ length after) × (slot_at after ≡ half high') → BeginsWith insn rest
wide_found insn rest after op high high' fit first others wide same after_is fits long second =
    let others' : other_slots insn ≡ half high' ∷ [] = others ∙ ap (λ (x : Operation). high_slots x high) wide ∙ ap (λ (x : ℕ). half x ∷ []) same in
    let second' = subst (λ (x : List ℕ). (8 ≤ length x) × (slot_at x ≡ half high')) after_is second in
    wide_begins insn rest high' fit first others' fits long second'.0 second'.1

pub no_high : (op : Operation) (high : ℕ) → (op ≡ row.LoadWide → ⊥) → high_slots op high ≡ []
no_high row.LoadWide high h = absurd (h refl)
no_high op high h = refl

-- a fault behind a wide first slot is a fault at that slot
pub half_fault : (e : SlotFault) (rest after : List ℕ) (op : Operation) (s : Slot) → s ≡ slot_at rest → after ≡ drop 8 rest → op ≡ row.LoadWide → IsClean op s → HalfFault e after → StepFault e rest
half_fault UnknownOp rest after op s si ai oi clean h = absurd h
half_fault BadRegister rest after op s si ai oi clean h = absurd h
half_fault UnusedField rest after op s si ai oi clean h =
    let clean' : IsClean op (slot_at rest) = subst (λ (x : Slot). IsClean op x) si clean in
    let h' : (0 < length (drop 8 rest)) × ((imm : ℕ) → slot_at (drop 8 rest) ≢ half imm) = subst (λ (x : List ℕ). (0 < length x) × ((imm : ℕ) → slot_at x ≢ half imm)) ai h in
    (op, clean'.is_row, clean'.named, inr (oi, h'.0, h'.1))
half_fault HalfWide rest after op s si ai oi clean h =
    (subst (λ (x : Operation). IsClean x (slot_at rest)) oi (subst (λ (x : Slot). IsClean op x) si clean), sym ai ∙ h)

-- ---- a program grows by an instruction

length-slots : (slots : List Slot) → length (flat_map slot_bytes slots) ≡ 8 * length slots
length-slots [] = refl
length-slots (s ∷ slots) = omega (arith, length-slots slots)

pub length-spelling : (insn : Insn) → length (spelling insn) ≡ 8 * length (slots_of insn)
length-spelling insn = length-slots (slots_of insn)

pub spellings-push : (front : List Insn) (insn : Insn) → spellings (front ++ insn ∷ []) ≡ spellings front ++ spelling insn
spellings-push front insn = sym (flat_map_more spelling [] front insn)

pub length-spellings : (insns : List Insn) → length (spellings insns) % 8 ≡ 0
length-spellings [] = refl
length-spellings (insn ∷ insns) =
    let one = length-spelling insn in
    let more = length-spellings insns in
    let both : length (spellings (insn ∷ insns)) ≡ length (spelling insn) + length (spellings insns) = length-append (spelling insn) (spellings insns) in
    omega arith

pub some_spelled : (insns : List Insn) → 0 < length insns → 0 < length (spellings insns)
some_spelled [] h = absurd (omega arith)
some_spelled (insn ∷ insns) h =
    let both : length (spellings (insn ∷ insns)) ≡ length (spelling insn) + length (spellings insns) = length-append (spelling insn) (spellings insns) in
    let one = length-spelling insn in
    omega arith

pub spelled_front : (insns : List Insn) (i : ℕ) → length (spellings (take i insns)) ≤ length (spellings insns)
spelled_front insns i =
    let cut : spellings insns ≡ spellings (take i insns) ++ spellings (drop i insns) = ap spellings (sym (take-append-drop i insns)) ∙ flat_map-append spelling (take i insns) (drop i insns) in
    omega (arith, ap length cut, length-append (spellings (take i insns)) (spellings (drop i insns)))

-- a program of so few slots may be written
pub whole_of : (insns : List Insn) → 0 < length insns → (32768 < length (spellings insns) → ⊥) → IsWhole (spellings insns)
whole_of insns some short = record { some = some_spelled insns some; even = length-spellings insns; short = omega (arith, short) }

-- the length of the front, with one instruction more
pub counted_more : (insns front : List Insn) (insn : Insn) → front ≡ insns ++ insn ∷ [] → length (spellings front) ≡ length (spellings insns) + 8 * length (slots_of insn)
counted_more insns front insn e =
    let text : spellings front ≡ spellings insns ++ spelling insn = ap spellings e ∙ spellings-push insns insn in
    omega (arith, ap length text, length-append (spellings insns) (spelling insn), length-spelling insn)

abbrev pub insns_of : List Placed → List Insn
insns_of placed = map (λ p. p.insn) placed

placed_push : (n k : ℕ) (front : List Insn) (insn : Insn) → 8 * k ≡ 8 * n + length (spellings front)
    → placed_from n (front ++ insn ∷ []) ≡ placed_from n front ++ record { slot = k; insn = insn } ∷ []
placed_push n k [] insn e =
    let same : n ≡ k = omega arith in
    ap (λ (x : ℕ). (let p : Placed = record { slot = x; insn = insn } in p) ∷ []) same
placed_push n k (i ∷ front) insn e =
    let one = length-spelling i in
    let both : length (spellings (i ∷ front)) ≡ length (spelling i) + length (spellings front) = length-append (spelling i) (spellings front) in
    ap (λ (x : List Placed). record { slot = n; insn = i } ∷ x) (placed_push (n + length (slots_of i)) k front insn (omega arith))

fit_push : (front : List Insn) (insn : Insn) → AllByRecursion IsInsn front → IsInsn insn → AllByRecursion IsInsn (front ++ insn ∷ [])
fit_push [] insn h k = (k, tt)
fit_push (i ∷ front) insn h k = (h.0, fit_push front insn h.1 k)

-- a turn of the loop of decode
pub turn : (bytes rest rest' : List ℕ) (placed placed' : List Placed) (slot n : ℕ) (insn : Insn)
    → bytes ≡ spellings (insns_of placed) ++ rest → 8 * slot ≡ length (spellings (insns_of placed)) → placed ≡ placed_from 0 (insns_of placed) → length rest % 8 ≡ 0
    → AllByRecursion IsInsn (insns_of placed) → BeginsWith insn rest → n ≡ length (slots_of insn) → placed' ≡ placed ++ record { slot = slot; insn = insn } ∷ [] → rest' ≡ drop (8 * n) rest
    → (bytes ≡ spellings (insns_of placed') ++ rest') × (8 * (slot + n) ≡ length (spellings (insns_of placed'))) × (placed' ≡ placed_from 0 (insns_of placed')) × (length rest' % 8 ≡ 0) × AllByRecursion IsInsn (insns_of placed')
turn bytes rest rest' placed placed' slot n insn parts place slots even fit begins count items after =
    let insns : insns_of placed' ≡ insns_of placed ++ insn ∷ [] = ap insns_of items ∙ map-append (λ (p : Placed). p.insn) placed (record { slot = slot; insn = insn } ∷ []) in
    let text : spellings (insns_of placed') ≡ spellings (insns_of placed) ++ spelling insn = ap spellings insns ∙ spellings-push (insns_of placed) insn in
    let one = length-spelling insn in
    let left : rest' ≡ drop (8 * length (slots_of insn)) rest = after ∙ ap (λ (x : ℕ). drop (8 * x) rest) count in
    let rest_is : rest ≡ spelling insn ++ rest' = begins.2 ∙ ap (λ (x : List ℕ). spelling insn ++ x) (sym left) in
    let long : length rest ≡ length (spelling insn) + length rest' = ap length rest_is ∙ length-append (spelling insn) rest' in (
      parts ∙ ap (λ (x : List ℕ). spellings (insns_of placed) ++ x) rest_is ∙ sym (append_assoc (spellings (insns_of placed)) (spelling insn) rest') ∙ ap (λ (x : List ℕ). x ++ rest') (sym text),
      omega (arith, ap length text, length-append (spellings (insns_of placed)) (spelling insn)),
      items ∙ ap (λ (x : List Placed). x ++ record { slot = slot; insn = insn } ∷ []) slots ∙ sym (placed_push 0 slot (insns_of placed) insn (omega arith)) ∙ ap (placed_from 0) (sym insns),
      omega arith,
      subst (AllByRecursion IsInsn) (sym insns) (fit_push (insns_of placed) insn fit begins.0),
    )
