-- A job has one verdict, for programs that are asked for the same, but for want of memory.
use Rattle.std.proofs.Common.{◌≡◌, ◌≢◌, ◌⊎◌, ◌≤◌, ◌<◌, ℕ, zero, suc, List, [], ◌∷◌, length, map, slice_get, Some, refl, sym, ap, subst, ◌∙◌, inl, inr, arith}
use Rattle.std.proofs.lemmas.Bool.{cases_lt}
use Rattle.std.proofs.lemmas.List.{length-map}
use Rattle.insn_codec.specs.declared.insn.Placed.{Placed}
use Rattle.insn_codec.specs.Spelling.{IsProgram}
use Rattle.machine_model.specs.Edges.{Code, Begins}
use Rattle.machine_model.specs.Paths.{IsCost}
use Rattle.flow_graph.specs.Program.{code_of}
use Rattle.helpers.specs.Table.{job_table}
use Rattle.verifier.specs.declared.refusals.Refusal.{Refusal}
use Rattle.verifier.specs.declared.refusals.Refusal.TheVariants as program
use Rattle.verifier.specs.Checked.{Checked, cost_at}
use Rattle.verifier.specs.Refusals.{IsAccepted, RefusesProgram}
use Rattle.verifier.proofs.OneVerdict.{one_program, one_refusal, nothing_refused}
use Rattle.job_core.specs.declared.admission.ProgramBytes.{ProgramBytes}
use Rattle.job_core.specs.declared.admission.AdmitFault.{AdmitFault}
use Rattle.job_core.specs.declared.admission.AdmitFault.TheVariants as admit
use Rattle.job_core.specs.Admitted.{AdmittedJob}
use Rattle.machine_model.specs.Limits.{max_credit, max_part}
use Rattle.job_core.specs.Admission.{Accepts, IsRefusedProgram, AreAccepted, IsWithinLimits, IsAdmittedFrom, IsFirstRefused, IsRoot, RefusesJob}
use Rattle.sessions.specs.Grammar.{ProgramText, program_asked}
use Rattle.server_state.proofs.AlikeReplies.{OneAdmission}

-- ---- one program

-- both are asked for the same
abbrev Same : ProgramBytes → ProgramBytes → Type 0
Same p q = program_asked p ≡ program_asked q

accepts_same : (p q : ProgramBytes) (v : Checked) → Same p q → Accepts p v → Accepts q v
accepts_same p q v same a =
    subst (λ (t : ProgramText). IsAccepted t.need t.code job_table v) same a

refuses_of : (p : ProgramBytes) (f : Refusal) → IsRefusedProgram p f → RefusesProgram p.need p.code.items job_table f × (f ≢ program.NoMemory)
refuses_of p program.NoMemory r = absurd r
refuses_of p program.NeedTooLarge r = (r, λ e. absurd (cc))
refuses_of p (program.Codec fault) r = (r, λ e. absurd (cc))
refuses_of p (program.Flow fault) r = (r, λ e. absurd (cc))
refuses_of p (program.UnsetRead slot) r = (r, λ e. absurd (cc))
refuses_of p (program.OutOfStack slot) r = (r, λ e. absurd (cc))
refuses_of p (program.OutOfPart slot) r = (r, λ e. absurd (cc))
refuses_of p (program.BadKind slot) r = (r, λ e. absurd (cc))
refuses_of p (program.PointerRange slot) r = (r, λ e. absurd (cc))
refuses_of p (program.FramePointer slot) r = (r, λ e. absurd (cc))
refuses_of p (program.NoHelper slot) r = (r, λ e. absurd (cc))

not_both : (p q : ProgramBytes) (v : Checked) (f : Refusal) → Same p q → Accepts p v → IsRefusedProgram q f → ⊥
not_both p q v f same a r =
    let refused = refuses_of q f r in
    refused.1 (nothing_refused q.need q.code.items job_table v f (accepts_same p q v same a) refused.0)

one_fault : (p q : ProgramBytes) (f g : Refusal) → Same p q → IsRefusedProgram p f → IsRefusedProgram q g → f ≡ g
one_fault p q f g same r s =
    let first = refuses_of p f r in
    let second = refuses_of q g s in
    one_refusal q.need q.code.items job_table f g (subst (λ (t : ProgramText). RefusesProgram t.need t.code job_table f) same first.0) second.0 first.1 second.1

-- its cost
begins_first : (placed : List Placed) (bytes : List ℕ) → IsProgram placed bytes → Begins (code_of placed) 0
begins_first [] bytes x =
    let none : length bytes ≡ 0 = ap length x.spelled in
    let some = x.whole.some in
    absurd (omega (arith, none, some))
begins_first (p ∷ placed) bytes x = (p.insn, refl)

one_cost : (code : Code) (slot a b : ℕ) → IsCost code slot a → IsCost code slot b → a ≡ b
one_cost code slot a b x y =
    let first = y.greatest x.attained.0 x.attained.1 in
    let second = x.greatest y.attained.0 y.attained.1 in
    let is = x.attained.2 in
    let also = y.attained.2 in
    omega (arith, first, second, is, also)

costs_same : (p q : ProgramBytes) (v w : Checked) → Same p q → Accepts p v → Accepts q w → (cost_at v 0 ≡ cost_at w 0) × (v.need ≡ w.need)
costs_same p q v w same a b = (
  one_cost w.code 0 (cost_at v 0) (cost_at w 0) (subst (λ (c : Code). IsCost c 0 (cost_at v 0)) codes (a'.costs.each 0 begins)) (b.costs.each 0 (subst (λ (c : Code). Begins c 0) codes begins)),
  a'.same_need ∙ sym b.same_need,
)
  where
    a' : Accepts q v
    a' = accepts_same p q v same a

    codes : v.code ≡ w.code
    codes = a'.decoded.2 ∙ ap code_of (one_program a'.decoded.0 b.decoded.0 q.code.items a'.decoded.1 b.decoded.1) ∙ sym b.decoded.2

    begins : Begins v.code 0
    begins = subst (λ (c : Code). Begins c 0) (sym a'.decoded.2) (begins_first a'.decoded.0 q.code.items a'.decoded.1)

-- ---- lists of programs

got_mapped : (ps qs : List ProgramBytes) → map program_asked ps ≡ map program_asked qs → (n : ℕ) (p q : ProgramBytes) → slice_get ps n ≡ Some p → slice_get qs n ≡ Some q → Same p q
got_mapped [] qs same n p q at there = cc
got_mapped (x ∷ ps) [] same n p q at there = cc
got_mapped (x ∷ ps) (y ∷ qs) same zero p q at there =
    let first : program_asked x ≡ program_asked y = cc in
    let left : x ≡ p = cc in
    let right : y ≡ q = cc in
    sym (ap program_asked left) ∙ first ∙ ap program_asked right
got_mapped (x ∷ ps) (y ∷ qs) same (suc n) p q at there =
    let rest : map program_asked ps ≡ map program_asked qs = cc in
    got_mapped ps qs rest n p q at there

get_in : {X : Type 0} (xs : List X) (i : ℕ) → i < length xs → (x : X) × (slice_get xs i ≡ Some x)
get_in [] i lt = absurd (omega (arith, lt))
get_in (x ∷ xs) zero lt = (x, refl)
get_in (x ∷ xs) (suc i) lt = get_in xs i (omega (arith, lt))

in_get : {X : Type 0} (xs : List X) (i : ℕ) (x : X) → slice_get xs i ≡ Some x → i < length xs
in_get [] i x at = cc
in_get (y ∷ xs) zero x at = omega arith
in_get (y ∷ xs) (suc i) x at = let later = in_get xs i x at in omega (arith, later)

module _ (ps qs : List ProgramBytes) (same : map program_asked ps ≡ map program_asked qs) where
  as_many : length ps ≡ length qs
  as_many = sym (length-map ps program_asked) ∙ ap length same ∙ length-map qs program_asked

  -- the first ones are accepted, and so are not refused
  none_refused : (accepted : List Checked) (i : ℕ) (f : Refusal) → AreAccepted ps accepted → IsFirstRefused qs i f → ⊥
  none_refused accepted i f all first =
      let here = in_get qs i first.refused.0 first.refused.1 in
      let many = as_many in
      let count = all.count in
      let p = get_in ps i (omega (arith, here, many)) in
      let v = get_in accepted i (omega (arith, here, many, count)) in
      not_both p.0 first.refused.0 v.0 f (got_mapped ps qs same i p.0 first.refused.0 p.1 first.refused.1) (all.each i p.0 v.0 p.1 v.1) first.refused.2

  -- of two that are refused first, the one isn't ahead of the other
  not_ahead : (i j : ℕ) (f g : Refusal) → i < j → IsFirstRefused ps i f → IsFirstRefused qs j g → ⊥
  not_ahead i j f g lt first second =
      let here = in_get ps i first.refused.0 first.refused.1 in
      let many = as_many in
      let q = get_in qs i (omega (arith, here, many)) in
      let v = second.earlier i q.0 lt q.1 in
      not_both q.0 first.refused.0 v.0 f (sym (got_mapped ps qs same i first.refused.0 q.0 first.refused.1 q.1)) v.1 first.refused.2

  roots_same : (v w : Checked) → IsRoot ps v → IsRoot qs w → 1 ≤ length ps → (cost_at v 0 ≡ cost_at w 0) × (v.need ≡ w.need)
  roots_same v w x y some =
      let many = as_many in
      let p = get_in ps 0 (omega (arith, some)) in
      let q = get_in qs 0 (omega (arith, some, many)) in
      costs_same p.0 q.0 v w (got_mapped ps qs same 0 p.0 q.0 p.1 q.1) (x.all.each 0 p.0 v p.1 x.first) (y.all.each 0 q.0 w q.1 y.first)

  -- ---- what is taken isn't refused

  taken : (credit : ℕ) (buffer : List ℕ) (job : AdmittedJob) (why : AdmitFault) → IsAdmittedFrom ps credit buffer job → RefusesJob qs credit buffer why → why ≡ admit.NoMemory
  taken credit buffer job admit.NoPrograms t r = let many = as_many in let some = t.limits.some in absurd (omega (arith, many, some, r))
  taken credit buffer job admit.TooManyPrograms t r = let many = as_many in let few = t.limits.few in absurd (omega (arith, many, few, r))
  taken credit buffer job admit.TooLarge t r = elim r.2 [
    | inl over ↦ let limit = t.limits.limit in absurd (omega (arith, over, limit))
    | inr over ↦ let small = t.limits.small in absurd (omega (arith, over, small))
  ]
  taken credit buffer job (admit.Program index refusal) t r = absurd (none_refused job.programs index refusal t.accepted r.1)
  taken credit buffer job admit.CreditLow t r =
      let same_root = roots_same t.root r.1 (record { accepted = job.programs; all = t.accepted; first = t.is_root }) r.2 t.limits.some in
      let costs = same_root.0 in
      let low = r.3 in
      let cost = t.cost in
      absurd (omega (arith, costs, low, cost))
  taken credit buffer job admit.BufferShort t r =
      let same_root = roots_same t.root r.1 (record { accepted = job.programs; all = t.accepted; first = t.is_root }) r.2 t.limits.some in
      let needs = same_root.1 in
      let short = r.4 in
      let need = t.need in
      absurd (omega (arith, needs, short, need))
  taken credit buffer job admit.NoMemory t r = refl

-- ---- the kinds of refusals

-- what is within its limits: the first program that is refused, or what its root asks for
abbrev RootRefuses : List ProgramBytes → ℕ → List ℕ → AdmitFault → Type 0
RootRefuses ps credit buffer why =
    ((root : Checked) × (why ≡ admit.CreditLow) × IsRoot ps root × (credit < cost_at root 0))
    ⊎ ((root : Checked) × (why ≡ admit.BufferShort) × IsRoot ps root × (cost_at root 0 ≤ credit) × (length buffer < root.need))

abbrev WithinRefuses : List ProgramBytes → ℕ → List ℕ → AdmitFault → Type 0
WithinRefuses ps credit buffer why =
    ((index : ℕ) × (refusal : Refusal) × (why ≡ admit.Program index refusal) × IsFirstRefused ps index refusal)
    ⊎ RootRefuses ps credit buffer why

abbrev SizeRefuses : List ProgramBytes → ℕ → List ℕ → AdmitFault → Type 0
SizeRefuses ps credit buffer why =
    ((why ≡ admit.NoPrograms) × (length ps ≡ 0)) ⊎ ((why ≡ admit.TooManyPrograms) × (16 < length ps))
    ⊎ ((why ≡ admit.TooLarge) × (1 ≤ length ps) × (length ps ≤ 16) × ((max_credit < credit) ⊎ (max_part < length buffer)))

kind_of : (ps : List ProgramBytes) (credit : ℕ) (buffer : List ℕ) (why : AdmitFault) → RefusesJob ps credit buffer why → why ≢ admit.NoMemory
    → SizeRefuses ps credit buffer why ⊎ (IsWithinLimits ps credit buffer × WithinRefuses ps credit buffer why)
kind_of ps credit buffer admit.NoPrograms r apart = inl (inl (refl, r))
kind_of ps credit buffer admit.TooManyPrograms r apart = inl (inr (inl (refl, r)))
kind_of ps credit buffer admit.TooLarge r apart = inl (inr (inr (refl, r.0, r.1, r.2)))
kind_of ps credit buffer (admit.Program index refusal) r apart = inr (r.0, inl (index, refusal, refl, r.1))
kind_of ps credit buffer admit.CreditLow r apart = inr (r.0, inr (inl (r.1, refl, r.2, r.3)))
kind_of ps credit buffer admit.BufferShort r apart = inr (r.0, inr (inr (r.1, refl, r.2, r.3, r.4)))
kind_of ps credit buffer admit.NoMemory r apart = absurd (apart refl)

module _ (ps qs : List ProgramBytes) (same : map program_asked ps ≡ map program_asked qs) (credit : ℕ) (buffer : List ℕ) (why other : AdmitFault) where
  sizes : SizeRefuses ps credit buffer why → SizeRefuses qs credit buffer other → why ≡ other
  sizes (inl x) (inl y) = x.0 ∙ sym y.0
  sizes (inl x) (inr (inl y)) = let many = as_many ps qs same in let none = x.1 in let over = y.1 in absurd (omega (arith, many, none, over))
  sizes (inl x) (inr (inr y)) = let many = as_many ps qs same in let none = x.1 in let some = y.1 in absurd (omega (arith, many, none, some))
  sizes (inr (inl x)) (inl y) = let many = as_many ps qs same in let over = x.1 in let none = y.1 in absurd (omega (arith, many, none, over))
  sizes (inr (inl x)) (inr (inl y)) = x.0 ∙ sym y.0
  sizes (inr (inl x)) (inr (inr y)) = let many = as_many ps qs same in let over = x.1 in let few = y.2 in absurd (omega (arith, many, few, over))
  sizes (inr (inr x)) (inl y) = let many = as_many ps qs same in let none = y.1 in let some = x.1 in absurd (omega (arith, many, none, some))
  sizes (inr (inr x)) (inr (inl y)) = let many = as_many ps qs same in let over = y.1 in let few = x.2 in absurd (omega (arith, many, few, over))
  sizes (inr (inr x)) (inr (inr y)) = x.0 ∙ sym y.0

  roots : 1 ≤ length ps → RootRefuses ps credit buffer why → RootRefuses qs credit buffer other → why ≡ other
  roots some (inl x) (inl y) = x.1 ∙ sym y.1
  roots some (inl x) (inr y) =
      let costs = (roots_same ps qs same x.0 y.0 x.2 y.2 some).0 in
      let low = x.3 in
      let cost = y.3 in
      absurd (omega (arith, costs, low, cost))
  roots some (inr x) (inl y) =
      let costs = (roots_same ps qs same x.0 y.0 x.2 y.2 some).0 in
      let low = y.3 in
      let cost = x.3 in
      absurd (omega (arith, costs, low, cost))
  roots some (inr x) (inr y) = x.1 ∙ sym y.1

-- within its limits one isn't refused for its size
not_size : (ps qs : List ProgramBytes) (credit : ℕ) (buffer : List ℕ) (why : AdmitFault) → length ps ≡ length qs → SizeRefuses ps credit buffer why → IsWithinLimits qs credit buffer → ⊥
not_size ps qs credit buffer why many (inl x) l = let none = x.1 in let some = l.some in omega (arith, many, none, some)
not_size ps qs credit buffer why many (inr (inl x)) l = let over = x.1 in let few = l.few in omega (arith, many, over, few)
not_size ps qs credit buffer why many (inr (inr x)) l = elim x.3 [
  | inl over ↦ let limit = l.limit in omega (arith, over, limit)
  | inr over ↦ let small = l.small in omega (arith, over, small)
]

-- where one is refused for a program, the other one isn't refused for its root
accepted_in : (ps : List ProgramBytes) (credit : ℕ) (buffer : List ℕ) (why : AdmitFault) → RootRefuses ps credit buffer why → (accepted : List Checked) × AreAccepted ps accepted
accepted_in ps credit buffer why (inl x) = (x.2.accepted, x.2.all)
accepted_in ps credit buffer why (inr x) = (x.2.accepted, x.2.all)

one_program_fault : (ps qs : List ProgramBytes) → map program_asked ps ≡ map program_asked qs → (i j : ℕ) (f g : Refusal) → IsFirstRefused ps i f → IsFirstRefused qs j g → admit.Program i f ≡ admit.Program j g
one_program_fault ps qs same i j f g first second = by_place (cases_lt i j) (cases_lt j i)
  where
    by_place : (i < j) ⊎ (j ≤ i) → (j < i) ⊎ (i ≤ j) → admit.Program i f ≡ admit.Program j g
    by_place (inl lt) other = absurd (not_ahead ps qs same i j f g lt first second)
    by_place (inr le) (inl lt) = absurd (not_ahead qs ps (sym same) j i g f lt second first)
    by_place (inr le) (inr ge) =
        let place : i ≡ j = omega (arith, le, ge) in
        let there : slice_get qs i ≡ Some second.refused.0 = ap (slice_get qs) place ∙ second.refused.1 in
        let faults = one_fault first.refused.0 second.refused.0 f g (got_mapped ps qs same i first.refused.0 second.refused.0 first.refused.1 there) first.refused.2 second.refused.2 in
        λ k. admit.Program (place k) (faults k)

refused : (ps qs : List ProgramBytes) (credit : ℕ) (buffer : List ℕ) (why other : AdmitFault) → map program_asked ps ≡ map program_asked qs
    → RefusesJob ps credit buffer why → RefusesJob qs credit buffer other → why ≢ admit.NoMemory → other ≢ admit.NoMemory → why ≡ other
refused ps qs credit buffer why other same r s apart too = by_kind (kind_of ps credit buffer why r apart) (kind_of qs credit buffer other s too)
  where
    within : 1 ≤ length ps → WithinRefuses ps credit buffer why → WithinRefuses qs credit buffer other → why ≡ other
    within some (inl x) (inl y) = x.2 ∙ one_program_fault ps qs same x.0 y.0 x.1 y.1 x.3 y.3 ∙ sym y.2
    within some (inl x) (inr y) = let all = accepted_in qs credit buffer other y in absurd (none_refused qs ps (sym same) all.0 x.0 x.1 all.1 x.3)
    within some (inr x) (inl y) = let all = accepted_in ps credit buffer why x in absurd (none_refused ps qs same all.0 y.0 y.1 all.1 y.3)
    within some (inr x) (inr y) = roots ps qs same credit buffer why other some x y

    by_kind : SizeRefuses ps credit buffer why ⊎ (IsWithinLimits ps credit buffer × WithinRefuses ps credit buffer why) → SizeRefuses qs credit buffer other ⊎ (IsWithinLimits qs credit buffer × WithinRefuses qs credit buffer other)
        → why ≡ other
    by_kind (inl x) (inl y) = sizes ps qs same credit buffer why other x y
    by_kind (inl x) (inr y) = absurd (not_size ps qs credit buffer why (as_many ps qs same) x y.0)
    by_kind (inr x) (inl y) = absurd (not_size qs ps credit buffer other (sym (as_many ps qs same)) y x.0)
    by_kind (inr x) (inr y) = within x.0.some x.1 y.1

pub one_admission : OneAdmission
one_admission = record {
  taken = λ ps qs credit buffer job why same t r. taken ps qs same credit buffer job why t r;
  refused = refused;
}
