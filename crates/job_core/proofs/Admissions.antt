-- Programs are accepted one after the other, or one is refused.
use Rattle.std.proofs.Common.{◌≡◌, ◌⊎◌, ℕ, ◌<◌, ◌≤◌, ◌+◌, inl, inr, rules, get_or, List, [], ◌∷◌, ◌++◌, length, slice_get, refl, sym, ◌∙◌, arith, ap, subst, Some, None}
use Rattle.std.proofs.lemmas.List.{length-append}
use Rattle.std.proofs.lemmas.Option.{slice_get_cases, slice_get_within}
use Rattle.machine_model.proofs.Places.{pushed}
use Rattle.helpers.specs.Table.{job_table}
use Rattle.verifier.specs.declared.refusals.Refusal.{Refusal}
use Rattle.verifier.specs.declared.refusals.Refusal.TheVariants.{NeedTooLarge, Codec, Flow, UnsetRead, OutOfStack, OutOfPart, BadKind, PointerRange, FramePointer, NoHelper, NoMemory}
use Rattle.verifier.specs.Checked.{Checked}
use Rattle.verifier.specs.Refusals.{RefusesProgram}
use Rattle.job_core.specs.declared.admission.ProgramBytes.{ProgramBytes}
use Rattle.job_core.specs.Admitted.{AreOwn}
use Rattle.job_core.proofs.Simulates.{some_within}
use Rattle.job_core.specs.Admission.{Accepts, IsRefusedProgram, AreAccepted, IsFirstRefused, IsProgramFault, fault_of_program}

-- the first of the programs are accepted, so many
pub record AreAcceptedTo (programs : List ProgramBytes) (count : ℕ) (accepted : List Checked) : Type 0 where
  pub many : length accepted ≡ count
  pub each : (n : ℕ) (p : ProgramBytes) (v : Checked) → slice_get programs n ≡ Some p → slice_get accepted n ≡ Some v → Accepts p v

pub accepted_none : (programs : List ProgramBytes) → AreAcceptedTo programs 0 []
accepted_none programs = record { many = refl; each = λ n p v e f. absurd (omega (arith, slice_get_within [] n v f)) }

pub accepted_more : (programs : List ProgramBytes) (count : ℕ) (accepted : List Checked) (p : ProgramBytes) (v : Checked) →
    AreAcceptedTo programs count accepted → slice_get programs count ≡ Some p → Accepts p v →
    AreAcceptedTo programs (count + 1) (accepted ++ v ∷ [])
accepted_more programs count accepted p v so_far is accepts = record {
  many = length-append accepted (v ∷ []) ∙ ap (λ k. k + 1) so_far.many;
  each = λ n q w e f. by_place n q w e (pushed accepted n v w f);
} where
  by_place : (n : ℕ) (q : ProgramBytes) (w : Checked) → slice_get programs n ≡ Some q →
      (slice_get accepted n ≡ Some w) ⊎ ((n ≡ length accepted) × (w ≡ v)) → Accepts q w
  by_place n q w e (inl before) = so_far.each n q w e before
  by_place n q w e (inr (last, same)) =
      let at : slice_get programs n ≡ Some p = rw (last ∙ so_far.many) is in
      let same_p : p ≡ q = cc in
      subst (λ (x : ProgramBytes). Accepts x w) same_p (subst (λ (x : Checked). Accepts p x) (sym same) accepts)

pub accepted_all : (programs : List ProgramBytes) (count : ℕ) (accepted : List Checked) → AreAcceptedTo programs count accepted →
    count ≡ length programs → AreAccepted programs accepted
accepted_all programs count accepted so_far all = record { count = so_far.many ∙ all; each = so_far.each }

first_refused : (programs : List ProgramBytes) (count : ℕ) (accepted : List Checked) (p : ProgramBytes) (refusal : Refusal) →
    AreAcceptedTo programs count accepted → slice_get programs count ≡ Some p → IsRefusedProgram p refusal →
    IsFirstRefused programs count refusal
first_refused programs count accepted p refusal so_far is refuses = record {
  refused = (p, is, refuses);
  earlier = λ n q lt e. by_cases n q lt e ((slice_get_cases accepted n).1);
} where
  by_cases : (n : ℕ) (q : ProgramBytes) → n < count → slice_get programs n ≡ Some q →
      ((x : Checked) × (n < length accepted) × (slice_get accepted n ≡ Some x) × (get_or accepted n x ≡ x))
      ⊎ ((length accepted ≤ n) × (slice_get accepted n ≡ None)) →
      (v : Checked) × Accepts q v
  by_cases n q lt e (inl (v, within, is_v, read)) = (v, so_far.each n q v e is_v)
  by_cases n q lt e (inr (past, none)) = absurd (omega (arith, past, lt, so_far.many))

pub first_fault : (programs : List ProgramBytes) (count : ℕ) (accepted : List Checked) (p : ProgramBytes) (refusal : Refusal) →
    AreAcceptedTo programs count accepted → slice_get programs count ≡ Some p → RefusesProgram p.need p.code.items job_table refusal →
    IsProgramFault programs (fault_of_program count refusal)
first_fault programs count accepted p NeedTooLarge so_far is refuses = first_refused programs count accepted p NeedTooLarge so_far is refuses
first_fault programs count accepted p (Codec fault) so_far is refuses = first_refused programs count accepted p (Codec fault) so_far is refuses
first_fault programs count accepted p (Flow fault) so_far is refuses = first_refused programs count accepted p (Flow fault) so_far is refuses
first_fault programs count accepted p (UnsetRead slot) so_far is refuses = first_refused programs count accepted p (UnsetRead slot) so_far is refuses
first_fault programs count accepted p (OutOfStack slot) so_far is refuses = first_refused programs count accepted p (OutOfStack slot) so_far is refuses
first_fault programs count accepted p (OutOfPart slot) so_far is refuses = first_refused programs count accepted p (OutOfPart slot) so_far is refuses
first_fault programs count accepted p (BadKind slot) so_far is refuses = first_refused programs count accepted p (BadKind slot) so_far is refuses
first_fault programs count accepted p (PointerRange slot) so_far is refuses = first_refused programs count accepted p (PointerRange slot) so_far is refuses
first_fault programs count accepted p (FramePointer slot) so_far is refuses = first_refused programs count accepted p (FramePointer slot) so_far is refuses
first_fault programs count accepted p (NoHelper slot) so_far is refuses = first_refused programs count accepted p (NoHelper slot) so_far is refuses
first_fault programs count accepted p NoMemory so_far is refuses = search rules

-- what is accepted was verified for a job's helpers
pub accepted_own : (programs : List ProgramBytes) (accepted : List Checked) → AreAccepted programs accepted → AreOwn accepted
accepted_own programs accepted are n p there =
    let within = slice_get_within accepted n p there in
    let bytes = some_within programs n (omega (arith, within, are.count)) in
    (are.each n bytes.0 p bytes.1 there).same_helpers
