-- The programs of a job that is traced are spelled, one after the other.
use Rattle.std.proofs.Common.{◌≡◌, ◌⊎◌, ℕ, ◌<◌, ◌≤◌, ◌+◌, inl, inr, get_or, List, [], ◌∷◌, ◌++◌, length, slice_get, sym, ◌∙◌, arith, ap, subst, Some, None}
use Rattle.std.proofs.lemmas.List.{length-append}
use Rattle.std.proofs.lemmas.Option.{slice_get_cases, slice_get_within}
use Rattle.machine_model.proofs.Places.{pushed}
use Rattle.machine_model.specs.Machine.{Program}
use Rattle.insn_codec.specs.declared.insn.Placed.{Placed}
use Rattle.flow_graph.specs.Program.{IsDecoded, code_of}
use Rattle.flow_graph.proofs.Decoded.{decoded_of}
use Rattle.helpers.specs.Table.{job_table}
use Rattle.verifier.specs.Checked.{Checked}
use Rattle.verifier.specs.Refusals.{IsAccepted}
use Rattle.job_core.specs.declared.admission.ProgramBytes.{ProgramBytes}
use Rattle.job_core.specs.Admission.{AreAccepted}
use Rattle.run_trace.specs.Spelled.{AreListed, IsSpelled}
use Rattle.telgovan_c.specs.JobTraces.{AreProgramsOf}

-- the first of the programs are spelled, so many
pub record AreProgramsTo (bytes : List ProgramBytes) (count : ℕ) (listings : List (List Placed)) (programs : List Program) : Type 0 where
  pub many : length programs ≡ count
  pub as_many : length listings ≡ count
  pub each : (n : ℕ) (b : ProgramBytes) (placed : List Placed) (p : Program) → slice_get bytes n ≡ Some b → slice_get listings n ≡ Some placed → slice_get programs n ≡ Some p
      → IsSpelled b.need b.code.items placed p

pub spelled_none : (bytes : List ProgramBytes) (listings : List (List Placed)) (programs : List Program) → listings ≡ [] → programs ≡ [] → AreProgramsTo bytes 0 listings programs
spelled_none bytes listings programs none nothing = record {
  many = ap length nothing;
  as_many = ap length none;
  each = λ n b placed p e f g. absurd (omega (arith, slice_get_within [] n p (subst (λ (ps : List Program). slice_get ps n ≡ Some p) nothing g)));
}

pub spelled_more : (bytes : List ProgramBytes) (count : ℕ) (listings : List (List Placed)) (programs : List Program) (b : ProgramBytes) (placed : List Placed) (p : Program) →
    AreProgramsTo bytes count listings programs → slice_get bytes count ≡ Some b → IsSpelled b.need b.code.items placed p →
    AreProgramsTo bytes (count + 1) (listings ++ placed ∷ []) (programs ++ p ∷ [])
spelled_more bytes count listings programs b placed p so_far is spelled = record {
  many = length-append programs (p ∷ []) ∙ ap (λ k. k + 1) so_far.many;
  as_many = length-append listings (placed ∷ []) ∙ ap (λ k. k + 1) so_far.as_many;
  each = λ n c l q e f g. by_place n c l q e (pushed listings n placed l f) (pushed programs n p q g);
} where
  by_place : (n : ℕ) (c : ProgramBytes) (l : List Placed) (q : Program) → slice_get bytes n ≡ Some c →
      (slice_get listings n ≡ Some l) ⊎ ((n ≡ length listings) × (l ≡ placed)) →
      (slice_get programs n ≡ Some q) ⊎ ((n ≡ length programs) × (q ≡ p)) → IsSpelled c.need c.code.items l q
  by_place n c l q e (inl before) (inl earlier) = so_far.each n c l q e before earlier
  by_place n c l q e (inl before) (inr (last, same)) = absurd (omega (arith, slice_get_within listings n l before, last, so_far.many, so_far.as_many))
  by_place n c l q e (inr (last, same)) (inl earlier) = absurd (omega (arith, slice_get_within programs n q earlier, last, so_far.many, so_far.as_many))
  by_place n c l q e (inr (last, same)) (inr (end, alike)) =
      let at : slice_get bytes n ≡ Some b = rw (last ∙ so_far.as_many) is in
      let same_b : b ≡ c = cc in
      subst (λ (x : ProgramBytes). IsSpelled x.need x.code.items l q) same_b
      (subst (λ (x : List Placed). IsSpelled b.need b.code.items x q) (sym same)
      (subst (λ (x : Program). IsSpelled b.need b.code.items placed x) (sym alike) spelled))

pub spelled_all : (bytes : List ProgramBytes) (count : ℕ) (listings : List (List Placed)) (programs : List Program) → AreProgramsTo bytes count listings programs →
    count ≡ length bytes → AreProgramsOf bytes listings programs
spelled_all bytes count listings programs so_far all = record { many = so_far.many ∙ all; as_many = so_far.as_many ∙ all; each = so_far.each }

-- each program of a job that is admitted is accepted
pub accepted_at : (bytes : List ProgramBytes) (accepted : List Checked) (n : ℕ) (b : ProgramBytes) → AreAccepted bytes accepted → slice_get bytes n ≡ Some b →
    (v : Checked) × IsAccepted b.need b.code.items job_table v
accepted_at bytes accepted n b are here = go ((slice_get_cases accepted n).1)
  where
    go : ((x : Checked) × (n < length accepted) × (slice_get accepted n ≡ Some x) × (get_or accepted n x ≡ x)) ⊎ ((length accepted ≤ n) × (slice_get accepted n ≡ None)) →
        (v : Checked) × IsAccepted b.need b.code.items job_table v
    go (inl (v, within, is_v, read)) = (v, are.each n b v here is_v)
    go (inr (past, none)) = absurd (omega (arith, past, are.count, slice_get_within bytes n b here))

-- programs that are spelled have their instructions one after the other
pub listed_of : (bytes : List ProgramBytes) (listings : List (List Placed)) (programs : List Program) → AreProgramsOf bytes listings programs → AreListed listings programs
listed_of bytes listings programs are = record {
  many = are.as_many ∙ sym are.many;
  each = λ n placed p e f. go n placed p e f ((slice_get_cases bytes n).1);
}
  where
    go : (n : ℕ) (placed : List Placed) (p : Program) → slice_get listings n ≡ Some placed → slice_get programs n ≡ Some p →
        ((b : ProgramBytes) × (n < length bytes) × (slice_get bytes n ≡ Some b) × (get_or bytes n b ≡ b)) ⊎ ((length bytes ≤ n) × (slice_get bytes n ≡ None)) →
        (p.code ≡ code_of placed) × IsDecoded placed
    go n placed p e f (inl (b, within, is_b, read)) =
        let spelled = are.each n b placed p is_b e f in
        (spelled.same_code, decoded_of _ _ spelled.spelled)
    go n placed p e f (inr (past, none)) = absurd (omega (arith, past, are.many, slice_get_within programs n p f))
