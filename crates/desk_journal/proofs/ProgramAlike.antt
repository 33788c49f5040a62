-- Programs of the same bytes are alike once they are accepted.
use Rattle.std.proofs.Common.{◌≡◌, ◌<◌, ◌^◌, ◌∙◌, ℕ, List, take, sym, ap, subst, arith}
use Rattle.std.proofs.lemmas.Nat.{from_le_bytes-to_le_bytes_4}
use Rattle.std.specs.Int.{w32, to_le_bytes, from_le_bytes}
use Rattle.flow_graph.specs.Program.{code_of}
use Rattle.insn_codec.specs.Spelling.{IsProgram}
use Rattle.job_core.specs.Admission.{Accepts}
use Rattle.job_core.specs.declared.admission.ProgramBytes.{ProgramBytes}
use Rattle.verifier.specs.Checked.{Checked}
use Rattle.verifier.proofs.OneVerdict.{one_program}
use Rattle.desk_journal.specs.AlikeDesks.{AreProgramsAlike}

-- the same need, as its bytes tell, and the same code
abbrev pub AreSamePrograms : ProgramBytes → ProgramBytes → Type 0
AreSamePrograms p q = (to_le_bytes w32 p.need ≡ to_le_bytes w32 q.need) × (p.code.items ≡ q.code.items)

same_need : (m n : ℕ) → m < 2 ^ 32 → n < 2 ^ 32 → to_le_bytes w32 m ≡ to_le_bytes w32 n → m ≡ n
same_need m n small_m small_n same = sym (from_le_bytes-to_le_bytes_4 m small_m) ∙ (ap (from_le_bytes w32) same ∙ from_le_bytes-to_le_bytes_4 n small_n)

pub program_alike : (p q : ProgramBytes) (v w : Checked) → AreSamePrograms p q → Accepts p v → Accepts q w → AreProgramsAlike v w
program_alike p q v w same a b = record {
  need = let first = a.small in let second = b.small in a.same_need ∙ (same_need p.need q.need (omega (arith, first)) (omega (arith, second)) same.0 ∙ sym b.same_need);
  helpers = a.same_helpers ∙ sym b.same_helpers;
  code =
      let spelled = subst (λ (bytes : List ℕ). IsProgram a.decoded.0 bytes) same.1 a.decoded.1 in
      a.decoded.2 ∙ (ap code_of (one_program a.decoded.0 b.decoded.0 q.code.items spelled b.decoded.1) ∙ sym b.decoded.2);
}
