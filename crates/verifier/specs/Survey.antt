-- Used by private contracts and proofs alone: what is surveyed, and what is found out.
use Rattle.std.specs.Prelude.{◌≡◌, ℕ, length, slice_index_or, Some}
use Rattle.insn_codec.specs.declared.insn.Insn.{Insn}
use Rattle.machine_model.specs.Edges.{Begins, insn_at}
use Rattle.predecoding.specs.declared.region.Region.{Region}
use Rattle.predecoding.specs.declared.region.Region.TheVariants.{Stack}
use Rattle.instruction_rules.specs.declared.state.AbsState.{AbsState}
use Rattle.verifier.specs.declared.states.Found.{Found}
use Rattle.verifier.specs.declared.states.Survey.{Survey}
use Rattle.verifier.specs.InStates.{Subject, Reached, in_state, in_states}
use Rattle.verifier.specs.Merges.{merge_count}
use Rattle.verifier.specs.Regions.{accessed}
use Rattle.verifier.specs.Verdict.{IsTable}

abbrev pub subject_of : Survey → Subject
subject_of survey = record {
  need = survey.need;
  helpers = survey.helpers.now;
  code = survey.graph.now.code;
}

-- the region is that of the access at the slot, if there is one
abbrev pub IsRegionThere : Subject → ℕ → Region → Type 0
IsRegionThere p slot region = (i : Insn) (state : AbsState) (there : Region)
    → insn_at p.code slot ≡ Some i → in_state p slot ≡ Reached state →
    accessed i state ≡ Some there → region ≡ there

-- the program is allowed, and these are its merge points, counted, and the regions of its accesses
pub record IsSurveyed (p : Subject) (found : Found) : Type 0 where
  pub table : IsTable p (in_states p)
  pub merges : found.merges ≡ merge_count p.code
  pub slots : length found.regions.items ≡ length p.code
  pub regions : (s : ℕ) → Begins p.code s
      → IsRegionThere p s (slice_index_or found.regions.items s Stack)
