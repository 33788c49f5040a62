use Rattle.std.proofs.Common.{ℕ, ◌-◌, map}
use Rattle.explain.specs.Lines.{numbered_text}
use Rattle.reference.specs.Records.{FarWithin, program_of, state_of}
use Rattle.run_trace.specs.Following.{ReachesEnd}
use Rattle.run_trace.specs.Traces.{LeadBy, unanswered}
use Rattle.run_trace.proofs.tracing.follow.Given as goal

abbrev pub invariant-run : goal.invariant-run
invariant-run l = record {
  leads : LeadBy (program_of l.program) l.listing.placed.now (map numbered_text l.listing.lines.now) (state_of l.fn.start) l.steps.items (state_of l.state);
  ends : ReachesEnd (program_of l.program) (state_of l.state);
  far : (n : ℕ) → FarWithin (program_of l.program) unanswered n (state_of l.state) → (m : ℕ) × FarWithin (program_of l.program) unanswered m (state_of l.fn.start);
}

abbrev pub decreases-run : goal.decreases-run
decreases-run l = l.state.held - l.state.used
