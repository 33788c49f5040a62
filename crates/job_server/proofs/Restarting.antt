-- What a server with a journal begins with.
use Rattle.std.proofs.Common.{◌≡◌, ℕ, false, List, [], Result, refl, sym, ap, ◌∙◌, subst}
use Rattle.accounts.specs.declared.keep_limits.KeepLimits.{KeepLimits}
use Rattle.accounts.specs.Ledgers.{Ledger}
use Rattle.job_core.specs.Admitted.{AdmittedJob}
use Rattle.desk_journal.specs.DeskSteps.{DeskState}
use Rattle.desk_journal.specs.declared.journaled_desk.OpenJob.{OpenJob}
use Rattle.desk_recorder.specs.Recording.{IsRecorded}
use Rattle.desk_recorder.specs.Restarts.{StartsEach}
use Rattle.desk_recorder.specs.declared.recorder.ChangeRecorder.{ChangeRecorder}
use Rattle.desk_recorder.specs.declared.recording_handler.RecordingHandler.{RecordingHandler}
use Rattle.desk_recorder.proofs.Composed.{records_nothing}
use Rattle.job_server.specs.Recorded.{IsRestarted}

-- a recovered desk, whose open jobs a new handler has started again
pub restarted_as : {R Q : Type 0} (starts : R → ℕ → AdmittedJob → Result (Unit {0}) ℕ → R → Type 0) (taken : Q → List ℕ) (failed : Q → Type 0) (state : DeskState) (runner : R) (keep : KeepLimits) (desk : Ledger) (jobs : List OpenJob) (handler : RecordingHandler R Q) (queue : Q)
    (left : RecordingHandler R Q) → desk ≡ state.desk → jobs ≡ state.held → handler.runner ≡ runner → handler.keep ≡ keep → handler.recorder.queue ≡ queue → handler.recorder.is_stopped ≡ false → taken queue ≡ []
    → ((d : Ledger) → StartsEach starts d handler.runner jobs d left.runner) → left.recorder ≡ handler.recorder → left.keep ≡ handler.keep → IsRestarted starts taken failed state runner keep (desk, left)
restarted_as {R} {Q} starts taken failed state runner keep desk jobs handler queue left is_desk are_held is_runner is_keep is_queue goes_on none started recorder kept = record {
  fresh = handler.recorder;
  none = (ap taken is_queue ∙ none, goes_on);
  started = subst (λ (d : Ledger). StartsEach starts d runner state.held desk left.runner) is_desk
      (subst (λ (r : R). StartsEach starts desk r state.held desk left.runner) is_runner (subst (λ (js : List OpenJob). StartsEach starts desk handler.runner js desk left.runner) are_held (started desk)));
  recorded = subst (λ (d : Ledger). IsRecorded taken failed handler.recorder left.recorder d desk []) is_desk
      (subst (λ (r : ChangeRecorder Q). IsRecorded taken failed handler.recorder r desk desk []) (sym recorder) (records_nothing taken failed handler.recorder desk desk refl));
  kept = kept ∙ is_keep;
}
