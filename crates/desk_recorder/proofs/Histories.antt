-- Histories of desks, and answers in turn.
use Rattle.std.proofs.Common.{◌≡◌, ℕ, false, List, [], ◌∷◌, refl, sym, ap, subst, Option, None, Some, Result}
use Rattle.credit_book.specs.declared.book.Report.{Report}
use Rattle.credit_book.specs.declared.board.Progress.{Progress}
use Rattle.job_core.specs.Admitted.{AdmittedJob}
use Rattle.accounts.specs.declared.jobs.JobEntry.{JobEntry}
use Rattle.accounts.specs.Jobs.{job_at}
use Rattle.accounts.specs.Ledgers.{Ledger}
use Rattle.recovery.specs.Histories.{IsAfter, ReplaysChanges}
use Rattle.desk_journal.specs.DeskSteps.{DeskState, IsNewDesk, MakesBytes}
use Rattle.sessions.specs.declared.job_key.KeyedJob.{KeyedJob}
use Rattle.keyed_desk.specs.KeyedSteps.{IsNewKeyed, KeyedState, MakesKeyed, alone, by_key, key_kept}
use Rattle.sessions.specs.Grammar.{Asked}
use Rattle.desk_recorder.specs.Histories.{AnswersInTurn, IsDeskHistory, none_yet, one_more, RecordsLead}
use Rattle.desk_recorder.specs.Recording.{HoldsOpen, RecordsMore}
use Rattle.desk_recorder.specs.RecordedAnswers.{answers_recorded}
use Rattle.desk_recorder.specs.declared.recording_handler.RecordingHandler.{RecordingHandler}
use Rattle.desk_recorder.proofs.Composed.{leads_on, more_nothing, more_then}
use Rattle.desk_recorder.proofs.Held.{job_there}
use Rattle.desk_recorder.proofs.Steps.{makes_held}

abbrev holds_its : DeskState → Type 0
holds_its state = HoldsOpen state.held state.desk

step_held : (old new : DeskState) (payload : List ℕ) → MakesBytes old payload new → holds_its old → holds_its new
step_held old new payload made holds = makes_held made.0 old new made.2 holds

keyed_held : (old new : KeyedState) (payload : List ℕ) → MakesKeyed old payload new → holds_its old.desk → holds_its new.desk
keyed_held old new payload (alone step keys) holds = step_held old.desk new.desk payload step holds
keyed_held old new payload (by_key key inner is is_key step keys) holds = step_held old.desk new.desk inner step holds
keyed_held old new payload (key_kept job key is narrow is_key desk keys) holds = subst holds_its (sym desk) holds

replays_held : (payloads : List (List ℕ)) (old new : KeyedState) → ReplaysChanges MakesKeyed old payloads new → holds_its old.desk → holds_its new.desk
replays_held [] old new same holds = subst (λ (s : KeyedState). holds_its s.desk) (sym same) holds
replays_held (p ∷ payloads) old new led holds = replays_held payloads led.0 new led.2 (keyed_held old led.0 p led.1 holds)

none_open : (number : ℕ) (entry : JobEntry) → job_at [] number ≡ Some entry → ⊥
none_open number entry at = by (job_there [] number entry at).1
  where
    by : None ≡ Some entry → ⊥
    by there = absurd cc

new_held : (state : DeskState) → IsNewDesk state → HoldsOpen state.held state.desk
new_held state is number there =
    let jobs : state.desk.jobs ≡ [] = ap (λ (l : Ledger). l.jobs) is.0 in
    absurd (none_open number there.0 (subst (λ (js : List JobEntry). job_at js number ≡ Some there.0) jobs there.1))

-- what a history leads to holds its open jobs
pub history_of : (history : List (List ℕ)) (state : KeyedState) → IsAfter IsNewKeyed MakesKeyed history state → IsDeskHistory history state.desk.desk state.keys
history_of history state after = (state.desk.held, replays_held history after.0 state after.2 (new_held after.0.desk after.1.0), after)

module _ {R Q : Type 0} (starts : R → ℕ → AdmittedJob → Result (Unit {0}) ℕ → R → Type 0) (looks : R → ℕ → Progress → R → Type 0)
    (takes : R → Option (ℕ × Result Report ℕ) → R → Type 0) (taken : Q → List ℕ) (failed : Q → Type 0) where
  abbrev answers : Ledger × RecordingHandler R Q → Result Asked ℕ → List ℕ → Ledger × RecordingHandler R Q → Type 0
  answers = answers_recorded starts looks takes taken failed

  in_turn : (s t : Ledger × RecordingHandler R Q) → AnswersInTurn answers s t → t.1.recorder.is_stopped ≡ false
      → RecordsMore taken s.1.recorder.queue t.1.recorder.queue s.0 t.0 []
  in_turn s t none_yet on = more_nothing taken failed s.1.recorder.queue s.1.recorder.queue s.0 s.0 refl refl
  in_turn s t (one_more m query reply end turns answered) on =
      let last = answered.0 in
      more_then taken failed s.1.recorder.queue m.1.recorder.queue end.1.recorder.queue s.0 m.0 end.0 (in_turn s m turns (last.going on)) (last.records on)

  pub turns_lead : (history : List (List ℕ)) (keys : List KeyedJob) (s t : Ledger × RecordingHandler R Q) → IsDeskHistory history s.0 keys → AnswersInTurn answers s t → t.1.recorder.is_stopped ≡ false
      → RecordsLead taken s.1.recorder.queue t.1.recorder.queue history t.0 keys
  turns_lead history keys s t led turns on = leads_on taken failed s.1.recorder.queue t.1.recorder.queue history keys [] s.0 t.0 led (in_turn s t turns on)
