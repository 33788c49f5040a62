-- What a handle of a task holds, and what C's calls do with it.
use Rattle.std.specs.Prelude.{◌≡◌, ℕ, ◌<◌, ◌≤◌, ◌⊎◌, List, length, replicate, Option, None, Some, option_map}
use Rattle.machine_model.specs.Limits.{max_credit, max_part}
use Rattle.verifier.specs.Checked.{Checked}
use Rattle.virtual_machine.specs.declared.vm_fault.VmFault.{VmFault}
use Rattle.virtual_machine.specs.Executes.{IsUnrunnable}
use Rattle.virtual_machine.specs.VmFaultCodes.{code_of_vm_fault}
use Rattle.yielding.specs.declared.event.PieceEnd.{PieceEnd}
use Rattle.yielding.specs.declared.event.PieceEnd.TheVariants.{AtLimit, Asks, Ended}
use Rattle.yielding.specs.declared.go_fault.GoFault.{GoFault}
use Rattle.yielding.specs.GoFaults.{StaysAt, code_of_go_fault}
use Rattle.yielding.specs.Going.{HasGone, IsAtStart}
use Rattle.yielding.specs.Standing.{PausedTask}
use Rattle.telgovan_c.specs.declared.boxed.Boxed.{Boxed}
use Rattle.telgovan_c.specs.declared.task_handle.TaskHandle.{TaskHandle}
use Rattle.telgovan_c.specs.declared.tasks.TaskEvent.{TaskEvent}

-- the task of a box, if there is one
abbrev pub boxed_task : Boxed → Option PausedTask
boxed_task boxed = option_map (λ b. b.value) boxed.task

abbrev pub task_shown : Option Boxed → Option PausedTask
task_shown None = None
task_shown (Some boxed) = boxed_task boxed

-- the task that the handle holds, if it holds one
abbrev pub held_task : TaskHandle → Option PausedTask
held_task t = task_shown t.handle.held.kept

abbrev pub no_arguments : List ℕ
no_arguments = replicate 5 0

abbrev pub refused_event : ℕ → TaskEvent
refused_event number =
    record { r0 = 0; arguments = no_arguments; status = number; kind = 0; helper = 0; used = 0 }

-- what C is told of an event
abbrev pub event_told : PieceEnd → ℕ → TaskEvent
event_told AtLimit used =
    record { r0 = 0; arguments = no_arguments; status = 0; kind = 0; helper = 0; used = used }
event_told (Asks question) used = record {
  r0 = 0;
  arguments = question.arguments;
  status = 0;
  kind = 1;
  helper = question.helper;
  used = used;
}
event_told (Ended r0) used =
    record { r0 = r0; arguments = no_arguments; status = 0; kind = 2; helper = 0; used = used }

-- the handle holds a task at its start; or that is refused, and the handle holds what it held
pub data IsBegun (program : Option Checked) (argument credit length : ℕ)
    (old new : Option PausedTask)
    (status : ℕ) : Type 0 where
  begun : (p : Checked) → program ≡ Some p → credit ≤ max_credit → length ≤ max_part
      → (task : PausedTask) → new ≡ Some task → IsAtStart p argument credit length task → status ≡ 0
      → IsBegun program argument credit length old new status
  empty : program ≡ None → new ≡ old → status ≡ 41
      → IsBegun program argument credit length old new status
  over_limit : (p : Checked) → program ≡ Some p → ((max_credit < credit) ⊎ (max_part < length))
      → new ≡ old → status ≡ 65 → IsBegun program argument credit length old new status
  refused : (p : Checked) → program ≡ Some p → credit ≤ max_credit → length ≤ max_part
      → (fault : VmFault) → IsUnrunnable (Some p) credit length fault → new ≡ old
      → status ≡ code_of_vm_fault fault → IsBegun program argument credit length old new status
  no_memory : (p : Checked) → program ≡ Some p → credit ≤ max_credit → length ≤ max_part
      → new ≡ old → status ≡ 99 → IsBegun program argument credit length old new status

-- the task that the handle holds has gone on; or it stays as it was, as the memory does
pub data IsResumed (old : Option PausedTask) (answer limit : ℕ) (bytes left : List ℕ)
    (new : Option PausedTask) (told : TaskEvent) : Type 0 where
  gone : (task next : PausedTask) → old ≡ Some task → new ≡ Some next → (event : PieceEnd)
      → HasGone task answer limit bytes event next left → next.program ≡ task.program
      → next.len ≡ task.len → told ≡ event_told event next.credit.used
      → IsResumed old answer limit bytes left new told
  refused : (task : PausedTask) → old ≡ Some task → (fault : GoFault)
      → StaysAt task.phase task.len (length bytes) fault → new ≡ old → left ≡ bytes
      → told ≡ refused_event (code_of_go_fault fault)
      → IsResumed old answer limit bytes left new told
  empty : old ≡ None → new ≡ old → left ≡ bytes → told ≡ refused_event 47
      → IsResumed old answer limit bytes left new told
