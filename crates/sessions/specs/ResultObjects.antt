-- The result that a JSON value is.
use Rattle.std.specs.Prelude.{◌≡◌, ℕ, List, Bool, if◌then◌else◌, Option, Some, None, option_map, option_and_then, codes, Result, Ok, Err}
use Rattle.serde_json.specs.Data.{Data}
use Rattle.serde_json.specs.Find.{get, as_bool}
use Rattle.sessions.specs.Grammar.{ReadsJson, all_of, bytes_at_key, list_at_key, number_at_key}
use Rattle.sessions.specs.declared.fault.SessionFault.{SessionFault}
use Rattle.sessions.specs.declared.fault.SessionFault.TheVariants.{FrameTooLarge, NotJson, BadRequest, NoMemory}
use Rattle.sessions.specs.declared.result_reader.CreditTotals.{CreditTotals}
use Rattle.sessions.specs.declared.result_reader.ResultObject.{ResultObject}
use Rattle.sessions.specs.declared.result_reader.ResultTask.{ResultTask}

-- the truth value at a key
abbrev pub flag_at_key : List ℕ → Data → Option Bool
flag_at_key key d = option_and_then as_bool (get key d)

unfoldable pub task_from : Data → Option ResultTask
task_from d =
    option_and_then (λ number. option_and_then (λ program. option_and_then (λ r0.
    option_and_then (λ ran. option_and_then (λ rest. option_map (λ spent. record {
      number = number;
      program = program;
      r0 = r0;
      ran = ran;
      rest = rest;
      spent = spent;
    })
    (number_at_key (codes "spent") 0 4294967295 d))
    (number_at_key (codes "rest") 0 4294967295 d))
    (flag_at_key (codes "ran") d))
    (number_at_key (codes "r0") 0 18446744073709551615 d))
    (number_at_key (codes "program") 0 65535 d))
    (number_at_key (codes "number") 0 4294967295 d)

unfoldable pub tasks_at : Data → Option (List ResultTask)
tasks_at d = option_and_then (all_of task_from) (list_at_key (codes "tasks") d)

-- the credit of a reply whose `ok` is true
unfoldable pub totals_from : Data → Option CreditTotals
totals_from d =
    option_and_then (λ ok. if ok then option_and_then (λ returned.
    option_map (λ spent. record { returned = returned; spent = spent })
    (number_at_key (codes "spent") 0 4294967295 d))
    (number_at_key (codes "returned") 0 4294967295 d) else None)
    (flag_at_key (codes "ok") d)

-- a result: the buffer, the credit, and the tasks in the order of the text
pub record ResultContents : Type 0 where
  pub buffer : List ℕ
  pub returned : ℕ
  pub spent : ℕ
  pub tasks : List ResultTask

unfoldable pub contents_from : Data → Option ResultContents
contents_from d =
    option_and_then (λ totals. option_and_then (λ buffer. option_map (λ tasks. record {
      buffer = buffer;
      returned = totals.returned;
      spent = totals.spent;
      tasks = tasks;
    })
    (tasks_at d))
    (bytes_at_key (codes "buffer") d)) (totals_from d)

-- the program's own value says this
abbrev pub contents_of : ResultObject → ResultContents
contents_of o = record {
  buffer = o.buffer.items;
  returned = o.returned;
  spent = o.spent;
  tasks = o.tasks.items;
}

-- the answer to a text that is read as a result
abbrev pub ResultAnswer : Result ResultObject SessionFault → List ℕ → Type 0
ResultAnswer (Ok object) text =
    (d : Data) × ReadsJson text d × (contents_from d ≡ Some (contents_of object))
ResultAnswer (Err FrameTooLarge) text = ⊥
ResultAnswer (Err NotJson) text = (d : Data) → ReadsJson text d → ⊥
ResultAnswer (Err BadRequest) text = (d : Data) × ReadsJson text d × (contents_from d ≡ None)
ResultAnswer (Err NoMemory) text = Unit {0}
