-- Used by private contracts and proofs alone: the pieces of the text of what a job came to.
use Rattle.std.specs.Prelude.{ℕ, ◌+◌, List, [], ◌∷◌, ◌++◌, length, Bool, true, false, codes, decimal}
use Rattle.serde_json.specs.Written.{comma_if, compact_text}
use Rattle.credit_book.specs.declared.event.TaskEnd.{TaskEnd}
use Rattle.sessions.specs.Replies.{task_data}

-- the tasks, a comma between two, and one ahead where something stands before
abbrev pub task_texts : Bool → List TaskEnd → List ℕ
task_texts later [] = []
task_texts later (t ∷ ts) = comma_if later ++ (compact_text (task_data t) ++ task_texts true ts)

-- whether something stands before what comes behind these tasks
abbrev pub behind_tasks : Bool → List TaskEnd → Bool
behind_tasks later [] = later
behind_tasks later (t ∷ ts) = true

-- how many bytes a task has, with a comma
abbrev pub weight : TaskEnd → ℕ
weight t = length (compact_text (task_data t)) + 1

-- the text, with the buffer as it stands in it
unfoldable pub result_text : List ℕ → ℕ → ℕ → List TaskEnd → List ℕ
result_text buffer returned spent tasks =
    codes "{\"buffer\":" ++ (buffer ++ ((codes ",\"ok\":true,\"returned\":" ++ decimal returned)
    ++ ((codes ",\"spent\":" ++ decimal spent) ++ (codes ",\"tasks\":["
    ++ (task_texts false tasks ++ codes "]}")))))
