-- A tree of tasks in the language DOT.
use Rattle.std.specs.Prelude.{ℕ, List, [], ◌∷◌, ◌++◌, codes, length, take}
use Rattle.std.specs.Fmt.{decimal}
use Rattle.std.specs.List.{flat_map}
use Rattle.reference.specs.declared.evaluating.FinishedTask.{FinishedTask}
use Rattle.reference.specs.declared.records.EndedTask.{EndedTask}

-- the numbers on the way to a task, each behind a slash
abbrev pub numbers_text : List ℕ → List ℕ
numbers_text place = flat_map (λ number. codes "/" ++ decimal number) place

-- the name of a task's place; the root's is a slash
abbrev pub place_name : List ℕ → List ℕ
place_name [] = codes "/"
place_name (first ∷ more) = numbers_text (first ∷ more)

-- what a task spent and returned, R0, and the bytes of the buffer that it left
abbrev pub end_text : EndedTask → List ℕ
end_text task = codes "\\lspent " ++ (decimal task.spent ++ (codes ", returned "
    ++ (decimal task.rest ++ (codes "\\lr0 " ++ (decimal task.r0 ++ (codes "\\lbytes "
    ++ (decimal task.size ++ (codes " from " ++ (decimal task.base ++ codes "\\l")))))))))

-- a task's box: its place, its program and its argument, the credit that it was given, and its end
abbrev pub box_text : EndedTask → List ℕ
box_text task = codes "  \"" ++ (place_name task.place.items ++ (codes "\" [label=\""
    ++ (place_name task.place.items ++ (codes "\\lprogram " ++ (decimal task.program
    ++ (codes ", argument " ++ (decimal task.arg ++ (codes "\\lgiven " ++ (decimal task.given
    ++ (end_text task ++ codes "\"];\n"))))))))))

-- the edge to a task from its parent, whose place lacks the last number; to the root there is none
abbrev pub edge_text : List ℕ → List ℕ
edge_text [] = []
edge_text (first ∷ more) = codes "  \"" ++ (place_name (take (length more) (first ∷ more))
    ++ (codes "\" -> \"" ++ (place_name (first ∷ more) ++ codes "\";\n")))

-- a task's box, and the edge to it
unfoldable pub node_text : FinishedTask → List ℕ
node_text task = box_text task.ending ++ edge_text task.ending.place.items

abbrev pub nodes_text : List FinishedTask → List ℕ
nodes_text tasks = flat_map node_text tasks

abbrev pub tree_text : List FinishedTask → List ℕ
tree_text tasks = codes "digraph job {\n  node [shape=box, fontname=\"monospace\"];\n"
    ++ (nodes_text tasks ++ codes "}\n")
