-- A job's object has no float, and is no deeper than what is read.
use Rattle.std.proofs.Common.{◌≡◌, ◌≤◌, List, [], ◌∷◌, map, false, refl, arith}
use Rattle.serde_json.specs.Data.{depth, items_depth}
use Rattle.serde_json.specs.Written.{has_float, items_have_float}
use Rattle.sessions.specs.Grammar.{ProgramText, JobText}
use Rattle.sessions.specs.Replies.{items}
use Rattle.conversation.specs.Objects.{job_data, program_data}

program_plain : (p : ProgramText) → has_float (program_data p) ≡ false
unfolding program_data
program_plain p = refl

programs_plain : (ps : List ProgramText) → items_have_float (items (map program_data ps)) ≡ false
programs_plain [] = refl
programs_plain (p ∷ ps) = rw (program_plain p, programs_plain ps) refl

pub order_plain : (order : JobText) → has_float (job_data order) ≡ false
unfolding job_data
order_plain order = rw (programs_plain order.programs) refl

program_shallow : (p : ProgramText) → depth (program_data p) ≡ 1
unfolding program_data
program_shallow p = refl

programs_shallow : (ps : List ProgramText) → items_depth (items (map program_data ps)) ≤ 1
programs_shallow [] = omega arith
programs_shallow (p ∷ ps) =
    let first = program_shallow p in
    let rest = programs_shallow ps in
    grind (arith, first, rest)

pub order_shallow : (order : JobText) → depth (job_data order) ≤ 127
unfolding job_data
order_shallow order = let inner = programs_shallow order.programs in grind (arith, inner)
