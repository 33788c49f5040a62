-- What the object of a job says is that job.
use Rattle.std.proofs.Common.{◌≡◌, ℕ, ◌≤◌, List, [], ◌∷◌, map, Some, refl, ap, arith}
use Rattle.std.specs.List.{AllByRecursion}
use Rattle.std.proofs.lemmas.Bool.Decides.{nat_tests}
use Rattle.hex.proofs.HexLemmas.{decode_of-encode_lower}
use Rattle.serde_json.specs.Data.{Data}
use Rattle.sessions.specs.Grammar.{JobText, ProgramText, all_of, bytes_at_key, list_of, job_from, program_from, programs_at, if_between}
use Rattle.sessions.specs.Replies.{items}
use Rattle.conversation.specs.Objects.{job_data, program_data}
use Rattle.conversation.specs.Writable.{IsWritable, IsWritableProgram}

within_is : (n : ℕ) → n ≤ 4294967295 → if_between 0 4294967295 n ≡ Some n
within_is n le = grind (arith, nat_tests)

list_of_items : (ds : List Data) → list_of (items ds) ≡ ds
list_of_items [] = refl
list_of_items (d ∷ ds) = ap (λ (xs : List Data). d ∷ xs) (list_of_items ds)

program_says : (p : ProgramText) → IsWritableProgram p → program_from (program_data p) ≡ Some p
unfolding program_from program_data bytes_at_key
program_says p w = rw (within_is p.need w.0, decode_of-encode_lower p.code w.1) refl

programs_say : (ps : List ProgramText) → AllByRecursion IsWritableProgram ps → all_of program_from (map program_data ps) ≡ Some ps
programs_say [] w = refl
programs_say (p ∷ ps) w = rw (program_says p w.0, programs_say ps w.1) refl

pub order_says : (order : JobText) → IsWritable order → job_from (job_data order) ≡ Some order
unfolding job_from job_data bytes_at_key programs_at
order_says order w =
    rw (within_is order.credit w.credit, decode_of-encode_lower order.buffer w.buffer, list_of_items (map program_data order.programs), programs_say order.programs w.programs) refl
