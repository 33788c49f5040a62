-- A job object that is written is read back.
use Rattle.std.proofs.Common.{◌≡◌, ◌≤◌, ◌∙◌, ◌++◌, ◌+◌, ◌<◌, ℕ, get_or, length, take, true, false, List, [], ◌∷◌, map, refl, sym, ap, arith, Option, Some}
use Rattle.std.specs.Prelude.{nat_le}
use Rattle.std.proofs.lemmas.Bool.Decides.{nat_tests}
use Rattle.std.proofs.lemmas.List.{map-append, map_more}
use Rattle.hex.specs.Hex.{IsBytes}
use Rattle.hex.proofs.HexLemmas.{decode_of-encode_lower}
use Rattle.serde_json.specs.Data.{Data, depth, items_depth}
use Rattle.serde_json.specs.View.{view}
use Rattle.serde_json.specs.declared.value.Value.{Value}
use Rattle.serde_json.specs.Written.{has_float, items_have_float}
use Rattle.serde_json.proofs.OnLiterals.{serde_json_on_literals}
use Rattle.job_core.specs.declared.admission.ProgramBytes.{ProgramBytes}
use Rattle.sessions.specs.Grammar.{all_of, bytes_at_key, job_from, list_of, number_between, numbers_at, object_asked, object_from, program_asked, program_from, programs_at}
use Rattle.sessions.proofs.Lists.{all_of-push}
use Rattle.sessions.specs.Replies.{items, whole}
use Rattle.sessions.specs.declared.request.JobObject.{JobObject}
use Rattle.bpfjobs_cli.specs.AskRequests.{asked_program}
use Rattle.bpfjobs_cli.specs.JobTexts.{IsUnscheduled, written_job}

pub number_back : (n : ℕ) → n ≤ 4294967295 → number_between 0 4294967295 (whole n) ≡ Some n
number_back n most =
    let low : nat_le 0 n ≡ true = grind (arith, nat_tests) in
    let high : nat_le n 4294967295 ≡ true = grind (arith, nat_tests) in
    rw (low, high) refl

pub program_back : (p : ProgramBytes) → p.need ≤ 4294967295 → IsBytes p.code.items → program_from (asked_program p) ≡ Some (program_asked p)
unfolding serde_json_on_literals program_from asked_program bytes_at_key
program_back p need bytes = rw (number_back p.need need, decode_of-encode_lower p.code.items bytes) refl

-- one value more, which reads back
pub value_more : {X Y : Type 0} (says : Data → Option Y) (asked : X → Y) (vs more : List Value) (v : Value) (xs : List X) (i : ℕ) (x : X) → i < length xs → x ≡ get_or xs i x → more ≡ vs ++ v ∷ []
    → all_of says (map view vs) ≡ Some (map asked (take i xs)) → says (view v) ≡ Some (asked x) → all_of says (map view more) ≡ Some (map asked (take (i + 1) xs))
value_more says asked vs more v xs i x within is more_is before last =
    ap (λ l. all_of says (map view l)) more_is
    ∙ ap (all_of says) (map-append view vs (v ∷ []))
    ∙ all_of-push says (map view vs) (view v) (map asked (take i xs)) (asked x) before last
    ∙ ap Some (sym (map_more asked xs i x within ∙ ap (λ w. map asked (take i xs) ++ asked w ∷ []) (sym is)))

-- the value of one more
pub same_more : {X : Type 0} (asked : X → Data) (vs more : List Value) (v : Value) (xs : List X) (i : ℕ) (x : X) → i < length xs → x ≡ get_or xs i x → more ≡ vs ++ v ∷ []
    → map view vs ≡ map asked (take i xs) → view v ≡ asked x → map view more ≡ map asked (take (i + 1) xs)
same_more asked vs more v xs i x within is more_is before last =
    ap (map view) more_is
    ∙ map-append view vs (v ∷ [])
    ∙ ap (λ l. l ++ view v ∷ []) before
    ∙ ap (λ w. map asked (take i xs) ++ w ∷ []) last
    ∙ sym (map_more asked xs i x within ∙ ap (λ w. map asked (take i xs) ++ asked w ∷ []) (sym is))

pub same_map : (ns : List ℕ) → map (λ n. n) ns ≡ ns
same_map [] = refl
same_map (n ∷ ns) = ap (λ l. n ∷ l) (same_map ns)

list_back : (ds : List Data) → list_of (items ds) ≡ ds
list_back [] = refl
list_back (d ∷ ds) = ap (λ es. d ∷ es) (list_back ds)

module _ (job : JobObject) (credit : job.credit ≤ 4294967295) (buffer : IsBytes job.buffer.items)
    (programs : all_of program_from (map asked_program job.programs.items) ≡ Some (map program_asked job.programs.items))
    (schedule : all_of (number_between 0 4294967295) (map whole job.schedule.items) ≡ Some job.schedule.items) where
  pub scheduled_back : object_from true (written_job job) ≡ Some (object_asked job)
  unfolding serde_json_on_literals object_from job_from programs_at numbers_at bytes_at_key written_job
  scheduled_back =
      rw (
        list_back (map asked_program job.programs.items),
        list_back (map whole job.schedule.items),
        number_back job.credit credit,
        decode_of-encode_lower job.buffer.items buffer,
        programs,
        schedule,
      ) refl

  pub unscheduled_back : (bare : JobObject) → IsUnscheduled job bare → object_from false (written_job job) ≡ Some (object_asked bare)
  unfolding serde_json_on_literals object_from job_from programs_at numbers_at bytes_at_key written_job
  unscheduled_back bare is =
      rw (
        list_back (map asked_program job.programs.items),
        number_back job.credit credit,
        decode_of-encode_lower job.buffer.items buffer,
        programs,
        is.same_programs,
        is.same_credit,
        is.same_buffer,
        is.no_schedule,
      ) refl

-- ---- how deep it is, and that it has no float

programs_deep : (ps : List ProgramBytes) → items_depth (items (map asked_program ps)) ≤ 1
unfolding asked_program
programs_deep [] = omega arith
programs_deep (p ∷ ps) = grind (arith, programs_deep ps)

numbers_deep : (ns : List ℕ) → items_depth (items (map whole ns)) ≤ 1
numbers_deep [] = omega arith
numbers_deep (n ∷ ns) = grind (arith, numbers_deep ns)

pub job_deep : (job : JobObject) → depth (written_job job) ≤ 127
unfolding written_job
job_deep job = grind (arith, programs_deep job.programs.items, numbers_deep job.schedule.items)

programs_plain : (ps : List ProgramBytes) → items_have_float (items (map asked_program ps)) ≡ false
unfolding asked_program
programs_plain [] = refl
programs_plain (p ∷ ps) = rw (programs_plain ps) refl

numbers_plain : (ns : List ℕ) → items_have_float (items (map whole ns)) ≡ false
numbers_plain [] = refl
numbers_plain (n ∷ ns) = rw (numbers_plain ns) refl

pub job_plain : (job : JobObject) → has_float (written_job job) ≡ false
unfolding written_job
job_plain job = rw (programs_plain job.programs.items, numbers_plain job.schedule.items) refl
