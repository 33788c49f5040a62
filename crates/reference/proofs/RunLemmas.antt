-- How the reference's jobs change along a run.
use Rattle.std.proofs.Common.{◌≡◌, add-one, ℕ, zero, suc, ◌+◌, List, [], ◌∷◌, ◌++◌, map, drop, take, set, slice_set, slice_get, refl, sym, ap, ◌∙◌, Bool, true, false, Option, Some, None, option_and_then, option_map, subst, Result, Err}
use Rattle.std.proofs.lemmas.List.{map-set, map-append}
use Rattle.std.proofs.lemmas.Option.{slice_get-map}
use Rattle.reference.specs.declared.records.JobMember.{JobMember}
use Rattle.reference.specs.declared.records.JobMember.TheVariants as member
use Rattle.reference.specs.declared.records.LiveTask.{LiveTask}
use Rattle.reference.specs.declared.records.ReferenceMove.{ReferenceMove}
use Rattle.reference.specs.declared.records.ReferenceProgram.{ReferenceProgram}
use Rattle.reference.specs.declared.records.Running.{Running}
use Rattle.reference.specs.declared.records.Unanswered.{Unanswered}
use Rattle.machine_model.specs.Machine.{Program, State, effect}
use Rattle.machine_model.specs.JobState.{JobState, Member, Move, entries_of, run, state_in, step}
use Rattle.machine_model.proofs.Runs.{run-push}
use Rattle.reference.specs.Records.{IsFarEffect, IsFarStep, member_of, move_of, born_of, program_of, state_of, task_of, when}

with_nothing : (xs : List Member) → xs ≡ xs ++ []
with_nothing [] = refl
with_nothing (x ∷ xs) = ap (λ (ys : List Member). x ∷ ys) (with_nothing xs)

abbrev pub job_with : List ℕ → List Member → JobState
job_with buffer tasks = record { buffer = buffer; tasks = tasks }

-- a task's new record, and no child
pub put_alone : (buffer : List ℕ) (tasks : List JobMember) (n : ℕ) (m : JobMember) (born : Option LiveTask) → born ≡ None →
    job_with buffer (map member_of (set tasks n m)) ≡ job_with buffer (slice_set (map member_of tasks) n (member_of m) ++ born_of born)
put_alone buffer tasks n m born is =
    ap (job_with buffer)
    (map-set member_of tasks n m ∙ with_nothing (slice_set (map member_of tasks) n (member_of m))
    ∙ ap (λ (b : Option LiveTask). slice_set (map member_of tasks) n (member_of m) ++ born_of b) (sym is))

-- a task's new record, and its child
pub put_child : (buffer : List ℕ) (tasks now : List JobMember) (n : ℕ) (m : JobMember) (child : LiveTask) (born : Option LiveTask) →
    born ≡ Some child → now ≡ set tasks n m ++ member.Live child ∷ [] →
    job_with buffer (map member_of now) ≡ job_with buffer (slice_set (map member_of tasks) n (member_of m) ++ born_of born)
put_child buffer tasks now n m child born is after =
    ap (job_with buffer)
    (ap (map member_of) after ∙ map-append member_of (set tasks n m) (member.Live child ∷ [])
    ∙ ap (λ (xs : List Member). xs ++ member_of (member.Live child) ∷ []) (map-set member_of tasks n m)
    ∙ ap (λ (b : Option LiveTask). slice_set (map member_of tasks) n (member_of m) ++ born_of b) (sym is))

next_move : (moves : List ReferenceMove) (i : ℕ) (m : ReferenceMove) → slice_get moves i ≡ Some m →
    drop i (map move_of moves) ≡ move_of m ∷ drop (suc i) (map move_of moves)
next_move [] i m e = cc
next_move (x ∷ xs) zero m e = let s : x ≡ m = cc in ap (λ (y : ReferenceMove). move_of y ∷ map move_of xs) s
next_move (x ∷ xs) (suc i) m e = next_move xs i m e

along : (programs : List Program) (ms : List Move) (o p : Option JobState) → p ≡ o →
    option_and_then (λ mid. run programs mid ms) p ≡ option_and_then (λ mid. run programs mid ms) o
along programs ms o p is = ap (option_and_then (λ mid. run programs mid ms)) is

-- a move by its place
pub move_at : (moves : List ReferenceMove) (i : ℕ) (m : ReferenceMove) → slice_get moves i ≡ Some m →
    slice_get (map move_of moves) i ≡ Some (move_of m)
move_at moves i m here = slice_get-map move_of moves i ∙ ap (option_map move_of) here

-- a move that is done, and one on which the task traps
pub run_on : (programs : List Program) (j k : JobState) (moves : List ReferenceMove) (i : ℕ) (m : ReferenceMove) → slice_get moves i ≡ Some m →
    when true k ≡ step programs j m.number m.refuses →
    run programs k (drop (i + 1) (map move_of moves)) ≡ run programs j (drop i (map move_of moves))
run_on programs j k moves i m here went =
    ap (λ n. run programs k (drop n (map move_of moves))) (add-one i)
    ∙ along programs (drop (suc i) (map move_of moves)) (step programs j m.number m.refuses) (Some k) went
    ∙ ap (run programs j) (sym (next_move moves i m here))

pub run_off : (programs : List Program) (j k : JobState) (moves : List ReferenceMove) (i : ℕ) (m : ReferenceMove) → slice_get moves i ≡ Some m →
    when false k ≡ step programs j m.number m.refuses → let none : Option JobState = None in
    none ≡ run programs j (drop i (map move_of moves))
run_off programs j k moves i m here off =
    along programs (drop (suc i) (map move_of moves)) (step programs j m.number m.refuses) None off
    ∙ ap (run programs j) (sym (next_move moves i m here))

next_taken : (moves : List ReferenceMove) (i : ℕ) (m : ReferenceMove) → slice_get moves i ≡ Some m →
    take (suc i) (map move_of moves) ≡ take i (map move_of moves) ++ move_of m ∷ []
next_taken [] i m e = cc
next_taken (x ∷ xs) zero m e = let s : x ≡ m = cc in ap (λ (y : ReferenceMove). move_of y ∷ []) s
next_taken (x ∷ xs) (suc i) m e = ap (λ (ms : List Move). move_of x ∷ ms) (next_taken xs i m e)

-- the job that a beginning of the moves leads to, with one move more
pub run_done : (programs : List Program) (j k l : JobState) (moves : List ReferenceMove) (i : ℕ) (m : ReferenceMove) → slice_get moves i ≡ Some m →
    run programs j (take i (map move_of moves)) ≡ Some k → when true l ≡ step programs k m.number m.refuses →
    run programs j (take (i + 1) (map move_of moves)) ≡ Some l
run_done programs j k l moves i m here done went =
    ap (λ n. run programs j (take n (map move_of moves))) (add-one i)
    ∙ ap (run programs j) (next_taken moves i m here)
    ∙ run-push programs j (take i (map move_of moves)) (move_of m)
    ∙ ap (option_and_then (λ x. step programs x m.number m.refuses)) done ∙ sym went

pub from_start : (programs : List Program) (j k : JobState) (ms : List Move) → j ≡ k → run programs j ms ≡ run programs k ms
from_start programs j k ms is = ap (λ (x : JobState). run programs x ms) is

-- a step that is more than the reference has, by its records
pub far_step : (programs : List ReferenceProgram) (tasks : List JobMember) (buffer : List ℕ) (n : ℕ) (refuses : Bool) (t : LiveTask) (p : ReferenceProgram) (s : Running) →
    slice_get tasks n ≡ Some (member.Live t) → slice_get programs t.program ≡ Some p → state_of s ≡ state_in buffer (task_of t) →
    IsFarEffect (task_of t) refuses (effect (program_of p) (entries_of (map program_of programs)) (state_of s)) →
    IsFarStep (map program_of programs) (record { buffer = buffer; tasks = map member_of tasks }) n refuses
far_step programs tasks buffer n refuses t p s here there is far = record {
  task = task_of t;
  alive = slice_get-map member_of tasks n ∙ ap (option_map member_of) here;
  program = program_of p;
  there = slice_get-map program_of programs t.program ∙ ap (option_map program_of) there;
  far = subst (λ (x : State). IsFarEffect (task_of t) refuses (effect (program_of p) (entries_of (map program_of programs)) x)) is far;
}

-- an error that is passed on
pub same_error : {A B : Type 0} (r : Result A Unanswered) (x e f : Unanswered) → r ≡ Err x → x ≡ e → r ≡ Err f →
    let before : Result B Unanswered = Err e in before ≡ Err f
same_error r x e f is same other = let both : x ≡ f = (let ends : Err x ≡ Err f = sym is ∙ other in cc) in ap Err (sym same ∙ both)
