-- What is told of the steps of a job.
use Rattle.std.proofs.Common.{◌≡◌, ◌∙◌, ◌==◌, ◌+◌, ◌-◌, ◌≤◌, ◌<◌, ℕ, zero, suc, List, [], ◌∷◌, ◌++◌, length, map, slice_get, refl, sym, subst, ap, arith, Bool, true, false, Option, Some, None, option_map, get_or, take, add-one, true≢false}
use Rattle.std.proofs.lemmas.Option.{slice_get-map, slice_get_read}
use Rattle.insn_codec.specs.declared.insn.Insn.{Insn}
use Rattle.insn_codec.specs.declared.insn.Placed.{Placed}
use Rattle.flow_graph.specs.Program.{code_of}
use Rattle.machine_model.specs.Edges.{Code, insn_at}
use Rattle.machine_model.specs.JobState.{JobState, Live, Move, Task, applied, entries_of, member_step, state_in, step, task_step}
use Rattle.machine_model.specs.Machine.{State, Program, Entries, Effect, Continues, Ends, Spawns, Calls, Traps, answered, birth_of, effect, fetched, paid, parted, spawned}
use Rattle.machine_model.proofs.Effects.{effect_holds, if_holds}
use Rattle.run_trace.specs.declared.job_step.JobStep.{JobStep}
use Rattle.reference.specs.declared.records.ReferenceMove.{ReferenceMove}
use Rattle.reference.specs.declared.records.JobMember.{JobMember}
use Rattle.reference.specs.declared.records.JobMember.TheVariants as member
use Rattle.reference.specs.declared.records.LiveTask.{LiveTask}
use Rattle.reference.specs.declared.records.ReferenceProgram.{ReferenceProgram}
use Rattle.reference.specs.Records.{member_of, move_of, program_of, task_of}
use Rattle.run_trace.specs.declared.job_programs.JobPrograms.{JobPrograms}
use Rattle.run_trace.specs.declared.job_programs.Listed.{Listed}
use Rattle.run_trace.specs.Spelled.{AreListed, listings_of, programs_of}
use Rattle.run_trace.specs.JobSteps.{AreJobSteps, IsStepIfAlive, TellsEffect, listed_step}
use Rattle.run_trace.specs.JobTelling.{IsEffectIn, IsToldBy, Stops}

-- what an instruction leaves of the part: as many bytes, but where a spawn is taken
abbrev pub Keeps : State → Effect → Type 0
Keeps s (Continues next) = length next.part ≡ length s.part
Keeps s (Ends r0 last) = length last.part ≡ length s.part
Keeps s (Spawns birth taken refused) = length refused.part ≡ length s.part
Keeps s (Calls helper arguments caller) = Unit {0}
Keeps s (Traps trap) = Unit {0}

spawned_keeps : (s t : State) → length t.part ≡ length s.part → (program share cut arg answer : ℕ) → Keeps s (spawned t program share cut arg answer)
spawned_keeps s t same program share cut arg answer =
    if_holds (Keeps s) (answer == 0) (Spawns (birth_of t program share cut arg) (parted t share cut) (answered t 6)) (Continues (answered t answer)) (λ _. same) (λ _. same)

keeps : (p : Program) (entries : Entries) (s : State) → Keeps s (effect p entries s)
keeps p entries s = effect_holds (Keeps s) p entries s (λ _. tt) (λ i amount there is_price le. record {
  traps = λ _. tt;
  goes = λ next fact leads left. left.size;
  ends = λ r0. refl;
  spawns = λ program share cut arg on. spawned_keeps s (paid s amount) refl program share cut arg _;
  calls = λ helper arity arguments on is other. tt;
})

pub keeps_in : (placed : List Placed) (s : State) (e : Effect) → IsEffectIn placed s e → Keeps s e
keeps_in placed s e h = subst (Keeps s) h.is (keeps h.program h.entries s)

-- where it doesn't trap, an instruction of the list begins
abbrev pub GoesSomewhere : Effect → Type 0
GoesSomewhere (Traps trap) = ⊥
GoesSomewhere e = Unit {0}

pub begins_in : (placed : List Placed) (s t : State) (e : Effect) → IsEffectIn placed s e → GoesSomewhere e → t.slot ≡ s.slot → (i : Insn) × (insn_at (code_of placed) t.slot ≡ Some i)
begins_in placed s t e h goes at = go (insn_at h.program.code s.slot) refl
  where
    go : (o : Option Insn) → insn_at h.program.code s.slot ≡ o → (i : Insn) × (insn_at (code_of placed) t.slot ≡ Some i)
    go (Some i) is = (i, ap (insn_at (code_of placed)) at ∙ ap (λ (c : Code). insn_at c s.slot) (sym h.code) ∙ is)
    go None is = absurd (subst GoesSomewhere (sym h.is ∙ ap (fetched h.program h.entries s) is) goes)

-- one entry more is told
pub told_more : (listings : List (List Placed)) (programs : List Program) (moves : List Move) (j k l : JobState) (move : Move) (steps : List JobStep) (told : Option JobStep) →
    AreJobSteps listings programs j moves steps k → step programs k move.number move.refuses ≡ Some l → IsStepIfAlive listings programs k move told →
    AreJobSteps listings programs j (moves ++ move ∷ []) (steps ++ listed_step told) l
told_more listings programs [] j k l move steps told before goes is = (
  l,
  subst (λ (x : JobState). step programs x move.number move.refuses ≡ Some l) (sym before.1) goes,
  (
    told,
    [],
    subst (λ (x : JobState). IsStepIfAlive listings programs x move told) (sym before.1) is,
    ap (λ (xs : List JobStep). xs ++ listed_step told) before.0 ∙ with_nothing (listed_step told),
    (refl, refl),
  ),
)
  where
    with_nothing : (xs : List JobStep) → xs ≡ xs ++ []
    with_nothing [] = refl
    with_nothing (x ∷ xs) = ap (λ (ys : List JobStep). x ∷ ys) (with_nothing xs)
told_more listings programs (first ∷ moves) j k l move steps told (next, went, (one, rest, is_one, parts, later)) goes is = (
  next,
  went,
  (
    one,
    rest ++ listed_step told,
    is_one,
    ap (λ (xs : List JobStep). xs ++ listed_step told) parts ∙ assoc (listed_step one) rest (listed_step told),
    told_more listings programs moves next k l move rest told later goes is,
  ),
)
  where
    assoc : (xs ys zs : List JobStep) → (xs ++ ys) ++ zs ≡ xs ++ (ys ++ zs)
    assoc [] ys zs = refl
    assoc (x ∷ xs) ys zs = ap (λ (ws : List JobStep). x ∷ ws) (assoc xs ys zs)

-- a list without its last element
pub front_last : (xs : List ℕ) (n : ℕ) → length xs ≡ suc n → (k : ℕ) × (xs ≡ take n xs ++ k ∷ [])
front_last [] n e = absurd (cc)
front_last (x ∷ []) zero e = (x, refl)
front_last (x ∷ y ∷ xs) zero e = absurd (cc)
front_last (x ∷ xs) (suc n) e =
    let rest = front_last xs n (let s : length xs ≡ suc n = omega (arith, e) in s) in
    (rest.0, ap (λ (ys : List ℕ). x ∷ ys) rest.1)

pub front_of : (xs : List ℕ) → false ≡ (length xs == 0) → (k : ℕ) × (xs ≡ take (length xs - 1) xs ++ k ∷ [])
front_of [] e = absurd (true≢false (sym e))
front_of (x ∷ xs) e = front_last (x ∷ xs) (length (x ∷ xs) - 1) (let s : length (x ∷ xs) ≡ suc (length (x ∷ xs) - 1) = omega arith in s)

-- ---- what is told of a live task

stops_here : (j : JobState) (n : ℕ) (t : Task) (refuses : Bool) (e : Effect) (next : JobState) → Stops e → applied j n t refuses e ≡ Some next → ⊥
stops_here j n t refuses (Continues s) next stops is = absurd stops
stops_here j n t refuses (Ends r0 s) next stops is = absurd stops
stops_here j n t refuses (Spawns birth taken refused) next stops is = absurd stops
stops_here j n t true (Calls helper arguments caller) next stops is = absurd (cc)
stops_here j n t false (Calls helper arguments caller) next stops is = absurd (cc)
stops_here j n t true (Traps trap) next stops is = absurd (cc)
stops_here j n t false (Traps trap) next stops is = absurd (cc)

module _ (programs : List Program) (j : JobState) (n : ℕ) (refuses : Bool) (t : Task) (alive : slice_get j.tasks n ≡ Some (Live t)) where
  live_step : (o : Option Program) → slice_get programs t.program ≡ o → step programs j n refuses ≡ task_step programs j n t refuses o
  live_step o there = ap (member_step programs j n refuses) alive ∙ ap (task_step programs j n t refuses) there

  pub no_program : slice_get programs t.program ≡ None → (next : JobState) → step programs j n refuses ≡ Some next → ⊥
  no_program none next is =
      let gone : None ≡ Some next = sym (live_step None none) ∙ is in
      absurd (cc)

  pub told_by : (listings : List (List Placed)) (p : Program) (placed : List Placed) (s : State) (e : Effect) (count : ℕ) (told : Option JobStep) →
      slice_get programs t.program ≡ Some p → slice_get listings t.program ≡ Some placed → count ≡ length j.tasks → s ≡ state_in j.buffer t →
      e ≡ effect p (entries_of programs) (state_in j.buffer t) → IsToldBy placed n count refuses s told e → (next : JobState) →
      step programs j n refuses ≡ Some next → IsStepIfAlive listings programs j (record { number = n; refuses = refuses }) told
  told_by listings p placed s e count None there listing many same is by next goes =
      absurd (stops_here j n t refuses e next by (ap (applied j n t refuses) is ∙ (sym (live_step (Some p) there) ∙ goes)))
  told_by listings p placed s e count (Some told) there listing many same is by next goes = record {
    same_task = by.0;
    task = t;
    alive = alive;
    program = p;
    has_program = there;
    placed = placed;
    has_listing = listing;
    tells = subst (λ (x : Effect). TellsEffect placed (length j.tasks) refuses (state_in j.buffer t) told x) is
        (subst (λ (x : State). TellsEffect placed (length j.tasks) refuses x told e) same
        (subst (λ (k : ℕ). TellsEffect placed k refuses s told e) many by.1));
  }

pub next_taken : (moves : List ReferenceMove) (i : ℕ) (m : ReferenceMove) → slice_get moves i ≡ Some m →
    take (suc i) (map move_of moves) ≡ take i (map move_of moves) ++ move_of m ∷ []
next_taken [] i m e = cc
next_taken (x ∷ xs) zero m e = let s : x ≡ m = cc in ap (λ (y : ReferenceMove). move_of y ∷ []) s
next_taken (x ∷ xs) (suc i) m e = ap (λ (ms : List Move). move_of x ∷ ms) (next_taken xs i m e)

-- the steps of a beginning of the moves, with those of one move more
pub told_next : (listings : List (List Placed)) (programs : List Program) (moves : List ReferenceMove) (i : ℕ) (m : ReferenceMove) (j k l : JobState) (steps more : List JobStep)
    (told : Option JobStep) → slice_get moves i ≡ Some m → AreJobSteps listings programs j (take i (map move_of moves)) steps k →
    step programs k m.number m.refuses ≡ Some l → IsStepIfAlive listings programs k (move_of m) told → more ≡ steps ++ listed_step told →
    AreJobSteps listings programs j (take (i + 1) (map move_of moves)) more l
told_next listings programs moves i m j k l steps more told here before goes is same =
    subst (λ (ms : List Move). AreJobSteps listings programs j ms more l) (sym (next_taken moves i m here) ∙ ap (λ n. take n (map move_of moves)) (sym (add-one i)))
    (subst (λ (xs : List JobStep). AreJobSteps listings programs j (take i (map move_of moves) ++ move_of m ∷ []) xs l) (sym same)
    (told_more listings programs (take i (map move_of moves)) j k l (move_of m) steps told before goes is))

pub length_map : {A B : Type 0} (f : A → B) (xs : List A) → length (map f xs) ≡ length xs
length_map f [] = refl
length_map f (x ∷ xs) = ap (λ (n : ℕ). suc n) (length_map f xs)

-- a program and its instructions, by the number of both
pub program_there : (ps : JobPrograms) (k : ℕ) (p : ReferenceProgram) → slice_get ps.programs.items k ≡ Some p → slice_get (programs_of ps) k ≡ Some (program_of p)
program_there ps k p there = slice_get-map program_of ps.programs.items k ∙ ap (option_map program_of) there

pub listing_there : (ps : JobPrograms) (k : ℕ) (x : Listed) → AreListed (listings_of ps) (programs_of ps) → k < length ps.programs.items → x ≡ get_or ps.listings.items k x →
    slice_get (listings_of ps) k ≡ Some x.placed.items
listing_there ps k x are below read =
    slice_get-map (λ (l : Listed). l.placed.items) ps.listings.items k
    ∙ ap (option_map (λ (l : Listed). l.placed.items)) (slice_get_read ps.listings.items (length ps.listings.items) k x refl
    (omega (arith, are.many, below, length_map (λ (l : Listed). l.placed.items) ps.listings.items, length_map program_of ps.programs.items)) read)

-- the task of a number that is alive
pub alive_there : (tasks : List JobMember) (n : ℕ) (t : LiveTask) → slice_get tasks n ≡ Some (member.Live t) → slice_get (map member_of tasks) n ≡ Some (Live (task_of t))
alive_there tasks n t here = slice_get-map member_of tasks n ∙ ap (option_map member_of) here
