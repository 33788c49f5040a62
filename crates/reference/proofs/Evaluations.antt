-- What the tasks of a path come to stays under an instruction of the last of them.
use Rattle.std.proofs.Common.{◌≡◌, ◌↔◌, arith, ◌≤◌, false, nat_lt, length, ℕ, zero, suc, List, [], ◌∷◌, ◌++◌, map, reverse, slice_get, refl, sym, ◌∙◌, ap, subst, Some, None, option_map}
use Rattle.std.proofs.lemmas.Bool.Decides.{nat_tests}
use Rattle.std.proofs.lemmas.Option.{slice_get-map}
use Rattle.std.proofs.lemmas.List.{append_assoc, append-nil, map-append, reverse-append}
use Rattle.machine_model.specs.Machine.{State, Program, Birth, Effect, Continues, Ends, Spawns, Calls, Traps, Trap, effect}
use Rattle.machine_model.specs.JobState.{Task, entries_of, with_state, child_of, ending_of}
use Rattle.task_trees.specs.Eval.{Comes, Eval, EvalWithin, Finished, parent_of, root, state_with}
use Rattle.task_trees.specs.Answer.{RootComes}
use Rattle.task_trees.proofs.EvalLemmas.{eval_from, eval_to}
use Rattle.reference.specs.Records.{program_of, task_of}
use Rattle.reference.specs.Evaluating.{DoneThen, PathComes, finished_of}
use Rattle.reference.specs.declared.evaluating.FinishedTask.{FinishedTask}
use Rattle.reference.specs.declared.evaluating.Pending.{Pending}
use Rattle.reference.specs.declared.records.ReferenceProgram.{ReferenceProgram}

-- the last of a path is its first, turned round
pub last_first : (path : List Pending) (p : Pending) → reverse (path ++ p ∷ []) ≡ p ∷ reverse path
last_first path p = reverse-append path (p ∷ [])

-- ---- one task by its effect

module _ (programs : List Program) (t : Task) (bytes : List ℕ) (p : Program) (e : Effect) (there : slice_get programs t.program ≡ Some p)
    (is : effect p (entries_of programs) (state_with t bytes) ≡ e) where
  pub leads : (own : List Finished) → Eval programs t bytes own → Comes (Eval programs) t own e
  leads own a = subst (λ (f : Effect). Comes (Eval programs) t own f) is (eval_to programs t bytes own p there a)

  pub led : (own : List Finished) → Comes (Eval programs) t own e → Eval programs t bytes own
  led own a = eval_from programs t bytes own p there (subst (λ (f : Effect). Comes (Eval programs) t own f) (sym is) a)

-- ---- the first of the tasks, and what is done

module _ (programs : List Program) (done : List FinishedTask) (next : Pending) (ps : List Pending) (p : Program)
    (there : slice_get programs next.task.program ≡ Some p) where
  abbrev pub Is : Effect → Type 0
  Is e = effect p (entries_of programs) (state_with (task_of next.task) next.bytes.items) ≡ e

  -- it goes on
  pub on : (s : State) (then : Pending) → Is (Continues s) → task_of then.task ≡ with_state (task_of next.task) s → then.bytes.items ≡ s.part →
      (fs : List Finished) → DoneThen programs done (next ∷ ps) fs ↔ DoneThen programs done (then ∷ ps) fs
  on s then is task bytes fs = (
    λ a.
        let own = leads programs (task_of next.task) next.bytes.items p (Continues s) there is a.1.0 a.1.2 in
        (a.0, (a.1.0, a.1.1, subst (λ bs. Eval programs (task_of then.task) bs a.1.0) (sym bytes) (subst (λ (t : Task). Eval programs t s.part a.1.0) (sym task) own), a.1.3, a.1.4), a.2),
    λ a.
        let own = subst (λ (t : Task). Eval programs t s.part a.1.0) task (subst (λ bs. Eval programs (task_of then.task) bs a.1.0) bytes a.1.2) in
        (a.0, (a.1.0, a.1.1, led programs (task_of next.task) next.bytes.items p (Continues s) there is a.1.0 own, a.1.3, a.1.4), a.2),
  )

  -- it ends
  pub off : (r0 : ℕ) (s : State) (f : FinishedTask) → Is (Ends r0 s) →
      finished_of f ≡ record { ending = ending_of (task_of next.task) s r0; bytes = s.part } →
      (fs : List Finished) → DoneThen programs done (next ∷ ps) fs ↔ DoneThen programs (done ++ f ∷ []) ps fs
  off r0 s f is same fs =
      let told : (later : List Finished) → map finished_of done ++ (finished_of f ∷ later) ≡ map finished_of (done ++ f ∷ []) ++ later =
      λ later. sym (append_assoc (map finished_of done) (finished_of f ∷ []) later)
      ∙ ap (λ (xs : List Finished). xs ++ later) (sym (map-append finished_of done (f ∷ []))) in (
        λ a.
            let own : a.1.0 ≡ finished_of f ∷ [] =
            leads programs (task_of next.task) next.bytes.items p (Ends r0 s) there is a.1.0 a.1.2 ∙ ap (λ (x : Finished). x ∷ []) (sym same) in
            (a.1.1, a.1.3, a.2 ∙ ap (λ (xs : List Finished). map finished_of done ++ xs) (a.1.4 ∙ ap (λ (xs : List Finished). xs ++ a.1.1) own) ∙ told a.1.1),
        λ a. (
          finished_of f ∷ a.0,
          (finished_of f ∷ [], a.0, led programs (task_of next.task) next.bytes.items p (Ends r0 s) there is (finished_of f ∷ []) (ap (λ (x : Finished). x ∷ []) same), a.1, refl),
          a.2 ∙ sym (told a.0),
        ),
      )

  -- it spawns
  pub spawning : (birth : Birth) (taken refused : State) (parent born : Pending) → Is (Spawns birth taken refused) →
      task_of parent.task ≡ parent_of (task_of next.task) taken → parent.bytes.items ≡ taken.part →
      task_of born.task ≡ child_of (task_of next.task) taken birth → born.bytes.items ≡ birth.bytes →
      (fs : List Finished) → DoneThen programs done (next ∷ ps) fs ↔ DoneThen programs done (born ∷ parent ∷ ps) fs
  spawning birth taken refused parent born is e1 e2 e3 e4 fs = (
    λ a.
        let c = leads programs (task_of next.task) next.bytes.items p (Spawns birth taken refused) there is a.1.0 a.1.2 in (
          a.0,
          (
            c.1,
            c.0 ++ a.1.1,
            subst (λ bs. Eval programs (task_of born.task) bs c.1) (sym e4) (subst (λ (t : Task). Eval programs t birth.bytes c.1) (sym e3) c.3),
            (
              c.0,
              a.1.1,
              subst (λ bs. Eval programs (task_of parent.task) bs c.0) (sym e2) (subst (λ (t : Task). Eval programs t taken.part c.0) (sym e1) c.2),
              a.1.3,
              refl,
            ),
            a.1.4 ∙ ap (λ (xs : List Finished). xs ++ a.1.1) c.4 ∙ append_assoc c.1 c.0 a.1.1,
          ),
          a.2,
        ),
    λ a.
        let child = subst (λ (t : Task). Eval programs t birth.bytes a.1.0) e3 (subst (λ bs. Eval programs (task_of born.task) bs a.1.0) e4 a.1.2) in
        let b = a.1.3 in
        let own = subst (λ (t : Task). Eval programs t taken.part b.0) e1 (subst (λ bs. Eval programs (task_of parent.task) bs b.0) e2 b.2) in (
          a.0,
          (
            a.1.0 ++ b.0,
            b.1,
            led programs (task_of next.task) next.bytes.items p (Spawns birth taken refused) there is (a.1.0 ++ b.0) (b.0, a.1.0, own, child, refl),
            b.3,
            a.1.4 ∙ ap (λ (xs : List Finished). a.1.0 ++ xs) b.4 ∙ sym (append_assoc a.1.0 b.0 b.1),
          ),
          a.2,
        ),
  )

  -- it traps, or calls a helper of a caller's
  pub trapping : (trap : Trap) → Is (Traps trap) → (fs : List Finished) → DoneThen programs done (next ∷ ps) fs → ⊥
  trapping trap is fs a = leads programs (task_of next.task) next.bytes.items p (Traps trap) there is a.1.0 a.1.2

  pub calling : (helper : ℕ) (arguments : List ℕ) (s : State) → Is (Calls helper arguments s) → (fs : List Finished) → DoneThen programs done (next ∷ ps) fs → ⊥
  calling helper arguments s is fs a = leads programs (task_of next.task) next.bytes.items p (Calls helper arguments s) there is a.1.0 a.1.2

no_steps : (programs : List Program) (t : Task) (bytes : List ℕ) (own : List Finished) (n : ℕ) → slice_get programs t.program ≡ None →
    EvalWithin programs n t bytes own → ⊥
no_steps programs t bytes own zero is a = a
no_steps programs t bytes own (suc n) is a = let clash : Some a.0 ≡ None = sym a.1 ∙ is in cc

-- a task whose program isn't there comes to nothing
pub missing : (programs : List Program) (done : List FinishedTask) (next : Pending) (ps : List Pending) → slice_get programs next.task.program ≡ None →
    (fs : List Finished) → DoneThen programs done (next ∷ ps) fs → ⊥
missing programs done next ps is fs a =
    let e = a.1.2 in no_steps programs (task_of next.task) next.bytes.items a.1.0 e.0 is e.1

-- ---- the last of a path

module _ (programs : List Program) (done : List FinishedTask) (before : List Pending) (next : Pending) (p : Program)
    (there : slice_get programs next.task.program ≡ Some p) where
  pub path_on : (s : State) (then : Pending) (path : List Pending) → Is programs done next (reverse before) p there (Continues s) →
      task_of then.task ≡ with_state (task_of next.task) s → then.bytes.items ≡ s.part → path ≡ before ++ then ∷ [] →
      (fs : List Finished) → PathComes programs (before ++ next ∷ []) done fs ↔ PathComes programs path done fs
  path_on s then path is task bytes e fs =
      rw (e, last_first before next, last_first before then) (on programs done next (reverse before) p there s then is task bytes fs)

  pub path_off : (r0 : ℕ) (s : State) (f : FinishedTask) (after : List FinishedTask) → Is programs done next (reverse before) p there (Ends r0 s) →
      finished_of f ≡ record { ending = ending_of (task_of next.task) s r0; bytes = s.part } → after ≡ done ++ f ∷ [] →
      (fs : List Finished) → PathComes programs (before ++ next ∷ []) done fs ↔ PathComes programs before after fs
  path_off r0 s f after is same e fs = rw (e, last_first before next) (off programs done next (reverse before) p there r0 s f is same fs)

  pub path_spawning : (birth : Birth) (taken refused : State) (parent born : Pending) (mid path : List Pending) →
      Is programs done next (reverse before) p there (Spawns birth taken refused) →
      task_of parent.task ≡ parent_of (task_of next.task) taken → parent.bytes.items ≡ taken.part →
      task_of born.task ≡ child_of (task_of next.task) taken birth → born.bytes.items ≡ birth.bytes →
      mid ≡ before ++ parent ∷ [] → path ≡ mid ++ born ∷ [] →
      (fs : List Finished) → PathComes programs (before ++ next ∷ []) done fs ↔ PathComes programs path done fs
  path_spawning birth taken refused parent born mid path is e1 e2 e3 e4 e f fs =
      rw (f, last_first mid born, e, last_first before parent, last_first before next)
      (spawning programs done next (reverse before) p there birth taken refused parent born is e1 e2 e3 e4 fs)

  pub path_trapping : (trap : Trap) → Is programs done next (reverse before) p there (Traps trap) →
      (fs : List Finished) → PathComes programs (before ++ next ∷ []) done fs → ⊥
  path_trapping trap is fs a = trapping programs done next (reverse before) p there trap is fs (rw (last_first before next) at a)

  pub path_calling : (helper : ℕ) (arguments : List ℕ) (s : State) → Is programs done next (reverse before) p there (Calls helper arguments s) →
      (fs : List Finished) → PathComes programs (before ++ next ∷ []) done fs → ⊥
  path_calling helper arguments s is fs a = calling programs done next (reverse before) p there helper arguments s is fs (rw (last_first before next) at a)

pub path_missing : (programs : List Program) (done : List FinishedTask) (before : List Pending) (next : Pending) →
    slice_get programs next.task.program ≡ None → (fs : List Finished) → PathComes programs (before ++ next ∷ []) done fs → ⊥
path_missing programs done before next is fs a = missing programs done next (reverse before) is fs (rw (last_first before next) at a)

-- a program by its number
pub program_there : (programs : List ReferenceProgram) (n : ℕ) (p : ReferenceProgram) → slice_get programs n ≡ Some p →
    slice_get (map program_of programs) n ≡ Some (program_of p)
program_there programs n p is = slice_get-map program_of programs n ∙ ap (option_map program_of) is

pub program_gone : (programs : List ReferenceProgram) (n : ℕ) → slice_get programs n ≡ None → slice_get (map program_of programs) n ≡ None
program_gone programs n is = slice_get-map program_of programs n ∙ ap (option_map program_of) is

past_none : {X : Type 0} (xs : List X) (n : ℕ) → length xs ≤ n → slice_get xs n ≡ None
past_none [] n le = refl
past_none (x ∷ xs) zero le = absurd (omega (arith, le))
past_none (x ∷ xs) (suc n) le = past_none xs n (omega (arith, le))

pub none_past : {X : Type 0} (xs : List X) (n : ℕ) → nat_lt n (length xs) ≡ false → slice_get xs n ≡ None
none_past xs n out = past_none xs n (grind (arith, nat_tests))

-- ---- a path's start and its end

-- the root alone
pub path_starts : (programs : List Program) (credit : ℕ) (buffer : List ℕ) (none path : List Pending) (done : List FinishedTask) (p : Pending) →
    task_of p.task ≡ root credit buffer → p.bytes.items ≡ buffer → none ≡ [] → path ≡ none ++ p ∷ [] → done ≡ [] →
    (fs : List Finished) → RootComes programs credit buffer fs ↔ PathComes programs path done fs
path_starts programs credit buffer none path done p task bytes e f g fs = rw (f, e, g) (
  λ a. (
    fs,
    (
      fs,
      [],
      subst (λ bs. Eval programs (task_of p.task) bs fs) (sym bytes) (subst (λ (t : Task). Eval programs t buffer fs) (sym task) a),
      refl,
      sym (append-nil fs),
    ),
    refl,
  ),
  λ a.
      let own = subst (λ (t : Task). Eval programs t buffer a.1.0) task (subst (λ bs. Eval programs (task_of p.task) bs a.1.0) bytes a.1.2) in
      let same : a.1.0 ≡ fs = sym (append-nil a.1.0) ∙ ap (λ (xs : List Finished). a.1.0 ++ xs) (sym a.1.3) ∙ sym a.1.4 ∙ sym a.2 in
      subst (λ (xs : List Finished). Eval programs (root credit buffer) buffer xs) same own,
)

-- nothing is left of it
pub path_over : (programs : List Program) (path : List Pending) (done : List FinishedTask) → path ≡ [] →
    PathComes programs path done (map finished_of done)
path_over programs path done e = rw e ([], refl, sym (append-nil (map finished_of done)))

-- what is said of the path and its last task is said of the path that they make
pub path_popped : (programs : List Program) (path before after : List Pending) (done done' : List FinishedTask) (next : Pending) → path ≡ before ++ next ∷ [] →
    ((fs : List Finished) → PathComes programs (before ++ next ∷ []) done fs ↔ PathComes programs after done' fs) →
    (fs : List Finished) → PathComes programs path done fs ↔ PathComes programs after done' fs
path_popped programs path before after done done' next e same fs = rw e (same fs)

pub path_caught : (programs : List Program) (path before : List Pending) (done : List FinishedTask) (next : Pending) → path ≡ before ++ next ∷ [] →
    ((fs : List Finished) → PathComes programs (before ++ next ∷ []) done fs → ⊥) → (fs : List Finished) → PathComes programs path done fs → ⊥
path_caught programs path before done next e none fs a = none fs (rw e at a)
