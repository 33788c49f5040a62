-- What a task comes to is what it comes to by itself, and what each of its children comes to.
use Rattle.std.proofs.Common.{◌≡◌, ℕ, zero, suc, List, [], ◌∷◌, ◌++◌, length, slice_get, inl, inr, refl, sym, ◌∙◌, ap, subst, true, false, Some}
use Rattle.std.proofs.lemmas.List.{append_assoc}
use Rattle.machine_model.specs.Machine.{State, Program, Effect, Continues, Ends, Spawns, Calls, Traps, effect}
use Rattle.machine_model.specs.JobState.{Task, Ending, with_state, ending_of, entries_of}
use Rattle.task_trees.specs.Solo.{SpawnRequest, Proceeds, Solo, SoloWithin}
use Rattle.task_trees.specs.Eval.{Finished, Comes, EvalWithin, Eval, state_with, parent_of, child_at, ChildrenCome, SoloThenChildren}
use Rattle.machine_model.proofs.Splits.{Splits, splits_effect}
use Rattle.task_trees.proofs.EvalLemmas.{one_program, eval_from}

-- The same, from the state of a task at a step on its way: `first` is the task as it was.
record Rest (programs : List Program) (p : Program) (t : Task) (s : State) (result : List Finished) : Type 0 where
  pub asked : List SpawnRequest
  pub r0 : ℕ
  pub last : State
  pub alone : Solo p (entries_of programs) s asked r0 last
  pub children : List Finished
  pub come : ChildrenCome programs t (suc t.children) asked children
  pub is : result ≡ children ++ record { ending = ending_of (with_state t last) last r0; bytes = last.part } ∷ []

-- what the children come to depends on the task's place and base alone
moved_on : (programs : List Program) (t u : Task) (k : ℕ) (asked : List SpawnRequest) (fs : List Finished) → t.place ≡ u.place → t.base ≡ u.base →
    ChildrenCome programs t k asked fs → ChildrenCome programs u k asked fs
moved_on programs t u k [] fs place base c = c
moved_on programs t u k (a ∷ later) fs place base c =
    let same : child_at t k a ≡ child_at u k a = cc in
    (c.0, c.1, c.2, subst (λ (x : Task). Eval programs x a.birth.bytes c.0) same c.3, moved_on programs t u (suc k) later c.1 place base c.4, c.5)

module _ (programs : List Program) (p : Program) where
  by_effect : (t : Task) (bytes : List ℕ) (n : ℕ) (result : List Finished) (e : Effect) → effect p (entries_of programs) (state_with t bytes) ≡ e →
      t.size ≡ length bytes → Splits bytes e → slice_get programs t.program ≡ Some p →
      ((u : Task) (bs : List ℕ) (fs : List Finished) → slice_get programs u.program ≡ Some p → u.size ≡ length bs → EvalWithin programs n u bs fs →
      Rest programs p u (state_with u bs) fs) →
      Comes (EvalWithin programs n) t result e → Rest programs p t (state_with t bytes) result
  by_effect t bytes n result (Continues next) is size splits there ih c =
      let r = ih (with_state t next) next.part result there refl c in
      record {
        asked = r.asked;
        r0 = r.r0;
        last = r.last;
        alone = (suc r.alone.0, rw is r.alone.1);
        children = r.children;
        come = moved_on programs (with_state t next) t (suc t.children) r.asked r.children refl refl r.come;
        is = r.is;
      }
  by_effect t bytes n result (Ends r0 last) is size splits there ih c =
      let same : t.size ≡ length last.part = size ∙ sym (ap length splits) in
      record {
        asked = [];
        r0 = r0;
        last = last;
        alone = (1, rw is (refl, refl, refl));
        children = [];
        come = refl;
        is = c ∙ ap (λ (i : ℕ). let ending : Ending = record (ending_of t last r0) { size = i } in let f : Finished = record { ending = ending; bytes = last.part } in f ∷ []) same;
      }
  by_effect t bytes n result (Spawns birth taken refused) is size splits there ih c =
      let r = ih (parent_of t taken) taken.part c.0 there refl c.2 in
      let a : SpawnRequest = record { birth = birth; at = length taken.part; refused = false } in
      record {
        asked = a ∷ r.asked;
        r0 = r.r0;
        last = r.last;
        alone = (suc r.alone.0, rw is (r.asked, inl (refl, r.alone.1)));
        children = c.1 ++ r.children;
        come = (c.1, r.children, refl, (n, c.3), moved_on programs (parent_of t taken) t (suc (suc t.children)) r.asked r.children refl refl r.come, refl);
        is = c.4 ∙ ap (λ (l : List Finished). c.1 ++ l) r.is
            ∙ sym (append_assoc c.1 r.children (record { ending = ending_of (with_state t r.last) r.last r.r0; bytes = r.last.part } ∷ []));
      }
  by_effect t bytes n result (Calls helper arguments caller) is size splits there ih c = absurd c
  by_effect t bytes n result (Traps trap) is size splits there ih c = absurd c

  within : (n : ℕ) (t : Task) (bytes : List ℕ) (result : List Finished) → slice_get programs t.program ≡ Some p → t.size ≡ length bytes →
      EvalWithin programs n t bytes result → Rest programs p t (state_with t bytes) result
  within zero t bytes result there size c = absurd c
  within (suc n) t bytes result there size c =
      let same : c.0 ≡ p = one_program c.0 p (slice_get programs t.program) c.1 there in
      by_effect t bytes n result (effect p (entries_of programs) (state_with t bytes)) refl size
      (splits_effect p (entries_of programs) (state_with t bytes)) there (λ u bs fs x y z. within n u bs fs x y z)
      (subst (λ (q : Program). Comes (EvalWithin programs n) t result (effect q (entries_of programs) (state_with t bytes))) same c.2)

program_there : (programs : List Program) (n : ℕ) (t : Task) (bytes : List ℕ) (result : List Finished) → EvalWithin programs n t bytes result →
    (p : Program) × (slice_get programs t.program ≡ Some p)
program_there programs zero t bytes result c = absurd c
program_there programs (suc n) t bytes result c = (c.0, c.1)

pub eval_by_solo : (programs : List Program) (t : Task) (bytes : List ℕ) (result : List Finished) → t.size ≡ length bytes →
    Eval programs t bytes result → SoloThenChildren programs t bytes result
eval_by_solo programs t bytes result size c =
    let p = program_there programs c.0 t bytes result c.1 in
    let r = within programs p.0 c.0 t bytes result p.1 size c.1 in
    record { program = p.0; there = p.1; asked = r.asked; r0 = r.r0; last = r.last; alone = r.alone; children = r.children; come = r.come; is = r.is }

-- ---- and back

module _ (programs : List Program) (p : Program) where
  abbrev end_of : Task → State → ℕ → Finished
  end_of t last r0 = record { ending = ending_of (with_state t last) last r0; bytes = last.part }

  back_by_effect : (t : Task) (bytes : List ℕ) (n : ℕ) (r0 : ℕ) (last : State) (asked : List SpawnRequest) (children : List Finished) (e : Effect) →
      effect p (entries_of programs) (state_with t bytes) ≡ e → t.size ≡ length bytes → Splits bytes e → slice_get programs t.program ≡ Some p →
      ((u : Task) (bs : List ℕ) (later : List SpawnRequest) (others : List Finished) → slice_get programs u.program ≡ Some p → u.size ≡ length bs →
      SoloWithin p (entries_of programs) r0 last n later (state_with u bs) → ChildrenCome programs u (suc u.children) later others →
      Eval programs u bs (others ++ end_of u last r0 ∷ [])) →
      Proceeds (SoloWithin p (entries_of programs) r0 last n) asked r0 last e → ChildrenCome programs t (suc t.children) asked children →
      Comes (Eval programs) t (children ++ end_of t last r0 ∷ []) e
  back_by_effect t bytes n r0 last asked children (Continues next) is size splits there ih on come =
      ih (with_state t next) next.part asked children there refl on
      (moved_on programs t (with_state t next) (suc t.children) asked children refl refl come)
  back_by_effect t bytes n r0 last [] children (Ends word state) is size splits there ih (none, same_word, same_state) come =
      let same : length last.part ≡ t.size = ap (λ (s : State). length s.part) (sym same_state) ∙ ap length splits ∙ sym size in
      ends come same same_word same_state
    where
      ends : children ≡ [] → length last.part ≡ t.size → word ≡ r0 → state ≡ last →
          children ++ end_of t last r0 ∷ [] ≡ record { ending = ending_of t state word; bytes = state.part } ∷ []
      ends none same w s =
          ap (λ (l : List Finished). l ++ end_of t last r0 ∷ []) none
          ∙ ap (λ (i : ℕ). let ending : Ending = record (ending_of t last r0) { size = i } in
          let f : Finished = record { ending = ending; bytes = last.part } in f ∷ []) same
          ∙ ap (λ (x : State). let f : Finished = record { ending = ending_of t x r0; bytes = x.part } in f ∷ []) (sym s)
          ∙ ap (λ (x : ℕ). let f : Finished = record { ending = ending_of t state x; bytes = state.part } in f ∷ []) (sym w)
  back_by_effect t bytes n r0 last (a ∷ later) children (Ends word state) is size splits there ih (none, same_word, same_state) come =
      absurd (cc)
  back_by_effect t bytes n r0 last asked children (Spawns birth taken refused) is size splits there ih (later, inl (same, on)) come =
      let a : SpawnRequest = record { birth = birth; at = length taken.part; refused = false } in
      let c : ChildrenCome programs t (suc t.children) (a ∷ later) children =
      subst (λ (l : List SpawnRequest). ChildrenCome programs t (suc t.children) l children) same come in (
        c.1 ++ end_of t last r0 ∷ [],
        c.0,
        ih (parent_of t taken) taken.part later c.1 there refl on
            (moved_on programs t (parent_of t taken) (suc (suc t.children)) later c.1 refl refl c.4),
        c.3,
        ap (λ (l : List Finished). l ++ end_of t last r0 ∷ []) c.5 ∙ append_assoc c.0 c.1 (end_of t last r0 ∷ []),
      )
  back_by_effect t bytes n r0 last asked children (Spawns birth taken refused) is size splits there ih (later, inr (same, on)) come =
      let a : SpawnRequest = record { birth = birth; at = length taken.part; refused = true } in
      let c : ChildrenCome programs t (suc t.children) (a ∷ later) children =
      subst (λ (l : List SpawnRequest). ChildrenCome programs t (suc t.children) l children) same come in
      absurd (let e : true ≡ false = c.2 in cc)
  back_by_effect t bytes n r0 last asked children (Calls helper arguments caller) is size splits there ih on come = absurd on
  back_by_effect t bytes n r0 last asked children (Traps trap) is size splits there ih on come = absurd on

  back_within : (n : ℕ) (t : Task) (bytes : List ℕ) (r0 : ℕ) (last : State) (asked : List SpawnRequest) (children : List Finished) →
      slice_get programs t.program ≡ Some p → t.size ≡ length bytes → SoloWithin p (entries_of programs) r0 last n asked (state_with t bytes) →
      ChildrenCome programs t (suc t.children) asked children → Eval programs t bytes (children ++ end_of t last r0 ∷ [])
  back_within zero t bytes r0 last asked children there size on come = absurd on
  back_within (suc n) t bytes r0 last asked children there size on come =
      eval_from programs t bytes (children ++ end_of t last r0 ∷ []) p there
      (back_by_effect t bytes n r0 last asked children (effect p (entries_of programs) (state_with t bytes)) refl size
      (splits_effect p (entries_of programs) (state_with t bytes)) there
      (λ u bs later others x y z w. back_within n u bs r0 last later others x y z w) on come)

pub eval_of_solo : (programs : List Program) (t : Task) (bytes : List ℕ) (result : List Finished) → t.size ≡ length bytes →
    SoloThenChildren programs t bytes result → Eval programs t bytes result
eval_of_solo programs t bytes result size s =
    subst (λ (fs : List Finished). Eval programs t bytes fs) (sym s.is)
    (back_within programs s.program s.alone.0 t bytes s.r0 s.last s.asked s.children s.there size s.alone.1 s.come)
