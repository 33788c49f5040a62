-- A complete run without refusals has the answer of its root.
use Rattle.std.proofs.Common.{◌≡◌, ℕ, zero, suc, ◌<◌, ◌≤◌, ◌+◌, inl, inr, List, [], ◌∷◌, ◌++◌, get_or, length, take, drop, slice_get, sum_by, refl, sym, ◌∙◌, arith, ap, subst, Bool, false, Option, Some, None, option_and_then}
use Rattle.std.specs.Prelude.{All, Contains}
use Rattle.std.specs.List.Sorted.{IsPermutation}
use Rattle.std.proofs.lemmas.List.{length-drop, length-take-le, get_or-take, get_or-drop, append-nil}
use Rattle.std.proofs.Math.Seq.{take-length}
use Rattle.std.proofs.lemmas.List.Elements.{All-nil, All-cons, All-head, All-tail, Contains-append_cases, Contains-append_right}
use Rattle.std.proofs.lemmas.List.Sorted.{IsPermutation-refl, IsPermutation-sym, IsPermutation-trans, All-permutation, Contains-permutation, sum_by-IsPermutation}
use Rattle.std.proofs.lemmas.List.Sums.{sum_by-cons}
use Rattle.machine_model.specs.Machine.{Program}
use Rattle.machine_model.specs.JobState.{JobState, Task, Member, Live, Ended, Ending, Move, start, step, run, base_of, size_of, spent_by, AreTiles, IsComplete}
use Rattle.task_trees.specs.Eval.{Finished, Eval, MembersCome, JobComes, root}
use Rattle.task_trees.specs.Answer.{RootComes, NoRefusals, ended_in, joined_bytes, spent_in, HasAnswer}
use Rattle.machine_model.proofs.Tiles.{tiles_step}
use Rattle.task_trees.proofs.TreeSteps.{kept_step}
use Rattle.task_trees.proofs.EvalLemmas.{eval_once}
use Rattle.task_trees.proofs.JoinedBytes.{IsPiece, IsIn, covers, joined_is}

-- ---- a complete job

abbrev NoneLive : List Member → Type 0
NoneLive ms = (n : ℕ) (t : Task) → slice_get ms n ≡ Some (Live t) → ⊥

complete_comes : (programs : List Program) (buffer : List ℕ) (ms : List Member) → NoneLive ms → MembersCome programs buffer ms (ended_in buffer ms)
complete_comes programs buffer [] over = refl
complete_comes programs buffer (Live t ∷ ms) over = absurd (over 0 t refl)
complete_comes programs buffer (Ended e ∷ ms) over = (
  record { ending = e; bytes = take e.size (drop e.base buffer) } ∷ [],
  ended_in buffer ms,
  refl,
  complete_comes programs buffer ms (λ n t there. over (suc n) t there),
  refl,
)

spent_ended : (buffer : List ℕ) (ms : List Member) → NoneLive ms → sum_by spent_by ms ≡ spent_in (ended_in buffer ms)
spent_ended buffer [] over = refl
spent_ended buffer (Live t ∷ ms) over = absurd (over 0 t refl)
spent_ended buffer (Ended e ∷ ms) over =
    let f : Finished = record { ending = e; bytes = take e.size (drop e.base buffer) } in
    let ih = spent_ended buffer ms (λ n t there. over (suc n) t there) in
    sum_by-cons spent_by (Ended e) ms ∙ ap (λ (i : ℕ). e.spent + i) ih
    ∙ sym (sum_by-cons (λ (x : Finished). x.ending.spent) f (ended_in buffer ms))

head_in : (f : Finished) (fs : List Finished) → Contains (f ∷ fs) f
head_in f fs = (0, omega arith, refl)

nothing : (i : ℕ) (x : Member) → let xs : List Member = [] in slice_get xs i ≡ Some x → ⊥
nothing i x e = cc

one_ending : (e d : Ending) → let here : Option Member = Some (Ended e) in here ≡ Some (Ended d) → e ≡ d
one_ending e d is = cc

not_live : (t : Task) (d : Ending) → let here : Option Member = Some (Live t) in here ≡ Some (Ended d) → ⊥
not_live t d is = cc

-- an ended task is among the job's ended tasks
ended_there : (buffer : List ℕ) (ms : List Member) (n : ℕ) (e : Ending) → slice_get ms n ≡ Some (Ended e) →
    Contains (ended_in buffer ms) (record { ending = e; bytes = take e.size (drop e.base buffer) })
ended_there buffer [] n e there = absurd (nothing n (Ended e) there)
ended_there buffer (Live t ∷ ms) zero e there = absurd (not_live t e there)
ended_there buffer (Live t ∷ ms) (suc n) e there = ended_there buffer ms n e there
ended_there buffer (Ended d ∷ ms) zero e there =
    subst (λ (x : Ending). Contains (ended_in buffer (Ended d ∷ ms)) (record { ending = x; bytes = take x.size (drop x.base buffer) }))
    (one_ending d e there) (head_in (record { ending = d; bytes = take d.size (drop d.base buffer) }) (ended_in buffer ms))
ended_there buffer (Ended d ∷ ms) (suc n) e there =
    let f : Finished = record { ending = d; bytes = take d.size (drop d.base buffer) } in
    Contains-append_right (f ∷ []) (ended_in buffer ms) (record { ending = e; bytes = take e.size (drop e.base buffer) })
    (ended_there buffer ms n e there)

-- one of the job's ended tasks has a number
record Numbered (ms : List Member) (f : Finished) : Type 0 where
  pub number : ℕ
  pub there : slice_get ms number ≡ Some (Ended f.ending)

one_alone : (g f : Finished) → Contains (g ∷ []) f → g ≡ f
one_alone g f c =
    let zero_is : c.0 ≡ 0 = let lt = c.1 in omega (arith, lt) in
    ap (λ (i : ℕ). get_or (g ∷ []) i f) (sym zero_is) ∙ c.2

numbered : (buffer : List ℕ) (ms : List Member) (f : Finished) → Contains (ended_in buffer ms) f → Numbered ms f
numbered buffer [] f c = let lt = c.1 in absurd (omega (arith, lt))
numbered buffer (Live t ∷ ms) f c =
    let later = numbered buffer ms f c in record { number = suc later.number; there = later.there }
numbered buffer (Ended d ∷ ms) f c =
    let g : Finished = record { ending = d; bytes = take d.size (drop d.base buffer) } in
    elim (Contains-append_cases (g ∷ []) (ended_in buffer ms) f c) [
      | inl here ↦
          let same : d ≡ f.ending = ap (λ (x : Finished). x.ending) (one_alone g f here) in
          record { number = 0; there = ap (λ (x : Ending). Some (Ended x)) same }
      | inr later ↦ let at = numbered buffer ms f later in record { number = suc at.number; there = at.there }
    ]

-- ---- their bytes

piece_of : (buffer : List ℕ) (e : Ending) → e.base + e.size ≤ length buffer →
    IsPiece buffer (record { ending = e; bytes = take e.size (drop e.base buffer) })
piece_of buffer e inside =
    let d = length-drop e.base buffer in
    let long : length (take e.size (drop e.base buffer)) ≡ e.size = length-take-le e.size (drop e.base buffer) (omega (arith, d, inside)) in
    record {
      inside = omega (arith, long, inside);
      bytes = λ k lt. get_or-take e.size (drop e.base buffer) k 0 (omega (arith, lt, long)) ∙ get_or-drop e.base buffer k 0;
    }

pieces : (buffer : List ℕ) (ms : List Member) → ((n : ℕ) (m : Member) → slice_get ms n ≡ Some m → base_of m + size_of m ≤ length buffer) →
    All (IsPiece buffer) (ended_in buffer ms)
pieces buffer [] inside = All-nil (IsPiece buffer)
pieces buffer (Live t ∷ ms) inside = pieces buffer ms (λ n m there. inside (suc n) m there)
pieces buffer (Ended e ∷ ms) inside =
    All-cons (IsPiece buffer) (record { ending = e; bytes = take e.size (drop e.base buffer) }) (ended_in buffer ms)
    (piece_of buffer e (inside 0 (Ended e) refl)) (pieces buffer ms (λ n m there. inside (suc n) m there))

owned_by : (buffer : List ℕ) (ms : List Member) (at n : ℕ) (m : Member) → NoneLive ms → base_of m + size_of m ≤ length buffer →
    slice_get ms n ≡ Some m → base_of m ≤ at → at < base_of m + size_of m →
    (f : Finished) × Contains (ended_in buffer ms) f × IsIn f at
owned_by buffer ms at n (Live t) over inside there low high = absurd (over n t there)
owned_by buffer ms at n (Ended e) over inside there low high =
    let d = length-drop e.base buffer in
    let long : length (take e.size (drop e.base buffer)) ≡ e.size = length-take-le e.size (drop e.base buffer) (omega (arith, d, inside)) in (
      record { ending = e; bytes = take e.size (drop e.base buffer) },
      ended_there buffer ms n e there,
      record { low = low; high = omega (arith, long, high) },
    )

-- a complete job whose ended tasks are these has their answer
pub answers : (size : ℕ) (j : JobState) (fs : List Finished) → length j.buffer ≡ size → AreTiles j.tasks (length j.buffer) → IsComplete j →
    IsPermutation (ended_in j.buffer j.tasks) fs → HasAnswer size j fs
answers size j fs long tiles over same = record {
  long = long;
  buffer = subst (λ (n : ℕ). j.buffer ≡ joined_bytes n fs) long (joined_is j.buffer fs
      (All-permutation (IsPiece j.buffer) (ended_in j.buffer j.tasks) fs same (pieces j.buffer j.tasks tiles.inside))
      (λ at lt. let o = tiles.owned at lt in
      let f = owned_by j.buffer j.tasks at o.number o.member over (tiles.inside o.number o.member o.there) o.there o.low o.high in
      covers fs f.0 at (Contains-permutation (ended_in j.buffer j.tasks) fs f.0 same f.1) f.2));
  spent = spent_ended j.buffer j.tasks over
      ∙ sym (sum_by-IsPermutation (λ (x : Finished). x.ending.spent) (ended_in j.buffer j.tasks) fs same);
  r0s = λ place r0. (
    (λ h. record {
      finished = record { ending = h.ending; bytes = take h.ending.size (drop h.ending.base j.buffer) };
      is_one = Contains-permutation (ended_in j.buffer j.tasks) fs _ same (ended_there j.buffer j.tasks h.number h.ending h.has_ended);
      there = h.there;
      word = h.word;
    }),
    (λ h. let at = numbered j.buffer j.tasks h.finished
        (Contains-permutation fs (ended_in j.buffer j.tasks) h.finished (IsPermutation-sym (ended_in j.buffer j.tasks) fs same) h.is_one) in
        record { number = at.number; ending = h.finished.ending; has_ended = at.there; there = h.there; word = h.word }),
  );
  tasks = same;
}

-- ---- a run

-- what a run without refusals leads to comes from what its first job comes to
record Back (programs : List Program) (j k : JobState) (ys : List Finished) : Type 0 where
  pub result : List Finished
  pub comes : JobComes programs j result
  pub same : IsPermutation result ys

-- what a chain gives comes from a value in its middle
middle : (o : Option JobState) (f : JobState → Option JobState) (k : JobState) → option_and_then f o ≡ Some k → (mid : JobState) × (o ≡ Some mid) × (f mid ≡ Some k)
middle None f k is = cc
middle (Some mid) f k is = (mid, refl, is)

run_back : (programs : List Program) (j k : JobState) (moves : List Move) (ys : List Finished) → run programs j moves ≡ Some k → NoRefusals moves →
    AreTiles j.tasks (length j.buffer) → JobComes programs k ys → Back programs j k ys × AreTiles k.tasks (length k.buffer)
run_back programs j k [] ys is refused tiles a =
    let e : k ≡ j = cc in (
      record { result = ys; comes = subst (λ (i : JobState). JobComes programs i ys) e a; same = IsPermutation-refl ys },
      subst (λ (i : JobState). AreTiles i.tasks (length i.buffer)) (sym e) tiles,
    )
run_back programs j k (m ∷ ms) ys is refused tiles a =
    let through = middle (step programs j m.number m.refuses) (λ mid. run programs mid ms) k is in
    let taken : m.refuses ≡ false = All-head (λ (x : Move). x.refuses ≡ false) m ms refused in
    let one : step programs j m.number false ≡ Some through.0 = subst (λ (b : Bool). step programs j m.number b ≡ Some through.0) taken through.1 in
    let tiled = tiles_step programs j through.0 m.number false one tiles in
    let later = run_back programs through.0 k ms ys through.2 (All-tail (λ (x : Move). x.refuses ≡ false) m ms refused)
    (subst (λ (i : ℕ). AreTiles through.0.tasks i) (sym tiled.1) tiled.0) a in
    let first = (kept_step programs j through.0 m.number one tiles).back later.0.result later.0.comes in (
      record { result = first.0; comes = first.1; same = IsPermutation-trans first.0 later.0.result ys first.2 later.0.same },
      later.1,
    )

-- ---- the start

-- a list of one element has it alone
one_member : (x y : Member) (n : ℕ) → slice_get (x ∷ []) n ≡ Some y → (n ≡ 0) × (x ≡ y)
one_member x y zero e = (refl, cc)
one_member x y (suc n) e = absurd (nothing n y e)

pub start_tiles : (m : Member) (count : ℕ) → base_of m ≡ 0 → size_of m ≡ count → AreTiles (m ∷ []) count
start_tiles m count base size = record {
  apart = λ n k a b ne e f. absurd (ne ((one_member m a n e).0 ∙ sym (one_member m b k f).0));
  inside = λ n a e. subst (λ (x : Member). base_of x + size_of x ≤ count) (one_member m a n e).1 (omega (arith, base, size));
  owned = λ at lt. record { number = 0; member = m; there = refl; low = omega (arith, base); high = omega (arith, base, size, lt) };
}

-- a run keeps the length of the buffer
tiled_run : (programs : List Program) (j k : JobState) (moves : List Move) → run programs j moves ≡ Some k → AreTiles j.tasks (length j.buffer) →
    length k.buffer ≡ length j.buffer
tiled_run programs j k [] is tiles = let e : k ≡ j = cc in ap (λ (i : JobState). length i.buffer) e
tiled_run programs j k (m ∷ ms) is tiles =
    let through = middle (step programs j m.number m.refuses) (λ mid. run programs mid ms) k is in
    let tiled = tiles_step programs j through.0 m.number m.refuses through.1 tiles in
    tiled_run programs through.0 k ms through.2 (subst (λ (i : ℕ). AreTiles through.0.tasks i) (sym tiled.1) tiled.0) ∙ tiled.1

long_run : (programs : List Program) (credit : ℕ) (buffer : List ℕ) (last : JobState) (moves : List Move) →
    run programs (start credit buffer) moves ≡ Some last → length last.buffer ≡ length buffer
long_run programs credit buffer last moves is =
    tiled_run programs (start credit buffer) last moves is (start_tiles (Live (root credit buffer)) (length buffer) refl refl)

pub one_answer : (programs : List Program) (credit : ℕ) (buffer : List ℕ) (moves : List Move) (last : JobState) →
    run programs (start credit buffer) moves ≡ Some last → NoRefusals moves → IsComplete last →
    (fs : List Finished) × RootComes programs credit buffer fs × HasAnswer (length buffer) last fs
one_answer programs credit buffer moves last is refused over =
    let both = run_back programs (start credit buffer) last moves (ended_in last.buffer last.tasks) is refused
    (start_tiles (Live (root credit buffer)) (length buffer) refl refl)
    (complete_comes programs last.buffer last.tasks over) in
    let back = both.0 in
    let c = back.comes in
    let whole : take (length buffer) (drop 0 buffer) ≡ buffer = take-length buffer in
    let alone : back.result ≡ c.0 = c.4 ∙ ap (λ (l : List Finished). c.0 ++ l) c.3 ∙ append-nil c.0 in (
      back.result,
      subst (λ (l : List Finished). RootComes programs credit buffer l) (sym alone)
          (subst (λ (bytes : List ℕ). Eval programs (root credit buffer) bytes c.0) whole c.2),
      answers (length buffer) last back.result (long_run programs credit buffer last moves is) both.1 over (IsPermutation-sym back.result (ended_in last.buffer last.tasks) back.same),
    )

-- two complete runs without refusals of one job
pub runs_agree : (programs : List Program) (credit : ℕ) (buffer : List ℕ) (moves others : List Move) (last other : JobState) →
    run programs (start credit buffer) moves ≡ Some last → NoRefusals moves → IsComplete last →
    run programs (start credit buffer) others ≡ Some other → NoRefusals others → IsComplete other →
    (last.buffer ≡ other.buffer) × (sum_by spent_by last.tasks ≡ sum_by spent_by other.tasks)
    × IsPermutation (ended_in last.buffer last.tasks) (ended_in other.buffer other.tasks)
runs_agree programs credit buffer moves others last other is refused over is' refused' over' =
    let a = one_answer programs credit buffer moves last is refused over in
    let b = one_answer programs credit buffer others other is' refused' over' in
    let same : a.0 ≡ b.0 = eval_once programs (root credit buffer) buffer a.0 b.0 a.1 b.1 in (
      a.2.buffer ∙ ap (joined_bytes (length buffer)) same ∙ sym b.2.buffer,
      a.2.spent ∙ ap spent_in same ∙ sym b.2.spent,
      IsPermutation-trans (ended_in last.buffer last.tasks) a.0 (ended_in other.buffer other.tasks) a.2.tasks
          (subst (λ (l : List Finished). IsPermutation l (ended_in other.buffer other.tasks)) (sym same)
          (IsPermutation-sym (ended_in other.buffer other.tasks) b.0 b.2.tasks)),
    )
