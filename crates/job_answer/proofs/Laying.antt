-- What tasks left, written as they ended, is the buffer of the root's answer.
use Rattle.std.proofs.Common.{◌≡◌, ℕ, ◌≤◌, ◌+◌, List, [], ◌∷◌, ◌++◌, length, map, take, replicate, sum_by, refl, sym, ◌∙◌, arith, ap, subst}
use Rattle.std.specs.Prelude.{All}
use Rattle.std.specs.List.Sorted.{IsPermutation}
use Rattle.std.proofs.lemmas.List.{append-nil, take_all, length-replicate}
use Rattle.std.proofs.lemmas.List.Elements.{All-head, All-tail, All-cons, All-nil}
use Rattle.std.proofs.lemmas.List.Sums.{sum_by-cons}
use Rattle.std.proofs.lemmas.List.Sorted.{IsPermutation-refl, IsPermutation-sym, IsPermutation-trans, IsPermutation-middle, sum_by-IsPermutation}
use Rattle.machine_model.specs.Memory.{written}
use Rattle.machine_model.specs.Machine.{Program}
use Rattle.machine_model.proofs.Ranges.{length-written}
use Rattle.task_trees.specs.Eval.{Finished, root}
use Rattle.task_trees.specs.Answer.{joined_bytes, spent_in}
use Rattle.task_register.specs.declared.seats.TaskResult.{TaskResult}
use Rattle.task_register.specs.declared.seats.RegisterState.{RegisterState}
use Rattle.job_answer.specs.SpawnTree.{NoneRefused, finished_run}
use Rattle.job_answer.proofs.Answering.{family_answers}
use Rattle.job_answer.proofs.Tiling.{Tiles, end_of, eval_tiles, tiles_permuted}
use Rattle.job_answer.specs.Gathered.{TaskRemains, remains_of, left_of, GatheredTree, laid_from, GivesAnswer, parents_of}

abbrev laid : List ℕ → List TaskRemains → List ℕ
laid memory [] = memory
laid memory (p ∷ ps) = laid (take (length memory) (written memory p.base p.bytes)) ps

laid_over : (memory : List ℕ) (os : List TaskResult) → laid_from memory os ≡ laid memory (map remains_of os)
laid_over memory [] = refl
laid_over memory (o ∷ os) = laid_over (take (length memory) (written memory o.base o.bytes)) os

-- the last one in front
abbrev turned : List Finished → List Finished → List Finished
turned done [] = done
turned done (f ∷ fs) = turned (f ∷ done) fs

turned_same : (done fs : List Finished) → IsPermutation (fs ++ done) (turned done fs)
turned_same done [] = IsPermutation-refl done
turned_same done (f ∷ fs) =
    IsPermutation-trans (f ∷ (fs ++ done)) (fs ++ f ∷ done) (turned (f ∷ done) fs)
    (IsPermutation-sym (fs ++ f ∷ done) (f ∷ (fs ++ done)) (IsPermutation-middle fs f done))
    (turned_same (f ∷ done) fs)

long_joined : (size : ℕ) (fs : List Finished) → All (λ (f : Finished). end_of f ≤ size) fs → length (joined_bytes size fs) ≡ size
long_joined size [] all = length-replicate size 0
long_joined size (f ∷ fs) all =
    let ih = long_joined size fs (All-tail (λ (x : Finished). end_of x ≤ size) f fs all) in
    let first = All-head (λ (x : Finished). end_of x ≤ size) f fs all in
    length-written (joined_bytes size fs) f.ending.base f.bytes (omega (arith, ih, first)) ∙ ih

laid_joined : (size : ℕ) (done fs : List Finished) → All (λ (f : Finished). end_of f ≤ size) done → All (λ (f : Finished). end_of f ≤ size) fs →
    laid (joined_bytes size done) (map left_of fs) ≡ joined_bytes size (turned done fs)
laid_joined size done [] before all = refl
laid_joined size done (f ∷ fs) before all =
    let first = All-head (λ (x : Finished). end_of x ≤ size) f fs all in
    let long = long_joined size done before in
    let same_long = length-written (joined_bytes size done) f.ending.base f.bytes (omega (arith, long, first)) in
    let whole : take (length (joined_bytes size done)) (written (joined_bytes size done) f.ending.base f.bytes) ≡ joined_bytes size (f ∷ done) =
    take_all (length (joined_bytes size done)) (written (joined_bytes size done) f.ending.base f.bytes) (omega (arith, same_long)) in
    ap (λ m. laid m (map left_of fs)) whole
    ∙ laid_joined size (f ∷ done) fs (All-cons (λ (x : Finished). end_of x ≤ size) f done first before) (All-tail (λ (x : Finished). end_of x ≤ size) f fs all)

used_over : (os : List TaskResult) → sum_by (λ (o : TaskResult). o.used) os ≡ sum_by (λ (p : TaskRemains). p.spent) (map remains_of os)
used_over [] = refl
used_over (o ∷ os) = sum_by-cons (λ (x : TaskResult). x.used) o os ∙ ap (λ n. o.used + n) (used_over os) ∙ sym (sum_by-cons (λ (p : TaskRemains). p.spent) (remains_of o) (map remains_of os))

used_left : (fs : List Finished) → spent_in fs ≡ sum_by (λ (p : TaskRemains). p.spent) (map left_of fs)
used_left [] = refl
used_left (f ∷ fs) =
    sum_by-cons (λ (x : Finished). x.ending.spent) f fs ∙ ap (λ n. f.ending.spent + n) (used_left fs) ∙ sym (sum_by-cons (λ (p : TaskRemains). p.spent) (left_of f) (map left_of fs))

pub answers : (programs : List Program) (credit : ℕ) (buffer : List ℕ) (known : RegisterState) (f : GatheredTree programs credit buffer known) → NoneRefused f.tasks →
    GivesAnswer programs credit buffer known f.tasks
answers programs credit buffer known f none =
    let size : ℕ = length buffer in
    let last : List Finished = turned [] f.ended in
    let same : IsPermutation f.ended last = subst (λ l. IsPermutation l last) (append-nil f.ended) (turned_same [] f.ended) in
    let order : IsPermutation last (map finished_run f.tasks) =
    IsPermutation-trans last f.ended (map finished_run f.tasks) (IsPermutation-sym f.ended last same) f.order in
    let by_last = family_answers programs credit buffer (parents_of known) f.tasks last f.family none order in
    let by_end = family_answers programs credit buffer (parents_of known) f.tasks f.ended f.family none f.order in
    let fs = by_last.0 in
    let same_size : 0 + size ≡ size = omega arith in
    let tiles : Tiles 0 size by_end.0 = subst (λ i. Tiles 0 i by_end.0) same_size (eval_tiles programs (root credit buffer) buffer by_end.0 by_end.1) in
    let ended_tiles : Tiles 0 size f.ended =
    tiles_permuted 0 size by_end.0 f.ended
    (IsPermutation-sym f.ended by_end.0 (IsPermutation-trans f.ended (map finished_run f.tasks) by_end.0 f.order by_end.2)) tiles in
    record {
      fs = fs;
      comes = by_last.1;
      all = by_last.2;
      buffer_is = laid_over (replicate size 0) known.over ∙ ap (laid (replicate size 0)) (sym f.told)
          ∙ laid_joined size [] f.ended (All-nil (λ (x : Finished). end_of x ≤ size)) ended_tiles.inside ∙ by_last.3;
      spent = used_over known.over ∙ ap (sum_by (λ (p : TaskRemains). p.spent)) (sym f.told) ∙ sym (used_left f.ended)
          ∙ (spent_turned f.ended last same) ∙ by_last.4;
    }
  where
    spent_turned : (xs ys : List Finished) → IsPermutation xs ys → spent_in xs ≡ spent_in ys
    spent_turned xs ys s = sym (sum_by-IsPermutation (λ (x : Finished). x.ending.spent) xs ys s)
