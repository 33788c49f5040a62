-- Tasks that agree from parent to child have the buffer and the credit spent of the root's answer.
use Rattle.std.proofs.Common.{◌≡◌, ℕ, ◌+◌, List, length, map, sym, arith, subst}
use Rattle.std.specs.List.Sorted.{IsPermutation}
use Rattle.std.proofs.lemmas.List.Sorted.{IsPermutation-sym, IsPermutation-trans, sum_by-IsPermutation}
use Rattle.machine_model.specs.Machine.{Program}
use Rattle.task_trees.specs.Eval.{Finished, root}
use Rattle.task_trees.specs.Answer.{RootComes, joined_bytes, spent_in}
use Rattle.job_answer.specs.SpawnTree.{TaskRun, finished_run, IsSpawnTree, NoneRefused}
use Rattle.job_answer.proofs.Folding.{family_comes}
use Rattle.job_answer.proofs.Tiling.{Tiles, eval_tiles, joined_permuted}

pub family_answers : (programs : List Program) (credit : ℕ) (buffer : List ℕ) (parents : List ℕ) (tasks : List TaskRun) (ended : List Finished) →
    IsSpawnTree programs credit buffer parents tasks → NoneRefused tasks → IsPermutation ended (map finished_run tasks) →
    (fs : List Finished) × RootComes programs credit buffer fs × IsPermutation (map finished_run tasks) fs
    × (joined_bytes (length buffer) ended ≡ joined_bytes (length buffer) fs) × (spent_in ended ≡ spent_in fs)
family_answers programs credit buffer parents tasks ended family none order =
    let comes = family_comes programs credit buffer parents tasks family none in
    let fs = comes.0 in
    let all : IsPermutation ended fs = IsPermutation-trans ended (map finished_run tasks) fs order comes.2 in
    let size : 0 + length buffer ≡ length buffer = omega arith in
    let tiles : Tiles 0 (length buffer) fs = subst (λ i. Tiles 0 i fs) size (eval_tiles programs (root credit buffer) buffer fs comes.1) in
    let back : IsPermutation fs ended = IsPermutation-sym ended fs all in (
      fs,
      comes.1,
      comes.2,
      sym (joined_permuted (length buffer) fs ended back tiles),
      sum_by-IsPermutation (λ (f : Finished). f.ending.spent) fs ended back,
    )
