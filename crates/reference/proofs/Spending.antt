-- What an evaluation has spent grows with each instruction.
use Rattle.std.proofs.Common.{◌≡◌, ℕ, zero, suc, ◌+◌, ◌<◌, ◌≤◌, List, [], ◌∷◌, ◌++◌, map, reverse, sum_by, refl, sym, ◌∙◌, ap, subst, arith}
use Rattle.std.proofs.lemmas.List.{reverse-append}
use Rattle.std.proofs.lemmas.List.Sums.{sum_by-cons, sum_by-append, sum_by_push}
use Rattle.machine_model.specs.Machine.{Program, Effect, Continues, Ends, Spawns, Calls, Traps, effect}
use Rattle.machine_model.specs.JobState.{Task, with_state, entries_of}
use Rattle.machine_model.proofs.Pays.{Pays, pays_effect}
use Rattle.task_trees.specs.Answer.{spent_in}
use Rattle.task_trees.specs.Eval.{Comes, EvalWithin, Finished, parent_of, state_with}
use Rattle.reference.specs.Records.{task_of}
use Rattle.reference.specs.Evaluating.{AllCome, PathComes, finished_of, used_so_far}
use Rattle.reference.specs.declared.evaluating.FinishedTask.{FinishedTask}
use Rattle.reference.specs.declared.evaluating.Pending.{Pending}

-- what a task has used is spent in the end
by_effect : (on : Task → List ℕ → List Finished → Type 0) → ((u : Task) (bytes : List ℕ) (fs : List Finished) → on u bytes fs → u.used ≤ spent_in fs) →
    (t : Task) (e : Effect) (fs : List Finished) → Pays t.used e → Comes on t fs e → t.used ≤ spent_in fs
by_effect on ih t (Continues next) fs pays c = let later = ih (with_state t next) next.part fs c in omega (arith, later, pays)
by_effect on ih t (Ends r0 last) fs pays c =
    let total : spent_in fs ≡ 0 + last.used = ap spent_in c in omega (arith, total, pays)
by_effect on ih t (Spawns birth taken refused) fs pays c =
    let later = ih (parent_of t taken) taken.part c.0 c.2 in
    let total : spent_in fs ≡ spent_in c.1 + spent_in c.0 =
    ap spent_in c.4 ∙ sum_by-append (λ (f : Finished). f.ending.spent) c.1 c.0 in
    omega (arith, later, total, pays.0)
by_effect on ih t (Calls helper arguments caller) fs pays c = absurd c
by_effect on ih t (Traps trap) fs pays c = absurd c

within_spends : (programs : List Program) (n : ℕ) (t : Task) (bytes : List ℕ) (fs : List Finished) → EvalWithin programs n t bytes fs → t.used ≤ spent_in fs
within_spends programs zero t bytes fs c = absurd c
within_spends programs (suc n) t bytes fs c =
    by_effect (EvalWithin programs n) (λ u bs gs d. within_spends programs n u bs gs d) t
    (effect c.0 (entries_of programs) (state_with t bytes)) fs (pays_effect c.0 (entries_of programs) (state_with t bytes)) c.2

abbrev used_by : List Pending → ℕ
used_by ps = sum_by (λ (p : Pending). p.task.used) ps

all_spend : (programs : List Program) (ps : List Pending) (fs : List Finished) → AllCome programs ps fs → used_by ps ≤ spent_in fs
all_spend programs [] fs a = omega arith
all_spend programs (p ∷ ps) fs a =
    let own = within_spends programs a.2.0 (task_of p.task) p.bytes.items a.0 a.2.1 in
    let later = all_spend programs ps a.1 a.3 in
    let total : spent_in fs ≡ spent_in a.0 + spent_in a.1 = ap spent_in a.4 ∙ sum_by-append (λ (f : Finished). f.ending.spent) a.0 a.1 in
    let used = sum_by-cons (λ (q : Pending). q.task.used) p ps in
    omega (arith, own, later, total, used)

turned : (ps : List Pending) → used_by (reverse ps) ≡ used_by ps
turned [] = refl
turned (p ∷ ps) =
    let back : used_by (reverse (p ∷ ps)) ≡ used_by (reverse ps) + p.task.used =
    ap used_by (reverse-append (p ∷ []) ps) ∙ sum_by_push (λ (q : Pending). q.task.used) (reverse ps) p in
    let used = sum_by-cons (λ (q : Pending). q.task.used) p ps in
    omega (arith, back, used, turned ps)

done_spent : (done : List FinishedTask) → spent_in (map finished_of done) ≡ sum_by (λ (f : FinishedTask). f.ending.spent) done
done_spent [] = refl
done_spent (f ∷ fs) =
    let l = sum_by-cons (λ (x : Finished). x.ending.spent) (finished_of f) (map finished_of fs) in
    let r = sum_by-cons (λ (x : FinishedTask). x.ending.spent) f fs in
    l ∙ ap (λ (n : ℕ). f.ending.spent + n) (done_spent fs) ∙ sym r

pub path_spends : (programs : List Program) (path : List Pending) (done : List FinishedTask) (fs : List Finished) → PathComes programs path done fs →
    used_so_far path done ≤ spent_in fs
path_spends programs path done fs a =
    let later = all_spend programs (reverse path) a.0 a.1 in
    let total : spent_in fs ≡ spent_in (map finished_of done) + spent_in a.0 =
    ap spent_in a.2 ∙ sum_by-append (λ (f : Finished). f.ending.spent) (map finished_of done) a.0 in
    omega (arith, later, total, turned path, done_spent done)

-- ---- one instruction

-- the effect on a task, told as it is
pub pays_as : (p : Program) (programs : List Program) (t : Task) (bytes : List ℕ) (e : Effect) →
    effect p (entries_of programs) (state_with t bytes) ≡ e → Pays t.used e
pays_as p programs t bytes e is = subst (Pays t.used) is (pays_effect p (entries_of programs) (state_with t bytes))

pub goes_spends : (path path' : List Pending) (done : List FinishedTask) (next then : Pending) → next.task.used < then.task.used →
    path' ≡ path ++ then ∷ [] → used_so_far (path ++ next ∷ []) done < used_so_far path' done
goes_spends path path' done next then less e =
    let before = sum_by_push (λ (q : Pending). q.task.used) path next in
    let after : used_by path' ≡ used_by path + then.task.used = ap used_by e ∙ sum_by_push (λ (q : Pending). q.task.used) path then in
    omega (arith, before, after, less)

pub ends_spends : (path : List Pending) (done done' : List FinishedTask) (next : Pending) (f : FinishedTask) → next.task.used < f.ending.spent →
    done' ≡ done ++ f ∷ [] → used_so_far (path ++ next ∷ []) done < used_so_far path done'
ends_spends path done done' next f less e =
    let before = sum_by_push (λ (q : Pending). q.task.used) path next in
    let after : sum_by (λ (x : FinishedTask). x.ending.spent) done' ≡ sum_by (λ (x : FinishedTask). x.ending.spent) done + f.ending.spent =
    ap (sum_by (λ (x : FinishedTask). x.ending.spent)) e ∙ sum_by_push (λ (x : FinishedTask). x.ending.spent) done f in
    omega (arith, before, after, less)

pub spawns_spends : (path mid path' : List Pending) (done : List FinishedTask) (next parent born : Pending) → next.task.used < parent.task.used →
    mid ≡ path ++ parent ∷ [] → path' ≡ mid ++ born ∷ [] → used_so_far (path ++ next ∷ []) done < used_so_far path' done
spawns_spends path mid path' done next parent born less e f =
    let first = goes_spends path mid done next parent less e in
    let after : used_by path' ≡ used_by mid + born.task.used = ap used_by f ∙ sum_by_push (λ (q : Pending). q.task.used) mid born in
    omega (arith, first, after)
