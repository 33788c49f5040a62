-- What a task holds at its end and the shares that it gave are what it was given.
use Rattle.std.proofs.Common.{◌≡◌, ℕ, zero, suc, ◌+◌, ◌≤◌, List, [], ◌∷◌, length, inl, inr, map, refl, sym, ◌∙◌, arith, ap, subst, Bool, true, false}
use Rattle.std.proofs.lemmas.List.Sums.{sum_by-cons}
use Rattle.machine_model.specs.Machine.{State, Program, Entries, Effect, Continues, Ends, Spawns, Calls, Traps, effect}
use Rattle.machine_model.proofs.Keeps.{Keeps, keeps_effect}
use Rattle.task_trees.specs.Solo.{SpawnRequest, Proceeds, SoloWithin}
use Rattle.task_register.specs.declared.seats.TaskStart.{TaskStart}
use Rattle.task_register.specs.declared.seats.TaskResult.{TaskResult}
use Rattle.job_answer.specs.Agreement.{shares}
use Rattle.job_answer.specs.Gathered.{RanByItself, handed}
use Rattle.job_answer.specs.OneAnswer.{IsPaidFor, RunsOrNot, runs_by}
use Rattle.job_answer.specs.SpawnTree.{LeavesCredit, given_by, taken}

-- what follows an effect that keeps the credit
left_by : (on : List SpawnRequest → State → Type 0) (asked : List SpawnRequest) (r0 held : ℕ) (last : State) (e : Effect) → Keeps held e →
    ((later : List SpawnRequest) (s : State) → on later s → LeavesCredit s.held later last) → Proceeds on asked r0 last e → LeavesCredit held asked last
left_by on asked r0 held last (Continues next) keeps ih h = subst (λ n. LeavesCredit n asked last) keeps (ih asked next h)
left_by on asked r0 held last (Ends word state) keeps ih h =
    let same : state ≡ last = h.2 in
    let credit = ap (λ (s : State). s.held) same in
    let spent = ap (λ (s : State). s.used) same in
    let k = keeps.1 in
    let le = keeps.0 in
    subst (λ l. LeavesCredit held l last) (sym h.0) (record { whole = omega (arith, credit, k); paid = omega (arith, credit, spent, le) })
left_by on asked r0 held last (Spawns birth took refused) keeps ih h =
    elim h.1 [
      | inl x ↦
          let l = ih h.0 took x.1 in
          let k = keeps.0 in
          let w = l.whole in
          let more = sum_by-cons (λ (a : SpawnRequest). a.birth.share) (record { birth = birth; at = length took.part; refused = false }) (taken h.0) in
          subst (λ l. LeavesCredit held l last) (sym x.0) (record { whole = omega (arith, k, w, more); paid = l.paid })
      | inr x ↦
          let l = ih h.0 refused x.1 in
          let k = keeps.1 in
          let w = l.whole in
          subst (λ l. LeavesCredit held l last) (sym x.0) (record { whole = omega (arith, k, w); paid = l.paid })
    ]
left_by on asked r0 held last (Calls helper arguments caller) keeps ih h = absurd h
left_by on asked r0 held last (Traps trap) keeps ih h = absurd h

pub solo_left : (p : Program) (entries : Entries) (r0 n : ℕ) (last : State) (asked : List SpawnRequest) (s : State) → SoloWithin p entries r0 last n asked s → LeavesCredit s.held asked last
solo_left p entries r0 zero last asked s h = absurd h
solo_left p entries r0 (suc n) last asked s h =
    left_by (SoloWithin p entries r0 last n) asked r0 s.held last (effect p entries s) (keeps_effect p entries s)
    (λ later t on. solo_left p entries r0 n last later t on) h

-- what is handed over has the shares that were asked for
pub handed_shares : (number base : ℕ) (asked : List SpawnRequest) → shares (map (handed number base) asked) ≡ given_by asked
handed_shares number base [] = refl
handed_shares number base (a ∷ later) =
    sum_by-cons (λ (b : TaskStart). b.share) (handed number base a) (map (handed number base) later) ∙ ap (λ n. a.birth.share + n) (handed_shares number base later)
    ∙ sym (sum_by-cons (λ (x : SpawnRequest). x.birth.share) a later)

-- a task that ran spent no more than it held at its end, which is what it was given but for its children's shares
pub run_left : (programs : List Program) (o : TaskResult) (run : RanByItself programs o) → (run.last.held + shares o.own.children ≡ o.own.birth.share) × (o.used ≤ run.last.held)
run_left programs o run =
    let l = solo_left run.program _ o.r0 run.alone.0 run.last run.asked _ run.alone.1 in
    let w = l.whole in
    let children = ap shares run.children ∙ handed_shares o.own.number o.own.birth.base (taken run.asked) in
    let p = l.paid in
    let used = run.used in
    (omega (arith, w, children), omega (arith, p, used))

paid_by : (b : Bool) (programs : List Program) (o : TaskResult) → runs_by b programs o → IsPaidFor o
paid_by true programs o run = let l = run_left programs o run in let a = l.0 in let b = l.1 in omega (arith, a, b)
paid_by false programs o run =
    let none : shares o.own.children ≡ 0 = ap shares run.children in
    let used = run.used in
    omega (arith, none, used)

-- so does every task that is over
pub paid_for : (programs : List Program) (o : TaskResult) → RunsOrNot programs o → IsPaidFor o
paid_for programs o over = paid_by o.ran programs o over
