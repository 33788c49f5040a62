-- The jobs that a lasting pool holds, from one state to the next.
use Rattle.std.proofs.Common.{◌≡◌, ◌≢◌, ◌==◌, ◌≤◌, ◌+◌, ◌%◌, ℕ, Bool, true, false, true≢false, List, [], ◌∷◌, Option, Some, None, Result, is_some, option_map, unwrap_or, if◌then◌else◌, refl, sym, ap, subst, ◌∙◌, inl, inr, arith}
use Rattle.std.proofs.lemmas.Bool.{cases_eq}
use Rattle.std.proofs.lemmas.Bool.Decides.{nat_tests}
use Rattle.std.specs.BTreeMap as tree
use Rattle.std.specs.BTreeMap.{BTreeMap, btree_map_len}
use Rattle.std.specs.Ordering.{nat_cmp}
use Rattle.credit_book.specs.Boards.{Sight}
use Rattle.credit_book.specs.declared.book.Report.{Report}
use Rattle.credit_book.specs.declared.board.Progress.{Progress}
use Rattle.credit_book.specs.declared.event.Event.TheVariants.{Open}
use Rattle.job_core.specs.Admitted.{AdmittedJob}
use Rattle.job_pools.specs.declared.job_seats.StartedJob.{StartedJob}
use Rattle.job_pools.specs.Endings.{IsEndOf}
use Rattle.job_pools.specs.Holding.{HeldJob, IsSeen}
use Rattle.job_pools.specs.Holds.{AddsBy, GivesBy, IsUnchangedBy, TellsBy, looks_by}
use Rattle.job_pools.specs.Started.{AreWatched, IsLook, NoneFrom, held_of, pooled_at, pooled_count, started_at}
use Rattle.job_pools.proofs.Keeping.{SameBut}

-- ---- a job that was entered

pub entered_here : (s : StartedJob) (k : List StartedJob) (n : ℕ) → n ≡ s.number → started_at n (s ∷ k) ≡ Some s.job
entered_here s k n same =
    let is : (n == s.number) ≡ true = grind (arith, nat_tests) in
    ap (λ (b : Bool). if◌then◌else◌ {A = Option AdmittedJob} b (Some s.job) (started_at n k)) is

pub entered_others : (s : StartedJob) (k : List StartedJob) (n : ℕ) → n ≢ s.number → started_at n (s ∷ k) ≡ started_at n k
entered_others s k n differs =
    let is : (n == s.number) ≡ false = grind (arith, nat_tests) in
    ap (λ (b : Bool). if◌then◌else◌ {A = Option AdmittedJob} b (Some s.job) (started_at n k)) is

-- ---- boards

no_credit : {X : Type 0} (x : X) → None ≡ Some x → ⊥
no_credit x e = cc

-- no board is watched under a number that no job has
pub free_board : (k : List StartedJob) (boards : ℕ → Option Sight) (n : ℕ) → AreWatched k boards → started_at n k ≡ None → boards n ≡ None
free_board k boards n watched none = by_board (boards n) refl
  where
    by_board : (o : Option Sight) → boards n ≡ o → o ≡ None
    by_board None e = refl
    by_board (Some sight) e = absurd (no_credit sight.board.issued (sym (ap (option_map (λ job. job.credit)) none) ∙ (watched n sight e).0))

some_same : {X : Type 0} (x y : X) → Some x ≡ Some y → x ≡ y
some_same x y same = cc

-- a job was entered, and no board is watched under its number
pub watched_entered : (k k' : List StartedJob) (boards boards' : ℕ → Option Sight) (s : StartedJob) (n : ℕ) → s.number ≡ n → k' ≡ s ∷ k → AreWatched k boards → boards' n ≡ None → SameBut boards n boards' → AreWatched k' boards'
watched_entered k k' boards boards' s n numbered entered watched gone others m sight at =
    elim (cases_eq m n) [
      | inl same ↦ absurd (no_credit sight (sym gone ∙ sym (ap boards' same) ∙ at))
      | inr differs ↦
          let was = watched m sight (sym (others m differs) ∙ at) in
          (ap (option_map (λ job. job.credit)) (ap (started_at m) entered ∙ entered_others s k m (λ same. differs (same ∙ numbered))) ∙ was.0, was.1)
    ]

-- ---- what is held

pub held_none : (job : Option AdmittedJob) (n : ℕ) (sight : Option Sight) → sight ≡ None → held_of job n sight ≡ None
held_none None n sight none = refl
held_none (Some job) n sight none = ap (held_of (Some job) n) none

pub held_some : (job : Option AdmittedJob) (n : ℕ) (sight : Option Sight) (j : AdmittedJob) (s : Sight) → job ≡ Some j → sight ≡ Some s → held_of job n sight ≡ Some (record { number = n; job = j; sight = s })
held_some job n sight j s is seen = ap (λ o. held_of o n sight) is ∙ ap (held_of (Some j) n) seen

pub held_same : (job job' : Option AdmittedJob) (n : ℕ) (sight sight' : Option Sight) → job' ≡ job → sight' ≡ sight → held_of job' n sight' ≡ held_of job n sight
held_same job job' n sight sight' is seen = ap (λ o. held_of o n sight') is ∙ ap (held_of job n) seen

-- a board that is watched is that of a job that was started
is_some_job : (o : Option AdmittedJob) (c : ℕ) → option_map (λ job. job.credit) o ≡ Some c → (job : AdmittedJob) × (o ≡ Some job) × (job.credit ≡ c)
is_some_job None c e = absurd (no_credit c e)
is_some_job (Some job) c e = (job, refl, some_same job.credit c e)

pub watched_job : (k : List StartedJob) (boards : ℕ → Option Sight) (n : ℕ) (sight : Sight) → AreWatched k boards → boards n ≡ Some sight
    → (job : AdmittedJob) × (started_at n k ≡ Some job) × (job.credit ≡ sight.board.issued) × (sight.board.job ≡ n)
watched_job k boards n sight watched at =
    let w = watched n sight at in
    let j = is_some_job (started_at n k) sight.board.issued w.0 in
    (j.0, j.1, j.2, w.1)

-- a look at a board is a look at the job
pub look_seen : (n : ℕ) (job : AdmittedJob) (old : Sight) (told : Progress) (new : Sight) → IsLook old told new → job.credit ≡ old.board.issued → old.board.job ≡ n
    → IsSeen (record { number = n; job = job; sight = old }) told (record { number = n; job = job; sight = new })
look_seen n job old told new look credit numbered = record {
  number = refl;
  job = refl;
  looks = look.looks;
  later = look.later;
  legal = rw (credit, ← numbered) look.legal;
  spent = look.spent;
  returned = look.returned;
  complete = look.complete;
}

-- ---- a start, a look and a take

-- a job more
pub adds_job : (k k' : List StartedJob) (b b' : BTreeMap ℕ Sight) (s : StartedJob) (n : ℕ) (job : AdmittedJob) (sight : Sight)
    → s.number ≡ n → s.job ≡ job → k' ≡ s ∷ k → tree.get nat_cmp b n ≡ None → tree.get nat_cmp b' n ≡ Some sight → SameBut (tree.get nat_cmp b) n (tree.get nat_cmp b') → btree_map_len b' ≡ btree_map_len b + 1
    → sight.seen ≡ Open n job.credit ∷ [] → sight.looks ≡ 0 → AddsBy pooled_at pooled_count (k, b) n job (k', b')
adds_job k k' b b' s n job sight number is entered vacant here others count seen looks = record {
  held = record { number = n; job = job; sight = sight };
  was_none = held_none (started_at n k) n (tree.get nat_cmp b n) vacant;
  fresh = record { numbered = refl; given = refl; seen = seen; looks = looks };
  changes = record {
    here = held_some (started_at n k') n (tree.get nat_cmp b' n) job sight (ap (started_at n) entered ∙ (entered_here s k n (sym number) ∙ ap Some is)) here;
    others = λ m differs. held_same (started_at m k) (started_at m k') m (tree.get nat_cmp b m) (tree.get nat_cmp b' m)
        (ap (started_at m) entered ∙ entered_others s k m (λ same. differs (same ∙ number))) (others m differs);
  };
  count = count;
}

-- a job that was entered and isn't watched
pub adds_none : (k k' : List StartedJob) (b b' : BTreeMap ℕ Sight) (s : StartedJob) (n : ℕ)
    → s.number ≡ n → k' ≡ s ∷ k → tree.get nat_cmp b n ≡ None → tree.get nat_cmp b' n ≡ None → SameBut (tree.get nat_cmp b) n (tree.get nat_cmp b') → btree_map_len b' ≡ btree_map_len b
    → IsUnchangedBy pooled_at pooled_count (k, b) (k', b')
adds_none k k' b b' s n number entered vacant gone others count = record { each = each; count = count }
  where
    each : (m : ℕ) → pooled_at (k', b') m ≡ pooled_at (k, b) m
    each m =
        elim (cases_eq m n) [
          | inl same ↦
              held_none (started_at m k') m (tree.get nat_cmp b' m) (ap (tree.get nat_cmp b') same ∙ gone)
              ∙ sym (held_none (started_at m k) m (tree.get nat_cmp b m) (ap (tree.get nat_cmp b) same ∙ vacant))
          | inr differs ↦
              held_same (started_at m k) (started_at m k') m (tree.get nat_cmp b m) (tree.get nat_cmp b' m)
              (ap (started_at m) entered ∙ entered_others s k m (λ same. differs (same ∙ number))) (others m differs)
        ]

-- a job is seen
pub tells_job : (k : List StartedJob) (b b' : BTreeMap ℕ Sight) (n : ℕ) (told : Progress) (old new : Sight) → AreWatched k (tree.get nat_cmp b) → tree.get nat_cmp b n ≡ Some old → IsLook old told new
    → tree.get nat_cmp b' n ≡ Some new → SameBut (tree.get nat_cmp b) n (tree.get nat_cmp b') → btree_map_len b' ≡ btree_map_len b → TellsBy pooled_at pooled_count (k, b) n told (k, b')
unfolding looks_by
tells_job k b b' n told old new watched was look here others count =
    let j = watched_job k (tree.get nat_cmp b) n old watched was in
    subst (λ (o : Option HeldJob). looks_by pooled_at pooled_count (k, b) n o told (k, b')) (sym (held_some (started_at n k) n (tree.get nat_cmp b n) j.0 old j.1 was))
    (record {
      later = record { number = n; job = j.0; sight = new };
      seen = look_seen n j.0 old told new look j.2 j.3;
      changes = record {
        here = held_some (started_at n k) n (tree.get nat_cmp b' n) j.0 new j.1 here;
        others = λ m differs. held_same (started_at m k) (started_at m k) m (tree.get nat_cmp b m) (tree.get nat_cmp b' m) refl (others m differs);
      };
      count = count;
    })

-- a job fewer, with what it came to
pub gives_job : (k k' : List StartedJob) (b b' : BTreeMap ℕ Sight) (n : ℕ) (seat : StartedJob) (end : Result Report ℕ) (sight : Sight) → k' ≡ k → seat.number ≡ n → started_at seat.number k ≡ Some seat.job
    → tree.get nat_cmp b n ≡ Some sight → IsEndOf n seat.job end → tree.get nat_cmp b' n ≡ None → SameBut (tree.get nat_cmp b) n (tree.get nat_cmp b') → btree_map_len b' + 1 ≡ btree_map_len b
    → GivesBy pooled_at pooled_count IsEndOf (k, b) n end (k', b')
gives_job k k' b b' n seat end sight same number found here is_end gone others count = record {
  held = record { number = n; job = seat.job; sight = sight };
  was = held_some (started_at n k) n (tree.get nat_cmp b n) seat.job sight (ap (λ (m : ℕ). started_at m k) (sym number) ∙ found) here;
  end = is_end;
  changes = record {
    here = held_none (started_at n k') n (tree.get nat_cmp b' n) gone;
    others = λ m differs. held_same (started_at m k) (started_at m k') m (tree.get nat_cmp b m) (tree.get nat_cmp b' m) (ap (started_at m) same) (others m differs);
  };
  count = count;
}

pub some_of : {X : Type 0} (o : Option X) → is_some o ≡ true → (x : X) × (o ≡ Some x)
some_of None e = absurd (true≢false (sym e))
some_of (Some x) e = (x, refl)

-- ---- lines of numbers

-- a job is entered under a number that its line had not come to, and the line goes on behind it
pub line_behind : (nexts nexts' : ℕ → Option ℕ) (number : ℕ) (k : List StartedJob) → NoneFrom nexts k → unwrap_or (nexts (number % 1000)) 0 ≤ number → nexts' (number % 1000) ≡ Some (number + 1)
    → ((n : ℕ) → n ≢ number % 1000 → nexts' n ≡ nexts n) → (n : ℕ) → unwrap_or (nexts' (n % 1000)) 0 ≤ n → (n ≢ number) × (started_at n k ≡ None)
line_behind nexts nexts' number k none free here others n from =
    elim (cases_eq (n % 1000) (number % 1000)) [
      | inl same ↦
          let at : unwrap_or (nexts' (n % 1000)) 0 ≡ number + 1 = ap (λ m. unwrap_or (nexts' m) 0) same ∙ ap (λ o. unwrap_or o 0) here in
          let was : unwrap_or (nexts (n % 1000)) 0 ≡ unwrap_or (nexts (number % 1000)) 0 = ap (λ m. unwrap_or (nexts m) 0) same in
          ((λ is. omega (arith, at, from, is)), none n (omega (arith, at, was, from, free)))
      | inr apart ↦
          let at : unwrap_or (nexts' (n % 1000)) 0 ≡ unwrap_or (nexts (n % 1000)) 0 = ap (λ o. unwrap_or o 0) (others (n % 1000) apart) in
          ((λ is. apart (ap (λ m. m % 1000) is)), none n (omega (arith, at, from)))
    ]

pub line_taken : (nexts nexts' : ℕ → Option ℕ) (number : ℕ) (k : List StartedJob) → NoneFrom nexts k → unwrap_or (nexts (number % 1000)) 0 ≤ number → nexts' (number % 1000) ≡ Some (number + 1)
    → ((n : ℕ) → n ≢ number % 1000 → nexts' n ≡ nexts n) → NoneFrom nexts' k
line_taken nexts nexts' number k none free here others n from = (line_behind nexts nexts' number k none free here others n from).1

pub line_entered : (nexts nexts' : ℕ → Option ℕ) (number : ℕ) (s : StartedJob) (k k' : List StartedJob) → NoneFrom nexts k → unwrap_or (nexts (number % 1000)) 0 ≤ number → nexts' (number % 1000) ≡ Some (number + 1)
    → ((n : ℕ) → n ≢ number % 1000 → nexts' n ≡ nexts n) → s.number ≡ number → k' ≡ s ∷ k → NoneFrom nexts' k'
line_entered nexts nexts' number s k k' none free here others numbered entered n from =
    let behind = line_behind nexts nexts' number k none free here others n from in
    ap (started_at n) entered ∙ (entered_others s k n (λ is. behind.0 (is ∙ numbered)) ∙ behind.1)
