-- What lies under a job's lock agrees after each call of the book.
use Rattle.std.proofs.Common.{Bool, ◌≡◌, ℕ, ◌+◌, ◌≤◌, ◌<◌, eqb, eq-eqb, zero, suc, List, [], ◌∷◌, ◌++◌, length, slice_get, refl, sym, ◌∙◌, arith, ap, subst, true, true≢false, ◌==◌, Some}
use Rattle.helpers.specs.declared.spawner.SpawnRecord.{SpawnRecord}
use Rattle.credit_book.specs.declared.event.Event.{Event}
use Rattle.credit_book.specs.declared.event.Event.TheVariants.{Open, Park, Claim, End}
use Rattle.credit_book.specs.declared.task.Ticket.{Ticket}
use Rattle.credit_book.specs.declared.task.Outcome.{Outcome}
use Rattle.credit_book.specs.declared.event.Stage.{Stage}
use Rattle.credit_book.specs.declared.event.Stage.TheVariants.{Fresh, Parked, Claimed, Ended}
use Rattle.credit_book.specs.History.{TaskTable, May, IsLegalFrom, IsHistoryOf, after, is_alive, no_tasks, standing_at, table_from, table_of, task_at}
use Rattle.credit_book.specs.Books.{spawn_event, ticket_of, end_event}
use Rattle.credit_book.proofs.Sound.{sound_of, times, parked, bit}
use Rattle.std.specs.Prelude.{cond}
use Rattle.std.specs.List.{count_by}
use Rattle.std.proofs.lemmas.List.Sums.{sum_by-cons}
use Rattle.credit_book.specs.declared.event.TaskEnd.{TaskEnd}
use Rattle.credit_book.specs.History.{new_task}
use Rattle.task_register.specs.Rule.{empty_register}
use Rattle.job_answer.specs.Agreement.{ReportsStart, alive_at}
use Rattle.job_answer.proofs.Keyed.{zero_if}
use Rattle.task_register.specs.declared.seats.TaskStart.{TaskStart}
use Rattle.task_register.specs.declared.seats.SeatedTask.{SeatedTask}
use Rattle.task_register.specs.declared.seats.TaskResult.{TaskResult}
use Rattle.task_register.specs.declared.seats.RegisterState.{RegisterState}
use Rattle.task_register.specs.Rule.{children_in, with_start, with_end}
use Rattle.task_register.specs.Handing.{IsSeatOf, start_by, ended_with}
use Rattle.job_answer.specs.Agreement.{Balances, RegisterAgrees, shares}
use Rattle.job_answer.proofs.Desking.{desk_spawn, desk_park, desk_claim, desk_end}
use Rattle.workers.specs.Locked.{AreSeats}

-- the last event was legal
legal_last : (t : TaskTable) (es : List Event) (e : Event) → IsLegalFrom t (es ++ e ∷ []) → May (table_from t es) e
legal_last t [] e legal = legal.0
legal_last t (x ∷ xs) e legal = legal_last (after t x) xs e legal.1

may_last : (job issued : ℕ) (h h' : List Event) (e : Event) → h' ≡ h ++ e ∷ [] → IsHistoryOf job issued h' → May (table_of h) e
may_last job issued h h' e is legal = legal_last _ h e (subst (λ (l : List Event). IsHistoryOf job issued l) is legal).0

pub spawned : (job issued j parent : ℕ) (known known' : RegisterState) (h h' : List Event) (r : SpawnRecord) (t : Ticket) (by : ℕ) → RegisterAgrees known h →
    h' ≡ h ++ spawn_event parent (length (table_of h).standings) r ∷ [] → IsHistoryOf job issued h' → t ≡ ticket_of j (length (table_of h).standings) r →
    by ≡ parent → known' ≡ with_start known (start_by by t) → RegisterAgrees known' h'
spawned job issued j parent known known' h h' r t by desk is legal ticket own now =
    let e : Event = spawn_event parent (length (table_of h).standings) r in
    subst (λ k. RegisterAgrees k h') (sym now) (subst (λ l. RegisterAgrees (with_start known (start_by by t)) l) (sym is)
    (desk_spawn known h desk parent (length (table_of h).standings) r.program r.share r.arg r.part.base (length r.part.bytes) (start_by by t)
    (may_last job issued h h' e is legal) own (ap (λ (x : Ticket). x.program) ticket) (ap (λ (x : Ticket). x.held) ticket) (ap (λ (x : Ticket). x.arg) ticket)))

pub has_parked : (job issued n : ℕ) (known : RegisterState) (h h' : List Event) → RegisterAgrees known h → h' ≡ h ++ Park n ∷ [] → IsHistoryOf job issued h' → RegisterAgrees known h'
has_parked job issued n known h h' desk is legal =
    subst (λ l. RegisterAgrees known l) (sym is) (desk_park known h desk n (may_last job issued h h' (Park n) is legal))

pub ended : (job issued : ℕ) (known known' : RegisterState) (h h' : List Event) (own : SeatedTask) (o : Outcome) (whole : Bool) → RegisterAgrees known h → own.number ≡ o.number →
    h' ≡ h ++ end_event o ∷ [] → IsHistoryOf job issued h' → known' ≡ with_end known (ended_with own o whole) → RegisterAgrees known' h'
ended job issued known known' h h' own o whole desk number is legal now =
    let e : Event = End own.number o.used o.r0 o.ran o.part.base o.part.bytes in
    let same : end_event o ≡ e = ap (λ n. End n o.used o.r0 o.ran o.part.base o.part.bytes) (sym number) in
    let is' : h' ≡ h ++ e ∷ [] = is ∙ ap (λ x. h ++ x ∷ []) same in
    subst (λ k. RegisterAgrees k h') (sym now) (subst (λ l. RegisterAgrees (with_end known (ended_with own o whole)) l) (sym is')
    (desk_end known h desk (ended_with own o whole) (may_last job issued h h' e is' legal)))

pub seats_push : (job : ℕ) (ts : List Ticket) (ss : List SeatedTask) (t : Ticket) (s : SeatedTask) → AreSeats job ts ss → IsSeatOf t s → t.job ≡ job →
    AreSeats job (ts ++ t ∷ []) (ss ++ s ∷ [])
seats_push job [] [] t s a h own = (h, own, tt)
seats_push job [] (x ∷ xs) t s a h own = absurd a
seats_push job (t' ∷ ts) [] t s a h own = absurd a
seats_push job (t' ∷ ts) (x ∷ xs) t s a h own = (a.0, a.1, seats_push job ts xs t s a.2 h own)

told_first : (root : TaskStart) (issued : ℕ) → root.program ≡ 0 → root.arg ≡ 0 → root.share ≡ issued → (n : ℕ) (b : TaskStart) → slice_get (root ∷ []) n ≡ Some b →
    (e : TaskEnd) × (slice_get (new_task 0 0 0 issued ∷ []) n ≡ Some e) × ReportsStart n b e
told_first root issued p a s zero b there =
    let same : root ≡ b = cc in
    (new_task 0 0 0 issued, refl, subst (λ x. ReportsStart 0 x (new_task 0 0 0 issued)) same (record { number = refl; program = sym p; arg = sym a; given = sym s }))
told_first root issued p a s (suc n) b there = absurd (cc)

counted_first : (issued : ℕ) (n : ℕ) → 0 + alive_at (record { held = issued; stage = Fresh } ∷ []) n ≡ count_by (λ (k : ℕ). k == n) (0 ∷ [])
counted_first issued zero = refl
counted_first issued (suc n) = let other = zero_if 0 (suc n) (λ e. omega (arith, e)) in let split = sum_by-cons (λ (k : ℕ). cond (k == suc n) 1 0) 0 [] in omega (arith, other, split)

-- the root has all of the credit, and no child
balanced_first : (root : TaskStart) (issued : ℕ) → root.share ≡ issued → (n : ℕ) (b : TaskStart) → slice_get (root ∷ []) n ≡ Some b →
    Balances b.share (shares (children_in n (root ∷ []))) (standing_at (after no_tasks (Open 0 issued)) n) (task_at (after no_tasks (Open 0 issued)) n)
balanced_first root issued s zero b there =
    let same : root ≡ b = cc in
    let share = ap (λ (x : TaskStart). x.share) same in
    record { alive = λ _. omega (arith, share, s); over = λ o. absurd (true≢false o) }
balanced_first root issued s (suc n) b there = absurd (cc)

pub opened : (job issued : ℕ) (root : TaskStart) (known : RegisterState) (h : List Event) → root.program ≡ 0 → root.arg ≡ 0 → root.share ≡ issued →
    known ≡ with_start empty_register root → h ≡ Open job issued ∷ [] → RegisterAgrees known h
opened job issued root known h p a s now is =
    subst (λ k. RegisterAgrees k h) (sym now) (subst (λ l. RegisterAgrees (with_start empty_register root) l) (sym is) (record {
      table = record {
        long = refl;
        paired = refl;
        told = told_first root issued p a s;
        ended = λ k o there. absurd (none k o there);
        counted = counted_first issued;
        balanced = balanced_first root issued s;
        older = λ k b there. absurd (nobody k b there);
      };
      left = λ size. refl;
    }))
  where
    none : (k : ℕ) (o : TaskResult) → slice_get [] k ≡ Some o → ⊥
    none k o there = cc

    nobody : (k : ℕ) (b : TaskStart) → slice_get [] k ≡ Some b → ⊥
    nobody k b there = cc

-- what is parked is alive
alive_parked : (s : Stage) → 1 ≤ parked s → is_alive s ≡ true
alive_parked Fresh le = absurd (omega (arith, le))
alive_parked Parked le = refl
alive_parked Claimed le = absurd (omega (arith, le))
alive_parked Ended le = absurd (omega (arith, le))

pub claimed : (job issued job' issued' n : ℕ) (known : RegisterState) (h h' : List Event) → RegisterAgrees known h → IsHistoryOf job issued h → h' ≡ h ++ Claim n ∷ [] →
    IsHistoryOf job' issued' h' → RegisterAgrees known h'
claimed job issued job' issued' n known h h' desk before is legal =
    let may = may_last job' issued' h h' (Claim n) is legal in
    let queued = (sound_of job issued h before).0.queued n in
    let first : times n (table_of h).queue ≡ times n (n ∷ may.0) = ap (times n) may.1 in
    let one : bit (eqb n n) ≡ 1 = ap bit (eq-eqb n n refl) in
    subst (λ l. RegisterAgrees known l) (sym is) (desk_claim known h desk n (alive_parked (standing_at (table_of h) n).stage (omega (arith, queued, first, one))))

pub seats_rest : (job : ℕ) (ts ts' : List Ticket) (ss ss' : List SeatedTask) (t : Ticket) (s : SeatedTask) → ts ≡ t ∷ ts' → ss ≡ s ∷ ss' → AreSeats job ts ss → AreSeats job ts' ss'
seats_rest job ts ts' ss ss' t s e f a = (subst (λ l. AreSeats job (t ∷ ts') l) f (subst (λ l. AreSeats job l ss) e a)).2

-- where a ticket waits, so does its seat
pub seats_more : (job : ℕ) (ts ts' : List Ticket) (ss : List SeatedTask) (t : Ticket) → ts ≡ t ∷ ts' → AreSeats job ts ss → 0 < length ss
seats_more job ts ts' [] t e a = absurd (subst (λ l. AreSeats job l []) e a)
seats_more job ts ts' (s ∷ ss) t e a = omega arith

pub seats_first : (job : ℕ) (ts ts' : List Ticket) (ss ss' : List SeatedTask) (t : Ticket) (s : SeatedTask) → ts ≡ t ∷ ts' → ss ≡ s ∷ ss' → AreSeats job ts ss →
    IsSeatOf t s × (t.job ≡ job)
seats_first job ts ts' ss ss' t s e f a = let both = subst (λ l. AreSeats job (t ∷ ts') l) f (subst (λ l. AreSeats job l ss) e a) in (both.0, both.1)
