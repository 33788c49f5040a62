-- The book refuses no ticket of a task that was just spawned, and no end of a task that has a seat.
use Rattle.std.proofs.Common.{◌≡◌, ◌≢◌, ℕ, suc, ◌≤◌, ◌-◌, List, [], ◌∷◌, ◌++◌, length, length-set, map, set, slice_get, refl, sym, ◌∙◌, arith, ap, Bool, true, false, true≢false, ◌==◌, eqb, ne_eqb, Some}
use Rattle.std.specs.Prelude.{cond}
use Rattle.std.specs.List.{count_by}
use Rattle.std.proofs.lemmas.List.{map-append}
use Rattle.std.proofs.lemmas.List.Sums.{sum_by-cons}
use Rattle.std.proofs.lemmas.Option.{slice_get_within}
use Rattle.helpers.specs.declared.spawner.SpawnRecord.{SpawnRecord}
use Rattle.credit_book.specs.declared.event.Event.{Event}
use Rattle.credit_book.specs.declared.event.Event.TheVariants.{Park, Claim}
use Rattle.credit_book.specs.declared.event.Stage.{Stage}
use Rattle.credit_book.specs.declared.event.Stage.TheVariants.{Fresh, Parked, Claimed, Ended}
use Rattle.credit_book.specs.declared.event.Standing.{Standing}
use Rattle.credit_book.specs.declared.fault.BookFault.{BookFault}
use Rattle.credit_book.specs.declared.fault.BookFault.TheVariants.{Stranger, OverSpent, CreditLow, NoMemory}
use Rattle.credit_book.specs.declared.task.Outcome.{Outcome}
use Rattle.credit_book.specs.declared.task.Ticket.{Ticket}
use Rattle.credit_book.specs.Books.{BookState, IsEndFault, end_event, spawn_event}
use Rattle.credit_book.specs.History.{IsHistoryOf, is_alive, is_fresh, may_work, standing_at, table_of, without_first}
use Rattle.credit_book.proofs.Histories.{table_of-push}
use Rattle.credit_book.proofs.Sound.{at_end, bit, parked, sound_of, times}
use Rattle.task_register.specs.declared.seats.TaskResult.{TaskResult}
use Rattle.task_register.specs.declared.seats.RegisterState.{RegisterState}
use Rattle.task_register.specs.declared.seats.SeatedTask.{SeatedTask}
use Rattle.task_register.specs.Handing.{ended_with}
use Rattle.task_register.specs.Rule.{IsOpen}
use Rattle.job_answer.specs.Agreement.{RegisterAgrees, alive_at, ended_standing, shares}
use Rattle.job_answer.specs.OneAnswer.{IsPaidFor}
use Rattle.job_answer.proofs.Keyed.{times_below, zero_if}
use Rattle.workers.specs.Locked.{AreSeats}

-- ---- what waits

abbrev pub numbers : List Ticket → List ℕ
numbers ts = map (λ (t : Ticket). t.number) ts

pub queued_spawn : (h h' : List Event) (parent child : ℕ) (r : SpawnRecord) (ts ts' : List Ticket) → h' ≡ h ++ spawn_event parent child r ∷ [] → ts' ≡ ts →
    (table_of h).queue ≡ numbers ts → (table_of h').queue ≡ numbers ts'
queued_spawn h h' parent child r ts ts' is same old =
    ap (λ l. (table_of l).queue) is ∙ ap (λ t. t.queue) (table_of-push h (spawn_event parent child r)) ∙ old ∙ ap numbers (sym same)

pub queued_end : (h h' : List Event) (o : Outcome) (ts ts' : List Ticket) → h' ≡ h ++ end_event o ∷ [] → ts' ≡ ts →
    (table_of h).queue ≡ numbers ts → (table_of h').queue ≡ numbers ts'
queued_end h h' o ts ts' is same old =
    ap (λ l. (table_of l).queue) is ∙ ap (λ t. t.queue) (table_of-push h (end_event o)) ∙ old ∙ ap numbers (sym same)

pub queued_park : (h h' : List Event) (t : Ticket) (ts ts' : List Ticket) → h' ≡ h ++ Park t.number ∷ [] → ts' ≡ ts ++ t ∷ [] →
    (table_of h).queue ≡ numbers ts → (table_of h').queue ≡ numbers ts'
queued_park h h' t ts ts' is more old =
    ap (λ l. (table_of l).queue) is ∙ ap (λ t. t.queue) (table_of-push h (Park t.number)) ∙ ap (λ q. q ++ t.number ∷ []) old
    ∙ sym (map-append (λ (t : Ticket). t.number) ts (t ∷ [])) ∙ ap numbers (sym more)

pub queued_claim : (h h' : List Event) (t : Ticket) (ts ts' : List Ticket) → h' ≡ h ++ Claim t.number ∷ [] → ts ≡ t ∷ ts' →
    (table_of h).queue ≡ numbers ts → (table_of h').queue ≡ numbers ts'
queued_claim h h' t ts ts' is fewer old =
    ap (λ l. (table_of l).queue) is ∙ ap (λ t. t.queue) (table_of-push h (Claim t.number)) ∙ ap without_first (old ∙ ap numbers fewer)

-- ---- a task that was just spawned

pub just_spawned : (h h' : List Event) (parent : ℕ) (r : SpawnRecord) → h' ≡ h ++ spawn_event parent (length (table_of h).standings) r ∷ [] →
    is_fresh (standing_at (table_of h') (length (table_of h).standings)).stage ≡ true
just_spawned h h' parent r is =
    let ss : List Standing = (table_of h).standings in
    let left : Standing = record { held = (standing_at (table_of h) parent).held - r.share; stage = (standing_at (table_of h) parent).stage } in
    let long = length-set ss parent left in
    ap (λ t. is_fresh (standing_at t (length ss)).stage) (ap table_of is ∙ table_of-push h (spawn_event parent (length ss) r))
    ∙ at_end (λ (s : Standing). is_fresh s.stage ≡ true) (set ss parent left) (length ss) (record { held = r.share; stage = Fresh }) ended_standing
    (omega (arith, long)) (λ lt. absurd (omega (arith, lt, long))) (λ _. refl)

-- ---- a task that has a seat

none_over : (os : List TaskResult) (n : ℕ) → ((k : ℕ) (e : TaskResult) → slice_get os k ≡ Some e → e.own.number ≢ n) → count_by (λ (o : TaskResult). o.own.number == n) os ≡ 0
none_over [] n none = refl
none_over (o ∷ os) n none =
    let later = none_over os n (λ k e there. none (suc k) e there) in
    let first = zero_if o.own.number n (none 0 o refl) in
    omega (arith, sum_by-cons (λ (x : TaskResult). cond (x.own.number == n) 1 0) o os, later, first)

none_waits : (job : ℕ) (ts : List Ticket) (ss : List SeatedTask) (n : ℕ) → AreSeats job ts ss → ((k : ℕ) (w : SeatedTask) → slice_get ss k ≡ Some w → w.number ≢ n) → times n (numbers ts) ≡ 0
none_waits job [] ss n seats none = refl
none_waits job (t ∷ ts) [] n seats none = absurd seats
none_waits job (t ∷ ts) (s ∷ ss) n seats none =
    let later = none_waits job ts ss n seats.2 (λ k w there. none (suc k) w there) in
    let apart = ne_eqb t.number n (λ e. none 0 s refl (seats.0.number ∙ e)) in
    let first : bit (eqb t.number n) ≡ 0 = ap bit apart in
    omega (arith, first, later)

abbrev one_where : Bool → ℕ
one_where b = cond b 1 0

alive_by : (b : Bool) → one_where b ≡ 1 → b ≡ true
alive_by true e = refl
alive_by false e = absurd (omega (arith, e))

works_by : (s : Stage) → is_alive s ≡ true → parked s ≡ 0 → may_work s ≡ true
works_by Fresh alive out = refl
works_by Parked alive out = absurd (omega (arith, out))
works_by Claimed alive out = refl
works_by Ended alive out = absurd (true≢false (sym alive))

module _ (job issued : ℕ) (h : List Event) (known : RegisterState) (ts : List Ticket) (ss : List SeatedTask) (legal : IsHistoryOf job issued h) (agrees : RegisterAgrees known h)
    (seats : AreSeats job ts ss) (queued : (table_of h).queue ≡ numbers ts) (own : SeatedTask) (open_now : IsOpen known ss own) where
  pub is_alive_now : is_alive (standing_at (table_of h) own.number).stage ≡ true
  is_alive_now =
      let lt = slice_get_within known.starts own.number own.birth open_now.task.birth in
      let counted = agrees.table.counted own.number in
      let none = none_over known.over own.number open_now.not_over in
      let one = times_below own.number (length known.starts) lt in
      let here : alive_at (table_of h).standings own.number ≡ 1 = omega (arith, counted, none, one) in
      alive_by (is_alive (standing_at (table_of h) own.number).stage) here

  pub may_work_now : may_work (standing_at (table_of h) own.number).stage ≡ true
  may_work_now =
      works_by (standing_at (table_of h) own.number).stage is_alive_now
      (sym ((sound_of job issued h legal).0.queued own.number) ∙ ap (times own.number) queued ∙ none_waits job ts ss own.number seats open_now.not_waiting)

  pub affords : (o : Outcome) (whole : Bool) → IsPaidFor (ended_with own o whole) → o.used ≤ (standing_at (table_of h) own.number).held
  affords o whole paid =
      let balanced = (agrees.table.balanced own.number own.birth open_now.task.birth).alive is_alive_now in
      let children = ap shares open_now.task.children in
      omega (arith, balanced, children, paid)

pub ends : (a : BookState) (o : Outcome) (fault : BookFault) → o.job ≡ a.board.job → may_work (standing_at (table_of a.history) o.number).stage ≡ true →
    o.used ≤ (standing_at (table_of a.history) o.number).held → IsEndFault a o fault → ⊥
ends a o Stranger job works affords why = why job works
ends a o OverSpent job works affords why = let less = why.2 in omega (arith, less, affords)
ends a o CreditLow job works affords why = why
ends a o NoMemory job works affords why = why
