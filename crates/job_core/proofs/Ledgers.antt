-- What a step with a ledger as its spawner leaves.
use Rattle.std.proofs.Common.{◌≡◌, ℕ, ◌<◌, ◌≤◌, ◌+◌, ◌-◌, List, [], ◌∷◌, ◌++◌, length, length-set, set, get_or, slice_get, refl, sym, ◌∙◌, arith, ap, subst, true, Option, Some, None, Result, Ok, Err, inl, inr}
use Rattle.std.proofs.lemmas.Option.{get_or_from_slice_get, slice_get_within}
use Rattle.std.proofs.lemmas.List.{set-append_left, set-get_or, set-set}
use Rattle.machine_model.specs.declared.program.Entry.{Entry}
use Rattle.machine_model.specs.Value.{Registers}
use Rattle.machine_model.specs.Memory.{written}
use Rattle.machine_model.specs.Machine.{State, Effect, Continues, Ends, Spawns, Calls, Traps, effect}
use Rattle.machine_model.specs.JobState as job
use Rattle.machine_model.specs.JobState.{JobState}
use Rattle.machine_model.proofs.Costs.{price_le_cost}
use Rattle.machine_model.proofs.Keeps.{Keeps, keeps_effect}
use Rattle.machine_model.proofs.OwnHelpers.{own_effect}
use Rattle.machine_model.proofs.Places.{set_same, push_old}
use Rattle.helpers.specs.Table.{job_table}
use Rattle.helpers.specs.declared.spawner.SpawnRecord.{SpawnRecord}
use Rattle.verifier.specs.Checked.{Checked, IsVerified, cost_at, program_of}
use Rattle.interpreter.specs.declared.credit.Credit.{Credit}
use Rattle.interpreter.specs.declared.frame.Frame.{Frame}
use Rattle.interpreter.specs.declared.frame.StepOut.{StepOut}
use Rattle.interpreter.specs.declared.frame.StepOut.TheVariants.{Went, Ended}
use Rattle.interpreter.specs.Representation.{RepresentsTask, IsCovered, state_of, StepEffect}
use Rattle.interpreter.specs.Children.{MayHandOver}
use Rattle.machine_model.proofs.Pays.{price_some}
use Rattle.helpers.specs.Piece.{Piece}
use Rattle.credit_book.specs.declared.event.Event.{Event}
use Rattle.credit_book.specs.declared.event.Event.TheVariants.{End}
use Rattle.credit_book.specs.declared.event.Standing.{Standing}
use Rattle.credit_book.specs.declared.event.Stage.TheVariants.{Fresh}
use Rattle.credit_book.specs.declared.event.TaskEnd.{TaskEnd}
use Rattle.credit_book.specs.Books.{BookState, spawn_event}
use Rattle.credit_book.specs.Buffers.{buffer_of}
use Rattle.credit_book.specs.History.{May, may_work, standing_at, table_of, spent_in, returned_in}
use Rattle.job_core.specs.declared.ledger.TaskLedger.{TaskLedger}
use Rattle.job_core.specs.declared.live.Live.{Live}
use Rattle.job_core.specs.declared.tasks.Stepped.TheVariants as stepped
use Rattle.job_core.specs.Keeping.{AreStandings}
use Rattle.job_core.specs.Seats.{ChildEnters, live_of}
use Rattle.job_core.specs.Representation.{WorldState, AreEntries, end_of, RepresentsJob, Steps}
use Rattle.job_core.proofs.Adding.{Adds, entered}
use Rattle.job_core.proofs.Booking.{standing_there, standings_long, standings_quiet, standings_spawned, standings_ended, spawned_tasks, spawned_spent, spawned_returned, spawned_buffer, ended_tasks, ended_spent, ended_returned, ended_buffer}
use Rattle.job_core.proofs.OwnPrograms.{nobody, own_did, own_table}
use Rattle.job_core.proofs.Keeping.{ended_end}
use Rattle.job_core.proofs.Simulates.{IsLiveAt, live_at, entries_same, entry_program, steps_went, steps_ended}

abbrev pub Told : TaskLedger → TaskLedger → SpawnRecord → Result (Unit {0}) SpawnRecord → Type 0
Told old new child reply = (new.entries.items ≡ old.entries.items) × (new.turn ≡ old.turn)
    × (new.book.board ≡ old.book.board) × (new.book.size ≡ old.book.size)
    × ChildEnters old.turn old.lives.items old.parents.items old.book.history child reply new.lives.items new.parents.items new.book.history

-- nothing is left by a call of a caller's helper
abbrev pub Asked : TaskLedger → TaskLedger → ℕ → List ℕ → ℕ → Type 0
Asked old new helper arguments answer = (answer ≡ 0) × (new ≡ old)

abbrev ends_of : TaskLedger → List TaskEnd
ends_of ledger = (table_of ledger.book.history).tasks

abbrev collected_of : TaskLedger → List ℕ
collected_of ledger = buffer_of ledger.book.size ledger.book.history

-- ---- what a task may hand over

-- a run of a verified program costs something
pub cost_some : (p : Checked) → IsVerified p → 0 < cost_at p 0
cost_some p v =
    let le = price_le_cost p.code p.costs 0 v.starts.0 v.costs v.starts.1 in
    omega (arith, le, price_some v.starts.0)

-- each child that a live task may hand over is one that the book takes
pub hands_over : (programs : List Checked) (known : List Entry) (lives : List (Option Live)) (h : List Event) (n turn held : ℕ) (live : Live) →
    AreEntries programs known → AreStandings lives h → slice_get lives n ≡ Some (Some live) → turn ≡ n → held ≡ live.credit.held →
    MayHandOver (slice_get known) held (λ child. May (table_of h) (spawn_event turn (length (table_of h).standings) child))
hands_over programs known lives h n turn held live entries are here same holds = record {
  each = λ child entry there covers leaves.
      let s : standing_at (table_of h) turn ≡ record { held = live.credit.held; stage = Fresh } =
      ap (standing_at (table_of h)) same ∙ standing_there lives h n (Some live) are here in
      let q = entry_program programs child.program entry (sym (entries_same programs known entries child.program) ∙ there) in
      let some = cost_some q.0 (entries.verified child.program q.0 q.1) in
      let cost : entry.cost ≡ cost_at q.0 0 = ap (λ (e : Entry). e.cost) q.2 in
      let has : (standing_at (table_of h) turn).held ≡ live.credit.held = ap (λ (x : Standing). x.held) s in (
        ap (λ (x : Standing). may_work x.stage) s,
        refl,
        omega (arith, some, cost, covers),
        omega (arith, leaves, holds, has),
      );
}

-- ---- what a step left of the credit, and whom it told

pub did_held : (E : Type 0) (p : Checked) (e : Effect) (out : StepOut) (frame : Frame) (part : Piece) (credit : Credit) (held : ℕ) (silent : Type 0)
    (told : SpawnRecord → Result (Unit {0}) SpawnRecord → Type 0) → Keeps held e → (silent → credit.held ≡ held → E) →
    ((child : SpawnRecord) → told child (Ok tt) → credit.held + child.share ≡ held → E) →
    ((child : SpawnRecord) → told child (Err child) → credit.held ≡ held → E) → StepEffect p e out frame part credit silent told nobody → E
did_held E p (Continues s) Went frame part credit held silent told keeps first second third d =
    first d.1 (sym (ap (λ (t : State). t.held) d.0.0) ∙ keeps)
did_held E p (Ends r0 s) (Ended word) frame part credit held silent told keeps first second third d =
    first d.2 (sym (ap (λ (t : State). t.held) d.1) ∙ keeps.1)
did_held E p (Spawns birth taken refused) Went frame part credit held silent told keeps first second third d = elim d [
  | inl t ↦
      let left : taken.held ≡ credit.held = ap (λ (u : State). u.held) t.0.0 in
      second t.1.0 t.1.2 (omega (arith, keeps.0, left, t.1.1.share))
  | inr r ↦
      let left : credit.held ≡ held = sym (ap (λ (u : State). u.held) r.0.0) ∙ keeps.1 in
      elim r.1 [ inl back ↦ third back.0 back.2 left | inr quiet ↦ first quiet left ]
]
did_held E p (Continues s) (Ended word) frame part credit held silent told keeps first second third d = absurd d
did_held E p (Ends r0 s) Went frame part credit held silent told keeps first second third d = absurd d
did_held E p (Spawns birth taken refused) (Ended word) frame part credit held silent told keeps first second third d = absurd d
did_held E p (Calls helper arguments s) Went frame part credit held silent told keeps first second third d = absurd d.2
did_held E p (Calls helper arguments s) (Ended word) frame part credit held silent told keeps first second third d = absurd d
did_held E p (Traps trap) out frame part credit held silent told keeps first second third d = absurd d

-- ---- the ledger ahead of a step, and behind it

-- The task of the number is out of its place, and it is its turn. The ledger has what is kept of the others, and its book what is kept of all.
pub record IsTaken (kept : WorldState) (n : ℕ) (ledger : TaskLedger) : Type 0 where
  pub entries : ledger.entries.items ≡ kept.entries
  pub lives : ledger.lives.items ≡ set kept.lives n None
  pub turn : ledger.turn ≡ n
  pub ends : ends_of ledger ≡ kept.ends
  pub collected : collected_of ledger ≡ kept.collected
  pub spent : spent_in (table_of ledger.book.history) ≡ kept.spent
  pub returned : returned_in (table_of ledger.book.history) ≡ kept.returned
  pub issued : ledger.book.board.issued ≡ kept.issued
  pub parents : ledger.parents.items ≡ kept.parents
  pub booked : AreStandings kept.lives ledger.book.history

-- a step has left the ledger with at most one place more
pub record IsLeft (kept : WorldState) (n : ℕ) (after : Live) (ledger : TaskLedger) : Type 0 where
  pub entries : ledger.entries.items ≡ kept.entries
  pub turn : ledger.turn ≡ n
  pub collected : collected_of ledger ≡ kept.collected
  pub spent : spent_in (table_of ledger.book.history) ≡ kept.spent
  pub returned : returned_in (table_of ledger.book.history) ≡ kept.returned
  pub issued : ledger.book.board.issued ≡ kept.issued
  pub out : slice_get ledger.lives.items n ≡ Some None
  pub booked : AreStandings (set ledger.lives.items n (Some after)) ledger.book.history

-- a list with what stands in a place put there
pub same_set : {X : Type 0} (xs : List X) (n : ℕ) (x : X) → slice_get xs n ≡ Some x → set xs n x ≡ xs
same_set xs n x here = ap (set xs n) (sym (get_or_from_slice_get xs n x x here)) ∙ set-get_or xs n x

-- what is kept, by its parts
kept_is : (k : WorldState) (entries : List Entry) (lives lives' : List (Option Live)) (ends ends' : List TaskEnd) (parents : List ℕ) (collected collected' : List ℕ)
    (spent spent' returned returned' issued : ℕ) →
    lives ≡ lives' → ends ≡ ends' → collected ≡ collected' → spent ≡ spent' → returned ≡ returned' → k.issued ≡ issued →
    let a : WorldState = record k { entries = entries; lives = lives; ends = ends; parents = parents; collected = collected; spent = spent; returned = returned } in
    let b : WorldState = record k { entries = entries; lives = lives'; ends = ends'; parents = parents; collected = collected'; spent = spent'; returned = returned'; issued = issued } in a ≡ b
kept_is k entries lives lives' ends ends' parents collected collected' spent spent' returned returned' issued e1 e2 e3 e4 e5 e6 = rw (e1, e2, e3, e4, e5, ← e6) refl

module _ (kept : WorldState) (n : ℕ) (live : Live) (p : Checked) (out : StepOut) (after : Live) (old new : TaskLedger)
    (here : slice_get kept.lives n ≡ Some (Some live)) (read : p ≡ get_or kept.programs live.program p) (base : after.part.base ≡ live.part.base)
    (same_number : after.program ≡ live.program) (taken : IsTaken kept n old)
    (did : (registers : Registers) → RepresentsTask p live.frame registers →
    StepEffect p (effect (program_of p) (slice_get old.entries.items) (state_of live.frame live.part live.credit registers)) out after.frame after.part after.credit
    (new ≡ old) (Told old new) (Asked old new)) where
  same_program : (j : JobState) (at : IsLiveAt kept j n live) → p ≡ at.checked
  same_program j at = read ∙ get_or_from_slice_get kept.programs live.program at.checked p at.program

  -- what the step did, in a program that calls a job's helpers alone
  own : (j : JobState) (at : IsLiveAt kept j n live) (registers : Registers) → RepresentsTask p live.frame registers →
      StepEffect p (effect (program_of p) (slice_get old.entries.items) (state_of live.frame live.part live.credit registers)) out after.frame after.part after.credit
      (new ≡ old) (Told old new) nobody
  own j at registers stands =
      let table : p.helpers ≡ job_table = ap (λ (q : Checked). q.helpers) (same_program j at) ∙ at.own in
      own_did p _ out after.frame after.part after.credit (new ≡ old) (Told old new) (Asked old new)
      (own_effect (program_of p) (slice_get old.entries.items) (state_of live.frame live.part live.credit registers) (own_table p table))
      (did registers stands)

  cases : (E : Type 0) (j : JobState) (at : IsLiveAt kept j n live) → (new ≡ old → after.credit.held ≡ live.credit.held → E) →
      ((child : SpawnRecord) → Told old new child (Ok tt) → after.credit.held + child.share ≡ live.credit.held → E) →
      ((child : SpawnRecord) → Told old new child (Err child) → after.credit.held ≡ live.credit.held → E) → E
  cases E j at first second third =
      let registers : Registers = at.task.registers in
      did_held E p _ out after.frame after.part after.credit live.credit.held (new ≡ old) (Told old new)
      (keeps_effect (program_of p) (slice_get old.entries.items) (state_of live.frame live.part live.credit registers)) first second third
      (own j at registers (subst (λ (q : Checked). RepresentsTask q live.frame registers) (sym (same_program j at)) at.is.behind))

  within : n < length kept.lives
  within = slice_get_within kept.lives n (Some live) here

  -- a ledger with the same places and the same history
  same_left : after.credit.held ≡ live.credit.held → (ledger : TaskLedger) → ledger.entries.items ≡ old.entries.items → ledger.turn ≡ old.turn →
      ledger.book.board ≡ old.book.board → ledger.book.size ≡ old.book.size → ledger.lives.items ≡ old.lives.items →
      ledger.book.history ≡ old.book.history → IsLeft kept n after ledger
  same_left holds ledger entries turn board size lives history =
      let places : ledger.lives.items ≡ set kept.lives n None = lives ∙ taken.lives in
      let put : set ledger.lives.items n (Some after) ≡ set kept.lives n (Some after) =
      ap (λ (ls : List (Option Live)). set ls n (Some after)) places ∙ set-set kept.lives n None (Some after) in
      record {
        entries = entries ∙ taken.entries;
        turn = turn ∙ taken.turn;
        collected = ap (λ (count : ℕ). buffer_of count ledger.book.history) size ∙ ap (buffer_of old.book.size) history ∙ taken.collected;
        spent = ap (λ (h : List Event). spent_in (table_of h)) history ∙ taken.spent;
        returned = ap (λ (h : List Event). returned_in (table_of h)) history ∙ taken.returned;
        issued = ap (λ b. b.issued) board ∙ taken.issued;
        out = ap (λ (ls : List (Option Live)). slice_get ls n) places ∙ set_same kept.lives n None within;
        booked = subst (λ (ls : List (Option Live)). AreStandings ls ledger.book.history) (sym put)
            (subst (λ (h : List Event). AreStandings (set kept.lives n (Some after)) h) (sym history)
            (standings_quiet kept.lives old.book.history n live after taken.booked here holds));
      }

  -- the number that the book gives to a child
  number : length (table_of old.book.history).standings ≡ length old.lives.items
  number = standings_long kept.lives old.book.history taken.booked ∙ sym (length-set kept.lives n None) ∙ sym (ap length taken.lives)

  -- a child has entered
  child_left : (child : SpawnRecord) → Told old new child (Ok tt) → after.credit.held + child.share ≡ live.credit.held → IsLeft kept n after new
  child_left child told leaves =
      let k = length (table_of old.book.history).standings in
      let adds = told.4 in
      let history : new.book.history ≡ old.book.history ++ spawn_event n k child ∷ [] =
      adds.3 ∙ ap (λ (m : ℕ). old.book.history ++ spawn_event m k child ∷ []) taken.turn in
      let places : new.lives.items ≡ set kept.lives n None ++ Some (live_of child) ∷ [] =
      adds.1 ∙ ap (λ (ls : List (Option Live)). ls ++ Some (live_of child) ∷ []) taken.lives in
      let put : set new.lives.items n (Some after) ≡ set kept.lives n (Some after) ++ Some (live_of child) ∷ [] =
      ap (λ (ls : List (Option Live)). set ls n (Some after)) places
      ∙ set-append_left (set kept.lives n None) (Some (live_of child) ∷ []) n (Some after) (omega (arith, within, length-set kept.lives n None))
      ∙ ap (λ (ls : List (Option Live)). ls ++ Some (live_of child) ∷ []) (set-set kept.lives n None (Some after)) in
      record {
        entries = told.0 ∙ taken.entries;
        turn = told.1 ∙ taken.turn;
        collected = ap (λ (count : ℕ). buffer_of count new.book.history) told.3
            ∙ spawned_buffer old.book.history new.book.history n k child history old.book.size ∙ taken.collected;
        spent = spawned_spent old.book.history new.book.history n k child history ∙ taken.spent;
        returned = spawned_returned old.book.history new.book.history n k child history ∙ taken.returned;
        issued = ap (λ b. b.issued) told.2 ∙ taken.issued;
        out = ap (λ (ls : List (Option Live)). slice_get ls n) places
            ∙ push_old (set kept.lives n None) n (Some (live_of child)) None (set_same kept.lives n None within);
        booked = subst (λ (ls : List (Option Live)). AreStandings ls new.book.history) (sym put)
            (standings_spawned old.book.history new.book.history n k child history kept.lives live after taken.booked here leaves);
      }

  pub left : (j : JobState) → RepresentsJob kept j → IsLeft kept n after new
  left j behind =
      cases (IsLeft kept n after new) j (live_at kept j n live behind here)
      (λ e holds. subst (λ (l : TaskLedger). IsLeft kept n after l) (sym e) (same_left holds old refl refl refl refl refl refl))
      child_left
      (λ child told holds. same_left holds new told.0 told.1 told.2 told.3 told.4.0 told.4.2)

  pub grows : (j : JobState) → RepresentsJob kept j → n < length new.lives.items
  grows j behind = slice_get_within new.lives.items n None (left j behind).out

  quiet : new ≡ old → (new.lives.items ≡ set kept.lives n None) × (ends_of new ≡ kept.ends) × (new.parents.items ≡ kept.parents)
  quiet e =
      (ap (λ (l : TaskLedger). l.lives.items) e ∙ taken.lives, ap ends_of e ∙ taken.ends, ap (λ (l : TaskLedger). l.parents.items) e ∙ taken.parents)

  heard : (child : SpawnRecord) (reply : Result (Unit {0}) SpawnRecord) → Told old new child reply →
      Adds n (set kept.lives n None) kept.ends kept.parents child reply new.lives.items (ends_of new) new.parents.items
  heard child (Ok done) told =
      let k = length (table_of old.book.history).standings in
      let adds = told.4 in (
        adds.0,
        adds.1 ∙ ap (λ (ls : List (Option Live)). ls ++ Some (live_of child) ∷ []) taken.lives,
        spawned_tasks old.book.history new.book.history old.turn k child adds.3
            ∙ ap (λ (ts : List TaskEnd). ts ++ entered k child ∷ []) taken.ends
            ∙ ap (λ (m : ℕ). kept.ends ++ entered m child ∷ []) (number ∙ ap length taken.lives),
        adds.2 ∙ ap (λ (ps : List ℕ). ps ++ old.turn ∷ []) taken.parents ∙ ap (λ (m : ℕ). kept.parents ++ m ∷ []) taken.turn,
      )
  heard child (Err back) told =
      (told.4.0 ∙ taken.lives, ap (λ (h : List Event). (table_of h).tasks) told.4.2 ∙ taken.ends, told.4.1 ∙ taken.parents)

  abbrev settled : Live
  settled = record { program = live.program; frame = after.frame; part = after.part; credit = after.credit }

  pub ledger_went : (j : JobState) → RepresentsJob kept j → out ≡ Went → IsCovered p after.frame after.part after.credit →
      Steps kept j n stepped.Went (record kept {
        entries = new.entries.items;
        lives = set new.lives.items n (Some after);
        ends = ends_of new;
        parents = new.parents.items;
        collected = collected_of new;
        spent = spent_in (table_of new.book.history);
        returned = returned_in (table_of new.book.history);
        issued = new.book.board.issued;
      })
  ledger_went j behind is covered =
      let at = live_at kept j n live behind here in
      let same = left j behind in
      let s = steps_went kept j n live behind at after.frame after.part after.credit base new.lives.items (ends_of new) new.parents.items (new ≡ old) (Told old new) quiet heard
      p (slice_get old.entries.items) new.entries.items (same_program j at) (λ i. ap (λ es. slice_get es i) taken.entries) same.entries covered
      (λ registers stands. subst (λ (o : StepOut). StepEffect p (effect (program_of p) (slice_get old.entries.items) (state_of live.frame live.part live.credit registers)) o after.frame after.part after.credit (new ≡ old) (Told old new) nobody) is (own j at registers stands)) in
      subst (λ (k : WorldState). Steps kept j n stepped.Went k)
      (kept_is kept new.entries.items (set new.lives.items n (Some settled)) (set new.lives.items n (Some after)) (ends_of new) (ends_of new) new.parents.items
      kept.collected (collected_of new) kept.spent (spent_in (table_of new.book.history)) kept.returned (returned_in (table_of new.book.history)) new.book.board.issued
      (ap (λ (l : Live). set new.lives.items n (Some l)) (ap (λ (n : ℕ). let l : Live = record after { program = n } in l) (sym same_number))) refl
      (sym same.collected) (sym same.spent) (sym same.returned) (sym same.issued)) s

  -- what the end in the book asks, and what it leaves
  pub record Ending (j : JobState) (word : ℕ) : Type 0 where
    pub standing : standing_at (table_of new.book.history) n ≡ record { held = after.credit.held; stage = Fresh }
    pub used : after.credit.used ≤ after.credit.held
    pub booked : (h : List Event) → h ≡ new.book.history ++ End n after.credit.used word true after.part.base after.part.bytes ∷ [] → AreStandings new.lives.items h
    pub steps : (book : BookState) → book.board ≡ new.book.board → book.size ≡ new.book.size →
        book.history ≡ new.book.history ++ End n after.credit.used word true after.part.base after.part.bytes ∷ [] →
        Steps kept j n (stepped.Ended word) (record kept {
          entries = new.entries.items;
          lives = new.lives.items;
          ends = (table_of book.history).tasks;
          parents = new.parents.items;
          collected = buffer_of book.size book.history;
          spent = spent_in (table_of book.history);
          returned = returned_in (table_of book.history);
          issued = book.board.issued;
        })

  pub ledger_ended : (j : JobState) → RepresentsJob kept j → (word : ℕ) → out ≡ Ended word → Ending j word
  ledger_ended j behind word is =
      let at = live_at kept j n live behind here in
      let same = left j behind in
      let s = steps_ended kept j n live behind at after.frame after.part after.credit base new.lives.items (ends_of new) new.parents.items (new ≡ old) (Told old new) quiet heard
      p (slice_get old.entries.items) new.entries.items word (same_program j at) (λ i. ap (λ es. slice_get es i) taken.entries) same.entries
      (λ registers stands. subst (λ (o : StepOut). StepEffect p (effect (program_of p) (slice_get old.entries.items) (state_of live.frame live.part live.credit registers)) o after.frame after.part after.credit (new ≡ old) (Told old new) nobody) is (own j at registers stands)) in
      let grown = grows j behind in
      let h = new.book.history in
      let put : slice_get (set new.lives.items n (Some after)) n ≡ Some (Some after) = set_same new.lives.items n (Some after) grown in
      let standing : standing_at (table_of h) n ≡ record { held = after.credit.held; stage = Fresh } =
      standing_there (set new.lives.items n (Some after)) h n (Some after) same.booked put in
      let back : set (set new.lives.items n (Some after)) n None ≡ new.lives.items =
      set-set new.lives.items n (Some after) None ∙ same_set new.lives.items n None same.out in
      let ends_same : ends_of new ≡ kept.ends = s.3 in
      let entry = end_of n (job.Live at.task) in
      let there : slice_get (ends_of new) n ≡ Some entry =
      ap (λ es. slice_get es n) ends_same ∙ behind.kept_are.each_end n (job.Live at.task) at.there in
      let holds : (standing_at (table_of h) n).held ≡ after.credit.held = ap (λ (x : Standing). x.held) standing in
      let inside : after.part.base + length after.part.bytes ≤ length (collected_of new) = omega (arith, s.2, ap length same.collected) in
      record {
        standing = standing;
        used = s.0;
        booked = λ h' e.
            subst (λ (ls : List (Option Live)). AreStandings ls h') back
            (standings_ended h h' n after.credit.used word after.part.base after.part.bytes e (set new.lives.items n (Some after)) same.booked);
        steps = λ book board size e.
            subst (λ (k : WorldState). Steps kept j n (stepped.Ended word) k)
            (kept_is kept new.entries.items new.lives.items new.lives.items (set (ends_of new) n (ended_end n at.task after.credit word)) (table_of book.history).tasks new.parents.items
            (written kept.collected after.part.base after.part.bytes) (buffer_of book.size book.history)
            (kept.spent + after.credit.used) (spent_in (table_of book.history))
            (kept.returned + (after.credit.held - after.credit.used)) (returned_in (table_of book.history)) book.board.issued refl
            (sym (ended_tasks h book.history n after.credit.used word after.part.base after.part.bytes e entry after.credit.held there holds))
            (ap (λ b. written b after.part.base after.part.bytes) (sym same.collected)
            ∙ sym (ended_buffer h book.history n after.credit.used word after.part.base after.part.bytes e new.book.size inside)
            ∙ ap (λ (count : ℕ). buffer_of count book.history) (sym size))
            (ap (λ x. x + after.credit.used) (sym same.spent)
            ∙ sym (ended_spent h book.history n after.credit.used word after.part.base after.part.bytes e entry after.credit.held there holds refl))
            (ap (λ x. x + (after.credit.held - after.credit.used)) (sym same.returned)
            ∙ sym (ended_returned h book.history n after.credit.used word after.part.base after.part.bytes e entry after.credit.held there holds refl))
            (sym same.issued ∙ sym (ap (λ b. b.issued) board))) s.1;
      }
