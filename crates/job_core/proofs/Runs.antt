-- A task that is out of its place goes on along a schedule.
use Rattle.std.proofs.Common.{◌≡◌, ℕ, zero, suc, ◌<◌, ◌≤◌, arith, ◌+◌, ◌-◌, List, [], ◌∷◌, ◌++◌, get_or, length, replicate, set, slice_get, take, take-append-drop, drop, refl, sym, ◌∙◌, ap, subst, Some, None}
use Rattle.std.proofs.lemmas.Option.{slice_get_within, get_or_from_slice_get}
use Rattle.std.proofs.lemmas.List.{append-nil, append_assoc, length-drop, replicate_more, set-set, take_more}
use Rattle.std.proofs.Math.Seq.{take-length}
use Rattle.machine_model.specs.Value.{Registers}
use Rattle.machine_model.specs.Machine.{State, effect}
use Rattle.machine_model.specs.JobState as job
use Rattle.machine_model.specs.JobState.{JobState, Task}
use Rattle.machine_model.proofs.Places.{set_same}
use Rattle.verifier.specs.Checked.{Checked, program_of, cost_at}
use Rattle.interpreter.specs.declared.frame.ControlPoint.{ControlPoint}
use Rattle.interpreter.specs.declared.frame.ControlPoint.TheVariants.{At, Ended}
use Rattle.helpers.specs.Piece.{Piece}
use Rattle.interpreter.specs.declared.frame.Frame.{Frame}
use Rattle.interpreter.specs.Representation.{RepresentsTask, IsCovered, StepEffect, at_slot, out_of, slot_after, state_of}
use Rattle.interpreter.specs.declared.credit.Credit.{Credit}
use Rattle.interpreter.specs.Children.{MayHandOver}
use Rattle.interpreter.specs.Stretch.{ContinuesFor, Ran, spent_on}
use Rattle.credit_book.specs.Books.{spawn_event}
use Rattle.credit_book.specs.History.{May, table_of}
use Rattle.job_core.specs.declared.ledger.TaskLedger.{TaskLedger}
use Rattle.job_core.specs.declared.live.Live.{Live}
use Rattle.job_core.specs.declared.tasks.Stepped.{Stepped}
use Rattle.job_core.specs.declared.tasks.Stepped.TheVariants as stepped
use Rattle.job_core.specs.declared.tasks.Tasks.{Tasks}
use Rattle.job_core.specs.Representation.{WorldState, RepresentsJob, PlaysOn, Plays, Steps}
use Rattle.job_core.specs.Keeping.{kept_of, AreStandings}
use Rattle.job_core.proofs.Booking.{standings_alike}
use Rattle.job_core.proofs.Ledgers.{Told, Asked, Ending, IsTaken, hands_over, ledger_went, ledger_ended, left, same_set}
use Rattle.job_core.proofs.Plays.{plays_more, plays_none}
use Rattle.job_core.proofs.Simulates.{live_at}
use Rattle.job_core.proofs.Onward.{less_ahead, some_ahead}

-- ---- runs that lead on

pub leads_none : (kept : WorldState) → PlaysOn kept [] kept
leads_none kept = record {
  programs = refl;
  plays = λ j schedule plays. subst (λ ns. Plays kept.programs j ns kept) (sym (append-nil schedule)) plays;
}

pub leads_more : (old mid new : WorldState) (numbers : List ℕ) (n : ℕ) (out : Stepped) → PlaysOn old numbers mid → new.programs ≡ mid.programs →
    ((j : JobState) → RepresentsJob mid j → Steps mid j n out new) → PlaysOn old (numbers ++ n ∷ []) new
leads_more old mid new numbers n out so_far same steps = record {
  programs = same ∙ so_far.programs;
  plays = λ j schedule plays. subst (λ ns. Plays old.programs j ns new) (append_assoc schedule numbers (n ∷ []))
      (plays_more old.programs j (schedule ++ numbers) n out mid new same (so_far.plays j schedule plays) steps);
}

-- what leads on leads from each run on
pub plays_led : (programs : List Checked) (j : JobState) (schedule numbers : List ℕ) (old new : WorldState) →
    Plays programs j schedule old → PlaysOn old numbers new → Plays programs j (schedule ++ numbers) new
plays_led programs j schedule numbers old new plays leads =
    subst (λ ps. Plays ps j (schedule ++ numbers) new) plays.same_programs
    (leads.plays j schedule (subst (λ ps. Plays ps j schedule old) (sym plays.same_programs) plays))

-- what is led to represents a job
pub behind_led : (old new : WorldState) (numbers : List ℕ) (j : JobState) → RepresentsJob old j → PlaysOn old numbers new → (k : JobState) × RepresentsJob new k
behind_led old new numbers j behind leads =
    let plays = leads.plays j [] (plays_none old.programs j old refl behind) in (plays.last, plays.behind)

abbrev pub first_of : List ℕ → ℕ
first_of schedule = get_or schedule 0 0

-- one more entry that names the number
pub take_named : (schedule : List ℕ) (gone n : ℕ) → gone < length schedule → get_or schedule gone 0 ≡ n →
    take (gone + 1) schedule ≡ take gone schedule ++ n ∷ []
take_named schedule gone n lt named = take_more schedule gone 0 lt ∙ ap (λ k. take gone schedule ++ k ∷ []) named

-- entries that name no live task change nothing
pub leads_skips : (kept : WorldState) (schedule : List ℕ) (n : ℕ) → ((j : JobState) → RepresentsJob kept j → Steps kept j n stepped.Skipped kept) →
    (k : ℕ) → k ≤ length schedule → ((i : ℕ) → i < k → get_or schedule i 0 ≡ n) → PlaysOn kept (take k schedule) kept
leads_skips kept schedule n steps zero fits named = leads_none kept
leads_skips kept schedule n steps (suc k) fits named =
    let lt : k < length schedule = omega (arith, fits) in
    let on = leads_skips kept schedule n steps k (omega (arith, fits)) (λ i less. named i (omega (arith, less))) in
    let one_more : k + 1 ≡ suc k = omega arith in
    subst (λ ns. PlaysOn kept ns kept) (sym (take_named schedule k n lt (named k (omega arith))) ∙ ap (λ m. take m schedule) one_more)
    (leads_more kept kept kept (take k schedule) n stepped.Skipped on refl steps)

-- entries that all name the number
pub take_alike : (schedule : List ℕ) (n k : ℕ) → k ≤ length schedule → ((i : ℕ) → i < k → get_or schedule i 0 ≡ n) →
    take k schedule ≡ replicate k n
take_alike schedule n zero fits named = refl
take_alike schedule n (suc k) fits named =
    let one_more : k + 1 ≡ suc k = omega arith in
    ap (λ m. take m schedule) (sym one_more) ∙ take_named schedule k n (omega (arith, fits)) (named k (omega arith))
    ∙ ap (λ ns. ns ++ n ∷ []) (take_alike schedule n k (omega (arith, fits)) (λ i less. named i (omega (arith, less))))
    ∙ replicate_more k n ∙ ap (λ m. replicate m n) one_more

-- what is gone along, and what is left as a slice
pub parts : (schedule : List ℕ) (gone : ℕ) → schedule ≡ take gone schedule ++ take (length schedule - gone) (drop gone schedule)
parts schedule gone =
    sym (take-append-drop gone schedule)
    ∙ ap (λ rest. take gone schedule ++ rest) (sym (take-length (drop gone schedule)) ∙ ap (λ n. take n (drop gone schedule)) (length-drop gone schedule))

-- ---- a task out of its place

-- the task with this slot as its next
abbrev pub living_at : Live → ℕ → Live
living_at live slot = record live { frame = at_slot live.frame slot }

-- what is kept with the task in its place
abbrev pub standing : WorldState → ℕ → Live → WorldState
standing kept n live = record kept { lives = set kept.lives n (Some live) }

-- The task is out of its place. With it there, what was kept leads on along these numbers to what is kept.
pub record IsUnderWay (old now : WorldState) (numbers : List ℕ) (n : ℕ) (live : Live) (slot : ℕ) (code : Checked) : Type 0 where
  pub out : slice_get now.lives n ≡ Some None
  pub read : code ≡ get_or now.programs live.program code
  pub behind : (j : JobState) × RepresentsJob (standing now n (living_at live slot)) j
  pub leads : PlaysOn old numbers (standing now n (living_at live slot))

-- the task is taken from its place
pub sets_out : (kept : WorldState) (n : ℕ) (live : Live) (code : Checked) → slice_get kept.lives n ≡ Some (Some live) →
    code ≡ get_or kept.programs live.program code → (j : JobState) × RepresentsJob kept j →
    IsUnderWay kept (record kept { lives = set kept.lives n None }) [] n live live.frame.slot code
sets_out kept n live code here read behind =
    let back : kept.lives ≡ set (set kept.lives n None) n (Some live) =
    sym (set-set kept.lives n None (Some live) ∙ same_set kept.lives n (Some live) here) in
    let same : kept ≡ standing (record kept { lives = set kept.lives n None }) n live =
    ap (λ ls. let k : WorldState = record kept { lives = ls } in k) back in
    record {
      out = set_same kept.lives n None (slice_get_within kept.lives n (Some live) here);
      read = read;
      behind = (behind.0, subst (λ k. RepresentsJob k behind.0) same behind.1);
      leads = subst (λ k. PlaysOn kept [] k) same (leads_none kept);
    }

-- the task that is out of its place is the one whose turn it is, and the book has its credit
pub record IsRunning (tasks : Tasks) (n : ℕ) (live : Live) : Type 0 where
  pub turn : tasks.ledger.turn ≡ n
  pub booked : AreStandings (set tasks.ledger.lives.items n (Some live)) tasks.ledger.book.history

module _ (old : WorldState) (tasks : Tasks) (numbers : List ℕ) (n : ℕ) (live : Live) (slot : ℕ) (code : Checked)
    (way : IsUnderWay old (kept_of tasks) numbers n live slot code) where
  pub within : n < length tasks.ledger.lives.items
  within = slice_get_within tasks.ledger.lives.items n None way.out

  abbrev pub place : WorldState
  place = standing (kept_of tasks) n (living_at live slot)

  pub here : slice_get place.lives n ≡ Some (Some (living_at live slot))
  here = set_same tasks.ledger.lives.items n (Some (living_at live slot)) within

  -- its program covers it
  pub covered_there : IsCovered code (at_slot live.frame slot) live.part live.credit
  covered_there =
      let at = live_at place way.behind.0 n (living_at live slot) way.behind.1 here in
      let same : code ≡ at.checked = way.read ∙ get_or_from_slice_get place.programs live.program at.checked code at.program in
      subst (λ (p : Checked). IsCovered p (at_slot live.frame slot) live.part live.credit) (sym same) at.is.covered

  -- the task behind it
  own : (j : JobState) → RepresentsJob place j →
      (t : Task) × (slice_get j.tasks n ≡ Some (job.Live t)) × (slice_get place.programs t.program ≡ Some code) × (t.slot ≡ slot)
  own j behind =
      let at = live_at place j n (living_at live slot) behind here in
      let same : code ≡ at.checked = way.read ∙ get_or_from_slice_get place.programs live.program at.checked code at.program in
      let there : slice_get place.programs at.task.program ≡ Some code = ap (slice_get place.programs) at.is.program ∙ at.program ∙ ap Some (sym same) in
      (at.task, at.there, there, ap (λ (x : State). x.slot) at.is.state)

  -- it has something ahead of it
  pub some_left : 0 < cost_at code slot
  some_left =
      let o = own way.behind.0 way.behind.1 in
      subst (λ s. 0 < cost_at code s) o.3 (some_ahead place way.behind.0 n o.0 code way.behind.1 o.1 o.2)

  pub lives_are : tasks.ledger.lives.items ≡ set place.lives n None
  lives_are = sym (set-set tasks.ledger.lives.items n (Some (living_at live slot)) None ∙ same_set tasks.ledger.lives.items n None way.out)

  pub taken : IsRunning tasks n live → IsTaken place n tasks.ledger
  taken running = record {
    entries = refl;
    lives = lives_are;
    turn = running.turn;
    ends = refl;
    collected = refl;
    spent = refl;
    returned = refl;
    issued = refl;
    parents = refl;
    booked = standings_alike tasks.ledger.lives.items tasks.ledger.book.history n live (living_at live slot) refl running.booked;
  }

  -- whatever it may hand over is what the book takes
  pub may_hand_over : IsRunning tasks n live → MayHandOver (slice_get tasks.ledger.entries.items) live.credit.held
      (λ child. May (table_of tasks.ledger.book.history) (spawn_event tasks.ledger.turn (length (table_of tasks.ledger.book.history).standings) child))
  may_hand_over running =
      hands_over tasks.programs.items tasks.ledger.entries.items (set tasks.ledger.lives.items n (Some live)) tasks.ledger.book.history n tasks.ledger.turn
      live.credit.held live way.behind.1.entries running.booked (set_same tasks.ledger.lives.items n (Some live) within) running.turn refl

  module _ (running : IsRunning tasks n live) (next : ControlPoint) (after : Live) (ledger : TaskLedger) (base : after.part.base ≡ live.part.base) (same_number : after.program ≡ live.program)
      (did : (registers : Registers) → RepresentsTask code (at_slot live.frame slot) registers →
      StepEffect code (effect (program_of code) (slice_get tasks.ledger.entries.items) (state_of (at_slot live.frame slot) live.part live.credit registers))
      (out_of next) (at_slot after.frame (slot_after slot next)) after.part after.credit
      (ledger ≡ tasks.ledger) (Told tasks.ledger ledger) (Asked tasks.ledger ledger)) where
    abbrev pub then_at : Live
    then_at = living_at after (slot_after slot next)

    abbrev pub then_kept : WorldState
    then_kept = kept_of (record tasks { ledger = ledger })

    -- it goes on
    pub way_on : (to : ℕ) → next ≡ At to → IsCovered code (at_slot after.frame to) after.part after.credit →
        IsUnderWay old then_kept (numbers ++ n ∷ []) n after to code × IsRunning (record tasks { ledger = ledger }) n after
        × (cost_at code to < cost_at code slot)
    way_on to is covered =
        let reached : slot_after slot next ≡ to = ap (slot_after slot) is in
        let steps : (j : JobState) → RepresentsJob place j → Steps place j n stepped.Went (standing then_kept n then_at) = λ j behind.
        ledger_went place n (living_at live slot) code (out_of next) then_at tasks.ledger ledger here way.read base same_number
        (taken running) did j behind (ap out_of is)
        (subst (λ s. IsCovered code (at_slot after.frame s) after.part after.credit) (sym reached) covered) in
        let first = steps way.behind.0 way.behind.1 in
        let is_left = left place n (living_at live slot) code (out_of next) then_at tasks.ledger ledger here way.read base same_number
        (taken running) did way.behind.0 way.behind.1 in
        let o = own way.behind.0 way.behind.1 in
        let u = first.4.1 in
        let falls = (less_ahead place way.behind.0 first.1 n first.0 o.0 u.0 code way.behind.1 first.2 o.1 u.1 o.2).1 in
        let at = first.3.kept_are.each n (job.Live u.0) u.1 in
        let found : Some (Some at.live) ≡ Some (Some then_at) =
        sym at.there ∙ set_same ledger.lives.items n (Some then_at) (slice_get_within ledger.lives.items n None is_left.out) in
        let same : at.live ≡ then_at = cc in
        let slot_is : u.0.slot ≡ to = ap (λ (x : State). x.slot) at.is.state ∙ ap (λ (l : Live). l.frame.slot) same ∙ reached in
        let less : cost_at code to < cost_at code slot =
        subst (λ s. cost_at code s < cost_at code slot) slot_is (subst (λ s. cost_at code u.0.slot < cost_at code s) o.3 falls) in (
          subst (λ s. IsUnderWay old then_kept (numbers ++ n ∷ []) n after s code) reached (record {
            out = is_left.out;
            read = way.read ∙ ap (λ number. get_or tasks.programs.items number code) (sym same_number);
            behind = (first.1, first.3);
            leads = leads_more old place (standing then_kept n then_at) numbers n stepped.Went way.leads refl steps;
          }),
          record {
            turn = is_left.turn;
            booked = standings_alike ledger.lives.items ledger.book.history n then_at after refl is_left.booked;
          },
          less,
        )

    -- it ends
    pub way_ends : (j : JobState) → RepresentsJob place j → (word : ℕ) → next ≡ Ended word →
        Ending place n (living_at live slot) code (out_of next) then_at tasks.ledger ledger here way.read base same_number
        (taken running) did j word
    way_ends j behind word is =
        ledger_ended place n (living_at live slot) code (out_of next) then_at tasks.ledger ledger here way.read base same_number
        (taken running) did j behind word (ap out_of is)

-- ---- a stretch of a task out of its place

-- the task behind a stretch
abbrev pub living_on : Live → ℕ → Frame → Piece → Live
living_on live n frame part = record live { frame = frame; part = part; credit = spent_on live.credit n }

-- it runs as the one ahead of it did
pub running_on : (tasks : Tasks) (n : ℕ) (live : Live) (k : ℕ) (frame : Frame) (part : Piece) → IsRunning tasks n live →
    IsRunning tasks n (living_on live k frame part)
running_on tasks n live k frame part running = record {
  turn = running.turn;
  booked = standings_alike tasks.ledger.lives.items tasks.ledger.book.history n live (living_on live k frame part) refl running.booked;
}

-- no instruction, and so the same task
no_stretch : (old now : WorldState) (numbers ns : List ℕ) (n : ℕ) (live : Live) (slot : ℕ) (code : Checked) → IsUnderWay old now numbers n live slot code →
    numbers ≡ ns → IsUnderWay old now ns n (living_on live 0 (at_slot live.frame slot) live.part) slot code
no_stretch old now numbers ns n live slot code way same =
    let none : living_at live slot ≡ living_on live 0 (at_slot live.frame slot) live.part =
    ap (λ u. let l : Live = record live { frame = at_slot live.frame slot; credit = record { held = live.credit.held; used = u } } in l) (omega arith) in
    record {
      out = way.out;
      read = way.read;
      behind = (way.behind.0, subst (λ (l : Live). RepresentsJob (standing now n l) way.behind.0) none way.behind.1);
      leads = subst (λ ms. PlaysOn old ms (standing now n (living_on live 0 (at_slot live.frame slot) live.part))) same
          (subst (λ (l : Live). PlaysOn old numbers (standing now n l)) none way.leads);
    }

module _ (old : WorldState) (tasks : Tasks) (schedule : List ℕ) (gone n : ℕ) (live : Live) (slot : ℕ) (code : Checked)
    (way : IsUnderWay old (kept_of tasks) (take gone schedule) n live slot code) (running : IsRunning tasks n live) where
  -- it goes on by so many instructions, where as many entries name it
  pub way_stretch : (k : ℕ) (mid : Frame) (mid_part : Piece) → ContinuesFor code live.credit k (at_slot live.frame slot) live.part mid mid_part →
      gone + k ≤ length schedule → ((i : ℕ) → i < gone + k → get_or schedule i 0 ≡ n) →
      IsUnderWay old (kept_of tasks) (take (gone + k) schedule) n (living_on live k mid mid_part) mid.slot code
      × (mid_part.base ≡ live.part.base) × (k + cost_at code mid.slot ≤ cost_at code slot)
  way_stretch zero mid mid_part goes fits named =
      let all : gone ≡ gone + 0 = omega arith in
      rw (goes.0, goes.1)
      (no_stretch old (kept_of tasks) (take gone schedule) (take (gone + 0) schedule) n live slot code way (ap (λ m. take m schedule) all), refl, omega arith)
  way_stretch (suc k) mid mid_part goes fits named =
      let from : Frame = goes.0 in
      let from_part : Piece = goes.1 in
      let last = goes.3 in
      let lt : gone + k < length schedule = omega (arith, fits) in
      let before = way_stretch k from from_part goes.2 (omega (arith, fits)) (λ i less. named i (omega (arith, less))) in
      let on = way_on old tasks (take (gone + k) schedule) n (living_on live k from from_part) from.slot code before.0 (running_on tasks n live k from from_part running)
      (At mid.slot) (living_on live (suc k) mid mid_part) tasks.ledger last.base refl
      (λ registers behind.
      let goes_to = last.goes (slice_get tasks.ledger.entries.items) registers behind in
      rw goes_to.2 ((refl, goes_to.1), refl))
      mid.slot refl last.covered in
      let one_more : gone + k + 1 ≡ gone + suc k = omega arith in (
        subst (λ ns. IsUnderWay old (kept_of tasks) ns n (living_on live (suc k) mid mid_part) mid.slot code)
            (sym (take_named schedule (gone + k) n lt (named (gone + k) (omega arith))) ∙ ap (λ m. take m schedule) one_more) on.0,
        last.base ∙ before.1,
        omega (arith, before.2, on.2),
      )

  -- it goes on by these instructions but the last one, which then takes it to what is told of that
  pub way_ran : (limit count : ℕ) (told : Frame → Piece → Credit → Type 0) → (ran : Ran code live.credit limit count (at_slot live.frame slot) live.part told) →
      gone + count ≤ length schedule → ((i : ℕ) → i < gone + count → get_or schedule i 0 ≡ n) →
      IsUnderWay old (kept_of tasks) (take (gone + ran.before) schedule) n (living_on live ran.before ran.mid ran.mid_part) ran.mid.slot code
      × (ran.mid_part.base ≡ live.part.base)
      × (take (gone + count) schedule ≡ take (gone + ran.before) schedule ++ n ∷ [])
      × (ran.before + cost_at code ran.mid.slot ≤ cost_at code slot)
  way_ran limit count told ran fits named =
      let is = ran.count in
      let both = way_stretch ran.before ran.mid ran.mid_part ran.goes (omega (arith, fits, is)) (λ i less. named i (omega (arith, less, is))) in
      let last : gone + count ≡ gone + ran.before + 1 = omega (arith, is) in (
        both.0,
        both.1,
        ap (λ m. take m schedule) last ∙ take_named schedule (gone + ran.before) n (omega (arith, fits, is)) (named (gone + ran.before) (omega (arith, is))),
        both.2,
      )
