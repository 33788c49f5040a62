-- What a job's book has, by its history: of each place, after a child's spawn, and after an end.
use Rattle.std.proofs.Common.{◌≡◌, ◌↔◌, ℕ, zero, suc, ◌+◌, ◌-◌, ◌≤◌, List, [], ◌∷◌, ◌++◌, length, map, get_or, set, slice_get, replicate, sum_by, refl, sym, ◌∙◌, arith, ap, true, Option, Some, None}
use Rattle.std.proofs.lemmas.List.{map-set, map-append, length-map}
use Rattle.std.proofs.lemmas.List.Sums.{sum_by-append, sum_by-cons, sum_by-set}
use Rattle.std.proofs.lemmas.Option.{get_or_from_slice_get, slice_get_within}
use Rattle.std.proofs.Math.Seq.{map-set_same}
use Rattle.machine_model.specs.Memory.{written}
use Rattle.helpers.specs.declared.spawner.SpawnRecord.{SpawnRecord}
use Rattle.helpers.proofs.PieceLemmas.{written_inside}
use Rattle.credit_book.specs.declared.event.Event.{Event}
use Rattle.credit_book.specs.declared.event.Event.TheVariants.{End}
use Rattle.credit_book.specs.declared.event.Standing.{Standing}
use Rattle.credit_book.specs.declared.event.Stage.TheVariants.{Fresh, Ended}
use Rattle.credit_book.specs.declared.event.TaskEnd.{TaskEnd}
use Rattle.credit_book.specs.History.{TaskTable, IsComplete, after, is_alive, standing_at, task_at, table_of, spent_in, returned_in}
use Rattle.credit_book.specs.Books.{spawn_event}
use Rattle.credit_book.specs.Buffers.{buffer_of}
use Rattle.credit_book.proofs.Histories.{table_of-push}
use Rattle.credit_book.proofs.BufferLemmas.{buffer_from-push}
use Rattle.job_core.specs.declared.live.Live.{Live}
use Rattle.job_core.specs.Keeping.{standing_of, AreStandings}
use Rattle.job_core.specs.Seats.{live_of}
use Rattle.job_core.proofs.Adding.{entered}

-- ---- what the book has of each place

abbrev gone : Standing
gone = record { held = 0; stage = Ended }

-- of a place that there is, and past the last one
abbrev place_standing : Option (Option Live) → Standing
place_standing None = gone
place_standing (Some place) = standing_of place

standing_read : (lives : List (Option Live)) (n : ℕ) → get_or (map standing_of lives) n gone ≡ place_standing (slice_get lives n)
standing_read [] zero = refl
standing_read [] (suc n) = refl
standing_read (place ∷ lives) zero = refl
standing_read (place ∷ lives) (suc n) = standing_read lives n

pub standing_there : (lives : List (Option Live)) (h : List Event) (n : ℕ) (place : Option Live) → AreStandings lives h →
    slice_get lives n ≡ Some place → standing_at (table_of h) n ≡ standing_of place
standing_there lives h n place are here =
    ap (λ (ss : List Standing). get_or ss n gone) are ∙ standing_read lives n ∙ ap place_standing here

-- there are as many as there are places
pub standings_long : (lives : List (Option Live)) (h : List Event) → AreStandings lives h → length (table_of h).standings ≡ length lives
standings_long lives h are = ap length are ∙ length-map lives standing_of

no_live : (place : Option (Option Live)) → ((live : Live) → place ≡ Some (Some live) → ⊥) → is_alive (place_standing place).stage ≡ true → ⊥
no_live None none alive = cc
no_live (Some None) none alive = cc
no_live (Some (Some live)) none alive = none live refl

-- no live task is kept exactly if none is alive in the book
pub book_complete : (lives : List (Option Live)) (h : List Event) → AreStandings lives h →
    ((n : ℕ) (live : Live) → slice_get lives n ≡ Some (Some live) → ⊥) ↔ IsComplete (table_of h)
book_complete lives h are = (
  λ finished n alive. no_live (slice_get lives n) (finished n)
      (sym (ap (λ (s : Standing). is_alive s.stage) (ap (λ (ss : List Standing). get_or ss n gone) are ∙ standing_read lives n)) ∙ alive),
  λ complete n live here. complete n (ap (λ (s : Standing). is_alive s.stage) (standing_there lives h n (Some live) are here)),
)

-- another live task with the same credit stands in its place alike
pub standings_alike : (lives : List (Option Live)) (h : List Event) (n : ℕ) (a b : Live) → a.credit.held ≡ b.credit.held →
    AreStandings (set lives n (Some a)) h → AreStandings (set lives n (Some b)) h
standings_alike lives h n a b same are =
    are ∙ map-set standing_of lives n (Some a)
    ∙ ap (λ (k : ℕ). let s : Standing = record { held = k; stage = Fresh } in set (map standing_of lives) n s) same
    ∙ sym (map-set standing_of lives n (Some b))

-- ---- where a task goes on

-- with all of its credit
pub standings_quiet : (lives : List (Option Live)) (h : List Event) (n : ℕ) (live after : Live) → AreStandings lives h →
    slice_get lives n ≡ Some (Some live) → after.credit.held ≡ live.credit.held → AreStandings (set lives n (Some after)) h
standings_quiet lives h n live after are here same =
    are ∙ sym (map-set_same standing_of lives n (Some after) None
    (ap (λ (k : ℕ). let s : Standing = record { held = k; stage = Fresh } in s) same
    ∙ ap standing_of (sym (get_or_from_slice_get lives n (Some live) None here))))

module _ (h h' : List Event) (n k : ℕ) (child : SpawnRecord) (is : h' ≡ h ++ spawn_event n k child ∷ []) where
  spawned_table : table_of h' ≡ after (table_of h) (spawn_event n k child)
  spawned_table = ap table_of is ∙ table_of-push h (spawn_event n k child)

  -- with what its child leaves it
  pub standings_spawned : (lives : List (Option Live)) (live after : Live) → AreStandings lives h → slice_get lives n ≡ Some (Some live) →
      after.credit.held + child.share ≡ live.credit.held → AreStandings (set lives n (Some after) ++ Some (live_of child) ∷ []) h'
  standings_spawned lives live after are here leaves =
      let new : Standing = record { held = child.share; stage = Fresh } in
      let left : live.credit.held - child.share ≡ after.credit.held = omega (arith, leaves) in
      ap (λ (t : TaskTable). t.standings) spawned_table
      ∙ ap (λ (x : Standing). let y : Standing = record { held = x.held - child.share; stage = x.stage } in set (table_of h).standings n y ++ new ∷ [])
      (standing_there lives h n (Some live) are here)
      ∙ ap (λ (m : ℕ). let y : Standing = record { held = m; stage = Fresh } in set (table_of h).standings n y ++ new ∷ []) left
      ∙ ap (λ (ss : List Standing). set ss n (standing_of (Some after)) ++ new ∷ []) are
      ∙ ap (λ (ss : List Standing). ss ++ new ∷ []) (sym (map-set standing_of lives n (Some after)))
      ∙ sym (map-append standing_of (set lives n (Some after)) (Some (live_of child) ∷ []))

  pub spawned_tasks : (table_of h').tasks ≡ (table_of h).tasks ++ entered k child ∷ []
  spawned_tasks = ap (λ (t : TaskTable). t.tasks) spawned_table

  pub spawned_spent : spent_in (table_of h') ≡ spent_in (table_of h)
  spawned_spent =
      ap (λ (ts : List TaskEnd). sum_by (λ (e : TaskEnd). e.spent) ts) spawned_tasks
      ∙ omega (arith, sum_by-append (λ (e : TaskEnd). e.spent) (table_of h).tasks (entered k child ∷ []), sum_by-cons (λ (e : TaskEnd). e.spent) (entered k child) [])

  pub spawned_returned : returned_in (table_of h') ≡ returned_in (table_of h)
  spawned_returned =
      ap (λ (ts : List TaskEnd). sum_by (λ (e : TaskEnd). e.rest) ts) spawned_tasks
      ∙ omega (arith, sum_by-append (λ (e : TaskEnd). e.rest) (table_of h).tasks (entered k child ∷ []), sum_by-cons (λ (e : TaskEnd). e.rest) (entered k child) [])

  pub spawned_buffer : (size : ℕ) → buffer_of size h' ≡ buffer_of size h
  spawned_buffer size = ap (buffer_of size) is ∙ buffer_from-push (replicate size 0) h (spawn_event n k child)

-- ---- where a task ends

module _ (h h' : List Event) (n used word base : ℕ) (bytes : List ℕ) (is : h' ≡ h ++ End n used word true base bytes ∷ []) where
  ended_table : table_of h' ≡ after (table_of h) (End n used word true base bytes)
  ended_table = ap table_of is ∙ table_of-push h (End n used word true base bytes)

  pub standings_ended : (lives : List (Option Live)) → AreStandings lives h → AreStandings (set lives n None) h'
  standings_ended lives are =
      ap (λ (t : TaskTable). t.standings) ended_table
      ∙ ap (λ (ss : List Standing). set ss n gone) are
      ∙ sym (map-set standing_of lives n None)

  module _ (entry : TaskEnd) (held : ℕ) (there : slice_get (table_of h).tasks n ≡ Some entry) (holds : (standing_at (table_of h) n).held ≡ held) where
    -- what the report says of it
    abbrev pub noted : TaskEnd
    noted = record entry { spent = used; rest = held - used; r0 = word; ran = true }

    pub ended_tasks : (table_of h').tasks ≡ set (table_of h).tasks n noted
    ended_tasks =
        ap (λ (t : TaskTable). t.tasks) ended_table
        ∙ ap (λ (e : TaskEnd). let x : TaskEnd = record e { spent = used; rest = (standing_at (table_of h) n).held - used; r0 = word; ran = true } in set (table_of h).tasks n x)
        (get_or_from_slice_get (table_of h).tasks n entry (task_at (record { standings = []; tasks = []; queue = [] }) 0) there)
        ∙ ap (λ (m : ℕ). let x : TaskEnd = record entry { spent = used; rest = m - used; r0 = word; ran = true } in set (table_of h).tasks n x) holds

    pub ended_spent : entry.spent ≡ 0 → spent_in (table_of h') ≡ spent_in (table_of h) + used
    ended_spent none =
        let lt = slice_get_within (table_of h).tasks n entry there in
        let here = get_or_from_slice_get (table_of h).tasks n entry entry there in
        ap (λ (ts : List TaskEnd). sum_by (λ (e : TaskEnd). e.spent) ts) ended_tasks
        ∙ omega (arith, sum_by-set (λ (e : TaskEnd). e.spent) (table_of h).tasks n noted entry lt, ap (λ (e : TaskEnd). e.spent) here, none)

    pub ended_returned : entry.rest ≡ 0 → returned_in (table_of h') ≡ returned_in (table_of h) + (held - used)
    ended_returned none =
        let lt = slice_get_within (table_of h).tasks n entry there in
        let here = get_or_from_slice_get (table_of h).tasks n entry entry there in
        ap (λ (ts : List TaskEnd). sum_by (λ (e : TaskEnd). e.rest) ts) ended_tasks
        ∙ omega (arith, sum_by-set (λ (e : TaskEnd). e.rest) (table_of h).tasks n noted entry lt, ap (λ (e : TaskEnd). e.rest) here, none)

  pub ended_buffer : (size : ℕ) → base + length bytes ≤ length (buffer_of size h) → buffer_of size h' ≡ written (buffer_of size h) base bytes
  ended_buffer size inside =
      ap (buffer_of size) is ∙ buffer_from-push (replicate size 0) h (End n used word true base bytes)
      ∙ sym (written_inside (buffer_of size h) base bytes inside)
