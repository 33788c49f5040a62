-- The tasks of a world as a step of one task leaves them.
use Rattle.std.proofs.Common.{◌≡◌, ℕ, zero, suc, ◌<◌, ◌≤◌, ◌+◌, ◌-◌, ◌⊎◌, inl, inr, List, [], ◌∷◌, ◌++◌, length, length-set, length-append, take, drop, set, replicate, ◌^◌, slice_get, refl, sym, ◌∙◌, arith, ap, subst, sum_by, true, Option, Some, None}
use Rattle.std.proofs.lemmas.Option.{slice_get_within}
use Rattle.std.proofs.lemmas.List.{take-take, drop-take, drop-drop}
use Rattle.std.proofs.lemmas.List.Sums.{sum_by-append, sum_by-cons}
use Rattle.std.proofs.Math.Seq.{take-append_seam, drop-append_seam}
use Rattle.machine_model.specs.JobState as job
use Rattle.machine_model.specs.JobState.{JobState, Task, Member, with_state, child_of, goes_on, AreTiles, base_of, size_of, spent_by, returned_by, entry_registers}
use Rattle.machine_model.specs.Memory.{written}
use Rattle.machine_model.specs.Machine.{State, Birth}
use Rattle.machine_model.proofs.Places.{set_same, set_other, by_number, push_old, push_new, pushed}
use Rattle.machine_model.proofs.Ranges.{written_same, written_below, written_above}
use Rattle.machine_model.proofs.Keeps.{replaced}
use Rattle.helpers.specs.Piece.{Piece}
use Rattle.helpers.specs.declared.spawner.SpawnRecord.{SpawnRecord}
use Rattle.verifier.specs.Checked.{Checked, IsVerified, cost_at}
use Rattle.interpreter.specs.declared.credit.Credit.{Credit}
use Rattle.interpreter.specs.declared.frame.StepOut.TheVariants.{Ended}
use Rattle.interpreter.specs.Telling.{IsRecordOf}
use Rattle.interpreter.specs.Representation.{RepresentsTask, IsCovered, state_of, entry_frame}
use Rattle.job_core.specs.declared.live.Live.{Live}
use Rattle.credit_book.specs.declared.event.TaskEnd.{TaskEnd}
use Rattle.job_core.specs.declared.tasks.Stepped.TheVariants as stepped
use Rattle.job_core.specs.Seats.{live_of}
use Rattle.job_core.specs.Representation.{WorldState, end_of, IsTaskOf, IsLive, IsMemberOf, RepresentsTasks}
use Rattle.interpreter.proofs.Enters.{covered_entry, behind_entry}

-- the same with other tasks
abbrev pub keeping : WorldState → List (Option Live) → List TaskEnd → List ℕ → ℕ → ℕ → WorldState
keeping kept lives ends collected spent returned = record {
  programs = kept.programs;
  entries = kept.entries;
  lives = lives;
  ends = ends;
  parents = kept.parents;
  collected = collected;
  spent = spent;
  returned = returned;
  issued = kept.issued;
}

-- the same with other tasks, none of which ended
abbrev pub going : WorldState → List (Option Live) → List TaskEnd → WorldState
going kept lives ends = keeping kept lives ends kept.collected kept.spent kept.returned

-- the bytes of a range stay where another range is written
pub range-written : (buffer : List ℕ) (base : ℕ) (bytes : List ℕ) (low size : ℕ) → base + length bytes ≤ length buffer →
    ((base + length bytes ≤ low) ⊎ (low + size ≤ base)) →
    take size (drop low (written buffer base bytes)) ≡ take size (drop low buffer)
range-written buffer base bytes low size fits apart = elim apart [
  | inl above ↦ ap (take size) (written_above buffer base bytes low fits above)
  | inr below ↦ written_below buffer base bytes low size fits below
]

-- the one member of a number
one_member : (tasks : List Member) (n : ℕ) (m k : Member) → slice_get tasks n ≡ Some m → slice_get tasks n ≡ Some k →
    m ≡ k
one_member tasks n m k e f = cc (sym e ∙ f)

-- a member stays where its number keeps what it had, and its range the bytes
member_stays : (kept : WorldState) (lives : List (Option Live)) (ends : List TaskEnd) (collected : List ℕ)
    (spent returned : ℕ) (buffer buffer' : List ℕ)
    (n : ℕ) (m : Member) → ((x : Option Live) → slice_get kept.lives n ≡ Some x → slice_get lives n ≡ Some x) →
    take (size_of m) (drop (base_of m) buffer') ≡ take (size_of m) (drop (base_of m) buffer) →
    take (size_of m) (drop (base_of m) collected) ≡ take (size_of m) (drop (base_of m) kept.collected) →
    IsMemberOf kept buffer n m → IsMemberOf (keeping kept lives ends collected spent returned) buffer' n m
member_stays kept lives ends collected spent returned buffer buffer' n (job.Live t) live same whole is = record {
  live = is.live;
  there = live _ is.there;
  checked = is.checked;
  program = is.program;
  is = record {
    program = is.is.program;
    state = ap (λ part. let s : State = record {
      slot = t.slot;
      registers = t.registers;
      stack = t.stack;
      part = part;
      held = t.held;
      used = t.used;
    } in s) same ∙ is.is.state;
    base = is.is.base;
    size = is.is.size;
    behind = is.is.behind;
    covered = is.is.covered;
  };
}
member_stays kept lives ends collected spent returned buffer buffer' n (job.Ended e) live same whole is =
    record { gone = live _ is.gone; bytes = same ∙ is.bytes ∙ sym whole }

-- what the report says of a member stays
end_set : (tasks : List Member) (ends : List TaskEnd) (n : ℕ) (old new : Member) (entry : TaskEnd) →
    slice_get tasks n ≡ Some old →
    length ends ≡ length tasks → entry ≡ end_of n new →
    ((k : ℕ) (m : Member) → slice_get tasks k ≡ Some m → slice_get ends k ≡ Some (end_of k m)) →
    (k : ℕ) (m : Member) → slice_get (set tasks n new) k ≡ Some m → slice_get (set ends n entry) k ≡ Some (end_of k m)
end_set tasks ends n old new entry here long is each k m =
    let lt : n < length tasks = slice_get_within tasks n old here in
    by_number (λ k. slice_get (set tasks n new) k ≡ Some m → slice_get (set ends n entry) k ≡ Some (end_of k m)) n k
    (λ e. let same : new ≡ m = one_member (set tasks n new) n new m (set_same tasks n new lt) e in
    set_same ends n entry (omega (arith, lt, long)) ∙ ap (λ (x : TaskEnd). Some x) (is ∙ ap (end_of n) same))
    (λ ne e. set_other ends n k entry ne ∙ each k m (sym (set_other tasks n k new ne) ∙ e))

end_kept : (tasks : List Member) (ends : List TaskEnd) (n : ℕ) (old new : Member) → slice_get tasks n ≡ Some old →
    end_of n old ≡ end_of n new →
    ((k : ℕ) (m : Member) → slice_get tasks k ≡ Some m → slice_get ends k ≡ Some (end_of k m)) →
    (k : ℕ) (m : Member) → slice_get (set tasks n new) k ≡ Some m → slice_get ends k ≡ Some (end_of k m)
end_kept tasks ends n old new here is each k m =
    let lt : n < length tasks = slice_get_within tasks n old here in
    by_number (λ k. slice_get (set tasks n new) k ≡ Some m → slice_get ends k ≡ Some (end_of k m)) n k
    (λ e. let same : new ≡ m = one_member (set tasks n new) n new m (set_same tasks n new lt) e in
    each n old here ∙ ap (λ (x : TaskEnd). Some x) (is ∙ ap (end_of n) same))
    (λ ne e. each k m (sym (set_other tasks n k new ne) ∙ e))

end_push : (tasks : List Member) (ends : List TaskEnd) (new : Member) (entry : TaskEnd) → length ends ≡ length tasks →
    entry ≡ end_of (length tasks) new →
    ((k : ℕ) (m : Member) → slice_get tasks k ≡ Some m → slice_get ends k ≡ Some (end_of k m)) →
    (k : ℕ) (m : Member) → slice_get (tasks ++ new ∷ []) k ≡ Some m →
    slice_get (ends ++ entry ∷ []) k ≡ Some (end_of k m)
end_push tasks ends new entry long is each k m e =
    elim (pushed tasks k new m e) [
      | inl old ↦ push_old ends k entry (end_of k m) (each k m old)
      | inr last ↦
          let at : slice_get (ends ++ entry ∷ []) k ≡ Some entry =
          ap (λ i. slice_get (ends ++ entry ∷ []) i) (last.0 ∙ sym long) ∙ push_new ends entry in
          at ∙ ap (λ (x : TaskEnd). Some x) (is ∙ ap (λ i. end_of i new) (sym last.0) ∙ ap (end_of k) (sym last.1))
    ]

-- a sum over the members where one of them is replaced
same_sum : (f : Member → ℕ) (tasks : List Member) (n : ℕ) (old new : Member) (a b : ℕ) → slice_get tasks n ≡ Some old →
    a ≡ sum_by f tasks →
    b + f old ≡ a + f new → b ≡ sum_by f (set tasks n new)
same_sum f tasks n old new a b here sum change = omega (arith, replaced f tasks n old new here, sum, change)

-- task n goes on in this state, and is kept so
pub goes_kept : (kept : WorldState) (j : JobState) (n : ℕ) (t : Task) (s : State) (p : Checked) (live : Live) →
    RepresentsTasks kept j → AreTiles j.tasks (length j.buffer) →
    slice_get j.tasks n ≡ Some (job.Live t) → length s.part ≡ t.size → slice_get kept.programs live.program ≡ Some p →
    t.program ≡ live.program → t.base ≡ live.part.base → s ≡ state_of live.frame live.part live.credit s.registers →
    RepresentsTask p live.frame s.registers → IsCovered p live.frame live.part live.credit →
    RepresentsTasks (going kept (set kept.lives n (Some live)) kept.ends) (goes_on j n t s)
goes_kept kept j n t s p live old tiles here size program_is program base is behind covered =
    let inside = tiles.inside n (job.Live t) here in
    let fits : t.base + length s.part ≤ length j.buffer = omega (arith, inside, size) in
    let long : n < length j.tasks = slice_get_within j.tasks n (job.Live t) here in
    let within : n < length kept.lives = omega (arith, long, old.lives) in
    let new : Member = job.Live (with_state t s) in
    let after : WorldState = going kept (set kept.lives n (Some live)) kept.ends in
    let own : IsTaskOf p (written j.buffer t.base s.part) live (with_state t s) = record {
      program = program;
      state = ap (λ part. let u : State = record {
        slot = s.slot;
        registers = s.registers;
        stack = s.stack;
        part = part;
        held = s.held;
        used = s.used;
      } in u)
          (written_same j.buffer t.base s.part fits) ∙ is;
      base = base;
      size = ap (λ (u : State). length u.part) is;
      behind = behind;
      covered = covered;
    } in
    record {
      lives = length-set kept.lives n (Some live) ∙ old.lives ∙ sym (length-set j.tasks n new);
      ends = old.ends ∙ sym (length-set j.tasks n new);
      each = λ k m. by_number (λ k. slice_get (set j.tasks n new) k ≡ Some m →
          IsMemberOf after (written j.buffer t.base s.part) k m) n k
          (λ e. subst (λ (x : Member). IsMemberOf after (written j.buffer t.base s.part) n x)
          (one_member (set j.tasks n new) n new m (set_same j.tasks n new long) e)
          (record {
            live = live;
            there = set_same kept.lives n (Some live) within;
            checked = p;
            program = program_is;
            is = own;
          }))
          (λ ne e.
          let there : slice_get j.tasks k ≡ Some m = sym (set_other j.tasks n k new ne) ∙ e in
          member_stays kept (set kept.lives n (Some live)) kept.ends kept.collected kept.spent kept.returned j.buffer
          (written j.buffer t.base s.part) k m
          (λ x f. set_other kept.lives n k (Some live) ne ∙ f)
          (range-written j.buffer t.base s.part (base_of m) (size_of m) fits
          (let x = tiles.apart n k (job.Live t) m (λ same. ne (sym same)) here there in rw size x)) refl
          (old.each k m there));
      each_end = end_kept j.tasks kept.ends n (job.Live t) new here refl old.each_end;
      spent = same_sum spent_by j.tasks n (job.Live t) new kept.spent kept.spent here old.spent refl;
      returned = same_sum returned_by j.tasks n (job.Live t) new kept.returned kept.returned here old.returned refl;
    }

-- what the report says of a task that ended with this credit
abbrev pub ended_end : ℕ → Task → Credit → ℕ → TaskEnd
ended_end n t credit r0 = record {
  number = n;
  program = t.program;
  arg = t.arg;
  given = t.given;
  spent = credit.used;
  rest = credit.held - credit.used;
  r0 = r0;
  ran = true;
}

-- task n ended, and is kept so
pub ends_kept : (kept : WorldState) (j : JobState) (n : ℕ) (t : Task) (s : State) (r0 : ℕ) (part : Piece)
    (credit : Credit) → RepresentsTasks kept j →
    AreTiles j.tasks (length j.buffer) → length kept.collected ≡ length j.buffer →
    slice_get j.tasks n ≡ Some (job.Live t) →
    t.base ≡ part.base → t.size ≡ length part.bytes → take t.size (drop t.base j.buffer) ≡ part.bytes →
    credit.used ≡ s.used → credit.held ≡ s.held →
    RepresentsTasks (keeping kept (set kept.lives n None) (set kept.ends n (ended_end n t credit r0))
    (written kept.collected part.base part.bytes)
    (kept.spent + credit.used) (kept.returned + (credit.held - credit.used)))
    (record { buffer = j.buffer; tasks = set j.tasks n (job.Ended (job.ending_of t s r0)) })
ends_kept kept j n t s r0 part credit old tiles whole here base size bytes used held =
    let e : job.Ending = job.ending_of t s r0 in
    let new : Member = job.Ended e in
    let inside = tiles.inside n (job.Live t) here in
    let fits : part.base + length part.bytes ≤ length kept.collected = omega (arith, inside, base, size, whole) in
    let long : n < length j.tasks = slice_get_within j.tasks n (job.Live t) here in
    let within : n < length kept.lives = omega (arith, long, old.lives) in
    let collected : List ℕ = written kept.collected part.base part.bytes in
    let entry : TaskEnd = ended_end n t credit r0 in
    let spent : ℕ = kept.spent + credit.used in
    let returned : ℕ = kept.returned + (credit.held - credit.used) in
    let after : WorldState = keeping kept (set kept.lives n None) (set kept.ends n entry) collected spent returned in
    let own : take t.size (drop t.base j.buffer) ≡ take t.size (drop t.base collected) =
    bytes ∙ sym (written_same kept.collected part.base part.bytes fits)
    ∙ ap (λ i. take i (drop part.base collected)) (sym size) ∙ ap (λ i. take t.size (drop i collected)) (sym base) in
    let entry_is : entry ≡ end_of n new =
    ap (λ u. let x : TaskEnd = record {
      number = n;
      program = t.program;
      arg = t.arg;
      given = t.given;
      spent = u;
      rest = credit.held - u;
      r0 = r0;
      ran = true;
    } in x) used
    ∙ ap (λ h. let x : TaskEnd = record {
      number = n;
      program = t.program;
      arg = t.arg;
      given = t.given;
      spent = s.used;
      rest = h - s.used;
      r0 = r0;
      ran = true;
    } in x) held in
    record {
      lives = length-set kept.lives n None ∙ old.lives ∙ sym (length-set j.tasks n new);
      ends = length-set kept.ends n entry ∙ old.ends ∙ sym (length-set j.tasks n new);
      each = λ k m. by_number (λ k. slice_get (set j.tasks n new) k ≡ Some m → IsMemberOf after j.buffer k m) n k
          (λ f. subst (λ (x : Member). IsMemberOf after j.buffer n x)
          (one_member (set j.tasks n new) n new m (set_same j.tasks n new long) f)
          (record { gone = set_same kept.lives n None within; bytes = own }))
          (λ ne f.
          let there : slice_get j.tasks k ≡ Some m = sym (set_other j.tasks n k new ne) ∙ f in
          member_stays kept (set kept.lives n None)
          (set kept.ends n entry) collected spent returned j.buffer j.buffer k m
          (λ x g. set_other kept.lives n k None ne ∙ g) refl
          (range-written kept.collected part.base part.bytes (base_of m) (size_of m) fits
          (let x = tiles.apart n k (job.Live t) m (λ same. ne (sym same)) here there in rw (size, base) at x))
          (old.each k m there));
      each_end = end_set j.tasks kept.ends n (job.Live t) new entry here old.ends entry_is old.each_end;
      spent = same_sum spent_by j.tasks n (job.Live t) new kept.spent spent here old.spent (omega (arith, used));
      returned = same_sum returned_by j.tasks n (job.Live t) new kept.returned returned here old.returned
          (omega (arith, ap (λ u. credit.held - u) used, ap (λ h. h - s.used) held));
    }

pub set_twice : {X : Type 0} (xs : List X) (n : ℕ) (a b : X) → set (set xs n a) n b ≡ set xs n b
set_twice [] n a b = refl
set_twice (x ∷ xs) zero a b = refl
set_twice (x ∷ xs) (suc n) a b = ap (λ ys. x ∷ ys) (set_twice xs n a b)

-- where the bytes of a range are split in two, each part lies where it should
pub first_part : (buffer : List ℕ) (base size : ℕ) (a b : List ℕ) → a ++ b ≡ take size (drop base buffer) →
    length a + length b ≡ size →
    take (length a) (drop base buffer) ≡ a
first_part buffer base size a b e long =
    sym (take-take (length a) size (drop base buffer) (omega (arith, long))) ∙ ap (take (length a)) (sym e)
    ∙ take-append_seam a b

second_part : (buffer : List ℕ) (base size : ℕ) (a b : List ℕ) → a ++ b ≡ take size (drop base buffer) →
    length a + length b ≡ size →
    take (length b) (drop (base + length a) buffer) ≡ b
second_part buffer base size a b e long =
    ap (take (length b)) (sym (drop-drop (length a) base buffer))
    ∙ sym (drop-take (length a) (length b) (drop base buffer))
    ∙ ap (λ n. drop (length a) (take n (drop base buffer))) long
    ∙ ap (drop (length a)) (sym e) ∙ drop-append_seam a b

-- the record that the child was started by represents it
pub child_kept : (kept : WorldState) (j : JobState) (t : Task) (taken : State) (birth : Birth) (child : SpawnRecord)
    (base : ℕ) (p : Checked) →
    IsRecordOf child birth base → base ≡ t.base + length taken.part →
    taken.part ++ birth.bytes ≡ take t.size (drop t.base j.buffer) → length taken.part + length birth.bytes ≡ t.size →
    IsVerified p → p.need ≤ length birth.bytes → length birth.bytes ≤ 65536 → cost_at p 0 ≤ birth.share →
    birth.share ≤ 2147483647 →
    child.arg < 2 ^ 64 → IsTaskOf p j.buffer (live_of child) (child_of t taken birth)
child_kept kept j t taken birth child base p is at splits long v need small cost limit fits =
    let bytes : length child.part.bytes ≡ length birth.bytes = ap length is.bytes in
    let share : child.share ≡ birth.share = is.share in
    record {
      program = sym is.program;
      state =
          ap (λ part. let s : State = record {
            slot = 0;
            registers = entry_registers (length birth.bytes) birth.arg;
            stack = replicate 512 0;
            part = part;
            held = birth.share;
            used = 0;
          } in s)
          (second_part j.buffer t.base t.size taken.part birth.bytes splits long ∙ sym is.bytes)
          ∙ ap (λ held. let s : State = record {
            slot = 0;
            registers = entry_registers (length birth.bytes) birth.arg;
            stack = replicate 512 0;
            part = child.part.bytes;
            held = held;
            used = 0;
          } in s)
          (sym share);
      base = sym (is.starts ∙ at);
      size = sym bytes;
      behind =
          subst (λ (arg : ℕ). RepresentsTask p (entry_frame (length child.part.bytes) child.arg)
          (entry_registers (length birth.bytes) arg)) is.arg
          (subst (λ (size : ℕ). RepresentsTask p (entry_frame (length child.part.bytes) child.arg)
          (entry_registers size child.arg)) bytes
          (behind_entry p (length child.part.bytes) child.arg v (omega (arith, bytes, need))
          (omega (arith, bytes, small)) fits));
      covered = covered_entry p child.part child.share child.arg v (omega (arith, bytes, need))
          (omega (arith, bytes, small))
          (omega (arith, share, cost)) (omega (arith, share, limit)) fits;
    }

-- task n goes on with the first part of its range, and a child has the second
pub spawns_kept : (kept : WorldState) (j : JobState) (n : ℕ) (t parent child : Task) (live small : Live) (p q : Checked)
    (entry : TaskEnd) → RepresentsTasks kept j →
    slice_get j.tasks n ≡ Some (job.Live t) → end_of n (job.Live t) ≡ end_of n (job.Live parent) →
    entry ≡ end_of (length j.tasks) (job.Live child) →
    slice_get kept.programs live.program ≡ Some p → IsTaskOf p j.buffer live parent →
    slice_get kept.programs small.program ≡ Some q → IsTaskOf q j.buffer small child →
    RepresentsTasks (going kept (set kept.lives n (Some live) ++ Some small ∷ []) (kept.ends ++ entry ∷ []))
    (record { buffer = j.buffer; tasks = set j.tasks n (job.Live parent) ++ job.Live child ∷ [] })
spawns_kept kept j n t parent child live small p q entry old here same_end entry_is program is program' is' =
    let long : n < length j.tasks = slice_get_within j.tasks n (job.Live t) here in
    let within : n < length kept.lives = omega (arith, long, old.lives) in
    let tasks : List Member = set j.tasks n (job.Live parent) in
    let lives : List (Option Live) = set kept.lives n (Some live) in
    let ends : List TaskEnd = kept.ends ++ entry ∷ [] in
    let new : WorldState = going kept (lives ++ Some small ∷ []) ends in
    let size : length tasks ≡ length j.tasks = length-set j.tasks n (job.Live parent) in
    let count : length lives ≡ length tasks = length-set kept.lives n (Some live) ∙ old.lives ∙ sym size in
    let count' : length kept.ends ≡ length tasks = old.ends ∙ sym size in
    let parent_is : IsLive new j.buffer n parent =
    record {
      live = live;
      there = push_old lives n (Some small) (Some live) (set_same kept.lives n (Some live) within);
      checked = p;
      program = program;
      is = is;
    } in
    let child_is : IsLive new j.buffer (length tasks) child =
    record {
      live = small;
      there = subst (λ (k : ℕ). slice_get (lives ++ Some small ∷ []) k ≡ Some (Some small)) count
          (push_new lives (Some small));
      checked = q;
      program = program';
      is = is';
    } in
    let sums : (f : Member → ℕ) (a : ℕ) → a ≡ sum_by f j.tasks → f (job.Live t) ≡ f (job.Live parent) →
    f (job.Live child) ≡ 0 →
    a ≡ sum_by f (tasks ++ job.Live child ∷ []) =
    λ f a sum same none. omega (
      arith,
      replaced f j.tasks n (job.Live t) (job.Live parent) here,
      sum,
      same,
      none,
      sum_by-append f tasks (job.Live child ∷ []),
      sum_by-cons f (job.Live child) [],
    ) in
    record {
      lives = length-append lives (Some small ∷ []) ∙ ap (λ k. k + 1) count
          ∙ sym (length-append tasks (job.Live child ∷ []));
      ends = length-append kept.ends (entry ∷ []) ∙ ap (λ k. k + 1) count'
          ∙ sym (length-append tasks (job.Live child ∷ []));
      each = λ k m e. elim (pushed tasks k (job.Live child) m e) [
        | inr last ↦ subst (λ (i : ℕ). IsMemberOf new j.buffer i m) (sym last.0)
            (subst (λ (x : Member). IsMemberOf new j.buffer (length tasks) x) (sym last.1) child_is)
        | inl f ↦ by_number (λ k. slice_get tasks k ≡ Some m → IsMemberOf new j.buffer k m) n k
            (λ g. subst (λ (x : Member). IsMemberOf new j.buffer n x)
            (one_member tasks n (job.Live parent) m (set_same j.tasks n (job.Live parent) long) g) parent_is)
            (λ ne g.
            let there : slice_get j.tasks k ≡ Some m = sym (set_other j.tasks n k (job.Live parent) ne) ∙ g in
            member_stays kept
            (lives ++ Some small ∷ []) ends kept.collected kept.spent kept.returned j.buffer j.buffer k m
            (λ x h. push_old lives k (Some small) x (set_other kept.lives n k (Some live) ne ∙ h)) refl refl
            (old.each k m there)) f
      ];
      each_end = end_push tasks kept.ends (job.Live child) entry count'
          (entry_is ∙ ap (λ i. end_of i (job.Live child)) (sym size))
          (end_kept j.tasks kept.ends n (job.Live t) (job.Live parent) here same_end old.each_end);
      spent = sums spent_by kept.spent old.spent refl refl;
      returned = sums returned_by kept.returned old.returned refl refl;
    }
