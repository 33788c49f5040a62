-- What is kept of a job at its start represents it.
use Rattle.std.proofs.Common.{◌≡◌, ℕ, zero, suc, ◌<◌, ◌≤◌, ◌+◌, inl, inr, List, [], ◌∷◌, ◌++◌, map, get_or, length, take, replicate, slice_get, refl, sym, ◌∙◌, arith, ap, subst, Option, Some, None, false}
use Rattle.std.proofs.lemmas.List.{take_more, length-map, length-replicate}
use Rattle.std.proofs.Math.Seq.{take-length}
use Rattle.machine_model.specs.declared.program.Entry.{Entry}
use Rattle.machine_model.specs.Machine.{State}
use Rattle.interpreter.specs.declared.frame.Frame.{Frame}
use Rattle.credit_book.specs.declared.event.TaskEnd.{TaskEnd}
use Rattle.machine_model.specs.JobState as job
use Rattle.machine_model.specs.JobState.{Task, Member, start, AreTiles, base_of, size_of, entry_registers, entry_of}
use Rattle.machine_model.proofs.Places.{pushed}
use Rattle.helpers.specs.Piece.{Piece}
use Rattle.verifier.specs.Checked.{Checked, program_of, IsVerified}
use Rattle.interpreter.specs.Representation.{entry_frame, RepresentsTask}
use Rattle.job_core.specs.declared.live.Live.{Live}
use Rattle.job_core.specs.Living.{Living}
use Rattle.interpreter.specs.declared.credit.Credit.{Credit}
use Rattle.credit_book.specs.declared.event.Event.TheVariants.{Open}
use Rattle.credit_book.specs.declared.task.Ticket.{Ticket}
use Rattle.credit_book.specs.Books.{BookState, root_ticket}
use Rattle.credit_book.specs.Buffers.{buffer_of}
use Rattle.credit_book.specs.History.{table_of, spent_in, returned_in}
use Rattle.job_core.specs.Keeping.{AreStandings}
use Rattle.job_core.specs.Representation.{WorldState, end_of, IsTaskOf, IsLive, IsMemberOf, AreEntries, RepresentsJob}
use Rattle.helpers.specs.Table.{job_table}
use Rattle.task_trees.proofs.FamilyLemmas.{starts}
use Rattle.job_core.specs.Admitted.{AdmittedJob, IsAdmitted}
use Rattle.interpreter.proofs.Enters.{behind_entry, covered_entry}

abbrev root_live : ℕ → Piece → Live
root_live credit part = record { program = 0; frame = entry_frame (length part.bytes) 0; part = part; credit = record { held = credit; used = 0 } }

abbrev root_task : ℕ → List ℕ → Task
root_task credit buffer = record {
  program = 0;
  arg = 0;
  given = credit;
  place = [];
  children = 0;
  slot = 0;
  registers = entry_registers (length buffer) 0;
  stack = replicate 512 0;
  base = 0;
  size = length buffer;
  held = credit;
  used = 0;
}

-- what the report says of the root as long as it is alive
abbrev root_end : ℕ → TaskEnd
root_end credit = record { number = 0; program = 0; arg = 0; given = credit; spent = 0; rest = 0; r0 = 0; ran = false }

abbrev start_kept : AdmittedJob → List Entry → Piece → List ℕ → WorldState
start_kept order entries part zeros = record {
  programs = order.programs;
  entries = entries;
  lives = Some (root_live order.credit part) ∷ [];
  ends = root_end order.credit ∷ [];
  parents = [];
  collected = zeros;
  spent = 0;
  returned = 0;
  issued = order.credit;
}

-- a list of one element has it alone
alone : {X : Type 0} (x y : X) (n : ℕ) → slice_get (x ∷ []) n ≡ Some y → (n ≡ 0) × (x ≡ y)
alone x y zero e = (refl, cc)
alone {X = X} x y (suc n) e = let none : Option X = None in let clash : none ≡ Some y = e in absurd (cc)

start_tiles : (m : Member) (count : ℕ) → base_of m ≡ 0 → size_of m ≡ count → AreTiles (m ∷ []) count
start_tiles m count base size = record {
  apart = λ n k a b ne e f. absurd (ne ((alone m a n e).0 ∙ sym (alone m b k f).0));
  inside = λ n a e. subst (λ (x : Member). base_of x + size_of x ≤ count) (alone m a n e).1 (omega (arith, base, size));
  owned = λ at lt. record { number = 0; member = m; there = refl; low = omega (arith, base); high = omega (arith, base, size, lt) };
}

module _ (order : AdmittedJob) (entries : List Entry) (part : Piece) (is : IsAdmitted order) (are : AreEntries order.programs entries)
    (bytes : part.bytes ≡ order.buffer) (base : part.base ≡ 0) (zeros : List ℕ) (long : length zeros ≡ length order.buffer) where
  root_is : IsTaskOf is.root order.buffer (root_live order.credit part) (root_task order.credit order.buffer)
  root_is =
      let v = are.verified 0 is.root is.is_root in
      let size : length part.bytes ≡ length order.buffer = ap length bytes in
      record {
        program = refl;
        state =
            ap (λ piece. let s : State = record { slot = 0; registers = entry_registers (length order.buffer) 0; stack = replicate 512 0; part = piece; held = order.credit; used = 0 } in s)
            (take-length order.buffer ∙ sym bytes);
        base = sym base;
        size = sym size;
        behind = subst (λ (bs : List ℕ). RepresentsTask is.root (entry_frame (length part.bytes) 0) (entry_registers (length bs) 0)) bytes
            (behind_entry is.root (length part.bytes) 0 v (omega (arith, is.need, size)) (omega (arith, is.small, size)) (omega arith));
        covered = covered_entry is.root part order.credit 0 v (omega (arith, is.need, size)) (omega (arith, is.small, size)) is.cost is.limit (omega arith);
      }

  start_each : (n : ℕ) (m : Member) → slice_get (start order.credit order.buffer).tasks n ≡ Some m → IsMemberOf (start_kept order entries part zeros) order.buffer n m
  start_each n m e =
      let at = alone (job.Live (root_task order.credit order.buffer)) m n e in
      let here : IsLive (start_kept order entries part zeros) order.buffer 0 (root_task order.credit order.buffer) =
      record { live = root_live order.credit part; there = refl; checked = is.root; program = is.is_root; is = root_is } in
      subst (λ (k : ℕ). IsMemberOf (start_kept order entries part zeros) order.buffer k m) (sym at.0)
      (subst (λ (x : Member). IsMemberOf (start_kept order entries part zeros) order.buffer 0 x) at.1 here)

  start_end : (n : ℕ) (m : Member) → slice_get (start order.credit order.buffer).tasks n ≡ Some m →
      slice_get (root_end order.credit ∷ []) n ≡ Some (end_of n m)
  start_end n m e =
      let at = alone (job.Live (root_task order.credit order.buffer)) m n e in
      subst (λ (k : ℕ). slice_get (root_end order.credit ∷ []) k ≡ Some (end_of k m)) (sym at.0)
      (subst (λ (x : Member). Some (root_end order.credit) ≡ Some (end_of 0 x)) at.1 refl)

  pub start_behind : RepresentsJob (start_kept order entries part zeros) (start order.credit order.buffer)
  start_behind = record {
    entries = are;
    kept_are = record { lives = refl; ends = refl; each = start_each; each_end = start_end; spent = refl; returned = refl };
    tiles = start_tiles (job.Live (root_task order.credit order.buffer)) (length order.buffer) refl refl;
    parents = starts order.credit order.buffer;
    size = long;
    credit = omega arith;
    limit = is.limit;
  }

map-push : {X Y : Type 0} (f : X → Y) (xs : List X) (x : X) → map f (xs ++ x ∷ []) ≡ map f xs ++ f x ∷ []
map-push f [] x = refl
map-push f (y ∷ ys) x = ap (λ zs. f y ∷ zs) (map-push f ys x)

no_element : (n : ℕ) (p : Checked) → let xs : List Checked = [] in slice_get xs n ≡ Some p → IsVerified p
no_element n p e = cc

no_program : (n : ℕ) (p : Checked) → let xs : List Checked = [] in slice_get xs n ≡ Some p → p.helpers ≡ job_table
no_program n p e = cc

pub entries_none : AreEntries [] []
entries_none = record { are = refl; verified = no_element; own = no_program }

pub entries_more : (programs : List Checked) (i : ℕ) (entries : List Entry) (p : Checked) (entry : Entry) → i < length programs →
    p ≡ get_or programs i p → IsVerified p → p.helpers ≡ job_table → entry ≡ entry_of (program_of p) → AreEntries (take i programs) entries →
    AreEntries (take (i + 1) programs) (entries ++ entry ∷ [])
entries_more programs i entries p entry lt at verified own is old =
    let more : take (i + 1) programs ≡ take i programs ++ p ∷ [] =
    take_more programs i p lt ∙ ap (λ (q : Checked). take i programs ++ q ∷ []) (sym at) in
    subst (λ ps. AreEntries ps (entries ++ entry ∷ [])) (sym more) (record {
      are = ap (λ es. es ++ entry ∷ []) old.are ∙ ap (λ (x : Entry). map (λ (q : Checked). entry_of (program_of q)) (take i programs) ++ x ∷ []) is
          ∙ sym (map-push (λ (q : Checked). entry_of (program_of q)) (take i programs) p);
      verified = λ n q e. elim (pushed (take i programs) n p q e) [
        | inl before ↦ old.verified n q before
        | inr last ↦ subst (λ (x : Checked). IsVerified x) (sym last.1) verified
      ];
      own = λ n q e. elim (pushed (take i programs) n p q e) [
        | inl before ↦ old.own n q before
        | inr last ↦ ap (λ (x : Checked). x.helpers) last.1 ∙ own
      ];
    })

take_past : {X : Type 0} (xs : List X) (i : ℕ) → length xs ≤ i → take i xs ≡ xs
take_past [] zero le = refl
take_past [] (suc i) le = refl
take_past (x ∷ xs) zero le = absurd (omega arith)
take_past (x ∷ xs) (suc i) le = ap (λ ys. x ∷ ys) (take_past xs i (omega arith))

pub entries_past : (items programs : List Checked) (i : ℕ) (entries : List Entry) → items ≡ programs → length items ≤ i →
    AreEntries (take i items) entries → AreEntries programs entries
entries_past items programs i entries e le are =
    subst (λ ps. AreEntries ps entries) (take_past items i le ∙ e) are

pub entries_long : (programs : List Checked) (entries : List Entry) → AreEntries programs entries → length entries ≡ length programs
entries_long programs entries are = ap length are.are ∙ length-map programs (λ (p : Checked). entry_of (program_of p))

-- a live task, by its parts
pub living_is : (l : Living) (program : ℕ) (frame : Frame) (part : Piece) (credit : Credit) → l.program ≡ program → l.frame ≡ frame →
    l.part ≡ part → l.credit ≡ credit → let m : Living = record { program = program; frame = frame; part = part; credit = credit } in l ≡ m
living_is l program frame part credit e1 e2 e3 e4 = rw (← e1, ← e2, ← e3, ← e4) refl

-- the root's task starts with its ticket
root_entered : (l : Living) (ticket : Ticket) (job issued : ℕ) (part : Piece) → ticket ≡ root_ticket job issued part → l.program ≡ ticket.program →
    l.frame ≡ entry_frame (length ticket.part.bytes) ticket.arg → l.part ≡ ticket.part → l.credit ≡ record { held = ticket.held; used = 0 } →
    l ≡ root_live issued part
root_entered l ticket job issued part is e1 e2 e3 e4 =
    living_is l 0 (entry_frame (length part.bytes) 0) part (record { held = issued; used = 0 })
    (e1 ∙ ap (λ (t : Ticket). t.program) is) (e2 ∙ ap (λ (t : Ticket). entry_frame (length t.part.bytes) t.arg) is)
    (e3 ∙ ap (λ (t : Ticket). t.part) is) (e4 ∙ ap (λ (t : Ticket). let c : Credit = record { held = t.held; used = 0 } in c) is)

-- what a world keeps once it is opened, and what its book has of the root
pub opened : (order : AdmittedJob) (programs : List Checked) (entries : List Entry) (lives : List (Option Live)) (book : BookState) (part : Piece) (ticket : Ticket) (root : Living) (none : List (Option Live)) (parents : List ℕ) (number job issued : ℕ) →
    IsAdmitted order → AreEntries order.programs entries → programs ≡ order.programs →
    part.bytes ≡ order.buffer → part.base ≡ 0 → issued ≡ order.credit → book.board.issued ≡ order.credit →
    book.history ≡ Open number order.credit ∷ [] → book.size ≡ length part.bytes →
    ticket ≡ root_ticket job issued part → root.program ≡ ticket.program → root.frame ≡ entry_frame (length ticket.part.bytes) ticket.arg →
    root.part ≡ ticket.part → root.credit ≡ record { held = ticket.held; used = 0 } →
    none ≡ [] → lives ≡ none ++ Some root ∷ [] → parents ≡ [] →
    RepresentsJob (record {
      programs = programs;
      entries = entries;
      lives = lives;
      ends = (table_of book.history).tasks;
      parents = parents;
      collected = buffer_of book.size book.history;
      spent = spent_in (table_of book.history);
      returned = returned_in (table_of book.history);
      issued = book.board.issued;
    }) (start order.credit order.buffer)
    × AreStandings lives book.history
opened order programs entries lives book part ticket root none parents number job issued is are same bytes base credit board history size is_ticket e1 e2 e3 e4 e f no_parents =
    let zeros : List ℕ = replicate (length part.bytes) 0 in
    let long : length zeros ≡ length order.buffer = length-replicate (length part.bytes) 0 ∙ ap length bytes in
    let root_is : root ≡ root_live order.credit part =
    root_entered root ticket job issued part is_ticket e1 e2 e3 e4 ∙ ap (λ n. root_live n part) credit in
    let lives_are : lives ≡ Some (root_live order.credit part) ∷ [] =
    f ∙ ap (λ ls. ls ++ Some root ∷ []) e ∙ ap (λ (l : Living). Some l ∷ []) root_is in
    rw (same, lives_are, history, size, board, no_parents) (start_behind order entries part is are bytes base zeros long, refl)
