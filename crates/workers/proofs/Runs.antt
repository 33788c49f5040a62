-- A task that runs on a frame of its own is the ticket's task by itself.
use Rattle.std.proofs.Common.{◌≡◌, ℕ, ◌<◌, ◌≤◌, ◌^◌, List, [], ◌∷◌, zero, suc, Bool, false, length, get_or, map, Some, sym, subst, ap, arith}
use Rattle.std.specs.Prelude.{slice_get}
use Rattle.machine_model.specs.Machine.{Entries}
use Rattle.machine_model.specs.Value.{Registers}
use Rattle.machine_model.specs.JobState.{entries_of, entry_registers}
use Rattle.helpers.specs.Piece.{Piece}
use Rattle.verifier.specs.Checked.{Checked, IsVerified, program_of}
use Rattle.interpreter.specs.declared.frame.Frame.{Frame}
use Rattle.interpreter.specs.declared.credit.Credit.{Credit}
use Rattle.interpreter.specs.Representation.{RepresentsTask, IsCovered, at_slot, state_of, entry_frame}
use Rattle.interpreter.proofs.Enters.{behind_entry, covered_entry}
use Rattle.credit_book.specs.declared.task.Outcome.{Outcome}
use Rattle.credit_book.specs.declared.task.Ticket.{Ticket}
use Rattle.task_trees.specs.Solo.{SpawnRequest, entering}
use Rattle.virtual_machine.specs.Through.{RunsAlone}
use Rattle.workers.specs.Outcomes.{IsOutcome, IsRunBy, IsRunOf, IsUnrun, Suffices, by_ran}

module _ (c : Checked) (ticket : Ticket) (verified : IsVerified c) (suffices : Suffices c ticket) (small : length ticket.part.bytes ≤ 65536)
    (fits : ticket.arg < 2 ^ 64) (frame : Frame) (part : Piece) (credit : Credit) (entered : frame ≡ entry_frame (length ticket.part.bytes) ticket.arg)
    (whole : part ≡ ticket.part) (paid : credit ≡ record { held = ticket.held; used = 0 }) where
  pub covered_of : IsCovered c (at_slot frame 0) part credit
  covered_of =
      subst (λ (k : Credit). IsCovered c (at_slot frame 0) part k) (sym paid)
      (subst (λ (q : Piece). IsCovered c (at_slot frame 0) q (record { held = ticket.held; used = 0 })) (sym whole)
      (subst (λ (f : Frame). IsCovered c (at_slot f 0) ticket.part (record { held = ticket.held; used = 0 })) (sym entered)
      (covered_entry c ticket.part ticket.held ticket.arg verified suffices.fits small suffices.affords suffices.limit fits)))

  pub alone_of : (entries : Entries) (through : ℕ → List SpawnRequest → Type 0) (r0 used : ℕ) (bytes : List ℕ) (told : Bool) →
      ((registers : Registers) → RepresentsTask c (at_slot frame 0) registers →
      RunsAlone (program_of c) entries (state_of (at_slot frame 0) part credit registers) (through part.base) r0 used bytes told) →
      RunsAlone (program_of c) entries (entering ticket.arg ticket.held ticket.part.bytes) (through ticket.part.base) r0 used bytes told
  alone_of entries through r0 used bytes told alone =
      let registers = entry_registers (length ticket.part.bytes) ticket.arg in
      let behind : RepresentsTask c (at_slot frame 0) registers =
      subst (λ (f : Frame). RepresentsTask c (at_slot f 0) registers) (sym entered)
      (behind_entry c (length ticket.part.bytes) ticket.arg verified suffices.fits small fits) in
      subst (λ (k : Credit). RunsAlone (program_of c) entries
      (state_of (at_slot (entry_frame (length ticket.part.bytes) ticket.arg) 0) ticket.part k registers) (through ticket.part.base) r0 used bytes told) paid
      (subst (λ (q : Piece). RunsAlone (program_of c) entries
      (state_of (at_slot (entry_frame (length ticket.part.bytes) ticket.arg) 0) q credit registers) (through q.base) r0 used bytes told) whole
      (subst (λ (f : Frame). RunsAlone (program_of c) entries (state_of (at_slot f 0) part credit registers) (through part.base) r0 used bytes told) entered
      (alone registers behind)))

-- the outcome of a task that ran, whose spawner came back as it was left
pub outcome_of : {S : Type 0} (programs : List Checked) (c : Checked) (entries : Entries) (ticket : Ticket) (through : S → List SpawnRequest → Type 0)
    (silent : Type 0) (left back : S) (outcome : Outcome) (whole : Bool) → left ≡ back → entries ≡ entries_of (map program_of programs) →
    slice_get programs ticket.program ≡ Some c → Suffices c ticket → IsRunBy c entries ticket (through back) outcome whole →
    IsOutcome programs ticket (through left) silent outcome whole
outcome_of programs c entries ticket through silent left back outcome whole same knows named suffices run =
    rw same (subst (λ (b : Bool). by_ran b (IsRunOf programs ticket (through back) outcome whole) (IsUnrun ticket outcome × (whole ≡ false) × silent)) (sym run.ran) (record {
      program = c;
      named = named;
      suffices = suffices;
      run = subst (λ (e : Entries). IsRunBy c e ticket (through back) outcome whole) knows run;
    }))

-- what stands at a place of a list
pub read_at : {A : Type 0} (xs : List A) (i j : ℕ) (x : A) → i ≡ j → i < length xs → x ≡ get_or xs i x → slice_get xs j ≡ Some x
read_at {A} xs i j x same lt is = subst (λ (k : ℕ). slice_get xs k ≡ Some x) same (read xs i x lt is)
  where
    read : (xs : List A) (i : ℕ) (x : A) → i < length xs → x ≡ get_or xs i x → slice_get xs i ≡ Some x
    read [] i x lt is = absurd (omega arith)
    read (y ∷ ys) zero x lt is = ap Some (sym is)
    read (y ∷ ys) (suc i) x lt is = read ys i x (omega arith) is
