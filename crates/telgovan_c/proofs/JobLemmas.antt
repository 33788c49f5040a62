-- The programs of a job's pieces, its tasks as they are written, and the length of its buffer.
use Rattle.std.proofs.Common.{◌≡◌, ◌≢◌, ◌⊎◌, ℕ, ◌<◌, ◌≤◌, ◌+◌, inl, inr, List, [], ◌∷◌, ◌++◌, length, map, set, slice_get, refl, sym, ◌∙◌, arith, ap, subst, Some}
use Rattle.std.proofs.lemmas.List.{length-append}
use Rattle.std.proofs.lemmas.Option.{slice_get_within}
use Rattle.machine_model.specs.Machine.{Program}
use Rattle.machine_model.specs.JobState.{JobState, Live, AreTiles, start}
use Rattle.machine_model.proofs.Places.{pushed, set_other}
use Rattle.machine_model.proofs.Tiles.{Tiled, tiles_step}
use Rattle.task_trees.specs.Eval.{root}
use Rattle.task_trees.proofs.TreeAnswers.{start_tiles}
use Rattle.verifier.specs.Checked.{program_of}
use Rattle.credit_book.specs.declared.book.Report.{Report}
use Rattle.credit_book.specs.declared.event.TaskEnd.{TaskEnd}
use Rattle.job_core.specs.declared.admission.ProgramBytes.{ProgramBytes}
use Rattle.job_core.specs.Admitted.{AdmittedJob}
use Rattle.job_core.specs.PlaysLowest.{GoesLowest, none_yet, one_more, IsPlayed}
use Rattle.job_core.proofs.Simulates.{some_within}
use Rattle.telgovan_c.specs.declared.jobs.CodePiece.{CodePiece}
use Rattle.telgovan_c.specs.declared.jobs.ReportedTask.{ReportedTask}
use Rattle.telgovan_c.specs.Jobs.{AreCut, AreCutTo, IsCut, reported_task}

-- ---- the programs of the pieces

-- so many of the first pieces are cut out
pub record AreCutSoFar (code : List ℕ) (pieces : List CodePiece) (count : ℕ) (programs : List ProgramBytes) : Type 0 where
  pub many : length programs ≡ count
  pub each : AreCut code pieces programs

pub cut_none : (code : List ℕ) (pieces : List CodePiece) → AreCutSoFar code pieces 0 []
cut_none code pieces = record { many = refl; each = λ n piece program e f. absurd (omega (arith, slice_get_within [] n program f)) }

pub cut_more : (code : List ℕ) (pieces : List CodePiece) (count : ℕ) (programs : List ProgramBytes) (piece : CodePiece) (program : ProgramBytes) →
    AreCutSoFar code pieces count programs → slice_get pieces count ≡ Some piece → IsCut code piece program →
    AreCutSoFar code pieces (count + 1) (programs ++ program ∷ [])
cut_more code pieces count programs piece program so_far is cut = record {
  many = length-append programs (program ∷ []) ∙ ap (λ k. k + 1) so_far.many;
  each = λ n other q e f. by_place n other q e (pushed programs n program q f);
} where
  by_place : (n : ℕ) (other : CodePiece) (q : ProgramBytes) → slice_get pieces n ≡ Some other →
      (slice_get programs n ≡ Some q) ⊎ ((n ≡ length programs) × (q ≡ program)) → IsCut code other q
  by_place n other q e (inl before) = so_far.each n other q e before
  by_place n other q e (inr (last, same)) =
      let at : slice_get pieces n ≡ Some piece = rw (last ∙ so_far.many) is in
      let same_piece : piece ≡ other = cc in
      subst (λ (x : CodePiece). IsCut code x q) same_piece (subst (λ (x : ProgramBytes). IsCut code piece x) (sym same) cut)

pub cut_stops : (code : List ℕ) (pieces : List CodePiece) (count : ℕ) (programs : List ProgramBytes) (piece : CodePiece) →
    AreCutSoFar code pieces count programs → slice_get pieces count ≡ Some piece → length code < piece.start + piece.length →
    AreCutTo code pieces programs
cut_stops code pieces count programs piece so_far is outside =
    let within = slice_get_within pieces count piece is in
    record {
      each = so_far.each;
      most = omega (arith, so_far.many, within);
      stops = λ less. record {
        piece = piece;
        there = ap (slice_get pieces) so_far.many ∙ is;
        outside = outside;
        earlier = λ n before lt e.
            let program = some_within programs n lt in (so_far.each n before program.0 e program.1).inside;
      };
    }

-- ---- the tasks as they are written

-- the first so many are written, and the others are as they were
pub record AreWrittenTo (ends : List TaskEnd) (old : List ReportedTask) (done : ℕ) (new : List ReportedTask) : Type 0 where
  pub most : done ≤ length ends
  pub count : length new ≡ length old
  pub written : (n : ℕ) (ended : TaskEnd) → n < done → slice_get ends n ≡ Some ended → slice_get new n ≡ Some (reported_task ended)
  pub kept : (n : ℕ) → done ≤ n → slice_get new n ≡ slice_get old n

-- ---- the length of the buffer

tiled_lowest : (programs : List Program) (first last : JobState) → AreTiles first.tasks (length first.buffer) → GoesLowest programs first last →
    Tiled first last
tiled_lowest programs first last tiles none_yet = (tiles, refl)
tiled_lowest programs first last tiles (one_more j k n refuses before lowest is) =
    let so_far = tiled_lowest programs first j tiles before in
    let next = tiles_step programs j k n refuses is (subst (λ (i : ℕ). AreTiles j.tasks i) (sym so_far.1) so_far.0) in
    (subst (λ (i : ℕ). AreTiles k.tasks i) so_far.1 next.0, next.1 ∙ so_far.1)

-- a job that is played leaves as many bytes as its buffer had
pub buffer_stays : (order : AdmittedJob) (report : Report) → IsPlayed order report → length report.buffer.items ≡ length order.buffer
buffer_stays order report played =
    let begin : AreTiles (start order.credit order.buffer).tasks (length order.buffer) = start_tiles (Live (root order.credit order.buffer)) (length order.buffer) refl refl in
    let tiled = tiled_lowest (map program_of order.programs) (start order.credit order.buffer) played.last begin played.steps in
    ap length played.reported.buffer ∙ tiled.1
