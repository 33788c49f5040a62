-- The moments of a journal's file and of the new one beside it.
use Rattle.std.specs.Prelude.{ℕ, zero, suc, false, List, [], ◌∷◌, get_or}
use Rattle.compaction.specs.Files.{Moments, newly_opened, file_wrote, file_synced, file_renamed, folder_synced}
use Rattle.journal_file.specs.declared.file_pair.FilePair.{FilePair}

-- from here on the journal has these bytes: nothing is said of it at the moments before
abbrev pub stood_beside : List ℕ → Moments → Moments
stood_beside bytes moments = record {
  now = record {
    journal = bytes;
    beside = moments.now.beside;
    is_synced = false;
    named = moments.now.named;
  };
  earlier = [];
}

-- the moments after a step with this mark
abbrev pub after_mark : ℕ → List ℕ → Moments → Moments
after_mark zero bytes moments = moments
after_mark (suc zero) bytes moments = file_wrote bytes moments
after_mark (suc (suc zero)) bytes moments = file_synced moments
after_mark (suc (suc (suc zero))) bytes moments = file_renamed moments
after_mark (suc (suc (suc (suc zero)))) bytes moments = folder_synced moments
after_mark (suc (suc (suc (suc (suc mark))))) bytes moments = stood_beside bytes moments

-- each step is a mark and bytes, the latest first; the journal's bytes are ahead of all
abbrev pub moments_of : List (List ℕ) → Moments
moments_of [] = newly_opened []
moments_of (bytes ∷ []) = newly_opened bytes
moments_of (bytes ∷ mark ∷ earlier) = after_mark (get_or mark 0 0) bytes (moments_of earlier)

abbrev pub pair_moments : {R : Type 0} → FilePair R → Moments
pair_moments pair = moments_of pair.steps.steps
