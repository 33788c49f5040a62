-- A journal and the new file beside it, as a crash at some moment leaves them.
use Rattle.std.specs.Prelude.{◌≡◌, Bool, true, false, ℕ, List, [], ◌∷◌, ◌++◌, ◌⊎◌}

-- Which file a crash leaves under the journal's name: either, from the rename to the folder's sync.
pub data NamedFile : Type 0 where
  Old : NamedFile
  Either : NamedFile
  New : NamedFile

-- The two files at a moment.
pub record FilesState : Type 0 where
  -- the old journal, all of it durable
  pub journal : List ℕ
  -- what was written to the new file
  pub beside : List ℕ
  -- all of that is durable
  pub is_synced : Bool
  pub named : NamedFile

-- The new file may be left with these bytes: those that were written, if it was synced since.
abbrev pub LeavesNew : FilesState → List ℕ → Type 0
LeavesNew files bytes = files.is_synced ≡ true → bytes ≡ files.beside

-- A crash at this moment may leave these bytes under the journal's name. Within a call it leaves no
-- more than ahead of it or behind it: a new file that is being written may be left as any bytes.
abbrev pub LeavesNamed : NamedFile → FilesState → List ℕ → Type 0
LeavesNamed Old files bytes = bytes ≡ files.journal
LeavesNamed Either files bytes = (bytes ≡ files.journal) ⊎ LeavesNew files bytes
LeavesNamed New files bytes = LeavesNew files bytes

abbrev pub LeavesJournal : FilesState → List ℕ → Type 0
LeavesJournal files bytes = LeavesNamed files.named files bytes

-- The states of the files at each moment up to now, the latest first.
pub record Moments : Type 0 where
  pub now : FilesState
  pub earlier : List FilesState

abbrev pub next : FilesState → Moments → Moments
next files moments = record { now = files; earlier = moments.now ∷ moments.earlier }

-- a crash at one of these moments may leave these bytes
abbrev pub SomeLeaves : List FilesState → List ℕ → Type 0
SomeLeaves [] bytes = ⊥
SomeLeaves (files ∷ earlier) bytes = LeavesJournal files bytes ⊎ SomeLeaves earlier bytes

-- a crash at any moment so far may leave these bytes under the journal's name
abbrev pub MayLeave : Moments → List ℕ → Type 0
MayLeave moments bytes = LeavesJournal moments.now bytes ⊎ SomeLeaves moments.earlier bytes

-- bytes more stand in the new file
abbrev pub file_wrote : List ℕ → Moments → Moments
file_wrote bytes moments = next (record {
  journal = moments.now.journal;
  beside = moments.now.beside ++ bytes;
  is_synced = false;
  named = moments.now.named;
}) moments

-- its bytes are durable
abbrev pub file_synced : Moments → Moments
file_synced moments = next (record {
  journal = moments.now.journal;
  beside = moments.now.beside;
  is_synced = true;
  named = moments.now.named;
}) moments

-- the name after a rename: that of the old file as long as the folder isn't synced
abbrev pub name_renamed : NamedFile → NamedFile
name_renamed Old = Either
name_renamed Either = Either
name_renamed New = New

-- the new file is renamed over the journal
abbrev pub file_renamed : Moments → Moments
file_renamed moments = next (record {
  journal = moments.now.journal;
  beside = moments.now.beside;
  is_synced = moments.now.is_synced;
  named = name_renamed moments.now.named;
}) moments

abbrev pub name_durable : NamedFile → NamedFile
name_durable Old = Old
name_durable Either = New
name_durable New = New

-- the folder is synced
abbrev pub folder_synced : Moments → Moments
folder_synced moments = next (record {
  journal = moments.now.journal;
  beside = moments.now.beside;
  is_synced = moments.now.is_synced;
  named = name_durable moments.now.named;
}) moments

-- nothing is done yet to the files of this journal
abbrev pub newly_opened : List ℕ → Moments
newly_opened journal = record {
  now = record { journal = journal; beside = []; is_synced = false; named = Old };
  earlier = [];
}

-- The journal is the old one, with these bytes.
pub record KeepsOldJournal (bytes : List ℕ) (moments : Moments) : Type 0 where
  pub named : moments.now.named ≡ Old
  pub journal : moments.now.journal ≡ bytes

-- The journal is the new one, with these bytes, and durable.
pub record HasNewJournal (bytes : List ℕ) (moments : Moments) : Type 0 where
  pub named : moments.now.named ≡ New
  pub is_synced : moments.now.is_synced ≡ true
  pub beside : moments.now.beside ≡ bytes
