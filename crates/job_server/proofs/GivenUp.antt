-- A connection that is given up before anything is read.
use Rattle.std.proofs.Common.{◌≡◌, List, ℕ, [], refl, sym, subst, arith}
use Rattle.shared_desk.specs.declared.passage.Passage.{Passage}
use Rattle.shared_desk.specs.Histories.{HistoryEntry, queries_of}
use Rattle.shared_desk.specs.Parts.{Asks, IsWrittenButOne}

pub nothing_written : (passage : Passage) (part : List HistoryEntry) (bytes after : List ℕ) → part ≡ [] → after ≡ [] → IsWrittenButOne passage part bytes [] after
nothing_written passage part bytes after fresh none = record {
  first = [];
  unwritten = [];
  both = fresh;
  one_at_most = omega arith;
  left = bytes;
  asked = subst (λ (es : List HistoryEntry). Asks passage bytes (queries_of es) bytes) (sym fresh) refl;
  written = none;
}
