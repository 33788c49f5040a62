use Rattle.std.proofs.Common.{◌≡◌, ◌*◌, ◌%◌, ◌+◌, ◌≤◌, ◌++◌, length, map, vec_len, vec_capacity}
use Rattle.insn_codec.specs.Spelling.{spellings, placed_from, IsInsn}
use Rattle.std.specs.List.{AllByRecursion}
use Rattle.insn_codec.proofs.decoder.decode.Given as goal

abbrev pub invariant-loop-rest : goal.invariant-loop-rest
invariant-loop-rest l = record {
  parts : l.bytes ≡ spellings (map (λ p. p.insn) l.placed.items) ++ l.rest;
  fit : AllByRecursion IsInsn (map (λ p. p.insn) l.placed.items);
  place : 8 * l.slot ≡ length (spellings (map (λ p. p.insn) l.placed.items));
  slots : l.placed.items ≡ placed_from 0 (map (λ p. p.insn) l.placed.items);
  even : length l.rest % 8 ≡ 0;
  room : 8 * vec_len l.placed + length l.rest ≤ 8 * vec_capacity l.placed;
}

abbrev pub decreases-loop-rest : goal.decreases-loop-rest
decreases-loop-rest l = length l.rest
