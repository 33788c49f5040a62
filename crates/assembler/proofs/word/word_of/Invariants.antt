use Rattle.std.proofs.Common.{◌≡◌, drop, map}
use Rattle.assembler.specs.Reading.{first_named}
use Rattle.assembler.proofs.word.word_of.Given as goal

abbrev pub invariant-loop-name : goal.invariant-loop-name
invariant-loop-name l = first_named (map (λ entry. (entry.0.now, entry.1)) l.table) l.text ≡ first_named (map (λ entry. (entry.0.now, entry.1)) (drop l.name-index l.table)) l.text
