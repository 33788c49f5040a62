use Rattle.std.proofs.Common.{◌≡◌, ℕ, List, [], ◌∷◌, ◌++◌, refl, ap, ◌∙◌}
use Rattle.std.specs.Prelude.{bit_xor}
use Rattle.journal.specs.Checksums.{crc32, crc32_from, crc32_byte}
use Rattle.journal.proofs.checksum.crc32.Goals as goal

-- one piece and then the other
crc32-append : (c : ℕ) (xs ys : List ℕ) → crc32_from (crc32_from c xs) ys ≡ crc32_from c (xs ++ ys)
crc32-append c [] ys = refl
crc32-append c (x ∷ xs) ys = crc32-append (crc32_byte c x) xs ys

pub returns : goal.returns
unfolding crc32
returns c =
    ap (λ (n : ℕ). bit_xor n 0xffffffff) (c.crc32_over-2.ensures ∙ (ap (λ (n : ℕ). crc32_from n c.args.rest.now) c.crc32_over.ensures ∙ crc32-append 0xffffffff c.args.front.now c.args.rest.now))
