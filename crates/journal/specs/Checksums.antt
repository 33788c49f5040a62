-- CRC-32/ISO-HDLC, as in gzip and PNG: the polynomial 0xEDB88320, reflected; initial value and
-- final xor of all ones.
use Rattle.std.specs.Prelude.{ℕ, ◌/◌, ◌%◌, List, [], ◌∷◌, ◌==◌, if◌then◌else◌, bit_xor}

-- the remainder after one bit more, the lowest first: a step of division by the polynomial
unfoldable pub crc32_bit : ℕ → ℕ
crc32_bit c = if c % 2 == 1 then bit_xor (c / 2) 0xedb88320 else c / 2

-- after eight bits
unfoldable pub crc32_eight : ℕ → ℕ
crc32_eight c =
    crc32_bit (crc32_bit (crc32_bit (crc32_bit (crc32_bit (crc32_bit (crc32_bit (crc32_bit c)))))))

-- after one byte more
unfoldable pub crc32_byte : ℕ → ℕ → ℕ
crc32_byte remainder byte = crc32_eight (bit_xor remainder byte)

-- after these bytes, in order
abbrev pub crc32_from : ℕ → List ℕ → ℕ
crc32_from remainder [] = remainder
crc32_from remainder (byte ∷ bytes) = crc32_from (crc32_byte remainder byte) bytes

-- the checksum of bytes
unfoldable pub crc32 : List ℕ → ℕ
crc32 bytes = bit_xor (crc32_from 0xffffffff bytes) 0xffffffff
