use Rattle.std.proofs.Common.{◌≡◌, ◌+◌, ◌-◌, ◌*◌, ◌≤◌, length, take, drop}
use Rattle.hex.specs.Hex.{decode_pairs}
use Rattle.hex.proofs.Pairs.{prepend}
use Rattle.sessions.proofs.hexadecimal.decoded.Given as goal

abbrev pub invariant-wholes : goal.invariant-wholes
invariant-wholes l =
    (l.done ≤ length l.bytes.items) × (2 * length l.bytes.items ≡ length l.text)
    × (decode_pairs 0 l.text ≡ prepend (take l.done l.bytes.items) (decode_pairs (2 * l.done) (drop (2 * l.done) l.text)))

abbrev pub decreases-wholes : goal.decreases-wholes
decreases-wholes l = length l.bytes.items - l.done

abbrev pub invariant-joined : goal.invariant-joined
invariant-joined l =
    (2 * length l.bytes.items ≡ length l.text)
    × (decode_pairs 0 l.text ≡ prepend (take (l.done + l.i) l.bytes.items) (decode_pairs (2 * (l.done + l.i)) (drop (2 * (l.done + l.i)) l.text)))

abbrev pub invariant-pairs : goal.invariant-pairs
invariant-pairs l =
    (2 * length l.bytes.items ≡ length l.text)
    × (decode_pairs 0 l.text ≡ prepend (take l.i l.bytes.items) (decode_pairs (2 * l.i) (drop (2 * l.i) l.text)))
