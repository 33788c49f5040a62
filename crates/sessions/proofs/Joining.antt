-- A stream is its frames, one after the other.
use Rattle.std.proofs.Common.{◌≡◌, ℕ, zero, suc, ◌<◌, ◌≤◌, ◌+◌, List, [], ◌∷◌, ◌++◌, length, take, drop, get_or, refl, sym, ap, ◌∙◌, subst, arith, append_assoc, append-nil, length-append}
use Rattle.std.proofs.lemmas.List.{length-take, length-drop, take-append-drop}
use Rattle.std.proofs.lemmas.List.Concat.{flat_map-append}
use Rattle.std.proofs.lemmas.Nat.{be_bytes_4, from_be_bytes-to_be_bytes_4}
use Rattle.std.proofs.Math.Seq.{take-append_seam, drop-append_seam}
use Rattle.std.specs.Int.{w32, to_be_bytes, from_be_bytes}
use Rattle.std.specs.Int.Digits.{number_from_digits}
use Rattle.std.specs.List.{flat_map}
use Rattle.sessions.specs.Frames.{whole, longest_payload, stated_length, front, framed, Heard, nothing_yet, one_piece, one_frame, AreBytes, IsStreamOf}
use Rattle.sessions.proofs.Cuts.{front_whole}
use Rattle.sessions.proofs.Fronts.{is_there}

-- ---- bytes

bytes_before : (xs ys : List ℕ) → AreBytes (xs ++ ys) → AreBytes xs
bytes_before [] ys small = tt
bytes_before (x ∷ xs) ys small = (small.0, bytes_before xs ys small.1)

bytes_after : (xs ys : List ℕ) → AreBytes (xs ++ ys) → AreBytes ys
bytes_after [] ys small = small
bytes_after (x ∷ xs) ys small = bytes_after xs ys small.1

byte_at : (xs : List ℕ) → AreBytes xs → (i : ℕ) → get_or xs i 0 < 256
byte_at [] small i = omega arith
byte_at (x ∷ xs) small zero = small.0
byte_at (x ∷ xs) small (suc i) = byte_at xs small.1 i

-- ---- four bytes as a number

read_4 : (bs : List ℕ) → length bs ≡ 4 → number_from_digits 256 bs ≡ from_be_bytes w32 bs
read_4 [] l = absurd (omega arith)
read_4 (a ∷ []) l = absurd (omega arith)
read_4 (a ∷ b ∷ []) l = absurd (omega arith)
read_4 (a ∷ b ∷ c ∷ []) l = absurd (omega arith)
read_4 (a ∷ b ∷ c ∷ d ∷ []) l = omega arith
read_4 (a ∷ b ∷ c ∷ d ∷ e ∷ bs) l = absurd (omega arith)

-- ---- a frame that was cut

frame_joined : (xs payload more : List ℕ) → AreBytes xs → front xs ≡ whole payload more → xs ≡ framed payload ++ more
frame_joined xs payload more small h =
    let t = is_there xs payload more h in
    let four : length (take 4 xs) ≡ 4 = omega (arith, length-take 4 xs, t.long) in
    let head_small : AreBytes (take 4 xs) = bytes_before (take 4 xs) (drop 4 xs) (subst AreBytes (sym (take-append-drop 4 xs)) small) in
    let count : length payload ≡ stated_length xs = omega (arith, ap length t.payload_is, length-take (stated_length xs) (drop 4 xs), length-drop 4 xs, t.there) in
    let head : to_be_bytes w32 (length payload) ≡ take 4 xs = be_bytes_4 (take 4 xs) (length payload) four (byte_at (take 4 xs) head_small) (count ∙ read_4 (take 4 xs) four) in
    let body : drop 4 xs ≡ payload ++ more = sym (take-append-drop (stated_length xs) (drop 4 xs)) ∙ ap (λ ys. ys ++ drop (stated_length xs) (drop 4 xs)) (sym t.payload_is) ∙ ap (λ ys. payload ++ ys) (sym t.rest_is) in
    sym (take-append-drop 4 xs) ∙ ap (λ ys. ys ++ drop 4 xs) (sym head) ∙ ap (λ ys. to_be_bytes w32 (length payload) ++ ys) body ∙ sym (append_assoc (to_be_bytes w32 (length payload)) payload more)

pub heard_stream : (fed : List ℕ) (payloads : List (List ℕ)) (left : List ℕ) → AreBytes fed → Heard fed payloads left → IsStreamOf fed payloads left
heard_stream _ _ _ small nothing_yet = refl
heard_stream _ _ _ small (one_piece fed payloads left piece before) =
    ap (λ ys. ys ++ piece) (heard_stream fed payloads left (bytes_before fed piece small) before) ∙ append_assoc (flat_map framed payloads) left piece
heard_stream _ _ _ small (one_frame fed payloads left payload more before cut) =
    let is = heard_stream fed payloads left small before in
    let left_small : AreBytes left = bytes_after (flat_map framed payloads) left (subst AreBytes is small) in
    is ∙ ap (λ ys. flat_map framed payloads ++ ys) (frame_joined left payload more left_small cut)
    ∙ sym (append_assoc (flat_map framed payloads) (framed payload) more)
    ∙ ap (λ ys. flat_map framed payloads ++ ys ++ more) (sym (append-nil (framed payload)))
    ∙ ap (λ ys. ys ++ more) (sym (flat_map-append framed payloads (payload ∷ [])))

-- ---- a frame that is whole

cut_at : (head payload more : List ℕ) → length head ≡ 4 → number_from_digits 256 head ≡ length payload → length payload ≤ longest_payload → front (head ++ payload ++ more) ≡ whole payload more
cut_at head payload more four count short =
    let xs = head ++ payload ++ more in
    let joined : xs ≡ head ++ (payload ++ more) = append_assoc head payload more in
    let first : take 4 xs ≡ head = ap (λ n. take n xs) (sym four) ∙ ap (take (length head)) joined ∙ take-append_seam head (payload ++ more) in
    let second : drop 4 xs ≡ payload ++ more = ap (λ n. drop n xs) (sym four) ∙ ap (drop (length head)) joined ∙ drop-append_seam head (payload ++ more) in
    let stated : stated_length xs ≡ length payload = ap (number_from_digits 256) first ∙ count in
    let long : length xs ≡ 4 + length payload + length more = omega (arith, length-append (head ++ payload) more, length-append head payload, four) in
    front_whole xs (omega (arith, long)) (omega (arith, stated, short)) (omega (arith, stated, long))
    ∙ ap (λ n. whole (take n (drop 4 xs)) (drop n (drop 4 xs))) stated
    ∙ ap (λ ys. whole (take (length payload) ys) (drop (length payload) ys)) second
    ∙ ap (λ ys. whole ys (drop (length payload) (payload ++ more))) (take-append_seam payload more)
    ∙ ap (whole payload) (drop-append_seam payload more)

pub frame_cut : (payload more : List ℕ) → length payload ≤ longest_payload → front (framed payload ++ more) ≡ whole payload more
frame_cut payload more short =
    let four : length (to_be_bytes w32 (length payload)) ≡ 4 = refl in
    cut_at (to_be_bytes w32 (length payload)) payload more four (read_4 (to_be_bytes w32 (length payload)) four ∙ from_be_bytes-to_be_bytes_4 (length payload) (omega (arith, short))) short
