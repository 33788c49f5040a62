-- The frames of a list of bytes.
use Rattle.std.proofs.Common.{◌≡◌, ℕ, zero, suc, ◌≤◌, List, [], ◌∷◌, ◌++◌, length, refl, sym, ap, ◌∙◌, subst, lit<, arith, append_assoc, append-nil}
use Rattle.std.specs.List.{flat_map}
use Rattle.sessions.specs.Frames.{AreBytes, AreShort, Framing, Front, HasNoFrame, Heard, IsStreamOf, ahead, cut_first, framed, frames_of, frames_up_to, front, nothing_yet, one_frame, one_piece, partial, too_large, whole}
use Rattle.sessions.proofs.Cuts.{front_short}
use Rattle.sessions.proofs.Fronts.{front_shorter, front_stable}
use Rattle.sessions.proofs.Joining.{frame_cut, heard_stream}

-- frames that are cut from the front, one after the other
pub data Cuts : List ℕ → List (List ℕ) → List ℕ → Type 0 where
  none_cut : (bytes : List ℕ) → Cuts bytes [] bytes
  one_cut : (bytes payload more : List ℕ) (payloads : List (List ℕ)) (rest : List ℕ) → front bytes ≡ whole payload more → Cuts more payloads rest → Cuts bytes (payload ∷ payloads) rest

-- ---- what is cut until nothing whole is left are the frames

stopped : (cut : List ℕ → Framing) (bytes : List ℕ) (f : Front) → HasNoFrame f → cut_first cut bytes f ≡ record { payloads = []; rest = bytes }
stopped cut bytes (whole payload rest) none = absurd none
stopped cut bytes partial none = refl
stopped cut bytes too_large none = refl

cut_up_to : (n : ℕ) (bytes : List ℕ) (payloads : List (List ℕ)) (rest : List ℕ) → length bytes ≤ n → Cuts bytes payloads rest → HasNoFrame (front rest) →
    frames_up_to n bytes ≡ record { payloads = payloads; rest = rest }
unfolding frames_up_to
cut_up_to zero _ _ _ few (none_cut bytes) none = refl
cut_up_to (suc n) _ _ _ few (none_cut bytes) none = stopped (λ rest. frames_up_to n rest) bytes (front bytes) none
cut_up_to zero _ _ _ few (one_cut bytes payload more payloads rest first cuts) none = absurd (omega (arith, few, front_shorter bytes payload more first))
cut_up_to (suc n) _ _ _ few (one_cut bytes payload more payloads rest first cuts) none =
    ap (λ f. cut_first (λ r. frames_up_to n r) bytes f) first
    ∙ ap (ahead payload) (cut_up_to n more payloads rest (omega (arith, few, front_shorter bytes payload more first)) cuts none)

pub cuts_are : (bytes : List ℕ) (payloads : List (List ℕ)) (rest : List ℕ) → Cuts bytes payloads rest → HasNoFrame (front rest) → frames_of bytes ≡ record { payloads = payloads; rest = rest }
unfolding frames_of
cuts_are bytes payloads rest cuts none = cut_up_to (length bytes) bytes payloads rest (omega arith) cuts none

-- ---- and the frames are cut so

pub record IsCut (bytes : List ℕ) (f : Framing) : Type 0 where
  pub cuts : Cuts bytes f.payloads f.rest
  pub none : HasNoFrame (front f.rest)

cut_on : (cut : List ℕ → Framing) (bytes : List ℕ) (f : Front) → front bytes ≡ f → ((payload rest : List ℕ) → front bytes ≡ whole payload rest → IsCut rest (cut rest)) → IsCut bytes (cut_first cut bytes f)
cut_on cut bytes (whole payload rest) first next =
    let then_cut = next payload rest first in
    record { cuts = one_cut bytes payload rest (cut rest).payloads (cut rest).rest first then_cut.cuts; none = then_cut.none }
cut_on cut bytes partial first next = record { cuts = none_cut bytes; none = subst HasNoFrame (sym first) tt }
cut_on cut bytes too_large first next = record { cuts = none_cut bytes; none = subst HasNoFrame (sym first) tt }

up_to_is_cut : (n : ℕ) (bytes : List ℕ) → length bytes ≤ n → IsCut bytes (frames_up_to n bytes)
unfolding frames_up_to
up_to_is_cut zero [] few = record { cuts = none_cut []; none = subst HasNoFrame (sym (front_short [] (lit< tt))) tt }
up_to_is_cut zero (b ∷ bytes) few = absurd (omega (arith, few))
up_to_is_cut (suc n) bytes few =
    cut_on (λ rest. frames_up_to n rest) bytes (front bytes) refl
    (λ payload rest first. up_to_is_cut n rest (omega (arith, few, front_shorter bytes payload rest first)))

pub frames_are_cut : (bytes : List ℕ) → IsCut bytes (frames_of bytes)
unfolding frames_of
frames_are_cut bytes = up_to_is_cut (length bytes) bytes (omega arith)

pub no_frame_left : (bytes : List ℕ) → HasNoFrame (front (frames_of bytes).rest)
no_frame_left bytes = (frames_are_cut bytes).none

-- ---- what a session told

pub cuts_more : (bytes : List ℕ) (payloads : List (List ℕ)) (rest more : List ℕ) → Cuts bytes payloads rest → Cuts (bytes ++ more) payloads (rest ++ more)
cuts_more _ _ _ more (none_cut bytes) = none_cut (bytes ++ more)
cuts_more _ _ _ more (one_cut bytes payload left payloads rest first cuts) =
    one_cut (bytes ++ more) payload (left ++ more) payloads (rest ++ more) (front_stable bytes more payload left first) (cuts_more left payloads rest more cuts)

pub cuts_one : (bytes : List ℕ) (payloads : List (List ℕ)) (left payload rest : List ℕ) → Cuts bytes payloads left → front left ≡ whole payload rest → Cuts bytes (payloads ++ payload ∷ []) rest
cuts_one _ _ _ payload rest (none_cut bytes) first = one_cut bytes payload rest [] rest first (none_cut rest)
cuts_one _ _ _ payload rest (one_cut bytes earlier more payloads left before cuts) first =
    one_cut bytes earlier more (payloads ++ payload ∷ []) rest before (cuts_one more payloads left payload rest cuts first)

heard_cuts : (fed : List ℕ) (payloads : List (List ℕ)) (left : List ℕ) → Heard fed payloads left → Cuts fed payloads left
heard_cuts _ _ _ nothing_yet = none_cut []
heard_cuts _ _ _ (one_piece fed payloads left piece before) = cuts_more fed payloads left piece (heard_cuts fed payloads left before)
heard_cuts _ _ _ (one_frame fed payloads left payload more before first) = cuts_one fed payloads left payload more (heard_cuts fed payloads left before) first

pub heard_frames : (fed : List ℕ) (payloads : List (List ℕ)) (left : List ℕ) → Heard fed payloads left → HasNoFrame (front left) → frames_of fed ≡ record { payloads = payloads; rest = left }
heard_frames fed payloads left heard none = cuts_are fed payloads left (heard_cuts fed payloads left heard) none

-- ---- they join to the bytes

hears_on : (fed : List ℕ) (payloads : List (List ℕ)) (left : List ℕ) (further : List (List ℕ)) (rest : List ℕ) → Heard fed payloads left → Cuts left further rest → Heard fed (payloads ++ further) rest
hears_on fed payloads left _ _ before (none_cut _) = subst (λ ps. Heard fed ps left) (sym (append-nil payloads)) before
hears_on fed payloads left _ _ before (one_cut _ payload more further rest first cuts) =
    subst (λ ps. Heard fed ps rest) (append_assoc payloads (payload ∷ []) further)
    (hears_on fed (payloads ++ payload ∷ []) more further rest (one_frame fed payloads left payload more before first) cuts)

pub frames_join : (bytes : List ℕ) → AreBytes bytes → IsStreamOf bytes (frames_of bytes).payloads (frames_of bytes).rest
frames_join bytes small =
    heard_stream bytes (frames_of bytes).payloads (frames_of bytes).rest small
    (hears_on bytes [] bytes (frames_of bytes).payloads (frames_of bytes).rest (one_piece [] [] [] bytes nothing_yet) (frames_are_cut bytes).cuts)

-- ---- frames that are written are the frames

joined_cuts : (payloads : List (List ℕ)) (rest : List ℕ) → AreShort payloads → Cuts (flat_map framed payloads ++ rest) payloads rest
joined_cuts [] rest short = none_cut rest
joined_cuts (payload ∷ payloads) rest short =
    let joined = append_assoc (framed payload) (flat_map framed payloads) rest in
    subst (λ bytes. Cuts bytes (payload ∷ payloads) rest) (sym joined)
    (one_cut (framed payload ++ (flat_map framed payloads ++ rest)) payload (flat_map framed payloads ++ rest) payloads rest
    (frame_cut payload (flat_map framed payloads ++ rest) short.0) (joined_cuts payloads rest short.1))

pub frames_of_joined : (payloads : List (List ℕ)) (rest : List ℕ) → AreShort payloads → HasNoFrame (front rest) → frames_of (flat_map framed payloads ++ rest) ≡ record { payloads = payloads; rest = rest }
frames_of_joined payloads rest short none = cuts_are (flat_map framed payloads ++ rest) payloads rest (joined_cuts payloads rest short) none
