-- What the codec leaves where it finds no memory for a frame.
use Rattle.std.proofs.Common.{◌≡◌, ℕ, List, ◌++◌, length, take, drop, Err, refl, sym, ap, ◌∙◌, subst, inl, inr}
use Rattle.std.proofs.lemmas.Bool.{cases_lt}
use Rattle.std.proofs.lemmas.List.{take-append-drop}
use Rattle.std.specs.declared.io.Error.{Error}
use Rattle.tokio_util.specs.declared.codec.length_delimited.LengthDelimitedCodec.{LengthDelimitedCodec}
use Rattle.tokio_util.specs.declared.codec.length_delimited.DecodeState.{DecodeState}
use Rattle.tokio_util.specs.declared.codec.length_delimited.DecodeState.TheVariants.{Head, Data}
use Rattle.tokio_util.specs.Codec.LengthDelimited.{codec_layout, IsAtHead, Cut, frame, too_big, overflows, unfinished, cut_payload, cut_in, cut, Answers}
use Rattle.tokio_util.specs.Codec.LengthDelimited.{gives_frames}
use Rattle.tokio_util.specs.Codec.LengthDelimitedLaws.{cut_payload_whole, cut_payload_short}
use Rattle.tokio_util.specs.Codec.Next.{Decodes}
use Rattle.sessions.specs.Frames.{whole, front}
use Rattle.sessions.specs.Layout.{frame_layout}
use Rattle.sessions.specs.Session.{IsLeftAt, at_its_length, at_its_payload}
use Rattle.sessions.proofs.Cuts.{front_of, cut_is_front, cut_fresh}

-- a payload that is cut stood before what follows it
payload_and_rest : (n : ℕ) (xs payload rest : List ℕ) → cut_payload n xs ≡ frame payload rest → xs ≡ payload ++ rest
payload_and_rest n xs payload rest h =
    elim (cases_lt (length xs) n) [
      | inl short ↦ let clash = sym (cut_payload_short n xs short) ∙ h in cc
      | inr there ↦
          let e = sym (cut_payload_whole n xs there) ∙ h in
          let first : take n xs ≡ payload = cc in
          let second : drop n xs ≡ rest = cc in
          sym (take-append-drop n xs) ∙ rw (first, second) refl
    ]

left_in : (state : DecodeState) (xs payload rest : List ℕ) → cut_in frame_layout state xs ≡ frame payload rest → IsLeftAt payload rest xs
left_in Head xs payload rest h = at_its_length xs (sym (cut_is_front xs) ∙ ap front_of h)
left_in (Data n) xs payload rest h = subst (IsLeftAt payload rest) (sym (payload_and_rest n xs payload rest h)) at_its_payload

left_of : (c t : LengthDelimitedCodec) (xs ys payload rest : List ℕ) (v : Cut) (e : Error) → codec_layout c ≡ frame_layout → front_of v ≡ whole payload rest → Answers c xs v (Err e) t ys → IsLeftAt payload rest ys
left_of c t xs ys payload rest (frame p r) e layout is h =
    let first : p ≡ payload = cc in
    let second : r ≡ rest = cc in
    let same : codec_layout t ≡ frame_layout = ap (λ b. codec_layout (record c { builder = b })) h.1 ∙ layout in
    left_in t.state ys payload rest (ap (λ l. cut_in l t.state ys) (sym same) ∙ h.2 ∙ rw (first, second) refl)
left_of c t xs ys payload rest too_big e layout is h = cc
left_of c t xs ys payload rest overflows e layout is h = cc
left_of c t xs ys payload rest (unfinished state kept) e layout is h = absurd h

pub left_where_refused : (c t : LengthDelimitedCodec) (xs ys payload rest : List ℕ) (e : Error) → codec_layout c ≡ frame_layout → IsAtHead c → front xs ≡ whole payload rest → Decodes gives_frames c xs (Err e) t ys → IsLeftAt payload rest ys
left_where_refused c t xs ys payload rest e layout at_head is h =
    left_of c t xs ys payload rest (cut c xs) e layout (cut_fresh c xs layout at_head ∙ is) h
