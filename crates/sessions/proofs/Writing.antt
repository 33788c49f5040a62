-- What is written piece by piece.
use Rattle.std.proofs.Common.{◌≡◌, ℕ, List, ◌++◌, Option, Some, None, codes, decimal, sym, ap, ◌∙◌}
use Rattle.std.proofs.lemmas.List.{append_assoc}
use Rattle.serde_json.proofs.OnLiterals.{serde_json_on_literals}
use Rattle.serde_json.specs.Written.{compact_text}
use Rattle.sessions.specs.Replies.{refusal_data}

-- a piece, and all that is written behind it
behind : (first more last piece rest : List ℕ) → more ≡ first ++ piece → last ≡ more ++ rest → last ≡ first ++ (piece ++ rest)
behind first more last piece rest here others =
    others ∙ ap (λ l. l ++ rest) here ∙ append_assoc first piece rest

pub two : (o p1 p2 y1 y2 : List ℕ) → y1 ≡ o ++ p1 → y2 ≡ y1 ++ p2 → y2 ≡ o ++ (p1 ++ p2)
two o p1 p2 y1 y2 e1 e2 =
    behind o y1 y2 p1 (p2) e1 e2

pub three : (o p1 p2 p3 y1 y2 y3 : List ℕ) → y1 ≡ o ++ p1 → y2 ≡ y1 ++ p2 → y3 ≡ y2 ++ p3 → y3 ≡ o ++ (p1 ++ (p2 ++ p3))
three o p1 p2 p3 y1 y2 y3 e1 e2 e3 =
    behind o y1 y3 p1 (p2 ++ p3) e1 (two y1 p2 p3 y2 y3 e2 e3)

pub four : (o p1 p2 p3 p4 y1 y2 y3 y4 : List ℕ) → y1 ≡ o ++ p1 → y2 ≡ y1 ++ p2 → y3 ≡ y2 ++ p3 → y4 ≡ y3 ++ p4 → y4 ≡ o ++ (p1 ++ (p2 ++ (p3 ++ p4)))
four o p1 p2 p3 p4 y1 y2 y3 y4 e1 e2 e3 e4 =
    behind o y1 y4 p1 (p2 ++ (p3 ++ p4)) e1 (three y1 p2 p3 p4 y2 y3 y4 e2 e3 e4)

pub five : (o p1 p2 p3 p4 p5 y1 y2 y3 y4 y5 : List ℕ) → y1 ≡ o ++ p1 → y2 ≡ y1 ++ p2 → y3 ≡ y2 ++ p3 → y4 ≡ y3 ++ p4 → y5 ≡ y4 ++ p5 → y5 ≡ o ++ (p1 ++ (p2 ++ (p3 ++ (p4 ++ p5))))
five o p1 p2 p3 p4 p5 y1 y2 y3 y4 y5 e1 e2 e3 e4 e5 =
    behind o y1 y5 p1 (p2 ++ (p3 ++ (p4 ++ p5))) e1 (four y1 p2 p3 p4 p5 y2 y3 y4 y5 e2 e3 e4 e5)

pub seven : (o p1 p2 p3 p4 p5 p6 p7 y1 y2 y3 y4 y5 y6 y7 : List ℕ) → y1 ≡ o ++ p1 → y2 ≡ y1 ++ p2 → y3 ≡ y2 ++ p3 → y4 ≡ y3 ++ p4 → y5 ≡ y4 ++ p5 → y6 ≡ y5 ++ p6 → y7 ≡ y6 ++ p7 →
    y7 ≡ o ++ (p1 ++ (p2 ++ (p3 ++ (p4 ++ (p5 ++ (p6 ++ p7))))))
seven o p1 p2 p3 p4 p5 p6 p7 y1 y2 y3 y4 y5 y6 y7 e1 e2 e3 e4 e5 e6 e7 =
    behind o y1 y7 p1 (p2 ++ (p3 ++ (p4 ++ (p5 ++ (p6 ++ p7))))) e1
    (behind y1 y2 y7 p2 (p3 ++ (p4 ++ (p5 ++ (p6 ++ p7)))) e2 (five y2 p3 p4 p5 p6 p7 y3 y4 y5 y6 y7 e3 e4 e5 e6 e7))

-- ---- a refusal

pub refused : (o y1 y2 : List ℕ) (n code : ℕ) (program slot : Option ℕ) → n ≡ code → program ≡ None → y1 ≡ o ++ (codes "{\"code\":" ++ decimal n) → y2 ≡ y1 ++ codes ",\"ok\":false}" → y2 ≡ o ++ compact_text (refusal_data code program slot)
unfolding serde_json_on_literals refusal_data
refused o y1 y2 n code program slot same none e1 e2 =
    let text : y2 ≡ o ++ compact_text (refusal_data n None slot) = two o (codes "{\"code\":" ++ decimal n) (codes ",\"ok\":false}") y1 y2 e1 e2 in
    text ∙ ap (λ k. o ++ compact_text (refusal_data k None slot)) same ∙ ap (λ p. o ++ compact_text (refusal_data code p slot)) (sym none)

pub refused_program : (o y1 y2 y3 : List ℕ) (n code m number : ℕ) (program slot : Option ℕ) → n ≡ code → m ≡ number → program ≡ Some number → slot ≡ None → y1 ≡ o ++ (codes "{\"code\":" ++ decimal n) → y2 ≡ y1 ++ (codes ",\"ok\":false,\"program\":" ++ decimal m) → y3 ≡ y2 ++ codes "}" → y3 ≡ o ++ compact_text (refusal_data code program slot)
unfolding serde_json_on_literals refusal_data
refused_program o y1 y2 y3 n code m number program slot same same_program there none e1 e2 e3 =
    let text : y3 ≡ o ++ compact_text (refusal_data n (Some m) None) = three o (codes "{\"code\":" ++ decimal n) (codes ",\"ok\":false,\"program\":" ++ decimal m) (codes "}") y1 y2 y3 e1 e2 e3 in
    text ∙ ap (λ k. o ++ compact_text (refusal_data k (Some m) None)) same
    ∙ ap (λ p. o ++ compact_text (refusal_data code p None)) (ap Some same_program ∙ sym there)
    ∙ ap (λ s. o ++ compact_text (refusal_data code program s)) (sym none)

pub refused_slot : (o y1 y2 y3 y4 : List ℕ) (n code m number l place : ℕ) (program slot : Option ℕ) → n ≡ code → m ≡ number → l ≡ place → program ≡ Some number → slot ≡ Some place → y1 ≡ o ++ (codes "{\"code\":" ++ decimal n) → y2 ≡ y1 ++ (codes ",\"ok\":false,\"program\":" ++ decimal m) → y3 ≡ y2 ++ (codes ",\"slot\":" ++ decimal l) → y4 ≡ y3 ++ codes "}" → y4 ≡ o ++ compact_text (refusal_data code program slot)
unfolding serde_json_on_literals refusal_data
refused_slot o y1 y2 y3 y4 n code m number l place program slot same same_program same_slot there at e1 e2 e3 e4 =
    let text : y4 ≡ o ++ compact_text (refusal_data n (Some m) (Some l)) = four o (codes "{\"code\":" ++ decimal n) (codes ",\"ok\":false,\"program\":" ++ decimal m) (codes ",\"slot\":" ++ decimal l) (codes "}") y1 y2 y3 y4 e1 e2 e3 e4 in
    text ∙ ap (λ k. o ++ compact_text (refusal_data k (Some m) (Some l))) same
    ∙ ap (λ p. o ++ compact_text (refusal_data code p (Some l))) (ap Some same_program ∙ sym there)
    ∙ ap (λ s. o ++ compact_text (refusal_data code program s)) (ap Some same_slot ∙ sym at)
