-- A source text, line by line.
use Rattle.std.proofs.Common.{◌≡◌, inl, inr, ℕ, ◌+◌, ◌-◌, ◌<◌, Bool, true, false, eqb, List, [], ◌∷◌, ◌++◌, length, drop, map, reverse, refl, ap, sym, subst, ◌∙◌, append_assoc, length-append, Option, Some, None, arith}
use Rattle.std.specs.Prelude.{IsSome, ◌==◌}
use Rattle.std.specs.List.{slice_split, AllByRecursion}
use Rattle.std.proofs.lemmas.Bool.{eqb-true}
use Rattle.std.proofs.lemmas.List.{map-append, append-nil, reverse-append}
use Rattle.std.proofs.lemmas.List.Splits.{slice_split-cons_no}
use Rattle.insn_codec.specs.declared.insn.Insn.{Insn}
use Rattle.insn_codec.specs.Spelling.{IsInsn}
use Rattle.disassembler.specs.Cut.{IsFree, StopsAtOnce}
use Rattle.disassembler.specs.Line.{line_text}
use Rattle.assembler.specs.declared.fault.TextFault.{TextFault}
use Rattle.assembler.specs.declared.fault.TextFault.TheVariants as fault
use Rattle.assembler.specs.Source.{code_part, stripped, is_line_feed, numbered, texts_of, AreLinesOf, IsAtLine, IsTextRefusal, SaysInsn, listed, RefusesLine}

pub eqb_not : (a b : ℕ) → (a ≡ b → ⊥) → eqb a b ≡ false
eqb_not a b n = go (eqb a b) refl
  where
    go : (q : Bool) → eqb a b ≡ q → eqb a b ≡ false
    go true e = absurd (n (eqb-true a b e))
    go false e = e

-- ---- comments and blanks

pub code_front : (front back : List ℕ) → IsFree 59 59 front → StopsAtOnce 59 59 back → code_part (front ++ back) ≡ front
code_front [] [] f b = refl
code_front [] (c ∷ cs) f (inl b) = rw b refl
code_front [] (c ∷ cs) f (inr b) = rw b refl
code_front (x ∷ front) back f b = rw (eqb_not x 59 f.0) (ap (λ (l : List ℕ). x ∷ l) (code_front front back f.2 b))

pub code_is : (line front back : List ℕ) → line ≡ front ++ back → IsFree 59 59 front → StopsAtOnce 59 59 back → front ≡ code_part line
code_is line front back e f b = sym (ap code_part e ∙ code_front front back f b)

reversed : (xs : List ℕ) (c : ℕ) → reverse (xs ++ c ∷ []) ≡ c ∷ reverse xs
reversed xs c = reverse-append xs (c ∷ [])

-- ---- lines

pub split_last : (line : List ℕ) → IsFree 10 10 line → slice_split is_line_feed line ≡ line ∷ []
split_last [] f = refl
split_last (x ∷ line) f = slice_split-cons_no is_line_feed x line (eqb_not x 10 f.0) ∙ rw (split_last line f.2) refl

pub split_more : (line rest : List ℕ) → IsFree 10 10 line → slice_split is_line_feed (line ++ 10 ∷ rest) ≡ line ∷ slice_split is_line_feed rest
split_more [] rest f = refl
split_more (x ∷ line) rest f = slice_split-cons_no is_line_feed x (line ++ 10 ∷ rest) (eqb_not x 10 f.0) ∙ rw (split_more line rest f.2) refl

-- the lines in front of the lines that are left
pub record IsPartly (lines : List (ℕ × List ℕ)) (n : ℕ) (left : List (List ℕ)) (insns : List Insn) : Type 0 where
  pub done : List (ℕ × List ℕ)
  pub parts : lines ≡ done ++ numbered n left
  pub read : AreLinesOf insns done

numbered_blank : (n : ℕ) (line : List ℕ) (left : List (List ℕ)) → stripped line ≡ [] → numbered n (line ∷ left) ≡ numbered (n + 1) left
numbered_blank n line left e = rw e refl

pub numbered_more : (n : ℕ) (line : List ℕ) (left : List (List ℕ)) → 0 < length (stripped line) → numbered n (line ∷ left) ≡ (n, stripped line) ∷ numbered (n + 1) left
numbered_more n line left lt = rw (eqb_not (length (stripped line)) 0 (λ e. absurd (omega arith))) refl

fit_push : (front : List Insn) (insn : Insn) → AllByRecursion IsInsn front → IsInsn insn → AllByRecursion IsInsn (front ++ insn ∷ [])
fit_push [] insn h k = (k, tt)
fit_push (i ∷ front) insn h k = (h.0, fit_push front insn h.1 k)

pub more : (lines : List (ℕ × List ℕ)) (n : ℕ) (line : List ℕ) (left : List (List ℕ)) (old new : List Insn) (o : Option Insn) → IsPartly lines n (line ∷ left) old → SaysInsn line o → new ≡ old ++ listed o → IsPartly lines (n + 1) left new
more lines n line left old new None h t e = record {
  done = h.done;
  parts = h.parts ∙ ap (λ (l : List (ℕ × List ℕ)). h.done ++ l) (numbered_blank n line left t);
  read = subst (λ (l : List Insn). AreLinesOf l h.done) (sym (e ∙ append-nil old)) h.read;
}
more lines n line left old new (Some insn) h t e =
    let one : List (ℕ × List ℕ) = (n, stripped line) ∷ [] in
    let texts : texts_of (h.done ++ one) ≡ map line_text (old ++ insn ∷ []) =
    map-append (λ (x : ℕ × List ℕ). x.1) h.done one
    ∙ (ap (λ (l : List (List ℕ)). l ++ stripped line ∷ []) h.read.read
    ∙ (ap (λ (l : List ℕ). map line_text old ++ l ∷ []) t.2
    ∙ sym (map-append line_text old (insn ∷ [])))) in
    let lines_of : AreLinesOf (old ++ insn ∷ []) (h.done ++ one) = record { fit = fit_push old insn h.read.fit t.0; read = texts } in
    record {
      done = h.done ++ one;
      parts = h.parts ∙ (ap (λ (l : List (ℕ × List ℕ)). h.done ++ l) (numbered_more n line left t.1) ∙ sym (append_assoc h.done one (numbered (n + 1) left)));
      read = subst (λ (l : List Insn). AreLinesOf l (h.done ++ one)) (sym e) lines_of;
    }

pub finish : (lines : List (ℕ × List ℕ)) (n : ℕ) (insns : List Insn) → IsPartly lines n [] insns → AreLinesOf insns lines
finish lines n insns h = subst (AreLinesOf insns) (sym (h.parts ∙ append-nil h.done)) h.read

module _ (lines : List (ℕ × List ℕ)) (n : ℕ) (line : List ℕ) (left : List (List ℕ)) (old : List Insn) (h : IsPartly lines n (line ∷ left) old) where
  at : (m : ℕ) (P : List ℕ → Type 0) → 0 < length (stripped line) → m ≡ n → P (stripped line) → IsAtLine m lines P
  at m P some same told = record {
    before = h.done;
    line = stripped line;
    after = numbered (n + 1) left;
    insns = old;
    parts = h.parts ∙ ap (λ (l : List (ℕ × List ℕ)). h.done ++ l) (numbered_more n line left some ∙ ap (λ (k : ℕ). (k, stripped line) ∷ numbered (n + 1) left) (sym same));
    read = h.read;
    told = told;
  }

  pub stop : (e : TextFault) → RefusesLine e n line → IsTextRefusal e lines
  stop (fault.UnknownWord m) r = at m _ r.some r.told.0 r.told.1
  stop (fault.BadOperand m) r = at m _ r.some r.told.0 r.told.1
  stop (fault.NumberRange m) r = at m _ r.some r.told.0 r.told.1
  stop fault.NoMemory r = omega (arith, ap length (h.parts ∙ ap (λ (l : List (ℕ × List ℕ)). h.done ++ l) (numbered_more n line left r.some)), length-append h.done ((n, stripped line) ∷ numbered (n + 1) left))
  stop fault.Empty r = absurd r.told
  stop fault.TooLong r = absurd r.told

-- what the lines after a line's end are
abbrev pub left_of : List ℕ → List (List ℕ)
left_of [] = []
left_of (c ∷ cs) = slice_split is_line_feed cs

pub cut_at : (line tail : List ℕ) → IsFree 10 10 line → StopsAtOnce 10 10 tail → slice_split is_line_feed (line ++ tail) ≡ line ∷ left_of tail
cut_at line [] f b = ap (slice_split is_line_feed) (append-nil line) ∙ split_last line f
cut_at line (c ∷ cs) f (inl b) = ap (λ (x : ℕ). slice_split is_line_feed (line ++ x ∷ cs)) b ∙ split_more line cs f
cut_at line (c ∷ cs) f (inr b) = ap (λ (x : ℕ). slice_split is_line_feed (line ++ x ∷ cs)) b ∙ split_more line cs f

pub partly_at : (lines : List (ℕ × List ℕ)) (n : ℕ) (insns : List Insn) (rest line tail : List ℕ) → rest ≡ line ++ tail → IsFree 10 10 line → StopsAtOnce 10 10 tail → IsPartly lines n (slice_split is_line_feed rest) insns → IsPartly lines n (line ∷ left_of tail) insns
partly_at lines n insns rest line tail e f b h = subst (λ (l : List (List ℕ)). IsPartly lines n l insns) (ap (slice_split is_line_feed) e ∙ cut_at line tail f b) h

pub left_none : (tail : List ℕ) → true ≡ (length tail == 0) → left_of tail ≡ []
left_none [] e = refl
left_none (c ∷ cs) e = let k = eqb-true (length (c ∷ cs)) 0 (sym e) in absurd (omega arith)

pub left_some : (tail rest : List ℕ) → false ≡ (length tail == 0) → rest ≡ drop 1 tail → (left_of tail ≡ slice_split is_line_feed rest) × (length tail ≡ length rest + 1)
left_some [] rest lt e = absurd cc
left_some (c ∷ cs) rest lt e = (ap (slice_split is_line_feed) (sym e), let l = ap length e in omega (arith, l))

pub said : (line : List ℕ) (o : Option Insn) → SaysInsn line o → IsSome o → 0 < length (stripped line)
said line None h s = absurd cc
said line (Some insn) h s = h.1
