-- Each word stands in the table, beside its own text.
use Rattle.std.proofs.Common.{◌≡◌, ◌≢◌, ℕ, Bool, true, false, List, [], ◌∷◌, map, Option, Some, None, refl, ap, sym, subst, ◌∙◌}
use Rattle.std.specs.Prelude.{if◌then◌else◌, IfSome, IfNone}
use Rattle.std.specs.Str.{bytes_eq}
use Rattle.std.proofs.lemmas.Slice.Eq.{bytes_eq-Decides}
use Rattle.insn_codec.specs.declared.insn.Width.TheVariants.{W32, W64}
use Rattle.insn_codec.specs.declared.insn.AluOp.TheVariants.{Add}
use Rattle.insn_codec.specs.declared.insn.Condition.TheVariants.{Equal}
use Rattle.insn_codec.specs.declared.insn.SignExtension.TheVariants.{From8To32}
use Rattle.insn_codec.specs.declared.insn.ByteOrder.TheVariants.{Little, Big, Swap}
use Rattle.insn_codec.specs.declared.insn.EndSize.TheVariants.{Bits16}
use Rattle.insn_codec.specs.declared.insn.Size.TheVariants as sizes
use Rattle.insn_codec.specs.declared.insn.LoadKind.TheVariants as loads
use Rattle.disassembler.specs.declared.word.Word.{Word}
use Rattle.disassembler.specs.declared.word.Word.TheVariants as word
use Rattle.disassembler.specs.Words.{word_text}
use Rattle.assembler.specs.Reading.{first_named}
use Rattle.assembler.specs.declared.word.TheConstants.{WORDS}

abbrev pub table : List (List ℕ × Word)
table = map (λ entry. (entry.0.now, entry.1)) WORDS

-- each word stands there
listed : (w : Word) → first_named table (word_text w) ≡ Some w
listed (word.Alu W32 Add) = refl
listed (word.Alu W32 op) = refl
listed (word.Alu W64 Add) = refl
listed (word.Alu W64 op) = refl
listed (word.Mov W32) = refl
listed (word.Mov W64) = refl
listed (word.Neg W32) = refl
listed (word.Neg W64) = refl
listed (word.MovSx From8To32) = refl
listed (word.MovSx extension) = refl
listed (word.End Little Bits16) = refl
listed (word.End Little size) = refl
listed (word.End Big Bits16) = refl
listed (word.End Big size) = refl
listed (word.End Swap Bits16) = refl
listed (word.End Swap size) = refl
listed word.LoadWide = refl
listed (word.Load loads.Byte) = refl
listed (word.Load kind) = refl
listed (word.Store sizes.Byte) = refl
listed (word.Store size) = refl
listed (word.StoreRegister sizes.Byte) = refl
listed (word.StoreRegister size) = refl
listed word.Jump = refl
listed word.Jump32 = refl
listed (word.JumpIf W32 Equal) = refl
listed (word.JumpIf W32 condition) = refl
listed (word.JumpIf W64 Equal) = refl
listed (word.JumpIf W64 condition) = refl
listed word.Call = refl
listed word.Exit = refl

-- each entry has its word's text
abbrev are_own : List (List ℕ × Word) → Bool
are_own [] = true
are_own (e ∷ es) = if bytes_eq (word_text e.1) e.0 then are_own es else false

own_cons : (e : List ℕ × Word) (es : List (List ℕ × Word)) (ts : List ℕ) → (are_own es ≡ true → IfSome (first_named es ts) (λ w. word_text w ≡ ts))
    → (p q : Bool) → bytes_eq (word_text e.1) e.0 ≡ p → bytes_eq e.0 ts ≡ q → (if p then are_own es else false) ≡ true
    → IfSome (if q then Some e.1 else first_named es ts) (λ w. word_text w ≡ ts)
own_cons e es ts more false q a b h = absurd cc
own_cons e es ts more true true a b h = (bytes_eq-Decides (word_text e.1) e.0).0 a ∙ (bytes_eq-Decides e.0 ts).0 b
own_cons e es ts more true false a b h = more h

own : (es : List (List ℕ × Word)) (ts : List ℕ) → are_own es ≡ true → IfSome (first_named es ts) (λ w. word_text w ≡ ts)
own [] ts h = tt
own (e ∷ es) ts h = own_cons e es ts (own es ts) (bytes_eq (word_text e.1) e.0) (bytes_eq e.0 ts) refl refl h

some_none : (w : Word) → Some w ≡ None → ⊥
some_none w e = absurd cc

module _ (ts : List ℕ) (r : Option Word) (is : r ≡ first_named table ts) where
  pub found : IfSome r (λ w. word_text w ≡ ts)
  found = subst (λ (o : Option Word). IfSome o (λ w. word_text w ≡ ts)) (sym is) (own table ts refl)

  pub none : IfNone r ((w : Word) → word_text w ≢ ts)
  none = by_case r is
    where
      by_case : (o : Option Word) → o ≡ first_named table ts → IfNone o ((w : Word) → word_text w ≢ ts)
      by_case (Some v) e = tt
      by_case None e = λ w same. some_none w (sym (listed w) ∙ (ap (first_named table) same ∙ sym e))
