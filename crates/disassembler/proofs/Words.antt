-- No two words have one text, and none has a space.
use Rattle.std.proofs.Common.{◌≡◌, ℕ, Bool, true, false, eqb, List, [], ◌∷◌, Option, Some, None, refl, ap, sym, ◌∙◌}
use Rattle.std.specs.Prelude.{if◌then◌else◌, ◌==◌}
use Rattle.std.specs.Str.{bytes_eq}
use Rattle.std.proofs.lemmas.Bool.{eqb-false}
use Rattle.insn_codec.specs.declared.insn.Width.TheVariants.{W32, W64}
use Rattle.insn_codec.specs.declared.insn.AluOp.TheVariants.{Add, Sub, Mul, Div, Sdiv, Or, And, Lsh, Rsh, Mod, Smod, Xor, Arsh}
use Rattle.insn_codec.specs.declared.insn.Condition.TheVariants.{Equal, NotEqual, Greater, GreaterEqual, Less, LessEqual, Set, SignedGreater, SignedGreaterEqual, SignedLess, SignedLessEqual}
use Rattle.insn_codec.specs.declared.insn.SignExtension.TheVariants.{From8To32, From16To32, From8To64, From16To64, From32To64}
use Rattle.insn_codec.specs.declared.insn.ByteOrder.TheVariants.{Little, Big, Swap}
use Rattle.insn_codec.specs.declared.insn.EndSize.TheVariants.{Bits16, Bits32, Bits64}
use Rattle.insn_codec.specs.declared.insn.Size.TheVariants as sizes
use Rattle.insn_codec.specs.declared.insn.LoadKind.TheVariants as loads
use Rattle.disassembler.specs.Cut.{IsFree}
use Rattle.disassembler.specs.Words.{word_text}
use Rattle.disassembler.specs.declared.word.Word.{Word}
use Rattle.disassembler.specs.declared.word.Word.TheVariants as word

abbrev lookup : List Word → List ℕ → Option Word
lookup [] ts = None
lookup (w ∷ ws) ts = if bytes_eq (word_text w) ts then Some w else lookup ws ts

abbrev all_words : List Word
all_words =
    (word.Alu W64 Add) ∷ (word.Alu W64 Sub) ∷ (word.Alu W64 Mul) ∷ (word.Alu W64 Div) ∷ (word.Alu W64 Sdiv) ∷
    (word.Alu W64 Or) ∷ (word.Alu W64 And) ∷ (word.Alu W64 Lsh) ∷ (word.Alu W64 Rsh) ∷ (word.Alu W64 Mod) ∷
    (word.Alu W64 Smod) ∷ (word.Alu W64 Xor) ∷ (word.Alu W64 Arsh) ∷ (word.Alu W32 Add) ∷ (word.Alu W32 Sub) ∷
    (word.Alu W32 Mul) ∷ (word.Alu W32 Div) ∷ (word.Alu W32 Sdiv) ∷ (word.Alu W32 Or) ∷ (word.Alu W32 And) ∷
    (word.Alu W32 Lsh) ∷ (word.Alu W32 Rsh) ∷ (word.Alu W32 Mod) ∷ (word.Alu W32 Smod) ∷ (word.Alu W32 Xor) ∷
    (word.Alu W32 Arsh) ∷ (word.Mov W64) ∷ (word.Mov W32) ∷ (word.Neg W64) ∷ (word.Neg W32) ∷ (word.MovSx From8To32) ∷
    (word.MovSx From16To32) ∷ (word.MovSx From8To64) ∷ (word.MovSx From16To64) ∷ (word.MovSx From32To64) ∷
    (word.End Little Bits16) ∷ (word.End Little Bits32) ∷ (word.End Little Bits64) ∷ (word.End Big Bits16) ∷
    (word.End Big Bits32) ∷ (word.End Big Bits64) ∷ (word.End Swap Bits16) ∷ (word.End Swap Bits32) ∷
    (word.End Swap Bits64) ∷ (word.Load loads.Byte) ∷ (word.Load loads.Half) ∷ (word.Load loads.Word) ∷
    (word.Load loads.Double) ∷ (word.Load loads.SignedByte) ∷ (word.Load loads.SignedHalf) ∷
    (word.Load loads.SignedWord) ∷ (word.Store sizes.Byte) ∷ (word.Store sizes.Half) ∷ (word.Store sizes.Word) ∷
    (word.Store sizes.Double) ∷ (word.StoreRegister sizes.Byte) ∷ (word.StoreRegister sizes.Half) ∷
    (word.StoreRegister sizes.Word) ∷ (word.StoreRegister sizes.Double) ∷ word.LoadWide ∷ word.Jump ∷ word.Jump32 ∷
    word.Call ∷ word.Exit ∷ (word.JumpIf W64 Equal) ∷ (word.JumpIf W64 NotEqual) ∷ (word.JumpIf W64 Greater) ∷
    (word.JumpIf W64 GreaterEqual) ∷ (word.JumpIf W64 Less) ∷ (word.JumpIf W64 LessEqual) ∷ (word.JumpIf W64 Set) ∷
    (word.JumpIf W64 SignedGreater) ∷ (word.JumpIf W64 SignedGreaterEqual) ∷ (word.JumpIf W64 SignedLess) ∷
    (word.JumpIf W64 SignedLessEqual) ∷ (word.JumpIf W32 Equal) ∷ (word.JumpIf W32 NotEqual) ∷
    (word.JumpIf W32 Greater) ∷ (word.JumpIf W32 GreaterEqual) ∷ (word.JumpIf W32 Less) ∷
    (word.JumpIf W32 LessEqual) ∷ (word.JumpIf W32 Set) ∷ (word.JumpIf W32 SignedGreater) ∷
    (word.JumpIf W32 SignedGreaterEqual) ∷ (word.JumpIf W32 SignedLess) ∷ (word.JumpIf W32 SignedLessEqual) ∷ []

again : (w : Word) → lookup all_words (word_text w) ≡ Some w
again (word.Alu W32 Add) = refl
again (word.Alu W32 op) = refl
again (word.Alu W64 Add) = refl
again (word.Alu W64 op) = refl
again (word.Mov W32) = refl
again (word.Mov W64) = refl
again (word.Neg W32) = refl
again (word.Neg W64) = refl
again (word.MovSx From8To32) = refl
again (word.MovSx extension) = refl
again (word.End Little Bits16) = refl
again (word.End Little size) = refl
again (word.End Big Bits16) = refl
again (word.End Big size) = refl
again (word.End Swap Bits16) = refl
again (word.End Swap size) = refl
again word.LoadWide = refl
again (word.Load loads.Byte) = refl
again (word.Load kind) = refl
again (word.Store sizes.Byte) = refl
again (word.Store size) = refl
again (word.StoreRegister sizes.Byte) = refl
again (word.StoreRegister size) = refl
again word.Jump = refl
again word.Jump32 = refl
again (word.JumpIf W32 Equal) = refl
again (word.JumpIf W32 condition) = refl
again (word.JumpIf W64 Equal) = refl
again (word.JumpIf W64 condition) = refl
again word.Call = refl
again word.Exit = refl

some_once : (v w : Word) → Some v ≡ Some w → v ≡ w
some_once v w e = cc

pub word_once : (v w : Word) → word_text v ≡ word_text w → v ≡ w
word_once v w e = some_once v w (sym (again v) ∙ (ap (lookup all_words) e ∙ again w))

-- ---- no space

abbrev pub is_free : ℕ → ℕ → List ℕ → Bool
is_free s o [] = true
is_free s o (c ∷ cs) = if c == s then false else (if c == o then false else is_free s o cs)

free_cons : (s o c : ℕ) (cs : List ℕ) → (is_free s o cs ≡ true → IsFree s o cs) → (p q : Bool) → eqb c s ≡ p → eqb c o ≡ q → (if p then false else (if q then false else is_free s o cs)) ≡ true → IsFree s o (c ∷ cs)
free_cons s o c cs more true q a b h = absurd cc
free_cons s o c cs more false true a b h = absurd cc
free_cons s o c cs more false false a b h = (eqb-false c s a, eqb-false c o b, more h)

pub free_by : (s o : ℕ) (xs : List ℕ) → is_free s o xs ≡ true → IsFree s o xs
free_by s o [] e = tt
free_by s o (c ∷ cs) e = free_cons s o c cs (free_by s o cs) (eqb c s) (eqb c o) refl refl e

word_is_free : (w : Word) → is_free 32 32 (word_text w) ≡ true
word_is_free (word.Alu W32 Add) = refl
word_is_free (word.Alu W32 op) = refl
word_is_free (word.Alu W64 Add) = refl
word_is_free (word.Alu W64 op) = refl
word_is_free (word.Mov W32) = refl
word_is_free (word.Mov W64) = refl
word_is_free (word.Neg W32) = refl
word_is_free (word.Neg W64) = refl
word_is_free (word.MovSx From8To32) = refl
word_is_free (word.MovSx extension) = refl
word_is_free (word.End Little Bits16) = refl
word_is_free (word.End Little size) = refl
word_is_free (word.End Big Bits16) = refl
word_is_free (word.End Big size) = refl
word_is_free (word.End Swap Bits16) = refl
word_is_free (word.End Swap size) = refl
word_is_free word.LoadWide = refl
word_is_free (word.Load loads.Byte) = refl
word_is_free (word.Load kind) = refl
word_is_free (word.Store sizes.Byte) = refl
word_is_free (word.Store size) = refl
word_is_free (word.StoreRegister sizes.Byte) = refl
word_is_free (word.StoreRegister size) = refl
word_is_free word.Jump = refl
word_is_free word.Jump32 = refl
word_is_free (word.JumpIf W32 Equal) = refl
word_is_free (word.JumpIf W32 condition) = refl
word_is_free (word.JumpIf W64 Equal) = refl
word_is_free (word.JumpIf W64 condition) = refl
word_is_free word.Call = refl
word_is_free word.Exit = refl

pub word_free : (w : Word) → IsFree 32 32 (word_text w)
word_free w = free_by 32 32 (word_text w) (word_is_free w)
