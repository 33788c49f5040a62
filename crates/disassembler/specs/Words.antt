-- The words of the text table, one for each row and width.
use Rattle.std.specs.Prelude.{ℕ, List, [], ◌++◌, codes}
use Rattle.insn_codec.specs.declared.insn.Width.{Width}
use Rattle.insn_codec.specs.declared.insn.Width.TheVariants.{W32, W64}
use Rattle.insn_codec.specs.declared.insn.AluOp.{AluOp}
use Rattle.insn_codec.specs.declared.insn.AluOp.TheVariants.{Add, Sub, Mul, Div, Sdiv, Or, And, Lsh, Rsh, Mod, Smod, Xor, Arsh}
use Rattle.insn_codec.specs.declared.insn.Condition.{Condition}
use Rattle.insn_codec.specs.declared.insn.Condition.TheVariants.{Equal, NotEqual, Greater, GreaterEqual, Less, LessEqual, Set, SignedGreater, SignedGreaterEqual, SignedLess, SignedLessEqual}
use Rattle.insn_codec.specs.declared.insn.SignExtension.{SignExtension}
use Rattle.insn_codec.specs.declared.insn.SignExtension.TheVariants.{From8To32, From16To32, From8To64, From16To64, From32To64}
use Rattle.insn_codec.specs.declared.insn.ByteOrder.{ByteOrder}
use Rattle.insn_codec.specs.declared.insn.ByteOrder.TheVariants.{Little, Big, Swap}
use Rattle.insn_codec.specs.declared.insn.EndSize.{EndSize}
use Rattle.insn_codec.specs.declared.insn.EndSize.TheVariants.{Bits16, Bits32, Bits64}
use Rattle.insn_codec.specs.declared.insn.Size.{Size}
use Rattle.insn_codec.specs.declared.insn.Size.TheVariants as sizes
use Rattle.insn_codec.specs.declared.insn.LoadKind.{LoadKind}
use Rattle.insn_codec.specs.declared.insn.LoadKind.TheVariants as loads
use Rattle.insn_codec.specs.declared.insn.Insn.{Insn}
use Rattle.insn_codec.specs.declared.insn.Insn.TheVariants.{Alu, Mov, Neg, MovSx, End, LoadWide, Load, Store, StoreRegister, Jump, Jump32, JumpIf, Call, Exit}
use Rattle.disassembler.specs.declared.word.Word.{Word}
use Rattle.disassembler.specs.declared.word.Word.TheVariants as word

abbrev pub alu_word : AluOp → List ℕ
alu_word Add = codes "add"
alu_word Sub = codes "sub"
alu_word Mul = codes "mul"
alu_word Div = codes "div"
alu_word Sdiv = codes "sdiv"
alu_word Or = codes "or"
alu_word And = codes "and"
alu_word Lsh = codes "lsh"
alu_word Rsh = codes "rsh"
alu_word Mod = codes "mod"
alu_word Smod = codes "smod"
alu_word Xor = codes "xor"
alu_word Arsh = codes "arsh"

abbrev pub width_text : Width → List ℕ
width_text W32 = codes "32"
width_text W64 = codes "64"

abbrev pub jump_suffix : Width → List ℕ
jump_suffix W32 = codes "32"
jump_suffix W64 = []

abbrev pub condition_word : Condition → List ℕ
condition_word Equal = codes "jeq"
condition_word Greater = codes "jgt"
condition_word GreaterEqual = codes "jge"
condition_word Set = codes "jset"
condition_word NotEqual = codes "jne"
condition_word SignedGreater = codes "jsgt"
condition_word SignedGreaterEqual = codes "jsge"
condition_word Less = codes "jlt"
condition_word LessEqual = codes "jle"
condition_word SignedLess = codes "jslt"
condition_word SignedLessEqual = codes "jsle"

abbrev pub extension_word : SignExtension → List ℕ
extension_word From8To32 = codes "movsx8_32"
extension_word From16To32 = codes "movsx16_32"
extension_word From8To64 = codes "movsx8_64"
extension_word From16To64 = codes "movsx16_64"
extension_word From32To64 = codes "movsx32_64"

abbrev pub order_word : ByteOrder → List ℕ
order_word Little = codes "le"
order_word Big = codes "be"
order_word Swap = codes "swap"

abbrev pub bits_text : EndSize → List ℕ
bits_text Bits16 = codes "16"
bits_text Bits32 = codes "32"
bits_text Bits64 = codes "64"

abbrev pub load_word : LoadKind → List ℕ
load_word loads.Byte = codes "ldxb"
load_word loads.Half = codes "ldxh"
load_word loads.Word = codes "ldxw"
load_word loads.Double = codes "ldxdw"
load_word loads.SignedByte = codes "ldxsb"
load_word loads.SignedHalf = codes "ldxsh"
load_word loads.SignedWord = codes "ldxsw"

abbrev pub size_suffix : Size → List ℕ
size_suffix sizes.Byte = codes "b"
size_suffix sizes.Half = codes "h"
size_suffix sizes.Word = codes "w"
size_suffix sizes.Double = codes "dw"

abbrev pub word_text : Word → List ℕ
word_text (word.Alu width op) = alu_word op ++ width_text width
word_text (word.Mov width) = codes "mov" ++ width_text width
word_text (word.MovSx extension) = extension_word extension
word_text (word.Neg width) = codes "neg" ++ width_text width
word_text (word.End order size) = order_word order ++ bits_text size
word_text word.LoadWide = codes "lddw"
word_text (word.Load kind) = load_word kind
word_text (word.Store size) = codes "st" ++ size_suffix size
word_text (word.StoreRegister size) = codes "stx" ++ size_suffix size
word_text word.Jump = codes "ja"
word_text word.Jump32 = codes "ja32"
word_text (word.JumpIf width condition) = condition_word condition ++ jump_suffix width
word_text word.Call = codes "call"
word_text word.Exit = codes "exit"

abbrev pub word_of_insn : Insn → Word
word_of_insn (Alu width op dst src) = word.Alu width op
word_of_insn (Mov width dst src) = word.Mov width
word_of_insn (MovSx extension dst src) = word.MovSx extension
word_of_insn (Neg width dst) = word.Neg width
word_of_insn (End order size dst) = word.End order size
word_of_insn (LoadWide dst value) = word.LoadWide
word_of_insn (Load kind dst base offset) = word.Load kind
word_of_insn (Store size base offset imm) = word.Store size
word_of_insn (StoreRegister size base offset src) = word.StoreRegister size
word_of_insn (Jump offset) = word.Jump
word_of_insn (Jump32 offset) = word.Jump32
word_of_insn (JumpIf width condition dst src offset) = word.JumpIf width condition
word_of_insn (Call helper) = word.Call
word_of_insn Exit = word.Exit
