-- What is known of the registers, and the place of a slot, as text.
use Rattle.std.specs.Prelude.{◌≡◌, ℕ, ◌==◌, nat_lt, ◌||◌, not, Bool, false, List, [], ◌++◌, codes, string_bytes, pos, Option, Some, None, int_lt, if◌then◌else◌}
use lib.IntN.{negsuc}
use Rattle.std.specs.Fmt.{decimal, signed_decimal}
use Rattle.std.specs.List.{flat_map}
use Rattle.disassembler.specs.Line.{signed_text}
use Rattle.value_ranges.specs.Interval.{Interval}
use Rattle.value_ranges.specs.Span.{Span}
use Rattle.value_ranges.specs.Numbers.{Ranges}
use Rattle.value_ranges.specs.declared.abs.Abs.{Abs}
use Rattle.value_ranges.specs.declared.abs.Abs.TheVariants.{Unset, Num, Stack, Part}
use Rattle.instruction_rules.specs.declared.state.AbsState.{AbsState}
use Rattle.instruction_rules.specs.Covers.{abs_at}
use Rattle.verifier.specs.RefusalCodes.{code_of_refusal}
use Rattle.explain.specs.declared.explanation.Explanation.{Explanation}
use Rattle.explain.specs.declared.needs.Enough.{Enough}
use Rattle.explain.specs.declared.needs.Enough.TheVariants.{From, Never}
use Rattle.explain.specs.RefusalWords.{refusal_words}
use Rattle.explain.specs.declared.explanation.RefusalContext.{RefusalContext}
use Rattle.explain.specs.declared.explanation.InstructionPlace.{InstructionPlace}

-- some of the signed readings are ruled out
abbrev pub is_narrow : Span → Bool
is_narrow r = int_lt (negsuc 9223372036854775807) r.lo || int_lt r.hi (pos 9223372036854775807)

-- no number of 64 bits is ruled out
abbrev pub is_any : Ranges → Bool
is_any n =
    if n.unsigned.lo == 0 then
    (if n.unsigned.hi == 18446744073709551615 then not (is_narrow n.signed) else false)
    else false

abbrev pub range_text : Interval → List ℕ
range_text r = decimal r.lo ++ (codes " to " ++ decimal r.hi)

abbrev pub both_text : Ranges → List ℕ
both_text n = decimal n.unsigned.lo ++ (codes " to " ++ (decimal n.unsigned.hi
    ++ (codes ", signed " ++ (signed_decimal n.signed.lo
    ++ (codes " to " ++ signed_decimal n.signed.hi)))))

-- a number, or its least and greatest; and read as signed, where that may be negative
abbrev pub number_text : Ranges → List ℕ
number_text n =
    if n.unsigned.lo == n.unsigned.hi then decimal n.unsigned.lo else
    if nat_lt n.unsigned.hi 9223372036854775808 then range_text n.unsigned else
    if is_any n then codes "any number" else both_text n

-- a position in bytes from its region's first, or the least and the greatest
abbrev pub reach_text : Span → List ℕ
reach_text r =
    if int_lt r.lo r.hi then signed_text r.lo ++ (codes " to " ++ signed_text r.hi)
    else signed_text r.lo

abbrev pub known_text : Abs → List ℕ
known_text Unset = codes "unset"
known_text (Num n) = number_text n
known_text (Stack r) = codes "stack" ++ reach_text r
known_text (Part r) = codes "part" ++ reach_text r

abbrev pub register_line : ℕ → Abs → List ℕ
register_line number known =
    codes "  r" ++ (decimal number ++ (codes " " ++ (known_text known ++ codes "\n")))

-- a line for each register
abbrev pub registers_text : AbsState → List ℕ
registers_text s =
    register_line 0 (abs_at s 0) ++ (register_line 1 (abs_at s 1) ++ (register_line 2 (abs_at s 2)
    ++ (register_line 3 (abs_at s 3) ++ (register_line 4 (abs_at s 4)
    ++ (register_line 5 (abs_at s 5) ++ (register_line 6 (abs_at s 6)
    ++ (register_line 7 (abs_at s 7) ++ (register_line 8 (abs_at s 8)
    ++ (register_line 9 (abs_at s 9) ++ register_line 10 (abs_at s 10))))))))))

abbrev pub way_text : List ℕ → List ℕ
way_text way = flat_map (λ slot. codes " " ++ decimal slot) way

-- the least need, where one is told
abbrev pub need_text : Option Enough → List ℕ
need_text None = []
need_text (Some (From least)) = codes "least need here: " ++ (decimal least ++ codes "\n")
need_text (Some Never) = codes "least need here: none up to 65536\n"

-- the least need, the way, and what is known at its end
abbrev pub state_text : RefusalContext → List ℕ
state_text known = need_text known.enough
    ++ (codes "way:"
    ++ (way_text known.way.items ++ (codes "\nknown there:\n" ++ registers_text known.state)))

abbrev pub line_part : Option ℕ → List ℕ
line_part None = []
line_part (Some number) = codes ", line " ++ decimal number

-- the slot, its line and its instruction
abbrev pub instruction_place_text : InstructionPlace → List ℕ
instruction_place_text place = codes "slot "
    ++ (decimal place.slot ++ (line_part place.line
    ++ (codes ": " ++ string_bytes place.text)))

-- a line for the place, where there is one
abbrev pub place_line : Option InstructionPlace → List ℕ
place_line None = []
place_line (Some place) = instruction_place_text place ++ codes "\n"

abbrev pub known_lines : Option RefusalContext → List ℕ
known_lines None = []
known_lines (Some known) = state_text known

-- what is wrong, the instruction with its line, and what is known there
abbrev pub reason_text : Explanation → List ℕ
reason_text why = codes "why: " ++ (refusal_words (code_of_refusal why.refusal) ++ (codes "\n"
    ++ (place_line why.place ++ known_lines why.known)))

-- the refusal in some words, and the reason
abbrev pub IsTextOf : Explanation → List ℕ → Type 0
IsTextOf why text =
    (words : List ℕ) × (text ≡ codes "refused " ++ (words ++ (codes "\n" ++ reason_text why)))
