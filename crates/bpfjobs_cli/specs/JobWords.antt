-- The words of `job`: its files with their needs, its buffer and its schedule.
use Rattle.std.specs.Prelude.{Bool, ◌==◌, ◌*◌, ◌&&◌, ◌++◌, ◌∷◌, ℕ, zero, suc, nat_le, List, [], length, drop, if◌then◌else◌, Option, Some, None, option_and_then, option_map, string_bytes}
use Rattle.std.specs.List.{slice_split}
use Rattle.std.specs.Path.{rsplit_once}
use Rattle.std.specs.Result.{result_ok}
use Rattle.hex.specs.Hex.{decode_of}
use Rattle.bpfjobs_cli.specs.declared.job_sources.ProgramSource.{ProgramSource}
use Rattle.bpfjobs_cli.specs.declared.tenant_text.Delimiter.TheVariants.{Comma, Star}
use Rattle.bpfjobs_cli.specs.TenantLines.{before_delimiter, from_delimiter, is_delimiter, number_said}

-- a word FILE:NEED: the path is all ahead of its last `:`, and the need the number behind it
unfoldable pub source_said : List ℕ → Option (List ℕ × ℕ)
source_said word = option_and_then
    (λ cut. option_map (λ need. (cut.0, need)) (number_said 0 4294967295 cut.1))
    (rsplit_once 58 word)

-- the path and the need of a source
abbrev pub said_source : ProgramSource → Option (List ℕ × ℕ)
said_source source = Some (string_bytes source.path, source.need)

-- bytes, so often one after the other
abbrev pub repeated : ℕ → List ℕ → List ℕ
repeated zero bytes = []
repeated (suc n) bytes = repeated n bytes ++ bytes

-- the count behind a `*`; one, where there is none
unfoldable pub times_said : List ℕ → Option ℕ
times_said text = if length text == 0 then Some 1 else number_said 1 65536 (drop 1 text)

-- bytes so often are 65,536 at most
abbrev pub are_short : ℕ → ℕ → Bool
are_short times count = nat_le count 65536 && nat_le (times * count) 65536

unfoldable pub if_short : ℕ → List ℕ → Option (List ℕ)
if_short times bytes =
    if are_short times (length bytes) then Some (repeated times bytes) else None

-- a buffer HEX, or HEX*COUNT
unfoldable pub buffer_said : List ℕ → Option (List ℕ)
buffer_said word = option_and_then
    (λ times. option_and_then (λ bytes. if_short times bytes)
    (result_ok (decode_of (before_delimiter Star word))))
    (times_said (from_delimiter Star word))

-- the numbers of these texts, if each is one
abbrev pub numbers_said : List (List ℕ) → Option (List ℕ)
numbers_said [] = Some []
numbers_said (text ∷ texts) = option_and_then
    (λ number. option_map (λ numbers. number ∷ numbers) (numbers_said texts))
    (number_said 0 4294967295 text)

-- a schedule: numbers, with a comma between two
unfoldable pub schedule_said : List ℕ → Option (List ℕ)
schedule_said word = numbers_said (slice_split (is_delimiter Comma) word)

-- the schedule of a job: the empty one, where no word says it
abbrev pub schedule_by : Option (List ℕ) → Option (List ℕ)
schedule_by None = Some []
schedule_by (Some word) = schedule_said word
