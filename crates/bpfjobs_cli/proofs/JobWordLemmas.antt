-- The words of `job`: what is read of each, and one turn of the loops over them.
use Rattle.std.proofs.Common.{◌≡◌, ◌==◌, ◌&&◌, ◌+◌, ◌<◌, ◌≤◌, ◌∙◌, ℕ, Bool, cond, true, false, suc, unwrap_or, List, [], ◌∷◌, ◌++◌, length, map, take, drop, get_or, refl, sym, ap, subst, arith, Option, Some, None, option_map}
use Rattle.std.specs.Prelude.{nat_le}
use Rattle.std.specs.Char.{is_ascii_digit}
use Rattle.std.specs.Str.Parse.{digits_value}
use Rattle.std.proofs.lemmas.Bool.Decides.{nat_tests}
use Rattle.std.specs.Borrow.{Bor}
use Rattle.std.specs.List.{list_all, slice_get}
use Rattle.std.specs.Path.{rsplit_once}
use Rattle.std.proofs.lemmas.List.{append_assoc, map_more}
use Rattle.std.proofs.lemmas.Option.{slice_get-get_or, slice_get-map}
use Rattle.bpfjobs_cli.specs.declared.commands.Usage.{Usage}
use Rattle.bpfjobs_cli.specs.declared.commands.Usage.TheVariants as usage
use Rattle.bpfjobs_cli.specs.declared.job_sources.JobWordFault.{JobWordFault}
use Rattle.bpfjobs_cli.specs.declared.job_sources.JobWordFault.TheVariants as word_fault
use Rattle.bpfjobs_cli.specs.declared.job_sources.ProgramSource.{ProgramSource}
use Rattle.bpfjobs_cli.specs.declared.tenant_text.Delimiter.TheVariants.{Comma}
use Rattle.bpfjobs_cli.specs.JobUsages.{IsSourceFault, IsSourceUsage, IsWordsFault, IsWordsUsage, IsWordUsageBy}
use Rattle.bpfjobs_cli.specs.JobWords.{numbers_said, repeated, said_source, schedule_said, source_said, times_said}
use Rattle.bpfjobs_cli.specs.TenantLines.{before_delimiter, from_delimiter, number_said}
use Rattle.bpfjobs_cli.proofs.TenantLemmas.{behind, none_behind, parts_at, some_behind}

-- ---- a source

pub source_some : (word path digits : List ℕ) (need : ℕ) → rsplit_once 58 word ≡ Some (path, digits) → number_said 0 4294967295 digits ≡ Some need → Some (path, need) ≡ source_said word
unfolding source_said
source_some word path digits need cut number = rw (cut, number) refl

pub source_wrong : (word path digits : List ℕ) → rsplit_once 58 word ≡ Some (path, digits) → number_said 0 4294967295 digits ≡ None → None ≡ source_said word
unfolding source_said
source_wrong word path digits cut number = rw (cut, number) refl

pub source_uncut : (word : List ℕ) → rsplit_once 58 word ≡ None → None ≡ source_said word
unfolding source_said
source_uncut word cut = rw cut refl

-- ---- sources

-- the refusal is of another form
pub usage_as : (p q : JobWordFault → Type 0) → ((f : JobWordFault) → p f → q f) → (u : Usage) → IsWordUsageBy p u → IsWordUsageBy q u
usage_as p q on (usage.Refused error) is = absurd is
usage_as p q on (usage.Endpoint fault) is = absurd is
usage_as p q on (usage.Tenant word fault) is = absurd is
usage_as p q on (usage.Ask fault) is = absurd is
usage_as p q on (usage.Job fault) is = on fault is
usage_as p q on usage.TwoInputs is = absurd is
usage_as p q on usage.NoMemory is = tt

-- the words as texts
abbrev texts : List (Bor (List ℕ)) → List (List ℕ)
texts = map (λ word. word.now)

-- what the words say
abbrev pub all_said : List (Bor (List ℕ)) → List (Option (List ℕ × ℕ))
all_said = map (λ word. source_said word.now)

pub said_of_texts : (words : List (Bor (List ℕ))) → map source_said (texts words) ≡ all_said words
said_of_texts [] = refl
said_of_texts (word ∷ words) = ap (λ l. source_said word.now ∷ l) (said_of_texts words)

module _ (words : List (Bor (List ℕ))) (n : ℕ) (none : Bor (List ℕ)) (within : n < length words) where
  place : slice_get (texts words) n ≡ Some (get_or words n none).now
  place = slice_get-map (λ (w : Bor (List ℕ)). w.now) words n ∙ ap (option_map (λ (w : Bor (List ℕ)). w.now)) (slice_get-get_or words n none within)

  fault_there : (f : JobWordFault) → IsSourceFault (get_or words n none).now f → IsWordsFault (texts words) f
  fault_there (word_fault.Source told) is = (n, place ∙ ap Some (sym is.0), subst (λ (w : List ℕ). source_said w ≡ None) (sym is.0) is.1)
  fault_there word_fault.Buffer is = absurd is
  fault_there word_fault.Schedule is = absurd is

  pub word_refused : (u : Usage) → IsSourceUsage (get_or words n none).now u → IsWordsUsage (texts words) u
  word_refused = usage_as (IsSourceFault (get_or words n none).now) (IsWordsFault (texts words)) fault_there

  pub source_more : (sources more : List ProgramSource) (source : ProgramSource) → all_said (take n words) ≡ map said_source sources → source_said (get_or words n none).now ≡ said_source source
      → more ≡ sources ++ source ∷ [] → all_said (take (n + 1) words) ≡ map said_source more
  source_more sources more source before this is =
      map_more (λ (w : Bor (List ℕ)). source_said w.now) words n none within
      ∙ ap (λ l. l ++ source_said (get_or words n none).now ∷ []) before
      ∙ ap (λ s. map said_source sources ++ s ∷ []) this
      ∙ sym (pushed sources source) ∙ ap (map said_source) (sym is)
    where
      pushed : (sources : List ProgramSource) (source : ProgramSource) → map said_source (sources ++ source ∷ []) ≡ map said_source sources ++ said_source source ∷ []
      pushed [] source = refl
      pushed (s ∷ rest) source = ap (λ l. said_source s ∷ l) (pushed rest source)

-- ---- a buffer

number_most : (low high : ℕ) (digits : List ℕ) (n : ℕ) → number_said low high digits ≡ Some n → n ≤ high
unfolding number_said
number_most low high digits n is = go (length digits == 0) (list_all is_ascii_digit digits) (nat_le v high) (nat_le low v) refl is
  where
    v : ℕ
    v = digits_value 10 digits

    go : (a b c d : Bool) → nat_le v high ≡ c → cond a None (cond (b && (c && d)) (Some v) None) ≡ Some n → n ≤ high
    go true b c d most e = absurd cc
    go false false c d most e = absurd cc
    go false true false d most e = absurd cc
    go false true true false most e = absurd cc
    go false true true true most e =
        let same : v ≡ n = ap (λ o. unwrap_or o n) e in
        grind (arith, nat_tests)

pub times_most : (text : List ℕ) (n : ℕ) → times_said text ≡ Some n → n ≤ 65536
unfolding times_said
times_most text n is = go (length text == 0) is
  where
    go : (a : Bool) → cond a (Some 1) (number_said 1 65536 (drop 1 text)) ≡ Some n → n ≤ 65536
    go true e =
        let same : 1 ≡ n = ap (λ o. unwrap_or o n) e in
        omega (arith, same)
    go false e = number_most 1 65536 (drop 1 text) n e

pub repeated_more : (n : ℕ) (bytes : List ℕ) → repeated (n + 1) bytes ≡ repeated n bytes ++ bytes
repeated_more n bytes =
    let e : n + 1 ≡ suc n = omega arith in
    ap (λ m. repeated m bytes) e

-- ---- a schedule

-- the numbers, and those that follow, if they are numbers
abbrev pub then_more : List ℕ → Option (List ℕ) → Option (List ℕ)
then_more numbers = option_map (λ others. numbers ++ others)

then_one : (numbers : List ℕ) (n : ℕ) (others : Option (List ℕ)) → then_more numbers (option_map (λ l. n ∷ l) others) ≡ then_more (numbers ++ n ∷ []) others
then_one numbers n None = refl
then_one numbers n (Some others) = ap Some (sym (append_assoc numbers (n ∷ []) others))

pub then_none : (word : Option (List ℕ)) → word ≡ then_more [] word
then_none None = refl
then_none (Some numbers) = refl

module _ (whole : Option (List ℕ)) (numbers rest front tail : List ℕ) (so_far : whole ≡ then_more numbers (schedule_said rest)) (front_is : front ≡ before_delimiter Comma rest) (tail_is : tail ≡ from_delimiter Comma rest) where
  this_part : schedule_said rest ≡ numbers_said (front ∷ behind Comma tail)
  unfolding schedule_said
  this_part =
      ap numbers_said (parts_at Comma rest)
      ∙ ap (λ (f : List ℕ). numbers_said (f ∷ behind Comma (from_delimiter Comma rest))) (sym front_is)
      ∙ ap (λ (t : List ℕ). numbers_said (front ∷ behind Comma t)) (sym tail_is)

  pub part_wrong : number_said 0 4294967295 front ≡ None → whole ≡ None
  part_wrong wrong =
      let none : schedule_said rest ≡ None = this_part ∙ rw wrong refl in
      so_far ∙ ap (then_more numbers) none

  module _ (n : ℕ) (is : number_said 0 4294967295 front ≡ Some n) (more : List ℕ) (more_is : more ≡ numbers ++ n ∷ []) where
    pub part_last : length tail ≡ 0 → whole ≡ Some more
    part_last none =
        let last : schedule_said rest ≡ Some (n ∷ []) = this_part ∙ rw (is, none_behind Comma tail none) refl in
        so_far ∙ ap (then_more numbers) last ∙ ap Some (sym more_is)

    pub part_next : (next : List ℕ) → 0 < length tail → next ≡ drop 1 tail → whole ≡ then_more more (schedule_said next)
    unfolding schedule_said
    part_next next some next_is =
        let on : schedule_said rest ≡ option_map (λ l. n ∷ l) (schedule_said next) = this_part ∙ rw (is, some_behind Comma tail some, next_is) refl in
        so_far ∙ ap (then_more numbers) on ∙ then_one numbers n (schedule_said next) ∙ ap (λ l. then_more l (schedule_said next)) (sym more_is)
