-- One turn of the loops over words and lines.
use Rattle.std.proofs.Common.{◌≡◌, ◌≤◌, ◌<◌, ◌+◌, ◌∙◌, ◌==◌, ℕ, true, false, List, [], ◌∷◌, length, map, drop, get_or, sym, ap, subst, arith, option_map, Some, Ok}
use Rattle.std.specs.List.{slice_get}
use Rattle.std.specs.Borrow.{Bor}
use Rattle.std.proofs.lemmas.Bool.Decides.{nat_tests}
use Rattle.std.proofs.lemmas.List.{drop_all, drop_more}
use Rattle.std.proofs.lemmas.Option.{slice_get-get_or, slice_get-map}
use Rattle.bpfjobs_cli.specs.declared.commands.Usage.{Usage}
use Rattle.bpfjobs_cli.specs.declared.commands.Usage.TheVariants as usage
use Rattle.bpfjobs_cli.specs.declared.tenants.EntryFault.{EntryFault}
use Rattle.bpfjobs_cli.specs.declared.tenants.EntryFault.TheVariants as entry
use Rattle.bpfjobs_cli.specs.declared.tenant_text.Delimiter.TheVariants.{LineEnd}
use Rattle.bpfjobs_cli.specs.TenantLines.{SaidText, before_delimiter, from_delimiter, line_says, word_says}
use Rattle.bpfjobs_cli.specs.Tenants.{Entered, IsWrongLine, NamedTenant, entered, fault_said, lines_said, words_said}
use Rattle.bpfjobs_cli.specs.Entries.{IsWordUsage, RefusesSaid, TakesSaid, TellsWord, wrong_at}
use Rattle.bpfjobs_cli.proofs.EnteredLemmas.{entered_more, entered_stops}
use Rattle.bpfjobs_cli.proofs.TenantLemmas.{behind, none_behind, parts_at, some_behind}

pub is_none : (n : ℕ) → true ≡ (n == 0) → n ≡ 0
is_none n e = grind (arith, nat_tests)

pub is_some : (n : ℕ) → false ≡ (n == 0) → 0 < n
is_some n e = grind (arith, nat_tests)

-- ---- lines

module _ (whole : Entered) (ts : List NamedTenant) (n : ℕ) (rest front tail : List ℕ) (s : SaidText) (so_far : whole ≡ entered ts n (lines_said rest))
    (front_is : front ≡ before_delimiter LineEnd rest) (tail_is : tail ≡ from_delimiter LineEnd rest) (said_is : s ≡ line_says front) where
  this_line : whole ≡ entered ts n (s ∷ map line_says (behind LineEnd tail))
  this_line =
      so_far ∙ ap (λ (ls : List (List ℕ)). entered ts n (map line_says ls)) (parts_at LineEnd rest)
      ∙ ap (λ (f : List ℕ). entered ts n (line_says f ∷ map line_says (behind LineEnd (from_delimiter LineEnd rest)))) (sym front_is)
      ∙ ap (λ (t : List ℕ). entered ts n (line_says front ∷ map line_says (behind LineEnd t))) (sym tail_is)
      ∙ ap (λ (x : SaidText). entered ts n (x ∷ map line_says (behind LineEnd tail))) (sym said_is)

  pub line_wrong : (e : EntryFault) → RefusesSaid ts s e → IsWrongLine (wrong_at n e) whole
  line_wrong (entry.Wrong f) wrong = this_line ∙ entered_stops ts n s (map line_says (behind LineEnd tail)) f wrong
  line_wrong entry.NoMemory wrong = tt

  module _ (after : List NamedTenant) (takes : TakesSaid ts s after) where
    line_more : whole ≡ entered after (n + 1) (map line_says (behind LineEnd tail))
    line_more = this_line ∙ entered_more ts after n s (map line_says (behind LineEnd tail)) takes

    pub line_last : length tail ≡ 0 → whole ≡ Ok after
    line_last none = line_more ∙ ap (λ (ls : List (List ℕ)). entered after (n + 1) (map line_says ls)) (none_behind LineEnd tail none)

    pub line_next : (next : List ℕ) → 0 < length tail → next ≡ drop 1 tail → whole ≡ entered after (n + 1) (lines_said next)
    line_next next some is =
        line_more ∙ ap (λ (ls : List (List ℕ)). entered after (n + 1) (map line_says ls)) (some_behind LineEnd tail some)
        ∙ ap (λ (t : List ℕ). entered after (n + 1) (lines_said t)) (sym is)

-- ---- words

-- the words as texts
abbrev pub texts : List (Bor (List ℕ)) → List (List ℕ)
texts = map (λ w. w.now)

module _ (ts : List NamedTenant) (n : ℕ) (words : List (Bor (List ℕ))) (none : Bor (List ℕ)) (s : SaidText) (within : n < length words)
    (so_far : entered [] 0 (words_said (texts words)) ≡ entered ts n (words_said (texts (drop n words)))) (said_is : s ≡ word_says (get_or words n none).now) where
  this_word : entered [] 0 (words_said (texts words)) ≡ entered ts n (s ∷ words_said (texts (drop (n + 1) words)))
  this_word =
      so_far ∙ ap (λ (ws : List (Bor (List ℕ))). entered ts n (words_said (texts ws))) (drop_more words n none within)
      ∙ ap (λ (x : SaidText). entered ts n (x ∷ words_said (texts (drop (n + 1) words)))) (sym said_is)

  place : slice_get (texts words) n ≡ Some (get_or words n none).now
  place = slice_get-map (λ (w : Bor (List ℕ)). w.now) words n ∙ ap (option_map (λ (w : Bor (List ℕ)). w.now)) (slice_get-get_or words n none within)

  pub word_wrong : (e : EntryFault) (u : Usage) → RefusesSaid ts s e → TellsWord (get_or words n none).now e u → IsWordUsage (texts words) u
  word_wrong e (usage.Refused error) wrong tells = absurd tells
  word_wrong e (usage.Endpoint fault) wrong tells = absurd tells
  word_wrong e (usage.Tenant told f) wrong tells =
      let why : fault_said ts s ≡ Some f = subst (RefusesSaid ts s) tells.1 wrong in
      (n, this_word ∙ entered_stops ts n s (words_said (texts (drop (n + 1) words))) f why, place ∙ ap Some (sym tells.0))
  word_wrong e (usage.Ask fault) wrong tells = absurd tells
  word_wrong e (usage.Job fault) wrong tells = absurd tells
  word_wrong e usage.TwoInputs wrong tells = absurd tells
  word_wrong e usage.NoMemory wrong tells = tt

  pub word_more : (after : List NamedTenant) → TakesSaid ts s after → entered [] 0 (words_said (texts words)) ≡ entered after (n + 1) (words_said (texts (drop (n + 1) words)))
  word_more after takes = this_word ∙ entered_more ts after n s (words_said (texts (drop (n + 1) words))) takes

-- no word is left
pub words_done : (ts : List NamedTenant) (n : ℕ) (words : List (Bor (List ℕ))) → entered [] 0 (words_said (texts words)) ≡ entered ts n (words_said (texts (drop n words)))
    → length words ≤ n → entered [] 0 (words_said (texts words)) ≡ Ok ts
words_done ts n words so_far all = so_far ∙ ap (λ (ws : List (Bor (List ℕ))). entered ts n (words_said (texts ws))) (drop_all n words all)
