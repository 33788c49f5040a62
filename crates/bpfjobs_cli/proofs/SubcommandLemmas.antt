-- Which subcommand a line has that clap takes: one of the program's, and not `help`.
use Rattle.std.proofs.Common.{◌≡◌, ◌∙◌, ◌&&◌, ◌||◌, ℕ, Bool, cond, codes, true, false, not, refl, sym, subst, List, [], ◌∷◌, Option, Some, None, is_some, true≢false, option_map}
use Rattle.std.specs.List.{find, fold}
use Rattle.std.specs.Option.{option_map_or}
use Rattle.std.specs.Str.{bytes_eq}
use Rattle.std.proofs.lemmas.Slice.Eq.{bytes_eq-Decides}
use Rattle.clap.specs.Lexer.{long_of, short_of}
use Rattle.clap.specs.Walk.{Held, Names, Outcome, Row, Rule, Step, Text, Waiting, Walk, after_flag, after_step, answers_to, arg_by_index, arg_by_long, bundle, done, idle, long_met, long_or_other, next, nothing_held, option, plain, plain_word, positional, refused, rows_after, short_or_plain, subcommand, subcommand_met, subcommand_or_other, to_positional, trailing, value, waits, walk, walk_from, walked, walked_from, word_met}
use Rattle.clap.specs.Simple.{App, Shape, entered, label_of, names_of, rows_at}
use Rattle.clap.specs.Kinds.{or_else}
use Rattle.clap.specs.Faults.{built_fault, entered_fault, level_fault, other_fault, step_fault, turn_fault, walk_fault, word_fault}
use Rattle.clap.specs.declared.error.kind.ErrorKind.TheVariants as kind
use Rattle.bpfjobs_cli.proofs.RowLemmas.{Each, On, level_checks, no_kinds, none_of}

-- the name is not that of clap's own subcommand
abbrev pub IsOwn : Text → Type 0
IsOwn name = bytes_eq name (codes "help") ≡ false

abbrev IsOwnStep : Step → Type 0
IsOwnStep (next waiting) = Unit {0}
IsOwnStep (trailing position) = Unit {0}
IsOwnStep (subcommand name) = IsOwn name
IsOwnStep value = Unit {0}

abbrev IsOwnStop : Option (Text × List Text) → Type 0
IsOwnStop = On (λ p. IsOwn p.0)

-- a flag or a plain word is no subcommand
plain_step : (c : List Rule) (waiting : Waiting) (word : Text) (h : Held) → IsOwnStep (plain_word c waiting word h).1
plain_step c (option id) word h = tt
plain_step c idle word h = tt
plain_step c positional word h = tt

flag_step : (c : List Rule) (waiting : Waiting) (word : Text) (h : Held) (o : Outcome) → IsOwnStep (after_flag c waiting word h o).1
flag_step c waiting word h done = tt
flag_step c waiting word h (waits id) = tt
flag_step c waiting word h plain = plain_step c waiting word h
flag_step c waiting word h refused = plain_step c waiting word h

short_step : (c : List Rule) (waiting : Waiting) (word : Text) (o : Option Text) (h : Held) → IsOwnStep (short_or_plain c waiting word o h).1
short_step c waiting word None h = plain_step c waiting word h
short_step c waiting word (Some flags) h = flag_step c waiting word (bundle c flags h).0 (bundle c flags h).1

long_step : (c : List Rule) (waiting : Waiting) (word : Text) (o : Option (Text × Option Text)) (h : Held) → IsOwnStep (long_or_other c waiting word o h).1
long_step c waiting word None h = short_step c waiting word (short_of word) h
long_step c waiting word (Some p) h = flag_step c waiting word (long_met c (arg_by_long c p.0) p.1 h).0 (long_met c (arg_by_long c p.0) p.1 h).1

not_help : (is_help : Bool) (off : Bool) → off ≡ false → cond (is_help && not off) (kind.DisplayHelp ∷ kind.InvalidSubcommand ∷ []) [] ≡ [] → is_help ≡ false
not_help true true enabled e = absurd (true≢false enabled)
not_help true false enabled e = absurd cc
not_help false off enabled e = refl

module _ (s : Shape) (names : Names) (enabled : s.disable_help_subcommand ≡ false) where
  other_step : (o : Option Text) (waiting : Waiting) (position : ℕ) (word : Text) (h : Held) → other_fault s o word h ≡ []
      → IsOwnStep (subcommand_or_other s.rules o waiting position word h).1
  other_step (Some name) waiting position word h none = not_help (bytes_eq name (codes "help")) s.disable_help_subcommand enabled none
  other_step None waiting position word h none = go (bytes_eq word (45 ∷ 45 ∷ []))
    where
      go : (b : Bool) → IsOwnStep (cond b (h, trailing position) (long_or_other s.rules waiting word (long_of word) h)).1
      go true = tt
      go false = long_step s.rules waiting word (long_of word) h

  word_step : (is_trailing : Bool) (waiting : Waiting) (position : ℕ) (word : Text) (h : Held) → word_fault s names is_trailing waiting word h ≡ []
      → IsOwnStep (word_met s.rules names is_trailing waiting position word h).1
  word_step true waiting position word h none = tt
  word_step false waiting position word h none = other_step (subcommand_met names waiting word) waiting position word h none

  to_stop : (o : Option Rule) (word : Text) (w : Walk) (h : Held) → IsOwnStop w.stopped → IsOwnStop (to_positional s.rules o word w h).stopped
  to_stop None word w h own = own
  to_stop (Some x) word w h own = tt

  step_stop : (step : Step) (word : Text) (w : Walk) (h : Held) → IsOwnStep step → IsOwnStop w.stopped → IsOwnStop (after_step s.rules word w h step).stopped
  step_stop (next waiting) word w h fine own = own
  step_stop (trailing position) word w h fine own = own
  step_stop (subcommand name) word w h fine own = fine
  step_stop value word w h fine own = to_stop (arg_by_index s.rules w.position) word w h own

  from_stop : (o : Option (Text × List Text)) (w : Walk) (word : Text)
      → cond (is_some o) [] (or_else (word_fault s names w.is_trailing w.waiting word w.held)
      (step_fault s w.position (word_met s.rules names w.is_trailing w.waiting w.position word w.held).0 (word_met s.rules names w.is_trailing w.waiting w.position word w.held).1)) ≡ []
      → IsOwnStop o → IsOwnStop w.stopped → IsOwnStop (walked_from s.rules names o w word).stopped
  from_stop (Some p) w word none at own = at
  from_stop None w word none at own =
      let met = word_met s.rules names w.is_trailing w.waiting w.position word w.held in
      let parts = none_of (word_fault s names w.is_trailing w.waiting word w.held) (step_fault s w.position met.0 met.1) none in
      step_stop met.1 word w met.0 (word_step w.is_trailing w.waiting w.position word w.held parts.0) own

  turn_stop : (w : Walk) (word : Text) → turn_fault s names w word ≡ [] → IsOwnStop w.stopped → IsOwnStop (walked s.rules names w word).stopped
  unfolding walked
  turn_stop w word none own = from_stop w.stopped w word none own own

  walk_stop : (w : Walk) (words : List Text) → walk_fault s names w words ≡ [] → IsOwnStop w.stopped → IsOwnStop (fold (walked s.rules names) w words).stopped
  unfolding walk_fault
  walk_stop w [] none own = own
  walk_stop w (word ∷ rest) none own =
      let parts = none_of (turn_fault s names w word) (walk_fault s names (walked s.rules names w word) rest) none in
      walk_stop (walked s.rules names w word) rest parts.1 (turn_stop w word parts.0 own)

-- ---- the subcommand that is entered

-- what is found passes the test
found_passes : {X : Type 0} (Q : X → Type 0) (p : X → Bool) (xs : List X) → Each (λ x. p x ≡ true → Q x) xs → On Q (find p xs)
found_passes Q p [] h = tt
found_passes Q p (x ∷ xs) h = go (p x) refl (found_passes Q p xs h.1)
  where
    go : (b : Bool) → p x ≡ b → On Q (find p xs) → On Q (cond b (Some x) (find p xs))
    go true e rest = h.0 e
    go false e rest = rest

-- each line of the subcommand that doesn't fail has R, where the subcommand is no `help`
abbrev pub Gives : (Text → List Row → Type 0) → Shape → Type 0
Gives R s = (words : List Text) → IsOwn s.name → level_fault s [] nothing_held words false [] ≡ [] → R s.name (rows_after s.rules [] words)

-- the subcommand goes by its name alone
abbrev pub HasNoAlias : Shape → Type 0
HasNoAlias s = s.aliases ≡ []

alone : (name word : Text) (aliases : List Text) → aliases ≡ [] → answers_to word (name, aliases) ≡ true → IsOwn word → IsOwn name
alone name word aliases none answers own =
    let same : bytes_eq name word ≡ true = go (bytes_eq name word) (rw none at answers) in
    subst IsOwn (sym ((bytes_eq-Decides name word).0 same)) own
  where
    go : (b : Bool) → (b || false) ≡ true → b ≡ true
    go true e = refl
    go false e = e

module _ (R : Text → List Row → Type 0) where
  each_answers : (word : Text) (words : List Text) (subs : List Shape) → IsOwn word → Each HasNoAlias subs → Each (Gives R) subs
      → Each (λ s. answers_to word (label_of s) ≡ true → level_fault s [] nothing_held words false [] ≡ [] → R s.name (rows_after s.rules [] words)) subs
  each_answers word words [] own aliases gives = tt
  each_answers word words (s ∷ rest) own aliases gives =
      ((λ answers none. gives.0 words (alone s.name word s.aliases aliases.0 answers own) none), each_answers word words rest own aliases.1 gives.1)

  -- a subcommand that is there and whose level doesn't fail
  entered_gives : (a : App) (stop : Option (Text × List Text)) → IsOwnStop stop → Each HasNoAlias a.subs → Each (Gives R) a.subs
      → entered_fault a stop ≡ [] → is_some (entered a stop) ≡ true → On (λ p. R p.0 p.1) (entered a stop)
  entered_gives a None own aliases gives none there = tt
  entered_gives a (Some p) own aliases gives none there =
      go (find (λ s. answers_to p.0 (label_of s)) a.subs)
      (found_passes (λ s. level_fault s [] nothing_held p.1 false [] ≡ [] → R s.name (rows_after s.rules [] p.1)) (λ s. answers_to p.0 (label_of s)) a.subs
      (each_answers p.0 p.1 a.subs own aliases gives)) none
    where
      go : (o : Option Shape) → On (λ s. level_fault s [] nothing_held p.1 false [] ≡ [] → R s.name (rows_after s.rules [] p.1)) o
          → option_map_or (λ s. level_fault s [] nothing_held p.1 false []) o [] ≡ [] → On (λ q. R q.0 q.1) (option_map (λ s. rows_at s p.1) o)
      go None h e = tt
      go (Some s) h e = h e

  -- a line of a program that requires a subcommand, where clap takes it
  pub subcommand_gives : (a : App) (words : List Text) → a.top.disable_help_subcommand ≡ false → a.top.subcommand_required ≡ true → Each HasNoAlias a.subs → Each (Gives R) a.subs
      → built_fault a nothing_held words ≡ []
      → (is_some (entered a (walk a.top.rules (names_of a) nothing_held words).stopped) ≡ true) × On (λ p. R p.0 p.1) (entered a (walk a.top.rules (names_of a) nothing_held words).stopped)
  subcommand_gives a words enabled required aliases gives none =
      let stop = (walk a.top.rules (names_of a) nothing_held words).stopped in
      let has = is_some (entered a stop) in
      let walked_well = none_of (walk_fault a.top (names_of a) (walk_from nothing_held) words) _ none in
      let entered_well = none_of (entered_fault a stop) _ walked_well.1 in
      let wants = (no_kinds _ _ _ (level_checks a.top (names_of a) words has (entered_fault a stop) none)).0 in
      let there : has ≡ true = wanted has a.top.subcommand_required required wants in
      (there, entered_gives a stop (walk_stop a.top (names_of a) enabled (walk_from nothing_held) words walked_well.0 tt) aliases gives entered_well.0 there)
    where
      wanted : (has required : Bool) → required ≡ true → (not has && required) ≡ false → has ≡ true
      wanted true required is e = refl
      wanted false required is e = absurd (true≢false (sym is ∙ e))
