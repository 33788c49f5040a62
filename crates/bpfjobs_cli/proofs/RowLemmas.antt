-- What the rows of a line have that clap takes: the values of an argument have passed its parser.
use Rattle.std.proofs.Common.{◌≡◌, ◌∙◌, ◌<◌, ◌≤◌, ◌+◌, ◌&&◌, ◌||◌, ◌⊎◌, ℕ, Bool, cond, true, false, not, zero, suc, refl, sym, ap, subst, arith, List, [], ◌∷◌, ◌++◌, length, drop, min, nat_lt, Option, Some, None, inl, inr, is_some, true≢false, ne_eqb, lt-ltb, option_map}
use Rattle.std.specs.Prelude.{encode_utf8, slice_get, option_and_then}
use Rattle.std.specs.List.{find, fold, list_all, list_any}
use Rattle.std.specs.Option.{option_map_or}
use Rattle.std.specs.Str.{bytes_eq, chars}
use Rattle.std.proofs.lemmas.List.{length-append}
use Rattle.std.proofs.lemmas.List.Folds.{list_all-append}
use Rattle.std.proofs.lemmas.Slice.Eq.{bytes_eq-Decides}
use Rattle.clap.specs.Lexer.{long_of, short_of}
use Rattle.clap.specs.Facts.{explicit_source, parser_of_value, unwrap_or_range}
use Rattle.clap.specs.Matches.{count_text}
use Rattle.clap.specs.Values.{read_as}
use Rattle.clap.specs.ValueTests.{accepts}
use Rattle.clap.specs.Walk.{Held, Names, Outcome, Row, Rule, Step, Text, Waiting, Walk, action_of, after_flag, after_step, arg_by_id, arg_by_index, arg_by_long, arg_by_short, at_row, attached_value, count_of, more_values, new_count, bundle_met, bundle_step, default_rows, done, flag_met, has_row, idle, is_empty, is_pending, positional_held, pushed, takes_several, long_met, long_or_other, most_values, next, nothing_held, option, option_met, option_word, bundle, plain, plain_word, positional, reacted, reading_by, refused, one_of, first_of, row_text, rows_after, settled, settled_rows, short_met, short_or_plain, subcommand, subcommand_met, subcommand_or_other, takes_values, to_positional, trailing, used, used_as, used_by_id, value, values_or_missing, waits, walk, walk_from, walked, walked_from, with_count, with_default, with_values, without, word_met}
use Rattle.clap.specs.Simple.{Shape}
use Rattle.clap.specs.Takes.{is_given, value_passes, values_pass}
use Rattle.clap.specs.Kinds.{Kinds, check_kinds, request_kinds, or_else, range_kinds, value_kinds, values_kinds}
use Rattle.clap.specs.Faults.{action_fault, repeat_fault, stray_fault, bundle_fault, bundle_step_fault, check_fault, default_fault, defaults_fault, flag_word_fault, flags_fault, given_default_fault, level_fault, long_fault, option_fault, other_fault, positional_fault, react_fault, settle_fault, short_fault, step_fault, turn_fault, use_fault, values_fault, walk_fault, word_fault}
use Rattle.clap.specs.declared.builder.action.ArgAction.{ArgAction}
use Rattle.clap.specs.declared.builder.action.ArgAction.TheVariants as action
use Rattle.clap.specs.declared.builder.value_parser.Reading.{Reading}
use Rattle.clap.specs.declared.builder.value_parser.ValueParser.{ValueParser}
use Rattle.clap.specs.declared.parser.matches.ValueSource.{ValueSource}
use Rattle.clap.specs.declared.parser.matches.ValueSource.TheVariants.{CommandLine, DefaultValue}
use Rattle.clap.specs.declared.error.kind.ErrorKind.{ErrorKind}
use Rattle.clap.specs.declared.error.kind.ErrorKind.TheVariants as kind

-- each element has Q
abbrev pub Each : {X : Type 0} → (X → Type 0) → List X → Type 0
Each Q [] = Unit {0}
Each Q (x ∷ xs) = Q x × Each Q xs

-- what is there has Q
abbrev pub On : {X : Type 0} → (X → Type 0) → Option X → Type 0
On Q None = Unit {0}
On Q (Some x) = Q x

pub find_on : {X : Type 0} (Q : X → Type 0) (p : X → Bool) (xs : List X) → Each Q xs → On Q (find p xs)
find_on Q p [] h = tt
find_on Q p (x ∷ xs) h = go (p x) (find_on Q p xs h.1)
  where
    go : (b : Bool) → On Q (find p xs) → On Q (cond b (Some x) (find p xs))
    go true rest = h.0
    go false rest = rest

pub both : (a b : Bool) → (a && b) ≡ true → (a ≡ true) × (b ≡ true)
both true b e = (refl, e)
both false b e = absurd (true≢false (sym e))

neither : (a b : Bool) → (a || b) ≡ false → (a ≡ false) × (b ≡ false)
neither true b e = absurd (true≢false e)
neither false b e = (refl, e)

none_left : (k : ErrorKind) (ks : Kinds) → k ∷ ks ≡ [] → ⊥
none_left k ks e = cc

-- where neither step fails, none does
pub none_of : (a b : Kinds) → or_else a b ≡ [] → (a ≡ []) × (b ≡ [])
none_of [] b e = (refl, e)
none_of (k ∷ ks) b e = absurd (none_left k ks e)

pub passes_from : (i : Bool) (p : ValueParser) (vs : List Text) → values_kinds i p vs ≡ [] →
    list_all (accepts i p) vs ≡ true
passes_from i p [] e = refl
passes_from i p (v ∷ vs) e =
    let parts = none_of (value_kinds i p v) (values_kinds i p vs) e in
    go (accepts i p v) refl parts.0 (passes_from i p vs parts.1)
  where
    go : (b : Bool) → accepts i p v ≡ b → value_kinds i p v ≡ [] → list_all (accepts i p) vs ≡ true →
        list_all (accepts i p) (v ∷ vs) ≡ true
    go true t h rest = rw t rest
    go false t h rest = absurd (none_left _ _ (rw t at h))

-- an argument with a value or a default, of which no other has the id
module _ (a : Rule) where
  -- the row has values, which passed the argument's parser
  abbrev pub IsRow : Row → Type 0
  IsRow r = (r.reading ≡ reading_by a) × (values_pass a r.values ≡ true) × (0 < length r.values)

  abbrev pub FitsRow : Row → Type 0
  FitsRow r = bytes_eq r.id a.id ≡ true → IsRow r

  -- each row of the argument's id is such a one
  abbrev pub Fit : List Row → Type 0
  Fit = Each FitsRow

  -- the rule is the argument's, or has another id
  abbrev pub IsOnly : Rule → Type 0
  IsOnly x = bytes_eq x.id a.id ≡ true → x ≡ a

  append_fits : (xs ys : List Row) → Fit xs → Fit ys → Fit (xs ++ ys)
  append_fits [] ys f g = g
  append_fits (x ∷ xs) ys f g = (f.0, append_fits xs ys f.1 g)

  at_fits : (id : Text) (change : Row → List Row) (missing rows : List Row) → Fit rows →
      ((r : Row) → bytes_eq r.id id ≡ true → FitsRow r → Fit (change r)) → Fit missing
      → Fit (at_row id change missing rows)
  at_fits id change missing [] f g m = m
  at_fits id change missing (r ∷ rs) f g m = go (bytes_eq r.id id) refl (at_fits id change missing rs f.1 g m)
    where
      go : (b : Bool) → bytes_eq r.id id ≡ b → Fit (at_row id change missing rs) →
          Fit (cond b (change r ++ rs) (r ∷ at_row id change missing rs))
      go true e rest = append_fits (change r) rs (g r e f.0) f.1
      go false e rest = (f.0, rest)

  same_id : (r : Row) (id : Text) → bytes_eq r.id id ≡ true → bytes_eq r.id a.id ≡ true → bytes_eq id a.id ≡ true
  same_id r id e here = subst (λ (t : Text). bytes_eq t a.id ≡ true) ((bytes_eq-Decides r.id id).0 e) here

  without_fits : (id : Text) (rows : List Row) → Fit rows → Fit (without id rows)
  without_fits id rows f = at_fits id (λ _. []) [] rows f (λ r e h. tt) tt

  more_pass : (xs ys : List Text) → values_pass a xs ≡ true → values_pass a ys ≡ true → values_pass a (xs ++ ys) ≡ true
  more_pass xs ys f g = list_all-append (value_passes a) xs ys ∙ rw (f, g) refl

  more_there : (xs ys : List Text) → 0 < length xs → 0 < length (xs ++ ys)
  more_there xs ys f = omega (arith, length-append xs ys)

  values_fit : (id : Text) (how : Reading) (s : ValueSource) (values : List Text) (rows : List Row) → Fit rows
      → (bytes_eq id a.id ≡ true → (how ≡ reading_by a) × (values_pass a values ≡ true) × (0 < length values)) →
      Fit (with_values id how s values rows)
  values_fit id how s values rows f g =
      let more : (r : Row) → bytes_eq r.id id ≡ true → FitsRow r → Fit (more_values s values r) = λ r e h. (
        λ here.
            let old = h here in
            let new = g (same_id r id e here) in
            (old.0, more_pass r.values values old.1 new.1, more_there r.values values old.2),
        tt,
      ) in
      at_fits id (more_values s values) (record {
        id = id;
        values = values;
        count = None;
        source = Some s;
        reading = how;
      } ∷ []) rows f more (g, tt)

  count_fits : (id : Text) (how : Reading) (s : ValueSource) (n : ℕ) (rows : List Row) → Fit rows →
      (bytes_eq id a.id ≡ true → ⊥) → Fit (with_count id how s n rows)
  count_fits id how s n rows f other =
      let more : (r : Row) → bytes_eq r.id id ≡ true → FitsRow r → Fit (new_count s n r) =
      λ r e h. (λ here. absurd (other (same_id r id e here)), tt) in
      at_fits id (new_count s n) (record {
        id = id;
        values = count_text n ∷ [];
        count = Some n;
        source = Some s;
        reading = how;
      } ∷ []) rows f more (λ here. absurd (other here), tt)

  -- ---- one use of an argument

  other_as : (x : ArgAction) (id : Text) (how : Reading) (values : List Text) (rows : List Row) →
      (bytes_eq id a.id ≡ true → ⊥) → Fit rows → Fit (used_as x id how values rows)
  other_as action.Set id how values rows other f =
      values_fit id how CommandLine values (without id rows) (without_fits id rows f) (λ here. absurd (other here))
  other_as action.SetTrue id how values rows other f =
      values_fit id how CommandLine values (without id rows) (without_fits id rows f) (λ here. absurd (other here))
  other_as action.SetFalse id how values rows other f =
      values_fit id how CommandLine values (without id rows) (without_fits id rows f) (λ here. absurd (other here))
  other_as action.Append id how values rows other f =
      values_fit id how CommandLine values rows f (λ here. absurd (other here))
  other_as action.Count id how [] rows other f =
      count_fits id how CommandLine (min (count_of id rows + 1) 255) (without id rows) (without_fits id rows f) other
  other_as action.Count id how (v ∷ vs) rows other f =
      values_fit id how CommandLine (v ∷ vs) (without id rows) (without_fits id rows f) (λ here. absurd (other here))
  other_as action.Help id how values rows other f = f
  other_as action.HelpShort id how values rows other f = f
  other_as action.HelpLong id how values rows other f = f
  other_as action.Version id how values rows other f = f

  set_as : (x : ArgAction) (again : Bool) (values : List Text) (rows : List Row) → x ≡ action.Set →
      action_fault x again a values rows ≡ [] → 0 < length values → Fit rows
      → Fit (used_as x a.id (reading_by a) values rows)
  set_as action.Set again values rows is none there f =
      let passed = passes_from a.ignore_case (parser_of_value a.parser) values
      (none_of (repeat_fault again a.id rows) (values_fault a values) none).1 in
      values_fit a.id (reading_by a) CommandLine values (without a.id rows) (without_fits a.id rows f)
      (λ here. (refl, passed, there))
  set_as action.SetTrue again values rows is none there f = absurd cc
  set_as action.SetFalse again values rows is none there f = absurd cc
  set_as action.Append again values rows is none there f = absurd cc
  set_as action.Count again values rows is none there f = absurd cc
  set_as action.Help again values rows is none there f = absurd cc
  set_as action.HelpShort again values rows is none there f = absurd cc
  set_as action.HelpLong again values rows is none there f = absurd cc
  set_as action.Version again values rows is none there f = absurd cc

  -- a use of an argument that wants a value has one
  wanted : (least most : ℕ) (rest : Kinds) → 1 ≤ least → or_else (range_kinds least most 0) rest ≡ [] → ⊥
  wanted least most rest some none =
      let there : nat_lt 0 least ≡ true = lt-ltb 0 least (omega arith) in
      none_left _ _ (rw there at none)

  module _ (sets : action_of a ≡ action.Set) (wants : 1 ≤ (unwrap_or_range a.range).start_inclusive) where
    own_fits : (again : Bool) (values : List Text) (rows : List Row) → use_fault again a values rows ≡ [] → Fit rows →
        Fit (used a values rows)
    own_fits again [] rows none f = absurd (wanted _ _ _ wants none)
    own_fits again (v ∷ vs) rows none f =
        let n : ℕ = length (v ∷ vs) in
        let parts = none_of (range_kinds (unwrap_or_range a.range).start_inclusive (most_values a) n)
        (action_fault (action_of a) again a (v ∷ vs) rows) none in
        set_as (action_of a) again (v ∷ vs) rows sets parts.1 (omega arith) f

    used_fits : (again : Bool) (x : Rule) (values : List Text) (rows : List Row) → IsOnly x →
        use_fault again x values rows ≡ [] → Fit rows → Fit (used x values rows)
    used_fits again x values rows only none f = go (bytes_eq x.id a.id) refl
      where
        go : (b : Bool) → bytes_eq x.id a.id ≡ b → Fit (used x values rows)
        go true e = subst (λ (y : Rule). use_fault again y values rows ≡ [] → Fit (used y values rows)) (sym (only e))
            (λ h. own_fits again values rows h f) none
        go false e = other_as (action_of x) x.id (reading_by x) (values_or_missing x values) rows
            (λ here. true≢false (sym here ∙ e)) f

    abbrev Only : List Rule → Type 0
    Only = Each IsOnly

    -- ---- the walk

    used_by : (again : Bool) (o : Option Rule) (values : List Text) (rows : List Row) → On IsOnly o →
        option_map_or (λ x. use_fault again x values rows) o [] ≡ [] → Fit rows
        → Fit (used_by_id o values rows)
    used_by again None values rows only none f = f
    used_by again (Some x) values rows only none f = used_fits again x values rows only none f

    settled_by : (c : List Rule) (again : Bool) (p : Option (Text × List Text)) (rows : List Row) → Only c
        → option_map_or (λ q. option_map_or (λ x. use_fault again x q.1 rows) (arg_by_id c q.0) []) p [] ≡ [] →
        Fit rows → Fit (settled_rows c p rows)
    settled_by c again None rows only none f = f
    settled_by c again (Some p) rows only none f =
        used_by again (arg_by_id c p.0) p.1 rows (find_on IsOnly (λ x. bytes_eq x.id p.0) c only) none f

    pub settled_fits : (c : List Rule) (again : Bool) (h : Held) → Only c → settle_fault c again h ≡ [] → Fit h.rows →
        Fit (settled c h).rows
    settled_fits c again h only none f = settled_by c again h.pending h.rows only none f

    module _ (c : List Rule) (again : Bool) (only : Only c) where
      reacted_fits : (x : Rule) (values : List Text) (h : Held) → IsOnly x → react_fault c again x values h ≡ [] →
          Fit h.rows → Fit (reacted c x values h).rows
      reacted_fits x values h own none f =
          let parts = none_of (settle_fault c again h) (use_fault again x values (settled c h).rows) none in
          used_fits again x values (settled c h).rows own parts.1 (settled_fits c again h only parts.0 f)

      option_fits : (x : Rule) (v : Option Text) (h : Held) → IsOnly x → option_fault c again x v h ≡ [] → Fit h.rows →
          Fit (option_met c x v h).0.rows
      option_fits x None h own none f = settled_fits c again h only none f
      option_fits x (Some v) h own none f = reacted_fits x (v ∷ []) h own none f

      flag_fits : (x : Rule) (v : Option Text) (h : Held) → IsOnly x →
          cond (is_some v) (kind.TooManyValues ∷ []) (react_fault c again x [] h) ≡ [] → Fit h.rows
          → Fit (flag_met c x v h).0.rows
      flag_fits x None h own none f = reacted_fits x [] h own none f
      flag_fits x (Some v) h own none f = f

      long_fits : (o : Option Rule) (v : Option Text) (h : Held) → On IsOnly o → long_fault c again o v h ≡ [] →
          Fit h.rows → Fit (long_met c o v h).0.rows
      long_fits None v h own none f = f
      long_fits (Some x) v h own none f = go (takes_values x) none
        where
          go : (b : Bool) →
              cond b (option_fault c again x v h)
              (cond (is_some v) (kind.TooManyValues ∷ []) (react_fault c again x [] h)) ≡ []
              → Fit (cond b (option_met c x v h) (flag_met c x v h)).0.rows
          go true e = option_fits x v h own e f
          go false e = flag_fits x v h own e f

      short_fits : (o : Option Rule) (rest : Text) (h : Held) (after : Held → Held × Outcome) (faults : Held → Kinds) →
          On IsOnly o
          → ((g : Held) → faults g ≡ [] → Fit g.rows → Fit (after g).0.rows) →
          short_fault c again o rest h faults ≡ [] → Fit h.rows → Fit (short_met c o rest h after).0.rows
      short_fits None rest h after faults own rec none f = f
      short_fits (Some x) rest h after faults own rec none f = go (takes_values x) none
        where
          go : (b : Bool) →
              cond b (option_fault c again x (attached_value rest) h)
              (or_else (react_fault c again x [] h) (faults (reacted c x [] h))) ≡ []
              → Fit (cond b (option_met c x (attached_value rest) h) (after (reacted c x [] h))).0.rows
          go true e = option_fits x (attached_value rest) h own e f
          go false e =
              let parts = none_of (react_fault c again x [] h) (faults (reacted c x [] h)) e in
              rec (reacted c x [] h) parts.1 (reacted_fits x [] h own parts.0 f)

      by_short : (x : ℕ) → On IsOnly (arg_by_short c x)
      by_short x = find_on IsOnly _ c only

      bundle_fit : (o : Option ℕ) (flags : Text) (skip : ℕ) (so_far : Outcome) (h : Held)
          (after : Text → ℕ → Outcome → Held → Held × Outcome) (faults : Text → ℕ → Held → Kinds)
          → ((t : Text) (s : ℕ) (u : Outcome) (g : Held) → faults t s g ≡ [] → Fit g.rows → Fit (after t s u g).0.rows)
          → bundle_step_fault c again o flags skip h faults ≡ [] → Fit h.rows →
          Fit (bundle_step c o flags skip so_far h after).0.rows
      bundle_fit None flags skip so_far h after faults rec none f = f
      bundle_fit (Some x) flags zero so_far h after faults rec none f =
          let rest = drop (length (encode_utf8 x)) flags in
          short_fits (arg_by_short c x) rest h (after rest 0 done) (faults rest 0) (by_short x) (λ g e k. rec rest 0 done g e k) none f
      bundle_fit (Some x) flags (suc skip) so_far h after faults rec none f =
          rec (drop (length (encode_utf8 x)) flags) skip so_far h none f

      bundles_fit : (k : ℕ) (flags : Text) (skip : ℕ) (so_far : Outcome) (h : Held) →
          flags_fault c again k flags skip h ≡ [] → Fit h.rows → Fit (bundle_met c k flags skip so_far h).0.rows
      unfolding flags_fault bundle_met
      bundles_fit zero flags skip so_far h none f = f
      bundles_fit (suc k) flags skip so_far h none f =
          bundle_fit (slice_get (chars flags) 0) flags skip so_far h (bundle_met c k) (flags_fault c again k)
          (λ t s u g e r. bundles_fit k t s u g e r) none f

      plain_fits : (waiting : Waiting) (word : Text) (h : Held) → Fit h.rows → Fit (plain_word c waiting word h).0.rows
      plain_fits (option id) word h f = go (arg_by_id c id)
        where
          go : (o : Option Rule) → Fit (option_word o id word h).0.rows
          go None = f
          go (Some x) = f
      plain_fits idle word h f = f
      plain_fits positional word h f = f

      after_fits : (waiting : Waiting) (word : Text) (h : Held) (o : Outcome) → Fit h.rows →
          Fit (after_flag c waiting word h o).0.rows
      after_fits waiting word h done f = f
      after_fits waiting word h (waits id) f = f
      after_fits waiting word h plain f = plain_fits waiting word h f
      after_fits waiting word h refused f = plain_fits waiting word h f

      short_word_fits : (waiting : Waiting) (word : Text) (o : Option Text) (h : Held) →
          option_map_or (λ flags. bundle_fault c again flags h) o [] ≡ [] → Fit h.rows
          → Fit (short_or_plain c waiting word o h).0.rows
      short_word_fits waiting word None h none f = plain_fits waiting word h f
      short_word_fits waiting word (Some flags) h none f =
          let met = bundle c flags h in
          after_fits waiting word met.0 met.1
          (bundles_fit (length flags) flags h.skip plain (record h { skip = 0 }) none f)

      flag_word_fits : (waiting : Waiting) (word : Text) (o : Option (Text × Option Text)) (h : Held) →
          flag_word_fault c again o word h ≡ [] → Fit h.rows
          → Fit (long_or_other c waiting word o h).0.rows
      flag_word_fits waiting word None h none f = short_word_fits waiting word (short_of word) h none f
      flag_word_fits waiting word (Some p) h none f =
          let met = long_met c (arg_by_long c p.0) p.1 h in
          after_fits waiting word met.0 met.1 (long_fits (arg_by_long c p.0) p.1 h (find_on IsOnly _ c only) none f)

    module _ (s : Shape) (names : Names) (only : Only s.rules) where
      other_fits : (o : Option Text) (waiting : Waiting) (position : ℕ) (word : Text) (h : Held) →
          other_fault s o word h ≡ [] → Fit h.rows
          → Fit (subcommand_or_other s.rules o waiting position word h).0.rows
      other_fits (Some name) waiting position word h none f = f
      other_fits None waiting position word h none f = go (bytes_eq word (45 ∷ 45 ∷ [])) none
        where
          go : (b : Bool) → cond b [] (flag_word_fault s.rules s.args_override_self (long_of word) word h) ≡ []
              → Fit (cond b (h, trailing position) (long_or_other s.rules waiting word (long_of word) h)).0.rows
          go true e = f
          go false e = flag_word_fits s.rules s.args_override_self only waiting word (long_of word) h e f

      word_fits : (is_trailing : Bool) (waiting : Waiting) (position : ℕ) (word : Text) (h : Held) →
          word_fault s names is_trailing waiting word h ≡ [] → Fit h.rows
          → Fit (word_met s.rules names is_trailing waiting position word h).0.rows
      word_fits true waiting position word h none f = f
      word_fits false waiting position word h none f =
          other_fits (subcommand_met names waiting word) waiting position word h none f

      positional_fits : (x : Rule) (word : Text) (h : Held) → positional_fault s.rules s.args_override_self x h ≡ [] →
          Fit h.rows → Fit (positional_held s.rules x word h).rows
      positional_fits x word h none f = go (is_pending x h.pending && takes_several x) none
        where
          go : (b : Bool) → cond b [] (settle_fault s.rules s.args_override_self h) ≡ [] →
              Fit (pushed x.id word (cond b h (settled s.rules h))).rows
          go true e = f
          go false e = settled_fits s.rules s.args_override_self h only e f

      to_fits : (o : Option Rule) (word : Text) (w : Walk) (h : Held) →
          option_map_or (λ x. positional_fault s.rules s.args_override_self x h) o (stray_fault s) ≡ [] → Fit h.rows
          → Fit (to_positional s.rules o word w h).held.rows
      to_fits None word w h none f = f
      to_fits (Some x) word w h none f = positional_fits x word h none f

      step_fits : (step : Step) (word : Text) (w : Walk) (h : Held) → step_fault s w.position h step ≡ [] → Fit h.rows →
          Fit (after_step s.rules word w h step).held.rows
      step_fits (next waiting) word w h none f = f
      step_fits (trailing position) word w h none f = f
      step_fits (subcommand name) word w h none f = f
      step_fits value word w h none f = to_fits (arg_by_index s.rules w.position) word w h none f

      stop_fits : (o : Option (Text × List Text)) (w : Walk) (word : Text)
          → cond (is_some o) [] (or_else (word_fault s names w.is_trailing w.waiting word w.held)
          (step_fault s w.position (word_met s.rules names w.is_trailing w.waiting w.position word w.held).0
          (word_met s.rules names w.is_trailing w.waiting w.position word w.held).1)) ≡ []
          → Fit w.held.rows → Fit (walked_from s.rules names o w word).held.rows
      stop_fits (Some p) w word none f = f
      stop_fits None w word none f =
          let met = word_met s.rules names w.is_trailing w.waiting w.position word w.held in
          let parts = none_of (word_fault s names w.is_trailing w.waiting word w.held)
          (step_fault s w.position met.0 met.1) none in
          step_fits met.1 word w met.0 parts.1 (word_fits w.is_trailing w.waiting w.position word w.held parts.0 f)

      turn_fits : (w : Walk) (word : Text) → turn_fault s names w word ≡ [] → Fit w.held.rows →
          Fit (walked s.rules names w word).held.rows
      unfolding walked
      turn_fits w word none f = stop_fits w.stopped w word none f

      walk_fits : (w : Walk) (words : List Text) → walk_fault s names w words ≡ [] → Fit w.held.rows →
          Fit (fold (walked s.rules names) w words).held.rows
      unfolding walk_fault
      walk_fits w [] none f = f
      walk_fits w (word ∷ rest) none f =
          let parts = none_of (turn_fault s names w word)
          (walk_fault s names (walked s.rules names w word) rest) none in
          walk_fits (walked s.rules names w word) rest parts.1 (turn_fits w word parts.0 f)

    -- ---- after the walk

    given_fits : (x : Rule) (values : List Text) (rows : List Row) → IsOnly x →
        cond (is_empty values) [] (given_default_fault x values) ≡ [] → Fit rows
        → Fit (default_rows x.id (reading_by x) values rows)
    given_fits x [] rows own none f = f
    given_fits x (v ∷ vs) rows own none f =
        let some : is_empty (v ∷ vs) ≡ false = ne_eqb _ _ (λ e. omega (arith, e)) in
        let fault : given_default_fault x (v ∷ vs) ≡ [] = rw some at none in
        let passed = passes_from x.ignore_case (parser_of_value x.parser) (v ∷ vs)
        (none_of (request_kinds (action_of x)) (values_fault x (v ∷ vs)) fault).1 in
        values_fit x.id (reading_by x) DefaultValue (v ∷ vs) rows f
        (λ here. (
          ap reading_by (own here),
          subst (λ (y : Rule). values_pass y (v ∷ vs) ≡ true) (own here) passed,
          omega arith,
        ))

    default_fits : (rows : List Row) (x : Rule) → IsOnly x → default_fault rows x ≡ [] → Fit rows →
        Fit (with_default rows x)
    default_fits rows x own none f = go (has_row x.id rows) none
      where
        go : (b : Bool) → cond (b || is_empty x.defaults) [] (given_default_fault x x.defaults) ≡ [] →
            Fit (cond b rows (default_rows x.id (reading_by x) x.defaults rows))
        go true e = f
        go false e = given_fits x x.defaults rows own e f

    defaults_fit : (rows : List Row) (c : List Rule) → Only c → defaults_fault rows c ≡ [] → Fit rows →
        Fit (fold with_default rows c)
    unfolding defaults_fault
    defaults_fit rows [] only none f = f
    defaults_fit rows (x ∷ xs) only none f =
        let parts = none_of (default_fault rows x) (defaults_fault (with_default rows x) xs) none in
        defaults_fit (with_default rows x) xs only.1 parts.1 (default_fits rows x only.0 parts.0 f)

    -- the rows of a level that doesn't fail
    pub level_fits : (s : Shape) (names : Names) (words : List Text) (has : Bool) (below : Kinds) → Only s.rules →
        level_fault s names nothing_held words has below ≡ []
        → Fit (rows_after s.rules names words)
    level_fits s names words has below only none =
        let end = (walk s.rules names nothing_held words).held in
        let walked_well = none_of (walk_fault s names (walk_from nothing_held) words) _ none in
        let entered_well = none_of below _ walked_well.1 in
        let settled_well = none_of (settle_fault s.rules s.args_override_self end) _ entered_well.1 in
        let defaults_well = none_of (defaults_fault (settled s.rules end).rows s.rules) _ settled_well.1 in
        defaults_fit (settled s.rules end).rows s.rules only defaults_well.0
        (settled_fits s.rules s.args_override_self end only settled_well.0
        (walk_fits s names only (walk_from nothing_held) words walked_well.0 tt))

  -- ---- what the getters read

  -- the argument has a value, which passed its parser
  abbrev pub HasValue : List Row → Type 0
  HasValue rows = (t : Text) × (one_of a.id rows ≡ Some (read_as (reading_by a) t)) × (first_of a.id rows ≡ Some t)
      × (value_passes a t ≡ true)

  found_fits : (rows : List Row) → Fit rows → On IsRow (find (λ r. bytes_eq r.id a.id) rows)
  found_fits [] f = tt
  found_fits (r ∷ rs) f = go (bytes_eq r.id a.id) refl (found_fits rs f.1)
    where
      go : (b : Bool) → bytes_eq r.id a.id ≡ b → On IsRow (find (λ x. bytes_eq x.id a.id) rs) →
          On IsRow (cond b (Some r) (find (λ x. bytes_eq x.id a.id) rs))
      go true e rest = f.0 e
      go false e rest = rest

  row_read : (how : Reading) (vs : List Text) → how ≡ reading_by a → values_pass a vs ≡ true → 0 < length vs
      → (t : Text) × (option_map (read_as how) (slice_get vs 0) ≡ Some (read_as (reading_by a) t))
      × (slice_get vs 0 ≡ Some t) × (value_passes a t ≡ true)
  row_read how [] is passed there = absurd (omega arith)
  row_read how (v ∷ vs) is passed there =
      (v, ap (λ h. Some (read_as h v)) is, refl, (both (value_passes a v) (values_pass a vs) passed).0)

  read_at : (o : Option Row) → On IsRow o → is_some o ≡ true
      → (t : Text) × (option_and_then row_text o ≡ Some (read_as (reading_by a) t))
      × (option_and_then (λ r. slice_get r.values 0) o ≡ Some t) × (value_passes a t ≡ true)
  read_at None is there = absurd (true≢false (sym there))
  read_at (Some r) is there = row_read r.reading r.values is.0 is.1 is.2

  pub value_of : (rows : List Row) → Fit rows → is_some (find (λ r. bytes_eq r.id a.id) rows) ≡ true → HasValue rows
  value_of rows f there = read_at (find (λ r. bytes_eq r.id a.id) rows) (found_fits rows f) there

  -- a value that is read passed the parser
  pub maybe_value_of : (rows : List Row) → Fit rows → (one_of a.id rows ≡ None) ⊎ HasValue rows
  maybe_value_of rows f = go (find (λ r. bytes_eq r.id a.id) rows) refl
    where
      go : (o : Option Row) → find (λ r. bytes_eq r.id a.id) rows ≡ o → (one_of a.id rows ≡ None) ⊎ HasValue rows
      go None e = inl (ap (option_and_then row_text) e)
      go (Some r) e = inr (value_of rows f (ap is_some e))

-- ---- which arguments are there

-- the element is in the list
abbrev pub Among : {X : Type 0} → X → List X → Type 0
Among x [] = ⊥
Among x (y ∷ ys) = (y ≡ x) ⊎ Among x ys

none_passes : {X : Type 0} (p : X → Bool) (x : X) (xs : List X) → list_any p xs ≡ false → Among x xs → p x ≡ false
none_passes p x [] e h = absurd h
none_passes p x (y ∷ ys) e (inl is) = subst (λ z. p z ≡ false) is (neither (p y) (list_any p ys) e).0
none_passes p x (y ∷ ys) e (inr rest) = none_passes p x ys (neither (p y) (list_any p ys) e).1 rest

pub no_kinds : (help sub arg : Bool) → check_kinds help sub arg ≡ [] → (sub ≡ false) × (arg ≡ false)
no_kinds true sub arg e = absurd (none_left _ _ e)
no_kinds false true arg e = absurd (none_left _ _ e)
no_kinds false false true e = absurd (none_left _ _ e)
no_kinds false false false e = (refl, refl)

pub given_there : (id : Text) (rows : List Row) → is_given id rows ≡ true →
    is_some (find (λ r. bytes_eq r.id id) rows) ≡ true
given_there id rows e = go (find (λ r. bytes_eq r.id id) rows) e
  where
    go : (o : Option Row) → option_map_or (λ r. explicit_source r.source) o false ≡ true → is_some o ≡ true
    go None h = absurd (true≢false (sym h))
    go (Some r) h = refl

required_test : (required given : Bool) → (required && not given) ≡ false → required ≡ true → given ≡ true
required_test true true e h = refl
required_test true false e h = absurd (true≢false e)
required_test false given e h = absurd (true≢false (sym h))

-- a required argument is given, where no subcommand stands for it
pub required_there : (s : Shape) (rows : List Row) (has : Bool) (a : Rule) → check_fault s rows has ≡ [] →
    (s.subcommand_negates_reqs && has) ≡ false → Among a s.rules
    → a.required ≡ true → is_some (find (λ r. bytes_eq r.id a.id) rows) ≡ true
required_there s rows has a none needed among required =
    let missing = (no_kinds _ _ _ none).1 in
    let any : list_any (λ x. x.required && not (is_given x.id rows)) s.rules ≡ false = rw needed at missing in
    given_there a.id rows
    (required_test a.required (is_given a.id rows)
    (none_passes (λ x. x.required && not (is_given x.id rows)) a s.rules any among) required)

row_there : (id : Text) (rows : List Row) → has_row id rows ≡ true → is_some (find (λ r. bytes_eq r.id id) rows) ≡ true
row_there id [] e = absurd (true≢false (sym e))
row_there id (r ∷ rs) e = go (bytes_eq r.id id) e (λ h. row_there id rs h)
  where
    go : (b : Bool) → (b || has_row id rs) ≡ true →
        (has_row id rs ≡ true → is_some (find (λ x. bytes_eq x.id id) rs) ≡ true)
        → is_some (cond b (Some r) (find (λ x. bytes_eq x.id id) rs)) ≡ true
    go true h rest = refl
    go false h rest = rest h

-- a default leaves each row
default_keeps : (id other : Text) (how : Reading) (values : List Text) (rows : List Row) → has_row id rows ≡ true →
    has_row id (with_values other how DefaultValue values rows) ≡ true
default_keeps id other how values [] e = absurd (true≢false (sym e))
default_keeps id other how values (r ∷ rs) e =
    go (bytes_eq r.id other) (bytes_eq r.id id) refl e (λ h. default_keeps id other how values rs h)
  where
    go : (b c : Bool) → bytes_eq r.id id ≡ c → (c || has_row id rs) ≡ true →
        (has_row id rs ≡ true → has_row id (with_values other how DefaultValue values rs) ≡ true)
        → has_row id (cond b (more_values DefaultValue values r ++ rs)
        (r ∷ with_values other how DefaultValue values rs)) ≡ true
    go true c is h rest = rw is h
    go false true is h rest = rw is refl
    go false false is h rest = rw is (rest h)

-- and adds its own
default_adds : (id : Text) (how : Reading) (values : List Text) (rows : List Row) →
    has_row id (with_values id how DefaultValue values rows) ≡ true
default_adds id how values [] = rw ((bytes_eq-Decides id id).1 refl) refl
default_adds id how values (r ∷ rs) = go (bytes_eq r.id id) refl (default_adds id how values rs)
  where
    go : (b : Bool) → bytes_eq r.id id ≡ b → has_row id (with_values id how DefaultValue values rs) ≡ true
        → has_row id (cond b (more_values DefaultValue values r ++ rs) (r ∷ with_values id how DefaultValue values rs))
        ≡ true
    go true is rest = rw is refl
    go false is rest = rw is rest

row_kept : (id : Text) (rows : List Row) (x : Rule) → has_row id rows ≡ true → has_row id (with_default rows x) ≡ true
row_kept id rows x e = go (has_row x.id rows) x.defaults
  where
    go : (b : Bool) (values : List Text) → has_row id (cond b rows (default_rows x.id (reading_by x) values rows))
        ≡ true
    go true values = e
    go false [] = e
    go false (v ∷ vs) = default_keeps id x.id (reading_by x) (v ∷ vs) rows e

row_made : (rows : List Row) (x : Rule) → 0 < length x.defaults → has_row x.id (with_default rows x) ≡ true
row_made rows x there = go (has_row x.id rows) refl x.defaults there
  where
    go : (b : Bool) → has_row x.id rows ≡ b → (values : List Text) → 0 < length values →
        has_row x.id (cond b rows (default_rows x.id (reading_by x) values rows)) ≡ true
    go true e values lt = e
    go false e [] lt = absurd (omega arith)
    go false e (v ∷ vs) lt = default_adds x.id (reading_by x) (v ∷ vs) rows

rows_kept : (id : Text) (rows : List Row) (c : List Rule) → has_row id rows ≡ true →
    has_row id (fold with_default rows c) ≡ true
rows_kept id rows [] e = e
rows_kept id rows (x ∷ xs) e = rows_kept id (with_default rows x) xs (row_kept id rows x e)

defaults_there : (rows : List Row) (c : List Rule) (a : Rule) → Among a c → 0 < length a.defaults →
    has_row a.id (fold with_default rows c) ≡ true
defaults_there rows [] a among there = absurd among
defaults_there rows (x ∷ xs) a (inl is) there =
    rows_kept a.id (with_default rows x) xs (subst (λ (y : Rule). has_row a.id (with_default rows y) ≡ true) (sym is)
    (row_made rows a there))
defaults_there rows (x ∷ xs) a (inr rest) there = defaults_there (with_default rows x) xs a rest there

-- an argument with a default has a row
pub default_there : (s : Shape) (names : Names) (words : List Text) (a : Rule) → Among a s.rules → 0 < length a.defaults
    → is_some (find (λ r. bytes_eq r.id a.id) (rows_after s.rules names words)) ≡ true
default_there s names words a among there =
    row_there a.id (rows_after s.rules names words)
    (defaults_there (settled s.rules (walk s.rules names nothing_held words).held).rows s.rules a among there)

-- the last checks of a level that doesn't fail
pub level_checks : (s : Shape) (names : Names) (words : List Text) (has : Bool) (below : Kinds) →
    level_fault s names nothing_held words has below ≡ []
    → check_fault s (rows_after s.rules names words) has ≡ []
level_checks s names words has below none =
    let end = (walk s.rules names nothing_held words).held in
    let walked_well = none_of (walk_fault s names (walk_from nothing_held) words) _ none in
    let entered_well = none_of below _ walked_well.1 in
    let settled_well = none_of (settle_fault s.rules s.args_override_self end) _ entered_well.1 in
    (none_of (defaults_fault (settled s.rules end).rows s.rules) _ settled_well.1).1

module _ (a : Rule) (sets : action_of a ≡ action.Set) (wants : 1 ≤ (unwrap_or_range a.range).start_inclusive)
    (s : Shape) (names : Names) (words : List Text) (has : Bool) (below : Kinds)
    (only : Each (IsOnly a) s.rules) (none : level_fault s names nothing_held words has below ≡ []) where
  fits : Fit a (rows_after s.rules names words)
  fits = level_fits a sets wants s names words has below only none

  -- a required argument has a value in each line that is taken
  pub required_value : (s.subcommand_negates_reqs && has) ≡ false → Among a s.rules → a.required ≡ true →
      HasValue a (rows_after s.rules names words)
  required_value needed among required =
      value_of a _ fits (required_there s _ has a (level_checks s names words has below none) needed among required)

  -- and so has one with a default
  pub default_value : Among a s.rules → 0 < length a.defaults → HasValue a (rows_after s.rules names words)
  default_value among there = value_of a _ fits (default_there s names words a among there)

  -- what another has passed its parser
  pub maybe_value : (one_of a.id (rows_after s.rules names words) ≡ None) ⊎ HasValue a (rows_after s.rules names words)
  maybe_value = maybe_value_of a _ fits
