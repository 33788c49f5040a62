-- Each line that clap takes says a command, with its numbers.
use Rattle.std.proofs.Common.{◌≡◌, ◌↔◌, ◌≤◌, ◌<◌, ◌&&◌, ◌⊎◌, length, ℕ, Bool, IsTrue, codes, true, false, refl, sym, ap, subst, inl, inr, arith, List, [], Option, Some, None, is_some, true≢false, unwrap_or}
use Rattle.std.specs.Prelude.{pos}
use Rattle.std.proofs.lemmas.Slice.Eq.{bytes_eq-Decides}
use Rattle.std.specs.Str.{bytes_eq}
use Rattle.clap.specs.Facts.{unwrap_or_range}
use Rattle.clap.specs.Walk.{Row, Rule, Text, action_of, first_of, nothing_held, one_of, rows_after}
use Rattle.clap.specs.Simple.{App, Shape, argument_words, built, built_leaf, filled, help_shape, inherited, is_simple, marked_built, with_leaf_noted, subcommand_of, with_index}
use Rattle.clap.specs.Kinds.{HasKind}
use Rattle.clap.specs.declared.error.Error.{Error}
use Rattle.clap.specs.Faults.{fault_of, is_simple_and_free, level_fault}
use Rattle.clap.specs.declared.builder.action.ArgAction.TheVariants as action
use Rattle.clap.specs.declared.builder.value_parser.ValueParser.TheVariants as vp
use Rattle.clap.proofs.OnLiterals.{clap_on_literals}
use Rattle.bpfjobs_cli.specs.Commands.{AreOptionsOf, IsMaybeNumber, IsNumberIn, SaysCommand, says_assemble, says_disassemble, says_verify, says_play, says_run, says_serve, says_journal, says_ask, says_job, says_check, sessions_said}
use Rattle.bpfjobs_cli.specs.declared.commands.ServeOptions.{ServeOptions}
use Rattle.bpfjobs_cli.specs.Program.{amount_rule, assemble_app, disassemble_app, ask_app, bpfjobs_app, buffer_rule, check_app, job_credit_rule, job_app, job_file_rule, result_file_rule, from_rule, wait_rule, word_rule, journal_app, journal_file_rule, need_rule, port_rule, run_app, play_app, serve_app, sessions_rule, tenant_jobs_rule, clients_rule, timeout_rule, open_jobs_rule, keep_rule, keep_bytes_rule, verify_app, workers_rule}
use Rattle.bpfjobs_cli.proofs.NumberLemmas.{signed_number, unsigned_number}
use Rattle.bpfjobs_cli.proofs.RowLemmas.{Among, Each, HasValue, IsOnly, On, both, default_value, maybe_value, required_value}
use Rattle.bpfjobs_cli.proofs.SubcommandLemmas.{Gives, HasNoAlias, subcommand_gives}

-- the rules as clap builds them
abbrev rule : Rule → Rule
rule r = with_index 1 (filled r)

-- one that is the second word
abbrev second : Rule → Rule
second r = with_index 2 (filled r)

-- one that is the third word
abbrev third : Rule → Rule
third r = with_index 3 (filled r)

-- a rule with another id
other : {x y : Rule} → false ≡ true → x ≡ y
other e = absurd (true≢false (sym e))

-- an argument of a subcommand that takes a number
module _ (a : Rule) (low high : ℕ) (sets : action_of a ≡ action.Set) (wants : 1 ≤ (unwrap_or_range a.range).start_inclusive) (parser : a.parser ≡ Some (vp.Signed (pos low) (pos high)))
    (s : Shape) (words : List Text) (only : Each (IsOnly a) s.rules) (among : Among a s.rules) (none : level_fault s [] nothing_held words false [] ≡ []) where
  wanted : (s.subcommand_negates_reqs && false) ≡ false → a.required ≡ true → (n : ℕ) × IsNumberIn (rows_after s.rules [] words) a.id low high n
  wanted needed required = signed_number a low high _ parser (required_value a sets wants s [] words false [] only none needed among required)

  left_out : 0 < length a.defaults → (n : ℕ) × IsNumberIn (rows_after s.rules [] words) a.id low high n
  left_out there = signed_number a low high _ parser (default_value a sets wants s [] words false [] only none among there)

-- the same of an argument that may be missing
module _ (a : Rule) (low high : ℕ) (sets : action_of a ≡ action.Set) (wants : 1 ≤ (unwrap_or_range a.range).start_inclusive) (parser : a.parser ≡ Some (vp.Signed (pos low) (pos high)))
    (s : Shape) (words : List Text) (only : Each (IsOnly a) s.rules) (none : level_fault s [] nothing_held words false [] ≡ []) where
  may_be : (n : Option ℕ) × IsMaybeNumber (rows_after s.rules [] words) a.id low high n
  may_be = go (maybe_value a sets wants s [] words false [] only none)
    where
      go : (one_of a.id (rows_after s.rules [] words) ≡ None) ⊎ HasValue a (rows_after s.rules [] words) → (n : Option ℕ) × IsMaybeNumber (rows_after s.rules [] words) a.id low high n
      go (inl e) = (None, e)
      go (inr value) =
          let number = signed_number a low high _ parser value in
          (Some number.0, number.1)

-- the same of a number of 64 bits
module _ (a : Rule) (low high : ℕ) (sets : action_of a ≡ action.Set) (wants : 1 ≤ (unwrap_or_range a.range).start_inclusive) (parser : a.parser ≡ Some (vp.Unsigned low high))
    (s : Shape) (words : List Text) (only : Each (IsOnly a) s.rules) (none : level_fault s [] nothing_held words false [] ≡ []) where
  may_be_long : (n : Option ℕ) × IsMaybeNumber (rows_after s.rules [] words) a.id low high n
  may_be_long = go (maybe_value a sets wants s [] words false [] only none)
    where
      go : (one_of a.id (rows_after s.rules [] words) ≡ None) ⊎ HasValue a (rows_after s.rules [] words) → (n : Option ℕ) × IsMaybeNumber (rows_after s.rules [] words) a.id low high n
      go (inl e) = (None, e)
      go (inr value) =
          let number = unsigned_number a low high _ parser value in
          (Some number.0, number.1)

-- a subcommand as clap builds it
abbrev leaf : Shape → Shape
leaf s = built_leaf (inherited (with_leaf_noted (marked_built bpfjobs_app.top)) s)

pub plain : is_simple_and_free bpfjobs_app ≡ true
unfolding clap_on_literals
plain = refl

assemble : Gives SaysCommand (leaf assemble_app.top)
assemble words own none = says_assemble refl

disassemble : Gives SaysCommand (leaf disassemble_app.top)
disassemble words own none = says_disassemble refl

verify : Gives SaysCommand (leaf verify_app.top)
verify words own none =
    let need = wanted (rule need_rule) 0 4294967295 refl (omega arith) refl (leaf verify_app.top) words
    ((λ same. refl), (other, (other, tt))) (inl refl) none refl refl in
    says_verify refl need

play : Gives SaysCommand (leaf play_app.top)
play words own none = says_play refl

run : Gives SaysCommand (leaf run_app.top)
run words own none =
    let workers = left_out (rule workers_rule) 1 16 refl (omega arith) refl (leaf run_app.top) words
    ((λ same. refl), (other, (other, (other, tt)))) (inl refl) none (omega arith) in
    says_run refl workers

-- whether an argument that is a flag is given
is_given : Option Text → Bool
is_given None = false
is_given (Some text) = bytes_eq text (codes "true")

flag_given : (found : Option Text) → IsTrue (is_given found) ↔ (found ≡ Some (codes "true"))
unfolding is_given
flag_given None = (λ t. absurd cc, λ there. let clash = there in absurd cc)
flag_given (Some text) = (
  λ t. ap Some ((bytes_eq-Decides text (codes "true")).0 t),
  λ there. (bytes_eq-Decides text (codes "true")).1 (ap (λ o. unwrap_or o text) there),
)

serve : Gives SaysCommand (leaf serve_app.top)
serve words own none =
    let port = may_be (rule port_rule) 1 65535 refl (omega arith) refl (leaf serve_app.top) words
    ((λ same. refl), (other, (other, (other, (other, (other, (other, (other, (other, (other, (other, (other, (other, (other, (other, (other, (other, (other, tt)))))))))))))))))) none in
    let jobs = may_be (rule tenant_jobs_rule) 1 1000000 refl (omega arith) refl (leaf serve_app.top) words
    (other, (other, (other, (other, (other, ((λ same. refl), (other, (other, (other, (other, (other, (other, (other, (other, (other, (other, (other, (other, tt)))))))))))))))))) none in
    let workers = left_out (rule workers_rule) 1 16 refl (omega arith) refl (leaf serve_app.top) words
    (other, (other, (other, (other, (other, (other, ((λ same. refl), (other, (other, (other, (other, (other, (other, (other, (other, (other, (other, (other, tt)))))))))))))))))) (inr (inr (inr (inr (inr (inr (inl refl))))))) none (omega arith) in
    let sessions = may_be (rule sessions_rule) 1 1000000 refl (omega arith) refl (leaf serve_app.top) words
    (other, (other, (other, (other, (other, (other, (other, ((λ same. refl), (other, (other, (other, (other, (other, (other, (other, (other, (other, (other, tt)))))))))))))))))) none in
    let clients = left_out (rule clients_rule) 1 1024 refl (omega arith) refl (leaf serve_app.top) words
    (other, (other, (other, (other, (other, (other, (other, (other, ((λ same. refl), (other, (other, (other, (other, (other, (other, (other, (other, (other, tt)))))))))))))))))) (inr (inr (inr (inr (inr (inr (inr (inr (inl refl))))))))) none (omega arith) in
    let timeout = left_out (rule timeout_rule) 0 3600 refl (omega arith) refl (leaf serve_app.top) words
    (other, (other, (other, (other, (other, (other, (other, (other, (other, ((λ same. refl), (other, (other, (other, (other, (other, (other, (other, (other, tt)))))))))))))))))) (inr (inr (inr (inr (inr (inr (inr (inr (inr (inl refl)))))))))) none (omega arith) in
    let open_jobs = left_out (rule open_jobs_rule) 0 1000000 refl (omega arith) refl (leaf serve_app.top) words
    (other, (other, (other, (other, (other, (other, (other, (other, (other, (other, ((λ same. refl), (other, (other, (other, (other, (other, (other, (other, tt)))))))))))))))))) (inr (inr (inr (inr (inr (inr (inr (inr (inr (inr (inl refl))))))))))) none (omega arith) in
    let keep = left_out (rule keep_rule) 0 1000000 refl (omega arith) refl (leaf serve_app.top) words
    (other, (other, (other, (other, (other, (other, (other, (other, (other, (other, (other, ((λ same. refl), (other, (other, (other, (other, (other, (other, tt)))))))))))))))))) (inr (inr (inr (inr (inr (inr (inr (inr (inr (inr (inr (inl refl)))))))))))) none (omega arith) in
    let keep_bytes = left_out (rule keep_bytes_rule) 0 4294967295 refl (omega arith) refl (leaf serve_app.top) words
    (other, (other, (other, (other, (other, (other, (other, (other, (other, (other, (other, (other, ((λ same. refl), (other, (other, (other, (other, (other, tt)))))))))))))))))) (inr (inr (inr (inr (inr (inr (inr (inr (inr (inr (inr (inr (inl refl))))))))))))) none (omega arith) in
    let rows = rows_after (leaf serve_app.top).rules [] words in
    let options : ServeOptions = record {
      workers = workers.0;
      sessions = sessions_said sessions.0 clients.0;
      clients = clients.0;
      timeout = timeout.0;
      open_jobs = open_jobs.0;
      keep = keep.0;
      keep_bytes = keep_bytes.0;
      until_eof = is_given (first_of (codes "until-eof") rows);
      logs = is_given (first_of (codes "log") rows);
    } in
    let are_options : AreOptionsOf rows options = record {
      workers = workers.1;
      sessions = (sessions.0, sessions.1, refl);
      clients = clients.1;
      timeout = timeout.1;
      open_jobs = open_jobs.1;
      keep = keep.1;
      keep_bytes = keep_bytes.1;
      until_eof = flag_given (first_of (codes "until-eof") rows);
      logs = flag_given (first_of (codes "log") rows);
    } in
    says_serve refl (record { port = port; jobs = jobs; options = (options, are_options) })

journal : Gives SaysCommand (leaf journal_app.top)
journal words own none =
    let value : HasValue (rule journal_file_rule) (rows_after (leaf journal_app.top).rules [] words) =
    required_value (rule journal_file_rule) refl (omega arith) (leaf journal_app.top) [] words false []
    ((λ same. refl), (other, (other, tt))) none refl (inl refl) refl in
    says_journal refl (ap is_some value.2)

ask : Gives SaysCommand (leaf ask_app.top)
ask words own none =
    let port = may_be (rule port_rule) 1 65535 refl (omega arith) refl (leaf ask_app.top) words
    ((λ same. refl), (other, (other, (other, (other, (other, (other, (other, (other, tt))))))))) none in
    let wait = left_out (rule wait_rule) 0 3600 refl (omega arith) refl (leaf ask_app.top) words
    (other, (other, ((λ same. refl), (other, (other, (other, (other, (other, (other, tt))))))))) (inr (inr (inl refl))) none (omega arith) in
    let value : HasValue (rule word_rule) (rows_after (leaf ask_app.top).rules [] words) =
    required_value (rule word_rule) refl (omega arith) (leaf ask_app.top) [] words false []
    (other, (other, (other, ((λ same. refl), (other, (other, (other, (other, (other, tt))))))))) none refl (inr (inr (inr (inl refl)))) refl in
    let amount = may_be (third amount_rule) 1 2147483647 refl (omega arith) refl (leaf ask_app.top) words
    (other, (other, (other, (other, (other, ((λ same. refl), (other, (other, (other, tt))))))))) none in
    let from = may_be_long (rule from_rule) 1 18446744073709551615 refl (omega arith) refl (leaf ask_app.top) words
    (other, (other, (other, (other, (other, (other, (other, ((λ same. refl), (other, tt))))))))) none in
    says_ask refl (record { word = ap is_some value.2; port = port; wait = wait; amount = amount; from = from })

job : Gives SaysCommand (leaf job_app.top)
job words own none =
    let credit = wanted (rule job_credit_rule) 0 4294967295 refl (omega arith) refl (leaf job_app.top) words
    ((λ same. refl), (other, (other, (other, (other, tt))))) (inl refl) none refl refl in
    let buffer : HasValue (rule buffer_rule) (rows_after (leaf job_app.top).rules [] words) =
    required_value (rule buffer_rule) refl (omega arith) (leaf job_app.top) [] words false []
    (other, ((λ same. refl), (other, (other, (other, tt))))) none refl (inr (inl refl)) refl in
    says_job refl (record { credit = credit; buffer = ap is_some buffer.2 })

check : Gives SaysCommand (leaf check_app.top)
check words own none =
    let first : HasValue (rule job_file_rule) (rows_after (leaf check_app.top).rules [] words) =
    required_value (rule job_file_rule) refl (omega arith) (leaf check_app.top) [] words false []
    ((λ same. refl), (other, (other, tt))) none refl (inl refl) refl in
    let then_second : HasValue (second result_file_rule) (rows_after (leaf check_app.top).rules [] words) =
    required_value (second result_file_rule) refl (omega arith) (leaf check_app.top) [] words false []
    (other, ((λ same. refl), (other, tt))) none refl (inr (inl refl)) refl in
    says_check refl (record { job = ap is_some first.2; result = ap is_some then_second.2 })

-- clap's own subcommand, which gives help
help : Gives SaysCommand (built_leaf help_shape)
help words own none = absurd (true≢false own)

gives : Each (Gives SaysCommand) (built bpfjobs_app).subs
gives = (assemble, (disassemble, (verify, (play, (run, (serve, (journal, (ask, (job, (check, (help, tt)))))))))))

aliases : Each HasNoAlias (built bpfjobs_app).subs
aliases = (refl, (refl, (refl, (refl, (refl, (refl, (refl, (refl, (refl, (refl, (refl, tt)))))))))))

-- clap fails, or the line says a command
pub says_command : (words : List Text) → fault_of bpfjobs_app words ≡ [] → (is_some (subcommand_of bpfjobs_app words) ≡ true) × On (λ p. SaysCommand p.0 p.1) (subcommand_of bpfjobs_app words)
says_command words none = subcommand_gives SaysCommand (built bpfjobs_app) (argument_words bpfjobs_app words) refl refl aliases gives none

-- the program is one of which clap's laws tell the matches
pub is_plain : is_simple bpfjobs_app ≡ true
is_plain = (both (is_simple bpfjobs_app) _ plain).0

module _ (words : List Text) (a : App) (is : a ≡ bpfjobs_app) (none : fault_of a words ≡ []) where
  said : (is_some (subcommand_of a words) ≡ true) × On (λ p. SaysCommand p.0 p.1) (subcommand_of a words)
  said = subst (λ b. fault_of b words ≡ [] → (is_some (subcommand_of b words) ≡ true) × On (λ p. SaysCommand p.0 p.1) (subcommand_of b words)) (sym is) (says_command words) none

  -- a subcommand is entered, and with its rows it is a command
  pub is_entered : is_some (subcommand_of a words) ≡ true
  is_entered = said.0

  pub entered_says : (name : Text) (rows : List Row) → subcommand_of a words ≡ Some (name, rows) → SaysCommand name rows
  entered_says name rows found = subst (On (λ p. SaysCommand p.0 p.1)) found said.1

-- an error of this program's is one of its line's
pub of_kind : (words : List Text) (a : App) (e : Error) → a ≡ bpfjobs_app → HasKind (fault_of a words) e → HasKind (fault_of bpfjobs_app words) e
of_kind words a e is has = subst (λ b. HasKind (fault_of b words) e) is has
