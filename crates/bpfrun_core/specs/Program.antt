-- The program's command line, in clap's plain words.
use Rattle.std.specs.Prelude.{ℕ, List, [], ◌∷◌, codes, pos, Some, true}
use Rattle.machine_model.specs.Limits.{max_credit}
use Rattle.clap.specs.Words.{App, Rule, new_app, new_rule, with_rule}
use Rattle.clap.specs.declared.builder.action.ArgAction.TheVariants.{SetTrue}
use Rattle.clap.specs.declared.builder.value_parser.ValueParser.TheVariants as vp

abbrev pub file_rule : Rule
file_rule = record (new_rule (codes "file")) { value_names = 1; required = true }

abbrev pub bpfrun_need_rule : Rule
bpfrun_need_rule = record (new_rule (codes "need")) {
  long = Some (codes "need");
  value_names = 1;
  parser = Some (vp.Signed (pos 0) (pos 4294967295));
}

abbrev pub credit_rule : Rule
credit_rule = record (new_rule (codes "credit")) {
  long = Some (codes "credit");
  value_names = 1;
  defaults = codes "2147483647" ∷ [];
  parser = Some (vp.Signed (pos 0) (pos max_credit));
}

abbrev pub arg_rule : Rule
arg_rule = record (new_rule (codes "arg")) {
  long = Some (codes "arg");
  value_names = 1;
  defaults = codes "0" ∷ [];
  parser = Some (vp.Unsigned 0 18446744073709551615);
}

-- an option of this name, which names a file
abbrev pub path_rule : List ℕ → Rule
path_rule name = record (new_rule name) { long = Some name; value_names = 1 }

-- a flag of this name
abbrev pub flag_rule : List ℕ → Rule
flag_rule name = record (new_rule name) { long = Some name; action = Some SetTrue }

-- the program without its arguments, which tells its version
abbrev pub bare_bpfrun_app : App
bare_bpfrun_app = record {
  top = record (new_app (codes "bpfrun")).top { has_version = true };
  subs = [];
}

abbrev pub bpfrun_app : App
bpfrun_app = with_rule (with_rule (with_rule
    (with_rule (with_rule (with_rule
    (with_rule (with_rule (with_rule (with_rule bare_bpfrun_app file_rule) bpfrun_need_rule)
    credit_rule) arg_rule) (path_rule (codes "memory"))) (flag_rule (codes "explain")))
    (flag_rule (codes "explain-all"))) (flag_rule (codes "graph"))) (flag_rule (codes "trace")))
    (path_rule (codes "trace-json"))
