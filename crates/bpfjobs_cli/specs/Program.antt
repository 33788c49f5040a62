-- The program's command line, in clap's plain words.
use Rattle.std.specs.Prelude.{[], ◌∷◌, codes, pos, Some, true}
use Rattle.clap.specs.Lexer.{usize_max}
use Rattle.clap.specs.Words.{App, Rule, new_app, new_rule, with_rule, with_subcommand}
use Rattle.clap.specs.declared.builder.action.ArgAction.TheVariants.{Append, SetTrue}
use Rattle.clap.specs.declared.builder.value_parser.ValueParser.TheVariants as vp

abbrev pub need_rule : Rule
need_rule = record (new_rule (codes "need")) {
  long = Some (codes "need");
  value_names = 1;
  required = true;
  parser = Some (vp.Signed (pos 0) (pos 4294967295));
}

abbrev pub port_rule : Rule
port_rule = record (new_rule (codes "port")) {
  long = Some (codes "port");
  value_names = 1;
  parser = Some (vp.Signed (pos 1) (pos 65535));
}

abbrev pub socket_rule : Rule
socket_rule = record (new_rule (codes "socket")) { long = Some (codes "socket"); value_names = 1 }

abbrev pub grants_rule : Rule
grants_rule = record (new_rule (codes "grants")) { long = Some (codes "grants"); value_names = 1 }

abbrev pub tenant_rule : Rule
tenant_rule = record (new_rule (codes "tenant")) {
  long = Some (codes "tenant");
  value_names = 1;
  action = Some Append;
}

abbrev pub tenants_rule : Rule
tenants_rule = record (new_rule (codes "tenants")) {
  long = Some (codes "tenants");
  value_names = 1;
}

abbrev pub tenant_jobs_rule : Rule
tenant_jobs_rule = record (new_rule (codes "tenant-jobs")) {
  long = Some (codes "tenant-jobs");
  value_names = 1;
  parser = Some (vp.Signed (pos 1) (pos 1000000));
}

abbrev pub workers_rule : Rule
workers_rule = record (new_rule (codes "workers")) {
  long = Some (codes "workers");
  value_names = 1;
  defaults = codes "1" ∷ [];
  parser = Some (vp.Signed (pos 1) (pos 16));
}

abbrev pub sessions_rule : Rule
sessions_rule = record (new_rule (codes "sessions")) {
  long = Some (codes "sessions");
  value_names = 1;
  parser = Some (vp.Signed (pos 1) (pos 1000000));
}

abbrev pub clients_rule : Rule
clients_rule = record (new_rule (codes "clients")) {
  long = Some (codes "clients");
  value_names = 1;
  defaults = codes "1" ∷ [];
  parser = Some (vp.Signed (pos 1) (pos 1024));
}

abbrev pub timeout_rule : Rule
timeout_rule = record (new_rule (codes "timeout")) {
  long = Some (codes "timeout");
  value_names = 1;
  defaults = codes "0" ∷ [];
  parser = Some (vp.Signed (pos 0) (pos 3600));
}

abbrev pub open_jobs_rule : Rule
open_jobs_rule = record (new_rule (codes "open-jobs")) {
  long = Some (codes "open-jobs");
  value_names = 1;
  defaults = codes "0" ∷ [];
  parser = Some (vp.Signed (pos 0) (pos 1000000));
}

abbrev pub keep_rule : Rule
keep_rule = record (new_rule (codes "keep")) {
  long = Some (codes "keep");
  value_names = 1;
  defaults = codes "0" ∷ [];
  parser = Some (vp.Signed (pos 0) (pos 1000000));
}

abbrev pub keep_bytes_rule : Rule
keep_bytes_rule = record (new_rule (codes "keep-bytes")) {
  long = Some (codes "keep-bytes");
  value_names = 1;
  defaults = codes "0" ∷ [];
  parser = Some (vp.Signed (pos 0) (pos 4294967295));
}

abbrev pub journal_rule : Rule
journal_rule = record (new_rule (codes "journal")) {
  long = Some (codes "journal");
  value_names = 1;
}

abbrev pub journal_sync_rule : Rule
journal_sync_rule = record (new_rule (codes "journal-sync")) {
  long = Some (codes "journal-sync");
  value_names = 1;
}

abbrev pub until_eof_rule : Rule
until_eof_rule = record (new_rule (codes "until-eof")) {
  long = Some (codes "until-eof");
  action = Some SetTrue;
}

abbrev pub log_rule : Rule
log_rule = record (new_rule (codes "log")) { long = Some (codes "log"); action = Some SetTrue }

abbrev pub trace_rule : Rule
trace_rule = record (new_rule (codes "trace")) {
  long = Some (codes "trace");
  action = Some SetTrue;
}

abbrev pub trace_json_rule : Rule
trace_json_rule = record (new_rule (codes "trace-json")) {
  long = Some (codes "trace-json");
  value_names = 1;
}

abbrev pub tree_rule : Rule
tree_rule = record (new_rule (codes "tree")) { long = Some (codes "tree"); value_names = 1 }

abbrev pub journal_file_rule : Rule
journal_file_rule = record (new_rule (codes "file")) { value_names = 1; required = true }

abbrev pub check_rule : Rule
check_rule = record (new_rule (codes "check")) {
  long = Some (codes "check");
  action = Some SetTrue;
}

abbrev pub word_rule : Rule
word_rule = record (new_rule (codes "word")) { value_names = 1; required = true }

abbrev pub subject_rule : Rule
subject_rule = record (new_rule (codes "subject")) { value_names = 1 }

abbrev pub amount_rule : Rule
amount_rule = record (new_rule (codes "amount")) {
  value_names = 1;
  parser = Some (vp.Signed (pos 1) (pos 2147483647));
}

abbrev pub wait_rule : Rule
wait_rule = record (new_rule (codes "wait")) {
  long = Some (codes "wait");
  value_names = 1;
  defaults = codes "0" ∷ [];
  parser = Some (vp.Signed (pos 0) (pos 3600));
}

abbrev pub key_rule : Rule
key_rule = record (new_rule (codes "key")) { long = Some (codes "key"); value_names = 1 }

abbrev pub from_rule : Rule
from_rule = record (new_rule (codes "from")) {
  long = Some (codes "from");
  value_names = 1;
  parser = Some (vp.Unsigned 1 18446744073709551615);
}

abbrev pub job_credit_rule : Rule
job_credit_rule = record (new_rule (codes "credit")) {
  long = Some (codes "credit");
  value_names = 1;
  required = true;
  parser = Some (vp.Signed (pos 0) (pos 4294967295));
}

abbrev pub buffer_rule : Rule
buffer_rule = record (new_rule (codes "buffer")) {
  long = Some (codes "buffer");
  value_names = 1;
  required = true;
}

abbrev pub schedule_rule : Rule
schedule_rule = record (new_rule (codes "schedule")) {
  long = Some (codes "schedule");
  value_names = 1;
}

-- one file or more
abbrev pub sources_rule : Rule
sources_rule = record (new_rule (codes "sources")) {
  range = Some (record { start_inclusive = 1; end_inclusive = usize_max });
  value_names = 1;
  required = true;
}

abbrev pub job_file_rule : Rule
job_file_rule = record (new_rule (codes "job")) { value_names = 1; required = true }

abbrev pub result_file_rule : Rule
result_file_rule = record (new_rule (codes "result")) { value_names = 1; required = true }

-- the file that is read in place of the standard input
abbrev pub input_rule : Rule
input_rule = record (new_rule (codes "input")) { value_names = 1 }

abbrev pub assemble_app : App
assemble_app = with_rule (new_app (codes "assemble")) input_rule

abbrev pub disassemble_app : App
disassemble_app = with_rule (new_app (codes "disassemble")) input_rule

abbrev pub verify_app : App
verify_app = with_rule (with_rule (new_app (codes "verify")) need_rule) input_rule

abbrev pub play_app : App
play_app =
    with_rule (with_rule (with_rule (new_app (codes "play")) trace_rule) trace_json_rule) input_rule

abbrev pub run_app : App
run_app =
    with_rule (with_rule (with_rule (new_app (codes "run")) workers_rule) tree_rule) input_rule

abbrev pub serve_app : App
serve_app =
    with_rule (with_rule (with_rule (with_rule (with_rule (with_rule (with_rule (with_rule
    (with_rule (with_rule (with_rule (with_rule (with_rule (with_rule (with_rule (with_rule
    (with_rule (new_app (codes "serve")) port_rule) socket_rule) grants_rule) tenant_rule) tenants_rule)
    tenant_jobs_rule) workers_rule) sessions_rule) clients_rule) timeout_rule) open_jobs_rule)
    keep_rule) keep_bytes_rule) journal_rule) journal_sync_rule) until_eof_rule) log_rule

abbrev pub journal_app : App
journal_app = with_rule (with_rule (new_app (codes "journal")) journal_file_rule) check_rule

abbrev pub ask_app : App
ask_app =
    with_rule (with_rule (with_rule (with_rule (with_rule (with_rule (with_rule (with_rule
    (new_app (codes "ask")) port_rule) socket_rule) wait_rule) word_rule) subject_rule) amount_rule)
    key_rule) from_rule

abbrev pub job_app : App
job_app =
    with_rule (with_rule (with_rule (with_rule (new_app (codes "job")) job_credit_rule) buffer_rule)
    schedule_rule) sources_rule

abbrev pub check_app : App
check_app = with_rule (with_rule (new_app (codes "check")) job_file_rule) result_file_rule

-- the program without its commands, which tells its version
abbrev pub named_app : App
named_app = record {
  top = record (new_app (codes "bpfjobs")).top { has_version = true };
  subs = [];
}

-- a subcommand is required
abbrev pub requiring : App → App
requiring a = record a { top = record a.top { subcommand_required = true } }

-- with the commands between text and bytes
abbrev pub with_text_commands : App → App
with_text_commands a =
    with_subcommand (with_subcommand a assemble_app.top) disassemble_app.top

abbrev pub bpfjobs_app : App
bpfjobs_app =
    with_subcommand (with_subcommand (with_subcommand (with_subcommand (with_subcommand
    (with_subcommand (with_subcommand (with_subcommand (with_text_commands (requiring named_app))
    verify_app.top) play_app.top) run_app.top) serve_app.top) journal_app.top) ask_app.top)
    job_app.top) check_app.top
