use Rattle.std.proofs.Common.{◌≡◌, ◌≤◌, ◌∙◌, Some, ap, false, map, rules, subst, sym, true}
use Rattle.hex.specs.Hex.{IsBytes}
use Rattle.serde_json.specs.Data.{depth}
use Rattle.serde_json.specs.View.{view}
use Rattle.serde_json.specs.Written.{compact_text, has_float}
use Rattle.sessions.specs.Grammar.{ReadsJson, all_of, number_between, object_from, program_asked, program_from}
use Rattle.sessions.specs.Replies.{whole}
use Rattle.bpfjobs_cli.specs.AskRequests.{asked_program}
use Rattle.bpfjobs_cli.proofs.JobTextLemmas.{job_deep, job_plain, scheduled_back, unscheduled_back}
use Rattle.bpfjobs_cli.proofs.job_texts.job_text.Goals as goal

pub returns-in-Ok-clause-text : goal.returns-in-Ok-clause-text
returns-in-Ok-clause-text c =
    c.in-Ok.ensures.text (ap has_float c.in_ok-value.ensures ∙ job_plain c.args.job.now) ∙ ap compact_text c.in_ok-value.ensures

pub returns-in-Ok-clause-says : goal.returns-in-Ok-clause-says
returns-in-Ok-clause-says c =
    let credit : c.args.job.now.credit ≤ 4294967295 = search rules in
    let buffer : IsBytes c.args.job.now.buffer.items = subst IsBytes c.deref.ensures.value c.tell_bytes.ensures in
    let programs_values : map view c.in_ok-programs.programs.items ≡ map asked_program c.args.job.now.programs.items = search rules in
    let programs_read : all_of program_from (map view c.in_ok-programs.programs.items) ≡ Some (map program_asked c.args.job.now.programs.items) = search rules in
    let schedule_values : map view c.in_ok-schedule.schedule.items ≡ map whole c.args.job.now.schedule.items = search rules in
    let schedule_read : all_of (number_between 0 4294967295) (map view c.in_ok-schedule.schedule.items) ≡ Some c.args.job.now.schedule.items = search rules in
    let programs = ap (all_of program_from) (sym programs_values) ∙ programs_read in
    let schedule = ap (all_of (number_between 0 4294967295)) (sym schedule_values) ∙ schedule_read in
    let deep : depth (view c.in_ok-value.value) ≤ 127 = subst (λ n. n ≤ 127) (ap depth (sym c.in_ok-value.ensures)) (job_deep c.args.job.now) in
    let reads : ReadsJson c.in-Ok.text.items (view c.in_ok-value.value) = (c.in-Ok.ensures.utf8, c.in-Ok.ensures.reads_back deep) in
    record {
      scheduled = (view c.in_ok-value.value, reads, ap (object_from true) c.in_ok-value.ensures ∙ scheduled_back c.args.job.now credit buffer programs schedule);
      unscheduled = λ bare is. (view c.in_ok-value.value, reads, ap (object_from false) c.in_ok-value.ensures ∙ unscheduled_back c.args.job.now credit buffer programs schedule bare is);
    }
