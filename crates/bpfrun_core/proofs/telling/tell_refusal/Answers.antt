use Rattle.std.proofs.Common.{refl, rules}
use Rattle.bpfrun_core.proofs.telling.tell_refusal.Goals as goal

pub returns-clause-text : goal.returns-clause-text
returns-clause-text c = record {
  report = record {
    number = c.code.result;
    words = c.as_str-2.result;
    file = c.args.asked.now.file;
    line = c.args.place;
    mark = c.mark_of.result;
    notes = c.args.notes;
    is_coloured = c.args.asked.now.is_coloured;
  };
  number = c.code.ensures;
  named = refl;
  words = c.args.words.now;
  quoted = search rules;
  about = refl;
  same = c.in_ok-report_text.ensures;
}
