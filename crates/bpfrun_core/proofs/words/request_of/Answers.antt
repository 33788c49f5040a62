use Rattle.std.proofs.Common.{rules, ◌≡◌, ℕ, codes, subst}
use Rattle.clap.specs.Words.{found_of, rows_of}
use Rattle.machine_model.specs.Limits.{max_credit}
use Rattle.bpfjobs_cli.specs.Commands.{IsNumberIn}
use Rattle.bpfjobs_cli.proofs.FlagLemmas.{first_is}
use Rattle.bpfrun_core.proofs.words.request_of.Goals as goal

pub returns-clause-parts : goal.returns-clause-parts
returns-clause-parts c =
    let limit : c.from.result ≡ max_credit = search rules in
    let P : ℕ → Type 0 = λ n. IsNumberIn (rows_of (found_of c.args.matches.now)) (codes "credit") 0 n c.number.result in record {
      file = c.file.ensures;
      memory = first_is (λ s. s.now) (found_of c.args.matches.now) (codes "memory") c.get_str.result c.get_str.ensures;
      need = c.need.ensures;
      credit = subst P limit c.number.ensures.number;
      arg = c.number-2.ensures.number;
      explains = c.flag.ensures;
      explains_all = c.flag-2.ensures;
      draws = c.flag-3.ensures;
      traces = c.flag-4.ensures;
      trace_json = first_is (λ s. s.now) (found_of c.args.matches.now) (codes "trace-json") c.get_str-2.result c.get_str-2.ensures;
    }
