use Rattle.std.proofs.Common.{arith, rules, ◌≡◌, ◌++◌, []}
use Rattle.std.specs.Prelude.{◌∷◌, string_bytes}
use Rattle.telgovan_c.proofs.LineLemmas.{line_more}
use Rattle.telgovan_c.proofs.job_traces.job_lines.Goals as goal

pub loop-done-preserved : goal.loop-done-preserved
loop-done-preserved c =
    let so_far = c.loop-done.invariant in
    let lined : string_bytes c.push_str.new.self ≡ string_bytes c.loop-done.text ++ string_bytes c.in_ok-format.field-0 = search rules in
    let fed : string_bytes c.push.new.self ≡ string_bytes c.push_str.new.self ++ 10 ∷ [] = search rules in
    (omega (arith, c.loop-done-test.true), line_more c.loop-done.done (string_bytes c.loop-done.text) (string_bytes c.in_ok-format.field-0) (string_bytes c.push.new.self) so_far.1 (rw lined at fed))
