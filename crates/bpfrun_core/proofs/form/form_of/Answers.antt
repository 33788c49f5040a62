use Rattle.std.proofs.Common.{◌≡◌, codes, eqb, false, refl}
use Rattle.std.specs.List.{ends_with}
use Rattle.std.proofs.lemmas.Str.Pattern.{ends_text}
use Rattle.bpfrun_core.proofs.form.form_of.Goals as goal

pub returns-else-ends_with-2 : goal.returns-else-ends_with-2
returns-else-ends_with-2 c =
    let one : c.ends_with.result ≡ ends_with eqb c.args.path.now (codes ".bpf") = ends_text c.ends_with.result (codes ".bpf") c.args.path.now c.ends_with.ensures.cases in
    let two : c.ends_with-else-ends_with.result ≡ ends_with eqb c.args.path.now (codes ".hex") = ends_text c.ends_with-else-ends_with.result (codes ".hex") c.args.path.now c.ends_with-else-ends_with.ensures.cases in
    let first : ends_with eqb c.args.path.now (codes ".bpf") ≡ false = cc (one, c.if-ends_with.false) in
    let second : ends_with eqb c.args.path.now (codes ".hex") ≡ false = cc (two, c.if-ends_with-2.false) in
    rw (first, second) refl
