use Rattle.std.proofs.Common.{rules, ◌+◌, ◌-◌, ◌*◌, ◌<◌, ◌≤◌, length, refl, sym, ap, ◌∙◌, arith}
use Rattle.std.specs.Result.{result_ok}
use Rattle.hex.proofs.HexLemmas.{decode_of-even}
use Rattle.hex.proofs.Pairs.{decode_step, decode_err, decode_done}
use Rattle.sessions.proofs.Blocks.{joined_step}
use Rattle.sessions.proofs.Lists.{none_of}
use Rattle.sessions.proofs.Results.{read_ok, read_err}
use Rattle.sessions.proofs.hexadecimal.decoded.Goals as goal

pub joined-preserved : goal.joined-preserved
joined-preserved c =
    let inside : 2 * (c.wholes.done + c.joined.i) + 1 < length c.args.text.now = search rules in
    let room : c.wholes.done + c.joined.i < length c.joined.bytes.items = search rules in (
      search rules,
      joined_step c.args.text.now c.joined.bytes.items c.in-Some.values (2 * c.wholes.done + 64 - 2 * c.wholes.done) c.wholes.done c.joined.i (search rules) (omega arith) c.in-Some.ensures inside room c.joined.invariant.1,
    )

pub returns-in_default-pair_value-clause-err : goal.returns-in_default-pair_value-clause-err
returns-in_default-pair_value-clause-err c = λ not_memory.
    let inside : 2 * c.pairs.i + 1 < length c.args.text.now = search rules in
    let fails = read_err _ (sym (none_of c.pair_value.result (λ s is. c.in_default-pair_value.not-Some s is)) ∙ c.pair_value.ensures (2 * c.pairs.i)) in
    (refl, ap result_ok (decode_of-even c.args.text.now c.if-text-ne0.false ∙ decode_err c.args.text.now c.pairs.bytes.items c.pairs.i fails.0 inside fails.1 c.pairs.invariant.1))

pub pairs-preserved : goal.pairs-preserved
pairs-preserved c =
    let inside : 2 * c.pairs.i + 1 < length c.args.text.now = search rules in
    let room : c.pairs.i < length c.pairs.bytes.items = search rules in
    let reads = read_ok _ c.in-Some-pair_value.byte (c.in-Some-pair_value.ensures (2 * c.pairs.i)) in
    (search rules, decode_step c.args.text.now c.pairs.bytes.items c.pairs.i c.in-Some-pair_value.byte inside room reads c.pairs.invariant.1)

pub returns-clause-ok : goal.returns-clause-ok
returns-clause-ok c =
    let all : length c.pairs.bytes.items ≤ c.pairs.i = search rules in
    decode_of-even c.args.text.now c.if-text-ne0.false
    ∙ decode_done c.args.text.now c.pairs.bytes.items c.pairs.i all (omega (arith, all, c.pairs.invariant.0)) c.pairs.invariant.1
