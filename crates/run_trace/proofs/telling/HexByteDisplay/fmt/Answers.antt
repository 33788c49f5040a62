use Rattle.std.proofs.Common.{false, rules, ◌<◌}
use Rattle.std.proofs.lemmas.Fmt.{hex_byte}
use Rattle.run_trace.proofs.telling.HexByteDisplay.fmt.Goals as goal

pub returns-clause-writes : goal.returns-clause-writes
returns-clause-writes g c =
    let small : c.args.self.now.0 < 256 = search rules in
    let same = hex_byte false c.args.self.now.0 small in
    search (rules, same)
