use Rattle.std.proofs.Common.{◌≡◌, ◌≤◌, ◌++◌, length, false}
use Rattle.bpfjobs_cli.proofs.ends.read_all.Given as goal

abbrev pub invariant-reads : goal.invariant-reads
invariant-reads g l = record {
  told : g.R.Source.transcript l.reader ≡ g.R.Source.transcript l.fn.reader ++ l.bytes.items;
  well : g.R.Source.has_failed l.reader ≡ false;
  many : l.counter ≤ length l.bytes.items;
}
