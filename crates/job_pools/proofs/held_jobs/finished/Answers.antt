use Rattle.std.proofs.Common.{rules, sym}
use Rattle.std.proofs.lemmas.Map.Iter.{btree_map_turn}
use Rattle.std.specs.Map.Iter.{deref_pair}
use Rattle.std.specs.Cmp.{nat_cmp_total}
use Rattle.job_pools.proofs.held_jobs.finished.Goals as goal

pub returns-then-is_done : goal.returns-then-is_done
returns-then-is_done g c =
    let k = btree_map_turn deref_pair c.loop-number.yielded c.into_iter-number-iterator.result c.loop-number.number-iterator c.next.new.self c.next.result (c.in-Some.number, c.in-Some.key) c.loop-number.yielded_by c.in-Some.is c.next.ensures.steps nat_cmp_total c.args.keys.now (search rules) (search rules) in
    (k.1, (c.in-Some-get.running.now, sym c.in-Some-get.ensures))
