use Rattle.std.proofs.Common.{rules}
use Rattle.lanes.proofs.Trying.{one_more_tried}
use Rattle.lanes.proofs.seated_thief.first_stolen.Goals as goal

pub loop-place-preserved : goal.loop-place-preserved
loop-place-preserved g c = record {
  tried = one_more_tried g.T.Carried.task 100 c.loop-place.place c.args.ways.now.items c.loop-place.ways.items c.index_mut.result.now c.take.new.self
      (search rules) c.index_mut.ensures.value c.in_default.ensures.moved.0 c.loop-place.invariant.tried;
  own = search rules;
  same = search rules;
}
