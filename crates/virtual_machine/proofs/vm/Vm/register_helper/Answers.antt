use Rattle.std.proofs.Common.{arith}
use Rattle.virtual_machine.proofs.Places.{have_same, have_put, function_put}
use Rattle.virtual_machine.proofs.vm.Vm.register_helper.Goals as goal

pub invariant_of-self : goal.invariant_of-self
invariant_of-self g c = record {
  same = c.args.self.now.same;
  have = have_same _ _ _ c.args.self.now.have c.make_room.ensures.same;
}

pub invariant_of-self-2 : goal.invariant_of-self-2
invariant_of-self-2 g c =
    let id = c.requires.id in
    let room = c.in_ok-make_room.ensures.room in
    let roomed = have_same _ _ _ c.args.self.now.have c.make_room.ensures.same in
    record {
      same = λ p is. cc (c.requires.unset, is);
      have = have_put c.args.self.now.helpers c.add.new.self c.make_room.new.self.places.items c.args.id _ c.of.result id.0
          (omega (arith, id.0, id.1, room)) roomed c.in_ok-add.ensures.ok c.put.new.self.places.items c.put.ensures;
    }

pub returns-clause-function : goal.returns-clause-function
returns-clause-function g c =
    let id = c.requires.id in
    let room = c.in_ok-make_room.ensures.room in (
      c.of.result,
      rw c.put.ensures (function_put c.make_room.new.self.places.items c.args.id c.of.result id.0
          (omega (arith, id.0, id.1, room))),
      c.of.ensures,
    )
