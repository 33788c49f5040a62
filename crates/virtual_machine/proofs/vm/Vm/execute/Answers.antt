use Rattle.virtual_machine.proofs.Places.{have_alike}
use Rattle.virtual_machine.proofs.vm.Vm.execute.Goals as goal

pub run_alone-requires-clause-functions : goal.run_alone-requires-clause-functions
run_alone-requires-clause-functions g c =
    have_alike c.in-Some.program.helpers c.args.self.now.helpers c.args.self.now.functions.places.items
    (c.args.self.now.same c.in-Some.program c.in-Some.is) c.args.self.now.have
