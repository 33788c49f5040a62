use Rattle.std.proofs.Common.{◌<◌, Some, length, sym, ap, ◌∙◌, rules}
use Rattle.job_pool.proofs.Desks.{index_get, looked_at}
use Rattle.job_pool.proofs.job_table.JobTable.look.Goals as goal

pub invariant_of-self : goal.invariant_of-self
invariant_of-self g c =
    let desks = c.args.self.now.desks.items in
    let jobs = c.index_mut.result.now in
    let below : c.from-desk.result < length desks = search rules in
    let e = c.look_at.ensures in
    let done = looked_at desks c.args.id c.from-desk.result jobs c.look_at.new.jobs c.from-desk.ensures (index_get desks c.from-desk.result jobs below ∙ ap Some (sym c.index_mut.ensures.value))
    c.args.self.now.named c.look_at.result e.some e.none e.others e.count in
    record { counted = c.args.self.now.counted ∙ sym done.1; named = done.0 }

pub returns : goal.returns
returns g c =
    let desks = c.args.self.now.desks.items in
    let jobs = c.index_mut.result.now in
    let below : c.from-desk.result < length desks = search rules in
    let e = c.look_at.ensures in
    (looked_at desks c.args.id c.from-desk.result jobs c.look_at.new.jobs c.from-desk.ensures (index_get desks c.from-desk.result jobs below ∙ ap Some (sym c.index_mut.ensures.value))
    c.args.self.now.named c.look_at.result e.some e.none e.others e.count).2
