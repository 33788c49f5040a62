use Rattle.std.proofs.Common.{◌≡◌, ◌∙◌, sym, ap, subst, arith, rules, length, slice_get, Some, List, Option}
use Rattle.credit_book.specs.Buffers.{buffer_of}
use Rattle.job_core.specs.declared.live.Live.{Live}
use Rattle.job_core.specs.Filled.{filled_buffer}
use Rattle.job_core.specs.Keeping.{kept_of}
use Rattle.job_core.specs.Representation.{WorldState, RepresentsJob}
use Rattle.job_core.proofs.Buffers.{filled_behind, part_inside}
use Rattle.job_core.proofs.world.World.buffer.Goals as goal

pub fill-requires : goal.fill-requires
fill-requires c = λ n live e.
    let start : c.extend_from_slice.new.self.items ≡ buffer_of c.self.inside.tasks.ledger.book.size c.self.inside.tasks.ledger.book.history = search rules in
    let behind = c.self.invariant.1 in
    let there = subst (λ (ls : List (Option Live)). slice_get ls n ≡ Some (Some live)) c.deref.ensures.value e in
    let inside = part_inside (kept_of c.self.inside.tasks) c.self.invariant.0 n live behind there in
    omega (arith, inside, behind.size, ap length start)

pub returns : goal.returns
returns c = λ j behind.
    let start : c.extend_from_slice.new.self.items ≡ buffer_of c.self.inside.tasks.ledger.book.size c.self.inside.tasks.ledger.book.history = search rules in
    c.fill.ensures ∙ ap (λ (ls : List (Option Live)). filled_buffer ls c.extend_from_slice.new.self.items) c.deref.ensures.value
    ∙ ap (filled_buffer c.self.inside.tasks.ledger.lives.items) start
    ∙ filled_behind (kept_of c.self.inside.tasks) j (subst (λ (k : WorldState). RepresentsJob k j) (sym c.self.view_is) behind)
