use Rattle.std.proofs.Common.{◌≡◌, ℕ, refl, sym, ◌∙◌, ap, add-one, ◌+◌, Some}
use Rattle.verifier.specs.Merges.{one_to}
use Rattle.machine_model.specs.Edges.{Always, NotTaken, Taken}
use Rattle.flow_graph.specs.declared.graph.Next.TheVariants.{One, Two}
use Rattle.machine_model.proofs.Codes.{begins_within}
use Rattle.verifier.proofs.Counting.{edges_one, edges_two}
use Rattle.verifier.proofs.Linking.{joint_one, linked_zero, linked_one, linked_two, one_end_two, link_to_one, counted_one, counted_two, room_for_one, room_for_two}
use Rattle.explain.proofs.predecessors.Predecessors.link.Goals as goal

pub returns-in-Zero : goal.returns-in-Zero
returns-in-Zero c = linked_zero c.args.graph.now.code c.args.self.now c.args.from (rw add-one at c.requires.linked) c.in-Zero.ensures

pub count-requires-clause-room : goal.count-requires-clause-room
count-requires-clause-room c =
    room_for_one c.args.graph.now.code c.args.self.now c.link_following.new.self.edges c.args.from c.in-One.to (rw add-one at c.requires.linked)
    c.slots-slots.ensures.flow.joined.few (c.slots-slots.ensures.flow.joined.lands c.args.from Always c.in-One.to c.in-One.ensures.0).0
    c.link_following.ensures.edges

pub returns-in-One : goal.returns-in-One
returns-in-One c =
    let within = (c.slots-slots.ensures.flow.joined.lands c.args.from Always c.in-One.to c.in-One.ensures.0).0 in
    linked_one c.args.graph.now.code c.args.self.now c.count.new.self c.args.from c.in-One.to (One c.in-One.to) (rw add-one at c.requires.linked)
    c.in-One.ensures (begins_within c.args.graph.now.code c.args.from c.requires.begins) within
    (Always, c.in-One.ensures.0) (λ s j. joint_one c.args.graph.now.code c.args.from c.in-One.to s c.in-One.ensures j) (λ links. refl)
    (c.count.ensures.first ∙ c.link_following.ensures.first) (c.count.ensures.following ∙ c.link_following.ensures.following)
    (c.count.ensures.taken ∙ c.link_following.ensures.taken)
    (counted_one c.args.graph.now.code c.args.self.now c.count.new.self c.args.from c.in-One.to (rw add-one at c.requires.linked) within
    (rw c.link_following.ensures.edges at c.count.ensures.edges) (λ s. edges_one c.args.graph.now.code c.args.from c.in-One.to s c.in-One.ensures))

pub count-requires-then-to-following-clause-room : goal.count-requires-then-to-following-clause-room
count-requires-then-to-following-clause-room c =
    room_for_one c.args.graph.now.code c.args.self.now c.link_following-then-to-following.new.self.edges c.args.from c.in-Two.to (rw add-one at c.requires.linked)
    c.slots-slots.ensures.flow.joined.few (c.slots-slots.ensures.flow.joined.lands c.args.from Taken c.in-Two.to c.in-Two.ensures.2).0
    c.link_following-then-to-following.ensures.edges

pub count-requires-then-to-following-2-clause-room : goal.count-requires-then-to-following-2-clause-room
count-requires-then-to-following-2-clause-room c =
    let within = (c.slots-slots.ensures.flow.joined.lands c.args.from Taken c.in-Two.to c.in-Two.ensures.2).0 in
    room_for_two c.args.graph.now.code c.args.self.now c.count-then-to-following.new.self.edges c.args.from c.in-Two.to c.in-Two.to (rw add-one at c.requires.linked)
    c.slots-slots.ensures.flow.joined.few within within
    (rw c.link_following-then-to-following.ensures.edges at c.count-then-to-following.ensures.edges)

pub returns-then-to-following : goal.returns-then-to-following
returns-then-to-following c =
    let within = (c.slots-slots.ensures.flow.joined.lands c.args.from Taken c.in-Two.to c.in-Two.ensures.2).0 in
    let same : c.in-Two.following ≡ c.in-Two.to = sym c.if-to-following.true in
    linked_one c.args.graph.now.code c.args.self.now c.count-then-to-following-2.new.self c.args.from c.in-Two.to (Two c.in-Two.following c.in-Two.to) (rw add-one at c.requires.linked)
    c.in-Two.ensures (begins_within c.args.graph.now.code c.args.from c.requires.begins) within
    (Taken, c.in-Two.ensures.2) (λ s j. one_end_two c.args.graph.now.code c.args.from c.in-Two.following c.in-Two.to c.if-to-following.true c.in-Two.ensures s j ∙ same)
    (λ links. link_to_one c.args.from c.in-Two.following c.in-Two.to links same)
    (c.count-then-to-following-2.ensures.first ∙ (c.count-then-to-following.ensures.first ∙ c.link_following-then-to-following.ensures.first))
    (c.count-then-to-following-2.ensures.following ∙ (c.count-then-to-following.ensures.following ∙ c.link_following-then-to-following.ensures.following))
    (c.count-then-to-following-2.ensures.taken ∙ (c.count-then-to-following.ensures.taken ∙ c.link_following-then-to-following.ensures.taken))
    (counted_two c.args.graph.now.code c.args.self.now c.count-then-to-following.new.self c.count-then-to-following-2.new.self c.args.from c.in-Two.to c.in-Two.to
    (rw add-one at c.requires.linked) within within
    (rw c.link_following-then-to-following.ensures.edges at c.count-then-to-following.ensures.edges) c.count-then-to-following-2.ensures.edges
    (λ s. edges_two c.args.graph.now.code c.args.from c.in-Two.following c.in-Two.to s c.in-Two.ensures
    ∙ ap (λ (k : ℕ). one_to (Some k) s + one_to (Some c.in-Two.to) s) same))

pub count-requires-else-to-following-clause-room : goal.count-requires-else-to-following-clause-room
count-requires-else-to-following-clause-room c =
    room_for_one c.args.graph.now.code c.args.self.now c.link_taken.new.self.edges c.args.from c.in-Two.following (rw add-one at c.requires.linked)
    c.slots-slots.ensures.flow.joined.few (c.slots-slots.ensures.flow.joined.lands c.args.from NotTaken c.in-Two.following c.in-Two.ensures.1).0
    (c.link_taken.ensures.edges ∙ c.link_following-else-to-following.ensures.edges)

pub count-requires-else-to-following-2-clause-room : goal.count-requires-else-to-following-2-clause-room
count-requires-else-to-following-2-clause-room c =
    room_for_two c.args.graph.now.code c.args.self.now c.count-else-to-following.new.self.edges c.args.from c.in-Two.following c.in-Two.to (rw add-one at c.requires.linked)
    c.slots-slots.ensures.flow.joined.few
    (c.slots-slots.ensures.flow.joined.lands c.args.from NotTaken c.in-Two.following c.in-Two.ensures.1).0
    (c.slots-slots.ensures.flow.joined.lands c.args.from Taken c.in-Two.to c.in-Two.ensures.2).0
    (rw (c.link_taken.ensures.edges, c.link_following-else-to-following.ensures.edges) at c.count-else-to-following.ensures.edges)

pub returns-else-to-following : goal.returns-else-to-following
returns-else-to-following c =
    let low = (c.slots-slots.ensures.flow.joined.lands c.args.from NotTaken c.in-Two.following c.in-Two.ensures.1).0 in
    let high = (c.slots-slots.ensures.flow.joined.lands c.args.from Taken c.in-Two.to c.in-Two.ensures.2).0 in
    linked_two c.args.graph.now.code c.args.self.now c.link_following-else-to-following.new.self c.count-else-to-following-2.new.self c.args.from c.in-Two.following c.in-Two.to
    (rw add-one at c.requires.linked) c.in-Two.ensures (begins_within c.args.graph.now.code c.args.from c.requires.begins) low high
    c.if-to-following.false
    c.link_following-else-to-following.ensures.first c.link_following-else-to-following.ensures.following c.link_following-else-to-following.ensures.taken
    (c.count-else-to-following-2.ensures.first ∙ (c.count-else-to-following.ensures.first ∙ c.link_taken.ensures.first))
    (c.count-else-to-following-2.ensures.following ∙ (c.count-else-to-following.ensures.following ∙ c.link_taken.ensures.following))
    (c.count-else-to-following-2.ensures.taken ∙ (c.count-else-to-following.ensures.taken ∙ c.link_taken.ensures.taken))
    (counted_two c.args.graph.now.code c.args.self.now c.count-else-to-following.new.self c.count-else-to-following-2.new.self c.args.from c.in-Two.following c.in-Two.to
    (rw add-one at c.requires.linked) low high
    (rw (c.link_taken.ensures.edges, c.link_following-else-to-following.ensures.edges) at c.count-else-to-following.ensures.edges) c.count-else-to-following-2.ensures.edges
    (λ s. edges_two c.args.graph.now.code c.args.from c.in-Two.following c.in-Two.to s c.in-Two.ensures))
