use Rattle.std.proofs.Common.{◌≡◌, ◌≤◌, ◌++◌, ℕ, List, length, drop, arith, refl, subst}
use Rattle.telgovan_c.specs.Desks.{handed, short}
use Rattle.telgovan_c.proofs.DeskLemmas.{fetched_first, placed_short, placed_whole, told_as}
use Rattle.telgovan_c.proofs.desks.give_job.Goals as goal

-- the room is too short
pub returns-then-length-room : goal.returns-then-length-room
returns-then-length-room c =
    let p = placed_short c.in-Some.object.now c.args.room.now c.place_into.new.room c.place_into.ensures c.if-length-room.true in
    short c.in-Some.job c.in-Some.object.now c.in-Some.ensures.some refl p.0 p.1 refl refl

pub returns : goal.returns
returns c =
    let first = c.in-Some.ensures.some in
    let room = c.place_into.new.room in
    let p = placed_whole c.in-Some.object.now c.args.room.now room c.place_into.ensures (omega (arith, c.if-length-room.false)) in
    handed c.in-Some.job first.0
    (fetched_first c.fetch_job.result _ _ c.in-Some.job first.0 first.1 c.fetch_job.ensures.some c.fetch_job.ensures.none)
    c.fetch_job.ensures.ledger c.fetch_job.ensures.conversations
    (subst (λ (t : List ℕ). length t ≤ length c.args.room.now) first.2 p.0)
    (subst (λ (t : List ℕ). room ≡ t ++ drop (length t) c.args.room.now) first.2 p.1)
    (told_as c.in-Some.job c.in-Some.object.now first.0.items first.2) refl
