use Rattle.keyed_desk.proofs.KeysBack.{key_added, keys_added}
use Rattle.keyed_desk.proofs.keys_snapshot.add_keys.Goals as goal

pub keys-preserved : goal.keys-preserved
keys-preserved c =
    let added = c.in_ok-add_key.ensures in
    key_added c.args.keys.now c.keys.rest.now c.in-Some.others.now c.in-Some.first.now c.args.out.now.items c.keys.out.items c.add_key.new.out.items added.0 c.keys.invariant c.in-Some.ensures.cases.0 added.1 added.2 added.3

pub returns : goal.returns
returns c = keys_added c.args.keys.now c.keys.rest.now c.args.out.now.items c.keys.out.items c.keys.invariant c.in_default.ensures.cases
