use Rattle.std.proofs.Common.{rules}
use Rattle.keyed_desk.proofs.KeysBack.{kept_change, kept_small, on_ok}
use Rattle.keyed_desk.proofs.keys_snapshot.add_key.Goals as goal

pub encode_record-requires : goal.encode_record-requires
encode_record-requires c =
    kept_small c.args.keyed.now.job c.as_bytes.result.now c.args.keyed.now.key c.deref.result.now c.write_key_kept.new.out.items c.new-payload.result.items (search rules) c.new-payload.ensures.items (c.in_ok-write_key_kept.ensures.bytes) c.deref.ensures.value c.as_str.ensures.is_key

pub returns : goal.returns
returns c =
    let small = kept_small c.args.keyed.now.job c.as_bytes.result.now c.args.keyed.now.key c.deref.result.now c.write_key_kept.new.out.items c.new-payload.result.items (search rules) c.new-payload.ensures.items (c.in_ok-write_key_kept.ensures.bytes) c.deref.ensures.value c.as_str.ensures.is_key in
    let change = kept_change c.args.keyed.now c.as_bytes.result.now c.deref.result.now c.write_key_kept.new.out.items c.new-payload.result.items (search rules) c.new-payload.ensures.items (c.in_ok-write_key_kept.ensures.bytes) c.deref.ensures.value c.as_str.ensures.is_key c.write_key_kept.ensures.narrow in
    on_ok c.encode_record.result (λ added. (c.deref.result.now, change, small, added)) c.encode_record.ensures
