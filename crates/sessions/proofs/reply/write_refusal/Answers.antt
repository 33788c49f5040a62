use Rattle.sessions.proofs.Lists.{none_of}
use Rattle.sessions.proofs.Writing.{refused, refused_program, refused_slot}
use Rattle.sessions.proofs.reply.write_refusal.Goals as goal

pub returns-in_default : goal.returns-in_default
returns-in_default c =
    refused c.args.out.now.items _ _ c.from.result c.args.code c.args.program c.args.slot c.from.ensures (none_of c.args.program (λ p is. c.in_default.not-Some p is)) c.in_ok-put_number.ensures c.in_ok-extend_from_slice.ensures.items

pub returns-in_default-slot : goal.returns-in_default-slot
returns-in_default-slot c =
    refused_program c.args.out.now.items _ _ _ c.from.result c.args.code c.from-2.result c.in-Some.program c.args.program c.args.slot c.from.ensures c.from-2.ensures c.in-Some.is (none_of c.args.slot (λ s is. c.in_default-slot.not-Some s is)) c.in_ok-put_number.ensures c.in_ok-put_number-2.ensures c.in_ok-extend_from_slice-2.ensures.items

pub returns : goal.returns
returns c =
    refused_slot c.args.out.now.items _ _ _ _ c.from.result c.args.code c.from-2.result c.in-Some.program c.from-3.result c.in-Some-slot.slot c.args.program c.args.slot c.from.ensures c.from-2.ensures c.from-3.ensures c.in-Some.is c.in-Some-slot.is c.in_ok-put_number.ensures c.in_ok-put_number-2.ensures c.in_ok-put_number-3.ensures c.in_ok-extend_from_slice-3.ensures.items
