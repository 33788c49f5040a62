use Rattle.std.proofs.Common.{◌∙◌, sym, Option, Ok, subst}
use Rattle.bytes.specs.Filled.{Filled}
use Rattle.tokio_util.specs.Codec.Next.{Decodes}
use Rattle.tokio_util.specs.Codec.LengthDelimited.{gives_frames}
use Rattle.sessions.proofs.Cuts.{none_is_partial, frame_is_whole}
use Rattle.sessions.proofs.Refusing.{left_where_refused}
use Rattle.sessions.proofs.session.Session.take_frame.Goals as goal

pub unreachable-requires : goal.unreachable-requires
unreachable-requires c =
    let P : Option Filled → Type 0 = λ o. Decodes gives_frames c.codec.result c.args.self.now.buffer.items (Ok o) c.decode.new.self c.decode.new.src.items in
    let partial = none_is_partial c.codec.result c.args.self.now.buffer.items c.decode.new.self c.decode.new.src.items c.codec.ensures.layout c.codec.ensures.head (subst P c.in-Ok-None.field-0-is c.in-Ok-None.ensures.next) in
    let clash = sym partial ∙ c.requires.2 in
    cc

pub returns-in-Ok-Some-clause-frame : goal.returns-in-Ok-Some-clause-frame
returns-in-Ok-Some-clause-frame c =
    let P : Option Filled → Type 0 = λ o. Decodes gives_frames c.codec.result c.args.self.now.buffer.items (Ok o) c.decode.new.self c.decode.new.src.items in
    frame_is_whole c.codec.result c.args.self.now.buffer.items c.in-Ok-Some.frame c.decode.new.self c.decode.new.src.items c.codec.ensures.layout c.codec.ensures.head (subst P c.in-Ok-Some.field-0-is c.in-Ok-Some.ensures.next)

pub returns-in-Err-clause-left : goal.returns-in-Err-clause-left
returns-in-Err-clause-left c =
    let (payload, rest, whole) = c.requires in
    (payload, rest, whole, left_where_refused c.codec.result c.decode.new.self c.args.self.now.buffer.items c.decode.new.src.items payload rest c.in-Err.field-0 c.codec.ensures.layout c.codec.ensures.head whole c.in-Err.ensures.next)
