use Rattle.std.proofs.Common.{Some, refl, ap}
use Rattle.std.specs.Prelude.{option_map}
use Rattle.sessions.specs.declared.door_forms.DoorForm.TheVariants.{Keyed}
use Rattle.shared_desk.specs.Answered.{query_by}
use Rattle.tenant_desks.specs.AtDoors.{submit_frame, unless_known}
use Rattle.tenant_desks.proofs.DoorLemmas.{tells_reply}
use Rattle.tenant_desks.proofs.door_answers.tell_again.Goals as goal

pub returns-clause-answered : goal.returns-clause-answered
returns-clause-answered g c =
    tells_reply g.H.SharedHandler.answers g.H.KeyedHandler.keeps_key (c.args.desk.now, record { handler = c.args.handler.now; keys = c.args.keys.now }) (c.ask_nothing.new.desk, record { handler = c.ask_nothing.new.handler; keys = c.args.keys.now })
    (query_by c.args.passage c.args.request (Some (Keyed (Some c.args.key)))) (submit_frame c.args.job) c.of_reply.result (ap (option_map submit_frame) c.requires.known) (ap (λ o. unless_known o c.args.key) c.requires.known) c.ask_nothing.ensures.asked refl c.ask_nothing.ensures.kept
    c.of_reply.ensures
