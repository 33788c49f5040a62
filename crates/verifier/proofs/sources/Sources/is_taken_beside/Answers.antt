use Rattle.std.proofs.Common.{◌∙◌, sym}
use Rattle.verifier.proofs.Linking.{joint_zero, joint_one}
use Rattle.verifier.proofs.sources.Sources.is_taken_beside.Goals as goal

pub returns-in-Zero : goal.returns-in-Zero
returns-in-Zero c = λ yes s joint ne. absurd (joint_zero c.args.graph.now.code c.args.from s (rw c.in-Zero.is at c.requires.next) joint)

pub returns-in-One : goal.returns-in-One
returns-in-One c =
    let next = rw c.in-One.is at c.requires.next in
    λ yes s joint ne. absurd (ne (joint_one c.args.graph.now.code c.args.from c.in-One.field-0 s next joint
    ∙ sym (joint_one c.args.graph.now.code c.args.from c.in-One.field-0 c.args.to next c.requires.joint)))
