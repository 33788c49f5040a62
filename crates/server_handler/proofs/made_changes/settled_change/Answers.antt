use Rattle.std.proofs.Common.{Err, refl, ap, ◌∙◌}
use Rattle.server_handler.proofs.Settled.{ends_failed, ends_reported}
use Rattle.server_handler.proofs.made_changes.settled_change.Goals as goal

pub returns-in-Ok-Ok-clause-settled : goal.returns-in-Ok-Ok-clause-settled
returns-in-Ok-Ok-clause-settled g c old outcome over =
    (refl, λ keys. (ends_reported old c.args.desk.now c.args.id.number outcome over c.in-Ok-Ok.report (c.in-Ok-Ok.ensures.told ∙ c.in-Ok-Ok.field-0-is), refl))

pub returns-in-Ok-Err-Failed-clause-settled : goal.returns-in-Ok-Err-Failed-clause-settled
returns-in-Ok-Err-Failed-clause-settled g c old outcome over = (
  refl,
  λ keys. (
    ends_failed old c.args.desk.now c.args.id.number outcome over c.in-Ok-Err-Failed.code
        (c.in-Ok-Err-Failed.ensures.told ∙ c.in-Ok-Err-Failed.field-0-is ∙ ap Err c.in-Ok-Err-Failed.field-0-0-is),
    refl,
  ),
)
