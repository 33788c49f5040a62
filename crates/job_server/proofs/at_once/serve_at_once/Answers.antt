use Rattle.std.proofs.Common.{[], refl, inr, arith}
use Rattle.shared_desk.specs.Histories.{none_yet}
use Rattle.job_server.specs.Listening.{nothing_yet}
use Rattle.job_server.proofs.at_once.serve_at_once.Goals as goal

pub returns-in_default : goal.returns-in_default
returns-in_default g c = (
  record {
    history = [];
    opened = 0;
    closed = [];
    legal = none_yet (c.args.desk, c.args.handler) refl;
    others = λ n le. refl;
    parts = tt;
    served = λ k d lt. absurd (omega (arith, lt));
    well = tt;
    fault = inr (refl, inr (inr refl));
  },
  record { last = c.args.listener; given = nothing_yet },
  λ k d lt. absurd (omega (arith, lt)),
)

pub returns : goal.returns
returns g c =
    let of = c.serve_named.ensures.1 in
    let since = of.given in (
      c.serve_named.ensures.0,
      record {
        last = of.last;
        given = rw (← since.begun) since.given;
      },
      c.serve_named.ensures.2,
    )
