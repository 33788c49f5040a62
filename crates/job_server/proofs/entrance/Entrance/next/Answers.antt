use Rattle.std.proofs.Common.{◌∙◌, ◌+◌, ap, sym, arith}
use Rattle.job_server.specs.Listening.{in_vain, let_go, served}
use Rattle.job_server.proofs.entrance.Entrance.next.Goals as goal

pub invariant_of-self-then-may_enter : goal.invariant_of-self-then-may_enter
invariant_of-self-then-may_enter g c =
    let is = c.taking.invariant.0 in
    let few = c.taking.invariant.1 in
    let since = c.taking.invariant.3 in (
      omega (arith, is, c.if-self-eq0.false),
      few,
      ap (λ n. n + 1) c.taking.invariant.2 ∙ sym c.open-seat.ensures.opener,
      record {
        first = since.first;
        begun = since.begun;
        given = served _ _ _ since.given c.in-Ok.ensures.opens;
      },
      c.taking.invariant.4,
    )

pub taking-preserved-in-Ok : goal.taking-preserved-in-Ok
taking-preserved-in-Ok g c =
    let since = c.taking.invariant.3 in (
      c.taking.invariant.0,
      c.taking.invariant.1,
      c.taking.invariant.2,
      record {
        first = since.first;
        begun = since.begun;
        given = let_go _ _ _ since.given c.in-Ok.ensures.opens;
      },
      c.taking.invariant.4,
    )

pub taking-preserved : goal.taking-preserved
taking-preserved g c =
    let since = c.taking.invariant.3 in (
      c.taking.invariant.0,
      c.taking.invariant.1,
      c.taking.invariant.2,
      record {
        first = since.first;
        begun = since.begun;
        given = in_vain _ _ _ since.given c.in-Err.ensures.fails;
      },
      c.taking.invariant.4,
    )
