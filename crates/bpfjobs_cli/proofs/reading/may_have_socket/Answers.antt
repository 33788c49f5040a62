use Rattle.std.proofs.Common.{◌∙◌, ap, sym}
use Rattle.bpfjobs_cli.specs.Tenants.{is_socket_path}
use Rattle.bpfjobs_cli.proofs.reading.may_have_socket.Goals as goal

pub returns-in-Some-clause-none : goal.returns-in-Some-clause-none
returns-in-Some-clause-none c refused =
    (c.in-Some.path, c.in-Some.is, ap is_socket_path (sym c.deref.ensures) ∙ sym c.is_socket_path.ensures ∙ refused)
