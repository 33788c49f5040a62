use Rattle.std.proofs.Common.{Bool, ◌||◌, ap₂, ◌∙◌}
use Rattle.std.proofs.lemmas.Result.{IfOk-weaker}
use Rattle.clap.specs.Words.{with_rule}
use Rattle.bpfjobs_cli.proofs.program.serve.Goals as goal

pub returns-clause-app : goal.returns-clause-app
returns-clause-app c =
    let first = c.in_ok-arg.ensures.shape c.port.ensures.local ∙ ap₂ with_rule c.serving.ensures.app c.port.ensures.rule in
    let second = c.in_ok-arg-2.ensures.shape c.socket.ensures.local ∙ ap₂ with_rule first c.socket.ensures.rule in
    let third = c.in_ok-arg-3.ensures.shape c.grants.ensures.local ∙ ap₂ with_rule second c.grants.ensures.rule in
    let fourth = c.in_ok-arg-4.ensures.shape c.tenant.ensures.local ∙ ap₂ with_rule third c.tenant.ensures.rule in
    let fifth = c.in_ok-arg-5.ensures.shape c.tenants.ensures.local ∙ ap₂ with_rule fourth c.tenants.ensures.rule in
    let sixth = c.in_ok-arg-6.ensures.shape c.tenant_jobs.ensures.local ∙ ap₂ with_rule fifth c.tenant_jobs.ensures.rule in
    let seventh = c.in_ok-arg-7.ensures.shape c.workers.ensures.local ∙ ap₂ with_rule sixth c.workers.ensures.rule in
    let eighth = c.in_ok-arg-8.ensures.shape c.sessions.ensures.local ∙ ap₂ with_rule seventh c.sessions.ensures.rule in
    let ninth = c.in_ok-arg-9.ensures.shape c.clients.ensures.local ∙ ap₂ with_rule eighth c.clients.ensures.rule in
    let tenth = c.in_ok-arg-10.ensures.shape c.timeout.ensures.local ∙ ap₂ with_rule ninth c.timeout.ensures.rule in
    let eleventh = c.in_ok-arg-11.ensures.shape c.open_jobs.ensures.local ∙ ap₂ with_rule tenth c.open_jobs.ensures.rule in
    let twelfth = c.in_ok-arg-12.ensures.shape c.keep.ensures.local ∙ ap₂ with_rule eleventh c.keep.ensures.rule in
    let thirteenth = c.in_ok-arg-13.ensures.shape c.keep_bytes.ensures.local ∙ ap₂ with_rule twelfth c.keep_bytes.ensures.rule in
    let fourteenth = c.in_ok-arg-14.ensures.shape c.journal.ensures.local ∙ ap₂ with_rule thirteenth c.journal.ensures.rule in
    let fifteenth = c.in_ok-arg-15.ensures.shape c.journal_sync.ensures.local ∙ ap₂ with_rule fourteenth c.journal_sync.ensures.rule in
    let sixteenth = c.in_ok-arg-16.ensures.shape c.until_eof.ensures.local ∙ ap₂ with_rule fifteenth c.until_eof.ensures.rule in
    IfOk-weaker c.arg-17.result _ _ (λ r h. h.shape c.log.ensures.local ∙ ap₂ with_rule sixteenth c.log.ensures.rule) c.arg-17.ensures

pub returns-clause-local : goal.returns-clause-local
returns-clause-local c =
    let either : Bool → Bool → Bool = λ a b. a || b in
    let first = c.in_ok-arg.ensures.globals ∙ ap₂ either c.serving.ensures.local c.port.ensures.local in
    let second = c.in_ok-arg-2.ensures.globals ∙ ap₂ either first c.socket.ensures.local in
    let third = c.in_ok-arg-3.ensures.globals ∙ ap₂ either second c.grants.ensures.local in
    let fourth = c.in_ok-arg-4.ensures.globals ∙ ap₂ either third c.tenant.ensures.local in
    let fifth = c.in_ok-arg-5.ensures.globals ∙ ap₂ either fourth c.tenants.ensures.local in
    let sixth = c.in_ok-arg-6.ensures.globals ∙ ap₂ either fifth c.tenant_jobs.ensures.local in
    let seventh = c.in_ok-arg-7.ensures.globals ∙ ap₂ either sixth c.workers.ensures.local in
    let eighth = c.in_ok-arg-8.ensures.globals ∙ ap₂ either seventh c.sessions.ensures.local in
    let ninth = c.in_ok-arg-9.ensures.globals ∙ ap₂ either eighth c.clients.ensures.local in
    let tenth = c.in_ok-arg-10.ensures.globals ∙ ap₂ either ninth c.timeout.ensures.local in
    let eleventh = c.in_ok-arg-11.ensures.globals ∙ ap₂ either tenth c.open_jobs.ensures.local in
    let twelfth = c.in_ok-arg-12.ensures.globals ∙ ap₂ either eleventh c.keep.ensures.local in
    let thirteenth = c.in_ok-arg-13.ensures.globals ∙ ap₂ either twelfth c.keep_bytes.ensures.local in
    let fourteenth = c.in_ok-arg-14.ensures.globals ∙ ap₂ either thirteenth c.journal.ensures.local in
    let fifteenth = c.in_ok-arg-15.ensures.globals ∙ ap₂ either fourteenth c.journal_sync.ensures.local in
    let sixteenth = c.in_ok-arg-16.ensures.globals ∙ ap₂ either fifteenth c.until_eof.ensures.local in
    IfOk-weaker c.arg-17.result _ _ (λ r h. h.globals ∙ ap₂ either sixteenth c.log.ensures.local) c.arg-17.ensures
