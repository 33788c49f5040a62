use Rattle.std.proofs.Common.{ap, subst, map, string_bytes, sym, ◌∙◌}
use Rattle.clap.specs.Words.{is_simple, is_simple_and_free, matches_of, takes}
use Rattle.bpfrun_core.specs.Requests.{IsRequestOf, SaysRequest}
use Rattle.bpfrun_core.proofs.WordLemmas.{is_plain, line_says, of_kind, plain}
use Rattle.bpfrun_core.proofs.words.request.Goals as goal

pub request_of-requires : goal.request_of-requires
request_of-requires c =
    let rows = (c.in-Ok.ensures.matches (ap is_simple c.in_ok-bpfrun.ensures ∙ is_plain)).0 in
    let says = line_says (map string_bytes c.args.words.now) _ c.in_ok-bpfrun.ensures (c.in-Ok.ensures.kinds (ap is_simple_and_free c.in_ok-bpfrun.ensures ∙ plain)) in
    subst SaysRequest (sym rows) says

pub returns-in-Ok-clause-ok : goal.returns-in-Ok-clause-ok
returns-in-Ok-clause-ok c =
    let simple = ap is_simple c.in_ok-bpfrun.ensures ∙ is_plain in
    let rows = (c.in-Ok.ensures.matches simple).0 ∙ ap (λ a. matches_of a (map string_bytes c.args.words.now)) c.in_ok-bpfrun.ensures in
    subst (λ rows. IsRequestOf rows c.request_of.result) rows c.request_of.ensures.parts

pub returns-in-Err-clause-err : goal.returns-in-Err-clause-err
returns-in-Err-clause-err c = (
  λ taken. c.in-Err.ensures.passes (ap (λ a. takes a (map string_bytes c.args.words.now)) c.in_ok-bpfrun.ensures ∙ taken),
  of_kind (map string_bytes c.args.words.now) _ c.in-Err.error c.in_ok-bpfrun.ensures (c.in-Err.ensures.kinds (ap is_simple_and_free c.in_ok-bpfrun.ensures ∙ plain)),
)
