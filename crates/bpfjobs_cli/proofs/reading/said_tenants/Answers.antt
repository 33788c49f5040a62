use Rattle.std.proofs.Common.{◌≡◌, ◌∙◌, [], List, Ok, Option, ap, codes, option_map, subst, sym, unwrap_or}
use Rattle.std.specs.Prelude.{IfErr, IfOk}
use Rattle.std.specs.Borrow.{Bor}
use Rattle.clap.specs.Words.{Text, found_of, rows_of}
use Rattle.bpfjobs_cli.specs.Commands.{tenant_words}
use Rattle.bpfjobs_cli.specs.Entries.{IsWordUsage}
use Rattle.bpfjobs_cli.specs.declared.tenant_socket.TenantSocket.{TenantSocket}
use Rattle.bpfjobs_cli.specs.Tenants.{Entered, NamedTenant, entered, tenants_in, words_said}
use Rattle.bpfjobs_cli.proofs.FlagLemmas.{all_is}
use Rattle.bpfjobs_cli.proofs.TurnLemmas.{texts}
use Rattle.bpfjobs_cli.proofs.reading.said_tenants.Goals as goal

abbrev ok_of : List NamedTenant → Entered
ok_of ts = Ok ts

pub returns-in-Some-clause-ok : goal.returns-in-Some-clause-ok
returns-in-Some-clause-ok c =
    let all = all_is (found_of c.args.matches.now) (codes "tenant") c.get_strs.result c.get_strs.ensures in
    let is : tenant_words (rows_of (found_of c.args.matches.now)) ≡ texts c.in-Some.words.now = ap (λ (o : Option (List Text)). unwrap_or o []) (all ∙ ap (option_map (λ (s : Bor (List (Bor Text))). texts s.now)) c.in-Some.is) in
    subst (λ (ws : List Text). IfOk c.tenants_of_words.result (λ ts. entered [] 0 (words_said ws) ≡ Ok (tenants_in ts.items))) (sym is) c.tenants_of_words.ensures.ok

pub returns-in-Some-clause-err : goal.returns-in-Some-clause-err
returns-in-Some-clause-err c =
    let all = all_is (found_of c.args.matches.now) (codes "tenant") c.get_strs.result c.get_strs.ensures in
    let is : tenant_words (rows_of (found_of c.args.matches.now)) ≡ texts c.in-Some.words.now = ap (λ (o : Option (List Text)). unwrap_or o []) (all ∙ ap (option_map (λ (s : Bor (List (Bor Text))). texts s.now)) c.in-Some.is) in
    subst (λ (ws : List Text). IfErr c.tenants_of_words.result (λ u. IsWordUsage ws u)) (sym is) c.tenants_of_words.ensures.err

pub returns-in-None-clause-ok : goal.returns-in-None-clause-ok
returns-in-None-clause-ok c =
    let all = all_is (found_of c.args.matches.now) (codes "tenant") c.get_strs.result c.get_strs.ensures in
    let is : tenant_words (rows_of (found_of c.args.matches.now)) ≡ [] = ap (λ (o : Option (List Text)). unwrap_or o []) (all ∙ ap (option_map (λ (s : Bor (List (Bor Text))). texts s.now)) c.in-None.is) in
    ap (λ (ws : List Text). entered [] 0 (words_said ws)) is ∙ sym (ap (λ (ts : List TenantSocket). ok_of (tenants_in ts)) c.new.ensures.items)
