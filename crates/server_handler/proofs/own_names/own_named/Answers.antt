use Rattle.std.proofs.Common.{map, string_bytes}
use Rattle.sessions.specs.Grammar.{request_asked}
use Rattle.server_handler.specs.Naming.{no_memory, no_request}
use Rattle.server_handler.proofs.OwnLemmas.{of_a_submit, of_what_came, put_in_name}
use Rattle.server_handler.proofs.own_names.own_named.Goals as goal

pub returns-in-AsItCame-Err : goal.returns-in-AsItCame-Err
returns-in-AsItCame-Err c =
    of_what_came (map string_bytes c.args.names.now) c.args.access c.args.request _ _ _ c.in-AsItCame-Err.is c.in-AsItCame-Err.field-0-is (no_request c.in-AsItCame-Err.code)

pub returns-in-Ok : goal.returns-in-Ok
returns-in-Ok c =
    of_what_came (map string_bytes c.args.names.now) c.args.access c.args.request _ _ _ c.in-AsItCame-Ok.is c.in-AsItCame-Ok.field-0-is
    (put_in_name (map string_bytes c.args.names.now) c.args.access c.own_name_of-own.result.now (request_asked c.in-AsItCame-Ok.request) (request_asked c.in-Ok.request) c.own_name_of-own.ensures c.in-Ok.ensures.named)

pub returns-in-Err : goal.returns-in-Err
returns-in-Err c =
    of_what_came (map string_bytes c.args.names.now) c.args.access c.args.request _ _ _ c.in-AsItCame-Ok.is c.in-AsItCame-Ok.field-0-is
    (no_memory (request_asked c.in-AsItCame-Ok.request) c.in-Err.ensures.unnamed)

pub returns-in-Ok-own_submit : goal.returns-in-Ok-own_submit
returns-in-Ok-own_submit c =
    of_a_submit (map string_bytes c.args.names.now) c.args.access c.args.request _ _ c.in-Submit.is
    (put_in_name (map string_bytes c.args.names.now) c.args.access c.own_name_of-own.result.now c.in-Submit.submit c.in-Ok-own_submit.submit c.own_name_of-own.ensures c.in-Ok-own_submit.ensures.named)

pub returns-in-Err-own_submit : goal.returns-in-Err-own_submit
returns-in-Err-own_submit c =
    of_a_submit (map string_bytes c.args.names.now) c.args.access c.args.request _ _ c.in-Submit.is (no_memory c.in-Submit.submit c.in-Err-own_submit.ensures.unnamed)
