-- What is there of the words of `ask`, and that a request's JSON has no float.
use Rattle.std.proofs.Common.{◌≡◌, ℕ, Bool, List, [], ◌∷◌, map, false, refl, sym, Option, Some, None, is_some, option_map, string_bytes, option_and_then, codes, Result, Ok, Err, arith, subst, ap, ◌∙◌}
use Rattle.clap.specs.declared.parser.matches.Found.{Found}
use Rattle.clap.specs.Words.{Text, first_of, first_value, rows_of}
use Rattle.serde_json.specs.Data.{Data}
use Rattle.serde_json.specs.Written.{has_float, items_have_float}
use Rattle.job_core.specs.declared.admission.ProgramBytes.{ProgramBytes}
use Rattle.sessions.specs.Replies.{items}
use Rattle.sessions.specs.declared.request.JobObject.{JobObject}
use Rattle.bpfjobs_cli.specs.declared.ask.ServerQuestion.{ServerQuestion}
use Rattle.bpfjobs_cli.specs.declared.ask.ServerQuestion.TheVariants as question
use Rattle.bpfjobs_cli.specs.AskRequests.{IsRequestData, account_request, asked_program, grant_request, job_request, jobs_request, server_request, submit_request}
use Rattle.std.specs.Str.Parse.{ParsesUnsigned}
use Rattle.bpfjobs_cli.specs.declared.ask.AskWord.{AskWord}
use Rattle.bpfjobs_cli.specs.AskWords.{ask_word}
use Rattle.bpfjobs_cli.specs.Commands.{IsAskWordOf, IsJobNumber}
use Rattle.bpfjobs_cli.proofs.FlagLemmas.{first_is, first_some}

mapped : {X : Type 0} (now : X → Text) (o : Option X) → is_some o ≡ is_some (option_map now o)
mapped now None = refl
mapped now (Some x) = refl

-- whether an argument has a text
pub there_is : {X : Type 0} (now : X → Text) (f : Found) (id : Text) (o : Option X) (b : Bool) → option_map now o ≡ first_value f id → b ≡ is_some o
    → b ≡ is_some (first_of id (rows_of f))
there_is now f id o b e is = is ∙ mapped now o ∙ ap is_some (sym (first_is now f id o e))

-- the word that was read, if one was
pub word_said : {X : Type 0} (now : X → Text) (f : Found) (o : Option X) (said : X) (r : Option AskWord) (w : AskWord) → option_map now o ≡ first_value f (codes "word") → o ≡ Some said
    → r ≡ ask_word (now said) → r ≡ Some w → IsAskWordOf (rows_of f) w
word_said now f o said r w e is asked found =
    ap (λ (t : Option Text). option_and_then ask_word t) (first_some now f (codes "word") o said e is) ∙ sym asked ∙ found

pub no_word : {X : Type 0} (now : X → Text) (f : Found) (o : Option X) (said : X) (r : Option AskWord) → option_map now o ≡ first_value f (codes "word") → o ≡ Some said
    → r ≡ ask_word (now said) → r ≡ None → option_and_then ask_word (first_of (codes "word") (rows_of f)) ≡ None
no_word now f o said r e is asked found =
    ap (λ (t : Option Text). option_and_then ask_word t) (first_some now f (codes "word") o said e is) ∙ sym asked ∙ found

-- a text is the number that is read in it, or none
pub job_read : {E : Type 0} (text : Text) (r : Result ℕ E) (job : ℕ) → ParsesUnsigned 64 10 text r → r ≡ Ok job → IsJobNumber text job
job_read {E = E} text r job parses is =
    let p : ParsesUnsigned {E = E} 64 10 text (Ok job) = subst (λ (x : Result ℕ E). ParsesUnsigned {E = E} 64 10 text x) is parses in
    (p.0.0, p.1, omega (arith, p.1, p.0.1))

pub no_job : {E : Type 0} (text : Text) (r : Result ℕ E) (e : E) → ParsesUnsigned 64 10 text r → r ≡ Err e → (job : ℕ) → IsJobNumber text job → ⊥
no_job {E = E} text r e parses is job number =
    let p : ParsesUnsigned {E = E} 64 10 text (Err e) = subst (λ (x : Result ℕ E). ParsesUnsigned {E = E} 64 10 text x) is parses in
    p (number.0, omega (arith, number.1, number.2))

program_plain : (p : ProgramBytes) → has_float (asked_program p) ≡ false
unfolding asked_program
program_plain p = refl

programs_plain : (ps : List ProgramBytes) → items_have_float (items (map asked_program ps)) ≡ false
programs_plain [] = refl
programs_plain (p ∷ ps) = rw (program_plain p, programs_plain ps) refl

account_plain : (tenant : Option (List ℕ)) → has_float (account_request tenant) ≡ false
unfolding account_request
account_plain None = refl
account_plain (Some tenant) = refl

submit_plain : (tenant key : Option (List ℕ)) (job : JobObject) → has_float (submit_request tenant key job) ≡ false
unfolding submit_request
submit_plain None None job = rw (programs_plain job.programs.items) refl
submit_plain None (Some key) job = rw (programs_plain job.programs.items) refl
submit_plain (Some tenant) None job = rw (programs_plain job.programs.items) refl
submit_plain (Some tenant) (Some key) job = rw (programs_plain job.programs.items) refl

job_plain : (op : List ℕ) (job : ℕ) → has_float (job_request op job) ≡ false
unfolding job_request
job_plain op job = refl

jobs_plain : (from : Option ℕ) → has_float (jobs_request from) ≡ false
unfolding jobs_request
jobs_plain None = refl
jobs_plain (Some from) = refl

grant_plain : (tenant : List ℕ) (amount : ℕ) → has_float (grant_request tenant amount) ≡ false
unfolding grant_request
grant_plain tenant amount = refl

server_plain : (op : List ℕ) → has_float (server_request op) ≡ false
unfolding server_request
server_plain op = refl

pub request_plain : (q : ServerQuestion) (input : List ℕ) (d : Data) → IsRequestData q input d → has_float d ≡ false
request_plain (question.Account tenant) input d is = ap has_float is ∙ account_plain (option_map string_bytes tenant)
request_plain (question.Submit tenant key) input d is =
    ap has_float is.2 ∙ submit_plain (option_map string_bytes tenant) (option_map string_bytes key) is.0
request_plain (question.Status job) input d is = ap has_float is ∙ job_plain _ job
request_plain (question.Result job) input d is = ap has_float is ∙ job_plain _ job
request_plain (question.Jobs from) input d is = ap has_float is ∙ jobs_plain from
request_plain (question.Grant tenant amount) input d is = ap has_float is ∙ grant_plain (string_bytes tenant) amount
request_plain question.Server input d is = ap has_float is ∙ server_plain _
request_plain question.Stop input d is = ap has_float is ∙ server_plain _
