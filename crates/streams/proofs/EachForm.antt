-- What was done for each form of request is what the frame asks.
use Rattle.std.proofs.Common.{◌≡◌, ◌⊎◌, ℕ, List, refl, sym, subst, None, Result, Ok, Err, String, string_bytes, Vec}
use Rattle.std.specs.declared.alloc.Global.{Global}
use Rattle.serde_json.specs.Data.{Data}
use Rattle.credit_book.specs.declared.board.Progress.{Progress}
use Rattle.job_core.specs.declared.admission.ProgramBytes.{ProgramBytes}
use Rattle.job_core.specs.Admitted as core
use Rattle.accounts.specs.Ledgers.{Ledger, account_at, progress_at, report_at}
use Rattle.sessions.specs.Grammar.{Asked, request_asked}
use Rattle.sessions.specs.declared.request.Request.{Request}
use Rattle.sessions.specs.declared.request.Request.TheVariants as request
use Rattle.sessions.specs.declared.reply.Reply.{Reply}
use Rattle.sessions.specs.declared.reply.Reply.TheVariants as reply
use Rattle.sessions.specs.Replies.{reply_data}
use Rattle.streams.specs.Hearing.{query_of}
use Rattle.streams.specs.Submits.{submit_asked}
use Rattle.streams.specs.Answering.{Grants, GrantsNone, Replies, Submits, account_told, progress_told, refused, report_told}

module _ {R : Type 0} (starts : R → ℕ → core.AdmittedJob → Result (Unit {0}) ℕ → R → Type 0) (looks : R → ℕ → Progress → R → Type 0)
    (desk after : Ledger) (runner left : R) (asks : Request) (told : Data) where
  -- what is told to this request
  abbrev told_to : Request → Type 0
  told_to r = Replies starts looks desk runner (Ok (request_asked r)) told after left

  pub to_grant : (tenant : String Global) (amount : ℕ) (name : List ℕ) → asks ≡ request.Grant tenant amount → name ≡ string_bytes tenant → left ≡ runner →
      (Grants desk name amount told after ⊎ GrantsNone desk name amount told after) → told_to asks
  unfolding Replies
  to_grant tenant amount name is same stays done =
      let P : List ℕ → Type 0 = λ n. Grants desk n amount told after ⊎ GrantsNone desk n amount told after in
      subst told_to (sym is) (subst P same done, stays)

  pub to_account : (tenant : String Global) (name : List ℕ) → asks ≡ request.Account tenant → name ≡ string_bytes tenant → after ≡ desk → left ≡ runner →
      told ≡ account_told (account_at desk name) → told_to asks
  unfolding Replies
  to_account tenant name is same kept stays tells =
      let P : List ℕ → Type 0 = λ n. told ≡ account_told (account_at desk n) in
      subst told_to (sym is) (subst P same tells, kept, stays)

  pub to_submit : (tenant : String Global) (programs : Vec ProgramBytes Global) (credit : ℕ) (buffer : Vec ℕ Global) (name : List ℕ) (list : List ProgramBytes) →
      asks ≡ request.Submit tenant programs credit buffer → name ≡ string_bytes tenant → list ≡ programs.items →
      Submits starts desk runner name list credit buffer.items told after left → told_to asks
  unfolding Replies
  to_submit tenant programs credit buffer name list is same listed done =
      let P : List ℕ → Type 0 = λ n. Submits starts desk runner n list credit buffer.items told after left in
      let Q : List ProgramBytes → Type 0 = λ ps. Submits starts desk runner (string_bytes tenant) ps credit buffer.items told after left in
      subst told_to (sym is) (programs.items, refl, subst Q listed (subst P same done))

  pub to_status : (number : ℕ) → asks ≡ request.Status number → after ≡ desk →
      ((seen : Progress) × looks runner number seen left × (told ≡ progress_told (progress_at desk number seen))) → told_to asks
  unfolding Replies
  to_status number is kept done = subst told_to (sym is) (done.0, done.1, done.2, kept)

  pub to_result : (number : ℕ) → asks ≡ request.Result number → after ≡ desk → left ≡ runner → told ≡ report_told (report_at desk number) → told_to asks
  unfolding Replies
  to_result number is kept stays tells = subst told_to (sym is) (tells, kept, stays)

-- and to what is no request, the number of its refusal
pub to_none : {R : Type 0} (starts : R → ℕ → core.AdmittedJob → Result (Unit {0}) ℕ → R → Type 0) (looks : R → ℕ → Progress → R → Type 0) (desk : Ledger) (runner : R)
    (asks : Result Request ℕ) (code : ℕ) (told : Reply) → asks ≡ Err code → told ≡ reply.Refused code None None →
    Replies starts looks desk runner (query_of asks) (reply_data told) desk runner
unfolding Replies
to_none starts looks desk runner asks code told is tells =
    let P : Result Request ℕ → Type 0 = λ a. Replies starts looks desk runner (query_of a) (reply_data told) desk runner in
    let Q : Reply → Type 0 = λ t. reply_data t ≡ refused code in
    subst P (sym is) (subst Q (sym tells) refl, refl, refl)

pub to_admitted : {R : Type 0} (starts : R → ℕ → core.AdmittedJob → Result (Unit {0}) ℕ → R → Type 0) (looks : R → ℕ → Progress → R → Type 0) (desk after : Ledger) (runner left : R) (told : Data)
    (asked : Asked) (tenant : String Global) (programs : List ProgramBytes) (credit : ℕ) (buffer : List ℕ) (name : List ℕ) → asked ≡ submit_asked tenant programs credit buffer →
    name ≡ string_bytes tenant → Submits starts desk runner name programs credit buffer told after left → Replies starts looks desk runner (Ok asked) told after left
unfolding Replies
to_admitted starts looks desk after runner left told asked tenant programs credit buffer name is same done =
    let P : List ℕ → Type 0 = λ n. Submits starts desk runner n programs credit buffer told after left in
    subst (λ (a : Asked). Replies starts looks desk runner (Ok a) told after left) (sym is) (programs, refl, subst P same done)
