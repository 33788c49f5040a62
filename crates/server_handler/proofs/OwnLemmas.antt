-- Names that are put in.
use Rattle.std.proofs.Common.{◌≡◌, ◌<◌, ℕ, List, [], ◌∷◌, length, Some, Result, Ok, refl, sym, ap, ◌∙◌, subst, arith}
use Rattle.sessions.specs.Grammar.{Asked, grant, account, submit, status, result}
use Rattle.streams.specs.Prepared.{submitter_of}
use Rattle.streams.specs.Submits.{of_tenant}
use Rattle.sessions.specs.declared.request.Request.{Request}
use Rattle.streams.specs.Hearing.{query_of}
use Rattle.streams.specs.Prepared.{asked_of}
use Rattle.streams.specs.declared.prepared_request.PreparedRequest.{PreparedRequest}
use Rattle.streams.specs.declared.prepared_request.PreparedRequest.TheVariants.{AsItCame, Submit}
use Rattle.server_state.specs.declared.access.Access.{Access}
use Rattle.server_handler.specs.Naming.{IsOwnNamed, IsUnnamed, own_name_of, named, own_name, own_named}

pub own_of_empty : (own name : List ℕ) → length name ≡ 0 → own_name own name ≡ own
own_of_empty own [] none = refl
own_of_empty own (b ∷ name) none = absurd (omega (arith, none))

pub own_of_name : (own name : List ℕ) → 0 < length name → own_name own name ≡ name
own_of_name own [] some = absurd (omega (arith, some))
own_of_name own (b ∷ name) some = refl

pub is_empty_name : (name : List ℕ) → length name ≡ 0 → name ≡ []
is_empty_name [] none = refl
is_empty_name (b ∷ name) none = absurd (omega (arith, none))

-- a request for a job

pub submit_of_own : (own name : List ℕ) (a : Asked) → submitter_of a ≡ Some name → length name ≡ 0 → of_tenant own a ≡ own_named own a
submit_of_own own name (submit n order) is none =
    let same : n ≡ name = cc in
    ap (λ m. submit m order) (sym (own_of_empty own n (ap length same ∙ none)))
submit_of_own own name (grant n amount) is none = absurd cc
submit_of_own own name (account n) is none = absurd cc
submit_of_own own name (status number) is none = absurd cc
submit_of_own own name (result number) is none = absurd cc

pub submit_as_it_is : (own name : List ℕ) (a : Asked) → submitter_of a ≡ Some name → 0 < length name → a ≡ own_named own a
submit_as_it_is own name (submit n order) is some =
    let same : n ≡ name = cc in
    ap (λ m. submit m order) (sym (own_of_name own n (subst (λ m. 0 < length m) (sym same) some)))
submit_as_it_is own name (grant n amount) is some = absurd cc
submit_as_it_is own name (account n) is some = absurd cc
submit_as_it_is own name (status number) is some = absurd cc
submit_as_it_is own name (result number) is some = absurd cc

pub submit_unnamed : (name : List ℕ) (a : Asked) → submitter_of a ≡ Some name → length name ≡ 0 → IsUnnamed a
submit_unnamed name (submit n order) is none = let same : n ≡ name = cc in same ∙ is_empty_name name none
submit_unnamed name (grant n amount) is none = absurd cc
submit_unnamed name (account n) is none = absurd cc
submit_unnamed name (status number) is none = absurd cc
submit_unnamed name (result number) is none = absurd cc

-- what is asked of the desks

pub put_in_name : (names : List (List ℕ)) (access : Access) (own : List ℕ) (a x : Asked) → own ≡ own_name_of names access → x ≡ own_named own a → IsOwnNamed names access (Ok a) (Ok x)
put_in_name names access own a x whose is =
    subst (λ (y : Asked). IsOwnNamed names access (Ok a) (Ok y)) (sym (is ∙ ap (λ (o : List ℕ). own_named o a) whose)) (named a)

pub of_what_came : (names : List (List ℕ)) (access : Access) (r : PreparedRequest) (came heard : Result Request ℕ) (asked : Result Asked ℕ) → r ≡ AsItCame came → came ≡ heard → IsOwnNamed names access (query_of heard) asked → IsOwnNamed names access (asked_of r) asked
of_what_came names access r came heard asked is same own =
    subst (λ (p : PreparedRequest). IsOwnNamed names access (asked_of p) asked) (sym is) (subst (λ (h : Result Request ℕ). IsOwnNamed names access (query_of h) asked) (sym same) own)

pub of_a_submit : (names : List (List ℕ)) (access : Access) (r : PreparedRequest) (a : Asked) (asked : Result Asked ℕ) → r ≡ Submit a → IsOwnNamed names access (Ok a) asked → IsOwnNamed names access (asked_of r) asked
of_a_submit names access r a asked is own = subst (λ (p : PreparedRequest). IsOwnNamed names access (asked_of p) asked) (sym is) own
