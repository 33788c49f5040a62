-- A query that goes to a desk goes to the one desk of the server that has no other.
use Rattle.std.proofs.Common.{◌≡◌, ℕ, ◌==◌, Bool, true, false, List, [], if◌then◌else◌, Result, Ok, Err, refl, ap}
use Rattle.sessions.specs.Grammar.{Asked, JobText, grant, account, submit, status, result}
use Rattle.server_state.specs.declared.access.Access.{Access}
use Rattle.server_state.specs.Queries.{Query, plain, keyed, jobs, counts, Destination, desk_at, refused_by, goes, desk_query, own_submit, request_goes, tenant_place}

-- the same connection at a server that has no other desk
abbrev pub home_of : Access → Access
home_of access = record access { desk = 0 }

granted_at : Bool → ℕ → Destination
granted_at b place = if b then desk_at place else refused_by 73

granted_home : (b : Bool) (k place : ℕ) → granted_at b k ≡ desk_at place → granted_at b 0 ≡ desk_at 0
unfolding granted_at
granted_home true k place is = refl
granted_home false k place is = cc

request_home : (names : List (List ℕ)) (place : ℕ) (access : Access) (asked : Result Asked ℕ) → request_goes names access asked ≡ desk_at place → request_goes [] (home_of access) asked ≡ desk_at 0
unfolding granted_at
request_home names place access (Err code) is = cc
request_home names place access (Ok (grant name amount)) is = granted_home access.may_grant (tenant_place names name) place is
request_home names place access (Ok (account name)) is = refl
request_home names place access (Ok (submit name job)) is = refl
request_home names place access (Ok (status number)) is = refl
request_home names place access (Ok (result number)) is = refl

pub goes_home : (names : List (List ℕ)) (place : ℕ) (access : Access) (query : Query) → goes names access query ≡ desk_at place → goes [] (home_of access) (desk_query names access query) ≡ desk_at 0
goes_home names place access (plain asked) is = request_home names place access asked is
goes_home names place access (keyed key asked) is = refl
goes_home names place access (jobs from) is = refl
goes_home names place access (counts stops) is = cc

-- ---- a query is asked of the one desk as it was asked of its own

submit_if : Bool → List ℕ → JobText → Result Asked ℕ
submit_if b name job = if b then Ok (submit name job) else Err 74

submit_home : (access : Access) (b : Bool) (name : List ℕ) (job : JobText) → own_submit [] (home_of access) (submit_if b name job) ≡ submit_if b name job
unfolding submit_if
submit_home access true name job = refl
submit_home access false name job = refl

own_home : (names : List (List ℕ)) (access : Access) (asked : Result Asked ℕ) → own_submit [] (home_of access) (own_submit names access asked) ≡ own_submit names access asked
unfolding submit_if
own_home names access (Err code) = refl
own_home names access (Ok (grant name amount)) = refl
own_home names access (Ok (account name)) = refl
own_home names access (Ok (submit name job)) = submit_home access (tenant_place names name == access.desk) name job
own_home names access (Ok (status number)) = refl
own_home names access (Ok (result number)) = refl

pub query_home : (names : List (List ℕ)) (access : Access) (query : Query) → desk_query [] (home_of access) (desk_query names access query) ≡ desk_query names access query
query_home names access (plain asked) = refl
query_home names access (keyed key asked) = ap (keyed key) (own_home names access asked)
query_home names access (jobs from) = refl
query_home names access (counts stops) = refl
