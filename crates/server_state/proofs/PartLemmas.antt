-- The events of a desk, of a history that is longer by one, and its waiting jobs.
use Rattle.std.proofs.Common.{◌≡◌, ◌≢◌, ℕ, ◌==◌, Bool, true, false, List, [], ◌∷◌, ◌++◌, refl, ap, ◌∙◌, arith, append-nil}
use Rattle.std.proofs.lemmas.Bool.Decides.{nat_tests}
use Rattle.job_core.specs.Admitted.{AdmittedJob}
use Rattle.server_state.specs.declared.job_id.JobId.{JobId}
use Rattle.server_state.specs.Histories.{ServerEvent}
use Rattle.server_state.specs.Alone.{is_of, put_if, at_home, part_of, job_at_home, waiting_of}

put_joined : {X : Type 0} (b : Bool) (x : X) (xs ys : List X) → put_if b x (xs ++ ys) ≡ put_if b x xs ++ ys
put_joined true x xs ys = refl
put_joined false x xs ys = refl

part_joined : (names : List (List ℕ)) (place : ℕ) (events : List ServerEvent) (e : ServerEvent) → part_of names place (events ++ e ∷ []) ≡ part_of names place events ++ put_if (is_of names place e) (at_home names e) []
part_joined names place [] e = refl
part_joined names place (x ∷ events) e =
    ap (put_if (is_of names place x) (at_home names x)) (part_joined names place events e)
    ∙ put_joined (is_of names place x) (at_home names x) (part_of names place events) (put_if (is_of names place e) (at_home names e) [])

-- an event of the desk
pub part_here : (names : List (List ℕ)) (place : ℕ) (events : List ServerEvent) (e : ServerEvent) → is_of names place e ≡ true
    → part_of names place (events ++ e ∷ []) ≡ part_of names place events ++ at_home names e ∷ []
part_here names place events e is = part_joined names place events e ∙ ap (λ b. part_of names place events ++ put_if b (at_home names e) []) is

-- an event of another desk, or of none
pub part_elsewhere : (names : List (List ℕ)) (place : ℕ) (events : List ServerEvent) (e : ServerEvent) → is_of names place e ≡ false
    → part_of names place (events ++ e ∷ []) ≡ part_of names place events
part_elsewhere names place events e is =
    part_joined names place events e ∙ ap (λ b. part_of names place events ++ put_if b (at_home names e) []) is ∙ append-nil (part_of names place events)

pub this_place : (place : ℕ) → (place == place) ≡ true
this_place place = grind (arith, nat_tests)

pub other_place : (i place : ℕ) → i ≢ place → (i == place) ≡ false
other_place i place apart = grind (arith, nat_tests, apart)

-- ---- waiting jobs

waiting_joined : (place : ℕ) (jobs : List (JobId × AdmittedJob)) (job : JobId × AdmittedJob) → waiting_of place (jobs ++ job ∷ []) ≡ waiting_of place jobs ++ put_if (job.0.desk == place) (job_at_home job) []
waiting_joined place [] job = refl
waiting_joined place (x ∷ jobs) job =
    ap (put_if (x.0.desk == place) (job_at_home x)) (waiting_joined place jobs job)
    ∙ put_joined (x.0.desk == place) (job_at_home x) (waiting_of place jobs) (put_if (job.0.desk == place) (job_at_home job) [])

pub waiting_here : (place : ℕ) (jobs : List (JobId × AdmittedJob)) (job : JobId × AdmittedJob) → job.0.desk ≡ place → waiting_of place (jobs ++ job ∷ []) ≡ waiting_of place jobs ++ job_at_home job ∷ []
waiting_here place jobs job is =
    waiting_joined place jobs job ∙ ap (λ b. waiting_of place jobs ++ put_if b (job_at_home job) []) (ap (λ (d : ℕ). d == place) is ∙ this_place place)

pub waiting_elsewhere : (place : ℕ) (jobs : List (JobId × AdmittedJob)) (job : JobId × AdmittedJob) → job.0.desk ≢ place → waiting_of place (jobs ++ job ∷ []) ≡ waiting_of place jobs
waiting_elsewhere place jobs job apart =
    waiting_joined place jobs job ∙ ap (λ b. waiting_of place jobs ++ put_if b (job_at_home job) []) (other_place job.0.desk place apart) ∙ append-nil (waiting_of place jobs)

pub first_here : (place : ℕ) (job : JobId × AdmittedJob) (jobs : List (JobId × AdmittedJob)) → job.0.desk ≡ place → waiting_of place (job ∷ jobs) ≡ job_at_home job ∷ waiting_of place jobs
first_here place job jobs is = ap (λ b. put_if b (job_at_home job) (waiting_of place jobs)) (ap (λ (d : ℕ). d == place) is ∙ this_place place)

pub first_elsewhere : (place : ℕ) (job : JobId × AdmittedJob) (jobs : List (JobId × AdmittedJob)) → job.0.desk ≢ place → waiting_of place (job ∷ jobs) ≡ waiting_of place jobs
first_elsewhere place job jobs apart = ap (λ b. put_if b (job_at_home job) (waiting_of place jobs)) (other_place job.0.desk place apart)
