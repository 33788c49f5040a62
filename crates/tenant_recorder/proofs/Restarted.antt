-- Open jobs that were started again.
use Rattle.std.proofs.Common.{◌≡◌, ◌<◌, ℕ, zero, suc, List, [], ◌∷◌, ◌++◌, length, map, slice_get, slice_set, Some, Vec, Result, Ok, Err, OnOk, IfErr, refl, sym, ap, subst, ◌∙◌, arith}
use Rattle.std.specs.declared.alloc.Global.{Global}
use Rattle.std.proofs.lemmas.List.{map-append}
use Rattle.job_core.specs.Admitted.{AdmittedJob}
use Rattle.accounts.specs.Ledgers.{Ledger}
use Rattle.desk_journal.specs.declared.journaled_desk.OpenJob.{OpenJob}
use Rattle.desk_recorder.specs.Restarts.{RefusesStart, StartsEach, none_yet, one_more}
use Rattle.tenant_desks.specs.declared.placed_runner.PlacedRunner.{PlacedRunner}
use Rattle.tenant_desks.specs.PlacedRunners.{starts_placed}
use Rattle.tenant_desks.specs.Tenancies.{ChangesAt}
use Rattle.tenant_desks.specs.Answering.{for_place}
use Rattle.tenant_recorder.specs.TenantRestarts.{RefusesStartOf, RestartsEach, one_more as one_desk_more}

-- a place has an item, and stays as it is where it gets that item
some_at : {A : Type 0} (xs : List A) (n : ℕ) → n < length xs → (x : A) × (slice_get xs n ≡ Some x) × (xs ≡ slice_set xs n x)
some_at [] n few = absurd (omega (arith, few))
some_at (x ∷ xs) zero few = (x, refl, refl)
some_at (x ∷ xs) (suc n) few =
    let rest = some_at xs n (omega (arith, few)) in
    (rest.0, rest.1, ap (λ ys. x ∷ ys) rest.2)

as_many : (before : List (Vec OpenJob Global)) → length (map (λ (v : Vec OpenJob Global). v.items) before) ≡ length before
as_many [] = refl
as_many (v ∷ before) = ap suc (as_many before)

module _ {R : Type 0} (starts : R → ℕ → AdmittedJob → Result (Unit {0}) ℕ → R → Type 0) where
  -- the runner stays at its place
  stays : (d : Ledger) (r : PlacedRunner R) (jobs : List OpenJob) (e : Ledger) (s : PlacedRunner R) → StartsEach (starts_placed starts) d r jobs e s → s.place ≡ r.place
  stays d r jobs e s none_yet = refl
  stays d r jobs e s (one_more before m q job outcome t n earlier step noted) = step.1 ∙ stays d r before m q earlier

  pub restarted_at : (place : ℕ) (d : Ledger) (r : R) (jobs : List OpenJob) (e : Ledger) (s : PlacedRunner R) → StartsEach (starts_placed starts) d (for_place place r) jobs e s
      → StartsEach (starts_placed starts) d (for_place place r) jobs e (for_place place s.runner)
  restarted_at place d r jobs e s started =
      subst (λ (p : ℕ). StartsEach (starts_placed starts) d (for_place place r) jobs e (for_place p s.runner)) (stays d (for_place place r) jobs e s started) started

  -- one desk more
  pub restarted_more : (desks : List Ledger) (runner : R) (before : List (Vec OpenJob Global)) (ds : List Ledger) (r : R) (jobs : Vec OpenJob Global) (place : ℕ) (es : List Ledger) (s : R)
      → place ≡ length before → RestartsEach starts desks runner (map (λ (v : Vec OpenJob Global). v.items) before) ds r
      → ChangesAt place (λ d e. StartsEach (starts_placed starts) d (for_place place r) jobs.items e (for_place place s)) ds es
      → RestartsEach starts desks runner (map (λ (v : Vec OpenJob Global). v.items) (before ++ jobs ∷ [])) es s
  restarted_more desks runner before ds r jobs place es s is led change =
      let there = subst (λ (n : ℕ). ChangesAt n (λ d e. StartsEach (starts_placed starts) d (for_place n r) jobs.items e (for_place n s)) ds es) (is ∙ sym (as_many before)) change in
      subst (λ (js : List (List OpenJob)). RestartsEach starts desks runner js es s) (sym (map-append (λ (v : Vec OpenJob Global). v.items) before (jobs ∷ [])))
      (one_desk_more (map (λ (v : Vec OpenJob Global). v.items) before) ds r jobs.items es s led there)

  -- so does one whose jobs are all started, or of which one is refused
  pub placed_ok : (place : ℕ) (r : R) (jobs : List OpenJob) (result : Result (Unit {0}) ℕ) (s : PlacedRunner R)
      → OnOk result ((desk : Ledger) → StartsEach (starts_placed starts) desk (for_place place r) jobs desk s)
      → OnOk result ((desk : Ledger) → StartsEach (starts_placed starts) desk (for_place place r) jobs desk (for_place place s.runner))
  placed_ok place r jobs (Ok done) s started = λ desk. restarted_at place desk r jobs desk s (started desk)
  placed_ok place r jobs (Err code) s started = tt

  -- the desks stay as they are
  pub restarted_same : (desks : List Ledger) (runner : R) (before : List (Vec OpenJob Global)) (r : R) (jobs : Vec OpenJob Global) (place : ℕ) (s : R)
      → place ≡ length before → place < length desks → RestartsEach starts desks runner (map (λ (v : Vec OpenJob Global). v.items) before) desks r
      → ((desk : Ledger) → StartsEach (starts_placed starts) desk (for_place place r) jobs.items desk (for_place place s))
      → RestartsEach starts desks runner (map (λ (v : Vec OpenJob Global). v.items) (before ++ jobs ∷ [])) desks s
  restarted_same desks runner before r jobs place s is few led started =
      let there = some_at desks place few in
      restarted_more desks runner before desks r jobs place desks s is led (record { before = there.0; was = there.1; after = there.0; changed = started there.0; is = there.2 })

  pub placed_refused : (place : ℕ) (r : R) (jobs : List OpenJob) (result : Result (Unit {0}) ℕ) (s : PlacedRunner R)
      → IfErr result (λ code. (desk : Ledger) → RefusesStart (starts_placed starts) desk (for_place place r) jobs code s)
      → IfErr result (λ code. (desk : Ledger) → RefusesStart (starts_placed starts) desk (for_place place r) jobs code (for_place place s.runner))
  placed_refused place r jobs (Ok done) s refused = tt
  placed_refused place r jobs (Err code) s refused = λ desk.
      let k = refused desk in
      let at_place : s.place ≡ place = k.refused.1 ∙ stays desk (for_place place r) k.before desk k.middle k.started in
      subst (λ (p : ℕ). RefusesStart (starts_placed starts) desk (for_place place r) jobs code (for_place p s.runner)) at_place k

  -- a desk of whose jobs one is refused, behind desks whose jobs are all started
  pub refused_at : (desks : List Ledger) (runner : R) (before : List (Vec OpenJob Global)) (r : R) (jobs : Vec OpenJob Global) (after whole : List (Vec OpenJob Global)) (place code : ℕ) (s : R)
      → whole ≡ before ++ jobs ∷ after → place ≡ length before → RestartsEach starts desks runner (map (λ (v : Vec OpenJob Global). v.items) before) desks r
      → ((desk : Ledger) → RefusesStart (starts_placed starts) desk (for_place place r) jobs.items code (for_place place s))
      → RefusesStartOf starts desks runner (map (λ (v : Vec OpenJob Global). v.items) whole) code s
  refused_at desks runner before r jobs after whole place code s is at led refused = record {
    before = map (λ (v : Vec OpenJob Global). v.items) before;
    jobs = jobs.items;
    after = map (λ (v : Vec OpenJob Global). v.items) after;
    is = ap (map (λ (v : Vec OpenJob Global). v.items)) is ∙ map-append (λ (v : Vec OpenJob Global). v.items) before (jobs ∷ after);
    middle = r;
    started = led;
    refused = λ desk. subst (λ (n : ℕ). RefusesStart (starts_placed starts) desk (for_place n r) jobs.items code (for_place n s)) (at ∙ sym (as_many before)) (refused desk);
  }
