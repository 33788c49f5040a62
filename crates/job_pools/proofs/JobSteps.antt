-- Each step keeps the rule of the register of jobs.
use Rattle.std.proofs.Common.{◌≡◌, ◌≢◌, ◌==◌, ◌⊎◌, inl, inr, ℕ, Bool, true, false, true≢false, List, [], ◌∷◌, ◌++◌, length, set, if◌then◌else◌, Option, Some, None, refl, sym, ap, ◌∙◌, subst, ⊎_elim, zero, suc, arith}
use Rattle.std.proofs.lemmas.Bool.Decides.{nat_tests}
use mathlib.Core.Option.{some, some-ne-none, some-injective}
use lib.ListN.{get_elem?}
use Rattle.atomic_table.specs.Table.{State, Me, Step, keeps, Allows, Splits, Joins}
use Rattle.atomic_table.proofs.Lists.{at_set, set_again}
use Rattle.job_core.specs.Admitted.{AdmittedJob}
use Rattle.job_pools.specs.declared.job_seats.JobView.{JobView}
use Rattle.job_pools.specs.declared.job_seats.StartedJob.{StartedJob}
use Rattle.job_pools.specs.Started.{started_at}
use Rattle.job_pools.specs.JobRule.{nobody, keeper, first_keeper, job_seat, with_job, without_job, only_job, FitsRegister, IsRegister, EntersJob, KnowsJob}

off : false ≡ true → ⊥
off e = true≢false (sym e)

-- the rule, of a state
abbrev pub Ruling : State (Unit {0}) JobView → Type 0
Ruling s = IsRegister s.views

-- what stands in a list that is longer by one
at_end : (l : List JobView) (a b : JobView) (j : ℕ) → get_elem? (l ++ a ∷ []) j ≡ some b → (get_elem? l j ≡ some b) ⊎ ((j ≡ length l) × (a ≡ b))
at_end [] a b zero e = inr (refl, some-injective a b e)
at_end [] a b (suc j) e = absurd (some-ne-none b (sym e))
at_end (x ∷ xs) a b zero e = inl e
at_end (x ∷ xs) a b (suc j) e = later (at_end xs a b j e)
  where
    later : (get_elem? xs j ≡ some b) ⊎ ((j ≡ length xs) × (a ≡ b)) → (get_elem? xs j ≡ some b) ⊎ ((suc j ≡ suc (length xs)) × (a ≡ b))
    later (inl was) = inl was
    later (inr t) = inr (ap suc t.0, t.1)

-- one view changes
fits_set : (at : ℕ) (started : List StartedJob) (views : List JobView) (by : ℕ) (w : JobView) → ((j : ℕ) (u : JobView) → j ≢ by → get_elem? views j ≡ some u → FitsRegister at started j u) → FitsRegister at started by w
    → (j : ℕ) (u : JobView) → get_elem? (set views by w) j ≡ some u → FitsRegister at started j u
fits_set at started views by w others mine j u e =
    ⊎_elim
    (λ (x : (j ≡ by) × (w ≡ u)). subst (λ (y : ℕ × JobView). FitsRegister at started y.0 y.1) (λ i. (sym x.0 i, x.1 i)) mine)
    (λ (x : (j ≢ by) × (get_elem? views j ≡ some u)). others j u x.0 x.1)
    (at_set views by j w u e)

-- and a new one comes behind
fits_end : (at : ℕ) (started : List StartedJob) (views : List JobView) (w : JobView) → ((j : ℕ) (u : JobView) → get_elem? views j ≡ some u → FitsRegister at started j u) → FitsRegister at started (length views) w
    → (j : ℕ) (u : JobView) → get_elem? (views ++ w ∷ []) j ≡ some u → FitsRegister at started j u
fits_end at started views w others mine j u e =
    ⊎_elim
    (λ (was : get_elem? views j ≡ some u). others j u was)
    (λ (x : (j ≡ length views) × (w ≡ u)). subst (λ (y : ℕ × JobView). FitsRegister at started y.0 y.1) (λ i. (sym x.0 i, x.1 i)) mine)
    (at_end views w u j e)

-- a view that knows nothing fits anywhere
nobody_fits : (at : ℕ) (started : List StartedJob) (by : ℕ) → FitsRegister at started by nobody
nobody_fits at started by = record { keeping = λ e. absurd (off e); knowing = λ e. absurd (off e) }

pub begins : IsRegister (first_keeper ∷ [])
begins = record { keeper_at = 0; started = []; each = one }
  where
    one : (by : ℕ) (v : JobView) → get_elem? (first_keeper ∷ []) by ≡ some v → FitsRegister 0 [] by v
    one zero v e = subst (FitsRegister 0 [] 0) (some-injective _ _ e) (record { keeping = λ k. (refl, refl); knowing = λ s. absurd (off s) })
    one (suc by) v e = absurd (some-ne-none v (sym e))

-- the seat of a job leaves the keeper's
pub leaves : (id : ℕ) (v : JobView) → Splits Ruling id v (without_job v) (only_job v)
leaves id v s kept at =
    let mine = kept.each id v at in
    record {
      keeper_at = kept.keeper_at;
      started = kept.started;
      each = fits_end kept.keeper_at kept.started (set s.views id (without_job v)) (only_job v)
          (fits_set kept.keeper_at kept.started s.views id (without_job v)
          (λ j u apart e. kept.each j u e)
          (record { keeping = mine.keeping; knowing = λ e. absurd (off e) }))
          (record { keeping = λ e. absurd (off e); knowing = mine.knowing });
    }

-- and is taken in again
pub takes : (id : ℕ) (v : JobView) (other : ℕ) (w : JobView) → Joins Ruling id v other w (with_job v w) nobody
takes id v other w s kept at apart there =
    let was : get_elem? s.views other ≡ some w =
    ⊎_elim (λ (t : (other ≡ id) × (with_job v w ≡ w)). absurd (apart t.0)) (λ (t : (other ≢ id) × (get_elem? s.views other ≡ some w)). t.1) (at_set s.views id other (with_job v w) w there) in
    let theirs = kept.each other w was in
    let mine = kept.each id v at in
    record {
      keeper_at = kept.keeper_at;
      started = kept.started;
      each = fits_set kept.keeper_at kept.started (set s.views id (with_job v w)) other nobody
          (λ j u away e. fits_set kept.keeper_at kept.started s.views id (with_job v w)
          (λ i x differs found. kept.each i x found)
          (record { keeping = mine.keeping; knowing = theirs.knowing }) j u e)
          (nobody_fits _ _ _);
    }

-- another number's job is what it was
pub started_before : (j : StartedJob) (started : List StartedJob) (n : ℕ) (job : AdmittedJob) → started_at j.number started ≡ None → started_at n started ≡ Some job → started_at n (j ∷ started) ≡ Some job
started_before j started n job none found =
    let differs : n ≢ j.number = λ same. let clash : None ≡ Some job = sym none ∙ (ap (λ (k : ℕ). started_at k started) (sym same) ∙ found) in absurd (cc) in
    ap (λ (b : Bool). if◌then◌else◌ {A = Option AdmittedJob} b (Some j.job) (started_at n started)) (apart n j.number differs) ∙ found
  where
    apart : (m k : ℕ) → m ≢ k → (m == k) ≡ false
    apart m k differs = grind (arith, nat_tests)

pub started_now : (j : StartedJob) (started : List StartedJob) → started_at j.number (j ∷ started) ≡ Some j.job
started_now j started =
    ap (λ (b : Bool). if◌then◌else◌ {A = Option AdmittedJob} b (Some j.job) (started_at j.number started)) (alike j.number)
  where
    alike : (m : ℕ) → (m == m) ≡ true
    alike m = grind (arith, nat_tests)

module _ (slots id : ℕ) (me : Me (Unit {0}) JobView) (st : Step (Unit {0})) where
  -- a job is entered
  pub enters : (may : StartedJob → Type 0) (j : StartedJob) → me.0.is_keeper ≡ true → may j → started_at j.number me.0.started ≡ None → Allows Ruling slots id me 0 (λ n. n) (EntersJob may st me)
  enters may j keep allowed none s kept homes at fits =
      let known = (kept.each id me.0 at).keeping keep in
      let now = j ∷ kept.started in
      let w = with_job (keeper (j ∷ me.0.started)) (job_seat j.number j.job) in
      let free : started_at j.number kept.started ≡ None = ap (started_at j.number) (sym known.1) ∙ none in (
        w,
        keeps,
        tt,
        record {
          keeper_at = kept.keeper_at;
          started = now;
          each = fits_set kept.keeper_at now s.views id w
              (λ i u apart e. let f = kept.each i u e in
              record {
                keeping = λ k. absurd (apart ((f.keeping k).0 ∙ sym known.0));
                knowing = λ k. started_before j kept.started u.number u.job free (f.knowing k);
              })
              (record { keeping = λ k. (known.0, ap (λ (l : List StartedJob). j ∷ l) known.1); knowing = λ k. started_now j kept.started });
        },
        (j, allowed, refl),
      )

  -- the job whose seat was taken in was started
  pub finds : me.0.is_keeper ≡ true → me.0.is_job ≡ true → Allows Ruling slots id me 0 (λ n. n) (KnowsJob st me)
  finds keep serve s kept homes at fits =
      let mine = kept.each id me.0 at in
      let known = mine.keeping keep in (
        me.0,
        keeps,
        tt,
        record {
          keeper_at = kept.keeper_at;
          started = kept.started;
          each = λ j u e. kept.each j u (subst (λ (l : List JobView). get_elem? l j ≡ some u) (set_again s.views id me.0 at) e);
        },
        (refl, ap (started_at me.0.number) known.1 ∙ mine.knowing serve),
      )
