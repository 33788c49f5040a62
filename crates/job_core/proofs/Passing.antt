-- A task that runs along the entries that name it, and the entries that are left once it isn't alive.
use Rattle.std.proofs.Common.{◌≡◌, ℕ, zero, suc, ◌<◌, ◌≤◌, ◌+◌, ◌-◌, ◌∷◌, ◌++◌, [], arith, List, drop, get_or, length, replicate, slice_get, take, take-append-drop, refl, sym, ◌∙◌, ap, subst, Option, Some, None, inl, inr}
use Rattle.std.proofs.lemmas.Bool.{cases_lt}
use Rattle.std.proofs.lemmas.List.{append-nil, append_assoc}
use Rattle.std.proofs.lemmas.Option.{slice_get_within, slice_get-get_or}
use Rattle.std.proofs.Math.Seq.{take-length}
use Rattle.machine_model.specs.JobState as job
use Rattle.machine_model.specs.JobState.{JobState, IsAlive, IsComplete}
use Rattle.job_core.specs.declared.live.Live.{Live}
use Rattle.job_core.specs.declared.tasks.Stepped.{Stepped}
use Rattle.job_core.specs.declared.tasks.Stepped.TheVariants.{Skipped, Went, Ended}
use Rattle.job_core.specs.Representation.{WorldState, RepresentsJob, PlaysOn, Steps}
use Rattle.job_core.specs.OneTask.{RunsTask}
use Rattle.job_core.proofs.Plays.{alive_is}
use Rattle.job_core.proofs.Runs.{leads_more, take_alike, take_named}
use Rattle.job_core.proofs.Simulates.{skipped, unknown}

-- a number at which nothing live is kept is skipped
skips_at : (kept : WorldState) (j : JobState) (n : ℕ) (o : Option Live) → RepresentsJob kept j → slice_get kept.lives n ≡ Some o →
    ((live : Live) → slice_get kept.lives n ≡ Some (Some live) → ⊥) → Steps kept j n Skipped kept
skips_at kept j n None behind here none = skipped kept j n behind here
skips_at kept j n (Some live) behind here none = absurd (none live here)

-- where one job behind what is kept has no live task of that number, no job there has
pub skips_dead : (kept : WorldState) (last : JobState) (n : ℕ) → RepresentsJob kept last → (IsAlive last n → ⊥) →
    (j : JobState) → RepresentsJob kept j → Steps kept j n Skipped kept
skips_dead kept last n of_last dead j behind = elim (cases_lt n (length kept.lives)) [
  | inl low ↦
      let none : Option Live = None in
      skips_at kept j n (get_or kept.lives n none) behind (slice_get-get_or kept.lives n none low)
      (λ live there. dead ((alive_is kept last n of_last).0 (live, there)))
  | inr high ↦ unknown kept j n behind high
]

-- more entries that name no live task
pub leads_past : (old kept : WorldState) (schedule : List ℕ) (n count : ℕ) → ((j : JobState) → RepresentsJob kept j → Steps kept j n Skipped kept) →
    PlaysOn old (take count schedule) kept → (k : ℕ) → count + k ≤ length schedule → ((i : ℕ) → i < count + k → get_or schedule i 0 ≡ n) →
    PlaysOn old (take (count + k) schedule) kept
leads_past old kept schedule n count steps so_far zero fits named =
    let all : count ≡ count + 0 = omega arith in
    subst (λ m. PlaysOn old (take m schedule) kept) all so_far
leads_past old kept schedule n count steps so_far (suc k) fits named =
    let lt : count + k < length schedule = omega (arith, fits) in
    let on = leads_past old kept schedule n count steps so_far k (omega (arith, fits)) (λ i less. named i (omega (arith, less))) in
    let one_more : count + k + 1 ≡ count + suc k = omega arith in
    subst (λ ns. PlaysOn old ns kept) (sym (take_named schedule (count + k) n lt (named (count + k) (omega arith))) ∙ ap (λ m. take m schedule) one_more)
    (leads_more old kept kept (take (count + k) schedule) n Skipped on refl steps)

module _ (old new : WorldState) (schedule : List ℕ) (n named count : ℕ) where
  -- the entries that are left once it isn't alive
  past_dead : (last : JobState) → RepresentsJob new last → (IsAlive last n → ⊥) → PlaysOn old (take count schedule) new → count ≤ named →
      named ≤ length schedule → ((i : ℕ) → i < named → get_or schedule i 0 ≡ n) → PlaysOn old (take named schedule) new
  past_dead last of_last dead leads most fits alike =
      let all : count + (named - count) ≡ named = omega (arith, most) in
      subst (λ m. PlaysOn old (take m schedule) new) all
      (leads_past old new schedule n count (skips_dead new last n of_last dead) leads (named - count) (omega (arith, most, fits))
      (λ i less. alike i (omega (arith, less, most))))

  -- All entries that name the task are gone along: it went on to the last of them, or it isn't alive behind those that ran.
  pub leads_through : (came_to : Stepped) (j : JobState) → RunsTask old j n count came_to new → PlaysOn old (replicate count n) new →
      (came_to ≡ Went → count ≡ named) → count ≤ named → named ≤ length schedule → ((i : ℕ) → i < named → get_or schedule i 0 ≡ n) →
      PlaysOn old (take named schedule) new
  leads_through came_to j runs leads whole most fits alike =
      let same = take_alike schedule n count (omega (arith, most, fits)) (λ i less. alike i (omega (arith, less, most))) in
      let so_far : PlaysOn old (take count schedule) new = rw same leads in
      by_kind came_to runs so_far whole
    where
      by_kind : (came_to : Stepped) → RunsTask old j n count came_to new → PlaysOn old (take count schedule) new → (came_to ≡ Went → count ≡ named) →
          PlaysOn old (take named schedule) new
      by_kind Went runs so_far whole = subst (λ m. PlaysOn old (take m schedule) new) (whole refl) so_far
      by_kind Skipped runs so_far whole =
          past_dead runs.last runs.behind (λ alive. runs.answers.0 (subst (λ k. IsAlive k n) runs.answers.1 alive)) so_far most fits alike
      by_kind (Ended r0) runs so_far whole =
          past_dead runs.last runs.behind
          (λ alive. let clash : Some (job.Live alive.0) ≡ Some (job.Ended runs.answers.1.0) = sym alive.1 ∙ runs.answers.1.1 in cc)
          so_far most fits alike

-- where a job behind what is kept is complete, all that comes is skipped
skips_all : (kept : WorldState) (last : JobState) → RepresentsJob kept last → IsComplete last →
    (n : ℕ) (j : JobState) → RepresentsJob kept j → Steps kept j n Skipped kept
skips_all kept last of_last done n = skips_dead kept last n of_last (λ alive. done n alive.0 alive.1)

leads_all : (old kept : WorldState) → ((n : ℕ) (j : JobState) → RepresentsJob kept j → Steps kept j n Skipped kept) →
    (ns ms : List ℕ) → PlaysOn old ns kept → PlaysOn old (ns ++ ms) kept
leads_all old kept all ns [] so_far = subst (λ l. PlaysOn old l kept) (sym (append-nil ns)) so_far
leads_all old kept all ns (m ∷ ms) so_far =
    subst (λ l. PlaysOn old l kept) (append_assoc ns (m ∷ []) ms)
    (leads_all old kept all (ns ++ m ∷ []) ms (leads_more old kept kept ns m Skipped so_far refl (all m)))

-- and so a schedule is at its end
pub leads_to_end : (old kept : WorldState) (schedule : List ℕ) (named : ℕ) (last : JobState) → RepresentsJob kept last → IsComplete last →
    PlaysOn old (take named schedule) kept → PlaysOn old (take (length schedule) schedule) kept
leads_to_end old kept schedule named last of_last done so_far =
    subst (λ ns. PlaysOn old ns kept) (take-append-drop named schedule ∙ sym (take-length schedule))
    (leads_all old kept (skips_all kept last of_last done) (take named schedule) (drop named schedule) so_far)
