-- Desks with keys stay alike.
use Rattle.std.proofs.Common.{◌≡◌, ℕ, List, length, refl, sym, ap, subst, ◌∙◌}
use Rattle.sessions.specs.JobKeys.{noted}
use Rattle.sessions.specs.declared.job_key.KeyedJob.{KeyedJob}
use Rattle.desk_journal.specs.AlikeDesks.{AreDesksAlike, AreEntriesAlike}
use Rattle.desk_journal.specs.AlikeLemmas.{alike_self, alike_through, zip_long}
use Rattle.desk_journal.specs.AlikeSteps.{alike_step}
use Rattle.desk_journal.specs.DeskSteps.{DeskState}
use Rattle.keyed_desk.specs.KeyedSnapshots.{AreKeyedAlike}
use Rattle.keyed_desk.specs.KeyedSteps.{KeyedState, MakesKeyed, alone, by_key, key_kept}

abbrev keyed : DeskState → List KeyedJob → KeyedState
keyed desk keys = record { desk = desk; keys = keys }

pub keyed_alike_self : (s : KeyedState) → AreKeyedAlike s s
keyed_alike_self s = (alike_self s.desk, refl)

pub keyed_alike_through : (s t u : KeyedState) → AreKeyedAlike s t → AreKeyedAlike t u → AreKeyedAlike s u
keyed_alike_through s t u first second = (alike_through s.desk t.desk u.desk first.0 second.0, first.1 ∙ second.1)

pub keyed_alike_step : (s t u : KeyedState) (change : List ℕ) → AreKeyedAlike s t → MakesKeyed s change u → (v : KeyedState) × MakesKeyed t change v × AreKeyedAlike u v
keyed_alike_step s t u change are (alone made keys) =
    let w = alike_step s.desk t.desk u.desk change are.0 made in
    (keyed w.0 t.keys, alone w.1 refl, (w.2, keys ∙ are.1))
keyed_alike_step s t u change are (by_key key inner is is_key made keys) =
    let w = alike_step s.desk t.desk u.desk inner are.0 made in
    let long : length u.desk.desk.jobs ≡ length w.0.desk.jobs = zip_long AreEntriesAlike u.desk.desk.jobs w.0.desk.jobs w.2.jobs in (
      keyed w.0 (noted t.keys (length w.0.desk.jobs) key),
      by_key key inner is is_key w.1 refl,
      (w.2, keys ∙ (ap (λ (ks : List KeyedJob). noted ks (length u.desk.desk.jobs) key) are.1 ∙ ap (λ (n : ℕ). noted t.keys n key) long)),
    )
keyed_alike_step s t u change are (key_kept job key is narrow is_key desk keys) = (
  keyed t.desk (noted t.keys job key),
  key_kept job key is narrow is_key refl refl,
  (subst (λ (d : DeskState). AreDesksAlike d t.desk) (sym desk) are.0, keys ∙ ap (λ (ks : List KeyedJob). noted ks job key) are.1),
)
