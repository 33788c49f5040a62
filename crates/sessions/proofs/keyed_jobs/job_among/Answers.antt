use Rattle.std.proofs.Common.{rules, ◌+◌, ◌≡◌, ◌<◌, ap, length, arith, ◌∙◌}
use Rattle.std.proofs.lemmas.List.{length-map}
use Rattle.sessions.specs.KeyMarks.{mark_of}
use Rattle.sessions.specs.declared.job_key.KeyedJob.{KeyedJob}
use Rattle.sessions.proofs.KeyLemmas.{passed_by_mark, passed_over}
use Rattle.sessions.proofs.keyed_jobs.job_among.Goals as goal
use Rattle.sessions.proofs.keyed_jobs.job_among.Goals.{else-marks-place-via-then-marks-place+else-eq, else-marks-place-via-else-marks-place}

pub places-preserved : goal.places-preserved
places-preserved c =
    let jobs = c.args.jobs.now in
    let key = c.args.key.now in
    let n = c.places.place in
    let inside : n < length c.args.marks.now = search rules in
    let long : length c.args.marks.now ≡ length jobs = ap length c.requires ∙ length-map jobs (λ (keyed : KeyedJob). mark_of keyed.key) in
    elim c.else-marks-place.branch [
      | else-marks-place-via-then-marks-place+else-eq w ↦ (
        search rules,
        passed_over jobs key n (n + 1) w.index-jobs-place.result (omega (arith, inside, long)) (omega arith) (search rules) ∙ c.places.invariant.1,
      )
      | else-marks-place-via-else-marks-place w ↦ (
        search rules,
        passed_by_mark jobs c.args.marks.now key n (n + 1) c.key_mark-mark.result c.requires (search rules) inside (omega arith) (search rules) ∙ c.places.invariant.1,
      )
    ]
