use Rattle.std.proofs.Common.{rules, ◌≡◌, ◌-◌, ◌+◌, drop, length, arith, ap, ◌∙◌, length-append, ◌∷◌, []}
use Rattle.std.proofs.lemmas.List.{length-drop}
use Rattle.sessions.specs.KeyMarks.{RememberedJobs, mark_of, marks_of}
use Rattle.sessions.specs.JobKeys.{noted}
use Rattle.sessions.specs.declared.job_key.KeyedJob.{KeyedJob}
use Rattle.sessions.proofs.KeyLemmas.{marks_behind, marks_noted, noted_behind}
use Rattle.sessions.proofs.keyed_jobs.KeyedJobs.note.Goals as goal

pub invariant_of-self-2 : goal.invariant_of-self-2
invariant_of-self-2 c =
    let x : KeyedJob = record { job = c.args.job; key = c.args.key } in
    let jobs = c.self.inside.jobs.items in
    let more = c.push_reserved-2.new.self.items in
    let left = c.drop_first.new.rows.items in
    let is : c.key_mark.result ≡ mark_of x.key = search rules in
    let marks : c.push_reserved.new.self.items ≡ marks_of more = marks_noted jobs more c.self.inside.marks.items c.push_reserved.new.self.items x c.key_mark.result c.self.invariant.3 c.push_reserved-2.ensures.items c.push_reserved.ensures.items is in (
      omega arith,
      omega arith,
      omega (arith, ap length c.drop_first.ensures.rows, length-drop 1000 more, ap length c.push_reserved-2.ensures.items, length-append jobs (x ∷ []), c.self.invariant.0, c.self.invariant.2),
      marks_behind 1000 more left c.push_reserved.new.self.items c.drop_first-2.new.rows.items marks c.drop_first.ensures.rows c.drop_first-2.ensures.rows,
      λ room. (
        omega (arith, (c.self.invariant.4 room).0, c.drop_first.ensures.room, c.push_reserved-2.ensures.capacity),
        omega (arith, (c.self.invariant.4 room).1, c.drop_first-2.ensures.room, c.push_reserved.ensures.capacity),
      ),
    )

pub returns-clause-noted : goal.returns-clause-noted
returns-clause-noted c =
    let x : KeyedJob = record { job = c.args.job; key = c.args.key } in
    let jobs = c.self.inside.jobs.items in
    let gone = c.self.inside.gone in
    let long : c.len.result ≡ length jobs + 1 = omega (arith, c.len.ensures, c.push_reserved-2.new.self.ok.0, ap length c.push_reserved-2.ensures.items, length-append jobs (x ∷ [])) in
    let all : 1000 ≡ gone + (length jobs + 1 - gone - 1000) = omega (arith, long, c.self.invariant.0, c.self.invariant.2, c.if-self-lt-MOST_KEYS.false, c.if-len-self-le-MOST_KEYS.false) in
    c.drop_first.ensures.rows ∙ ap (drop 1000) c.push_reserved-2.ensures.items ∙ noted_behind jobs gone 1000 c.args.job c.args.key c.self.invariant.1 all
    ∙ ap (λ (s : RememberedJobs). noted s.jobs c.args.job c.args.key) c.self.view_is
