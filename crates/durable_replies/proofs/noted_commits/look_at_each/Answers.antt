use Rattle.std.proofs.Common.{◌≡◌, ◌<◌, ◌∙◌, sym, subst, refl, length, slice_get, slice_set, Some, arith, List}
use Rattle.std.proofs.lemmas.List.{length-set}
use Rattle.std.proofs.lemmas.Option.{slice_get_read}
use Rattle.std.proofs.lemmas.Result.{err_from_is_err_and}
use Rattle.durable_replies.specs.Durable.{AreSound, IsFoundSound}
use Rattle.durable_replies.proofs.Commits.{noted_still, noted_to_all, noted_to_one, same_from_one, set_back}
use Rattle.durable_replies.proofs.noted_commits.look_at_each.Goals as goal

pub returns-in_err-look_at-clause-err : goal.returns-in_err-look_at-clause-err
returns-in_err-look_at-clause-err g c =
    let at = c.looks in
    let notes = at.notes.items in
    let note = c.look_at.new.note in
    let paired = c.requires in
    let count = at.invariant.count in
    let less = c.looks-test.true in
    let within : at.place < length notes = omega (arith, less, count, paired) in
    let found = slice_get_read notes (length notes) at.place c.index_mut.result.now refl within c.index_mut.ensures.value in
    let here = subst (λ n. slice_get notes at.place ≡ Some n) (sym c.in_err-look_at.ensures.err) found in
    let same : slice_set notes at.place note ≡ notes = set_back notes at.place note here in
    let p = err_from_is_err_and c.from_residual.result c.from_residual.ensures.1 in
    rw p.1 (λ was.
    subst (λ (ns : List _). AreSound g.K.NoteMaker.name g.N.GroupNote.known g.N.GroupNote.sound c.args.journals.now ns) (sym same)
    (noted_still (IsFoundSound g.K.NoteMaker.name g.N.GroupNote.known g.N.GroupNote.sound) (IsFoundSound g.K.NoteMaker.name g.N.GroupNote.known g.N.GroupNote.sound) at.place c.args.journals.now notes c.args.notes.now.items at.invariant.sound at.invariant.rest (λ journal note sound. sound) was))

pub looks-preserved : goal.looks-preserved
looks-preserved g c =
    let at = c.looks in
    let notes = at.notes.items in
    let note = c.look_at.new.note in
    let paired = c.requires in
    let count = at.invariant.count in
    let less = c.looks-test.true in
    let within : at.place < length notes = omega (arith, less, count, paired) in
    let blank = slice_get_read c.args.journals.now (length c.args.journals.now) at.place c.index-journals-place.result refl less c.index-journals-place.is in
    record {
      count = length-set notes at.place note ∙ count;
      within = omega (arith, less);
      sound = noted_to_one (IsFoundSound g.K.NoteMaker.name g.N.GroupNote.known g.N.GroupNote.sound) at.place c.args.journals.now notes c.index-journals-place.result note blank within at.invariant.sound c.in_ok-look_at.ensures.sound;
      rest = same_from_one at.place notes c.args.notes.now.items note at.invariant.rest;
    }

pub returns-clause-sound : goal.returns-clause-sound
returns-clause-sound g c =
    let at = c.looks in
    let over = c.looks-test.false in
    noted_to_all (IsFoundSound g.K.NoteMaker.name g.N.GroupNote.known g.N.GroupNote.sound) at.place c.args.journals.now at.notes.items (omega (arith, over)) at.invariant.sound
