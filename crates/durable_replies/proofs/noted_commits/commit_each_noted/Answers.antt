use Rattle.std.proofs.Common.{◌≡◌, ◌<◌, ◌∙◌, sym, subst, refl, length, slice_get, slice_set, Some, arith, List}
use Rattle.std.proofs.lemmas.List.{length-set}
use Rattle.std.proofs.lemmas.Option.{slice_get_read}
use Rattle.std.proofs.lemmas.Result.{err_from_is_err_and}
use Rattle.shared_desk.specs.ClientViews.{ClientView}
use Rattle.durable_replies.specs.Durable.{AreDurable, IsDurableAt}
use Rattle.durable_replies.proofs.Commits.{durable_before, noted_still, noted_to_all, noted_to_one, same_from_one, set_back}
use Rattle.durable_replies.proofs.noted_commits.commit_each_noted.Goals as goal

pub returns-in_err-commit_at-clause-err : goal.returns-in_err-commit_at-clause-err
returns-in_err-commit_at-clause-err g c =
    let at = c.notes in
    let notes = at.notes.items in
    let note = c.commit_at.new.note in
    let paired = c.requires in
    let count = at.invariant.count in
    let less = c.notes-test.true in
    let within : at.place < length notes = omega (arith, less, count, paired) in
    let found = slice_get_read notes (length notes) at.place c.index_mut.result.now refl within c.index_mut.ensures.value in
    let here = subst (λ n. slice_get notes at.place ≡ Some n) (sym c.in_err-commit_at.ensures.err) found in
    let same : slice_set notes at.place note ≡ notes = set_back notes at.place note here in
    let p = err_from_is_err_and c.from_residual.result c.from_residual.ensures.1 in
    rw p.1 (λ known later goes_on was.
    subst (λ (ns : List _). AreDurable g.H.SharedHandler.answers g.J.Origin.begins g.H.Noted.covers g.K.NoteMaker.desk g.N.GroupNote.known c.args.journals.now ns known) (sym same)
    (noted_still (λ journal note. IsDurableAt g.H.SharedHandler.answers g.J.Origin.begins g.H.Noted.covers g.K.NoteMaker.desk g.N.GroupNote.known (g.K.NoteMaker.desk journal) note c.args.client.now) (λ journal note. IsDurableAt g.H.SharedHandler.answers g.J.Origin.begins g.H.Noted.covers g.K.NoteMaker.desk g.N.GroupNote.known (g.K.NoteMaker.desk journal) note known)
    at.place c.args.journals.now notes c.args.notes.now.items at.invariant.durable at.invariant.rest
    (λ journal note durable. durable_before g.H.SharedHandler.answers g.J.Origin.begins g.H.Noted.covers g.K.NoteMaker.desk g.N.GroupNote.known (g.K.NoteMaker.desk journal) note known c.args.client.now later goes_on durable) was))

pub notes-preserved : goal.notes-preserved
notes-preserved g c =
    let at = c.notes in
    let notes = at.notes.items in
    let note = c.commit_at.new.note in
    let paired = c.requires in
    let count = at.invariant.count in
    let less = c.notes-test.true in
    let within : at.place < length notes = omega (arith, less, count, paired) in
    let blank = slice_get_read c.args.journals.now (length c.args.journals.now) at.place c.index-journals-place.result refl less c.index-journals-place.is in
    record {
      same = c.in_ok-commit_at.ensures.same ∙ at.invariant.same;
      count = length-set notes at.place note ∙ count;
      within = omega (arith, less);
      durable = noted_to_one (λ journal note. IsDurableAt g.H.SharedHandler.answers g.J.Origin.begins g.H.Noted.covers g.K.NoteMaker.desk g.N.GroupNote.known (g.K.NoteMaker.desk journal) note c.args.client.now) at.place c.args.journals.now notes c.index-journals-place.result note blank within
          at.invariant.durable
          (subst (λ (v : ClientView). IsDurableAt g.H.SharedHandler.answers g.J.Origin.begins g.H.Noted.covers g.K.NoteMaker.desk g.N.GroupNote.known (g.K.NoteMaker.desk c.index-journals-place.result) note v) at.invariant.same
          c.in_ok-commit_at.ensures.ok);
      rest = same_from_one at.place notes c.args.notes.now.items note at.invariant.rest;
    }

pub returns-clause-ok : goal.returns-clause-ok
returns-clause-ok g c =
    let at = c.notes in
    let over = c.notes-test.false in
    noted_to_all (λ journal note. IsDurableAt g.H.SharedHandler.answers g.J.Origin.begins g.H.Noted.covers g.K.NoteMaker.desk g.N.GroupNote.known (g.K.NoteMaker.desk journal) note c.args.client.now) at.place c.args.journals.now at.notes.items (omega (arith, over)) at.invariant.durable
