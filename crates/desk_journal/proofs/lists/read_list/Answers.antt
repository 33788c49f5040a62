use Rattle.std.proofs.Common.{◌≡◌, ◌+◌, ◌-◌, [], ◌∷◌, ◌++◌, drop, length, sym, ap, ◌∙◌, arith, append_assoc}
use Rattle.std.proofs.lemmas.List.{drop-drop, length-append, length-drop}
use Rattle.std.proofs.lemmas.Result.{err_from_is_err_and}
use Rattle.desk_journal.specs.Encodings.{bytes_of_all}
use Rattle.desk_journal.specs.declared.encoded.ReadFault.TheVariants.{NoValue}
use Rattle.desk_journal.proofs.ListLemmas.{starts_on, no_start, bytes_pushed, same_fault, list_starts}
use Rattle.desk_journal.proofs.lists.read_list.Goals as goal

pub values-preserved : goal.values-preserved
values-preserved g c =
    let bytes = g.T.Encoded.bytes in
    let v = c.in_ok-value.value in
    let len = c.in_ok-value.length in
    let at = c.values.at in
    let input = c.args.input.now in
    let back = c.split_at.ensures.back in
    let next = drop-drop len at input in
    let found : drop at input ≡ bytes v ++ drop (at + len) input = sym back ∙ (c.in_ok-value.ensures.found ∙ ap (λ l. bytes v ++ l) (ap (drop len) back ∙ next)) in
    let pushed = c.in_ok-push.ensures.items in
    let shorter : length c.split_at.result.1.now ≡ length input - at = ap length back ∙ length-drop at input in
    let within = c.in_ok-value.ensures.within in
    let i = c.values.invariant in
    let there = i.0 in
    let count = i.1 in
    let some = c.values-test.true in (
      omega (arith, shorter, within, there),
      omega (arith, ap length pushed, length-append c.values.values.items (v ∷ []), count, some),
      i.2 ∙ (ap (λ l. bytes_of_all bytes c.values.values.items ++ l) found ∙ (sym (append_assoc (bytes_of_all bytes c.values.values.items) (bytes v) (drop (at + len) input))
          ∙ ap (λ l. l ++ drop (at + len) input) (sym (ap (bytes_of_all bytes) pushed ∙ bytes_pushed bytes c.values.values.items v)))),
      λ more t. starts_on bytes g.met.T.Encoded.one_rest c.values.left v (drop at input) (drop (at + len) input) more (omega (arith, length-drop at input, c.type_inv.input)) (omega (arith, some)) found (i.3 more t),
    )

pub returns-in_err-value-clause-refused : goal.returns-in_err-value-clause-refused
returns-in_err-value-clause-refused g c is values rest e =
    let bytes = g.T.Encoded.bytes in
    let input = c.args.input.now in
    let p = err_from_is_err_and c.from_residual-in_err-value.result c.from_residual-in_err-value.ensures.1 in
    let fault = same_fault c.from_residual-in_err-value.result p.0 c.in_err-value.field-0.0 NoValue p.1 p.2 is in
    let none = c.in_err-value.ensures.refused fault in
    let back = c.split_at.ensures.back in
    let first = list_starts bytes g.met.T.Encoded.is_there input c.in_ok-count.count c.in_ok-count.start values rest (omega (arith)) (omega (arith)) c.in_ok-count.ensures.found e in
    no_start bytes c.values.left (drop c.values.at input) rest (omega (arith, c.values-test.true)) (λ v more is_there. none v more (back ∙ is_there)) (c.values.invariant.3 rest first)
