use Rattle.std.proofs.Common.{◌≡◌, ◌∙◌, Bool, ap, codes, false, inl, inr, is_some, option_map, sym, true, true≢false}
use Rattle.std.specs.Borrow.{Bor}
use Rattle.std.proofs.lemmas.Result.{IfOk-weaker}
use Rattle.clap.specs.Words.{Text, found_of}
use Rattle.bpfjobs_cli.specs.declared.ask.AskWord.{AskWord}
use Rattle.bpfjobs_cli.specs.AskWords.{words_fit}
use Rattle.bpfjobs_cli.proofs.AskLemmas.{no_word, word_said}
use Rattle.bpfjobs_cli.proofs.FlagLemmas.{first_is}
use Rattle.bpfjobs_cli.proofs.asking.question.Goals as goal

pub unreachable-requires : goal.unreachable-requires
unreachable-requires c =
    let first = first_is (λ s. s.now) (found_of c.args.matches.now) (codes "word") c.get_str.result c.get_str.ensures in
    true≢false (sym c.requires.word ∙ ap is_some (first ∙ ap (option_map (λ (s : Bor Text). s.now)) c.in_default.is))

pub returns-in_default-ask_word-clause-err : goal.returns-in_default-ask_word-clause-err
returns-in_default-ask_word-clause-err c =
    inl (no_word (λ s. s.now) (found_of c.args.matches.now) c.get_str.result c.in-Some.said c.ask_word.result c.get_str.ensures c.in-Some.is c.ask_word.ensures c.in_default-ask_word.is)

pub question_of-requires-clause-word : goal.question_of-requires-clause-word
question_of-requires-clause-word c =
    word_said (λ s. s.now) (found_of c.args.matches.now) c.get_str.result c.in-Some.said c.ask_word.result c.in-Some-ask_word.word c.get_str.ensures c.in-Some.is c.ask_word.ensures c.in-Some-ask_word.is

-- what else is there fits, by what was read of it
fit_is : (w : AskWord) (s a k f s' a' k' f' r fit : Bool) → r ≡ words_fit w s a k f → s ≡ s' → a ≡ a' → k ≡ k' → f ≡ f' → r ≡ fit → words_fit w s' a' k' f' ≡ fit
fit_is w s a k f s' a' k' f' r fit e es ea ek ef is = cc

pub returns-then-not-words_fit-clause-err : goal.returns-then-not-words_fit-clause-err
returns-then-not-words_fit-clause-err c =
    let word = word_said (λ s. s.now) (found_of c.args.matches.now) c.get_str.result c.in-Some.said c.ask_word.result c.in-Some-ask_word.word c.get_str.ensures c.in-Some.is c.ask_word.ensures c.in-Some-ask_word.is in
    let fit = fit_is c.in-Some-ask_word.word _ _ _ _ _ _ _ _ c.words_fit.result false c.words_fit.ensures c.is_there-subject.ensures c.is_some.ensures c.is_there-key.ensures c.is_some-2.ensures c.if-not-words_fit.true in
    inr (inl (c.in-Some-ask_word.word, word, (c.maybe_number-amount.result, c.first_job-from.result, c.maybe_number-amount.ensures, c.first_job-from.ensures, fit)))

pub returns-clause-fit : goal.returns-clause-fit
returns-clause-fit c =
    let word = word_said (λ s. s.now) (found_of c.args.matches.now) c.get_str.result c.in-Some.said c.ask_word.result c.in-Some-ask_word.word c.get_str.ensures c.in-Some.is c.ask_word.ensures c.in-Some-ask_word.is in
    let fit = fit_is c.in-Some-ask_word.word _ _ _ _ _ _ _ _ c.words_fit.result true c.words_fit.ensures c.is_there-subject.ensures c.is_some.ensures c.is_there-key.ensures c.is_some-2.ensures c.if-not-words_fit.false in
    IfOk-weaker c.question_of.result _ _ (λ q h. (c.in-Some-ask_word.word, word, (c.maybe_number-amount.result, c.first_job-from.result, c.maybe_number-amount.ensures, c.first_job-from.ensures, fit))) c.question_of.ensures.ok
