use Rattle.value_ranges.proofs.TidyLemmas.{some_tidied_tidy, spanned_tidy}
use Rattle.value_ranges.proofs.laws.tidied_is_tidy.Goals as goal

pub returns-clause-tidied : goal.returns-clause-tidied
returns-clause-tidied c = some_tidied_tidy

pub returns-clause-spanned : goal.returns-clause-spanned
returns-clause-spanned c = spanned_tidy
