-- The numbers of the refusals.
use Rattle.std.specs.Prelude.{ℕ}
use Rattle.credit_book.specs.declared.fault.BookFault.{BookFault}
use Rattle.credit_book.specs.declared.fault.BookFault.TheVariants.{Stranger, OverSpent, CreditLow, NoMemory}

abbrev pub code_of_book_fault : BookFault → ℕ
code_of_book_fault Stranger = 51
code_of_book_fault OverSpent = 52
code_of_book_fault CreditLow = 53
code_of_book_fault NoMemory = 99
