-- The words of `ask`.
use Rattle.std.specs.Prelude.{◌&&◌, ◌||◌, Bool, not, List, ℕ, codes, if◌then◌else◌, Option, Some, None}
use Rattle.std.specs.Str.{bytes_eq}
use Rattle.bpfjobs_cli.specs.declared.ask.AskWord.{AskWord}
use Rattle.bpfjobs_cli.specs.declared.ask.AskWord.TheVariants as word

-- the word that a text is, if it is one
abbrev pub ask_word : List ℕ → Option AskWord
ask_word text =
    if bytes_eq text (codes "account") then Some word.Account
    else if bytes_eq text (codes "submit") then Some word.Submit
    else if bytes_eq text (codes "status") then Some word.Status
    else if bytes_eq text (codes "result") then Some word.Result
    else if bytes_eq text (codes "jobs") then Some word.Jobs
    else if bytes_eq text (codes "grant") then Some word.Grant
    else if bytes_eq text (codes "server") then Some word.Server
    else if bytes_eq text (codes "stop") then Some word.Stop else None

-- what else is there goes with a word: a tenant or a job, an amount, a key, and a first job
abbrev pub words_fit : AskWord → Bool → Bool → Bool → Bool → Bool
words_fit word.Account subject amount key from = not (amount || key || from)
words_fit word.Submit subject amount key from = not (amount || from)
words_fit word.Status subject amount key from = subject && not (amount || key || from)
words_fit word.Result subject amount key from = subject && not (amount || key || from)
words_fit word.Jobs subject amount key from = not (subject || amount || key)
words_fit word.Grant subject amount key from = subject && amount && not (key || from)
words_fit word.Server subject amount key from = not (subject || amount || key || from)
words_fit word.Stop subject amount key from = not (subject || amount || key || from)
