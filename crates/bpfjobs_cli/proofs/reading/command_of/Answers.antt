use Rattle.std.proofs.Common.{◌≡◌, ℕ, ap, arith, codes, slice_index, sym, ◌∙◌}
use Rattle.clap.specs.Words.{Row, Text, found_of, rows_of}
use Rattle.std.specs.Prelude.{List}
use Rattle.bpfjobs_cli.specs.Commands.{SaysAsk, SaysCheck, SaysCommand, SaysJob, SaysServe, says_assemble, says_disassemble, says_verify, says_play, says_run, says_serve, says_journal, says_ask, says_job, says_check}
use Rattle.bpfjobs_cli.proofs.reading.command_of.Goals as goal

-- two names of one length are told apart by their first bytes
another_first : (a b : List ℕ) → (slice_index a 0 ≡ slice_index b 0 → ⊥) → a ≡ b → ⊥
another_first a b differ e = differ (ap (λ (t : List ℕ). slice_index t 0) e)

serve_said : (name : Text) (rows : List Row) → SaysCommand name rows → name ≡ codes "serve" → SaysServe rows
serve_said name rows (says_assemble is) same = let clash : codes "assemble" ≡ codes "serve" = sym is ∙ same in cc
serve_said name rows (says_disassemble is) same = let clash : codes "disassemble" ≡ codes "serve" = sym is ∙ same in cc
serve_said name rows (says_verify is need) same = let clash : codes "verify" ≡ codes "serve" = sym is ∙ same in cc
serve_said name rows (says_play is) same = let clash : codes "play" ≡ codes "serve" = sym is ∙ same in cc
serve_said name rows (says_run is workers) same = let clash : codes "run" ≡ codes "serve" = sym is ∙ same in cc
serve_said name rows (says_serve is says) same = says
serve_said name rows (says_journal is file) same = let clash : codes "journal" ≡ codes "serve" = sym is ∙ same in cc
serve_said name rows (says_ask is says) same = let clash : codes "ask" ≡ codes "serve" = sym is ∙ same in cc
serve_said name rows (says_job is says) same = let clash : codes "job" ≡ codes "serve" = sym is ∙ same in cc
serve_said name rows (says_check is says) same = absurd (another_first (codes "check") (codes "serve") (λ e. omega (arith, e)) (sym is ∙ same))

ask_said : (name : Text) (rows : List Row) → SaysCommand name rows → name ≡ codes "ask" → SaysAsk rows
ask_said name rows (says_assemble is) same = let clash : codes "assemble" ≡ codes "ask" = sym is ∙ same in cc
ask_said name rows (says_disassemble is) same = let clash : codes "disassemble" ≡ codes "ask" = sym is ∙ same in cc
ask_said name rows (says_verify is need) same = let clash : codes "verify" ≡ codes "ask" = sym is ∙ same in cc
ask_said name rows (says_play is) same = let clash : codes "play" ≡ codes "ask" = sym is ∙ same in cc
ask_said name rows (says_run is workers) same = absurd (another_first (codes "run") (codes "ask") (λ e. omega (arith, e)) (sym is ∙ same))
ask_said name rows (says_serve is says) same = let clash : codes "serve" ≡ codes "ask" = sym is ∙ same in cc
ask_said name rows (says_journal is file) same = let clash : codes "journal" ≡ codes "ask" = sym is ∙ same in cc
ask_said name rows (says_ask is says) same = says
ask_said name rows (says_job is says) same = absurd (another_first (codes "job") (codes "ask") (λ e. omega (arith, e)) (sym is ∙ same))
ask_said name rows (says_check is says) same = let clash : codes "check" ≡ codes "ask" = sym is ∙ same in cc

pub serve_of-requires : goal.serve_of-requires
serve_of-requires c = serve_said c.args.name.now (rows_of (found_of c.args.matches.now)) c.requires c.in-serve.is

pub ask_of-requires : goal.ask_of-requires
ask_of-requires c = ask_said c.args.name.now (rows_of (found_of c.args.matches.now)) c.requires c.in-ask.is

job_said : (name : Text) (rows : List Row) → SaysCommand name rows → name ≡ codes "job" → SaysJob rows
job_said name rows (says_assemble is) same = let clash : codes "assemble" ≡ codes "job" = sym is ∙ same in cc
job_said name rows (says_disassemble is) same = let clash : codes "disassemble" ≡ codes "job" = sym is ∙ same in cc
job_said name rows (says_verify is need) same = let clash : codes "verify" ≡ codes "job" = sym is ∙ same in cc
job_said name rows (says_play is) same = let clash : codes "play" ≡ codes "job" = sym is ∙ same in cc
job_said name rows (says_run is workers) same = absurd (another_first (codes "run") (codes "job") (λ e. omega (arith, e)) (sym is ∙ same))
job_said name rows (says_serve is says) same = let clash : codes "serve" ≡ codes "job" = sym is ∙ same in cc
job_said name rows (says_journal is file) same = let clash : codes "journal" ≡ codes "job" = sym is ∙ same in cc
job_said name rows (says_ask is says) same = absurd (another_first (codes "ask") (codes "job") (λ e. omega (arith, e)) (sym is ∙ same))
job_said name rows (says_job is says) same = says
job_said name rows (says_check is says) same = let clash : codes "check" ≡ codes "job" = sym is ∙ same in cc

check_said : (name : Text) (rows : List Row) → SaysCommand name rows → name ≡ codes "check" → SaysCheck rows
check_said name rows (says_assemble is) same = let clash : codes "assemble" ≡ codes "check" = sym is ∙ same in cc
check_said name rows (says_disassemble is) same = let clash : codes "disassemble" ≡ codes "check" = sym is ∙ same in cc
check_said name rows (says_verify is need) same = let clash : codes "verify" ≡ codes "check" = sym is ∙ same in cc
check_said name rows (says_play is) same = let clash : codes "play" ≡ codes "check" = sym is ∙ same in cc
check_said name rows (says_run is workers) same = let clash : codes "run" ≡ codes "check" = sym is ∙ same in cc
check_said name rows (says_serve is says) same = absurd (another_first (codes "serve") (codes "check") (λ e. omega (arith, e)) (sym is ∙ same))
check_said name rows (says_journal is file) same = let clash : codes "journal" ≡ codes "check" = sym is ∙ same in cc
check_said name rows (says_ask is says) same = let clash : codes "ask" ≡ codes "check" = sym is ∙ same in cc
check_said name rows (says_job is says) same = let clash : codes "job" ≡ codes "check" = sym is ∙ same in cc
check_said name rows (says_check is says) same = says

pub job_of-requires : goal.job_of-requires
job_of-requires c = job_said c.args.name.now (rows_of (found_of c.args.matches.now)) c.requires c.in-job.is

pub check_command-requires : goal.check_command-requires
check_command-requires c = check_said c.args.name.now (rows_of (found_of c.args.matches.now)) c.requires c.in-check.is
