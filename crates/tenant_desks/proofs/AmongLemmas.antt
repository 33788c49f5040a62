-- The answer at one of many desks.
use Rattle.std.proofs.Common.{◌≡◌, ℕ, List, slice_get, slice_set, Option, Some, Result, Ok, Err, IfOk, OnErr, refl, sym, subst}
use Rattle.refusal.specs.declared.NoMemory.{NoMemory}
use Rattle.credit_book.specs.declared.book.Report.{Report}
use Rattle.credit_book.specs.declared.board.Progress.{Progress}
use Rattle.job_core.specs.Admitted.{AdmittedJob}
use Rattle.accounts.specs.declared.keep_limits.KeepLimits.{KeepLimits}
use Rattle.accounts.specs.Ledgers.{Ledger}
use Rattle.sessions.specs.Grammar.{Asked}
use Rattle.tenant_desks.specs.declared.placed_runner.PlacedRunner.{PlacedRunner}
use Rattle.tenant_desks.specs.PlacedRunners.{starts_placed, looks_placed}
use Rattle.tenant_desks.specs.Answering.{PassesEnds, AnswersAlone, AnswersWhere, DeskAnswer, for_place, refusal_frame}
use Rattle.tenant_desks.proofs.PlacedLemmas.{at_its_place}

module _ {R : Type 0} (starts : R → ℕ → AdmittedJob → Result (Unit {0}) ℕ → R → Type 0) (looks : R → ℕ → Progress → R → Type 0) (takes : R → Option (ℕ × Result Report ℕ) → R → Type 0) where
  -- it goes nowhere
  pub nowhere : (keep : KeepLimits) (code : ℕ) (to : Result ℕ ℕ) (query : Result Asked ℕ) (desks : List Ledger) (runner : R) (mid : List Ledger) (rest : R)
      → to ≡ Err code → PassesEnds takes desks runner mid rest → DeskAnswer starts looks takes keep to query desks runner (refusal_frame code) mid rest
  nowhere keep code to query desks runner mid rest goes passed = record {
    mid = mid;
    rest = rest;
    passed = passed;
    answered = subst (λ w. AnswersWhere starts looks keep w query mid rest (refusal_frame code) mid rest) (sym goes) (refl, refl, refl);
  }

  pub nowhere_err : (keep : KeepLimits) (code : ℕ) (to : Result ℕ ℕ) (query : Result Asked ℕ) (desks : List Ledger) (runner : R) (mid : List Ledger) (rest : R) (told : Result (List ℕ) NoMemory)
      → to ≡ Err code → PassesEnds takes desks runner mid rest → OnErr told ((reply : List ℕ) × DeskAnswer starts looks takes keep to query desks runner reply mid rest)
  nowhere_err keep code to query desks runner mid rest (Ok frame) goes passed = tt
  nowhere_err keep code to query desks runner mid rest (Err e) goes passed =
      (refusal_frame code, nowhere keep code to query desks runner mid rest goes passed)

  -- it goes to the desk at a place
  pub at_desk : (keep : KeepLimits) (place : ℕ) (to : Result ℕ ℕ) (query : Result Asked ℕ) (desks : List Ledger) (runner : R) (mid : List Ledger) (rest : R) (before after : Ledger) (s : PlacedRunner R) (reply : List ℕ)
      → to ≡ Ok place → PassesEnds takes desks runner mid rest → slice_get mid place ≡ Some before → AnswersAlone (starts_placed starts) (looks_placed looks) keep (for_place place rest) s query reply before after
      → DeskAnswer starts looks takes keep to query desks runner reply (slice_set mid place after) s.runner
  at_desk keep place to query desks runner mid rest before after s reply goes passed there alone = record {
    mid = mid;
    rest = rest;
    passed = passed;
    answered = subst (λ w. AnswersWhere starts looks keep w query mid rest reply (slice_set mid place after) s.runner) (sym goes) (record {
      before = before;
      was = there;
      after = after;
      changed = at_its_place starts looks keep place rest s query reply before after alone;
      is = refl;
    });
  }

  pub at_desk_ok : (keep : KeepLimits) (place : ℕ) (to : Result ℕ ℕ) (query : Result Asked ℕ) (desks : List Ledger) (runner : R) (mid : List Ledger) (rest : R) (before after : Ledger) (s : PlacedRunner R) (told : Result (List ℕ) NoMemory)
      → to ≡ Ok place → PassesEnds takes desks runner mid rest → slice_get mid place ≡ Some before → IfOk told (λ reply. AnswersAlone (starts_placed starts) (looks_placed looks) keep (for_place place rest) s query reply before after)
      → IfOk told (λ reply. DeskAnswer starts looks takes keep to query desks runner reply (slice_set mid place after) s.runner)
  at_desk_ok keep place to query desks runner mid rest before after s (Ok reply) goes passed there alone = at_desk keep place to query desks runner mid rest before after s reply goes passed there alone
  at_desk_ok keep place to query desks runner mid rest before after s (Err e) goes passed there alone = alone

  pub at_desk_err : (keep : KeepLimits) (place : ℕ) (to : Result ℕ ℕ) (query : Result Asked ℕ) (desks : List Ledger) (runner : R) (mid : List Ledger) (rest : R) (before after : Ledger) (s : PlacedRunner R) (told : Result (List ℕ) NoMemory)
      → to ≡ Ok place → PassesEnds takes desks runner mid rest → slice_get mid place ≡ Some before → OnErr told ((reply : List ℕ) × AnswersAlone (starts_placed starts) (looks_placed looks) keep (for_place place rest) s query reply before after)
      → OnErr told ((reply : List ℕ) × DeskAnswer starts looks takes keep to query desks runner reply (slice_set mid place after) s.runner)
  at_desk_err keep place to query desks runner mid rest before after s (Ok reply) goes passed there alone = alone
  at_desk_err keep place to query desks runner mid rest before after s (Err e) goes passed there alone = (alone.0, at_desk keep place to query desks runner mid rest before after s alone.0 goes passed there alone.1)
