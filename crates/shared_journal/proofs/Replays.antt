-- A desk to which records lead, and more of them.
use Rattle.std.proofs.Common.{◌≡◌, ℕ, Bool, true, false, List, ◌++◌, length, take, refl, sym, ◌∙◌, arith}
use mathlib.Core.Bool.{not}
use Rattle.std.proofs.lemmas.List.{take_all}
use Rattle.journal.specs.Records.{journal_of}
use Rattle.journal.proofs.JoinedRecords.{fits_both, journal_both}
use Rattle.recovery.proofs.HistoryLemmas.{after_on}
use Rattle.keyed_desk.specs.KeyedSteps.{IsNewKeyed, KeyedState, MakesKeyed}
use Rattle.shared_journal.specs.Followers.{LeadFromDesk, LeadToDesk}

pub lead_on : (bytes more all : List ℕ) (old new : KeyedState) → LeadToDesk bytes old → LeadFromDesk more old new → all ≡ bytes ++ more → LeadToDesk all new
lead_on bytes more all old new lead on is =
    record {
      history = lead.history ++ on.more;
      fits = fits_both lead.history on.more lead.fits on.fits;
      are = is ∙ ((λ i. lead.are i ++ on.are i) ∙ sym (journal_both lead.history on.more));
      after = after_on IsNewKeyed MakesKeyed lead.history on.more old new lead.after on.leads;
    }

-- all of the bytes are these records
pub whole_records : (len : ℕ) (bytes : List ℕ) (payloads : List (List ℕ)) → len ≡ length bytes → take len bytes ≡ journal_of payloads → bytes ≡ journal_of payloads
whole_records len bytes payloads all are = sym (take_all len bytes (omega (arith, all))) ∙ are

pub not_denied : (so : Bool) → not so ≡ false → so ≡ true
not_denied true e = refl
not_denied false e = sym e
