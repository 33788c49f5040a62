-- One connection more that is over.
use Rattle.std.proofs.Common.{◌≡◌, ◌-◌, ◌^◌, ◌+◌, ℕ, zero, suc, List, [], ◌∷◌, ◌++◌, length, min, Bool, true, false, Result, Ok, refl, sym, ap, ◌∙◌, subst, arith}
use Rattle.std.specs.Prelude.{All, MatchResult}
use Rattle.streams.specs.declared.fault.StreamFault.{StreamFault}
use Rattle.shared_desk.specs.declared.closed.ClosedConnection.{ClosedConnection}
use Rattle.shared_desk.specs.declared.passage.Passage.{Passage}
use Rattle.shared_desk.specs.Histories.{HistoryEntry}
use Rattle.shared_desk.specs.ClientViews.{ClientView}
use Rattle.shared_desk.specs.Parts.{IsWritten, IsWrittenUpTo, NamesTheEnd, IsServedClient}
use Rattle.shared_desk.specs.Closed.{IsServedWhole, closed_of, first_fault, earlier_fault}

-- what is known of those that are over
abbrev pub AreTold : List ClosedConnection → ℕ → Result (Unit {0}) StreamFault → Type 0
AreTold cs count outcome = All IsServedWhole cs × (count ≡ min (length cs) (2 ^ 64 - 1)) × (outcome ≡ first_fault cs)

pub told_of : (cs now : List ClosedConnection) (count : ℕ) (outcome : Result (Unit {0}) StreamFault) → now ≡ cs → AreTold cs count outcome → AreTold now count outcome
told_of cs now count outcome is told = subst (λ (l : List ClosedConnection). AreTold l count outcome) (sym is) told

counted : (k old number : ℕ) → old ≡ min k (2 ^ 64 - 1) → number ≡ min (old + 1) (2 ^ 64 - 1) → number ≡ min (suc k) (2 ^ 64 - 1)
counted k old number was is = grind arith

pub told_none : AreTold [] 0 (Ok tt)
told_none = ((λ k d lt. absurd (omega (arith, lt))), refl, refl)

all_more : (P : ClosedConnection → Type 0) (c : ClosedConnection) (cs : List ClosedConnection) → P c → All P cs → All P (c ∷ cs)
all_more P c cs one all zero d lt = one
all_more P c cs one all (suc k) d lt = all k d (omega (arith, lt))

pub told_more : (c : ClosedConnection) (cs now : List ClosedConnection) (old count : ℕ) (before outcome : Result (Unit {0}) StreamFault) → now ≡ c ∷ cs → AreTold cs old before → IsServedWhole c
    → count ≡ min (old + 1) (2 ^ 64 - 1) → outcome ≡ earlier_fault before c.outcome → AreTold now count outcome
told_more c cs now old count before outcome is told served number later =
    told_of (c ∷ cs) now count outcome is (all_more IsServedWhole c cs served told.0, counted (length cs) old count told.1 number, later ∙ ap (λ (o : Result (Unit {0}) StreamFault). earlier_fault o c.outcome) told.2)

-- a connection that was served from its beginning on, of which nothing was asked before
pub served_from_nothing : {R W : Type 0} (may : Passage) (read : R → List ℕ) (over read_failed : R → Bool) (written : W → List ℕ) (write_failed : W → Bool) (v w : (R × W) × ClientView) (outcome : Result ℕ StreamFault)
    → IsServedClient may read over read_failed written write_failed v w outcome → v.1.part ≡ [] → read v.0.0 ≡ [] → written v.0.1 ≡ []
    → IsServedWhole (closed_of may read over read_failed written write_failed w.1 w.0.0 w.0.1 outcome)
served_from_nothing may read over read_failed written write_failed v w outcome served no_part nothing_read nothing_written =
    let part : served.0 ≡ w.1.part = sym (served.1.more ∙ ap (λ (l : List HistoryEntry). l ++ served.0) no_part) in
    let bytes : served.2.bytes ≡ read w.0.0 = sym (served.2.came ∙ ap (λ (l : List ℕ). l ++ served.2.bytes) nothing_read) in
    subst Whole (λ i. (part i, (bytes i, nothing_written i))) served.2.replies
  where
    Whole : List HistoryEntry × (List ℕ × List ℕ) → Type 0
    Whole z = MatchResult outcome
        (λ number. IsWritten may z.0 z.1.0 z.1.1 (over w.0.0 ≡ true) number (written w.0.1) × (read_failed w.0.0 ≡ false) × (write_failed w.0.1 ≡ false))
        (λ fault. IsWrittenUpTo may fault z.0 z.1.0 z.1.1 (written w.0.1) × NamesTheEnd fault (read_failed w.0.0) (write_failed w.0.1))

-- ---- by which passages they came

module _ (comes : Passage → Type 0) where
  abbrev pub Came : List ClosedConnection → Type 0
  Came cs = All (λ c. comes c.passage) cs

  pub none_came : (now : List ClosedConnection) → now ≡ [] → Came now
  none_came now is = subst Came (sym is) (λ k d lt. absurd (omega (arith, lt)))

  pub still_came : (cs now : List ClosedConnection) → now ≡ cs → Came cs → Came now
  still_came cs now is came = subst Came (sym is) came

  pub one_came : (c : ClosedConnection) (cs now : List ClosedConnection) → now ≡ c ∷ cs → comes c.passage → Came cs → Came now
  one_came c cs now is one came = subst Came (sym is) (all_more (λ c. comes c.passage) c cs one came)

  -- a connection that is over is this one
  pub is_served : (found c : ClosedConnection) → found ≡ c → IsServedWhole c → comes c.passage → IsServedWhole found × comes found.passage × (found.outcome ≡ c.outcome)
  is_served found c is served came =
      (subst IsServedWhole (sym is) served, subst (λ (x : ClosedConnection). comes x.passage) (sym is) came, ap (λ (x : ClosedConnection). x.outcome) is)
