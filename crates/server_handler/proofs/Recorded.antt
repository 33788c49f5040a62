-- Changes that are added, one behind the other.
use Rattle.std.proofs.Common.{◌≡◌, ◌+◌, ℕ, List, [], ◌∷◌, ◌++◌, append_assoc, length, nat_lt, if◌then◌else◌, Bool, true, false, Option, None, Some, refl, sym, ap, subst, ◌∙◌, arith, append-nil}
use Rattle.std.proofs.lemmas.Bool.Decides.{nat_tests}
use Rattle.accounts.specs.Ledgers.{Ledger}
use Rattle.sessions.specs.JobKeys.{noted}
use Rattle.sessions.specs.declared.job_key.KeyedJob.{KeyedJob}
use Rattle.server_state.specs.Changing.{AddsChanges, Leads, MakesAt, Records, desk_with, last_keyed, no_change, noted_each, one_change}
use Rattle.server_state.specs.States.{DeskState}
use Rattle.server_state.specs.declared.change.DeskChange.{DeskChange}
use Rattle.server_state.specs.declared.change.ChangeSink.{Ghosts}
use Rattle.server_handler.specs.Recording.{keyed_taken}

pub noted_then : (keys ks ls : List KeyedJob) → noted_each keys (ks ++ ls) ≡ noted_each (noted_each keys ks) ls
noted_then keys [] ls = refl
noted_then keys (k ∷ ks) ls = noted_then (noted keys k.job k.key) ks ls

pub leads_then : (place : ℕ) (d m e : DeskState) (cs ds : List DeskChange) → Leads place d cs m → Leads place m ds e → Leads place d (cs ++ ds) e
leads_then place d m _ cs _ first no_change = subst (λ (l : List DeskChange). Leads place d l m) (sym (append-nil cs)) first
leads_then place d m e cs _ first (one_change ds mid c u before here makes) =
    subst (λ (l : List DeskChange). Leads place d l u) (append_assoc cs ds (c ∷ [])) (one_change (cs ++ ds) mid c u (leads_then place d m mid cs ds first before) here makes)

-- ---- the key of a job that was taken

-- none where no job is
pub keyed_none : (key : Option (List ℕ)) (d e : Ledger) → length e.jobs ≡ length d.jobs → keyed_taken key d e ≡ []
keyed_none key d e same =
    let none : nat_lt (length d.jobs) (length e.jobs) ≡ false = grind (arith, nat_tests, same) in
    ap (λ (b : Bool). if b then last_keyed key e else []) none

-- one where one is
pub keyed_one : (key : Option (List ℕ)) (d e : Ledger) → length e.jobs ≡ length d.jobs + 1 → keyed_taken key d e ≡ last_keyed key e
keyed_one key d e more =
    let one : nat_lt (length d.jobs) (length e.jobs) ≡ true = grind (arith, nat_tests, more) in
    ap (λ (b : Bool). if b then last_keyed key e else []) one

last_count : (key : Option (List ℕ)) (m e : Ledger) → length e.jobs ≡ length m.jobs → last_keyed key e ≡ last_keyed key m
last_count None m e same = refl
last_count (Some key) m e same = ap (λ (n : ℕ). record { job = n; key = key } ∷ []) same

-- what happens to jobs behind changes nothing of it
pub keyed_behind : (key : Option (List ℕ)) (d m e : Ledger) → length e.jobs ≡ length m.jobs → keyed_taken key d e ≡ keyed_taken key d m
keyed_behind key d m e same =
    ap (λ (n : ℕ). if nat_lt (length d.jobs) n then last_keyed key e else []) same
    ∙ ap (λ (l : List KeyedJob). if nat_lt (length d.jobs) (length m.jobs) then l else []) (last_count key m e same)

module _ {C : Type 0} (g : Ghosts C) (place : ℕ) where
  adds_both : (p q r : C) (d m e : Ledger) (ks ls : List KeyedJob) → AddsChanges g place p q d m ks → AddsChanges g place q r m e ls → AddsChanges g place p r d e (ks ++ ls)
  adds_both p q r d m e ks ls first second = record {
    changes = first.changes ++ second.changes;
    leads = λ keys. subst (λ (l : List KeyedJob). Leads place (desk_with d keys) (first.changes ++ second.changes) (desk_with e l)) (sym (noted_then keys ks ls))
        (leads_then place (desk_with d keys) (desk_with m (noted_each keys ks)) (desk_with e (noted_each (noted_each keys ks) ls)) first.changes second.changes (first.leads keys) (second.leads (noted_each keys ks)));
    added = second.added ∙ ap (λ (l : List DeskChange). l ++ second.changes) first.added ∙ append_assoc (g.added p) first.changes second.changes;
  }

  -- what is added first and then, with the keyed jobs of both
  pub records_both : (p q r : C) (d m e : Ledger) (ks ls : List KeyedJob) → Records g place p q d m ks → Records g place q r m e ls → Records g place p r d e (ks ++ ls)
  records_both p q r d m e ks ls first second = record {
    sound = λ on. first.sound (second.sound on);
    adds = λ on. adds_both p q r d m e ks ls (first.adds (second.sound on)) (second.adds on);
  }

  pub records_then : (p q r : C) (d m e : Ledger) → Records g place p q d m [] → Records g place q r m e [] → Records g place p r d e []
  records_then p q r d m e = records_both p q r d m e [] []

  -- the same with keyed jobs that are these
  pub records_keyed : (p q : C) (d e : Ledger) (ks ls : List KeyedJob) → ks ≡ ls → Records g place p q d e ls → Records g place p q d e ks
  records_keyed p q d e ks ls same records = subst (λ (l : List KeyedJob). Records g place p q d e l) (sym same) records

  -- the same with keyed jobs that are none
  pub records_unkeyed : (p q : C) (d e : Ledger) (ks : List KeyedJob) → ks ≡ [] → Records g place p q d e [] → Records g place p q d e ks
  records_unkeyed p q d e ks = records_keyed p q d e ks []

  -- nothing is added where nothing changes
  pub records_nothing : (p : C) (d e : Ledger) → e ≡ d → Records g place p p d e []
  records_nothing p d e same = record {
    sound = λ on. on;
    adds = λ on. record {
      changes = [];
      leads = λ keys. subst (λ (l : Ledger). Leads place (desk_with d keys) [] (desk_with l keys)) (sym same) no_change;
      added = sym (append-nil (g.added p));
    };
  }

  -- room is made
  pub records_room : (p q : C) (d : Ledger) → g.sound q ≡ g.sound p → g.added q ≡ g.added p → Records g place p q d d []
  records_room p q d sound same = record {
    sound = λ on. sym sound ∙ on;
    adds = λ on. record { changes = []; leads = λ keys. no_change; added = same ∙ sym (append-nil (g.added p)) };
  }

  -- a change is added
  pub records_one : (p q : C) (d e : Ledger) (ks : List KeyedJob) (c : DeskChange) → (g.sound q ≡ true → g.sound p ≡ true) → (g.sound q ≡ true → g.added q ≡ g.added p ++ c ∷ []) → MakesAt place c d e ks
      → Records g place p q d e ks
  records_one p q d e ks c sound added makes = record {
    sound = sound;
    adds = λ on. record {
      changes = c ∷ [];
      leads = λ keys. one_change [] (desk_with d keys) c (desk_with e (noted_each keys ks)) no_change makes.0 (makes.1 keys);
      added = added on;
    };
  }

  clash : (X : Type 0) → true ≡ false → X
  clash X is = absurd cc

  -- a change is missing
  pub records_missing : (p q : C) (d e : Ledger) (ks : List KeyedJob) → g.sound q ≡ false → Records g place p q d e ks
  records_missing p q d e ks not = record {
    sound = λ on. clash (g.sound p ≡ true) (sym on ∙ not);
    adds = λ on. clash (AddsChanges g place p q d e ks) (sym on ∙ not);
  }
