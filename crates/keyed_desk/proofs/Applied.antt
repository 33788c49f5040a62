-- A change that is applied, or refused.
use Rattle.std.proofs.Common.{◌≡◌, ◌⊎◌, ◌<◌, ◌^◌, ℕ, true, Vec, Global, List, length, Result, OnOk, inl, inr, refl, sym, ap, subst}
use Rattle.recovery.specs.declared.state_machine.ApplyFault.{ApplyFault}
use Rattle.sessions.specs.Grammar.{is_job_key}
use Rattle.sessions.specs.JobKeys.{noted}
use Rattle.desk_journal.specs.DeskChanges.{change_bytes}
use Rattle.desk_journal.specs.DeskSteps.{MakesBytes, RefusesChangeBytes}
use Rattle.desk_journal.specs.declared.change.DeskChange.{DeskChange}
use Rattle.keyed_desk.specs.KeyedChanges.{by_key_bytes, key_kept_bytes, keyed_bytes}
use Rattle.keyed_desk.specs.KeyedSteps.{IsNoKey, KeyedState, MakesKeyed, RefusesKeyed, by_key, key_kept, by_no_key, no_key_kept, not_alone, not_by_key}
use Rattle.keyed_desk.specs.declared.keyed_change.KeyedChange.{KeyedChange}
use Rattle.keyed_desk.specs.declared.keyed_change.KeyedChange.TheVariants.{Plain, ByKey, KeyKept}
use Rattle.keyed_desk.proofs.KeysBack.{on_ok}

pub plain_refused : (s : KeyedState) (c : KeyedChange) (change : DeskChange) → c ≡ Plain change → RefusesChangeBytes s.desk (change_bytes change) → RefusesKeyed s (keyed_bytes c)
plain_refused s c change is refused = subst (λ (x : KeyedChange). RefusesKeyed s (keyed_bytes x)) (sym is) (not_alone refused)

pub keyed_made : (r : Result (Unit {0}) ApplyFault) (s t : KeyedState) (c : KeyedChange) (key : Vec ℕ Global) (change : DeskChange) (seen : List ℕ) → c ≡ ByKey key change → seen ≡ key.items
    → OnOk r (MakesBytes s.desk (change_bytes change) t.desk × (is_job_key seen ≡ true) × (t.keys ≡ noted s.keys (length t.desk.desk.jobs) seen)) → OnOk r (MakesKeyed s (keyed_bytes c) t)
keyed_made r s t c key change seen is same made = on_ok r (λ m. subst (λ (x : KeyedChange). MakesKeyed s (keyed_bytes x) t) (sym is)
    (by_key seen (change_bytes change) (ap (λ (l : List ℕ). by_key_bytes l (change_bytes change)) (sym same)) m.1 m.0 m.2)) made

pub keyed_refused : (s : KeyedState) (c : KeyedChange) (key : Vec ℕ Global) (change : DeskChange) (seen : List ℕ) → c ≡ ByKey key change → seen ≡ key.items → IsNoKey seen ⊎ RefusesChangeBytes s.desk (change_bytes change) → RefusesKeyed s (keyed_bytes c)
keyed_refused s c key change seen is same (inl none) = subst (λ (x : KeyedChange). RefusesKeyed s (keyed_bytes x)) (sym is) (by_no_key seen (change_bytes change) (ap (λ (l : List ℕ). by_key_bytes l (change_bytes change)) (sym same)) none)
keyed_refused s c key change seen is same (inr refused) = subst (λ (x : KeyedChange). RefusesKeyed s (keyed_bytes x)) (sym is) (not_by_key key.items (change_bytes change) refl refused)

pub kept_made : (r : Result (Unit {0}) ApplyFault) (s t : KeyedState) (c : KeyedChange) (job : ℕ) (key : Vec ℕ Global) (seen : List ℕ) → c ≡ KeyKept job key → seen ≡ key.items
    → OnOk r ((t.desk ≡ s.desk) × (job < 2 ^ 64) × (is_job_key seen ≡ true) × (t.keys ≡ noted s.keys job seen)) → OnOk r (MakesKeyed s (keyed_bytes c) t)
kept_made r s t c job key seen is same made = on_ok r (λ m. subst (λ (x : KeyedChange). MakesKeyed s (keyed_bytes x) t) (sym is) (key_kept job seen (ap (key_kept_bytes job) (sym same)) m.1 m.2 m.0 m.3)) made

pub kept_refused : (s : KeyedState) (c : KeyedChange) (job : ℕ) (key : Vec ℕ Global) (seen : List ℕ) → c ≡ KeyKept job key → seen ≡ key.items → IsNoKey seen → RefusesKeyed s (keyed_bytes c)
kept_refused s c job key seen is same none = subst (λ (x : KeyedChange). RefusesKeyed s (keyed_bytes x)) (sym is) (no_key_kept job seen (ap (key_kept_bytes job) (sym same)) none)
