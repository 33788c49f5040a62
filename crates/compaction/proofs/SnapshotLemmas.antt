-- A snapshot leads to states that are alike one, from which changes go on.
use Rattle.std.proofs.Common.{◌≡◌, ℕ, List, [], ◌∷◌, ◌++◌, refl, sym, subst, ◌∙◌, inl, inr}
use Rattle.std.specs.Prelude.{◌⊎◌}
use Rattle.journal.specs.Records.{journal_of, AllFitRecords, DecodesTo}
use Rattle.recovery.specs.Histories.{ReplaysChanges, IsAfter}
pub use Rattle.recovery.proofs.HistoryLemmas.{replays_on}
use Rattle.compaction.specs.Snapshots.{IsAlikeAfter, IsSnapshot, Restores, StandsForHistory, LeadsToHistory}

-- ---- a history that goes on

-- the state between the first changes and the rest
pub replays_split : {M : Type 0} (steps : M → List ℕ → M → Type 0) (first : M) (history more : List (List ℕ)) (later : M)
    → ReplaysChanges steps first (history ++ more) later → (mid : M) × ReplaysChanges steps first history mid × ReplaysChanges steps mid more later
replays_split {M} steps first [] more later r = (first, refl, r)
replays_split {M} steps first (change ∷ history) more later r =
    let rest = replays_split steps r.0 history more later r.2 in
    (rest.0, (r.0, r.1, rest.1), rest.2)

-- ---- states that are alike

abbrev pub StepsCarryOver : {M : Type 0} → (M → List ℕ → M → Type 0) → (M → M → Type 0) → Type 0
StepsCarryOver {M} steps alike = (s t u : M) (change : List ℕ) → alike s t → steps s change u → (v : M) × steps t change v × alike u v

-- what changes lead to from one, they lead to from the other
replays_alike : {M : Type 0} (steps : M → List ℕ → M → Type 0) (alike : M → M → Type 0) → StepsCarryOver steps alike → (s t u : M) (changes : List (List ℕ))
    → alike s t → ReplaysChanges steps s changes u → (v : M) × ReplaysChanges steps t changes v × alike u v
replays_alike {M} steps alike carries s t u [] are r = (t, refl, subst (λ (m : M). alike m t) (sym r) are)
replays_alike {M} steps alike carries s t u (change ∷ changes) are r =
    let first = carries s t r.0 change are r.1 in
    let rest = replays_alike steps alike carries r.0 first.0 u changes first.2 r.2 in
    (rest.0, (first.0, first.1, rest.1), rest.2)

pub stands_on : {M : Type 0} (starts : M → Type 0) (steps : M → List ℕ → M → Type 0) (alike : M → M → Type 0) → StepsCarryOver steps alike → (changes history more : List (List ℕ))
    → StandsForHistory starts steps alike changes history → StandsForHistory starts steps alike (changes ++ more) (history ++ more)
stands_on {M} starts steps alike carries changes history more stands later goes =
    let cut = replays_split steps goes.0 changes more later goes.2 in
    let twin = stands cut.0 (goes.0, goes.1, cut.1) in
    let on = replays_alike steps alike carries cut.0 twin.0 later more twin.2 cut.2 in
    (on.0, (twin.1.0, twin.1.1, replays_on steps twin.1.0 history more twin.0 on.0 twin.1.2 on.1), on.2)

pub stands_through : {M : Type 0} (starts : M → Type 0) (steps : M → List ℕ → M → Type 0) (alike : M → M → Type 0) → ((s t u : M) → alike s t → alike t u → alike s u)
    → (changes between history : List (List ℕ)) → StandsForHistory starts steps alike changes between → StandsForHistory starts steps alike between history → StandsForHistory starts steps alike changes history
stands_through {M} starts steps alike through changes between history first second other goes =
    let mid = first other goes in
    let last = second mid.0 mid.1 in
    (last.0, last.1, through other mid.0 last.0 mid.2 last.2)

restored_stands : {M : Type 0} (starts : M → Type 0) (steps : M → List ℕ → M → Type 0) (alike : M → M → Type 0) (history payloads : List (List ℕ)) (machine : M)
    → IsAfter starts steps history machine → Restores starts steps alike payloads machine → StandsForHistory starts steps alike payloads history
restored_stands {M} starts steps alike history payloads machine after restores other goes = (machine, after, restores.only other goes)

pub stands_for : {M : Type 0} (starts : M → Type 0) (steps : M → List ℕ → M → Type 0) (alike : M → M → Type 0) → StepsCarryOver steps alike
    → (history payloads more : List (List ℕ)) (machine : M)
    → IsAfter starts steps history machine → Restores starts steps alike payloads machine → StandsForHistory starts steps alike (payloads ++ more) (history ++ more)
stands_for {M} starts steps alike carries history payloads more machine after restores =
    stands_on starts steps alike carries payloads history more (restored_stands starts steps alike history payloads machine after restores)

-- ---- what a crash leaves

abbrev pub RoundTrip : Type 0
RoundTrip = (payloads : List (List ℕ)) → AllFitRecords payloads → DecodesTo (journal_of payloads) payloads []

pub old_leads : {M : Type 0} (starts : M → Type 0) (steps : M → List ℕ → M → Type 0) (alike : M → M → Type 0) → ((s : M) → alike s s) → RoundTrip → (left : List ℕ) (history : List (List ℕ)) (machine : M)
    → AllFitRecords history → IsAfter starts steps history machine → left ≡ journal_of history → LeadsToHistory starts steps alike left history machine
old_leads {M} starts steps alike itself law left history machine fit after is =
    record {
      payloads = history;
      reads = subst (λ (b : List ℕ). DecodesTo b history []) (sym is) (law history fit);
      reaches = after;
      only = λ other leads. (other, leads, itself other);
    }

pub new_leads : {M : Type 0} (starts : M → Type 0) (steps : M → List ℕ → M → Type 0) (alike : M → M → Type 0) → RoundTrip → (left bytes : List ℕ) (history : List (List ℕ)) (machine : M)
    → IsSnapshot starts steps alike machine bytes → IsAfter starts steps history machine → left ≡ bytes
    → LeadsToHistory starts steps alike left history machine
new_leads {M} starts steps alike law left bytes history machine snapshot after is =
    record {
      payloads = snapshot.payloads;
      reads = subst (λ (b : List ℕ). DecodesTo b snapshot.payloads []) (sym (is ∙ snapshot.are)) (law snapshot.payloads snapshot.fits);
      reaches = snapshot.restores.reaches;
      only = restored_stands starts steps alike history snapshot.payloads machine after snapshot.restores;
    }

pub either_leads : {M : Type 0} (starts : M → Type 0) (steps : M → List ℕ → M → Type 0) (alike : M → M → Type 0) → ((s : M) → alike s s) → RoundTrip → (left bytes : List ℕ) (history : List (List ℕ)) (machine : M)
    → AllFitRecords history → IsSnapshot starts steps alike machine bytes → IsAfter starts steps history machine
    → (left ≡ journal_of history) ⊎ (left ≡ bytes) → LeadsToHistory starts steps alike left history machine
either_leads {M} starts steps alike itself law left bytes history machine fit snapshot after e =
    elim e [
      | inl old ↦ old_leads starts steps alike itself law left history machine fit after old
      | inr new ↦ new_leads starts steps alike law left bytes history machine snapshot after new
    ]

pub keeps_state : {M : Type 0} (starts : M → Type 0) (steps : M → List ℕ → M → Type 0) (alike : M → M → Type 0)
    → ((bytes : List ℕ) (ps qs : List (List ℕ)) (x y : List ℕ) → DecodesTo bytes ps x → DecodesTo bytes qs y → (ps ≡ qs) × (x ≡ y))
    → (bytes tail : List ℕ) (history payloads : List (List ℕ)) (machine recovered : M) → LeadsToHistory starts steps alike bytes history machine
    → DecodesTo bytes payloads tail → IsAfter starts steps payloads recovered → IsAlikeAfter starts steps alike history recovered
keeps_state {M} starts steps alike law bytes tail history payloads machine recovered leads reads after =
    let same = (law bytes payloads leads.payloads tail [] reads leads.reads).0 in
    leads.only recovered (subst (λ (ps : List (List ℕ)). IsAfter starts steps ps recovered) same after)

pub equal_after : {M : Type 0} (starts : M → Type 0) (steps : M → List ℕ → M → Type 0) (alike : M → M → Type 0) (changes history : List (List ℕ)) (machine : M) → ((s t : M) → alike s t → s ≡ t)
    → StandsForHistory starts steps alike changes history → IsAfter starts steps changes machine → IsAfter starts steps history machine
equal_after {M} starts steps alike changes history machine equal stands after =
    let twin = stands machine after in
    subst (λ (m : M). IsAfter starts steps history m) (sym (equal machine twin.0 twin.2)) twin.1
