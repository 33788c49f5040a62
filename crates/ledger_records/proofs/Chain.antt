-- Changes of desks, and the records that their rows make.
use Rattle.std.proofs.Common.{length-append, ◌≡◌, ◌≢◌, ◌+◌, ◌<◌, ◌≤◌, ◌⊎◌, ℕ, All, List, [], ◌∷◌, ◌++◌, length, fold, option_map, slice_get, slice_set, string_bytes, Option, Some, None, Result, refl, sym, ap, subst, ◌∙◌, arith, inl, inr}
use Rattle.std.proofs.lemmas.Bool.{cases_eq}
use Rattle.std.proofs.lemmas.List.Elements.{All-push}
use Rattle.std.proofs.lemmas.List.Sums.{fold-append}
use Rattle.sqlite_trees.specs.Tree.{Trees}
use Rattle.sqlite_keyed.specs.Keyed.{IsKeyedBy}
use Rattle.accounts.specs.Ledgers.{Finishes, Ledger, Takes}
use Rattle.accounts.proofs.Keeping.{job_there}
use Rattle.sessions.specs.JobKeys.{noted}
use Rattle.sessions.specs.declared.job_key.KeyedJob.{KeyedJob}
use Rattle.desk_records.specs.Changes.{IsNarrowChange, IsNarrowNoted, all_changed}
use Rattle.desk_records.specs.Columns.{most_numbers}
use Rattle.desk_records.specs.Made.{all_made, key_id, keys_noted, made}
use Rattle.desk_records.specs.Stored.{AreNarrow, IsStored, Ledgers}
use Rattle.desk_records.specs.declared.stored_change.NotedKey.{NotedKey}
use Rattle.desk_records.specs.declared.stored_change.SettledJob.{SettledJob}
use Rattle.desk_records.specs.declared.stored_change.StoredChange.{StoredChange}
use Rattle.desk_records.specs.declared.stored_change.StoredChange.TheVariants as stored
use Rattle.desk_records.specs.declared.stored_key.StoredKey.{StoredKey}
use Rattle.desk_records.specs.declared.stored_tenant.StoredTenant.{StoredTenant}
use Rattle.desk_records.proofs.MadeLemmas.{all_made_stored, all_narrow_made, narrow_made, one_set}
use Rattle.server_state.specs.Changing.{LeadAll, Makes, desk_of, last_keyed, no_change, noted_each, one_change}
use Rattle.server_state.specs.States.{DeskState}
use Rattle.server_state.specs.declared.change.DeskChange.{DeskChange}
use Rattle.server_state.specs.declared.change.DeskChange.TheVariants.{Granted, Taken, Settled, Forgotten}
use Rattle.ledger_records.specs.ChangedRows.{AreRowsOf, AreRowsOfAll, IsRowOfKey, more_rows, no_rows}
use Rattle.ledger_records.specs.DeskRecords.{AreDesksOf, AreStatesAlike, IsDeskOf, keyed_jobs_of}
use Rattle.ledger_records.specs.LedgerRecords.{HasFewerKeyed}
use Rattle.ledger_records.proofs.Alike.{ledgers_alike}
use Rattle.ledger_records.proofs.Finding.{set_here, set_other, tenant_found}
use Rattle.ledger_records.proofs.Forgetting.{forgotten_kept}
use Rattle.ledger_records.proofs.Keys.{IfNoted, IsBelow, all_noted, few_noted, keys_kept, noted_rise, others_kept}
use Rattle.ledger_records.proofs.Others.{forgotten_elsewhere, granted_elsewhere, settled_elsewhere, taken_elsewhere}
use Rattle.ledger_records.proofs.Steps.{all_weaker, granted_kept, settled_kept, taken_kept}

-- the row of a key is of this desk and this number
key_of_row : (P : StoredKey → Type 0) (desk : ℕ) (l : Ledgers) (number : ℕ) (key : Option (List ℕ)) (row : Option NotedKey) → IsRowOfKey desk l number key row → ((k : List ℕ) → P (record { desk = desk; number = number; key = k })) → IfNoted P row
key_of_row P desk l number None None is each = tt
key_of_row P desk l number None (Some row) is each = absurd is
key_of_row P desk l number (Some key) None is each = absurd is
key_of_row P desk l number (Some key) (Some row) is each = subst P (sym is.0) (each key)

module _ (desk : ℕ) (l : Ledgers) (old : DeskState) (is : IsDeskOf desk l old) (narrow : AreNarrow l) (rise : IsKeyedBy key_id l.keys) where
  -- the keys behind a job that was taken
  keys_behind : (new : DeskState) (number : ℕ) (key : Option (List ℕ)) (row : Option NotedKey) → IsRowOfKey desk l number key row → new.keys ≡ noted_each old.keys (last_keyed key new.ledger) → number ≡ length new.ledger.jobs → number ≡ length old.ledger.jobs + 1 → IsNarrowNoted row
      → (new.keys ≡ keyed_jobs_of desk (keys_noted l.keys row)) × (length new.keys ≤ 1000)
  keys_behind new number None None row_is told last next small = (told ∙ is.keys, subst (λ (ks : List KeyedJob). length ks ≤ 1000) (sym told) is.few)
  keys_behind new number None (Some row) row_is told last next small = absurd row_is
  keys_behind new number (Some key) None row_is told last next small = absurd row_is
  keys_behind new number (Some key) (Some row) row_is told last next small =
      let own : row.key.desk ≡ desk = ap (λ (k : StoredKey). k.desk) row_is.0 in
      let numbered : row.key.number ≡ number = ap (λ (k : StoredKey). k.number) row_is.0 in
      let below : All (IsBelow desk row.key.number) l.keys =
      all_weaker (HasFewerKeyed desk (length old.ledger.jobs)) (IsBelow desk row.key.number) (λ y fewer mine. let p = fewer mine in omega (arith, p, numbered, next)) l.keys is.ledger.taken.keys in
      let few : length (keyed_jobs_of desk l.keys) ≤ 1000 = subst (λ (ks : List KeyedJob). length ks ≤ 1000) is.keys is.few in
      let kept = keys_kept desk l.keys row rise narrow.keys own small.0 below few row_is.1 in (
        told ∙ ap (λ (ks : List KeyedJob). noted ks (length new.ledger.jobs) key) is.keys ∙ ap (λ (n : ℕ). noted (keyed_jobs_of desk l.keys) n key) (sym (numbered ∙ last))
            ∙ ap (λ (k : List ℕ). noted (keyed_jobs_of desk l.keys) row.key.number k) (sym (ap (λ (k : StoredKey). k.key) row_is.0)) ∙ sym kept,
        subst (λ (ks : List KeyedJob). length ks ≤ 1000) (sym told) (few_noted old.keys (length new.ledger.jobs) key is.few),
      )

-- the desk of the change
own_kept : (l : Ledgers) (c : DeskChange) (old new : DeskState) (rows : StoredChange) → IsDeskOf (desk_of c) l old → AreNarrow l → IsKeyedBy key_id l.keys → Makes c old new → AreRowsOf l c rows → IsNarrowChange rows → IsDeskOf (desk_of c) (made l rows) new
own_kept l (Granted d tenant amount) old new rows is narrow rise makes are small =
    subst (λ (r : StoredChange). IsDeskOf d (made l r) new) (sym are.1) (record {
      ledger = granted_kept d l old.ledger new.ledger (string_bytes tenant) amount are.0 is.ledger makes.0 makes.2 are.2;
      keys = makes.1 ∙ is.keys;
      few = subst (λ (ks : List KeyedJob). length ks ≤ 1000) (sym makes.1) is.few;
    })
own_kept l (Taken d tenant key programs credit buffer) old new rows is narrow rise makes are small =
    let t = are.0 in
    let row = are.2 in
    let wide : IsNarrowChange (stored.Taken t) = subst IsNarrowChange are.1 small in
    let next : t.job.number ≡ length old.ledger.jobs + 1 = row.numbered (length old.ledger.jobs) is.ledger.taken in
    let takes : Takes old.ledger (string_bytes tenant) t.job.credit new.ledger = subst (λ (c : ℕ). Takes old.ledger (string_bytes tenant) c new.ledger) (sym row.credited) makes.0 in
    let long : length new.ledger.jobs ≡ length old.ledger.jobs + 1 = ap length takes.jobs.jobs ∙ length-append old.ledger.jobs (takes.entry ∷ []) in
    let fewer : All (HasFewerKeyed d (length old.ledger.jobs + 1)) l.keys =
    all_weaker (HasFewerKeyed d (length old.ledger.jobs)) (HasFewerKeyed d (length old.ledger.jobs + 1)) (λ k less own. let p = less own in omega (arith, p)) l.keys is.ledger.taken.keys in
    let keyed = all_noted (HasFewerKeyed d (length old.ledger.jobs + 1)) l.keys t.key fewer (key_of_row (HasFewerKeyed d (length old.ledger.jobs + 1)) d l t.job.number (option_map string_bytes key) t.key row.keyed (λ k own. omega (arith, next))) in
    let keys = keys_behind d l old is narrow rise new t.job.number (option_map string_bytes key) t.key row.keyed makes.2 (next ∙ sym long) next wide.1 in
    subst (λ (r : StoredChange). IsDeskOf d (made l r) new) (sym are.1) (record {
      ledger = taken_kept d l old.ledger new.ledger (string_bytes tenant) t is.ledger takes row.at row.tenant next wide.0.number keyed;
      keys = keys.0;
      few = keys.1;
    })
own_kept l (Settled id outcome) old new rows is narrow rise makes are small =
    let s = are.0 in
    let row = are.2 in
    let wide : IsNarrowChange (stored.Settled s) = subst IsNarrowChange are.1 small in
    let counted : 1 ≤ id.number = (job_there old.ledger.jobs id.number makes.0.entry makes.0.was).0 in
    let few : id.number < most_numbers = omega (arith, row.numbered, wide.0.number) in
    subst (λ (r : StoredChange). IsDeskOf id.desk (made l r) new) (sym are.1) (record {
      ledger = settled_kept id.desk l old.ledger new.ledger id.number outcome s is.ledger makes.0 row counted few;
      keys = makes.1 ∙ is.keys;
      few = subst (λ (ks : List KeyedJob). length ks ≤ 1000) (sym makes.1) is.few;
    })
own_kept l (Forgotten d ahead) old new rows is narrow rise makes are small =
    subst (λ (r : StoredChange). IsDeskOf d (made l r) new) (sym are.1) (record {
      ledger = forgotten_kept d l old.ledger new.ledger ahead are.0 is.ledger makes.0 are.2;
      keys = makes.1 ∙ is.keys;
      few = subst (λ (ks : List KeyedJob). length ks ≤ 1000) (sym makes.1) is.few;
    })

turned : (d desk : ℕ) (x : ℕ) → x ≡ d → d ≢ desk → x ≢ desk
turned d desk x is other = λ same. other (sym is ∙ same)

-- another desk
other_kept : (l : Ledgers) (c : DeskChange) (desk : ℕ) (state : DeskState) (rows : StoredChange) → desk_of c ≢ desk → IsDeskOf desk l state → AreNarrow l → AreRowsOf l c rows → IsNarrowChange rows → IsDeskOf desk (made l rows) state
other_kept l (Granted d tenant amount) desk state rows other is narrow are small =
    subst (λ (r : StoredChange). IsDeskOf desk (made l r) state) (sym are.1) (record { ledger = granted_elsewhere desk l state.ledger is.ledger are.0 (turned d desk are.0.desk are.2.at other) are.2.numbered; keys = is.keys; few = is.few })
other_kept l (Taken d tenant key programs credit buffer) desk state rows other is narrow are small =
    let t = are.0 in
    let row = are.2 in
    let wide : IsNarrowChange (stored.Taken t) = subst IsNarrowChange are.1 small in
    let apart = key_of_row (λ k. k.desk ≢ desk) d l t.job.number (option_map string_bytes key) t.key row.keyed (λ k. other) in
    subst (λ (r : StoredChange). IsDeskOf desk (made l r) state) (sym are.1) (record {
      ledger = taken_elsewhere desk l state.ledger is.ledger t (turned d desk t.job.desk row.at other) wide.0.number apart;
      keys = is.keys ∙ sym (others_kept desk l.keys t.key narrow.keys wide.1 apart);
      few = is.few;
    })
other_kept l (Settled id outcome) desk state rows other is narrow are small =
    let s = are.0 in
    let row = are.2 in
    let wide : IsNarrowChange (stored.Settled s) = subst IsNarrowChange are.1 small in
    let owner = (tenant_found id.desk row.job.tenant l.tenants row.row row.had).0 in
    let at : s.tenant.desk ≡ id.desk = ap (λ (x : StoredTenant). x.desk) row.tenant ∙ owner in
    subst (λ (r : StoredChange). IsDeskOf desk (made l r) state) (sym are.1) (record {
      ledger = settled_elsewhere desk l state.ledger is.ledger s (turned id.desk desk s.outcome.desk row.at other) wide.0.number (turned id.desk desk s.tenant.desk at other) row.own;
      keys = is.keys;
      few = is.few;
    })
other_kept l (Forgotten d ahead) desk state rows other is narrow are small =
    subst (λ (r : StoredChange). IsDeskOf desk (made l r) state) (sym are.1) (record {
      ledger = forgotten_elsewhere desk l state.ledger is.ledger are.0 (turned d desk are.0.desk.desk are.2.at other) (λ n among. (are.2.over n among).small);
      keys = is.keys;
      few = is.few;
    })

-- the keys rise on
rise_kept : (l : Ledgers) (c : DeskChange) (rows : StoredChange) → AreRowsOf l c rows → IsKeyedBy key_id l.keys → IsKeyedBy key_id (made l rows).keys
rise_kept l (Granted d tenant amount) rows are rise = subst (λ (r : StoredChange). IsKeyedBy key_id (made l r).keys) (sym are.1) rise
rise_kept l (Taken d tenant key programs credit buffer) rows are rise = subst (λ (r : StoredChange). IsKeyedBy key_id (made l r).keys) (sym are.1) (noted_rise l.keys are.0.key rise)
rise_kept l (Settled id outcome) rows are rise = subst (λ (r : StoredChange). IsKeyedBy key_id (made l r).keys) (sym are.1) rise
rise_kept l (Forgotten d ahead) rows are rise = subst (λ (r : StoredChange). IsKeyedBy key_id (made l r).keys) (sym are.1) rise

-- one change of all desks
change_kept : (desks : List DeskState) (l : Ledgers) (c : DeskChange) (rows : StoredChange) (old new : DeskState) → AreDesksOf l desks → slice_get desks (desk_of c) ≡ Some old → Makes c old new → AreRowsOf l c rows → IsNarrowChange rows → AreDesksOf (made l rows) (slice_set desks (desk_of c) new)
change_kept desks l c rows old new are was makes is narrow = record {
  each = λ place state at. go place state at (cases_eq place (desk_of c));
  narrow = narrow_made l rows are.narrow narrow;
  rise = rise_kept l c rows is are.rise;
}
  where
    go : (place : ℕ) (state : DeskState) → slice_get (slice_set desks (desk_of c) new) place ≡ Some state → (place ≡ desk_of c) ⊎ (place ≡ desk_of c → ⊥) → IsDeskOf place (made l rows) state
    go place state at (inl same) =
        let here : slice_get (slice_set desks (desk_of c) new) (desk_of c) ≡ Some state = ap (slice_get (slice_set desks (desk_of c) new)) (sym same) ∙ at in
        let there : Some new ≡ Some state = sym (set_here desks (desk_of c) old new was) ∙ here in
        let one : new ≡ state = cc there in
        subst (λ (p : ℕ). IsDeskOf p (made l rows) state) (sym same) (subst (λ (s : DeskState). IsDeskOf (desk_of c) (made l rows) s) one (own_kept l c old new rows (are.each (desk_of c) old was) are.narrow are.rise makes is narrow))
    go place state at (inr other) = other_kept l c place state rows (λ same. other (sym same)) (are.each place state (sym (set_other desks (desk_of c) place new other) ∙ at)) are.narrow is narrow

-- the last of a list that has one more
same_ends : {X : Type 0} (xs ys : List X) (x y : X) → xs ++ x ∷ [] ≡ ys ++ y ∷ [] → (xs ≡ ys) × (x ≡ y)
same_ends [] [] x y same = (refl, cc same)
same_ends [] (z ∷ []) x y same = absurd (cc)
same_ends [] (z ∷ w ∷ ys) x y same = absurd (cc)
same_ends (z ∷ []) [] x y same = absurd (cc)
same_ends (z ∷ w ∷ xs) [] x y same = absurd (cc)
same_ends {X} (z ∷ xs) (w ∷ ys) x y same =
    let head : z ≡ w = cc same in
    let tail : xs ++ x ∷ [] ≡ ys ++ y ∷ [] = cc same in
    let both = same_ends xs ys x y tail in
    (ap (λ (v : X). v ∷ xs) head ∙ ap (λ (vs : List X). w ∷ vs) both.0, both.1)

no_end : {X : Type 0} (xs : List X) (x : X) → [] ≡ xs ++ x ∷ [] → ⊥
no_end [] x same = absurd (cc)
no_end (y ∷ xs) x same = absurd (cc)

-- the last of changes that lead from desks to others
record LastLead (old : List DeskState) (changes : List DeskChange) (c : DeskChange) (after : List DeskState) : Type 0 where
  desks : List DeskState
  led : LeadAll old changes desks
  mid : DeskState
  was : slice_get desks (desk_of c) ≡ Some mid
  new : DeskState
  makes : Makes c mid new
  is : after ≡ slice_set desks (desk_of c) new

last_lead : (old : List DeskState) (all : List DeskChange) (after : List DeskState) (changes : List DeskChange) (c : DeskChange) → LeadAll old all after → all ≡ changes ++ c ∷ [] → LastLead old changes c after
last_lead old _ _ changes c no_change same = absurd (no_end changes c same)
last_lead old _ _ changes c (one_change before desks d mid new led was makes) same =
    let both = same_ends before changes d c same in record {
      desks = desks;
      led = subst (λ (cs : List DeskChange). LeadAll old cs desks) both.0 led;
      mid = mid;
      was = ap (λ (x : DeskChange). slice_get desks (desk_of x)) (sym both.1) ∙ was;
      new = new;
      makes = subst (λ (x : DeskChange). Makes x mid new) both.1 makes;
      is = ap (λ (x : DeskChange). slice_set desks (desk_of x) new) both.1;
    }

none_lead : (old : List DeskState) (all : List DeskChange) (after : List DeskState) → LeadAll old all after → all ≡ [] → after ≡ old
none_lead old _ _ no_change none = refl
none_lead old _ _ (one_change before desks d mid new led was makes) none = absurd (no_end before d (sym none))

pub all_recorded : (desks : List DeskState) (l : Ledgers) (changes : List DeskChange) (all : List StoredChange) (after : List DeskState) → AreDesksOf l desks → LeadAll desks changes after → AreRowsOfAll l changes all → AreDesksOf (all_made l all) after
all_recorded desks l _ _ after are lead no_rows = subst (λ (d : List DeskState). AreDesksOf l d) (sym (none_lead desks [] after lead refl)) are
all_recorded desks l _ _ after are lead (more_rows changes all c rows before is narrow) =
    let last = last_lead desks (changes ++ c ∷ []) after changes c lead refl in
    let mid = all_recorded desks l changes all last.desks are last.led before in
    subst (λ (m : Ledgers). AreDesksOf m after) (sym (fold-append made l all (rows ∷ []))) (subst (λ (d : List DeskState). AreDesksOf (made (all_made l all) rows) d) (sym last.is) (change_kept last.desks (all_made l all) c rows last.mid last.new mid last.was last.makes is narrow))

pub all_narrow_rows : (l : Ledgers) (changes : List DeskChange) (all : List StoredChange) → AreRowsOfAll l changes all → All IsNarrowChange all
all_narrow_rows l _ _ no_rows = λ k d lt. absurd (omega (arith, lt))
all_narrow_rows l _ _ (more_rows changes all c rows before is narrow) = All-push IsNarrowChange all rows (all_narrow_rows l changes all before) narrow

-- what a restart loads is what the changes made
pub restored_alike : (desks : List DeskState) (l : Ledgers) (changes : List DeskChange) (all : List StoredChange) (after : List DeskState) (db : Trees) (loaded : Ledgers) (place : ℕ) (state restored : DeskState) → AreDesksOf l desks → LeadAll desks changes after → AreRowsOfAll l changes all → IsStored db l
    → IsStored (all_changed db all) loaded → AreNarrow loaded → slice_get after place ≡ Some state → IsDeskOf place loaded restored → AreStatesAlike state restored
restored_alike desks l changes all after db loaded place state restored are lead rows stored_l stored_all narrow at is =
    let made_of = all_recorded desks l changes all after are lead rows in
    let each = all_narrow_rows l changes all rows in
    let same : loaded ≡ all_made l all = one_set (all_changed db all) loaded (all_made l all) narrow (all_narrow_made l all are.narrow each) stored_all (all_made_stored db l all stored_l) in
    let one = made_of.each place state at in
    let two : IsDeskOf place (all_made l all) restored = subst (λ (m : Ledgers). IsDeskOf place m restored) same is in
    record { ledgers = ledgers_alike place (all_made l all) state.ledger restored.ledger made_of.narrow one.ledger two.ledger; keys = one.keys ∙ sym two.keys }
