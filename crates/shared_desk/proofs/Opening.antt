-- Connections that are opened one after the other, and their ends.
use Rattle.std.proofs.Common.{◌≡◌, ℕ, zero, suc, ◌+◌, ◌<◌, List, [], ◌∷◌, ◌++◌, length, slice_index_or, Bool, Result, Ok, Err, Vec, Global, refl, sym, ap, ◌∙◌, subst, arith}
use Rattle.std.specs.Prelude.{IfOk}
use Rattle.std.specs.List.{AllZip}
use Rattle.refusal.specs.declared.NoMemory.{NoMemory}
use Rattle.streams.specs.declared.fault.StreamFault.{StreamFault}
use Rattle.shared_desk.specs.declared.serving.ServedEnds.{ServedEnds}
use Rattle.shared_desk.specs.Histories.{HistoryEntry, part_of}
use Rattle.shared_desk.specs.ClientViews.{ClientView}
use Rattle.shared_desk.specs.Grants.{by_port}
use Rattle.shared_desk.specs.Parts.{IsServedPart}
use Rattle.shared_desk.specs.Together.{NoneHasFailed, AreOpened, AreServedParts}

-- the ends that are left are well
pub well_of : {R W : Type 0} (read_failed : R → Bool) (write_failed : W → Bool) (xs ys : List (R × W)) → xs ≡ ys → NoneHasFailed read_failed write_failed xs → NoneHasFailed read_failed write_failed ys
well_of read_failed write_failed xs ys is well = subst (λ l. NoneHasFailed read_failed write_failed l) is well

-- one more is opened
pub opened_more : {E : Type 0} (n : ℕ) (es : List E) (cs : List (E × ClientView)) (e : E) (c : E × ClientView)
    → AreOpened n es cs → c.0 ≡ e → c.1.number ≡ n + length es → c.1.part ≡ [] → AreOpened n (es ++ e ∷ []) (cs ++ c ∷ [])
opened_more n [] [] e c all ends number none = (ends, (let is = number in omega arith), none, tt)
opened_more n [] (x ∷ xs) e c all ends number none = absurd all
opened_more n (y ∷ ys) [] e c all ends number none = absurd all
opened_more n (y ∷ ys) (x ∷ xs) e c all ends number none =
    (all.0, all.1, all.2, opened_more (n + 1) ys xs e c all.3 ends (let is = number in omega arith) none)

pub opened_length : {E : Type 0} (n : ℕ) (es : List E) (cs : List (E × ClientView)) → AreOpened n es cs → length cs ≡ length es
opened_length n [] [] all = refl
opened_length n [] (x ∷ xs) all = absurd all
opened_length n (y ∷ ys) [] all = absurd all
opened_length n (y ∷ ys) (x ∷ xs) all = ap suc (opened_length (n + 1) ys xs all.3)

-- what stands at a place
pub opened_at : {E : Type 0} (n : ℕ) (es : List E) (cs : List (E × ClientView)) (i : ℕ) (d : E × ClientView) (e : E) → AreOpened n es cs → i < length es
    → ((slice_index_or cs i d).0 ≡ slice_index_or es i e) × ((slice_index_or cs i d).1.number ≡ n + i) × ((slice_index_or cs i d).1.part ≡ [])
opened_at n [] cs i d e all lt = absurd (omega (arith, lt))
opened_at n (y ∷ ys) [] i d e all lt = absurd all
opened_at n (y ∷ ys) (x ∷ xs) zero d e all lt = (all.0, (let is = all.1 in omega arith), all.2)
opened_at n (y ∷ ys) (x ∷ xs) (suc i) d e all lt =
    let rest = opened_at (n + 1) ys xs i d e all.3 (omega (arith, lt)) in
    (rest.0, (let is = rest.1 in omega arith), rest.2)

-- two lists that agree place by place
pub zip_more : {A B : Type 0} (R : A → B → Type 0) (xs : List A) (ys : List B) (x : A) (y : B) → AllZip R xs ys → R x y → AllZip R (xs ++ x ∷ []) (ys ++ y ∷ [])
zip_more R [] [] x y all one = (one, tt)
zip_more R [] (b ∷ bs) x y all one = absurd all
zip_more R (a ∷ as1) [] x y all one = absurd all
zip_more R (a ∷ as1) (b ∷ bs) x y all one = (all.0, zip_more R as1 bs x y all.1 one)

zip_length : {A B : Type 0} (R : A → B → Type 0) (xs : List A) (ys : List B) → AllZip R xs ys → length ys ≡ length xs
zip_length R [] [] all = refl
zip_length R [] (b ∷ bs) all = absurd all
zip_length R (a ∷ as1) [] all = absurd all
zip_length R (a ∷ as1) (b ∷ bs) all = ap suc (zip_length R as1 bs all.1)

zip_at : {A B : Type 0} (R : A → B → Type 0) (xs : List A) (ys : List B) (i : ℕ) (d : A) (e : B) → AllZip R xs ys → i < length xs → R (slice_index_or xs i d) (slice_index_or ys i e)
zip_at R [] ys i d e all lt = absurd (omega (arith, lt))
zip_at R (a ∷ as1) [] i d e all lt = absurd all
zip_at R (a ∷ as1) (b ∷ bs) zero d e all lt = all.0
zip_at R (a ∷ as1) (b ∷ bs) (suc i) d e all lt = zip_at R as1 bs i d e all.1 (omega (arith, lt))

-- no entry is of a connection, where there is none
pub none_of : (history : List HistoryEntry) → history ≡ [] → (n : ℕ) → part_of n history ≡ []
none_of history empty n = ap (part_of n) empty

module _ {R W : Type 0} (read : R → List ℕ) (over read_failed : R → Bool) (written : W → List ℕ) (write_failed : W → Bool) where
  -- served connections, without their seats
  pub parts_of_ends : {C : Type 0} (history : List HistoryEntry) (ends : List (R × W)) (opened : List ((R × W) × ClientView)) (served : List C) (result : Result (Vec (ServedEnds R W) Global) NoMemory)
      (reader : C → R) (writer : C → W) (outcome : C → Result ℕ StreamFault) (make : ServedEnds R W → C)
      → AreOpened 0 ends opened → length served ≡ length opened
      → ((i : ℕ) (d : (R × W) × ClientView) (c : C) → i < length opened → IsServedPart by_port read over read_failed written write_failed (slice_index_or opened i d).0 (part_of i history) (reader (slice_index_or served i c), writer (slice_index_or served i c)) (outcome (slice_index_or served i c)))
      → IfOk result (λ all. AllZip (λ c e. (e.reader ≡ reader c) × (e.writer ≡ writer c) × (e.outcome ≡ outcome c)) served all.items)
      → IfOk result (λ all. AreServedParts read over read_failed written write_failed history ends all.items)
  parts_of_ends history ends opened served (Err fault) reader writer outcome make are same each zip = tt
  parts_of_ends {C} history ends opened served (Ok all) reader writer outcome make are same each zip =
      let count = opened_length 0 ends opened are in (
        zip_length agrees served all.items zip ∙ (same ∙ count),
        λ i d e lt. at i d e lt (omega (arith, count, lt)),
      )
    where
      agrees : C → ServedEnds R W → Type 0
      agrees c e = (e.reader ≡ reader c) × (e.writer ≡ writer c) × (e.outcome ≡ outcome c)

      at : (i : ℕ) (d : R × W) (e : ServedEnds R W) → i < length ends → i < length opened
          → IsServedPart by_port read over read_failed written write_failed (slice_index_or ends i d) (part_of i history) ((slice_index_or all.items i e).reader, (slice_index_or all.items i e).writer) (slice_index_or all.items i e).outcome
      at i d e lt below =
          let unseen : (R × W) × ClientView = (d, record { number = 0; seen = []; part = [] }) in
          let there = opened_at 0 ends opened i unseen d are lt in
          let agree = zip_at agrees served all.items i (make e) e zip (omega (arith, same, below)) in
          let P : (R × W) × ((R × W) × Result ℕ StreamFault) → Type 0 = λ z. IsServedPart by_port read over read_failed written write_failed z.0 (part_of i history) z.1.0 z.1.1 in
          subst P (λ k. (there.0 k, ((sym agree.0 k, sym agree.1 k), sym agree.2 k))) (each i unseen (make e) below)
