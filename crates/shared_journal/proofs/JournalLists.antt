-- Records of one seat among others, their bytes, and beginnings of lists.
use Rattle.std.proofs.Common.{◌≡◌, ◌≢◌, ◌==◌, ◌⊎◌, inl, inr, ℕ, ◌<◌, ◌≤◌, ◌+◌, Bool, true, false, List, [], ◌∷◌, ◌++◌, length, set, if◌then◌else◌, refl, sym, ap, ◌∙◌, zero, suc, arith, append_assoc}
use Rattle.std.proofs.lemmas.Bool.Decides.{nat_tests}
use mathlib.Core.Option.{some, some-ne-none, some-injective}
use mathlib.Core.List.{IsPrefix}
use lib.ListN.{get_elem?}
use Rattle.std.proofs.lemmas.List.{length-append}
use Rattle.shared_journal.specs.declared.seat_views.JournalEntry.{JournalEntry}
use Rattle.shared_journal.specs.JournalHistories.{entries_by, journal_bytes}

pub whole_prefix : {A : Type 0} (xs : List A) → IsPrefix xs xs
whole_prefix [] = ([], refl)
whole_prefix (x ∷ xs) = (let r = whole_prefix xs in r.0, ap (λ ys. x ∷ ys) (whole_prefix xs).1)

pub prefix_through : {A : Type 0} (xs ys zs : List A) → IsPrefix xs ys → IsPrefix ys zs → IsPrefix xs zs
prefix_through xs ys zs p q = (p.0 ++ q.0, sym (append_assoc xs p.0 q.0) ∙ (ap (λ w. w ++ q.0) p.1 ∙ q.1))

-- a list longer by something begins with it
pub longer_prefix : {A : Type 0} (xs ys zs : List A) → IsPrefix xs ys → IsPrefix xs (ys ++ zs)
longer_prefix xs ys zs p = (p.0 ++ zs, sym (append_assoc xs p.0 zs) ∙ ap (λ w. w ++ zs) p.1)

pub prefix_length : {A : Type 0} (xs ys : List A) → IsPrefix xs ys → length xs ≤ length ys
prefix_length xs ys p =
    let l : length (xs ++ p.0) ≡ length xs + length p.0 = length-append xs p.0 in
    let all : length (xs ++ p.0) ≡ length ys = ap length p.1 in omega (arith, l, all)

-- of two beginnings of a list the shorter one is a beginning of the other
pub shorter_prefix : {A : Type 0} (xs ys zs : List A) → IsPrefix xs zs → IsPrefix ys zs → length xs ≤ length ys → IsPrefix xs ys
shorter_prefix xs ys zs p q le = inside xs ys p.0 q.0 (p.1 ∙ sym q.1) le
  where
    head_or : {A : Type 0} → A → List A → A
    head_or other [] = other
    head_or other (z ∷ zs) = z

    tail_of : {A : Type 0} → List A → List A
    tail_of [] = []
    tail_of (z ∷ zs) = zs

    inside : {A : Type 0} (xs ys more others : List A) → xs ++ more ≡ ys ++ others → length xs ≤ length ys → IsPrefix xs ys
    inside [] ys more others same le = (ys, refl)
    inside (x ∷ xs) [] more others same le = absurd (omega (arith, le))
    inside (x ∷ xs) (y ∷ ys) more others same le =
        let further = inside xs ys more others (ap tail_of same) (omega (arith, le)) in (further.0, λ i. ap (head_or x) same i ∷ further.1 i)

-- of two lists with one beginning the rest is the same
pub same_rest : {A : Type 0} (xs ys zs : List A) → xs ++ ys ≡ xs ++ zs → ys ≡ zs
same_rest [] ys zs e = e
same_rest {A} (x ∷ xs) ys zs e = same_rest xs ys zs (ap tail_of e)
  where
    tail_of : List A → List A
    tail_of [] = []
    tail_of (y ∷ ys) = ys

front : (b : Bool) (x : JournalEntry) (more less rest : List JournalEntry) → more ≡ less ++ rest → (if b then x ∷ more else more) ≡ (if b then x ∷ less else less) ++ rest
front true x more less rest is = ap (λ l. x ∷ l) is
front false x more less rest is = is

-- one's own record is one more
pub entries_own : (n : ℕ) (es : List JournalEntry) (e : JournalEntry) → e.by ≡ n → entries_by n (es ++ e ∷ []) ≡ entries_by n es ++ e ∷ []
entries_own n [] e is =
    let t : (e.by == n) ≡ true = grind (arith, nat_tests) in ap (λ (b : Bool). if b then e ∷ [] else []) t
entries_own n (x ∷ xs) e is = front (x.by == n) x _ _ (e ∷ []) (entries_own n xs e is)

-- another's is none
pub entries_other : (n : ℕ) (es : List JournalEntry) (e : JournalEntry) → e.by ≢ n → entries_by n (es ++ e ∷ []) ≡ entries_by n es
entries_other n [] e differs =
    let t : (e.by == n) ≡ false = grind (arith, nat_tests) in ap (λ (b : Bool). if b then e ∷ [] else []) t
entries_other n (x ∷ xs) e differs = ap (λ (l : List JournalEntry). if x.by == n then x ∷ l else l) (entries_other n xs e differs)

pub nothing_behind : {A : Type 0} (xs : List A) → xs ++ [] ≡ xs
nothing_behind [] = refl
nothing_behind (x ∷ xs) = ap (λ l. x ∷ l) (nothing_behind xs)

-- the bytes of one record more
pub bytes_more : (es : List JournalEntry) (e : JournalEntry) → journal_bytes (es ++ e ∷ []) ≡ journal_bytes es ++ e.bytes
bytes_more [] e = nothing_behind e.bytes
bytes_more (x ∷ xs) e = ap (λ l. x.bytes ++ l) (bytes_more xs e) ∙ sym (append_assoc x.bytes (journal_bytes xs) e.bytes)

pub bytes_both : (es fs : List JournalEntry) → journal_bytes (es ++ fs) ≡ journal_bytes es ++ journal_bytes fs
bytes_both [] fs = refl
bytes_both (x ∷ xs) fs = ap (λ l. x.bytes ++ l) (bytes_both xs fs) ∙ sym (append_assoc x.bytes (journal_bytes xs) (journal_bytes fs))

pub set_length : {A : Type 0} (l : List A) (i : ℕ) (a : A) → length (set l i a) ≡ length l
set_length [] i a = refl
set_length (x ∷ xs) zero a = refl
set_length (x ∷ xs) (suc i) a = ap suc (set_length xs i a)

pub more_length : {A : Type 0} (l : List A) (a : A) → length (l ++ a ∷ []) ≡ suc (length l)
more_length [] a = refl
more_length (x ∷ xs) a = ap suc (more_length xs a)

pub there_below : {A : Type 0} (l : List A) (i : ℕ) (a : A) → get_elem? l i ≡ some a → i < length l
there_below [] i a e = absurd (some-ne-none a (sym e))
there_below (x ∷ xs) zero a e = omega arith
there_below (x ∷ xs) (suc i) a e = let r = there_below xs i a e in omega arith

-- an element of a list that is longer by one
pub at_end_or : {A : Type 0} (l : List A) (a b : A) (j : ℕ) → get_elem? (l ++ a ∷ []) j ≡ some b → (get_elem? l j ≡ some b) ⊎ ((j ≡ length l) × (a ≡ b))
at_end_or [] a b zero e = inr (refl, some-injective a b e)
at_end_or [] a b (suc j) e = absurd (some-ne-none b (sym e))
at_end_or (x ∷ xs) a b zero e = inl e
at_end_or {A} (x ∷ xs) a b (suc j) e = later (at_end_or xs a b j e)
  where
    later : (get_elem? xs j ≡ some b) ⊎ ((j ≡ length xs) × (a ≡ b)) → (get_elem? xs j ≡ some b) ⊎ ((suc j ≡ suc (length xs)) × (a ≡ b))
    later (inl was) = inl was
    later (inr t) = inr (ap suc t.0, t.1)
