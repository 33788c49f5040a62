-- The keys of submits, and one more noted.
use Rattle.std.proofs.Common.{◌≡◌, ◌≢◌, ◌≤◌, ◌<◌, ℕ, zero, suc, ◌+◌, ◌-◌, Bool, true, false, List, [], ◌∷◌, ◌++◌, length, drop, take, nat_eq, slice_index, slice_index_or, Option, Some, if◌then◌else◌, refl, sym, ap, arith, length-append, ◌∙◌}
use Rattle.std.specs.Str.{bytes_eq}
use Rattle.std.proofs.Math.Seq.{take-append_seam}
use Rattle.std.proofs.lemmas.Bool.{false_from_ne_true}
use Rattle.std.proofs.lemmas.Bool.Decides.{Decides-eqb, nat_tests, not_from_Decides}
use Rattle.std.proofs.lemmas.List.{drop-append-le, drop-drop, drop-map, length-drop, length-map, map-append}
use Rattle.std.proofs.lemmas.Slice.Eq.{bytes_eq-Decides}
use Rattle.sessions.specs.Grammar.{is_job_key}
use Rattle.sessions.specs.JobKeys.{job_among, noted}
use Rattle.sessions.specs.KeyMarks.{mark_of, marks_of}
use Rattle.sessions.specs.declared.job_key.KeyedJob.{KeyedJob}

pub noted_short : (keys : List KeyedJob) (job : ℕ) (key : List ℕ) → length keys ≤ 1000 → length keys ≢ 1000 → keys ++ record { job = job; key = key } ∷ [] ≡ noted keys job key
noted_short keys job key few apart =
    let x : KeyedJob = record { job = job; key = key } in
    let none : length (keys ++ x ∷ []) - 1000 ≡ 0 = omega (arith, few, apart, length-append keys (x ∷ [])) in
    ap (λ n. drop n (keys ++ x ∷ [])) (sym none)

pub noted_full : (keys : List KeyedJob) (job : ℕ) (key : List ℕ) → length keys ≡ 1000 → drop 1 keys ++ record { job = job; key = key } ∷ [] ≡ noted keys job key
noted_full [] job key full = absurd (omega (arith, full))
noted_full (k ∷ keys) job key full =
    let x : KeyedJob = record { job = job; key = key } in
    let one : length ((k ∷ keys) ++ x ∷ []) - 1000 ≡ 1 = omega (arith, full, length-append (k ∷ keys) (x ∷ [])) in
    ap (λ n. drop n ((k ∷ keys) ++ x ∷ [])) (sym one)

-- a key has at most 64 bytes
pub key_short : (text : List ℕ) → is_job_key text ≡ true → length text ≤ 64
unfolding is_job_key
key_short text is = grind (arith, nat_tests, is)

-- the list behind its first so many, once these are turned to its end
pub first_dropped : {X : Type 0} (xs : List X) (n k : ℕ) → n ≤ length xs → k ≡ length xs - n → take k (drop n xs ++ take n xs) ≡ drop n xs
first_dropped xs n k le is =
    let long : k ≡ length (drop n xs) = is ∙ sym (length-drop n xs) in
    ap (λ (i : ℕ). take i (drop n xs ++ take n xs)) long ∙ take-append_seam (drop n xs) (take n xs)

-- One keyed job more behind the first so many, which are forgotten: where the first `later` are
-- forgotten then, the last 1,000 are left.
pub noted_behind : (jobs : List KeyedJob) (gone later job : ℕ) (key : List ℕ) → gone ≤ length jobs → later ≡ gone + (length jobs + 1 - gone - 1000) → drop later (jobs ++ record { job = job; key = key } ∷ []) ≡ noted (drop gone jobs) job key
noted_behind jobs gone later job key le is =
    let x : KeyedJob = record { job = job; key = key } in
    let k : ℕ = length (drop gone jobs ++ x ∷ []) - 1000 in
    let long : gone + k ≡ later = omega (arith, le, is, length-append (drop gone jobs) (x ∷ []), length-drop gone jobs) in
    sym (ap (drop k) (sym (drop-append-le gone jobs (x ∷ []) le)) ∙ drop-drop k gone (jobs ++ x ∷ []) ∙ ap (λ (i : ℕ). drop i (jobs ++ x ∷ [])) long)

-- the marks of keyed jobs and of one more
pub marks_noted : (jobs rows : List KeyedJob) (marks ms : List ℕ) (x : KeyedJob) (mark : ℕ) → marks ≡ marks_of jobs → rows ≡ jobs ++ x ∷ [] → ms ≡ marks ++ mark ∷ [] → mark ≡ mark_of x.key → ms ≡ marks_of rows
marks_noted jobs rows marks ms x mark are more also is =
    also ∙ ap (λ (l : List ℕ). l ++ mark ∷ []) are ∙ ap (λ (m : ℕ). marks_of jobs ++ m ∷ []) is ∙ sym (map-append (λ (keyed : KeyedJob). mark_of keyed.key) jobs (x ∷ [])) ∙ ap marks_of (sym more)

-- the marks of the keyed jobs behind the first ones
pub marks_behind : (n : ℕ) (jobs rows : List KeyedJob) (marks ms : List ℕ) → marks ≡ marks_of jobs → rows ≡ drop n jobs → ms ≡ drop n marks → ms ≡ marks_of rows
marks_behind n jobs rows marks ms are left also = also ∙ ap (drop n) are ∙ drop-map (λ (keyed : KeyedJob). mark_of keyed.key) n jobs ∙ ap marks_of (sym left)

-- a key of another mark is another key
apart_by_mark : (a b : List ℕ) → nat_eq (mark_of a) (mark_of b) ≡ false → bytes_eq a b ≡ false
apart_by_mark a b apart = false_from_ne_true (bytes_eq a b) (λ same. not_from_Decides (nat_eq (mark_of a) (mark_of b)) (Decides-eqb (mark_of a) (mark_of b)) apart (ap mark_of ((bytes_eq-Decides a b).0 same)))

-- a keyed job that the key isn't of is passed over
pub passed_over : (jobs : List KeyedJob) (key : List ℕ) (n m : ℕ) (d : KeyedJob) → n < length jobs → m ≡ suc n → bytes_eq (slice_index_or jobs n d).key key ≡ false → job_among (drop m jobs) key ≡ job_among (drop n jobs) key
passed_over [] key n m d inside is apart = absurd (omega (arith, inside))
passed_over (k ∷ ks) key zero m d inside is apart =
    ap (λ (i : ℕ). job_among (drop i (k ∷ ks)) key) is ∙ sym (ap (λ (b : Bool). if◌then◌else◌ {A = Option ℕ} b (Some k.job) (job_among ks key)) apart)
passed_over (k ∷ ks) key (suc n) m d inside is apart =
    ap (λ (i : ℕ). job_among (drop i (k ∷ ks)) key) is ∙ passed_over ks key n (suc n) d (omega (arith, inside)) refl apart

mark_at : (jobs : List KeyedJob) (n : ℕ) (d : KeyedJob) → n < length jobs → slice_index (marks_of jobs) n ≡ mark_of (slice_index_or jobs n d).key
mark_at [] n d inside = absurd (omega (arith, inside))
mark_at (k ∷ ks) zero d inside = refl
mark_at (k ∷ ks) (suc n) d inside = mark_at ks n d (omega (arith, inside))

-- so is one whose mark isn't that of the key
pub passed_by_mark : (jobs : List KeyedJob) (marks : List ℕ) (key : List ℕ) (n m mark : ℕ) → marks ≡ marks_of jobs → mark ≡ mark_of key → n < length marks → m ≡ suc n → nat_eq (slice_index marks n) mark ≡ false → job_among (drop m jobs) key ≡ job_among (drop n jobs) key
passed_by_mark jobs marks key n m mark are is inside next apart =
    let d : KeyedJob = record { job = 0; key = [] } in
    let long : length marks ≡ length jobs = ap length are ∙ length-map jobs (λ (keyed : KeyedJob). mark_of keyed.key) in
    let within : n < length jobs = omega (arith, inside, long) in
    let at : slice_index marks n ≡ mark_of (slice_index_or jobs n d).key = ap (λ (l : List ℕ). slice_index l n) are ∙ mark_at jobs n d within in
    let tested : nat_eq (slice_index marks n) mark ≡ nat_eq (mark_of (slice_index_or jobs n d).key) (mark_of key) = ap (λ (a : ℕ). nat_eq a mark) at ∙ ap (nat_eq (mark_of (slice_index_or jobs n d).key)) is in
    passed_over jobs key n m d within next (apart_by_mark (slice_index_or jobs n d).key key (sym tested ∙ apart))
