-- Records stand one behind the other in one way alone.
use Rattle.std.proofs.Common.{◌≡◌, ℕ, zero, suc, ◌+◌, ◌-◌, ◌*◌, ◌<◌, ◌≤◌, List, [], ◌∷◌, ◌++◌, length, take, drop, replicate, get_or, refl, sym, ap, subst, ◌∙◌, arith, append_assoc, inl, inr, lit<, lit≤, zero-le}
use Rattle.std.specs.Int.{w32, from_le_bytes}
use Rattle.std.proofs.lemmas.Bool.{cases_lt}
use Rattle.std.proofs.lemmas.List.{append-nil, take_at, drop_at, drop-drop, take_all, length-append, length-drop, take-append-le, take-append-drop, nil_from_length, length-replicate, take-replicate, get_or-replicate}
use Rattle.std.proofs.lemmas.Nat.{from_le_bytes-to_le_bytes_4}
use Rattle.journal.specs.Checksums.{crc32, crc32_byte, crc32_eight, crc32_bit}
use Rattle.journal.specs.Records.{length_bytes, checksum_bytes, header_of, record_of, journal_of, FitsRecord, AllFitRecords, IsTorn, DecodesTo, WholeWithin}

pub length-header : (payload : List ℕ) → length (header_of payload) ≡ 8
unfolding header_of
length-header payload = refl

pub length-record : (payload : List ℕ) → length (record_of payload) ≡ 8 + length payload
length-record payload = omega (arith, length-append (header_of payload) payload, length-header payload)

-- the four bytes at the front
pub front_4 : (payload more : List ℕ) → take 4 (record_of payload ++ more) ≡ length_bytes payload
unfolding header_of
front_4 payload more = refl

-- what the length at the front tells
pub claimed_length : (payload more : List ℕ) → FitsRecord payload → from_le_bytes w32 (take 4 (record_of payload ++ more)) ≡ length payload
claimed_length payload more fits = ap (from_le_bytes w32) (front_4 payload more) ∙ from_le_bytes-to_le_bytes_4 (length payload) fits

pub one_front : (p q x y : List ℕ) → FitsRecord p → FitsRecord q → record_of p ++ x ≡ record_of q ++ y → (p ≡ q) × (x ≡ y)
one_front p q x y fp fq e =
    let len : length p ≡ length q = sym (claimed_length p x fp) ∙ (ap (λ (b : List ℕ). from_le_bytes w32 (take 4 b)) e ∙ claimed_length q y fq) in
    let n = length (record_of p) in
    let m : length (record_of q) ≡ length (record_of p) = omega (arith, length-record p, length-record q) in
    let same : record_of p ≡ record_of q = sym (take_at (record_of p) x (length (record_of p)) refl) ∙ (ap (take (length (record_of p))) e ∙ take_at (record_of q) y (length (record_of p)) m) in
    let rest : x ≡ y = sym (drop_at (record_of p) x (length (record_of p)) refl) ∙ (ap (drop (length (record_of p))) e ∙ drop_at (record_of q) y (length (record_of p)) m) in
    (sym (drop_at (header_of p) p 8 (length-header p)) ∙ (ap (drop 8) same ∙ drop_at (header_of q) q 8 (length-header q)), rest)

-- fewer than eight bytes are no record
pub torn_short : (bytes : List ℕ) → length bytes < 8 → IsTorn bytes
torn_short bytes lt payload more fits e =
    let n : length bytes ≡ length (record_of payload ++ more) = ap length e in
    absurd (omega (arith, length-append (record_of payload) more, length-record payload))

-- ---- readings

agree : (ps qs : List (List ℕ)) (x y : List ℕ) → AllFitRecords ps → AllFitRecords qs → IsTorn x → IsTorn y
    → journal_of ps ++ x ≡ journal_of qs ++ y → (ps ≡ qs) × (x ≡ y)
agree [] [] x y fp fq tx ty e = (refl, e)
agree [] (q ∷ qs) x y fp fq tx ty e = absurd (tx q (journal_of qs ++ y) fq.0 (e ∙ append_assoc (record_of q) (journal_of qs) y))
agree (p ∷ ps) [] x y fp fq tx ty e = absurd (ty p (journal_of ps ++ x) fp.0 (sym e ∙ append_assoc (record_of p) (journal_of ps) x))
agree (p ∷ ps) (q ∷ qs) x y fp fq tx ty e =
    let one = one_front p q (journal_of ps ++ x) (journal_of qs ++ y) fp.0 fq.0 (sym (append_assoc (record_of p) (journal_of ps) x) ∙ (e ∙ append_assoc (record_of q) (journal_of qs) y)) in
    let more = agree ps qs x y fp.1 fq.1 tx ty one.1 in
    let both : p ∷ ps ≡ q ∷ qs = cc (one.0, more.0) in
    (both, more.1)

pub one_reading : (bytes : List ℕ) (ps qs : List (List ℕ)) (x y : List ℕ) → DecodesTo bytes ps x → DecodesTo bytes qs y → (ps ≡ qs) × (x ≡ y)
one_reading bytes ps qs x y r s = agree ps qs x y r.each s.each r.torn s.torn (sym r.whole ∙ s.whole)

pub round_trip : (payloads : List (List ℕ)) → AllFitRecords payloads → DecodesTo (journal_of payloads) payloads []
round_trip payloads fits = record { whole = sym (append-nil (journal_of payloads)); each = fits; torn = torn_short [] (lit< tt) }

begins : (ps qs : List (List ℕ)) (rest tail : List ℕ) → AllFitRecords ps → AllFitRecords qs → IsTorn tail
    → journal_of ps ++ rest ≡ journal_of qs ++ tail → (more : List (List ℕ)) × (qs ≡ ps ++ more)
begins [] qs rest tail fp fq torn e = (qs, refl)
begins (p ∷ ps) [] rest tail fp fq torn e = absurd (torn p (journal_of ps ++ rest) fp.0 (sym e ∙ append_assoc (record_of p) (journal_of ps) rest))
begins (p ∷ ps) (q ∷ qs) rest tail fp fq torn e =
    let one = one_front p q (journal_of ps ++ rest) (journal_of qs ++ tail) fp.0 fq.0 (sym (append_assoc (record_of p) (journal_of ps) rest) ∙ (e ∙ append_assoc (record_of q) (journal_of qs) tail)) in
    let next = begins ps qs rest tail fp.1 fq.1 torn one.1 in
    let both : q ∷ qs ≡ p ∷ (ps ++ next.0) = cc (one.0, next.1) in
    (next.0, both)

pub whole_first : (payloads qs : List (List ℕ)) (rest tail : List ℕ) → AllFitRecords payloads → DecodesTo (journal_of payloads ++ rest) qs tail
    → (more : List (List ℕ)) × (qs ≡ payloads ++ more)
whole_first payloads qs rest tail fits r = begins payloads qs rest tail fits r.each r.torn r.whole

-- ---- cuts

-- a record that is cut short is none
torn_cut : (p rest : List ℕ) (n : ℕ) → FitsRecord p → n < length (record_of p) → IsTorn (take n (record_of p ++ rest))
torn_cut p rest n fp lt q more fq e =
    let front : take n (record_of p) ≡ record_of q ++ more = sym (take-append-le n (record_of p) rest (omega arith)) ∙ e in
    let whole : record_of p ++ [] ≡ record_of q ++ (more ++ drop n (record_of p)) =
    append-nil (record_of p) ∙ (sym (take-append-drop n (record_of p)) ∙ (ap (λ (b : List ℕ). b ++ drop n (record_of p)) front ∙ append_assoc (record_of q) more (drop n (record_of p)))) in
    let none : [] ≡ more ++ drop n (record_of p) = (one_front p q [] (more ++ drop n (record_of p)) fp fq whole).1 in
    let counted : 0 ≡ length (more ++ drop n (record_of p)) = ap length none in
    absurd (omega (arith, length-append more (drop n (record_of p)), length-drop n (record_of p)))

take_past : (n : ℕ) (xs ys : List ℕ) → length xs ≤ n → take n (xs ++ ys) ≡ xs ++ take (n - length xs) ys
take_past n [] ys le = let e : n - 0 ≡ n = omega arith in rw e refl
take_past zero (x ∷ xs) ys le = absurd (omega arith)
take_past (suc n) (x ∷ xs) ys le =
    let e : suc n - suc (length xs) ≡ n - length xs = omega arith in
    rw e (ap (λ (b : List ℕ). x ∷ b) (take_past n xs ys (omega arith)))

abbrev Cut : List (List ℕ) → ℕ → Type 0
Cut payloads n = (count : ℕ) × (tail : List ℕ) × WholeWithin n payloads count × DecodesTo (take n (journal_of payloads)) (take count payloads) tail

-- nothing is whole within less than the first record
none_whole : (p : List ℕ) (ps : List (List ℕ)) (n k : ℕ) → n < length (record_of p) → length (journal_of (take k (p ∷ ps))) ≤ n → k ≤ 0
none_whole p ps n zero lt le = omega arith
none_whole p ps n (suc k) lt le = absurd (omega (arith, length-append (record_of p) (journal_of (take k ps))))

one_more : (p : List ℕ) (ps : List (List ℕ)) (n count k : ℕ) → length (record_of p) ≤ n → WholeWithin (n - length (record_of p)) ps count
    → k ≤ suc (length ps) → length (journal_of (take k (p ∷ ps))) ≤ n → k ≤ suc count
one_more p ps n count zero le whole there within = omega arith
one_more p ps n count (suc k) le whole there within =
    let most : k ≤ count = whole.most k (omega arith) (omega (arith, length-append (record_of p) (journal_of (take k ps)))) in
    omega arith

pub cut_anywhere : (payloads : List (List ℕ)) (n : ℕ) → AllFitRecords payloads → Cut payloads n
cut_anywhere [] n fits =
    let nothing : take n [] ≡ [] = take_all n [] (omega arith) in
    (0, [], record { there = lit≤ tt; within = zero-le; most = λ k le within. le }, record { whole = nothing; each = tt; torn = torn_short [] (lit< tt) })
cut_anywhere (p ∷ ps) n fits =
    elim (cases_lt n (length (record_of p))) [
      | inl lt ↦ (0, take n (record_of p ++ journal_of ps), record { there = omega arith; within = omega arith; most = λ k le within. none_whole p ps n k lt within }, record { whole = refl; each = tt; torn = torn_cut p (journal_of ps) n fits.0 lt })
      | inr le ↦
          let rest = cut_anywhere ps (n - length (record_of p)) fits.1 in
          let count = rest.0 in
          let tail = rest.1 in (
            suc count,
            tail,
            record {
              there = let there = rest.2.there in omega arith;
              within = let within = rest.2.within in omega (arith, length-append (record_of p) (journal_of (take count ps)));
              most = λ k there within. one_more p ps n count k le rest.2 there within;
            },
            record {
              whole = take_past n (record_of p) (journal_of ps) le ∙ (ap (λ (b : List ℕ). record_of p ++ b) rest.3.whole ∙ sym (append_assoc (record_of p) (journal_of (take count ps)) tail));
              each = (fits.0, rest.3.each);
              torn = rest.3.torn;
            },
          )
    ]

-- ---- zeros

-- a record of nothing has a checksum that isn't 0
empty_record : (more : List ℕ) → get_or (record_of [] ++ more) 4 0 ≡ 28
unfolding header_of crc32 crc32_byte crc32_eight crc32_bit
empty_record more = refl

pub zeros_are_torn : (n : ℕ) → IsTorn (replicate n 0)
zeros_are_torn n q more fits e =
    elim (cases_lt n 8) [
      | inl lt ↦ torn_short (replicate n 0) (rw length-replicate lt) q more fits e
      | inr le ↦
          let zeros : from_le_bytes w32 (take 4 (replicate n 0)) ≡ 0 = ap (from_le_bytes w32) (take-replicate 4 n 0 (omega arith)) in
          let len : length q ≡ 0 = sym (claimed_length q more fits) ∙ (ap (λ (b : List ℕ). from_le_bytes w32 (take 4 b)) (sym e) ∙ zeros) in
          let nothing : q ≡ [] = nil_from_length q len in
          let there : get_or (record_of q ++ more) 4 0 ≡ 0 = ap (λ (b : List ℕ). get_or b 4 0) (sym e) ∙ get_or-replicate n 4 0 0 (omega arith) in
          let sum : get_or (record_of q ++ more) 4 0 ≡ 28 = ap (λ (p : List ℕ). get_or (record_of p ++ more) 4 0) nothing ∙ empty_record more in
          absurd (omega arith)
    ]

-- ---- reading the front

pub header_front : (q more : List ℕ) → take 8 (record_of q ++ more) ≡ header_of q
unfolding header_of
header_front q more = refl

pub checksum_front : (q more : List ℕ) → take 4 (drop 4 (record_of q ++ more)) ≡ checksum_bytes q
unfolding header_of
checksum_front q more = refl

pub after_header : (q more : List ℕ) → drop 8 (record_of q ++ more) ≡ q ++ more
unfolding header_of
after_header q more = refl

-- the number that the code reads
pub claimed_head : (bytes q more head : List ℕ) → FitsRecord q → bytes ≡ record_of q ++ more → head ≡ take 8 bytes
    → get_or head 0 0 + get_or head 1 0 * 256 + get_or head 2 0 * 65536 + get_or head 3 0 * 16777216 ≡ length q
unfolding header_of
claimed_head bytes q more head fits e h =
    rw (h, e) (from_le_bytes-to_le_bytes_4 (length q) fits)

-- the payload that the code takes
pub claimed_is : (bytes q more : List ℕ) (len : ℕ) → len ≡ length q → bytes ≡ record_of q ++ more → take len (drop 8 bytes) ≡ q
claimed_is bytes q more len l e = rw (e, after_header q more) (take_at q more len (sym l))

pub claimed_fits : (bytes q more : List ℕ) → bytes ≡ record_of q ++ more → length q ≤ length (drop 8 bytes)
claimed_fits bytes q more e = rw (e, after_header q more) (omega (arith, length-append q more))

pub put_together : (bytes p : List ℕ) → take 4 bytes ≡ length_bytes p → take 4 (drop 4 bytes) ≡ checksum_bytes p
    → p ≡ take (length p) (drop 8 bytes) → bytes ≡ record_of p ++ drop (8 + length p) bytes
unfolding header_of
put_together bytes p len sum is =
    let one : bytes ≡ length_bytes p ++ drop 4 bytes = sym (take-append-drop 4 bytes) ∙ ap (λ (b : List ℕ). b ++ drop 4 bytes) len in
    let two : drop 4 bytes ≡ checksum_bytes p ++ drop 8 bytes = sym (take-append-drop 4 (drop 4 bytes)) ∙ (ap (λ (b : List ℕ). b ++ drop 4 (drop 4 bytes)) sum ∙ ap (λ (b : List ℕ). checksum_bytes p ++ b) (drop-drop 4 4 bytes)) in
    let three : drop 8 bytes ≡ p ++ drop (8 + length p) bytes = sym (take-append-drop (length p) (drop 8 bytes)) ∙ (ap (λ (b : List ℕ). b ++ drop (length p) (drop 8 bytes)) (sym is) ∙ ap (λ (b : List ℕ). p ++ b) (drop-drop (length p) 8 bytes)) in
    one ∙ (ap (λ (b : List ℕ). length_bytes p ++ b) two ∙ ap (λ (b : List ℕ). length_bytes p ++ (checksum_bytes p ++ b)) three)

-- ---- reading on

pub read_more : (bytes rest payload : List ℕ) (ps : List (List ℕ)) → bytes ≡ journal_of ps ++ rest → AllFitRecords ps → FitsRecord payload
    → rest ≡ record_of payload ++ drop (8 + length payload) rest
    → (bytes ≡ journal_of (ps ++ payload ∷ []) ++ drop (8 + length payload) rest) × AllFitRecords (ps ++ payload ∷ [])
read_more bytes rest payload [] e each fits is = (e ∙ (is ∙ ap (λ (b : List ℕ). b ++ drop (8 + length payload) rest) (sym (append-nil (record_of payload)))), (fits, tt))
read_more bytes rest payload (p ∷ ps) e each fits is =
    let more = read_more (journal_of ps ++ rest) rest payload ps refl each.1 fits is in
    (e ∙ (append_assoc (record_of p) (journal_of ps) rest ∙ (ap (λ (b : List ℕ). record_of p ++ b) more.0 ∙ sym (append_assoc (record_of p) (journal_of (ps ++ payload ∷ [])) (drop (8 + length payload) rest)))), (each.0, more.1))

pub read_all : (bytes rest : List ℕ) (ps : List (List ℕ)) → bytes ≡ journal_of ps ++ rest → AllFitRecords ps → IsTorn rest
    → DecodesTo bytes ps (drop (length bytes - length rest) bytes)
read_all bytes rest ps e each torn =
    let n : length (journal_of ps) ≡ length bytes - length rest = omega (arith, ap length e, length-append (journal_of ps) rest) in
    let tail : rest ≡ drop (length bytes - length rest) bytes = sym (ap (drop (length bytes - length rest)) e ∙ drop_at (journal_of ps) rest (length bytes - length rest) n) in
    record {
      whole = e ∙ ap (λ (b : List ℕ). journal_of ps ++ b) tail;
      each = each;
      torn = subst IsTorn tail torn;
    }

pub reads_on : (bytes rest after payload : List ℕ) (ps new : List (List ℕ)) → bytes ≡ journal_of ps ++ rest → AllFitRecords ps → FitsRecord payload
    → rest ≡ record_of payload ++ drop (8 + length payload) rest → after ≡ drop (8 + length payload) rest → new ≡ ps ++ payload ∷ []
    → (bytes ≡ journal_of new ++ after) × AllFitRecords new
reads_on bytes rest after payload ps new e each fits is a n =
    rw (a, n) (read_more bytes rest payload ps e each fits is)
