-- How runs of answered frames join.
use Rattle.std.proofs.Common.{◌≡◌, ◌⊎◌, inl, inr, length, length-append, ℕ, suc, ◌+◌, ◌-◌, ◌^◌, ◌<◌, ◌≤◌, List, [], ◌++◌, take, drop, min, Bool, Result, Ok, Err, IfOk, IfErr, refl, sym, ap, ◌∙◌, subst, arith, append_assoc, append-nil}
use Rattle.std.proofs.lemmas.List.{length-drop, take-append-drop}
use Rattle.sessions.specs.Frames.{Front, front, whole, partial, too_large}
use Rattle.sessions.proofs.Fronts.{front_stable}
use Rattle.streams.specs.Serves.{Serves, none_yet, one_more}
use Rattle.streams.specs.Unanswered.{IsUnanswered}
use Rattle.streams.specs.declared.fault.StreamFault.{StreamFault}
use Rattle.streams.specs.declared.fault.StreamFault.TheVariants.{ReadFailed, WriteFailed, NoMemory}
use Rattle.streams.specs.Stops.{EndsWith, IsCutShort, IsGivenUp, IsGrown, IsLastUnwritten, IsPartWritten, IsServed, IsStarved, IsStoppedBy, IsUnwritten, StopsAt, ahead_of_reply, between, too_large_reply}

-- more bytes change nothing of what was answered
pub serves_more : {S : Type 0} (answers : S → List ℕ → List ℕ → S → Type 0) (start : S) (bytes written more : List ℕ) (count : ℕ) (s : S) (left out : List ℕ) → Serves answers start bytes written count s left out → Serves answers start (bytes ++ more) written count s (left ++ more) out
serves_more answers start bytes written more count s left out none_yet = none_yet
serves_more answers start bytes written more count s left out (one_more before u left1 out1 payload rest reply after served first answer) =
    one_more before u (left1 ++ more) out1 payload (rest ++ more) reply after (serves_more answers start bytes written more before u left1 out1 served) (front_stable left1 more payload rest first) answer

-- one more frame is answered
pub serves_one : {S : Type 0} (answers : S → List ℕ → List ℕ → S → Type 0) (start : S) (bytes written : List ℕ) (count : ℕ) (s : S) (left out payload rest reply : List ℕ) (t : S) (out1 : List ℕ) → Serves answers start bytes written count s left out → front left ≡ whole payload rest → answers s payload reply t → out1 ≡ out ++ reply → Serves answers start bytes written (suc count) t rest out1
serves_one answers start bytes written count s left out payload rest reply t out1 served first answer is =
    let P : List ℕ → Type 0 = λ o. Serves answers start bytes written (suc count) t rest o in
    subst P (sym is) (one_more count s left out payload rest reply t served first answer)

recount : {S : Type 0} (answers : S → List ℕ → List ℕ → S → Type 0) (start : S) (bytes written : List ℕ) (s : S) (left out : List ℕ) {n m : ℕ} → n ≡ m → Serves answers start bytes written n s left out → Serves answers start bytes written m s left out
recount answers start bytes written s left out is served =
    let P : ℕ → Type 0 = λ n. Serves answers start bytes written n s left out in
    subst P is served

pub serves_on : {S : Type 0} (answers : S → List ℕ → List ℕ → S → Type 0) (start : S) (bytes written : List ℕ) (first : ℕ) (s : S) (left out : List ℕ) (second : ℕ) (t : S) (left1 out1 : List ℕ) → Serves answers start bytes written first s left out → Serves answers s left out second t left1 out1 → Serves answers start bytes written (first + second) t left1 out1
serves_on answers start bytes written first s left out second t left1 out1 earlier none_yet =
    let same : first ≡ first + 0 = omega arith in
    recount answers start bytes written s left out same earlier
serves_on answers start bytes written first s left out second t left1 out1 earlier (one_more before u left2 out2 payload rest reply after served stands answer) =
    let next : suc (first + before) ≡ first + suc before = omega arith in
    recount answers start bytes written t left1 (out2 ++ reply) next
    (one_more (first + before) u left2 out2 payload rest reply after (serves_on answers start bytes written first s left out before u left2 out2 earlier served) stands answer)

-- what is written grows
pub serves_grow : {S : Type 0} (answers : S → List ℕ → List ℕ → S → Type 0) (start : S) (bytes written : List ℕ) (count : ℕ) (s : S) (left out : List ℕ) → Serves answers start bytes written count s left out → IsGrown written out
serves_grow answers start bytes written count s left out none_yet = ([], sym (append-nil written))
serves_grow answers start bytes written count s left out (one_more before u left1 out1 payload rest reply after served stands answer) =
    let earlier = serves_grow answers start bytes written before u left1 out1 served in
    (earlier.0 ++ reply, ap (λ xs. xs ++ reply) earlier.1 ∙ append_assoc written earlier.0 reply)

pub grows_on : (before mid after : List ℕ) → IsGrown before mid → IsGrown mid after → IsGrown before after
grows_on before mid after first second =
    (first.0 ++ second.0, second.1 ∙ ap (λ xs. xs ++ second.0) first.1 ∙ append_assoc before first.0 second.0)

pub grows_none : (before : List ℕ) → IsGrown before before
grows_none before = ([], sym (append-nil before))

-- a beginning is one behind less that was written
pub part_on : (before mid due after : List ℕ) → IsGrown before mid → IsPartWritten mid due after → IsPartWritten before due after
part_on before mid due after grown cut = record {
  part = grown.0 ++ cut.part;
  lacking = cut.lacking;
  written = cut.written ∙ ap (λ xs. xs ++ cut.part) grown.1 ∙ append_assoc before grown.0 cut.part;
  lacks = cut.lacks;
  some = cut.some;
}

-- a beginning of these bytes is one of more bytes
pub part_of_more : (before due more after : List ℕ) → IsPartWritten before due after → IsPartWritten before (due ++ more) after
part_of_more before due more after cut = record {
  part = cut.part;
  lacking = cut.lacking ++ more;
  written = cut.written;
  lacks = sym (append_assoc after cut.lacking more) ∙ ap (λ xs. xs ++ more) cut.lacks;
  some = omega (arith, length-append cut.lacking more, cut.some);
}

-- a write that fails leaves a beginning
pub part_of_write : (before bytes after : List ℕ) (n : ℕ) → n < length bytes → after ≡ before ++ take n bytes → IsPartWritten before (before ++ bytes) after
part_of_write before bytes after n less is = record {
  part = take n bytes;
  lacking = drop n bytes;
  written = is;
  lacks = ap (λ xs. xs ++ drop n bytes) is ∙ append_assoc before (take n bytes) (drop n bytes) ∙ ap (λ xs. before ++ xs) (take-append-drop n bytes);
  some = omega (arith, length-drop n bytes, less);
}

-- ---- within a piece

-- what is due to the frames that are answered isn't written whole
pub cut_within : {S : Type 0} (answers : S → List ℕ → List ℕ → S → Type 0) (start : S) (bytes before : List ℕ) (count : ℕ) (s : S) (left due now after : List ℕ) → Serves answers start bytes before count s left due → IsGrown before now → IsPartWritten now due after → IsCutShort answers start bytes before s after
cut_within answers start bytes before count s left due now after served grown cut = record {
  count = count;
  left = left;
  out = due;
  due = due;
  frames = served;
  is_due = inl refl;
  cut = part_on before now due after grown cut;
}

-- nor is it where one more frame was answered
pub starved_within : {S : Type 0} (answers : S → List ℕ → List ℕ → S → Type 0) (start : S) (bytes before : List ℕ) (s : S) (due now after : List ℕ) → IsStarved answers start bytes before s due → IsGrown before now → IsPartWritten now due after → IsCutShort answers start bytes before s after
starved_within answers start bytes before s due now after (between count u left out served) grown cut = cut_within answers start bytes before count u left out now after served grown cut
starved_within answers start bytes before s due now after (ahead_of_reply count u left out payload rest reply t served first answer) grown cut = record {
  count = suc count;
  left = rest;
  out = out ++ reply;
  due = out ++ reply;
  frames = one_more count u left out payload rest reply t served first answer;
  is_due = inl refl;
  cut = part_of_more before out reply after (part_on before now out after grown cut);
}

-- however far the frames of a piece are answered, what waits isn't written whole
pub waiting_cut : {S : Type 0} (r : Result Bool StreamFault) (answers : S → List ℕ → List ℕ → S → Type 0) (start : S) (bytes before : List ℕ) (s : S) (left now waiting after : List ℕ) (number : ℕ → Type 0) →
    IfOk r (λ _. (count : ℕ) × Serves answers start bytes before count s left (now ++ waiting) × number count) → IfErr r (λ fault. IsGivenUp fault answers start bytes before s now waiting) → (r ≡ Err WriteFailed → ⊥) →
    IsGrown before now → IsPartWritten now (now ++ waiting) after → IsCutShort answers start bytes before s after
waiting_cut (Ok goes_on) answers start bytes before s left now waiting after number served stopped not grown cut = cut_within answers start bytes before served.0 s left (now ++ waiting) now after served.1 grown cut
waiting_cut (Err ReadFailed) answers start bytes before s left now waiting after number served stopped not grown cut = absurd stopped
waiting_cut (Err WriteFailed) answers start bytes before s left now waiting after number served stopped not grown cut = absurd (not refl)
waiting_cut (Err NoMemory) answers start bytes before s left now waiting after number served stopped not grown cut = starved_within answers start bytes before s (now ++ waiting) now after stopped grown cut

-- a frame whose reply isn't given
starved_at : {S : Type 0} (answers : S → List ℕ → List ℕ → S → Type 0) (start : S) (bytes before : List ℕ) (count : ℕ) (s : S) (left out payload rest : List ℕ) (t : S) → Serves answers start bytes before count s left out → front left ≡ whole payload rest → IsUnanswered answers s payload t → IsStarved answers start bytes before t out
starved_at answers start bytes before count s left out payload rest t served first (inl same) =
    subst (λ u. IsStarved answers start bytes before u out) (sym same) (between count s left out served)
starved_at answers start bytes before count s left out payload rest t served first (inr lost) =
    ahead_of_reply count s left out payload rest lost.0 t served first lost.1

-- a frame whose reply can't be put behind those that wait
pub given_up_within : {S : Type 0} (fault : StreamFault) (answers : S → List ℕ → List ℕ → S → Type 0) (start : S) (bytes before : List ℕ) (count : ℕ) (s : S) (left now waiting payload rest : List ℕ) (t : S) (now1 waiting1 : List ℕ) →
    Serves answers start bytes before count s left (now ++ waiting) → IsGrown before now → front left ≡ whole payload rest → IsUnwritten fault answers s payload now waiting t now1 waiting1 →
    IsGivenUp fault answers start bytes before t now1 waiting1
given_up_within ReadFailed answers start bytes before count s left now waiting payload rest t now1 waiting1 served grown first why = absurd why
given_up_within WriteFailed answers start bytes before count s left now waiting payload rest t now1 waiting1 served grown first why =
    cut_within answers start bytes before (suc count) t rest ((now ++ waiting) ++ why.0) now now1 (one_more count s left (now ++ waiting) payload rest why.0 t served first why.1) grown why.2
given_up_within NoMemory answers start bytes before count s left now waiting payload rest t now1 waiting1 served grown first why =
    let same : now1 ++ waiting1 ≡ now ++ waiting = ap (λ xs. xs ++ waiting1) why.1 ∙ ap (λ xs. now ++ xs) why.2 in
    let P : List ℕ → Type 0 = λ o. IsStarved answers start bytes before t o in
    subst P (sym same) (starved_at answers start bytes before count s left (now ++ waiting) payload rest t served first why.0)

-- ---- and in all that was read

-- what has no memory within the bytes that are left has none within all of them
starved_on : {S : Type 0} (answers : S → List ℕ → List ℕ → S → Type 0) (start : S) (bytes written : List ℕ) (first : ℕ) (s : S) (left out : List ℕ) (t : S) (out1 : List ℕ) → Serves answers start bytes written first s left out → IsStarved answers s left out t out1 → IsStarved answers start bytes written t out1
starved_on answers start bytes written first s left out t out1 earlier (between count u left1 out2 served) =
    between (first + count) u left1 out2 (serves_on answers start bytes written first s left out count u left1 out2 earlier served)
starved_on answers start bytes written first s left out t out1 earlier (ahead_of_reply count u left1 out2 payload rest reply v served stands answer) =
    ahead_of_reply (first + count) u left1 out2 payload rest reply v (serves_on answers start bytes written first s left out count u left1 out2 earlier served) stands answer

-- a piece that isn't answered to its end
pub stops_in_piece : {S : Type 0} (fault : StreamFault) (answers : S → List ℕ → List ℕ → S → Type 0) (start : S) (early before piece : List ℕ) (count : ℕ) (s : S) (left out : List ℕ) (t : S) (after : List ℕ) →
    Serves answers start early before count s left out → front left ≡ partial → length piece ≤ 4096 → IsGivenUp fault answers s (left ++ piece) out t after [] → IsStoppedBy fault answers start (early ++ piece) before t after
stops_in_piece ReadFailed answers start early before piece count s left out t after served waits short why = absurd why
stops_in_piece WriteFailed answers start early before piece count s left out t after served waits short why = record {
  early = early;
  piece = piece;
  came = refl;
  short = short;
  count = count;
  state = s;
  left = left;
  out = out;
  frames = served;
  waits = waits;
  stop = why;
}
stops_in_piece NoMemory answers start early before piece count s left out t after served waits short why =
    let P : List ℕ → Type 0 = λ o. IsStarved answers start (early ++ piece) before t o in
    subst P (append-nil after) (starved_on answers start (early ++ piece) before count s (left ++ piece) out t (after ++ []) (serves_more answers start early before piece count s left out served) why)

-- the last 71, that isn't written whole
pub stops_at_last : {S : Type 0} (fault : StreamFault) (answers : S → List ℕ → List ℕ → S → Type 0) (start : S) (early before piece : List ℕ) (count : ℕ) (s : S) (left out : List ℕ) (second : ℕ) (t : S) (left1 out1 after : List ℕ) →
    Serves answers start early before count s left out → front left ≡ partial → length piece ≤ 4096 → Serves answers s (left ++ piece) out second t left1 out1 → front left1 ≡ too_large → IsLastUnwritten fault out1 after →
    IsStoppedBy fault answers start (early ++ piece) before t after
stops_at_last ReadFailed answers start early before piece count s left out second t left1 out1 after served waits short later first why = absurd why
stops_at_last WriteFailed answers start early before piece count s left out second t left1 out1 after served waits short later first why =
    let grown = serves_grow answers s (left ++ piece) out second t left1 out1 later in
    stops_in_piece WriteFailed answers start early before piece count s left out t after served waits short (record {
      count = second;
      left = left1;
      out = out1;
      due = out1 ++ too_large_reply;
      frames = later;
      is_due = inr (first, refl);
      cut = part_on out out1 (out1 ++ too_large_reply) after grown (part_of_write out1 too_large_reply after why.0 why.1 why.2);
    })
stops_at_last NoMemory answers start early before piece count s left out second t left1 out1 after served waits short later first why =
    let all = serves_on answers start (early ++ piece) before count s (left ++ piece) out second t left1 out1 (serves_more answers start early before piece count s left out served) later in
    let P : List ℕ → Type 0 = λ o. IsStarved answers start (early ++ piece) before t o in
    subst P (sym why) (between (count + second) t left1 out1 all)

-- a number that stays at its greatest
pub counted_on : (first second number : ℕ) → number ≡ min (min first (2 ^ 64 - 1) + second) (2 ^ 64 - 1) → number ≡ min (first + second) (2 ^ 64 - 1)
counted_on first second number is = grind arith

pub counted_none : (old : ℕ) → old < 2 ^ 64 → old ≡ min (old + 0) (2 ^ 64 - 1)
counted_none old small = grind arith

pub counted_one : (old first number : ℕ) → number ≡ min (min (old + first) (2 ^ 64 - 1) + 1) (2 ^ 64 - 1) → number ≡ min (old + suc first) (2 ^ 64 - 1)
counted_one old first number is = grind arith

-- a length over the limit is what was written last
pub ends_too_large : (f : Front) (out written : List ℕ) → f ≡ too_large → written ≡ out ++ too_large_reply → EndsWith f out written
ends_too_large f out written first is =
    let P : Front → Type 0 = λ v. EndsWith v out written in
    subst P (sym first) is

-- nothing more is read behind it
pub stops_too_large : (f : Front) (over : Type 0) (bytes : List ℕ) → f ≡ too_large → StopsAt f over bytes
stops_too_large f over bytes first =
    let P : Front → Type 0 = λ v. StopsAt v over bytes in
    subst P (sym first) tt

-- all that was read is answered, but for a frame that is cut short
pub all_served : {S : Type 0} (answers : S → List ℕ → List ℕ → S → Type 0) (start : S) (all before : List ℕ) (over : Type 0) (count : ℕ) (end : S) (left out : List ℕ) (number : ℕ) → Serves answers start all before count end left out → front left ≡ partial → number ≡ min count (2 ^ 64 - 1) → (over ⊎ (2 ^ 64 - 1 ≤ length all)) → IsServed answers start all before over end number out
all_served answers start all before over count end left out number served waits counts stops =
    let P : Front → Type 0 = λ v. EndsWith v out out in
    let Q : Front → Type 0 = λ v. StopsAt v over all in
    record { count = count; left = left; out = out; frames = served; counts = counts; last = subst P (sym waits) refl; stops = subst Q (sym waits) stops }
