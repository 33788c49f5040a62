-- What stays true of a log as changes are appended and synced, and what a crash leaves of it.
use Rattle.std.proofs.Common.{◌≡◌, ℕ, zero, suc, ◌+◌, ◌-◌, ◌≤◌, Bool, true, false, List, [], ◌∷◌, ◌++◌, length, take, drop, refl, sym, ap, subst, ◌∙◌, arith, append_assoc, inl, inr}
use Rattle.std.proofs.lemmas.Bool.{cases_lt}
use Rattle.std.proofs.lemmas.List.{append-nil, take_at, take_all, take-take, take-append-le, length-append, length-take}
use Rattle.journal.specs.Records.{record_of, journal_of, FitsRecord, AllFitRecords, DecodesTo, WholeWithin}
use Rattle.journal.specs.Logs.{LogState, log_bytes, appended, synced, SurvivesCrash, SurvivesCrashBetween}
use Rattle.recovery.specs.Crashes.{KeepsHistory, RecoversPrefix}

-- what `cut_anywhere` of `journal` says
abbrev pub CutLaw : Type 0
CutLaw = (payloads : List (List ℕ)) (n : ℕ) → AllFitRecords payloads
    → (count : ℕ) × (tail : List ℕ) × WholeWithin n payloads count × DecodesTo (take n (journal_of payloads)) (take count payloads) tail

-- ---- lists

take_on : {X : Type 0} (xs ys : List X) (n m : ℕ) → m ≡ length xs + n → take m (xs ++ ys) ≡ xs ++ take n ys
take_on {X} [] ys n m e = let same : m ≡ n = omega arith in ap (λ (k : ℕ). take k ys) same
take_on {X} (x ∷ xs) ys n zero e = absurd (omega arith)
take_on {X} (x ∷ xs) ys n (suc m) e = ap (λ (zs : List X). x ∷ zs) (take_on xs ys n m (omega arith))

pub journal_more : (payloads : List (List ℕ)) (p : List ℕ) → journal_of (payloads ++ p ∷ []) ≡ journal_of payloads ++ record_of p
journal_more [] p = append-nil (record_of p)
journal_more (q ∷ qs) p = ap (λ (b : List ℕ). record_of q ++ b) (journal_more qs p) ∙ sym (append_assoc (record_of q) (journal_of qs) (record_of p))

pub fit_more : (payloads : List (List ℕ)) (p : List ℕ) → AllFitRecords payloads → FitsRecord p → AllFitRecords (payloads ++ p ∷ [])
fit_more [] p all fits = (fits, tt)
fit_more (q ∷ qs) p all fits = (all.0, fit_more qs p all.1 fits)

-- ---- a crash

-- a beginning of the whole journal, of which no less than the committed changes are left
at_cut : CutLaw → (history : List (List ℕ)) (committed : ℕ) (bytes : List ℕ) (n : ℕ) → AllFitRecords history → committed ≤ length history
    → length (journal_of (take committed history)) ≤ n → bytes ≡ take n (journal_of history) → RecoversPrefix bytes history committed
at_cut law history committed bytes n fits counted long is =
    let cut = law history n fits in
    record {
      count = cut.0;
      at_least = cut.2.most committed counted long;
      at_most = cut.2.there;
      tail = cut.1;
      reads = subst (λ (b : List ℕ). DecodesTo b (take cut.0 history) cut.1) (sym is) cut.3;
    }

-- so many bytes are the committed changes, and no fewer than these are left
between : CutLaw → (history : List (List ℕ)) (committed : ℕ) (bytes all : List ℕ) (len kept n : ℕ) → AllFitRecords history → committed ≤ length history
    → len ≡ length (journal_of (take committed history)) → len ≤ length all → all ≡ take n (journal_of history)
    → len ≤ kept → bytes ≡ take kept all → RecoversPrefix bytes history committed
between law history committed bytes all len kept n fits counted d grown front durable is =
    let whole : bytes ≡ take kept (take n (journal_of history)) = is ∙ ap (take kept) front in
    elim (cases_lt n kept) [
      | inl lt ↦
          let short : length (take n (journal_of history)) ≤ kept = omega (arith, length-take n (journal_of history)) in
          let long : length (journal_of (take committed history)) ≤ n = omega (arith, length-take n (journal_of history), ap length front) in
          at_cut law history committed bytes n fits counted long (whole ∙ take_all kept (take n (journal_of history)) short)
      | inr le ↦
          let long : length (journal_of (take committed history)) ≤ kept = omega arith in
          at_cut law history committed bytes kept fits counted long (whole ∙ take-take kept n (journal_of history) le)
    ]

durable_written : (log : LogState) → length log.durable ≤ length (log_bytes log)
durable_written log = omega (arith, length-append log.durable log.pending)

pub crash : CutLaw → (history : List (List ℕ)) (committed : ℕ) (stopped : Bool) (log : LogState) (bytes : List ℕ)
    → KeepsHistory history committed stopped log → SurvivesCrash log bytes → RecoversPrefix bytes history committed
crash law history committed stopped log bytes keeps s =
    between law history committed bytes (log_bytes log) (length log.durable) (length log.durable + s.kept) keeps.front.0 keeps.fits keeps.counted (ap length keeps.durable) (durable_written log) keeps.front.1 (omega arith)
    (s.are ∙ sym (take_on log.durable log.pending s.kept (length log.durable + s.kept) refl))

pub at_same : CutLaw → (history : List (List ℕ)) (committed : ℕ) (stopped : Bool) (old new : LogState) (bytes : List ℕ)
    → KeepsHistory history committed stopped old → new ≡ old → SurvivesCrashBetween old new bytes → RecoversPrefix bytes history committed
at_same law history committed stopped old new bytes keeps e s =
    between law history committed bytes (log_bytes old) (length old.durable) s.kept keeps.front.0 keeps.fits keeps.counted (ap length keeps.durable) (durable_written old) keeps.front.1 s.durable
    (s.are ∙ ap (λ (l : LogState). take s.kept (log_bytes l)) e)

pub at_sync : CutLaw → (history : List (List ℕ)) (committed : ℕ) (stopped : Bool) (old new : LogState) (bytes : List ℕ)
    → KeepsHistory history committed stopped old → new ≡ synced old → SurvivesCrashBetween old new bytes → RecoversPrefix bytes history committed
at_sync law history committed stopped old new bytes keeps e s =
    between law history committed bytes (log_bytes old) (length old.durable) s.kept keeps.front.0 keeps.fits keeps.counted (ap length keeps.durable) (durable_written old) keeps.front.1 s.durable
    (s.are ∙ (ap (λ (l : LogState). take s.kept (log_bytes l)) e ∙ ap (take s.kept) (append-nil (log_bytes old))))

pub one_more : (bytes : List ℕ) (history : List (List ℕ)) (committed : ℕ) (change : List ℕ)
    → RecoversPrefix bytes history committed → RecoversPrefix bytes (history ++ change ∷ []) committed
one_more bytes history committed change r =
    record {
      count = r.count;
      at_least = r.at_least;
      at_most = let at_most = r.at_most in omega (arith, length-append history (change ∷ []));
      tail = r.tail;
      reads = subst (λ (ps : List (List ℕ)). DecodesTo bytes ps r.tail) (sym (take-append-le r.count history (change ∷ []) r.at_most)) r.reads;
    }

-- ---- appends

-- a part of a record behind
part_written : (history : List (List ℕ)) (change : List ℕ) (n : ℕ) (old new : LogState) → log_bytes old ≡ journal_of history
    → new ≡ appended old (take n (record_of change)) → log_bytes new ≡ take (length (journal_of history) + n) (journal_of (history ++ change ∷ []))
part_written history change n old new w e =
    ap log_bytes e ∙ (sym (append_assoc old.durable old.pending (take n (record_of change))) ∙ (ap (λ (b : List ℕ). b ++ take n (record_of change)) w
    ∙ (sym (take_on (journal_of history) (record_of change) n (length (journal_of history) + n) refl)
    ∙ ap (take (length (journal_of history) + n)) (sym (journal_more history change)))))

-- all of a record behind
all_written : (history : List (List ℕ)) (change : List ℕ) (old new : LogState) → log_bytes old ≡ journal_of history
    → new ≡ appended old (record_of change) → log_bytes new ≡ journal_of (history ++ change ∷ [])
all_written history change old new w e =
    ap log_bytes e ∙ (sym (append_assoc old.durable old.pending (record_of change)) ∙ (ap (λ (b : List ℕ). b ++ record_of change) w ∙ sym (journal_more history change)))

same_durable : (history : List (List ℕ)) (committed : ℕ) (change bytes : List ℕ) (old new : LogState) → committed ≤ length history
    → old.durable ≡ journal_of (take committed history) → new ≡ appended old bytes → new.durable ≡ journal_of (take committed (history ++ change ∷ []))
same_durable history committed change bytes old new counted d e =
    ap (λ (l : LogState). l.durable) e ∙ (d ∙ ap journal_of (sym (take-append-le committed history (change ∷ []) counted)))

pub keeps_more : (history : List (List ℕ)) (committed : ℕ) (stopped : Bool) (change : List ℕ) (old new : LogState) → KeepsHistory history committed stopped old → stopped ≡ false → FitsRecord change
    → new ≡ appended old (record_of change) → KeepsHistory (history ++ change ∷ []) committed stopped new
keeps_more history committed stopped change old new keeps on fits e =
    let whole = all_written history change old new (keeps.whole on) e in
    record {
      fits = fit_more history change keeps.fits fits;
      counted = let counted = keeps.counted in omega (arith, length-append history (change ∷ []));
      durable = same_durable history committed change (record_of change) old new keeps.counted keeps.durable e;
      front = (length (log_bytes new), whole ∙ sym (take_all (length (log_bytes new)) (journal_of (history ++ change ∷ [])) (omega (arith, ap length whole))));
      whole = λ _. whole;
    }

pub keeps_part : (history : List (List ℕ)) (committed : ℕ) (stopped : Bool) (change : List ℕ) (n : ℕ) (old new : LogState) → KeepsHistory history committed stopped old → stopped ≡ false → FitsRecord change
    → new ≡ appended old (take n (record_of change)) → KeepsHistory (history ++ change ∷ []) committed true new
keeps_part history committed stopped change n old new keeps on fits e =
    record {
      fits = fit_more history change keeps.fits fits;
      counted = let counted = keeps.counted in omega (arith, length-append history (change ∷ []));
      durable = same_durable history committed change (take n (record_of change)) old new keeps.counted keeps.durable e;
      front = (length (journal_of history) + n, part_written history change n old new (keeps.whole on) e);
      whole = λ on. absurd cc;
    }

-- a crash while a record is written
pub at_append : CutLaw → (history : List (List ℕ)) (committed : ℕ) (stopped now : Bool) (change more bytes : List ℕ) (old new : LogState) → KeepsHistory history committed stopped old
    → KeepsHistory (history ++ change ∷ []) committed now new → new ≡ appended old more → SurvivesCrashBetween old new bytes → RecoversPrefix bytes (history ++ change ∷ []) committed
at_append law history committed stopped now change more bytes old new before after e s =
    let same : new.durable ≡ old.durable = ap (λ (l : LogState). l.durable) e in
    let d = ap length same in
    let durable : length new.durable ≤ s.kept = let durable = s.durable in omega arith in
    between law (history ++ change ∷ []) committed bytes (log_bytes new) (length new.durable) s.kept after.front.0 after.fits after.counted (ap length after.durable) (durable_written new) after.front.1 durable s.are

-- ---- the start

pub keeps_start : (history : List (List ℕ)) (log : LogState) → AllFitRecords history → log ≡ record { durable = journal_of history; pending = [] } → KeepsHistory history (length history) false log
keeps_start history log fits e =
    let all : take (length history) history ≡ history = take_all (length history) history (omega arith) in
    let whole : log_bytes log ≡ journal_of history = ap log_bytes e ∙ append-nil (journal_of history) in
    record {
      fits = fits;
      counted = omega arith;
      durable = ap (λ (l : LogState). l.durable) e ∙ ap journal_of (sym all);
      front = (length (log_bytes log), whole ∙ sym (take_all (length (log_bytes log)) (journal_of history) (omega (arith, ap length whole))));
      whole = λ _. whole;
    }

-- ---- replaying

pub reads_on : (bytes rest after payload : List ℕ) (payloads : List (List ℕ)) (n : ℕ) → bytes ≡ journal_of payloads ++ rest
    → rest ≡ record_of payload ++ drop n rest → after ≡ drop n rest → bytes ≡ journal_of (payloads ++ payload ∷ []) ++ after
reads_on bytes rest after payload payloads n e is a =
    e ∙ (ap (λ (b : List ℕ). journal_of payloads ++ b) (is ∙ ap (λ (b : List ℕ). record_of payload ++ b) (sym a))
    ∙ (sym (append_assoc (journal_of payloads) (record_of payload) after) ∙ ap (λ (b : List ℕ). b ++ after) (sym (journal_more payloads payload))))

pub good_front : (bytes rest : List ℕ) (payloads : List (List ℕ)) → bytes ≡ journal_of payloads ++ rest
    → take (length bytes - length rest) bytes ≡ journal_of payloads
good_front bytes rest payloads e =
    let n : length (journal_of payloads) ≡ length bytes - length rest = omega (arith, ap length e, length-append (journal_of payloads) rest) in
    ap (take (length bytes - length rest)) e ∙ take_at (journal_of payloads) rest (length bytes - length rest) n

-- ---- two states

longer : (payloads : List (List ℕ)) (m n : ℕ) → m ≤ n → length (journal_of (take m payloads)) ≤ length (journal_of (take n payloads))
longer [] m n le = omega (arith, ap length (ap journal_of (take_all m [] (omega arith))), ap length (ap journal_of (take_all n [] (omega arith))))
longer (p ∷ ps) zero n le = omega arith
longer (p ∷ ps) (suc m) zero le = absurd (omega arith)
longer (p ∷ ps) (suc m) (suc n) le =
    let rest = longer ps m n (omega arith) in
    omega (arith, length-append (record_of p) (journal_of (take m ps)), length-append (record_of p) (journal_of (take n ps)))

pub crash_between : CutLaw → (history more : List (List ℕ)) (committed later : ℕ) (stopped now : Bool) (old new : LogState) (bytes : List ℕ)
    → KeepsHistory history committed stopped old → KeepsHistory (history ++ more) later now new → committed ≤ later → SurvivesCrashBetween old new bytes
    → RecoversPrefix bytes (history ++ more) committed
crash_between law history more committed later stopped now old new bytes before after le s =
    let d : length old.durable ≡ length (journal_of (take committed (history ++ more))) = ap length before.durable ∙ ap (λ (ps : List (List ℕ)). length (journal_of ps)) (sym (take-append-le committed history more before.counted)) in
    let e = ap length after.durable in
    let grown : length old.durable ≤ length (log_bytes new) = omega (arith, longer (history ++ more) committed later le, durable_written new) in
    let counted : committed ≤ length (history ++ more) = let counted = before.counted in omega (arith, length-append history more) in
    between law (history ++ more) committed bytes (log_bytes new) (length old.durable) s.kept after.front.0 after.fits counted d grown after.front.1 s.durable s.are
