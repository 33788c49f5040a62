-- A whole stream, by the connection's part of the history.
use Rattle.std.proofs.Common.{◌≡◌, ◌^◌, ◌-◌, ◌+◌, ℕ, List, [], ◌∷◌, ◌++◌, length, length-append, min, Bool, true, false, Option, Result, Ok, Err, refl, sym, ap, ◌∙◌, subst, arith, append_assoc, append-nil}
use Rattle.std.specs.Prelude.{IfOk, IfErr, OnOk}
use Rattle.sessions.specs.Frames.{front, whole}
use Rattle.sessions.specs.Grammar.{Asked}
use Rattle.sessions.specs.declared.door_forms.DoorForm.{DoorForm}
use Rattle.sessions.proofs.Fronts.{front_stable}
use Rattle.streams.specs.declared.fault.StreamFault.{StreamFault}
use Rattle.streams.specs.declared.fault.StreamFault.TheVariants.{ReadFailed, WriteFailed, NoMemory}
use Rattle.streams.specs.Serves.{Serves, none_yet, one_more}
use Rattle.streams.specs.Stops.{EndsWith, IsDue, IsPartWritten, IsServed, IsReadOut, IsCutOff, IsStarved, IsStoppedBy, between, ahead_of_reply}
use Rattle.shared_desk.specs.declared.passage.Passage.{Passage}
use Rattle.shared_desk.specs.Histories.{HistoryEntry, Query, queries_of, replies_of, part_of}
use Rattle.shared_desk.specs.ClientViews.{ClientView, Extends}
use Rattle.shared_desk.specs.Grants.{admitted_by}
use Rattle.shared_desk.specs.HeardAt.{AsksBeyondAt, HearsAt}
use Rattle.shared_desk.specs.Answered.{IsSharedAnswer, entry_for}
use Rattle.shared_desk.specs.Parts.{Asks, IsWritten, IsWrittenToTheFault, IsWrittenInPart, IsWrittenButOne, IsWrittenUpTo, NamesTheEnd, IsServedPart, IsServedClient}
use Rattle.shared_desk.proofs.Parts.{prefix_self, prefix_trans}

-- ---- parts that are joined

pub queries_append : (xs ys : List HistoryEntry) → queries_of (xs ++ ys) ≡ queries_of xs ++ queries_of ys
queries_append [] ys = refl
queries_append (x ∷ xs) ys = ap (λ (l : List Query). x.query ∷ l) (queries_append xs ys)

pub replies_append : (xs ys : List HistoryEntry) → replies_of (xs ++ ys) ≡ replies_of xs ++ replies_of ys
replies_append [] ys = refl
replies_append (x ∷ xs) ys = ap (λ (l : List ℕ). x.reply ++ l) (replies_append xs ys) ∙ sym (append_assoc x.reply (replies_of xs) (replies_of ys))

pub replies_one : (xs : List HistoryEntry) (e : HistoryEntry) → replies_of (xs ++ e ∷ []) ≡ replies_of xs ++ e.reply
replies_one xs e = replies_append xs (e ∷ []) ∙ ap (λ (l : List ℕ). replies_of xs ++ l) (append-nil e.reply)

pub extends_none : (v : ClientView) → Extends v [] v
extends_none v = record { number = refl; seen = prefix_self v.seen; more = sym (append-nil v.part) }

extends_on : (v m w : ClientView) (first second : List HistoryEntry) → Extends v first m → Extends m second w → Extends v (first ++ second) w
extends_on v m w first second a b = record {
  number = b.number ∙ a.number;
  seen = prefix_trans v.seen m.seen w.seen a.seen b.seen;
  more = b.more ∙ (ap (λ (l : List HistoryEntry). l ++ second) a.more ∙ append_assoc v.part first second);
}

-- ---- frames that ask, one after the other

asks_one : (may : Passage) (bytes : List ℕ) (queries : List Query) (left payload rest : List ℕ) (query : Result Asked ℕ) (beyond : Option DoorForm) → Asks may bytes queries left → front left ≡ whole payload rest
    → HearsAt may.door payload query → AsksBeyondAt may.door payload beyond → Asks may bytes (queries ++ admitted_by may query beyond ∷ []) rest
asks_one may bytes [] left payload rest query beyond asked first heard more = (payload, rest, query, beyond, ap front (sym asked) ∙ first, heard, more, refl, refl)
asks_one may bytes (q ∷ qs) left payload rest query beyond asked first heard more =
    (asked.0, asked.1, asked.2, asked.3, asked.4, asked.5, asked.6, asked.7, asks_one may asked.1 qs left payload rest query beyond asked.8 first heard more)

-- more bytes change nothing
asks_more : (may : Passage) (bytes more : List ℕ) (queries : List Query) (left : List ℕ) → Asks may bytes queries left → Asks may (bytes ++ more) queries (left ++ more)
asks_more may bytes more [] left asked = ap (λ (l : List ℕ). l ++ more) asked
asks_more may bytes more (q ∷ qs) left asked =
    (asked.0, asked.1 ++ more, asked.2, asked.3, front_stable bytes more asked.0 asked.1 asked.4, asked.5, asked.6, asked.7, asks_more may asked.1 more qs left asked.8)

asks_on : (may : Passage) (bytes : List ℕ) (first : List Query) (mid : List ℕ) (second : List Query) (left : List ℕ) → Asks may bytes first mid → Asks may mid second left
    → Asks may bytes (first ++ second) left
asks_on may bytes [] mid second left asked later = subst (λ (b : List ℕ). Asks may b second left) asked later
asks_on may bytes (q ∷ qs) mid second left asked later = (asked.0, asked.1, asked.2, asked.3, asked.4, asked.5, asked.6, asked.7, asks_on may asked.1 qs mid second left asked.8 later)

asks_also : (may : Passage) (bytes : List ℕ) (p q : List Query) (left : List ℕ) → p ≡ q → Asks may bytes p left → Asks may bytes q left
asks_also may bytes p q left is asked = subst (λ (l : List Query). Asks may bytes l left) is asked

-- frames that are answered one after the other, by the entries of the answers
record Entries (may : Passage) (v : ClientView) (bytes before : List ℕ) (count : ℕ) (w : ClientView) (left out : List ℕ) : Type 0 where
  pub part : List HistoryEntry
  pub extends : Extends v part w
  pub asked : Asks may bytes (queries_of part) left
  pub counts : length part ≡ count
  pub written : out ≡ before ++ replies_of part

module _ {S : Type 0} (may : Passage) (answers : S → Query → List ℕ → S → Type 0) (begins : S → Type 0) where
  abbrev pub shared : Unit {0} × ClientView → List ℕ → List ℕ → Unit {0} × ClientView → Type 0
  shared s payload reply t =
      (heard : Result Asked ℕ) × (beyond : Option DoorForm) × HearsAt may.door payload heard × AsksBeyondAt may.door payload beyond
      × IsSharedAnswer answers begins s.1 (admitted_by may heard beyond) reply t.1

  extends_one : (v : ClientView) (query : Query) (reply : List ℕ) (w : ClientView) → IsSharedAnswer answers begins v query reply w → Extends v (entry_for v query reply ∷ []) w
  extends_one v query reply w answer = record {
    number = answer.number;
    seen = (answer.between ++ entry_for v query reply ∷ [], sym (append_assoc v.seen answer.between (entry_for v query reply ∷ [])) ∙ sym answer.seen);
    more = answer.more;
  }

  entries : (start : Unit {0} × ClientView) (bytes before : List ℕ) (count : ℕ) (end : Unit {0} × ClientView) (left out : List ℕ)
      → Serves shared start bytes before count end left out → Entries may start.1 bytes before count end.1 left out
  entries start bytes before count end left out none_yet =
      record { part = []; extends = extends_none start.1; asked = refl; counts = refl; written = sym (append-nil before) }
  entries start bytes before count end left out (one_more count1 s left1 out1 payload rest reply t served first (query, beyond, heard, more, answer)) =
      let r = entries start bytes before count1 s left1 out1 served in
      let e = entry_for s.1 (admitted_by may query beyond) reply in
      record {
        part = r.part ++ e ∷ [];
        extends = extends_on start.1 s.1 t.1 r.part (e ∷ []) r.extends (extends_one s.1 (admitted_by may query beyond) reply t.1 answer);
        asked = asks_also may bytes _ _ rest (sym (queries_append r.part (e ∷ []))) (asks_one may bytes (queries_of r.part) left1 payload rest query beyond r.asked first heard more);
        counts = let grown : length (r.part ++ e ∷ []) ≡ length r.part + 1 = length-append r.part (e ∷ []) in let was = r.counts in omega arith;
        written = ap (λ (l : List ℕ). l ++ reply) r.written ∙ (append_assoc before (replies_of r.part) reply ∙ ap (λ (l : List ℕ). before ++ l) (sym (replies_one r.part e)));
      }

  -- ---- a stream that ends, in each way

  written_of : (start : Unit {0} × ClientView) (bytes before : List ℕ) (over : Type 0) (end : Unit {0} × ClientView) (number : ℕ) (after : List ℕ)
      → IsServed shared start bytes before over end number after → (part : List HistoryEntry) × Extends start.1 part end.1 × IsWritten may part bytes before over number after
  written_of start bytes before over end number after st =
      let r = entries start bytes before st.count end st.left st.out st.frames in (
        r.part,
        r.extends,
        record {
          left = st.left;
          asked = r.asked;
          counts = st.counts ∙ ap (λ (n : ℕ). min n (2 ^ 64 - 1)) (sym r.counts);
          last = subst (λ (o : List ℕ). EndsWith (front st.left) o after) r.written st.last;
          stops = st.stops;
        },
      )

  read_out_of : (start : Unit {0} × ClientView) (bytes before : List ℕ) (end : Unit {0} × ClientView) (after : List ℕ)
      → IsReadOut shared start bytes before end after → (part : List HistoryEntry) × Extends start.1 part end.1 × IsWrittenToTheFault may part bytes before after
  read_out_of start bytes before end after st =
      let r = entries start bytes before st.count end st.left after st.frames in
      (r.part, r.extends, record { left = st.left; asked = r.asked; waits = st.waits; written = r.written })

  cut_off_of : (start : Unit {0} × ClientView) (bytes before : List ℕ) (end : Unit {0} × ClientView) (after : List ℕ)
      → IsCutOff shared start bytes before end after → (part : List HistoryEntry) × Extends start.1 part end.1 × IsWrittenInPart may part bytes before after
  cut_off_of start bytes before end after st =
      let stop = st.stop in
      let r = entries start st.early before st.count st.state st.left st.out st.frames in
      let q = entries st.state (st.left ++ st.piece) st.out stop.count end stop.left stop.out stop.frames in
      let asked = asks_on may (st.early ++ st.piece) (queries_of r.part) (st.left ++ st.piece) (queries_of q.part) stop.left (asks_more may st.early st.piece (queries_of r.part) st.left r.asked) q.asked in
      let due : stop.out ≡ before ++ replies_of (r.part ++ q.part) = q.written ∙ (ap (λ (l : List ℕ). l ++ replies_of q.part) r.written ∙ (append_assoc before (replies_of r.part) (replies_of q.part) ∙ ap (λ (l : List ℕ). before ++ l) (sym (replies_append r.part q.part)))) in (
        r.part ++ q.part,
        extends_on start.1 st.state.1 end.1 r.part q.part r.extends q.extends,
        record {
          early = st.early;
          piece = st.piece;
          came = st.came;
          short = st.short;
          first = r.part;
          rest = q.part;
          both = refl;
          waiting = st.left;
          asked_early = r.asked;
          waits = st.waits;
          left = stop.left;
          asked = subst (λ (b : List ℕ). Asks may b (queries_of (r.part ++ q.part)) stop.left) (sym st.came) (asks_also may (st.early ++ st.piece) _ _ stop.left (sym (queries_append r.part q.part)) asked);
          due = stop.due;
          is_due = subst (λ (o : List ℕ). IsDue (front stop.left) o stop.due) due stop.is_due;
          cut = subst (λ (o : List ℕ). IsPartWritten o stop.due after) r.written stop.cut;
        },
      )

  starved_of : (start : Unit {0} × ClientView) (bytes before : List ℕ) (end : Unit {0} × ClientView) (after : List ℕ)
      → IsStarved shared start bytes before end after → (part : List HistoryEntry) × Extends start.1 part end.1 × IsWrittenButOne may part bytes before after
  starved_of start bytes before end after (between count s left out served) =
      let r = entries start bytes before count s left out served in (
        r.part,
        r.extends,
        record {
          first = r.part;
          unwritten = [];
          both = sym (append-nil r.part);
          one_at_most = omega arith;
          left = left;
          asked = r.asked;
          written = r.written;
        },
      )
  starved_of start bytes before end after (ahead_of_reply count s left out payload rest reply t served first (query, beyond, heard, more, answer)) =
      let r = entries start bytes before count s left out served in
      let e = entry_for s.1 (admitted_by may query beyond) reply in (
        r.part ++ e ∷ [],
        extends_on start.1 s.1 t.1 r.part (e ∷ []) r.extends (extends_one s.1 (admitted_by may query beyond) reply t.1 answer),
        record {
          first = r.part;
          unwritten = e ∷ [];
          both = refl;
          one_at_most = omega arith;
          left = rest;
          asked = asks_also may bytes _ _ rest (sym (queries_append r.part (e ∷ []))) (asks_one may bytes (queries_of r.part) left payload rest query beyond r.asked first heard more);
          written = r.written;
        },
      )

  given_up_of : (fault : StreamFault) (start : Unit {0} × ClientView) (bytes before : List ℕ) (end : Unit {0} × ClientView) (after : List ℕ)
      → IsStoppedBy fault shared start bytes before end after → (part : List HistoryEntry) × Extends start.1 part end.1 × IsWrittenUpTo may fault part bytes before after
  given_up_of ReadFailed start bytes before end after st = read_out_of start bytes before end after st
  given_up_of WriteFailed start bytes before end after st = cut_off_of start bytes before end after st
  given_up_of NoMemory start bytes before end after st = starved_of start bytes before end after st

  -- what a stream came to, by both its ends
  pub served_client : {R W : Type 0} (read : R → List ℕ) (over read_failed : R → Bool) (written : W → List ℕ) (write_failed : W → Bool) (v : (R × W) × ClientView) (w : (R × W) × ClientView) (outcome : Result ℕ StreamFault)
      → IfOk outcome (λ number. (all : List ℕ) × (read w.0.0 ≡ read v.0.0 ++ all) × IsServed shared (tt, v.1) all (written v.0.1) (over w.0.0 ≡ true) (tt, w.1) number (written w.0.1))
      → IfErr outcome (λ fault. (all : List ℕ) × (read w.0.0 ≡ read v.0.0 ++ all) × IsStoppedBy fault shared (tt, v.1) all (written v.0.1) (tt, w.1) (written w.0.1))
      → OnOk outcome ((read_failed w.0.0 ≡ false) × (write_failed w.0.1 ≡ false))
      → (outcome ≡ Err ReadFailed → read_failed w.0.0 ≡ true)
      → (outcome ≡ Err WriteFailed → write_failed w.0.1 ≡ true)
      → (outcome ≡ Err NoMemory → (read_failed w.0.0 ≡ false) × (write_failed w.0.1 ≡ false))
      → IsServedClient may read over read_failed written write_failed v w outcome
  served_client read over read_failed written write_failed v w (Ok number) ok err well reader writer memory =
      let r = written_of (tt, v.1) ok.0 (written v.0.1) (over w.0.0 ≡ true) (tt, w.1) number (written w.0.1) ok.2 in
      (r.0, r.1, record { bytes = ok.0; came = ok.1; replies = (r.2, well.0, well.1) })
  served_client read over read_failed written write_failed v w (Err fault) ok err well reader writer memory =
      let r = given_up_of fault (tt, v.1) err.0 (written v.0.1) (tt, w.1) (written w.0.1) err.2 in
      (r.0, r.1, record { bytes = err.0; came = err.1; replies = (r.2, named fault (Err fault) refl reader writer memory) })
    where
      named : (f : StreamFault) (o : Result ℕ StreamFault) → o ≡ Err f → (o ≡ Err ReadFailed → read_failed w.0.0 ≡ true) → (o ≡ Err WriteFailed → write_failed w.0.1 ≡ true) → (o ≡ Err NoMemory → (read_failed w.0.0 ≡ false) × (write_failed w.0.1 ≡ false)) → NamesTheEnd f (read_failed w.0.0) (write_failed w.0.1)
      named ReadFailed o is by_reader by_writer by_memory = by_reader is
      named WriteFailed o is by_reader by_writer by_memory = by_writer is
      named NoMemory o is by_reader by_writer by_memory = by_memory is

-- a connection that began with no part, by its part of a whole history
pub served_whole_part : {R W : Type 0} (may : Passage) (read : R → List ℕ) (over read_failed : R → Bool) (written : W → List ℕ) (write_failed : W → Bool) (v w : (R × W) × ClientView) (outcome : Result ℕ StreamFault) (i : ℕ) (history : List HistoryEntry)
    → IsServedClient may read over read_failed written write_failed v w outcome → v.1.number ≡ i → v.1.part ≡ [] → part_of w.1.number history ≡ w.1.part → IsServedPart may read over read_failed written write_failed v.0 (part_of i history) w.0 outcome
served_whole_part may read over read_failed written write_failed v w outcome i history served number none own =
    let more = served.1 in
    let is : part_of i history ≡ served.0 = ap (λ (n : ℕ). part_of n history) (sym (more.number ∙ number)) ∙ (own ∙ (more.more ∙ ap (λ (l : List HistoryEntry). l ++ served.0) none)) in
    subst (λ (p : List HistoryEntry). IsServedPart may read over read_failed written write_failed v.0 p w.0 outcome) (sym is) served.2
