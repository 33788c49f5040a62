-- What one answer under the lock says.
use Rattle.std.proofs.Common.{◌≡◌, ℕ, List, [], ◌∷◌, ◌++◌, Option, Result, Ok, Err, Vec, Global, refl, sym, ap, ◌∙◌, subst}
use Rattle.std.specs.Prelude.{IfOk, OnErr}
use mathlib.Core.List.{IsPrefix}
use Rattle.refusal.specs.declared.NoMemory.{NoMemory}
use Rattle.sessions.specs.Grammar.{Asked}
use Rattle.sessions.specs.declared.door_forms.DoorForm.{DoorForm}
use Rattle.streams.specs.declared.prepared_request.PreparedRequest.{PreparedRequest}
use Rattle.streams.proofs.Written.{written_ok, written_err}
use Rattle.shared_desk.specs.declared.passage.Passage.{Passage}
use Rattle.shared_desk.specs.Grants.{admitted, admitted_by}
use Rattle.shared_desk.specs.Histories.{HistoryEntry, Query, Replays, none_yet, one_more, part_of}
use Rattle.shared_desk.specs.ClientViews.{ClientView}
use Rattle.shared_desk.specs.Answered.{IsSharedAnswer, Records, entry_for, query_by}

-- the same is asked
pub asked_as : (passage : Passage) (r q : PreparedRequest) (b d : Option DoorForm) → r ≡ q → b ≡ d → query_by passage r b ≡ query_by passage q d
asked_as passage r q b d same alike = λ i. query_by passage (same i) (alike i)

module _ {S : Type 0} (answers : S → Query → List ℕ → S → Type 0) (begins : S → Type 0) where
  -- an empty history leads to where it begins
  pub replays_none : (history : List HistoryEntry) (s : S) → history ≡ [] → begins s → Replays answers begins history s
  replays_none history s empty start = subst (λ (l : List HistoryEntry). Replays answers begins l s) (sym empty) (none_yet s start)

  -- there is an entry of what the handler answered
  pub has_entry : (s : S) (asked : Query) (t : S) (n : ℕ) (reply : Result (List ℕ) NoMemory)
      → IfOk reply (λ r. answers s asked r t) → OnErr reply ((bytes : List ℕ) × answers s asked bytes t)
      → (e : HistoryEntry) × Records answers s asked t reply e × (e.connection ≡ n)
  has_entry s asked t n (Ok r) ok err = (record { connection = n; query = asked; reply = r }, record { same = refl; answered = ok; told = refl }, refl)
  has_entry s asked t n (Err e) ok err = (record { connection = n; query = asked; reply = err.0 }, record { same = refl; answered = err.1; told = tt }, refl)

  pub same_entry : (s0 s : S) (r0 r : Query) (t : S) (reply : Result (List ℕ) NoMemory) (e : HistoryEntry) → s0 ≡ s → r0 ≡ r → Records answers s0 r0 t reply e → Records answers s r t reply e
  same_entry s0 s r0 r t reply e p q is = subst (λ (z : S × Query). Records answers z.0 z.1 t reply e) (λ i. (p i, q i)) is

  -- the history with it is legal
  pub replays_on : (history : List HistoryEntry) (s : S) (asked : Query) (t : S) (reply : Result (List ℕ) NoMemory) (e : HistoryEntry) (now : List HistoryEntry)
      → Replays answers begins history s → Records answers s asked t reply e → now ≡ history ++ e ∷ [] → Replays answers begins now t
  replays_on history s asked t reply e now replays is longer =
      subst (λ (l : List HistoryEntry). Replays answers begins l t) (sym longer) (one_more history s e t replays is.answered)

  -- an entry is this connection's, of this question
  entry_is : (v : ClientView) (asked : Query) (e : HistoryEntry) → e.connection ≡ v.number → e.query ≡ asked → e ≡ entry_for v asked e.reply
  entry_is v asked e whose same = λ i. record { connection = whose i; query = same i; reply = e.reply }

  pub shared_answer : (v w : ClientView) (history : List HistoryEntry) (s : S) (asked : Query) (t : S) (reply : Result (List ℕ) NoMemory) (e : HistoryEntry)
      → Replays answers begins history s → Records answers s asked t reply e → e.connection ≡ v.number → IsPrefix v.seen history
      → w.number ≡ v.number → w.seen ≡ history ++ e ∷ [] → w.part ≡ v.part ++ e ∷ [] → part_of v.number (history ++ e ∷ []) ≡ v.part ++ e ∷ []
      → IsSharedAnswer answers begins v asked e.reply w
  shared_answer v w history s asked t reply e replays is whose prefix number seen part own =
      let same = entry_is v asked e whose is.same in
      record {
        between = prefix.0;
        before = s;
        legal = subst (λ (l : List HistoryEntry). Replays answers begins l s) (sym prefix.1) replays;
        after = t;
        answered = subst (λ (q : Query). answers s q e.reply t) is.same is.answered;
        number = number;
        seen = seen ∙ (ap (λ (l : List HistoryEntry). l ++ e ∷ []) (sym prefix.1) ∙ ap (λ (x : HistoryEntry). (v.seen ++ prefix.0) ++ x ∷ []) same);
        more = part ∙ ap (λ (x : HistoryEntry). v.part ++ x ∷ []) same;
        own = ap (part_of v.number) seen ∙ (own ∙ sym part);
      }

  pub answer_ok : (v w : ClientView) (s : S) (asked : Query) (t : S) (reply : Result (List ℕ) NoMemory) (e : HistoryEntry)
      → Records answers s asked t reply e → IsSharedAnswer answers begins v asked e.reply w
      → IfOk reply (λ r. answers s asked r t × IsSharedAnswer answers begins v asked r w)
  answer_ok v w s asked t (Ok r) e is shared =
      subst (λ (z : Query × List ℕ). answers s z.0 z.1 t × IsSharedAnswer answers begins v asked z.1 w) (λ i. (is.same i, is.told i)) (is.answered, shared)
  answer_ok v w s asked t (Err x) e is shared = tt

  pub answer_err : (v w : ClientView) (s : S) (asked : Query) (t : S) (reply : Result (List ℕ) NoMemory) (e : HistoryEntry)
      → Records answers s asked t reply e → IsSharedAnswer answers begins v asked e.reply w
      → OnErr reply ((bytes : List ℕ) × answers s asked bytes t × IsSharedAnswer answers begins v asked bytes w)
  answer_err v w s asked t (Ok r) e is shared = tt
  answer_err v w s asked t (Err x) e is shared =
      (e.reply, subst (λ (q : Query). answers s q e.reply t) is.same is.answered, shared)

  -- what a connection has seen is legal
  pub legal_seen : (v : ClientView) (query : Query) (reply : List ℕ) (w : ClientView) → IsSharedAnswer answers begins v query reply w → (s : S) × Replays answers begins w.seen s
  legal_seen v query reply w answer = (
    answer.after,
    subst (λ (l : List HistoryEntry). Replays answers begins l answer.after) (sym answer.seen)
        (one_more (v.seen ++ answer.between) answer.before (entry_for v query reply) answer.after answer.legal answer.answered),
  )

  pub own_part : (v : ClientView) (query : Query) (reply : List ℕ) (w : ClientView) → IsSharedAnswer answers begins v query reply w → part_of w.number w.seen ≡ w.part
  own_part v query reply w answer = ap (λ (n : ℕ). part_of n w.seen) answer.number ∙ answer.own

  pub legal_after : (A : List ℕ → Type 0) (v : ClientView) (query : Query) (w : ClientView) (reply : Result (List ℕ) NoMemory)
      → IfOk reply (λ r. A r × IsSharedAnswer answers begins v query r w) → OnErr reply ((bytes : List ℕ) × A bytes × IsSharedAnswer answers begins v query bytes w)
      → ((s : S) × Replays answers begins w.seen s) × (part_of w.number w.seen ≡ w.part)
  legal_after A v query w (Ok r) ok err = (legal_seen v query r w ok.1, own_part v query r w ok.1)
  legal_after A v query w (Err x) ok err = (legal_seen v query err.0 w err.2, own_part v query err.0 w err.2)

  -- the same answer, to what was asked in other words
  pub shared_ok : (A : List ℕ → Type 0) (v w : ClientView) (asked heard : Query) (reply : Result (List ℕ) NoMemory) → asked ≡ heard
      → IfOk reply (λ r. A r × IsSharedAnswer answers begins v asked r w) → IfOk reply (λ r. IsSharedAnswer answers begins v heard r w)
  shared_ok A v w asked heard (Ok r) is ok = subst (λ (q : Query). IsSharedAnswer answers begins v q r w) is ok.1
  shared_ok A v w asked heard (Err x) is ok = tt

  -- and where nothing of it is told
  pub shared_err : (A : List ℕ → Type 0) (v w : ClientView) (asked heard : Query) (reply : Result (List ℕ) NoMemory) → asked ≡ heard
      → OnErr reply ((bytes : List ℕ) × A bytes × IsSharedAnswer answers begins v asked bytes w) → OnErr reply ((bytes : List ℕ) × IsSharedAnswer answers begins v heard bytes w)
  shared_err A v w asked heard (Ok r) is err = tt
  shared_err A v w asked heard (Err x) is err = (err.0, subst (λ (q : Query). IsSharedAnswer answers begins v q err.0 w) is err.2)

  -- the frame of such an answer, written behind it
  pub framed_ok : (v w : ClientView) (asked heard : Query) (reply : Result (List ℕ) NoMemory) (frame : Result (Vec ℕ Global) NoMemory) → asked ≡ heard
      → IfOk frame (λ f. reply ≡ Ok f.items) → IfOk reply (λ r. IsSharedAnswer answers begins v asked r w) → IfOk frame (λ f. IsSharedAnswer answers begins v heard f.items w)
  framed_ok v w asked heard reply frame is written ok =
      written_ok (λ r. IsSharedAnswer answers begins v heard r w) reply frame written
      (subst (λ (q : Query). IfOk reply (λ r. IsSharedAnswer answers begins v q r w)) is ok)

  pub framed_err : (v w : ClientView) (asked heard : Query) (reply : Result (List ℕ) NoMemory) (frame : Result (Vec ℕ Global) NoMemory) → asked ≡ heard
      → IfOk reply (λ r. IsSharedAnswer answers begins v asked r w) → OnErr reply ((bytes : List ℕ) × IsSharedAnswer answers begins v asked bytes w)
      → OnErr frame ((bytes : List ℕ) × IsSharedAnswer answers begins v heard bytes w)
  framed_err v w asked heard reply frame is ok err =
      written_err (λ r. IsSharedAnswer answers begins v heard r w) reply frame
      (subst (λ (q : Query). IfOk reply (λ r. IsSharedAnswer answers begins v q r w)) is ok)
      (subst (λ (q : Query). OnErr reply ((bytes : List ℕ) × IsSharedAnswer answers begins v q bytes w)) is err)

-- what comes to the desk of what was heard by a passage
pub passed : (p q : Passage) (asked heard : Result Asked ℕ) (beyond : Option DoorForm) → p ≡ q → asked ≡ admitted p.may_grant heard
    → record { passage = p; asked = asked; beyond = beyond } ≡ admitted_by q heard beyond
passed p q asked heard beyond same is = ap (λ (a : Result Asked ℕ). record { passage = p; asked = a; beyond = beyond }) is ∙ ap (λ (r : Passage). admitted_by r heard beyond) same
