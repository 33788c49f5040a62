-- What a server is asked itself has no part in what its desks are asked.
use Rattle.std.proofs.Common.{◌≡◌, List, [], ◌∷◌, ◌++◌, Bool, true, false, Ok, refl, sym, ap, ◌∙◌, subst}
use Rattle.sessions.specs.Grammar.{Asked}
use Rattle.shared_desk.specs.Histories.{HistoryEntry, Query}
use Rattle.shared_desk.specs.ServerAsked as aside
use Rattle.shared_desk.specs.ServerAsked.{AreAskedOfDesks, IsAskedOfDesks, asks_server}
use Rattle.job_server.proofs.ListEnds.{joined_again, last_of, last_same, none_pushed}
use Rattle.job_server.proofs.WentOver.{IsIn}

with_last : (e x : HistoryEntry) (history : List HistoryEntry) → IsIn e history → IsIn e (history ++ x ∷ [])
with_last e x history t = record {
  before = t.before;
  after = t.after ++ x ∷ [];
  is = ap (λ l. l ++ x ∷ []) t.is ∙ joined_again t.before e t.after (x ∷ []);
}

desk_in : (history plain before after : List HistoryEntry) (f : HistoryEntry) → AreAskedOfDesks history plain → plain ≡ before ++ f ∷ after
    → (e : HistoryEntry) × IsIn e history × IsAskedOfDesks (asks_server e.query.beyond) e f
desk_in _ _ before after f aside.none_yet is = absurd (none_pushed before after f is)
desk_in _ _ before [] f (aside.one_more history plain e g are asked) is =
    let same = last_same plain before g f is in
    (e, record { before = history; after = []; is = refl }, subst (λ (x : HistoryEntry). IsAskedOfDesks (asks_server e.query.beyond) e x) same.1 asked)
desk_in _ _ before (a ∷ after) f (aside.one_more history plain e g are asked) is =
    let parted = last_of a after in
    let same = last_same plain (before ++ f ∷ parted.0) g parted.1 (is ∙ ap (λ l. before ++ f ∷ l) parted.2 ∙ sym (joined_again before f parted.0 (parted.1 ∷ []))) in
    let r = desk_in history plain before parted.0 f are same.0 in
    (r.0, with_last r.0 e history r.1, r.2)

-- a request is the very entry
desk_same : (is_server : Bool) (e f : HistoryEntry) (asks : Asked) → IsAskedOfDesks is_server e f → f.query.asked ≡ Ok asks → f ≡ e
desk_same false e f asks is own = is
desk_same true e f asks is own = absurd (let clash = sym own ∙ ap (λ (q : Query). q.asked) is.1 in cc)

-- an entry of what the desks were asked is one of the history
pub desk_entry : (history plain : List HistoryEntry) (f : HistoryEntry) (asks : Asked) → AreAskedOfDesks history plain → IsIn f plain → f.query.asked ≡ Ok asks → IsIn f history
desk_entry history plain f asks are t own =
    let r = desk_in history plain t.before t.after f are t.is in
    subst (λ (x : HistoryEntry). IsIn x history) (sym (desk_same (asks_server r.0.query.beyond) r.0 f asks r.2 own)) r.1
