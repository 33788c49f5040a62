-- The entries that go to a desk, of a history that is longer by one.
use Rattle.std.proofs.Common.{◌≡◌, ◌≢◌, ℕ, ◌==◌, Bool, true, false, List, [], ◌∷◌, ◌++◌, Ok, refl, ap, ◌∙◌, arith, append-nil}
use Rattle.std.proofs.lemmas.Bool.Decides.{nat_tests}
use Rattle.shared_desk.specs.Histories.{HistoryEntry, put_if}
use Rattle.tenant_desks.specs.Alone.{goes_to, is_place, sent_to}
use Rattle.tenant_desks.specs.Routing.{desk_for}

put_joined : (b : Bool) (e : HistoryEntry) (xs ys : List HistoryEntry) → put_if b e (xs ++ ys) ≡ put_if b e xs ++ ys
put_joined true e xs ys = refl
put_joined false e xs ys = refl

sent_joined : (names : List (List ℕ)) (place : ℕ) (history : List HistoryEntry) (e : HistoryEntry) → sent_to names place (history ++ e ∷ []) ≡ sent_to names place history ++ put_if (goes_to names place e.query) e []
sent_joined names place [] e = refl
sent_joined names place (x ∷ history) e =
    ap (put_if (goes_to names place x.query) x) (sent_joined names place history e) ∙ put_joined (goes_to names place x.query) x (sent_to names place history) (put_if (goes_to names place e.query) e [])

-- an entry that goes there
pub sent_here : (names : List (List ℕ)) (place : ℕ) (history : List HistoryEntry) (e : HistoryEntry) → desk_for names e.query.passage e.query.asked ≡ Ok place
    → sent_to names place (history ++ e ∷ []) ≡ sent_to names place history ++ e ∷ []
sent_here names place history e goes =
    let same : (place == place) ≡ true = grind (arith, nat_tests) in
    sent_joined names place history e ∙ ap (λ b. sent_to names place history ++ put_if b e []) (ap (is_place place) goes ∙ same)

-- an entry that goes to another desk, or nowhere
pub sent_elsewhere : (names : List (List ℕ)) (place : ℕ) (history : List HistoryEntry) (e : HistoryEntry) → is_place place (desk_for names e.query.passage e.query.asked) ≡ false
    → sent_to names place (history ++ e ∷ []) ≡ sent_to names place history
sent_elsewhere names place history e goes =
    sent_joined names place history e ∙ ap (λ b. sent_to names place history ++ put_if b e []) goes ∙ append-nil (sent_to names place history)

pub another_place : (i place : ℕ) → i ≢ place → is_place i (Ok place) ≡ false
another_place i place apart = grind (arith, nat_tests, apart)
