-- Whole histories of puts and takes.
use Rattle.std.proofs.Common.{◌≡◌, ◌≢◌, ◌==◌, ◌⊎◌, inl, inr, ◌+◌, ℕ, Bool, true, false, List, [], ◌∷◌, ◌++◌, if◌then◌else◌, refl, sym, ap, subst, ◌∙◌, append_assoc, arith}
use Rattle.job_pools.specs.Turns.{WaitingFlow, rest_of_flow, put_behind, TakesNext, IsAbsent, AreFlows, TurnEvent, Put, Take, TurnStep, TurnsLeadTo, put_into, taken_from, waiting_in}
use Rattle.job_pools.proofs.TurnSteps.{is_same, is_other, same_is, other_is, if_true, if_false, if_cases, not_nil, flows_put, flows_take}

module _ {X : Type 0} where
  pub leads_split : (a b : List (TurnEvent X)) (q r : List (WaitingFlow X)) → TurnsLeadTo q (a ++ b) r → (m : List (WaitingFlow X)) × TurnsLeadTo q a m × TurnsLeadTo m b r
  leads_split [] b q r leads = (q, refl, leads)
  leads_split (e ∷ es) b q r leads =
      let more = leads_split es b leads.0 r leads.2 in
      (more.0, (leads.0, leads.1, more.1), more.2)

  pub leads_more : (es : List (TurnEvent X)) (e : TurnEvent X) (q r t : List (WaitingFlow X)) → TurnsLeadTo q es r → TurnStep r e t → TurnsLeadTo q (es ++ e ∷ []) t
  leads_more [] e q r t leads step = (t, subst (λ (l : List (WaitingFlow X)). TurnStep l e t) leads step, refl)
  leads_more (f ∷ fs) e q r t leads step = (leads.0, leads.1, leads_more fs e leads.0 r t leads.2 step)

  flows_step : (e : TurnEvent X) (q r : List (WaitingFlow X)) → TurnStep q e r → AreFlows q → AreFlows r
  flows_step (Put n x) q r step flows = subst (AreFlows {X = X}) (sym step) (flows_put n x q flows)
  flows_step (Take n x) q r step flows = flows_take q n x r step flows

  pub flows_lead : (es : List (TurnEvent X)) (q r : List (WaitingFlow X)) → TurnsLeadTo q es r → AreFlows q → AreFlows r
  flows_lead [] q r leads flows = subst (AreFlows {X = X}) (sym leads) flows
  flows_lead (e ∷ es) q r leads flows = flows_lead es leads.0 r leads.2 (flows_step e q leads.0 leads.1 flows)

  -- ---- what waits in a flow

  waiting_own : (n : ℕ) (x : X) (q : List (WaitingFlow X)) → waiting_in n (put_behind n x q) ≡ waiting_in n q ++ x ∷ []
  waiting_own n x [] = if_true (n == n) (x ∷ []) [] (is_same n n refl)
  waiting_own n x (f ∷ fs) =
      if_cases (λ (l : List (WaitingFlow X)). waiting_in n l ≡ waiting_in n (f ∷ fs) ++ x ∷ []) (f.number == n) (record { number = f.number; waiting = f.waiting ++ x ∷ [] } ∷ fs) (f ∷ put_behind n x fs)
      (λ e. if_true (f.number == n) (f.waiting ++ x ∷ []) (waiting_in n fs) e ∙ ap (λ (l : List X). l ++ x ∷ []) (sym (if_true (f.number == n) f.waiting (waiting_in n fs) e)))
      (λ e. if_false (f.number == n) f.waiting (waiting_in n (put_behind n x fs)) e ∙ (waiting_own n x fs ∙ ap (λ (l : List X). l ++ x ∷ []) (sym (if_false (f.number == n) f.waiting (waiting_in n fs) e))))

  waiting_other : (n m : ℕ) (x : X) (q : List (WaitingFlow X)) → m ≢ n → waiting_in n (put_behind m x q) ≡ waiting_in n q
  waiting_other n m x [] differs = if_false (m == n) (x ∷ []) [] (is_other m n differs)
  waiting_other n m x (f ∷ fs) differs =
      if_cases (λ (l : List (WaitingFlow X)). waiting_in n l ≡ waiting_in n (f ∷ fs)) (f.number == m) (record { number = f.number; waiting = f.waiting ++ x ∷ [] } ∷ fs) (f ∷ put_behind m x fs)
      (λ e. let apart : (f.number == n) ≡ false = is_other f.number n (λ same. differs (sym (same_is f.number m e) ∙ same)) in
      if_false (f.number == n) (f.waiting ++ x ∷ []) (waiting_in n fs) apart ∙ sym (if_false (f.number == n) f.waiting (waiting_in n fs) apart))
      (λ e. ap (λ (l : List X). if f.number == n then f.waiting else l) (waiting_other n m x fs differs))

  waiting_past : (n : ℕ) (q r : List (WaitingFlow X)) → IsAbsent n q → waiting_in n (q ++ r) ≡ waiting_in n r
  waiting_past n [] r apart = refl
  waiting_past n (f ∷ fs) r apart = if_false (f.number == n) f.waiting (waiting_in n (fs ++ r)) (is_other f.number n apart.0) ∙ waiting_past n fs r apart.1

  waiting_left : (n : ℕ) (more : List X) → waiting_in n (rest_of_flow n more) ≡ more
  waiting_left n [] = refl
  waiting_left n (x ∷ xs) = if_true (n == n) (x ∷ xs) [] (is_same n n refl)

  waiting_no_left : (n m : ℕ) (more : List X) → m ≢ n → waiting_in n (rest_of_flow m more) ≡ []
  waiting_no_left n m [] differs = refl
  waiting_no_left n m (x ∷ xs) differs = if_false (m == n) (x ∷ xs) [] (is_other m n differs)

  waiting_ahead : (n : ℕ) (q r : List (WaitingFlow X)) → waiting_in n r ≡ [] → waiting_in n (q ++ r) ≡ waiting_in n q
  waiting_ahead n [] r none = none
  waiting_ahead n (f ∷ fs) r none = ap (λ (l : List X). if f.number == n then f.waiting else l) (waiting_ahead n fs r none)

  -- ---- within a flow

  append_nil : (l : List X) → l ++ [] ≡ l
  append_nil [] = refl
  append_nil (x ∷ xs) = ap (λ (ys : List X). x ∷ ys) (append_nil xs)

  -- what waited, and what was put, is what was taken, and what waits then
  pub order_kept : (n : ℕ) (es : List (TurnEvent X)) (q r : List (WaitingFlow X)) → AreFlows q → TurnsLeadTo q es r → waiting_in n q ++ put_into n es ≡ taken_from n es ++ waiting_in n r
  order_kept n [] q r flows leads = append_nil (waiting_in n q) ∙ sym (ap (waiting_in n) leads)
  order_kept n (Put m x ∷ es) q r flows leads =
      let rest_is : waiting_in n leads.0 ++ put_into n es ≡ taken_from n es ++ waiting_in n r = order_kept n es leads.0 r (flows_step (Put m x) q leads.0 leads.1 flows) leads.2 in
      if_cases (λ (l : List X). waiting_in n q ++ l ≡ taken_from n es ++ waiting_in n r) (m == n) (x ∷ put_into n es) (put_into n es)
      (λ e. let own : waiting_in n leads.0 ≡ waiting_in n q ++ x ∷ [] = ap (waiting_in n) (leads.1 ∙ ap (λ (k : ℕ). put_behind k x q) (same_is m n e)) ∙ waiting_own n x q in
      sym (append_assoc (waiting_in n q) (x ∷ []) (put_into n es)) ∙ (ap (λ (l : List X). l ++ put_into n es) (sym own) ∙ rest_is))
      (λ e. let other : waiting_in n leads.0 ≡ waiting_in n q = ap (waiting_in n) leads.1 ∙ waiting_other n m x q (other_is m n e) in
      ap (λ (l : List X). l ++ put_into n es) (sym other) ∙ rest_is)
  order_kept n (Take m x ∷ es) q r flows leads =
      let rest_is : waiting_in n leads.0 ++ put_into n es ≡ taken_from n es ++ waiting_in n r = order_kept n es leads.0 r (flows_step (Take m x) q leads.0 leads.1 flows) leads.2 in
      let more = leads.1.0 in
      let others = leads.1.1 in
      let were : AreFlows (record { number = m; waiting = x ∷ more } ∷ others) = subst (AreFlows {X = X}) leads.1.2 flows in
      let was : waiting_in n q ≡ (if m == n then x ∷ more else waiting_in n others) = ap (waiting_in n) leads.1.2 in
      if_cases (λ (l : List X). waiting_in n q ++ put_into n es ≡ l ++ waiting_in n r) (m == n) (x ∷ taken_from n es) (taken_from n es)
      (λ e. let same : m ≡ n = same_is m n e in
      let left : waiting_in n leads.0 ≡ more =
      ap (waiting_in n) leads.1.3 ∙ (waiting_past n others (rest_of_flow m more) (subst (λ (k : ℕ). IsAbsent k others) same were.1)
      ∙ (ap (λ (k : ℕ). waiting_in n (rest_of_flow k more)) same ∙ waiting_left n more)) in
      ap (λ (l : List X). l ++ put_into n es) (was ∙ if_true (m == n) (x ∷ more) (waiting_in n others) e)
      ∙ ap (λ (l : List X). x ∷ l) (ap (λ (l : List X). l ++ put_into n es) (sym left) ∙ rest_is))
      (λ e. let left : waiting_in n leads.0 ≡ waiting_in n others =
      ap (waiting_in n) leads.1.3 ∙ waiting_ahead n others (rest_of_flow m more) (waiting_no_left n m more (other_is m n e)) in
      ap (λ (l : List X). l ++ put_into n es) (was ∙ (if_false (m == n) (x ∷ more) (waiting_in n others) e ∙ sym left)) ∙ rest_is)

  -- ---- between flows

  -- a flow waits, and another one stands nowhere ahead of it
  abbrev Ahead : ℕ → ℕ → List (WaitingFlow X) → Type 0
  Ahead g f [] = ⊥
  Ahead g f (h ∷ hs) = (h.number ≡ g) ⊎ ((h.number ≢ f) × Ahead g f hs)

  ahead_more : (g f : ℕ) (q r : List (WaitingFlow X)) → Ahead g f q → Ahead g f (q ++ r)
  ahead_more g f [] r ahead = absurd ahead
  ahead_more g f (h ∷ hs) r (inl is) = inl is
  ahead_more g f (h ∷ hs) r (inr there) = inr (there.0, ahead_more g f hs r there.1)

  ahead_put : (g f n : ℕ) (x : X) (q : List (WaitingFlow X)) → Ahead g f q → Ahead g f (put_behind n x q)
  ahead_put g f n x [] ahead = absurd ahead
  ahead_put g f n x (h ∷ hs) (inl is) =
      if_cases (Ahead g f) (h.number == n) (record { number = h.number; waiting = h.waiting ++ x ∷ [] } ∷ hs) (h ∷ put_behind n x hs) (λ e. inl is) (λ e. inl is)
  ahead_put g f n x (h ∷ hs) (inr there) =
      if_cases (Ahead g f) (h.number == n) (record { number = h.number; waiting = h.waiting ++ x ∷ [] } ∷ hs) (h ∷ put_behind n x hs)
      (λ e. inr there) (λ e. inr (there.0, ahead_put g f n x hs there.1))

  ahead_waiting : (g f : ℕ) (q : List (WaitingFlow X)) → IsAbsent f q → waiting_in g q ≢ [] → Ahead g f q
  ahead_waiting g f [] apart full = full refl
  ahead_waiting g f (h ∷ hs) apart full = by_test (h.number == g) refl (λ e. ahead_waiting g f hs apart.1 (λ none. full (if_false (h.number == g) h.waiting (waiting_in g hs) e ∙ none)))
    where
      by_test : (b : Bool) → (h.number == g) ≡ b → ((h.number == g) ≡ false → Ahead g f hs) → (h.number ≡ g) ⊎ ((h.number ≢ f) × Ahead g f hs)
      by_test true e later = inl (same_is h.number g e)
      by_test false e later = inr (apart.0, later e)

  -- until the other one has its turn, this one has not
  turn_comes : (g f : ℕ) (y : X) (between after : List (TurnEvent X)) (q r : List (WaitingFlow X)) → g ≢ f → Ahead g f q → TurnsLeadTo q (between ++ Take f y ∷ after) r → taken_from g between ≢ []
  turn_comes g f y [] after q r differs ahead leads = λ none. in_front (subst (Ahead g f) leads.1.2 ahead)
    where
      in_front : Ahead g f (record { number = f; waiting = y ∷ leads.1.0 } ∷ leads.1.1) → ⊥
      in_front (inl is) = differs (sym is)
      in_front (inr there) = there.0 refl
  turn_comes g f y (Put n x ∷ es) after q r differs ahead leads =
      turn_comes g f y es after leads.0 r differs (subst (Ahead g f) (sym leads.1) (ahead_put g f n x q ahead)) leads.2
  turn_comes g f y (Take m x ∷ es) after q r differs ahead leads =
      if_cases (λ (l : List X). l ≢ []) (m == g) (x ∷ taken_from g es) (taken_from g es)
      (λ e. not_nil x (taken_from g es))
      (λ e. turn_comes g f y es after leads.0 r differs (subst (Ahead g f) (sym leads.1.3) (behind (other_is m g e) (subst (Ahead g f) leads.1.2 ahead))) leads.2)
    where
      behind : m ≢ g → Ahead g f (record { number = m; waiting = x ∷ leads.1.0 } ∷ leads.1.1) → Ahead g f (leads.1.1 ++ rest_of_flow m leads.1.0)
      behind apart (inl is) = absurd (apart is)
      behind apart (inr there) = ahead_more g f leads.1.1 (rest_of_flow m leads.1.0) there.1

  pub turn_had : (before between after : List (TurnEvent X)) (waits left : List (WaitingFlow X)) (flow other : ℕ) (first second : X)
      → TurnsLeadTo [] (before ++ Take flow first ∷ []) waits → TurnsLeadTo waits (between ++ Take flow second ∷ after) left
      → other ≢ flow → waiting_in other waits ≢ [] → taken_from other between ≢ []
  turn_had before between after waits left flow other first second led leads differs full =
      let halves = leads_split before (Take flow first ∷ []) [] waits led in
      let takes : TakesNext halves.0 flow first halves.2.0 = halves.2.1 in
      let were : AreFlows (record { number = flow; waiting = first ∷ takes.0 } ∷ takes.1) = subst (AreFlows {X = X}) takes.2 (flows_lead before [] halves.0 halves.1 tt) in
      let now : waits ≡ takes.1 ++ rest_of_flow flow takes.0 = halves.2.2 ∙ takes.3 in
      let waited : waiting_in other waits ≡ waiting_in other takes.1 =
      ap (waiting_in other) now ∙ waiting_ahead other takes.1 (rest_of_flow flow takes.0) (waiting_no_left other flow takes.0 (λ same. differs (sym same))) in
      turn_comes other flow second between after waits left differs
      (subst (Ahead other flow) (sym now) (ahead_more other flow takes.1 (rest_of_flow flow takes.0) (ahead_waiting other flow takes.1 were.1 (λ none. full (waited ∙ none)))))
      leads
