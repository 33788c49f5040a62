-- Where instructions lead, one behind the other.
use Rattle.std.proofs.Common.{◌≡◌, ℕ, zero, suc, ◌+◌, List, refl, sym, subst, arith}
use Rattle.machine_model.specs.Machine.{State, Program, Effect, Continues, Ends, Spawns, Calls, Traps, effect}
use Rattle.machine_model.specs.Alone.{no_entries}
use Rattle.yielding.specs.Leading.{StepsOn, LeadsTo}
use Rattle.yielding.specs.Asking.{Exchange, EndsAsking}

passes_on : (f g : State → Type 0) (e : Effect) → ((s : State) → f s → g s) → StepsOn f e → StepsOn g e
passes_on f g (Continues next) more on = more next on
passes_on f g (Ends r0 last) more on = on
passes_on f g (Spawns birth taken refused) more on = on
passes_on f g (Calls helper arguments caller) more on = on
passes_on f g (Traps trap) more on = on

-- one more
pub leads_more : (p : Program) (n : ℕ) (s t u : State) → LeadsTo p t n s → effect p no_entries t ≡ Continues u → LeadsTo p u (suc n) s
leads_more p zero s t u leads next =
    subst (λ (r : State). StepsOn (LeadsTo p u zero) (effect p no_entries r)) (sym leads)
    (subst (λ (e : Effect). StepsOn (LeadsTo p u zero) e) (sym next) refl)
leads_more p (suc n) s t u leads next =
    passes_on (LeadsTo p t n) (LeadsTo p u (suc n)) (effect p no_entries s) (λ r on. leads_more p n r t u on next) leads

-- so many more
pub leads_then : (p : Program) (n m : ℕ) (s t u : State) → LeadsTo p t n s → LeadsTo p u m t → LeadsTo p u (n + m) s
leads_then p zero m s t u first later =
    let none : m ≡ zero + m = omega arith in
    subst (λ (k : ℕ). LeadsTo p u k s) none (subst (λ (r : State). LeadsTo p u m r) (sym first) later)
leads_then p (suc n) m s t u first later =
    let more : suc (n + m) ≡ suc n + m = omega arith in
    subst (λ (k : ℕ). LeadsTo p u k s) more
    (passes_on (LeadsTo p t n) (LeadsTo p u (n + m)) (effect p no_entries s) (λ r on. leads_then p n m r t u on later) first)

ends_on : (p : Program) (f : State → Type 0) (s : State) (asked : List Exchange) (r0 : ℕ) (last : State) (e : Effect) → effect p no_entries s ≡ e →
    ((r : State) → f r → EndsAsking p r asked r0 last) → StepsOn f e → EndsAsking p s asked r0 last
ends_on p f s asked r0 last (Continues next) is on passes = let more = on next passes in (suc more.0, rw is more.1)
ends_on p f s asked r0 last (Ends word state) is on passes = absurd passes
ends_on p f s asked r0 last (Spawns birth taken refused) is on passes = absurd passes
ends_on p f s asked r0 last (Calls helper arguments caller) is on passes = absurd passes
ends_on p f s asked r0 last (Traps trap) is on passes = absurd passes

-- a task ends where it ends from a state to which it is led
pub leads_ends : (p : Program) (n : ℕ) (s t : State) (asked : List Exchange) (r0 : ℕ) (last : State) → LeadsTo p t n s →
    EndsAsking p t asked r0 last → EndsAsking p s asked r0 last
leads_ends p zero s t asked r0 last leads ends = subst (λ (r : State). EndsAsking p r asked r0 last) (sym leads) ends
leads_ends p (suc n) s t asked r0 last leads ends =
    ends_on p (LeadsTo p t n) s asked r0 last (effect p no_entries s) refl (λ r on. leads_ends p n r t asked r0 last on ends) leads
