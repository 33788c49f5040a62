-- A run is followed, one step after the other.
use Rattle.std.proofs.Common.{◌≡◌, ◌⊎◌, ℕ, zero, suc, ◌+◌, ◌≤◌, ◌<◌, List, [], ◌∷◌, ◌++◌, length, Option, Some, None, inl, inr, refl, sym, subst, ap, arith}
use Rattle.insn_codec.specs.declared.insn.Insn.{Insn}
use Rattle.insn_codec.specs.declared.insn.Placed.{Placed}
use Rattle.flow_graph.specs.Program.{code_of}
use Rattle.machine_model.specs.Edges.{Code, insn_at, price}
use Rattle.machine_model.specs.Machine.{State, Program, Birth, Trap, Effect, Continues, Ends, Spawns, Calls, Traps, effect, fetched}
use Rattle.machine_model.specs.Alone.{EndsWithin, Follows, no_entries}
use Rattle.machine_model.proofs.Effects.{effect_holds}
use Rattle.machine_model.proofs.Pays.{price_some}
use Rattle.reference.specs.Records.{FarOn, FarWithin, GoesFar}
use Rattle.run_trace.specs.declared.step.Step.{Step}
use Rattle.run_trace.specs.Steps.{IsStep}
use Rattle.run_trace.specs.Traces.{AreSteps, LeadBy, unanswered}
use Rattle.run_trace.specs.Following.{ReachesEnd, IsReference}

pub lead_on : (p : Program) (placed : List Placed) (lines : List (ℕ × List ℕ)) (s t next : State) (steps : List Step) (step : Step) → LeadBy p placed lines s steps t →
    effect p no_entries t ≡ Continues next → IsStep placed lines t step next → LeadBy p placed lines s (steps ++ step ∷ []) next
lead_on p placed lines s t next [] step is goes told =
    (next, subst (λ (u : State). effect p no_entries u ≡ Continues next) (sym is) goes, subst (λ (u : State). IsStep placed lines u step next) (sym is) told, refl)
lead_on p placed lines s t next (first ∷ steps) step (mid, on, one, rest) goes told =
    (mid, on, one, lead_on p placed lines mid t next steps step rest goes told)

pub lead_end : (p : Program) (placed : List Placed) (lines : List (ℕ × List ℕ)) (s t last : State) (steps : List Step) (step : Step) (r0 : ℕ) → LeadBy p placed lines s steps t →
    effect p no_entries t ≡ Ends r0 last → IsStep placed lines t step last → AreSteps p placed lines s (steps ++ step ∷ []) r0 last
lead_end p placed lines s t last steps step r0 leads ends told = record {
  front = steps;
  final = step;
  ahead = t;
  parts = refl;
  leads = leads;
  ends = ends;
  told = told;
}

module _ (p : Program) (s : State) (ending : ReachesEnd p s) where
  follows_by : (n : ℕ) → EndsWithin p unanswered ending.r0 ending.last n s → (e : Effect) → effect p no_entries s ≡ e →
      (k : ℕ) × Follows unanswered (EndsWithin p unanswered ending.r0 ending.last k) ending.r0 ending.last e
  follows_by zero ends e is = absurd ends
  follows_by (suc n) ends e is = (n, subst (Follows unanswered (EndsWithin p unanswered ending.r0 ending.last n) ending.r0 ending.last) is ends)

  pub ending_on : (next : State) → effect p no_entries s ≡ Continues next → ReachesEnd p next
  ending_on next is =
      let f = follows_by ending.steps ending.ends (Continues next) is in
      record { steps = f.0; r0 = ending.r0; last = ending.last; ends = f.1 }

  pub never_spawns : (birth : Birth) (taken refused : State) → effect p no_entries s ≡ Spawns birth taken refused → ⊥
  never_spawns birth taken refused is = (follows_by ending.steps ending.ends (Spawns birth taken refused) is).1

  pub never_calls : (helper : ℕ) (arguments : List ℕ) (caller : State) → effect p no_entries s ≡ Calls helper arguments caller → ⊥
  never_calls helper arguments caller is =
      let f = follows_by ending.steps ending.ends (Calls helper arguments caller) is in f.1.1

  pub never_traps : (trap : Trap) → effect p no_entries s ≡ Traps trap → ⊥
  never_traps trap is = (follows_by ending.steps ending.ends (Traps trap) is).1

  pub begins : (i : Insn) × (insn_at p.code s.slot ≡ Some i)
  begins = by_insn (insn_at p.code s.slot) refl
    where
      by_insn : (o : Option Insn) → insn_at p.code s.slot ≡ o → (i : Insn) × (insn_at p.code s.slot ≡ Some i)
      by_insn (Some i) is = (i, is)
      by_insn None is = absurd (never_traps _ (ap (fetched p no_entries s) is))

-- what a step keeps: more is used, within what is held, and the part has as many bytes
abbrev Fares : State → Effect → Type 0
Fares s (Continues next) =
    (s.used < next.used) × (next.used ≤ next.held) × (next.held ≡ s.held) × (length next.part ≡ length s.part)
Fares s (Ends r0 last) = length last.part ≡ length s.part
Fares s e = Unit {0}

fares : (p : Program) (s : State) → Fares s (effect p no_entries s)
fares p s = effect_holds (Fares s) p no_entries s (λ _. tt) (λ i amount there is_price le. record {
  traps = λ _. tt;
  goes = λ next fact leads left.
      let more : s.used < next.used = omega (arith, left.used, some i amount is_price) in
      let within : next.used ≤ next.held = omega (arith, left.used, left.held, le) in
      (more, within, left.held, left.size);
  ends = λ r0. refl;
  spawns = λ program share cut arg on.
      let more : s.used < s.used + amount = omega (arith, some i amount is_price) in
      let kept : length s.part ≡ length s.part = refl in
      let held : s.held ≡ s.held = refl in
      (more, le, held, kept);
  calls = λ helper arity arguments on is other. tt;
})
  where
    some : (i : Insn) (amount : ℕ) → amount ≡ price i → 0 < amount
    some i amount e = omega (arith, e, price_some i)

pub fares_on : (p : Program) (s next : State) → effect p no_entries s ≡ Continues next →
    (s.used < next.used) × (next.used ≤ next.held) × (next.held ≡ s.held) × (length next.part ≡ length s.part)
fares_on p s next is = subst (Fares s) is (fares p s)

pub fares_last : (p : Program) (s last : State) (r0 : ℕ) → effect p no_entries s ≡ Ends r0 last → length last.part ≡ length s.part
fares_last p s last r0 is = subst (Fares s) is (fares p s)

-- more than the reference has, from the first state on
pub far_on : (p : Program) (s next : State) (n : ℕ) → effect p no_entries s ≡ Continues next → FarWithin p unanswered n next → FarWithin p unanswered (suc n) s
far_on p s next n is far = inr (inr (subst (FarOn unanswered (FarWithin p unanswered n)) (sym is) far))

pub far_here : (p : Program) (s : State) → (4294967296 ≤ s.slot) ⊎ GoesFar (effect p no_entries s) → FarWithin p unanswered 1 s
far_here p s far = elim far [ inl past ↦ inl past | inr goes ↦ inr (inl goes) ]

-- where the task goes on, an instruction of the list begins
pub begins_in : (placed : List Placed) (p : Program) (s t : State) → IsReference placed p → ReachesEnd p s → t ≡ s →
    (i : Insn) × (insn_at (code_of placed) t.slot ≡ Some i)
begins_in placed p s t reference ending same =
    let b = begins p s ending in
    let at : t.slot ≡ s.slot = ap (λ (u : State). u.slot) same in
    (b.0, subst (λ (k : ℕ). insn_at (code_of placed) k ≡ Some b.0) (sym at) (subst (λ (c : Code). insn_at c s.slot ≡ Some b.0) reference.code b.1))
