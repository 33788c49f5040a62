-- Programs of one code, with the same helpers, have the same steps.
use Rattle.std.proofs.Common.{◌≡◌, ◌≤◌, ℕ, zero, suc, ◌-◌, List, [], ◌∷◌, Bool, true, false, Option, Some, None, inl, inr, refl, sym, subst, ap, ◌∙◌, arith, nat_lt, if◌then◌else◌, slice_index_or}
use Rattle.std.proofs.lemmas.Bool.Decides.{nat_tests}
use Rattle.std.proofs.lemmas.List.{get_or_past}
use Rattle.insn_codec.specs.declared.insn.Placed.{Placed}
use Rattle.helpers.specs.Table.{arity_in, job_table, own_arity}
use Rattle.machine_model.specs.Alone.{no_entries}
use Rattle.machine_model.specs.Machine.{State, Program, Effect, Continues, Ends, Spawns, Calls, Traps, effect}
use Rattle.reference.specs.Records.{FarOn, FarWithin, GoesFar}
use Rattle.run_trace.specs.declared.step.Step.{Step}
use Rattle.run_trace.specs.Traces.{AreSteps, LeadBy, unanswered}

abbrev six : List (Option ℕ)
six = None ∷ Some 4 ∷ Some 0 ∷ Some 0 ∷ Some 3 ∷ Some 2 ∷ []

pub arities : (list : List (Option ℕ)) → list ≡ six → (helper : ℕ) → slice_index_or list helper None ≡ arity_in job_table helper
arities list is helper = ap (λ (l : List (Option ℕ)). slice_index_or l helper None) is ∙ go (nat_lt helper 64) refl
  where
    go : (b : Bool) → nat_lt helper 64 ≡ b → slice_index_or six helper None ≡ if◌then◌else◌ {A = Option ℕ} b (own_arity helper) (slice_index_or [] (helper - 64) None)
    go true e = refl
    go false e =
        let high : 6 ≤ helper = grind (arith, nat_tests) in
        get_or_past six helper None high ∙ sym (get_or_past [] (helper - 64) None (omega arith))

module _ (p q : Program) (same : (s : State) → effect p no_entries s ≡ effect q no_entries s) where
  lead_same : (placed : List Placed) (lines : List (ℕ × List ℕ)) (s : State) (steps : List Step) (t : State) → LeadBy p placed lines s steps t → LeadBy q placed lines s steps t
  lead_same placed lines s [] t is = is
  lead_same placed lines s (step ∷ steps) t (next, goes, told, rest) =
      (next, sym (same s) ∙ goes, told, lead_same placed lines next steps t rest)

  pub steps_same : (placed : List Placed) (lines : List (ℕ × List ℕ)) (s : State) (steps : List Step) (r0 : ℕ) (last : State) →
      AreSteps p placed lines s steps r0 last → AreSteps q placed lines s steps r0 last
  steps_same placed lines s steps r0 last a = record {
    front = a.front;
    final = a.final;
    ahead = a.ahead;
    parts = a.parts;
    leads = lead_same placed lines s a.front a.ahead a.leads;
    ends = sym (same a.ahead) ∙ a.ends;
    told = a.told;
  }

  far_by : (f g : State → Type 0) (more : (s : State) → f s → g s) (e : Effect) → FarOn unanswered f e → FarOn unanswered g e
  far_by f g more (Continues next) far = more next far
  far_by f g more (Ends r0 last) far = far
  far_by f g more (Spawns birth taken refused) far = far
  far_by f g more (Calls helper arguments caller) far = elim far [ inl past ↦ inl past | inr (answer, may, on) ↦ absurd may ]
  far_by f g more (Traps trap) far = far

  pub far_same : (n : ℕ) (s : State) → FarWithin p unanswered n s → FarWithin q unanswered n s
  far_same zero s far = far
  far_same (suc n) s far = elim far [
    | inl past ↦ inl past
    | inr (inl goes) ↦ inr (inl (subst GoesFar (same s) goes))
    | inr (inr on) ↦ inr (inr (subst (FarOn unanswered (FarWithin q unanswered n)) (same s)
        (far_by (FarWithin p unanswered n) (FarWithin q unanswered n) (far_same n) (effect p no_entries s) on)))
  ]
