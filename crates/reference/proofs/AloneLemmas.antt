-- What a state on the way says of the start of a program that runs alone.
use Rattle.std.proofs.Common.{◌≡◌, ◌≤◌, ◌⊎◌, inl, inr, ℕ, zero, suc, List, [], refl, sym, ◌∙◌, subst, Some}
use Rattle.machine_model.specs.declared.program.Entry.{Entry}
use Rattle.machine_model.specs.Machine.{State, Program, Effect, Continues, Ends, Spawns, Calls, Traps, Birth, Trap, answered, effect}
use Rattle.machine_model.specs.JobState.{entries_of}
use Rattle.machine_model.specs.Alone.{MayAnswer, EndsWithin, Follows, no_entries}
use Rattle.reference.specs.Records.{FarOn, FarWithin, GoesFar, IsDeterministic, NeverEnds, Stays, StaysFor}
use Rattle.machine_model.proofs.Splits.{Births, births_effect}
use Rattle.machine_model.proofs.Tables.{effect_same}

-- where there are no programs, there is nothing to spawn
pub alone_effect : (p : Program) (s : State) → effect p (entries_of []) s ≡ effect p no_entries s
alone_effect p s = effect_same p (entries_of []) no_entries (λ n. refl) s

-- an end of the state within m steps is one of the first state within n, and so is a way on, or one to more than the reference has
pub record Leads (p : Program) (may : MayAnswer) (n : ℕ) (first : State) (m : ℕ) (s : State) : Type 0 where
  pub ends : (r0 : ℕ) (last : State) → EndsWithin p may r0 last m s → EndsWithin p may r0 last n first
  pub stays : StaysFor p may m s → StaysFor p may n first
  pub far : FarWithin p may m s → FarWithin p may n first

pub leads_same : (p : Program) (may : MayAnswer) (n m : ℕ) (s t : State) → m ≡ n → s ≡ t → Leads p may n t m s
leads_same p may n m s t many is = record {
  ends = λ r0 last e. subst (EndsWithin p may r0 last n) is (subst (λ (i : ℕ). EndsWithin p may r0 last i s) many e);
  stays = λ e. subst (StaysFor p may n) is (subst (λ (i : ℕ). StaysFor p may i s) many e);
  far = λ e. subst (FarWithin p may n) is (subst (λ (i : ℕ). FarWithin p may i s) many e);
}

module _ (p : Program) (may : MayAnswer) (n : ℕ) (first : State) (m k : ℕ) (s : State) (one : m ≡ suc k) (leads : Leads p may n first m s) where
  -- an end is told from what follows the effect, and so is a way on
  by_effect : (e : Effect) → e ≡ effect p (entries_of []) s → (r0 : ℕ) (last : State) → Follows may (EndsWithin p may r0 last k) r0 last e →
      EndsWithin p may r0 last n first
  by_effect e is r0 last follows =
      leads.ends r0 last (subst (λ (i : ℕ). EndsWithin p may r0 last i s) (sym one)
      (subst (Follows may (EndsWithin p may r0 last k) r0 last) (is ∙ alone_effect p s) follows))

  stays_by : (e : Effect) → e ≡ effect p (entries_of []) s → Stays may (StaysFor p may k) e → StaysFor p may n first
  stays_by e is stays =
      leads.stays (subst (λ (i : ℕ). StaysFor p may i s) (sym one)
      (subst (Stays may (StaysFor p may k)) (is ∙ alone_effect p s) stays))

  pub far_there : (4294967296 ≤ s.slot) ⊎ GoesFar (effect p (entries_of []) s) → FarWithin p may n first
  far_there here =
      leads.far (subst (λ (i : ℕ). FarWithin p may i s) (sym one)
      (elim here [ inl past ↦ inl past | inr goes ↦ inr (inl (subst GoesFar (alone_effect p s) goes)) ]))

  far_by : (e : Effect) → e ≡ effect p (entries_of []) s → FarOn may (FarWithin p may k) e → FarWithin p may n first
  far_by e is far =
      leads.far (subst (λ (i : ℕ). FarWithin p may i s) (sym one)
      (inr (inr (subst (FarOn may (FarWithin p may k)) (is ∙ alone_effect p s) far))))

  pub far_call : (helper : ℕ) (arguments : List ℕ) (caller : State) → Calls helper arguments caller ≡ effect p (entries_of []) s →
      4294967296 ≤ caller.slot → FarWithin p may n first
  far_call helper arguments caller is past = far_by (Calls helper arguments caller) is (inl past)

  pub leads_goes : (next : State) → Continues next ≡ effect p (entries_of []) s → Leads p may n first k next
  leads_goes next is = record {
    ends = λ r0 last e. by_effect (Continues next) is r0 last e;
    stays = λ e. stays_by (Continues next) is e;
    far = λ e. far_by (Continues next) is e;
  }

  pub leads_calls : (helper : ℕ) (arguments : List ℕ) (caller next : State) (answer : ℕ) → Calls helper arguments caller ≡ effect p (entries_of []) s →
      may helper arguments answer → next ≡ answered caller answer → Leads p may n first k next
  leads_calls helper arguments caller next answer is gives after = record {
    ends = λ r0 last e. by_effect (Calls helper arguments caller) is r0 last (answer, gives, subst (EndsWithin p may r0 last k) after e);
    stays = λ e. stays_by (Calls helper arguments caller) is (answer, gives, subst (StaysFor p may k) after e);
    far = λ e. far_by (Calls helper arguments caller) is (inr (answer, gives, subst (FarWithin p may k) after e));
  }

  pub ends_there : (r0 : ℕ) (last : State) → Ends r0 last ≡ effect p (entries_of []) s → EndsWithin p may r0 last n first
  ends_there r0 last is = by_effect (Ends r0 last) is r0 last (refl, refl)

  pub stays_at_trap : (trap : Trap) → Traps trap ≡ effect p (entries_of []) s → StaysFor p may n first
  stays_at_trap trap is = stays_by (Traps trap) is tt

  pub spawns_nothing : (birth : Birth) (taken refused : State) → Spawns birth taken refused ≡ effect p (entries_of []) s → ⊥
  spawns_nothing birth taken refused is =
      let b = subst (Births no_entries s.held) (sym (is ∙ alone_effect p s)) (births_effect p no_entries s) in nothing b.0 b.1
    where
      nothing : (entry : Entry) → no_entries birth.program ≡ Some entry → ⊥
      nothing entry e = cc

pub stays_at_last : (p : Program) (may : MayAnswer) (n : ℕ) (first : State) (m : ℕ) (s : State) → m ≡ 0 → Leads p may n first m s → StaysFor p may n first
stays_at_last p may n first m s none leads = leads.stays (subst (λ (i : ℕ). StaysFor p may i s) (sym none) tt)

apart : (may : MayAnswer) → IsDeterministic may → (A B : State → Type 0) → ((s : State) → A s → B s → ⊥) → (r0 : ℕ) (last : State) (e : Effect) →
    Stays may A e → Follows may B r0 last e → ⊥
apart may one A B each r0 last (Continues next) a b = each next a b
apart may one A B each r0 last (Ends word state) a b = a
apart may one A B each r0 last (Spawns birth taken refused) a b = a
apart may one A B each r0 last (Calls helper arguments caller) a b =
    each (answered caller b.0) (subst (λ (n : ℕ). A (answered caller n)) (one helper arguments a.0 b.0 a.1 b.1) a.2) b.2
apart may one A B each r0 last (Traps trap) a b = b

-- a task that stays with some answers doesn't end with others, where there are none
pub never_ends : (p : Program) (may : MayAnswer) → IsDeterministic may → (n : ℕ) (s : State) → StaysFor p may n s → NeverEnds p may n s
never_ends p may one zero s stays = λ r0 last ends. ends
never_ends p may one (suc n) s stays = λ r0 last ends.
    apart may one (StaysFor p may n) (EndsWithin p may r0 last n) (λ next a b. never_ends p may one n next a r0 last b) r0 last
    (effect p no_entries s) stays ends
