-- A program that runs alone depends on its code and on the helpers that it may call.
use Rattle.std.proofs.Common.{◌≡◌, ℕ, zero, suc, ◌+◌, ◌-◌, length, Option, Some, None, refl, subst, ap, ◌∙◌, ◌==◌, nat_le, if◌then◌else◌}
use Rattle.insn_codec.specs.declared.insn.Insn.{Insn}
use Rattle.insn_codec.specs.declared.insn.Insn.TheVariants.{Alu, Mov, MovSx, Neg, End, LoadWide, Load, Store, StoreRegister, Jump, Jump32, JumpIf, Call, Exit}
use Rattle.machine_model.specs.Edges.{Code, insn_at, price}
use Rattle.machine_model.specs.Machine.{State, Program, Effect, Continues, Ends, Spawns, Calls, Traps, OverSpent, answered, call, call_registered, effect, fetched, fill, meaning, paid, spawn, sum_of}
use Rattle.machine_model.specs.Alone.{EndsWithin, Follows, no_entries}
use Rattle.run_trace.specs.Traces.{unanswered}

module _ (p q : Program) (registered : (helper : ℕ) → p.registered helper ≡ q.registered helper) where
  same_call : (s : State) (helper : ℕ) → call p no_entries s helper ≡ call q no_entries s helper
  same_call s helper =
      ap (λ (e : Effect).
      if helper == 1 then spawn p no_entries s else
      if helper == 2 then Continues (answered s (s.held - s.used)) else
      if helper == 3 then Continues (answered s (length s.part)) else
      if helper == 4 then fill s else
      if helper == 5 then sum_of s else e)
      (ap (call_registered s helper) (registered helper))

  same_meaning : (s : State) (i : Insn) → meaning p no_entries s i ≡ meaning q no_entries s i
  same_meaning s (Alu w op dst src) = refl
  same_meaning s (Mov w dst src) = refl
  same_meaning s (MovSx e dst src) = refl
  same_meaning s (Neg w dst) = refl
  same_meaning s (End order size dst) = refl
  same_meaning s (LoadWide dst value) = refl
  same_meaning s (Load kind dst base offset) = refl
  same_meaning s (Store size base offset imm) = refl
  same_meaning s (StoreRegister size base offset src) = refl
  same_meaning s (Jump offset) = refl
  same_meaning s (Jump32 offset) = refl
  same_meaning s (JumpIf w c dst src offset) = refl
  same_meaning s (Call helper) = same_call s helper
  same_meaning s Exit = refl

  same_fetched : (s : State) (o : Option Insn) → fetched p no_entries s o ≡ fetched q no_entries s o
  same_fetched s None = refl
  same_fetched s (Some i) =
      ap (λ (e : Effect). if nat_le (s.used + price i) s.held then e else Traps OverSpent) (same_meaning (paid s (price i)) i)

pub same_effect : (p q : Program) → p.code ≡ q.code → ((helper : ℕ) → p.registered helper ≡ q.registered helper) → (s : State) →
    effect p no_entries s ≡ effect q no_entries s
same_effect p q code registered s =
    same_fetched p q registered s (insn_at p.code s.slot)
    ∙ ap (λ (c : Code). fetched q no_entries s (insn_at c s.slot)) code

same_follows : (f g : State → Type 0) (more : (s : State) → f s → g s) (r0 : ℕ) (last : State) (e : Effect) → Follows unanswered f r0 last e →
    Follows unanswered g r0 last e
same_follows f g more r0 last (Continues next) on = more next on
same_follows f g more r0 last (Ends word state) on = on
same_follows f g more r0 last (Spawns birth taken refused) on = on
same_follows f g more r0 last (Calls helper arguments caller) on = absurd on.1
same_follows f g more r0 last (Traps trap) on = on

pub same_end : (p q : Program) → p.code ≡ q.code → ((helper : ℕ) → p.registered helper ≡ q.registered helper) → (r0 : ℕ) (last : State) (n : ℕ) (s : State) →
    EndsWithin p unanswered r0 last n s → EndsWithin q unanswered r0 last n s
same_end p q code registered r0 last zero s ends = ends
same_end p q code registered r0 last (suc n) s ends =
    subst (Follows unanswered (EndsWithin q unanswered r0 last n) r0 last) (same_effect p q code registered s)
    (same_follows (EndsWithin p unanswered r0 last n) (EndsWithin q unanswered r0 last n) (same_end p q code registered r0 last n) r0 last
    (effect p no_entries s) ends)
