-- A piece of a task's run, a stretch at a time.
use Rattle.std.proofs.Common.{◌≡◌, ℕ, zero, suc, ◌+◌, ◌<◌, ◌≤◌, List, refl, sym, subst, ap, ◌∙◌, arith, inl, inr, true≢false, Some}
use Rattle.insn_codec.specs.declared.insn.Insn.TheVariants.{Call}
use Rattle.machine_model.specs.Edges.{price}
use Rattle.machine_model.specs.Machine.{State, Continues, Calls, effect}
use Rattle.machine_model.specs.Alone.{no_entries}
use Rattle.helpers.specs.Piece.{Piece}
use Rattle.helpers.specs.Table.{arity_in}
use Rattle.verifier.specs.Checked.{Checked, program_of}
use Rattle.interpreter.specs.declared.frame.Frame.{Frame}
use Rattle.interpreter.specs.declared.frame.ControlPoint.TheVariants as onto
use Rattle.interpreter.specs.declared.credit.Credit.{Credit}
use Rattle.interpreter.specs.declared.stretch.Pause.{Pause}
use Rattle.interpreter.specs.declared.stretch.Pause.TheVariants as pause
use Rattle.interpreter.specs.Operands.{arguments_of}
use Rattle.interpreter.specs.Representation.{AtInsn, RepresentsState, lent, state_of}
use Rattle.interpreter.specs.Stretch.{ContinuesFor, Pauses, spent_on}
use Rattle.yielding.specs.declared.event.PieceEnd.TheVariants as event
use Rattle.yielding.specs.declared.event.Question.{Question}
use Rattle.yielding.specs.declared.stops.Stop.{Stop}
use Rattle.yielding.specs.Leading.{LeadsTo, IsPieceRun}
use Rattle.yielding.specs.Stops.{Halts, IsStopOf}
use Rattle.yielding.specs.Pieces.{Leaves, StepsTo}
use Rattle.yielding.proofs.AskLemmas.{asks}
use Rattle.yielding.proofs.LeadLemmas.{leads_more, leads_then}

-- ---- what may go on doesn't look at the bytes

-- ---- a stretch

pub halts_by : (p : Checked) (f : Frame) (part : Piece) (credit : Credit) (ran limit : ℕ) (why : Pause) (stop : Stop) → IsStopOf why stop →
    Pauses p f part credit ran limit why → Halts p f part credit ran limit stop
halts_by p f part credit ran limit pause.AtLimit stop is pauses = rw is pauses
halts_by p f part credit ran limit pause.Exits stop is pauses = rw is (pauses.0, inl pauses.1)
halts_by p f part credit ran limit (pause.Calls helper region) stop is pauses = elim is [
  | inl own ↦ rw own.1 (pauses.0, inr (helper, own.0, pauses.1))
  | inr host ↦ rw host.1 (pauses.0, host.0, pauses.1)
]

-- so many instructions lead from the state to one that the frame represents
pub record IsLed (p : Checked) (n : ℕ) (s : State) (f : Frame) (part : Piece) (credit : Credit) : Type 0 where
  pub to : State
  pub leads : LeadsTo (program_of p) to n s
  pub stands : RepresentsState p f part credit to

stretch : (p : Checked) (credit : Credit) (n : ℕ) (f : Frame) (part : Piece) (mid : Frame) (mid_part : Piece) →
    ContinuesFor p credit n f part mid mid_part → (s : State) → RepresentsState p f part credit s → IsLed p n s mid mid_part (spent_on credit n)
stretch p credit zero f part mid mid_part goes s stands =
    let none : credit ≡ spent_on credit zero = ap (λ u. let c : Credit = record { held = credit.held; used = u } in c) (omega arith) in
    let here : IsLed p zero s f part credit = record { to = s; leads = refl; stands = stands } in
    subst (λ (c : Credit). IsLed p zero s mid mid_part c) none
    (subst (λ (q : Piece). IsLed p zero s mid q credit) (sym goes.1) (subst (λ (g : Frame). IsLed p zero s g part credit) (sym goes.0) here))
stretch p credit (suc n) f part mid mid_part goes s stands =
    let before = stretch p credit n f part goes.0 goes.1 goes.2 s stands in
    let next = goes.3.goes no_entries before.to.registers before.stands.1 in
    let later : State = state_of mid mid_part (spent_on credit (suc n)) next.0 in
    let is : effect (program_of p) no_entries before.to ≡ Continues later = ap (effect (program_of p) no_entries) before.stands.0 ∙ next.2 in
    record { to = later; leads = leads_more (program_of p) n s before.to later before.leads is; stands = (refl, next.1) }

-- nothing leads on yet
pub led_start : (p : Checked) (n : ℕ) (s : State) (f : Frame) (part : Piece) (credit : Credit) → zero ≡ n → RepresentsState p f part credit s →
    IsLed p n s f part credit
led_start p n s f part credit none stands =
    let here : IsLed p zero s f part credit = record { to = s; leads = refl; stands = stands } in
    subst (λ (k : ℕ). IsLed p k s f part credit) none here

-- one stretch behind what came before
pub led_far : (p : Checked) (n : ℕ) (s : State) (f : Frame) (part : Piece) (credit : Credit) → IsLed p n s f part credit →
    (ran : ℕ) (mid : Frame) (mid_part : Piece) (spent : Credit) → ContinuesFor p credit ran f part mid mid_part → spent ≡ spent_on credit ran →
    (m : ℕ) → n + ran ≡ m → IsLed p m s mid mid_part spent
led_far p n s f part credit led ran mid mid_part spent goes paid m count =
    let on = stretch p credit ran f part mid mid_part goes led.to led.stands in
    let far : IsLed p (n + ran) s mid mid_part (spent_on credit ran) =
    record { to = on.to; leads = leads_then (program_of p) n ran s led.to on.to led.leads on.leads; stands = on.stands } in
    subst (λ (k : ℕ). IsLed p k s mid mid_part spent) count (subst (λ (c : Credit). IsLed p (n + ran) s mid mid_part c) (sym paid) far)

-- one instruction behind what came before
pub led_step : (p : Checked) (n : ℕ) (s : State) (f : Frame) (part : Piece) (credit : Credit) → IsLed p n s f part credit →
    (slot : ℕ) (f' : Frame) (bytes' : List ℕ) (credit' : Credit) →
    ((t : State) → RepresentsState p f part credit t → StepsTo p (effect (program_of p) no_entries t) (onto.At slot) f' bytes' credit') →
    (m : ℕ) → suc n ≡ m → IsLed p m s f' (lent bytes') credit'
led_step p n s f part credit led slot f' bytes' credit' steps m count =
    let on = steps led.to led.stands in
    let next : IsLed p (suc n) s f' (lent bytes') credit' =
    record { to = on.0; leads = leads_more (program_of p) n s led.to on.0 led.leads on.1; stands = on.2 } in
    subst (λ (k : ℕ). IsLed p k s f' (lent bytes') credit') count next

-- ---- how a piece ends

pub stops_at_limit : (p : Checked) (limit : ℕ) (s : State) (f : Frame) (bytes : List ℕ) (credit : Credit) → IsLed p limit s f (lent bytes) credit →
    (last : State) × IsPieceRun (program_of p) limit s event.AtLimit last × Leaves p f bytes credit event.AtLimit last
stops_at_limit p limit s f bytes credit led = (led.to, led.leads, led.stands)

pub stops_asking : (p : Checked) (limit n : ℕ) (s : State) (f : Frame) (bytes : List ℕ) (credit : Credit) → IsLed p n s f (lent bytes) credit → n < limit →
    (helper : ℕ) → 64 ≤ helper → AtInsn p f (lent bytes) credit (Call helper) → (question : Question) → question.helper ≡ helper →
    (arity : ℕ) → arity_in p.helpers helper ≡ Some arity → question.arguments ≡ arguments_of f.words arity →
    (last : State) × IsPieceRun (program_of p) limit s (event.Asks question) last × Leaves p f bytes credit (event.Asks question) last
stops_asking p limit n s f bytes credit led less helper far at question named arity known told =
    let caller : State = state_of f (lent bytes) (record { held = credit.held; used = credit.used + price (Call helper) }) led.to.registers in
    let is : effect (program_of p) no_entries led.to ≡ Calls helper (arguments_of f.words arity) caller =
    ap (effect (program_of p) no_entries) led.stands.0 ∙ asks p f (lent bytes) credit helper arity at far known led.to.registers led.stands.1 in
    (led.to, (n, less, led.leads, caller, rw (named, told) is), led.stands)

pub stops_ended : (p : Checked) (limit n : ℕ) (s : State) (f : Frame) (part : Piece) (credit : Credit) → IsLed p n s f part credit → n < limit →
    (r0 : ℕ) (f' : Frame) (bytes' : List ℕ) (credit' : Credit) →
    ((t : State) → RepresentsState p f part credit t → StepsTo p (effect (program_of p) no_entries t) (onto.Ended r0) f' bytes' credit') →
    (last : State) × IsPieceRun (program_of p) limit s (event.Ended r0) last × Leaves p f' bytes' credit' (event.Ended r0) last
stops_ended p limit n s f part credit led less r0 f' bytes' credit' steps =
    let done = steps led.to led.stands in
    (done.0, (n, less, led.to, led.leads, done.1), (done.2, done.3))
