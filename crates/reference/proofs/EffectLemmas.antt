-- What the reference's records come to.
use Rattle.std.proofs.Common.{◌≡◌, ℕ, zero, suc, ◌<◌, ◌+◌, List, [], ◌∷◌, length, sum, slice_set, refl, sym, ap, ◌∙◌, arith, Option, Result, ℤ, false, nat_eq, nat_lt, Some, None, true, subst}
use Rattle.std.proofs.lemmas.Bool.Decides.{nat_tests}
use Rattle.insn_codec.specs.declared.insn.Insn.{Insn}
use Rattle.reference.specs.declared.records.Content.{Content}
use Rattle.reference.specs.declared.records.Content.TheVariants as content
use Rattle.reference.specs.declared.records.Place.{Place}
use Rattle.reference.specs.declared.records.TrapCause.{TrapCause}
use Rattle.machine_model.specs.Value.{Value, Unset, Num, Stack, Part, Registers, with_value}
use Rattle.machine_model.specs.Edges.{Always, leads}
use Rattle.machine_model.specs.Memory.{bytes_at, little_bytes, little_number, written}
use Rattle.machine_model.specs.declared.program.Entry.{Entry}
use Rattle.machine_model.specs.Outcomes.{on_number}
use Rattle.machine_model.specs.Spawn.{answer_of}
use Rattle.machine_model.specs.Machine.{State, Program, Entries, Effect, Continues, onward, loaded, stored, called, writing, reading, number_in, given, moved, spawned, cost_at, answered, landing, located}
use Rattle.reference.specs.Records.{GoesFar, IsFar, IsFarResult, counting, placing, registers_of, value_of}

-- any register but R10 is written
pub writes : (dst : ℕ) (e : Effect) → nat_eq dst 10 ≡ false → writing dst e ≡ e
writes dst e off = rw off refl

-- an operation on a number that is read
on_read : (v : Value) (f : ℕ → ℕ) (go : Value → Effect) → reading v (λ y. given (on_number f y) go) ≡ number_in v (λ n. go (Num (f n)))
on_read Unset f go = refl
on_read (Num n) f go = refl
on_read (Stack k) f go = refl
on_read (Part k) f go = refl

-- what the destination gets, as a value is moved there
abbrev pub put_into : Insn → State → ℕ → Value → Effect
put_into i s dst v = onward i Always (moved s dst v)

here : (registers : Registers) (dst : ℕ) (v : Value) → v ≡ with_value registers dst v dst
here registers dst v = let same : nat_eq dst dst ≡ true = grind (arith, nat_tests) in rw same refl

-- a result that is far is put into the destination
pub far_given : (i : Insn) (s : State) (dst : ℕ) (o : Option Value) → leads i s.slot Always ≡ Some (s.slot + 1) → IsFarResult o →
    GoesFar (given o (put_into i s dst))
far_given i s dst (Some v) lead far =
    subst GoesFar (sym (ap (landing (moved s dst v)) lead)) (dst, subst IsFar (here s.registers dst v) far)
far_given i s dst None lead far = absurd far

pub one_number : (i : Insn) (s : State) (dst : ℕ) (c : Content) (v : Value) (f : ℕ → ℕ) (r : Result ℕ TrapCause) → nat_eq dst 10 ≡ false →
    value_of c ≡ v → ((go : ℕ → Effect) → number_in (value_of c) go ≡ counting go r) →
    counting (λ n. put_into i s dst (Num (f n))) r ≡ writing dst (reading v (λ y. given (on_number f y) (put_into i s dst)))
one_number i s dst c v f r off is law =
    sym (writes dst (reading v (λ y. given (on_number f y) (put_into i s dst))) off
    ∙ on_read v f (put_into i s dst)
    ∙ ap (λ (w : Value). number_in w (λ n. put_into i s dst (Num (f n)))) (sym is)
    ∙ law (λ n. put_into i s dst (Num (f n))))

-- what a load makes of the bytes at a place
abbrev pub load_from : Insn → State → ℕ → List ℕ → ℕ → (ℕ → ℕ) → ℕ → Effect
load_from i s dst memory count widen at = put_into i s dst (Num (widen (little_number (bytes_at memory at count))))

loaded_located : (i : Insn) (s : State) (dst : ℕ) (v : Value) (offset : ℤ) (count : ℕ) (widen : ℕ → ℕ) →
    loaded i s dst v offset count widen
    ≡ located s v offset count (load_from i s dst s.stack count widen) (load_from i s dst s.part count widen)
loaded_located i s dst Unset offset count widen = refl
loaded_located i s dst (Num n) offset count widen = refl
loaded_located i s dst (Stack k) offset count widen = refl
loaded_located i s dst (Part k) offset count widen = refl

pub load_done : (i : Insn) (s : State) (dst : ℕ) (c : Content) (v : Value) (offset : ℤ) (n count : ℕ) (widen : ℕ → ℕ) (r : Result Place TrapCause) →
    nat_eq dst 10 ≡ false → value_of c ≡ v → n ≡ count →
    ((stack part : ℕ → Effect) → located s (value_of c) offset n stack part ≡ placing stack part r) →
    placing (load_from i s dst s.stack count widen) (load_from i s dst s.part count widen) r ≡ writing dst (loaded i s dst v offset count widen)
load_done i s dst c v offset n count widen r off is many law =
    let stack : ℕ → Effect = load_from i s dst s.stack count widen in
    let part : ℕ → Effect = load_from i s dst s.part count widen in
    sym (writes dst (loaded i s dst v offset count widen) off
    ∙ loaded_located i s dst v offset count widen
    ∙ ap (λ (w : Value). located s w offset count stack part) (sym is)
    ∙ ap (λ k. located s (value_of c) offset k stack part) (sym many)
    ∙ law stack part)

-- what a store at a place comes to
abbrev pub store_to_stack : Insn → State → List ℕ → ℕ → Effect
store_to_stack i s bytes at = onward i Always (record s { stack = written s.stack at bytes })

abbrev pub store_to_part : Insn → State → List ℕ → ℕ → Effect
store_to_part i s bytes at = onward i Always (record s { part = written s.part at bytes })

stored_located : (i : Insn) (s : State) (v : Value) (offset : ℤ) (count number : ℕ) →
    stored i s v offset count number
    ≡ located s v offset count (store_to_stack i s (little_bytes count number)) (store_to_part i s (little_bytes count number))
stored_located i s Unset offset count number = refl
stored_located i s (Num n) offset count number = refl
stored_located i s (Stack k) offset count number = refl
stored_located i s (Part k) offset count number = refl

pub store_done : (i : Insn) (s : State) (v : Value) (offset : ℤ) (n count number : ℕ) (r : Result Place TrapCause) → n ≡ count →
    ((stack part : ℕ → Effect) → located s v offset n stack part ≡ placing stack part r) →
    placing (store_to_stack i s (little_bytes count number)) (store_to_part i s (little_bytes count number)) r ≡ stored i s v offset count number
store_done i s v offset n count number r many law =
    let stack : ℕ → Effect = store_to_stack i s (little_bytes count number) in
    let part : ℕ → Effect = store_to_part i s (little_bytes count number) in
    sym (stored_located i s v offset count number
    ∙ ap (λ k. located s v offset k stack part) (sym many)
    ∙ law stack part)

called_above : (here : Registers) (v : Value) (answer r : ℕ) → 5 < r → v ≡ here r → v ≡ called here answer r
called_above here v answer r high is =
    let first : nat_eq r 0 ≡ false = grind (arith, nat_tests) in
    let second : nat_lt r 6 ≡ false = grind (arith, nat_tests) in
    rw (first, second) is

pub eleven_called : (a b c d e f : Content) (more : List Content) (answer r : ℕ) →
    registers_of (content.Num answer ∷ content.Unset ∷ content.Unset ∷ content.Unset ∷ content.Unset ∷ content.Unset ∷ more) r
    ≡ called (registers_of (a ∷ b ∷ c ∷ d ∷ e ∷ f ∷ more)) answer r
eleven_called a b c d e f more answer zero = refl
eleven_called a b c d e f more answer (suc zero) = refl
eleven_called a b c d e f more answer (suc (suc zero)) = refl
eleven_called a b c d e f more answer (suc (suc (suc zero))) = refl
eleven_called a b c d e f more answer (suc (suc (suc (suc zero)))) = refl
eleven_called a b c d e f more answer (suc (suc (suc (suc (suc zero))))) = refl
eleven_called a b c d e f more answer (suc (suc (suc (suc (suc (suc r)))))) =
    called_above (registers_of (a ∷ b ∷ c ∷ d ∷ e ∷ f ∷ more))
    (registers_of (content.Num answer ∷ content.Unset ∷ content.Unset ∷ content.Unset ∷ content.Unset ∷ content.Unset ∷ more) (suc (suc (suc (suc (suc (suc r)))))))
    answer (suc (suc (suc (suc (suc (suc r)))))) (omega arith) refl

-- the answer in R0, and five registers unset
pub set_called : (xs : List Content) (answer r : ℕ) → 6 < length xs →
    registers_of (slice_set (slice_set (slice_set (slice_set (slice_set (slice_set xs 0 (content.Num answer)) 1 content.Unset) 2 content.Unset)
    3 content.Unset) 4 content.Unset) 5 content.Unset) r ≡ called (registers_of xs) answer r
set_called [] answer r lt = absurd (omega arith)
set_called (a ∷ []) answer r lt = absurd (omega arith)
set_called (a ∷ b ∷ []) answer r lt = absurd (omega arith)
set_called (a ∷ b ∷ c ∷ []) answer r lt = absurd (omega arith)
set_called (a ∷ b ∷ c ∷ d ∷ []) answer r lt = absurd (omega arith)
set_called (a ∷ b ∷ c ∷ d ∷ e ∷ []) answer r lt = absurd (omega arith)
set_called (a ∷ b ∷ c ∷ d ∷ e ∷ f ∷ more) answer r lt = eleven_called a b c d e f more answer r

-- what follows the four numbers of a spawn
abbrev pub spawn_with : Program → Entries → State → ℕ → ℕ → ℕ → ℕ → Effect
spawn_with p entries s program share cut arg =
    spawned s program share cut arg (answer_of (entries program) share cut s.held s.used (cost_at p (s.slot + 1)) (length s.part) p.need)

pub spawn_by : (p : Program) (entries : Entries) (s : State) (program share cut arg after reply : ℕ) (child : Option Entry) →
    child ≡ entries program → after ≡ cost_at p (s.slot + 1) →
    reply ≡ answer_of child share cut s.held s.used after (length s.part) p.need →
    spawned s program share cut arg reply ≡ spawn_with p entries s program share cut arg
spawn_by p entries s program share cut arg after reply child known cost is =
    ap (spawned s program share cut arg)
    (is ∙ ap (λ (c : Option Entry). answer_of c share cut s.held s.used after (length s.part) p.need) known
    ∙ ap (λ (n : ℕ). answer_of (entries program) share cut s.held s.used n (length s.part) p.need) cost)

pub spawned_other : (s : State) (program share cut arg reply : ℕ) → nat_eq reply 0 ≡ false →
    Continues (answered s reply) ≡ spawned s program share cut arg reply
spawned_other s program share cut arg reply off = rw off refl

-- what follows the sum of so many bytes from a place on
abbrev pub sum_from : State → List ℕ → ℕ → ℕ → Effect
sum_from s memory count at = Continues (answered s (sum (bytes_at memory at count)))
