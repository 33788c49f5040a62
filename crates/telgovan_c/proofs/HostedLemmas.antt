-- The helpers of a host, a word at a time.
use Rattle.std.proofs.Common.{◌≡◌, ◌≢◌, ℕ, ◌+◌, ◌-◌, ◌<◌, ◌≤◌, ◌==◌, nat_le, nat_lt, refl, sym, ap, subst, ◌∙◌, arith, Bool, true, false, List, slice_get, Option, Some, None, if◌then◌else◌, inl, inr}
use Rattle.std.proofs.lemmas.Bool.Decides.{nat_tests}
use Rattle.helpers.specs.Table.{Table, arity_in, job_table, own_arity}
use Rattle.telgovan_c.specs.Hosted.{AreAritiesTo, AreHelpersTo, IsArity, arity_to, arity_told, no_helper, told_at}

-- a table that has a helper of a host's isn't that of a job
pub not_job : (table : Table) (id arity : ℕ) → 64 ≤ id → arity_in table id ≡ Some arity → table ≢ job_table
not_job table id arity far is none =
    let t : nat_lt id 64 ≡ false = grind (arith, nat_tests) in
    let gone : arity_in job_table id ≡ None = rw t refl in
    cc (gone, subst (λ (b : Table). arity_in b id ≡ Some arity) none is)

next_by : (words : List ℕ) (n id word : ℕ) → slice_get words n ≡ Some word → (low old new here : Bool) → nat_lt id 64 ≡ low →
    nat_lt (id - 64) n ≡ old → nat_lt (id - 64) (n + 1) ≡ new → (id == 64 + n) ≡ here →
    (if◌then◌else◌ {A = Option ℕ} low (own_arity id) (if new then told_at (slice_get words (id - 64)) else None))
    ≡ (if◌then◌else◌ {A = Option ℕ} here (arity_told word)
    (if low then own_arity id else (if old then told_at (slice_get words (id - 64)) else None)))
next_by words n id word there true old new true a b c d = absurd (let e : 64 + n ≡ id = grind (arith, nat_tests) in grind (arith, nat_tests))
next_by words n id word there true old new false a b c d = refl
next_by words n id word there false true new true a b c d = absurd (grind (arith, nat_tests))
next_by words n id word there false true true false a b c d = refl
next_by words n id word there false true false false a b c d = absurd (grind (arith, nat_tests))
next_by words n id word there false false true true a b c d =
    let at : id - 64 ≡ n = grind (arith, nat_tests) in
    ap (λ (k : ℕ). told_at (slice_get words k)) at ∙ ap told_at there
next_by words n id word there false false false true a b c d = absurd (grind (arith, nat_tests))
next_by words n id word there false false true false a b c d = absurd (grind (arith, nat_tests))
next_by words n id word there false false false false a b c d = refl

next_is : (words : List ℕ) (n id word : ℕ) → slice_get words n ≡ Some word →
    arity_to words (n + 1) id ≡ (if id == 64 + n then arity_told word else arity_to words n id)
next_is words n id word there =
    next_by words n id word there (nat_lt id 64) (nat_lt (id - 64) n) (nat_lt (id - 64) (n + 1)) (id == 64 + n) refl refl refl refl

-- nothing is told of a helper ahead of its word
not_yet : (words : List ℕ) (n id : ℕ) → (id == 64 + n) ≡ true → arity_to words n id ≡ None
not_yet words n id here =
    let a : nat_lt id 64 ≡ false = grind (arith, nat_tests) in
    let b : nat_lt (id - 64) n ≡ false = grind (arith, nat_tests) in
    rw (a, b) refl

told_none : arity_told no_helper ≡ None
told_none = refl

same_by : (words : List ℕ) (n id : ℕ) (b : Bool) → (id == 64 + n) ≡ b → arity_to words n id
    ≡ (if◌then◌else◌ {A = Option ℕ} b None (arity_to words n id))
same_by words n id true here = not_yet words n id here
same_by words n id false here = refl

-- one word more, which says that there is no helper
pub none_more : (words : List ℕ) (n word : ℕ) (table table' : Table) → slice_get words n ≡ Some word → word ≡ no_helper → table' ≡ table →
    AreHelpersTo words n table → AreHelpersTo words (n + 1) table'
none_more words n word table table' there none same are id =
    let told : arity_told word ≡ None = ap arity_told none in
    ap (λ (t : Table). arity_in t id) same ∙ are id ∙ same_by words n id (id == 64 + n) refl
    ∙ ap (λ (o : Option ℕ). if◌then◌else◌ {A = Option ℕ} (id == 64 + n) o (arity_to words n id)) (sym told) ∙ sym (next_is words n id word there)

-- or which says one
pub some_more : (words : List ℕ) (n word : ℕ) (table table' : Table) → slice_get words n ≡ Some word → word ≤ 5 →
    ((other : ℕ) → arity_in table' other ≡ (if other == 64 + n then Some word else arity_in table other)) →
    AreHelpersTo words n table → AreHelpersTo words (n + 1) table'
some_more words n word table table' there few adds are id =
    let t : nat_le word 5 ≡ true = grind (arith, nat_tests) in
    let told : Some word ≡ arity_told word = rw t refl in
    adds id
    ∙ ap (λ (o : Option ℕ). if◌then◌else◌ {A = Option ℕ} (id == 64 + n) (Some word) o) (are id)
    ∙ ap (λ (o : Option ℕ). if◌then◌else◌ {A = Option ℕ} (id == 64 + n) o (arity_to words n id)) told
    ∙ sym (next_is words n id word there)

arity_by : (words : List ℕ) (n word place : ℕ) → slice_get words n ≡ Some word → IsArity word → AreAritiesTo words n → (said : ℕ) → place < n + 1 →
    slice_get words place ≡ Some said → (b : Bool) → (place == n) ≡ b → IsArity said
arity_by words n word place there is are said within at true here =
    let same : place ≡ n = grind (arith, nat_tests) in
    let both : Some said ≡ Some word = sym at ∙ ap (λ (k : ℕ). slice_get words k) same ∙ there in
    let e : word ≡ said = cc in
    subst (λ (w : ℕ). IsArity w) e is
arity_by words n word place there is are said within at false here = are place said (grind (arith, nat_tests)) at

pub arities_more : (words : List ℕ) (n word : ℕ) → slice_get words n ≡ Some word → IsArity word → AreAritiesTo words n → AreAritiesTo words (n + 1)
arities_more words n word there is are place said within at =
    arity_by words n word place there is are said within at (place == n) refl

told_by : (words : List ℕ) (n word : ℕ) (table table' : Table) → slice_get words n ≡ Some word → (word ≡ no_helper → table' ≡ table) →
    (word ≢ no_helper → (word ≤ 5) × ((other : ℕ) → arity_in table' other ≡ (if other == 64 + n then Some word else arity_in table other))) →
    AreHelpersTo words n table → (b : Bool) → (word == no_helper) ≡ b → AreHelpersTo words (n + 1) table' × IsArity word
told_by words n word table table' there none some are true test =
    let is : word ≡ no_helper = grind (arith, nat_tests) in
    (none_more words n word table table' there is (none is) are, inr is)
told_by words n word table table' there none some are false test =
    let not : word ≢ no_helper = grind (arith, nat_tests) in
    let said = some not in
    (some_more words n word table table' there said.0 said.1 are, inl said.0)

-- one word more, whatever it says
pub told_more : (words : List ℕ) (n word : ℕ) (table table' : Table) → slice_get words n ≡ Some word → (word ≡ no_helper → table' ≡ table) →
    (word ≢ no_helper → (word ≤ 5) × ((other : ℕ) → arity_in table' other ≡ (if other == 64 + n then Some word else arity_in table other))) →
    AreHelpersTo words n table → AreHelpersTo words (n + 1) table' × IsArity word
told_more words n word table table' there none some are = told_by words n word table table' there none some are (word == no_helper) refl
