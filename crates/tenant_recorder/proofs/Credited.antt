-- Tenants that have their first credit.
use Rattle.std.proofs.Common.{◌≡◌, ◌≢◌, ◌⊎◌, ◌<◌, ◌≤◌, ◌+◌, ℕ, zero, suc, Bool, true, false, List, [], ◌∷◌, length, map, slice_get, slice_set, string_bytes, Option, Some, None, Result, is_ok, String, Global, refl, sym, ap, subst, ◌∙◌, inl, inr, arith}
use Rattle.std.proofs.lemmas.List.{length-set}
use Rattle.accounts.specs.Ledgers.{Ledger, GrantsMore, account_at, account_in, granted_to, past_of}
use Rattle.accounts.specs.declared.fault.DeskFault.{DeskFault}
use Rattle.accounts.specs.declared.tenants.Account.{Account}
use Rattle.tenant_desks.proofs.ChangedDesks.{set_at}
use Rattle.tenant_recorder.specs.TenantCredits.{AreCredited, HasFirstCredit, IsCredited, IsCreditedAt, IsFirstGrant}
use Rattle.tenant_recorder.proofs.EachPlace.{one_there}

-- ---- one tenant

clash : (X : Type 0) (b : Bool) → b ≡ true → b ≡ false → X
clash X b set unset = let is : true ≡ false = sym set ∙ unset in absurd cc

-- a tenant with an account was granted something before
pub granted_before : (name : List ℕ) (credit : Option ℕ) (amount : ℕ) (desk : Ledger) (r : Result Account DeskFault) (b : Bool) → credit ≡ Some amount → r ≡ account_at desk name → b ≡ is_ok r → b ≡ true
    → HasFirstCredit name credit desk desk
unfolding account_at
granted_before name credit amount desk r b has told value set =
    subst (λ (o : Option ℕ). HasFirstCredit name o desk desk) (sym has) (by (granted_to desk name) refl)
  where
    by : (granted : Option ℕ) → granted_to desk name ≡ granted → IsFirstGrant name (Some amount) (granted_to desk name) desk desk
    by (Some g) at = subst (λ (o : Option ℕ). IsFirstGrant name (Some amount) o desk desk) (sym at) refl
    by None at =
        let none = ap (account_in desk.jobs (past_of desk name) name) at in
        clash _ b set (value ∙ ap (λ (x : Result Account DeskFault). is_ok x) (told ∙ none))

-- one without an account is granted its credit
pub granted_now : (name : List ℕ) (credit : Option ℕ) (amount : ℕ) (desk new : Ledger) (r : Result Account DeskFault) (b : Bool) → credit ≡ Some amount → r ≡ account_at desk name → b ≡ is_ok r → b ≡ false
    → GrantsMore desk name amount new → HasFirstCredit name credit desk new
unfolding account_at
granted_now name credit amount desk new r b has told value unset grants =
    subst (λ (o : Option ℕ). HasFirstCredit name o desk new) (sym has) (by (granted_to desk name) refl)
  where
    by : (granted : Option ℕ) → granted_to desk name ≡ granted → IsFirstGrant name (Some amount) (granted_to desk name) desk new
    by (Some g) at =
        let some = ap (account_in desk.jobs (past_of desk name) name) at in
        clash _ b (value ∙ ap (λ (x : Result Account DeskFault). is_ok x) (told ∙ some)) unset
    by None at = subst (λ (o : Option ℕ). IsFirstGrant name (Some amount) o desk new) (sym at) grants

-- ---- of all desks

-- the tenants with their credits, as contracts see them
abbrev pub tenants_of : List (String Global × Option ℕ) → List (List ℕ × Option ℕ)
tenants_of = map (λ (x : String Global × Option ℕ). (string_bytes x.0, x.1))

pub get_tenant : (tenants : List (String Global × Option ℕ)) (n : ℕ) (t : String Global × Option ℕ) → slice_get tenants n ≡ Some t → slice_get (tenants_of tenants) n ≡ Some (string_bytes t.0, t.1)
get_tenant [] n t at = cc
get_tenant (x ∷ tenants) zero t at =
    let same : x ≡ t = cc in
    ap (λ (y : String Global × Option ℕ). Some (string_bytes y.0, y.1)) same
get_tenant (x ∷ tenants) (suc n) t at = get_tenant tenants n t at

none_past : {X : Type 0} (xs : List X) (n : ℕ) → length xs ≤ n → slice_get xs n ≡ None
none_past [] n past = refl
none_past (x ∷ xs) zero past = absurd (omega (arith, past))
none_past (x ∷ xs) (suc n) past = none_past xs n (omega (arith, past))

-- the first of the tenants have their credit, so many, and the other desks are as they were
pub record AreCreditedTo (upto : ℕ) (tenants : List (List ℕ × Option ℕ)) (old new : List Ledger) : Type 0 where
  pub count : length new ≡ length old
  pub first : (place : ℕ) (before after : Ledger) → slice_get old place ≡ Some before → slice_get new place ≡ Some after → place ≤ upto → IsCreditedAt tenants place before after
  pub rest : (place : ℕ) (before after : Ledger) → slice_get old place ≡ Some before → slice_get new place ≡ Some after → upto < place → after ≡ before

pub none_credited : (tenants : List (List ℕ × Option ℕ)) (desks : List Ledger) → AreCreditedTo 0 tenants desks desks
none_credited tenants desks = record {
  count = refl;
  first = λ place before after at_b at_a within. at_first place before after at_b at_a within;
  rest = λ place before after at_b at_a behind. one_there desks place after before at_a at_b;
}
  where
    at_first : (place : ℕ) (before after : Ledger) → slice_get desks place ≡ Some before → slice_get desks place ≡ Some after → place ≤ 0 → IsCreditedAt tenants place before after
    at_first zero before after at_b at_a within = one_there desks zero after before at_a at_b
    at_first (suc place) before after at_b at_a within = absurd (omega (arith, within))

-- the next tenant has it too
pub one_credited : (upto place : ℕ) (tenants : List (List ℕ × Option ℕ)) (tenant : List ℕ × Option ℕ) (old desks : List Ledger) (d e : Ledger) → place ≡ upto + 1
    → slice_get tenants upto ≡ Some tenant → slice_get desks place ≡ Some d → HasFirstCredit tenant.0 tenant.1 d e → AreCreditedTo upto tenants old desks → AreCreditedTo (upto + 1) tenants old (slice_set desks place e)
one_credited upto place tenants tenant old desks d e next named at has were = record {
  count = length-set desks place e ∙ were.count;
  first = λ i before after at_b at_a within. by_first i before after at_b within (set_at desks place e i after at_a);
  rest = λ i before after at_b at_a behind. by_rest i before after at_b behind (set_at desks place e i after at_a);
}
  where
    here : (before after : Ledger) → d ≡ before → e ≡ after → IsCreditedAt tenants (suc upto) before after
    here before after is_d is_e =
        let T : Option (List ℕ × Option ℕ) × Ledger × Ledger → Type 0 = λ x. IsCredited x.0 x.1 x.2 in
        subst T (λ k. (sym named k, is_d k, is_e k)) has

    by_first : (i : ℕ) (before after : Ledger) → slice_get old i ≡ Some before → i ≤ upto + 1 → ((i ≡ place) × (e ≡ after)) ⊎ ((i ≢ place) × (slice_get desks i ≡ Some after)) → IsCreditedAt tenants i before after
    by_first i before after at_b within (inl t) =
        let is : i ≡ suc upto = omega (arith, t.0, next) in
        let was = were.rest place before d (subst (λ (j : ℕ). slice_get old j ≡ Some before) t.0 at_b) at (omega (arith, next)) in
        subst (λ (j : ℕ). IsCreditedAt tenants j before after) (sym is) (here before after was t.1)
    by_first i before after at_b within (inr t) =
        let other = t.0 in
        were.first i before after at_b t.1 (omega (arith, within, next, other))

    by_rest : (i : ℕ) (before after : Ledger) → slice_get old i ≡ Some before → upto + 1 < i → ((i ≡ place) × (e ≡ after)) ⊎ ((i ≢ place) × (slice_get desks i ≡ Some after)) → after ≡ before
    by_rest i before after at_b behind (inl t) =
        let is = t.0 in
        absurd (omega (arith, behind, is, next))
    by_rest i before after at_b behind (inr t) = were.rest i before after at_b t.1 (omega (arith, behind))

-- all of them have it
pub all_credited : (upto : ℕ) (tenants : List (List ℕ × Option ℕ)) (old new : List Ledger) → length tenants ≤ upto → AreCreditedTo upto tenants old new → AreCredited tenants old new
all_credited upto tenants old new all were = record {
  count = were.count;
  each = λ place before after at_b at_a. by place before after at_b at_a (nat_le_or place upto);
}
  where
    nat_le_or : (m n : ℕ) → (m ≤ n) ⊎ (n < m)
    nat_le_or zero n = inl (omega arith)
    nat_le_or (suc m) zero = inr (omega arith)
    nat_le_or (suc m) (suc n) = later (nat_le_or m n)
      where
        later : (m ≤ n) ⊎ (n < m) → (suc m ≤ suc n) ⊎ (suc n < suc m)
        later (inl less) = inl (omega (arith, less))
        later (inr more) = inr (omega (arith, more))

    behind : (place : ℕ) (before after : Ledger) → upto < place → after ≡ before → IsCreditedAt tenants place before after
    behind zero before after past same = same
    behind (suc n) before after past same =
        subst (λ (t : Option (List ℕ × Option ℕ)). IsCredited t before after) (sym (none_past tenants n (omega (arith, past, all)))) same

    by : (place : ℕ) (before after : Ledger) → slice_get old place ≡ Some before → slice_get new place ≡ Some after → (place ≤ upto) ⊎ (upto < place) → IsCreditedAt tenants place before after
    by place before after at_b at_a (inl within) = were.first place before after at_b at_a within
    by place before after at_b at_a (inr past) = behind place before after past (were.rest place before after at_b at_a past)
