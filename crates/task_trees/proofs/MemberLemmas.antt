-- What the members of a job come to, where one of them is replaced or added.
use Rattle.std.proofs.Common.{◌≡◌, ◌≢◌, ℕ, zero, suc, List, [], ◌∷◌, ◌++◌, set, take, drop, slice_get, refl, sym, ◌∙◌, arith, ap, subst, Option, Some}
use Rattle.std.proofs.lemmas.List.{append_assoc, append-nil}
use Rattle.machine_model.specs.Machine.{Program}
use Rattle.machine_model.specs.JobState.{Member, Live, Ended, base_of, size_of}
use Rattle.task_trees.specs.Eval.{Finished, Eval, MemberComes, MembersCome}

-- the bytes of a member's range
abbrev pub range_of : List ℕ → Member → List ℕ
range_of buffer m = take (size_of m) (drop (base_of m) buffer)

pub in_other_buffer : (programs : List Program) (buffer buffer' : List ℕ) (m : Member) (xs : List Finished) →
    range_of buffer m ≡ range_of buffer' m → MemberComes programs buffer m xs → MemberComes programs buffer' m xs
in_other_buffer programs buffer buffer' (Live t) xs same a = subst (λ (bytes : List ℕ). Eval programs t bytes xs) same a
in_other_buffer programs buffer buffer' (Ended e) xs same a =
    a ∙ ap (λ (bytes : List ℕ). let f : Finished = record { ending = e; bytes = bytes } in f ∷ []) same

all_in_other_buffer : (programs : List Program) (buffer buffer' : List ℕ) (ms : List Member) (xs : List Finished) →
    ((k : ℕ) (m : Member) → slice_get ms k ≡ Some m → range_of buffer m ≡ range_of buffer' m) →
    MembersCome programs buffer ms xs → MembersCome programs buffer' ms xs
all_in_other_buffer programs buffer buffer' [] xs same a = a
all_in_other_buffer programs buffer buffer' (m ∷ ms) xs same a = (
  a.0,
  a.1,
  in_other_buffer programs buffer buffer' m a.0 (same 0 m refl) a.2,
  all_in_other_buffer programs buffer buffer' ms a.1 (λ k x there. same (suc k) x there) a.3,
  a.4,
)

-- What the members come to is what the one at the number comes to, between what those before it and those after it come to. Where it is
-- replaced, what those come to stays.
pub record Around (programs : List Program) (buffer buffer' : List ℕ) (ms : List Member) (n : ℕ) (old new : Member) (xs : List Finished) : Type 0 where
  pub before : List Finished
  pub own : List Finished
  pub after : List Finished
  pub comes : MemberComes programs buffer old own
  pub is : xs ≡ before ++ (own ++ after)
  pub put : (zs : List Finished) → MemberComes programs buffer' new zs → MembersCome programs buffer' (set ms n new) (before ++ (zs ++ after))

some_same : (a b : Member) → let here : Option Member = Some a in here ≡ Some b → a ≡ b
some_same a b e = cc

nothing : (i : ℕ) (x : Member) → let xs : List Member = [] in slice_get xs i ≡ Some x → ⊥
nothing i x e = cc

pub around : (programs : List Program) (buffer buffer' : List ℕ) (ms : List Member) (n : ℕ) (old new : Member) (xs : List Finished) →
    slice_get ms n ≡ Some old →
    ((k : ℕ) (m : Member) → k ≢ n → slice_get ms k ≡ Some m → range_of buffer m ≡ range_of buffer' m) →
    MembersCome programs buffer ms xs → Around programs buffer buffer' ms n old new xs
around programs buffer buffer' [] n old new xs here same a = absurd (nothing n old here)
around programs buffer buffer' (m ∷ ms) zero old new xs here same a = record {
  before = [];
  own = a.0;
  after = a.1;
  comes = subst (λ (x : Member). MemberComes programs buffer x a.0) (some_same m old here) a.2;
  is = a.4;
  put = λ zs b. (
    zs,
    a.1,
    b,
    all_in_other_buffer programs buffer buffer' ms a.1 (λ k x there. same (suc k) x (λ e. omega (arith, e)) there) a.3,
    refl,
  );
}
around programs buffer buffer' (m ∷ ms) (suc n) old new xs here same a =
    let later = around programs buffer buffer' ms n old new a.1 here
    (λ k x ne there. same (suc k) x (λ e. let down : k ≡ n = omega (arith, e) in ne down) there) a.3 in
    record {
      before = a.0 ++ later.before;
      own = later.own;
      after = later.after;
      comes = later.comes;
      is = a.4 ∙ ap (λ (l : List Finished). a.0 ++ l) later.is ∙ sym (append_assoc a.0 later.before (later.own ++ later.after));
      put = λ zs b. (
        a.0,
        later.before ++ (zs ++ later.after),
        in_other_buffer programs buffer buffer' m a.0 (same 0 m (λ e. omega (arith, e)) refl) a.2,
        later.put zs b,
        append_assoc a.0 later.before (zs ++ later.after),
      );
    }

pub set_back : (ms : List Member) (n : ℕ) (old new : Member) → slice_get ms n ≡ Some old → set (set ms n new) n old ≡ ms
set_back [] n old new here = absurd (nothing n old here)
set_back (m ∷ ms) zero old new here = ap (λ (x : Member). x ∷ ms) (sym (some_same m old here))
set_back (m ∷ ms) (suc n) old new here = ap (λ (l : List Member). m ∷ l) (set_back ms n old new here)

pub push_comes : (programs : List Program) (buffer : List ℕ) (ms : List Member) (m : Member) (xs zs : List Finished) →
    MembersCome programs buffer ms xs → MemberComes programs buffer m zs → MembersCome programs buffer (ms ++ m ∷ []) (xs ++ zs)
push_comes programs buffer [] m xs zs a b =
    (zs, [], b, refl, ap (λ (l : List Finished). l ++ zs) a ∙ sym (append-nil zs))
push_comes programs buffer (k ∷ ks) m xs zs a b =
    (a.0, a.1 ++ zs, a.2, push_comes programs buffer ks m a.1 zs a.3 b, ap (λ (l : List Finished). l ++ zs) a.4 ∙ append_assoc a.0 a.1 zs)

-- what the members come to with one more at the end
pub record Pushed (programs : List Program) (buffer : List ℕ) (ms : List Member) (m : Member) (xs : List Finished) : Type 0 where
  pub those : List Finished
  pub own : List Finished
  pub come : MembersCome programs buffer ms those
  pub comes : MemberComes programs buffer m own
  pub is : xs ≡ those ++ own

pub pop_comes : (programs : List Program) (buffer : List ℕ) (ms : List Member) (m : Member) (xs : List Finished) →
    MembersCome programs buffer (ms ++ m ∷ []) xs → Pushed programs buffer ms m xs
pop_comes programs buffer [] m xs a =
    record { those = []; own = a.0; come = refl; comes = a.2; is = a.4 ∙ ap (λ (l : List Finished). a.0 ++ l) a.3 ∙ append-nil a.0 }
pop_comes programs buffer (k ∷ ks) m xs a =
    let later = pop_comes programs buffer ks m a.1 a.3 in
    record {
      those = a.0 ++ later.those;
      own = later.own;
      come = (a.0, later.those, a.2, later.come, refl);
      comes = later.comes;
      is = a.4 ∙ ap (λ (l : List Finished). a.0 ++ l) later.is ∙ sym (append_assoc a.0 later.those later.own);
    }
