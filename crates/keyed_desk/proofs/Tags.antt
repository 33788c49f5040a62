-- A change of the desk alone begins as no other change does.
use Rattle.std.proofs.Common.{◌≡◌, ◌<◌, ◌^◌, ℕ, zero, List, [], ◌∷◌, drop, length, ap, arith}
use Rattle.desk_journal.specs.CodecLemmas.{same_count}
use Rattle.desk_journal.specs.DeskChanges.{change_bytes, tag_of}
use Rattle.desk_journal.specs.Encodings.{counted_bytes}
use Rattle.desk_journal.specs.declared.change.DeskChange.{DeskChange}
use Rattle.desk_journal.specs.declared.change.DeskChange.TheVariants.{Granted, Submitted, Finished, Failed, Forgotten, AccountOpened, JobsSkipped, ReportKept, FailureKept}
use Rattle.keyed_desk.specs.KeyedChanges.{key_kept_bytes}

abbrev first_of : List ℕ → ℕ
first_of [] = zero
first_of (byte ∷ bytes) = byte

tag_apart : (c : DeskChange) → (tag_of c ≡ 5 → ⊥) × (tag_of c ≡ 11 → ⊥)
tag_apart (Granted tenant amount) = (λ t. omega (arith, t), λ t. omega (arith, t))
tag_apart (Submitted tenant programs credit buffer) = (λ t. omega (arith, t), λ t. omega (arith, t))
tag_apart (Finished job report) = (λ t. omega (arith, t), λ t. omega (arith, t))
tag_apart (Failed job code) = (λ t. omega (arith, t), λ t. omega (arith, t))
tag_apart (Forgotten ahead) = (λ t. omega (arith, t), λ t. omega (arith, t))
tag_apart (AccountOpened tenant granted spent) = (λ t. omega (arith, t), λ t. omega (arith, t))
tag_apart (JobsSkipped count) = (λ t. omega (arith, t), λ t. omega (arith, t))
tag_apart (ReportKept tenant credit report) = (λ t. omega (arith, t), λ t. omega (arith, t))
tag_apart (FailureKept tenant credit code) = (λ t. omega (arith, t), λ t. omega (arith, t))

pub not_by_key : (c : DeskChange) (bytes : List ℕ) → change_bytes c ≡ 5 ∷ bytes → ⊥
not_by_key c bytes same = (tag_apart c).0 (ap first_of same)

pub not_key_kept : (c : DeskChange) (bytes : List ℕ) → change_bytes c ≡ 11 ∷ bytes → ⊥
not_key_kept c bytes same = (tag_apart c).1 (ap first_of same)

pub not_both : (xs ys : List ℕ) → 5 ∷ xs ≡ 11 ∷ ys → ⊥
not_both xs ys same = omega (arith, ap first_of same)

-- ---- keys

-- a job and its key are told by their bytes
pub same_key : (m n : ℕ) (k l : List ℕ) → m < 2 ^ 64 → n < 2 ^ 64 → length k < 2 ^ 64 → length l < 2 ^ 64 → key_kept_bytes m k ≡ key_kept_bytes n l → (m ≡ n) × (k ≡ l)
same_key m n k l small_m small_n short_k short_l same =
    let job = same_count m n (counted_bytes k) (counted_bytes l) small_m small_n (ap (drop 1) same) in
    (job.0, (same_count (length k) (length l) k l short_k short_l job.1).1)
