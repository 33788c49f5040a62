-- A snapshot puts a desk back with its keys.
use Rattle.std.proofs.Common.{◌≡◌, ◌≤◌, ◌<◌, ◌^◌, ℕ, true, List, [], ◌∷◌, ◌++◌, append_assoc, append-nil, length, length-append, Result, Ok, Err, OnOk, refl, sym, ap, subst, ◌∙◌, arith}
use Rattle.std.proofs.lemmas.List.{nil_from_length}
use Rattle.std.specs.Int.{w64, to_le_bytes}
use Rattle.sessions.specs.JobKeys.{noted}
use Rattle.sessions.specs.declared.job_key.KeyedJob.{KeyedJob}
use Rattle.sessions.proofs.KeyLemmas.{key_short, noted_short}
use Rattle.sessions.specs.Grammar.{is_job_key}
use Rattle.journal.specs.Records.{AllFitRecords, FitsRecord, journal_of, record_of}
use Rattle.journal.proofs.JoinedRecords.{fits_both, journal_both}
use Rattle.desk_journal.specs.Encodings.{counted_bytes}
use Rattle.desk_journal.proofs.Added.{Added, all_added, one_added}
use Rattle.recovery.specs.Histories.{ReplaysChanges}
use Rattle.compaction.specs.Snapshots.{IsSnapshot}
use Rattle.compaction.proofs.SnapshotLemmas.{replays_on, replays_split}
use Rattle.desk_journal.specs.AlikeDesks.{AreDesksAlike}
use Rattle.desk_journal.specs.DeskSteps.{DeskState, IsNewDesk, MakesBytes}
use Rattle.keyed_desk.specs.KeyedChanges.{key_kept_bytes}
use Rattle.keyed_desk.specs.KeyedSnapshots.{AreKeyChanges, AreKeyedAlike, IsKeyChange}
use Rattle.keyed_desk.specs.KeyedSteps.{IsNewKeyed, KeyedState, MakesKeyed, alone, by_key, key_kept}
use Rattle.keyed_desk.proofs.PlainChanges.{keyed, lifted, lowered}
use Rattle.keyed_desk.proofs.Tags.{not_both, not_key_kept, same_key}

pair_of : (k : KeyedJob) (job : ℕ) (key : List ℕ) → job ≡ k.job → key ≡ k.key → record { job = job; key = key } ≡ k
pair_of k job key same_job same = ap (λ (n : ℕ). record { job = n; key = key }) same_job ∙ ap (λ (l : List ℕ). record { job = k.job; key = l }) same

-- one more key behind fewer than 1,000
one_more : (done keys : List KeyedJob) (k : KeyedJob) → length (done ++ k ∷ keys) ≤ 1000 → noted done k.job k.key ≡ done ++ k ∷ []
one_more done keys k few = sym (noted_short done k.job k.key (omega (arith, few, length-append done (k ∷ keys))) (λ full. omega (arith, full, few, length-append done (k ∷ keys))))

behind : (done keys : List KeyedJob) (k : KeyedJob) → (done ++ k ∷ []) ++ keys ≡ done ++ k ∷ keys
behind done keys k = append_assoc done (k ∷ []) keys

-- the changes that put keys back lead to these keys
keys_back : (desk : DeskState) (done keys : List KeyedJob) (payloads : List (List ℕ)) → length (done ++ keys) ≤ 1000 → AreKeyChanges keys payloads → ReplaysChanges MakesKeyed (keyed desk done) payloads (keyed desk (done ++ keys))
keys_back desk done [] [] few are = ap (keyed desk) (append-nil done)
keys_back desk done [] (p ∷ payloads) few are = absurd are
keys_back desk done (k ∷ keys) [] few are = absurd are
keys_back desk done (k ∷ keys) (p ∷ payloads) few are =
    let rest = keys_back desk (done ++ k ∷ []) keys payloads (subst (λ (ks : List KeyedJob). length ks ≤ 1000) (sym (behind done keys k)) few) are.1 in (
      keyed desk (done ++ k ∷ []),
      key_kept k.job k.key are.0.is are.0.narrow are.0.is_key refl (sym (one_more done keys k few)),
      subst (λ (ks : List KeyedJob). ReplaysChanges MakesKeyed (keyed desk (done ++ k ∷ [])) payloads (keyed desk ks)) (behind done keys k) rest,
    )

-- and to no others
keys_only : (done keys : List KeyedJob) (payloads : List (List ℕ)) (a b : KeyedState) → length (done ++ keys) ≤ 1000 → AreKeyChanges keys payloads → a.keys ≡ done → ReplaysChanges MakesKeyed a payloads b → (b.desk ≡ a.desk) × (b.keys ≡ done ++ keys)
keys_only done [] [] a b few are had r = (ap (λ (x : KeyedState). x.desk) r, ap (λ (x : KeyedState). x.keys) r ∙ (had ∙ sym (append-nil done)))
keys_only done [] (p ∷ payloads) a b few are had r = absurd are
keys_only done (k ∷ keys) [] a b few are had r = absurd are
keys_only done (k ∷ keys) (p ∷ payloads) a b few are had (mid, alone step ks, more) = absurd (not_key_kept step.0 _ (step.1 ∙ are.0.is))
keys_only done (k ∷ keys) (p ∷ payloads) a b few are had (mid, by_key key inner is is_key step ks, more) = absurd (not_both _ _ (sym is ∙ are.0.is))
keys_only done (k ∷ keys) (p ∷ payloads) a b few are had (mid, key_kept job key is narrow is_key desk ks, more) =
    let same = same_key job k.job key k.key narrow are.0.narrow (omega (arith, key_short key is_key)) (omega (arith, key_short k.key are.0.is_key)) (sym is ∙ are.0.is) in
    let has : mid.keys ≡ done ++ k ∷ [] = ks ∙ (ap (λ (x : List KeyedJob). noted x job key) had ∙ (ap (λ (n : ℕ). noted done n key) same.0 ∙ (ap (λ (l : List ℕ). noted done k.job l) same.1 ∙ one_more done keys k few))) in
    let rest = keys_only (done ++ k ∷ []) keys payloads mid b (subst (λ (x : List KeyedJob). length x ≤ 1000) (sym (behind done keys k)) few) are.1 has more in
    (rest.0 ∙ desk, rest.1 ∙ behind done keys k)

-- ---- the record of a key

pub on_ok : {X E P Q : Type 0} (r : Result X E) → (P → Q) → OnOk r P → OnOk r Q
on_ok (Ok x) f p = f p
on_ok (Err e) f p = tt

kept_is : (job : ℕ) (written key seen out none : List ℕ) → written ≡ key → none ≡ [] → out ≡ none ++ key_kept_bytes job written → seen ≡ out → seen ≡ key_kept_bytes job key
kept_is job written key seen out none same empty wrote read = read ∙ (wrote ∙ (ap (λ (l : List ℕ). l ++ key_kept_bytes job written) empty ∙ ap (key_kept_bytes job) same))

pub kept_small : (job : ℕ) (written key seen out none : List ℕ) → written ≡ key → none ≡ [] → out ≡ none ++ key_kept_bytes job written → seen ≡ out → is_job_key key ≡ true → FitsRecord seen
kept_small job written key seen out none same empty wrote read is_key =
    let long = ap length (kept_is job written key seen out none same empty wrote read) in
    omega (arith, long, key_short key is_key, length-append (to_le_bytes w64 job) (counted_bytes key), length-append (to_le_bytes w64 (length key)) key)

pub kept_change : (k : KeyedJob) (written seen out none : List ℕ) → written ≡ k.key → none ≡ [] → out ≡ none ++ key_kept_bytes k.job written → seen ≡ out → is_job_key k.key ≡ true → k.job < 2 ^ 64 → IsKeyChange k seen
kept_change k written seen out none same empty wrote read is_key narrow = record { is = kept_is k.job written k.key seen out none same empty wrote read; narrow = narrow; is_key = is_key }

pub key_added : (keys rest others : List KeyedJob) (first : KeyedJob) (before mid now payload : List ℕ) → Added (AreKeyChanges keys) (AreKeyChanges rest) before mid → rest ≡ first ∷ others → IsKeyChange first payload → FitsRecord payload
    → now ≡ mid ++ record_of payload → Added (AreKeyChanges keys) (AreKeyChanges others) before now
key_added keys rest others first before mid now payload added is change fits bytes =
    one_added (AreKeyChanges keys) (AreKeyChanges rest) (AreKeyChanges others) before mid now payload added fits bytes
    (λ more left. subst (λ (ks : List KeyedJob). AreKeyChanges ks (payload ∷ more)) (sym is) (change, left))

pub keys_added : (keys rest : List KeyedJob) (before now : List ℕ) → Added (AreKeyChanges keys) (AreKeyChanges rest) before now → length rest ≡ 0
    → (payloads : List (List ℕ)) × AreKeyChanges keys payloads × AllFitRecords payloads × (now ≡ before ++ journal_of payloads)
keys_added keys rest before now added none =
    all_added (AreKeyChanges keys) (AreKeyChanges rest) before now added (subst (λ (ks : List KeyedJob). AreKeyChanges ks []) (sym (nil_from_length rest none)) tt)

-- ---- records

-- the records of the keys behind a snapshot of the desk are a snapshot of both
pub snapshot_made : (m : KeyedState) (before mid now bytes : List ℕ) (payloads : List (List ℕ)) → length m.keys ≤ 1000 → mid ≡ before ++ bytes → IsSnapshot IsNewDesk MakesBytes AreDesksAlike m.desk bytes
    → AreKeyChanges m.keys payloads → AllFitRecords payloads → now ≡ mid ++ journal_of payloads
    → (all : List ℕ) × (now ≡ before ++ all) × IsSnapshot IsNewKeyed MakesKeyed AreKeyedAlike m all
snapshot_made m before mid now bytes payloads few was snapshot are fit is =
    let ps = snapshot.payloads in
    let desk = snapshot.restores.reaches in (
      bytes ++ journal_of payloads,
      is ∙ (ap (λ (l : List ℕ). l ++ journal_of payloads) was ∙ append_assoc before bytes (journal_of payloads)),
      record {
        payloads = ps ++ payloads;
        fits = fits_both ps payloads snapshot.fits fit;
        restores = record {
          reaches = (
            keyed desk.0 [],
            (desk.1, refl),
            replays_on MakesKeyed (keyed desk.0 []) ps payloads (keyed m.desk []) m (lifted ps desk.0 m.desk [] desk.2) (keys_back m.desk [] m.keys payloads few are),
          );
          only = λ other after.
              let cut = replays_split MakesKeyed after.0 ps payloads other after.2 in
              let low = lowered ps desk.0 m.desk after.0 cut.0 desk.2 cut.1 in
              let keys = keys_only [] m.keys payloads cut.0 other few are (low.1 ∙ after.1.1) cut.2 in (
                subst (λ (d : DeskState). AreDesksAlike d m.desk) (sym keys.0) (snapshot.restores.only cut.0.desk (after.0.desk, after.1.0, low.0)),
                keys.1,
              );
        };
        are = ap (λ (l : List ℕ). l ++ journal_of payloads) snapshot.are ∙ sym (journal_both ps payloads);
      },
    )
