-- What is answered by doors that hear forms of their own.
use Rattle.std.proofs.Common.{◌≡◌, ℕ, List, [], ◌∷◌, ◌++◌, Option, Some, None, Result, Ok, Err, refl, sym, ap, subst, ◌∙◌}
use Rattle.std.specs.Prelude.{IfOk, OnErr}
use Rattle.refusal.specs.declared.NoMemory.{NoMemory}
use Rattle.sessions.specs.declared.job_key.KeyedJob.{KeyedJob}
use Rattle.shared_desk.specs.declared.door.Door.{Door}
use Rattle.shared_desk.specs.Histories.{HistoryEntry, Query, Replays, none_yet, one_more}
use Rattle.tenant_desks.specs.AskedPlainly as plain
use Rattle.tenant_desks.specs.AskedPlainly.{AreAskedPlainly, IsAskedAs}
use Rattle.tenant_desks.specs.AtDoors.{AnswersOrTells, AsksNothing, BehindDoors, GivesReply, answers_at_doors, jobs_behind, keys_behind, keys_left, new_key, no_request_by, plainly, told_by_door, without_keys}
use Rattle.tenant_desks.specs.Tenancies.{Tenancy}

-- ---- one reply

-- it is given where there was memory for it
pub gives : (decided : List ℕ → Type 0) (r : Result (List ℕ) NoMemory) → IfOk r (λ reply. decided reply) → OnErr r ((reply : List ℕ) × decided reply) → GivesReply decided r
gives decided (Ok reply) ok err = ok
gives decided (Err none) ok err = err

pub given_ok : (decided : List ℕ → Type 0) (r : Result (List ℕ) NoMemory) → GivesReply decided r → IfOk r (λ reply. decided reply)
given_ok decided (Ok reply) given = given
given_ok decided (Err none) given = tt

pub given_err : (decided : List ℕ → Type 0) (r : Result (List ℕ) NoMemory) → GivesReply decided r → OnErr r ((reply : List ℕ) × decided reply)
given_err decided (Ok reply) given = tt
given_err decided (Err none) given = given

-- something was told to what is no request
pub asked_nothing : {S : Type 0} (answers : S → Query → List ℕ → S → Type 0) (s : S) (query : Query) (t : S) (r : Result (List ℕ) NoMemory) → IfOk r (λ told. answers s query told t) → OnErr r ((told : List ℕ) × answers s query told t) → (told : List ℕ) × answers s query told t
asked_nothing answers s query t (Ok told) ok err = (told, ok)
asked_nothing answers s query t (Err none) ok err = err

module _ {H : Type 0} (answers : Tenancy × H → Query → List ℕ → Tenancy × H → Type 0) (keeps : Tenancy × H → Door → Option (List ℕ) → Tenancy × H → Type 0) (s t : Tenancy × BehindDoors H) (query : Query) where
  -- what the door tells by itself
  abbrev Told : Option (List ℕ)
  Told = told_by_door (keys_behind s.1.keys query.passage.door) t.0.desks query.passage.door query.beyond

  abbrev New : Option (List ℕ)
  New = new_key (keys_behind s.1.keys query.passage.door) query.beyond

  abbrev left : Option (List ℕ) → List (List KeyedJob)
  left key = keys_left key s.1.keys query.passage.door (jobs_behind s.0.desks query.passage.door) (jobs_behind t.0.desks query.passage.door)

  abbrev Keeps : Option (List ℕ) → Type 0
  Keeps key = keeps (without_keys s) query.passage.door key (without_keys t)

  tells : (frame : List ℕ) → Told ≡ Some frame → New ≡ None → AsksNothing answers query.passage (without_keys s) (without_keys t) → t.1.keys ≡ s.1.keys → Keeps None → answers_at_doors answers keeps s query frame t
  tells frame told none asked same kept = (
    subst (λ (o : Option (List ℕ)). AnswersOrTells answers o (without_keys s) query frame (without_keys t)) (sym told) (asked, refl),
    same ∙ ap left (sym none),
    subst Keeps (sym none) kept,
  )

  pub tells_reply : (frame : List ℕ) (r : Result (List ℕ) NoMemory) → Told ≡ Some frame → New ≡ None → AsksNothing answers query.passage (without_keys s) (without_keys t) → t.1.keys ≡ s.1.keys
      → Keeps None → IfOk r (λ bytes. bytes ≡ frame) → GivesReply (λ reply. answers_at_doors answers keeps s query reply t) r
  tells_reply frame (Ok bytes) told none asked same kept is = subst (λ (b : List ℕ). answers_at_doors answers keeps s query b t) (sym is) (tells frame told none asked same kept)
  tells_reply frame (Err e) told none asked same kept is = (frame, tells frame told none asked same kept)

  -- the handler's own answer
  passes : (reply : List ℕ) → Told ≡ None → t.1.keys ≡ left New → Keeps New → answers (without_keys s) (plainly query) reply (without_keys t) → answers_at_doors answers keeps s query reply t
  passes reply told noted kept answer = (
    subst (λ (o : Option (List ℕ)). AnswersOrTells answers o (without_keys s) query reply (without_keys t)) (sym told) answer,
    noted,
    kept,
  )

  pub passes_reply : (r : Result (List ℕ) NoMemory) → Told ≡ None → t.1.keys ≡ left New → Keeps New → IfOk r (λ reply. answers (without_keys s) (plainly query) reply (without_keys t))
      → OnErr r ((reply : List ℕ) × answers (without_keys s) (plainly query) reply (without_keys t)) → GivesReply (λ reply. answers_at_doors answers keeps s query reply t) r
  passes_reply (Ok reply) told noted kept ok err = passes reply told noted kept ok
  passes_reply (Err e) told noted kept ok err = (err.0, passes err.0 told noted kept err.1)

-- ---- a history, by what the handler was asked

module _ {H : Type 0} (answers : Tenancy × H → Query → List ℕ → Tenancy × H → Type 0) (keeps : Tenancy × H → Door → Option (List ℕ) → Tenancy × H → Type 0) (begins : Tenancy × BehindDoors H → Type 0) (starts : Tenancy × H → Type 0)
    (start : (s : Tenancy × BehindDoors H) → begins s → starts (without_keys s)) where
  asked_more : (history asked : List HistoryEntry) (s : Tenancy × BehindDoors H) (e : HistoryEntry) (t : Tenancy × BehindDoors H) (told : Option (List ℕ))
      → told_by_door (keys_behind s.1.keys e.query.passage.door) t.0.desks e.query.passage.door e.query.beyond ≡ told
      → AreAskedPlainly answers begins history asked s → Replays answers starts asked (without_keys s)
      → AnswersOrTells answers told (without_keys s) e.query e.reply (without_keys t)
      → t.1.keys ≡ keys_left (new_key (keys_behind s.1.keys e.query.passage.door) e.query.beyond) s.1.keys e.query.passage.door (jobs_behind s.0.desks e.query.passage.door) (jobs_behind t.0.desks e.query.passage.door)
      → (more : List HistoryEntry) × AreAskedPlainly answers begins (history ++ e ∷ []) more t × Replays answers starts more (without_keys t)
  asked_more history asked s e t None is are legal answer kept =
      let f : HistoryEntry = record { connection = e.connection; query = plainly e.query; reply = e.reply } in (
        asked ++ f ∷ [],
        plain.one_more history asked s e f t are answer (subst (λ (o : Option (List ℕ)). IsAskedAs o e f) (sym is) refl) kept,
        one_more asked (without_keys s) f (without_keys t) legal answer,
      )
  asked_more history asked s e t (Some frame) is are legal ((told, answer), same) kept =
      let f : HistoryEntry = record { connection = e.connection; query = no_request_by e.query.passage; reply = told } in (
        asked ++ f ∷ [],
        plain.one_more history asked s e f t are answer (subst (λ (o : Option (List ℕ)). IsAskedAs o e f) (sym is) (refl, refl, same)) kept,
        one_more asked (without_keys s) f (without_keys t) legal answer,
      )

  pub asked_plainly : (history : List HistoryEntry) (t : Tenancy × BehindDoors H) → Replays (answers_at_doors answers keeps) begins history t
      → (asked : List HistoryEntry) × AreAskedPlainly answers begins history asked t × Replays answers starts asked (without_keys t)
  asked_plainly _ t (none_yet s begun) = ([], plain.none_yet s begun, none_yet (without_keys s) (start s begun))
  asked_plainly _ t (one_more history s e u before answer) =
      let r = asked_plainly history s before in
      asked_more history r.0 s e u _ refl r.1 r.2 answer.0 answer.1

-- ---- a handler that does what another one does

-- desks, and a handler behind doors, with what the handler comes to
abbrev pub doors_as : {H G : Type 0} → (H → G) → Tenancy × BehindDoors H → Tenancy × BehindDoors G
doors_as f s = (s.0, record { handler = f s.1.handler; keys = s.1.keys })

module _ {H G : Type 0} (answers : Tenancy × H → Query → List ℕ → Tenancy × H → Type 0) (answers1 : Tenancy × G → Query → List ℕ → Tenancy × G → Type 0) (f : H → G)
    (alike : (s : Tenancy × H) (query : Query) (reply : List ℕ) (t : Tenancy × H) → answers s query reply t → answers1 (s.0, f s.1) query reply (t.0, f t.1))
    (keeps : Tenancy × H → Door → Option (List ℕ) → Tenancy × H → Type 0) (keeps1 : Tenancy × G → Door → Option (List ℕ) → Tenancy × G → Type 0)
    (kept_alike : (s : Tenancy × H) (door : Door) (key : Option (List ℕ)) (t : Tenancy × H) → keeps s door key t → keeps1 (s.0, f s.1) door key (t.0, f t.1)) where
  by_told : (told : Option (List ℕ)) (s : Tenancy × H) (query : Query) (reply : List ℕ) (t : Tenancy × H) → AnswersOrTells answers told s query reply t → AnswersOrTells answers1 told (s.0, f s.1) query reply (t.0, f t.1)
  by_told None s query reply t answer = alike s (plainly query) reply t answer
  by_told (Some frame) s query reply t ((told, answer), is) = ((told, alike s (no_request_by query.passage) told t answer), is)

  pub doors_alike : (s : Tenancy × BehindDoors H) (query : Query) (reply : List ℕ) (t : Tenancy × BehindDoors H) → answers_at_doors answers keeps s query reply t → answers_at_doors answers1 keeps1 (doors_as f s) query reply (doors_as f t)
  doors_alike s query reply t answer = (by_told _ (without_keys s) query reply (without_keys t) answer.0, answer.1, kept_alike (without_keys s) query.passage.door _ (without_keys t) answer.2)
