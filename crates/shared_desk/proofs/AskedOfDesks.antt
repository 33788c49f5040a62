-- What a server is asked itself, put aside.
use Rattle.std.proofs.Common.{◌≡◌, ℕ, List, [], ◌∷◌, ◌++◌, Bool, true, false, Result, Ok, Err, refl, sym, subst}
use Rattle.std.specs.Prelude.{IfOk, OnErr}
use Rattle.refusal.specs.declared.NoMemory.{NoMemory}
use Rattle.sessions.specs.Replies.{frame_or_refusal, server_data}
use Rattle.sessions.specs.declared.server_totals.ConnectionTotals.{ConnectionTotals}
use Rattle.sessions.specs.declared.server_totals.JobTotals.{JobTotals}
use Rattle.shared_desk.specs.Histories.{HistoryEntry, Query, Replays, none_yet, one_more}
use Rattle.shared_desk.specs.ServerAsked as asked
use Rattle.shared_desk.specs.ServerAsked.{AreAskedOfDesks, CountsOrAnswers, IsAskedOfDesks, TellsServer, answers_counting, asks_server, nothing_asked}

-- a reply of a server that has counted nothing
nothing_told : (reply : List ℕ) × TellsServer reply
nothing_told =
    let connections : ConnectionTotals = record { opened = 0; taken = 0 } in
    let jobs : JobTotals = record { failed = 0; opened = 0; over = 0; taken = 0; waiting = 0 } in
    (frame_or_refusal (server_data connections 0 jobs 0 [] 0), (connections, 0, jobs, 0, [], 0, refl))

module _ {S : Type 0} (answers : S → Query → List ℕ → S → Type 0) where
  -- ---- a history, by what the handler was asked

  module _ (begins : S → Type 0) where
    asked_more : (history plain : List HistoryEntry) (s : S) (e : HistoryEntry) (t : S) (is_server : Bool) → asks_server e.query.beyond ≡ is_server → AreAskedOfDesks history plain → Replays answers begins plain s
        → CountsOrAnswers answers is_server s e.query e.reply t → (more : List HistoryEntry) × AreAskedOfDesks (history ++ e ∷ []) more × Replays answers begins more t
    asked_more history plain s e t false is are legal answer = (
      plain ++ e ∷ [],
      asked.one_more history plain e e are (subst (λ (b : Bool). IsAskedOfDesks b e e) (sym is) refl),
      one_more plain s e t legal answer,
    )
    asked_more history plain s e t true is are legal ((told, answer), tells) =
        let f : HistoryEntry = record { connection = e.connection; query = nothing_asked e.query.passage; reply = told } in (
          plain ++ f ∷ [],
          asked.one_more history plain e f are (subst (λ (b : Bool). IsAskedOfDesks b e f) (sym is) (refl, refl, tells)),
          one_more plain s f t legal answer,
        )

    pub asked_of_desks : (history : List HistoryEntry) (t : S) → Replays (answers_counting answers) begins history t
        → (plain : List HistoryEntry) × AreAskedOfDesks history plain × Replays answers begins plain t
    asked_of_desks _ t (none_yet s start) = ([], asked.none_yet, none_yet s start)
    asked_of_desks _ t (one_more history s e u before answer) =
        let r = asked_of_desks history s before in
        asked_more history r.0 s e u (asks_server e.query.beyond) refl r.1 r.2 answer

  -- ---- one answer

  module _ (s t : S) (query : Query) where
    pub handler_ok : (r : Result (List ℕ) NoMemory) → asks_server query.beyond ≡ false → IfOk r (λ reply. answers s query reply t) → IfOk r (λ reply. answers_counting answers s query reply t)
    handler_ok (Ok reply) is ok = subst (λ (b : Bool). CountsOrAnswers answers b s query reply t) (sym is) ok
    handler_ok (Err e) is ok = tt

    pub handler_err : (r : Result (List ℕ) NoMemory) → asks_server query.beyond ≡ false → OnErr r ((reply : List ℕ) × answers s query reply t) → OnErr r ((reply : List ℕ) × answers_counting answers s query reply t)
    handler_err (Ok reply) is err = tt
    handler_err (Err e) is err = (err.0, subst (λ (b : Bool). CountsOrAnswers answers b s query err.0 t) (sym is) err.1)

    asked_nothing : (inner : Result (List ℕ) NoMemory) → IfOk inner (λ told. answers s (nothing_asked query.passage) told t) → OnErr inner ((told : List ℕ) × answers s (nothing_asked query.passage) told t)
        → (told : List ℕ) × answers s (nothing_asked query.passage) told t
    asked_nothing (Ok told) ok err = (told, ok)
    asked_nothing (Err e) ok err = err

    pub server_ok : (inner r : Result (List ℕ) NoMemory) → asks_server query.beyond ≡ true → IfOk inner (λ told. answers s (nothing_asked query.passage) told t)
        → OnErr inner ((told : List ℕ) × answers s (nothing_asked query.passage) told t) → IfOk r (λ reply. TellsServer reply) → IfOk r (λ reply. answers_counting answers s query reply t)
    server_ok inner (Ok reply) is ok err tells = subst (λ (b : Bool). CountsOrAnswers answers b s query reply t) (sym is) (asked_nothing inner ok err, tells)
    server_ok inner (Err e) is ok err tells = tt

    -- what would have been told, had there been memory
    pub server_err : (inner r : Result (List ℕ) NoMemory) → asks_server query.beyond ≡ true → IfOk inner (λ told. answers s (nothing_asked query.passage) told t)
        → OnErr inner ((told : List ℕ) × answers s (nothing_asked query.passage) told t) → OnErr r ((reply : List ℕ) × answers_counting answers s query reply t)
    server_err inner (Ok reply) is ok err = tt
    server_err inner (Err e) is ok err =
        (nothing_told.0, subst (λ (b : Bool). CountsOrAnswers answers b s query nothing_told.0 t) (sym is) (asked_nothing inner ok err, nothing_told.1))

-- ---- a handler that does what another one does

module _ {S T : Type 0} (answers : S → Query → List ℕ → S → Type 0) (answers1 : T → Query → List ℕ → T → Type 0) (g : S → T)
    (alike : (s : S) (query : Query) (reply : List ℕ) (t : S) → answers s query reply t → answers1 (g s) query reply (g t)) where
  by_server : (is_server : Bool) (s : S) (query : Query) (reply : List ℕ) (t : S) → CountsOrAnswers answers is_server s query reply t → CountsOrAnswers answers1 is_server (g s) query reply (g t)
  by_server false s query reply t answer = alike s query reply t answer
  by_server true s query reply t ((told, answer), tells) = ((told, alike s (nothing_asked query.passage) told t answer), tells)

  pub counting_alike : (s : S) (query : Query) (reply : List ℕ) (t : S) → answers_counting answers s query reply t → answers_counting answers1 (g s) query reply (g t)
  counting_alike s query reply t = by_server (asks_server query.beyond) s query reply t
