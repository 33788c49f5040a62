-- The answer to what is heard in a payload by a door is one to the payload.
use Rattle.std.proofs.Common.{◌≡◌, ℕ, List, Option, Result, Ok, Err, Vec, Global, subst, inr}
use Rattle.std.specs.Prelude.{IfOk, OnErr}
use Rattle.refusal.specs.declared.NoMemory.{NoMemory}
use Rattle.sessions.specs.DoorForms.{AsksBeyond, ReadsPlainly, key_of}
use Rattle.sessions.specs.OwnNames.{HearsBy}
use Rattle.sessions.specs.declared.door_forms.DoorForm.{DoorForm}
use Rattle.sessions.specs.declared.door_forms.DoorForms.{DoorForms}
use Rattle.sessions.specs.declared.request.Request.{Request}
use Rattle.streams.specs.Hearing.{query_of}
use Rattle.streams.specs.Unanswered.{IsUnanswered}
use Rattle.shared_desk.specs.declared.passage.Passage.{Passage}
use Rattle.shared_desk.specs.Grants.{admitted_by}
use Rattle.shared_desk.specs.HeardAt.{forms_at}
use Rattle.shared_desk.specs.Histories.{Query}
use Rattle.shared_desk.specs.ClientViews.{ClientView}
use Rattle.shared_desk.specs.Answered.{IsSharedAnswer}
use Rattle.shared_desk.proofs.WholeStream.{shared}

-- what is read by the plain protocol is what it hears
reads_as : (forms : DoorForms) (payload : List ℕ) (read : Result Request ℕ) → ReadsPlainly (key_of forms) payload read → HearsBy (key_of forms) payload (query_of read)
reads_as forms payload (Ok request) reads = reads
reads_as forms payload (Err code) reads = reads

module _ {S : Type 0} (answers : S → Query → List ℕ → S → Type 0) (begins : S → Type 0) where
  pub heard_ok : (p : Passage) (forms : DoorForms) (payload : List ℕ) (read : Result Request ℕ) (beyond : Option DoorForm) (v w : ClientView) (frame : Result (Vec ℕ Global) NoMemory) → forms ≡ forms_at p.door
      → ReadsPlainly (key_of forms) payload read → AsksBeyond forms payload beyond
      → IfOk frame (λ f. IsSharedAnswer answers begins v (admitted_by p (query_of read) beyond) f.items w) → IfOk frame (λ f. shared p answers begins (tt, v) payload f.items (tt, w))
  heard_ok p forms payload read beyond v w (Ok f) same reads more answer = (
    query_of read,
    beyond,
    subst (λ (k : DoorForms). HearsBy (key_of k) payload (query_of read)) same (reads_as forms payload read reads),
    subst (λ (k : DoorForms). AsksBeyond k payload beyond) same more,
    answer,
  )
  heard_ok p forms payload read beyond v w (Err none) same reads more answer = tt

  pub heard_err : (p : Passage) (forms : DoorForms) (payload : List ℕ) (read : Result Request ℕ) (beyond : Option DoorForm) (v w : ClientView) (frame : Result (Vec ℕ Global) NoMemory) → forms ≡ forms_at p.door
      → ReadsPlainly (key_of forms) payload read → AsksBeyond forms payload beyond
      → OnErr frame ((bytes : List ℕ) × IsSharedAnswer answers begins v (admitted_by p (query_of read) beyond) bytes w) → OnErr frame (IsUnanswered (shared p answers begins) (tt, v) payload (tt, w))
  heard_err p forms payload read beyond v w (Ok f) same reads more answer = tt
  heard_err p forms payload read beyond v w (Err none) same reads more lost = inr (
    lost.0,
    (
      query_of read,
      beyond,
      subst (λ (k : DoorForms). HearsBy (key_of k) payload (query_of read)) same (reads_as forms payload read reads),
      subst (λ (k : DoorForms). AsksBeyond k payload beyond) same more,
      lost.1,
    ),
  )
