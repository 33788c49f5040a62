-- Two desks at which the same happens.
use Rattle.std.specs.Prelude.{◌≡◌, ◌≢◌, ◌⊎◌, ℕ, Bool, List, [], ◌∷◌}
use Rattle.sessions.specs.Replies.{frame_or_refusal, status_data}
use Rattle.shared_desk.specs.Histories.{HistoryEntry}
use Rattle.tenant_desks.specs.Alone.{DeskEvent, was_asked, has_ended}
use Rattle.tenant_desks.specs.Answering.{refusal_frame}

-- two lists, one event after the other
abbrev pub EachTwo : (DeskEvent → DeskEvent → Type 0) → List DeskEvent → List DeskEvent → Type 0
EachTwo P [] [] = Unit {0}
EachTwo P [] (y ∷ ys) = ⊥
EachTwo P (x ∷ xs) [] = ⊥
EachTwo P (x ∷ xs) (y ∷ ys) = P x y × EachTwo P xs ys

-- The same is asked, the start of its job comes to the same, and neither is refused for want of
-- memory; or the same job ends, and comes to the same.
abbrev pub HappensAlike : DeskEvent → DeskEvent → Type 0
HappensAlike (was_asked e first) (was_asked f second) =
    (e.query.asked ≡ f.query.asked) × (first ≡ second) × (e.reply ≢ refusal_frame 99)
    × (f.reply ≢ refusal_frame 99)
HappensAlike (was_asked e first) (has_ended number outcome) = ⊥
HappensAlike (has_ended number outcome) (was_asked f second) = ⊥
HappensAlike (has_ended m first) (has_ended n second) = (m ≡ n) × (first ≡ second)

-- the reply tells how far a job is
abbrev pub TellsHowFar : HistoryEntry → Type 0
TellsHowFar e =
    (complete : Bool) × (returned spent : ℕ)
    × (e.reply ≡ frame_or_refusal (status_data complete returned spent))

-- The same is told, or how far a job is.
abbrev pub IsToldAlike : DeskEvent → DeskEvent → Type 0
IsToldAlike (was_asked e first) (was_asked f second) =
    (e.reply ≡ f.reply) ⊎ (TellsHowFar e × TellsHowFar f)
IsToldAlike (was_asked e first) (has_ended number outcome) = ⊥
IsToldAlike (has_ended number outcome) (was_asked f second) = ⊥
IsToldAlike (has_ended m first) (has_ended n second) = Unit {0}
