-- Two histories of a server of one desk in which the same happens.
use Rattle.std.specs.Prelude.{◌≡◌, ◌≢◌, ◌⊎◌, ℕ, Bool, List, [], ◌∷◌}
use Rattle.sessions.specs.Replies.{frame_or_refusal, status_data}
use Rattle.server_state.specs.Answering.{TellsCounts}
use Rattle.server_state.specs.Desks.{refusal_frame}
use Rattle.server_state.specs.Histories.{ServerEvent, was_asked, has_ended}

-- two lists, one event after the other
abbrev pub EachTwo : (ServerEvent → ServerEvent → Type 0) → List ServerEvent → List ServerEvent
    → Type 0
EachTwo P [] [] = Unit {0}
EachTwo P [] (y ∷ ys) = ⊥
EachTwo P (x ∷ xs) [] = ⊥
EachTwo P (x ∷ xs) (y ∷ ys) = P x y × EachTwo P xs ys

-- The same is asked by the same rights, the start of its job comes to the same, and neither is
-- refused for want of memory; or the same job ends, and comes to the same.
abbrev pub HappensAlike : ServerEvent → ServerEvent → Type 0
HappensAlike (was_asked connection access query frame started) (was_asked c a q f s) =
    (access ≡ a) × (query ≡ q) × (started ≡ s) × (frame ≢ refusal_frame 99)
    × (f ≢ refusal_frame 99)
HappensAlike (was_asked connection access query frame started) (has_ended id outcome) = ⊥
HappensAlike (has_ended id outcome) (was_asked connection access query frame started) = ⊥
HappensAlike (has_ended id outcome) (has_ended other o) = (id ≡ other) × (outcome ≡ o)

-- the frame says how far a job is
abbrev pub TellsHowFar : List ℕ → Type 0
TellsHowFar frame = (complete : Bool) × (returned spent : ℕ)
    × (frame ≡ frame_or_refusal (status_data complete returned spent))

-- The same is sent, or how far a job is, or the counts of the server.
abbrev pub IsSentAlike : ServerEvent → ServerEvent → Type 0
IsSentAlike (was_asked connection access query frame started) (was_asked c a q f s) =
    (frame ≡ f) ⊎ (TellsHowFar frame × TellsHowFar f) ⊎ (TellsCounts frame × TellsCounts f)
IsSentAlike (was_asked connection access query frame started) (has_ended id outcome) = ⊥
IsSentAlike (has_ended id outcome) (was_asked connection access query frame started) = ⊥
IsSentAlike (has_ended id outcome) (has_ended other o) = Unit {0}
