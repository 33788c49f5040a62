-- What has no float.
use Rattle.std.proofs.Common.{◌≡◌, ℕ, Bool, List, false, refl}
use Rattle.serde_json.specs.Written.{has_float}
use Rattle.sessions.specs.Replies.{status_data, play_data}

pub status_plain : (complete : Bool) (returned spent : ℕ) → has_float (status_data complete returned spent) ≡ false
unfolding status_data
status_plain complete returned spent = refl

pub play_plain : (buffer : List ℕ) (complete : Bool) (held returned spent used : ℕ) → has_float (play_data buffer complete held returned spent used) ≡ false
unfolding play_data
play_plain buffer complete held returned spent used = refl
