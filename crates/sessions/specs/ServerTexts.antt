-- Used by private contracts and proofs alone: the pieces of the text of what a server counts.
use Rattle.std.specs.Prelude.{ℕ, List, [], ◌∷◌, ◌++◌, Bool, true, codes, decimal}
use Rattle.serde_json.specs.Written.{comma_if, compact_text}
use Rattle.sessions.specs.Replies.{connections_data, job_totals_data, refusal_count_data}
use Rattle.sessions.specs.declared.server_totals.ConnectionTotals.{ConnectionTotals}
use Rattle.sessions.specs.declared.server_totals.JobTotals.{JobTotals}
use Rattle.sessions.specs.declared.server_totals.RefusalCount.{RefusalCount}

-- how many refusals had a number
abbrev pub refusal_count_text : RefusalCount → List ℕ
refusal_count_text r = compact_text (refusal_count_data r)

-- the counts, a comma between two, and one ahead where something stands before
abbrev pub refusal_count_texts : Bool → List RefusalCount → List ℕ
refusal_count_texts later [] = []
refusal_count_texts later (r ∷ rs) =
    comma_if later ++ (refusal_count_text r ++ refusal_count_texts true rs)

-- whether something stands before what comes behind these counts
abbrev pub behind_counted : Bool → List RefusalCount → Bool
behind_counted later [] = later
behind_counted later (r ∷ rs) = true

-- the members ahead of the lost lines
abbrev pub totals_front : ConnectionTotals → ℕ → JobTotals → List ℕ
totals_front connections instance jobs =
    codes "{\"connections\":" ++ (compact_text (connections_data connections)
    ++ ((codes ",\"instance\":" ++ decimal instance)
    ++ (codes ",\"jobs\":" ++ compact_text (job_totals_data jobs))))
