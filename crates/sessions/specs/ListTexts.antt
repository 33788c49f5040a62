-- Used by private contracts and proofs alone: the pieces of the text of a listing.
use Rattle.std.specs.Prelude.{ℕ, List, [], ◌∷◌, ◌++◌, Bool, true, Option, Some, None, codes}
use Rattle.serde_json.specs.Data.{string}
use Rattle.serde_json.specs.Written.{comma_if, compact_text}
use Rattle.accounts.specs.declared.listing.ListedJob.{ListedJob}
use Rattle.sessions.specs.Replies.{listed_by}
use Rattle.sessions.specs.declared.job_key.KeyedJob.{KeyedJob}

-- a job's key behind its number, if it has one
abbrev pub key_text : Option (List ℕ) → List ℕ
key_text None = []
key_text (Some key) = codes ",\"key\":" ++ compact_text (string key)

-- a job
abbrev pub listed_text : List KeyedJob → ListedJob → List ℕ
listed_text keys j = compact_text (listed_by keys j)

-- the jobs, a comma between two, and one ahead where something stands before
abbrev pub listed_texts : List KeyedJob → Bool → List ListedJob → List ℕ
listed_texts keys later [] = []
listed_texts keys later (j ∷ js) =
    comma_if later ++ (listed_text keys j ++ listed_texts keys true js)

-- whether something stands before what comes behind these jobs
abbrev pub behind_listed : Bool → List ListedJob → Bool
behind_listed later [] = later
behind_listed later (j ∷ js) = true
