-- A job as JSON, for who runs it: what `bpfjobs run` reads.
use Rattle.std.specs.Prelude.{◌≡◌, ℕ, List, map, codes, Option, Some, None, Result, Ok, Err, Vec}
use Rattle.std.specs.declared.alloc.Global.{Global}
use Rattle.hex.specs.Hex.{encode_lower}
use Rattle.serde_json.specs.Data.{Data, string, array, object, no_members, member}
use Rattle.serde_json.specs.Written.{compact_text}
use Rattle.sessions.specs.Grammar.{Asked, grant, account, submit, status, result, ProgramText, JobText, ReadsJson}
use Rattle.sessions.specs.Replies.{items, whole}

unfoldable pub program_data : ProgramText → Data
program_data p =
    object (member (codes "code") (string (encode_lower p.code))
    (member (codes "need") (whole p.need) no_members))

unfoldable pub job_data : JobText → Data
job_data order =
    object (member (codes "buffer") (string (encode_lower order.buffer))
    (member (codes "credit") (whole order.credit)
    (member (codes "programs") (array (items (map program_data order.programs))) no_members)))

-- the bytes of the object
abbrev pub object_text : JobText → List ℕ
object_text order = compact_text (job_data order)

-- the text is the object, and is read as that
abbrev pub IsObject : JobText → List ℕ → Type 0
IsObject order text = (text ≡ object_text order) × ReadsJson text (job_data order)

-- there is none, or it is that of the job that a submit asks for
abbrev pub IsObjectFor : Option (Vec ℕ Global) → Result Asked ℕ → Type 0
IsObjectFor None query = Unit {0}
IsObjectFor (Some text) (Ok (submit name order)) = IsObject order text.items
IsObjectFor (Some text) (Ok (grant name amount)) = ⊥
IsObjectFor (Some text) (Ok (account name)) = ⊥
IsObjectFor (Some text) (Ok (status number)) = ⊥
IsObjectFor (Some text) (Ok (result number)) = ⊥
IsObjectFor (Some text) (Err code) = ⊥
