-- A change of a desk and of the keys beside it as JSON.
use Rattle.std.specs.Prelude.{ℕ, List, codes}
use Rattle.serde_json.specs.Data.{Data, null, boolean, number, string, array, object, Members, no_members, member}
use Rattle.sessions.specs.Replies.{whole}
use Rattle.keyed_desk.specs.declared.keyed_change.KeyedChange.{KeyedChange}
use Rattle.keyed_desk.specs.declared.keyed_change.KeyedChange.TheVariants.{Plain, ByKey, KeyKept}
use Rattle.journal_text.specs.ChangeData.{change_data, name_data}

-- the members, and one behind them
abbrev pub with_member : Members → List ℕ → Data → Members
with_member no_members name d = member name d no_members
with_member (member first e members) name d = member first e (with_member members name d)

-- an object with this key alone
abbrev pub key_data : List ℕ → Data
key_data key = object (member (codes "key") (name_data key) no_members)

-- the object of a change of the desk, and behind its members the key that its job came by
abbrev pub by_key_data : Data → List ℕ → Data
by_key_data (object members) key = object (with_member members (codes "key") (name_data key))
by_key_data (array ds) key = array ds
by_key_data (string s) key = string s
by_key_data (number n) key = number n
by_key_data (boolean b) key = boolean b
by_key_data null key = null

-- a job that has its key again
unfoldable pub key_kept_data : ℕ → ℕ → List ℕ → Data
key_kept_data at job key =
    object (member (codes "at") (whole at) (member (codes "change") (string (codes "key_kept"))
    (member (codes "job") (whole job) (member (codes "key") (name_data key) no_members))))

-- a change whose record begins at this byte; a job that it takes gets this number
abbrev pub keyed_data : ℕ → ℕ → KeyedChange → Data
keyed_data at next (Plain change) = change_data at next change
keyed_data at next (ByKey key change) = by_key_data (change_data at next change) key.items
keyed_data at next (KeyKept job key) = key_kept_data at job key.items
