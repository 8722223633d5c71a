-- Bodies in JSON (RFC 8259).
use Rattle.std.specs.Prelude.{ℕ, ◌+◌, if◌then◌else◌, List, Option, None, option_map}
use Rattle.std.specs.Option.{option_and_then, unwrap_or}
use Rattle.std.specs.Str.{is_utf8}
use Rattle.serde_json.specs.Data.{Data, Members, no_members, member}
use Rattle.serde_json.specs.Read.{read}
use Rattle.serde_json.specs.Find.{get, as_object, as_str}

-- the value of a JSON text, which is UTF-8
unfoldable pub json_of : List ℕ → Option Data
json_of text = if is_utf8 text then read text else None

-- the text under a key of an object
abbrev pub text_at : List ℕ → Data → Option (List ℕ)
text_at key d = option_and_then as_str (get key d)

abbrev pub count_members : Members → ℕ
count_members no_members = 0
count_members (member k d ms) = 1 + count_members ms

-- how many members an object has, and no member where a value is none
abbrev pub members_in : Data → ℕ
members_in d = unwrap_or (option_map count_members (as_object d)) 0
