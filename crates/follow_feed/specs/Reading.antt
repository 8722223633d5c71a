-- The feed that a JSON text stands for.
use Rattle.std.specs.Prelude.{◌≡◌, ℕ, ◌==◌, if◌then◌else◌, List, codes, Option, Some, None}
use Rattle.std.specs.Prelude.{option_and_then, Result, Ok, Err}
use Rattle.serde_json.specs.Data.{Data}
use Rattle.serde_json.specs.Find.{as_number, as_u64, get}
use Rattle.dtab_table.specs.Computed.{table_of}
use Rattle.dtab_table.specs.Dtab.{rules_of}
use Rattle.dtab_table.specs.declared.dtab.Dtab.{Dtab}
use Rattle.dtab_table.specs.Rules.{Rule}
use Rattle.ns_store.specs.Contents.{Space}
use Rattle.api_wire.specs.Json.{json_of, members_in, text_at}
use Rattle.follow_feed.specs.declared.feed.Feed.{Feed}
use Rattle.follow_feed.specs.declared.polling.PollEnd.{PollEnd}
use Rattle.follow_feed.specs.declared.polling.PollEnd.TheVariants.{Lost, Strange, OutOfMemory}
use Rattle.follow_feed.specs.Feeds.{FeedValue, feed_value}

-- the number of 64 bits under a key, written without fraction and exponent
abbrev pub number_at : List ℕ → Data → Option ℕ
number_at key d = option_and_then as_u64 (option_and_then as_number (get key d))

-- the rules of the table whose text stands under `dtab`
abbrev pub rules_at : Data → Option (List Rule)
rules_at d = option_and_then table_of (text_at (codes "dtab") d)

-- a feed with this table, where both numbers are there
abbrev pub with_numbers : Option ℕ → Option ℕ → Option Space → Option FeedValue
with_numbers (Some run) (Some place) table =
    Some (record { run = run; place = place; table = table })
with_numbers _ _ table = None

-- and with a table of this version and these rules, where they are there too
abbrev pub with_table : Option ℕ → Option ℕ → Option ℕ → Option (List Rule) → Option FeedValue
with_table run place (Some version) (Some rules) =
    with_numbers run place (Some (record { version = version; rules = rules }))
with_table run place _ _ = None

-- the feed of an object with the members `place` and `run` alone
abbrev pub bare_feed : Data → Option FeedValue
bare_feed d = with_numbers (number_at (codes "run") d) (number_at (codes "place") d) None

-- and of one that has `dtab` and `version` too
abbrev pub full_feed : Data → Option FeedValue
full_feed d =
    with_table (number_at (codes "run") d) (number_at (codes "place") d)
    (number_at (codes "version") d) (rules_at d)

-- an object with other members is none
abbrev pub feed_of_data : Data → Option FeedValue
feed_of_data d =
    if members_in d == 2 then bare_feed d
    else if members_in d == 4 then full_feed d
    else None

-- the feed that a text stands for
unfoldable pub feed_in : List ℕ → Option FeedValue
feed_in text = option_and_then feed_of_data (json_of text)

-- this was read, and told as strange exactly where there is none
abbrev pub Reads : Option FeedValue → Result Feed PollEnd → Type 0
Reads said (Ok feed) = said ≡ Some (feed_value feed)
Reads said (Err Lost) = ⊥
Reads said (Err Strange) = said ≡ None
Reads said (Err OutOfMemory) = Unit {0}

-- the same of a table
abbrev pub ReadsTable : Option (List Rule) → Result Dtab PollEnd → Type 0
ReadsTable said (Ok dtab) = said ≡ Some (rules_of dtab)
ReadsTable said (Err Lost) = ⊥
ReadsTable said (Err Strange) = said ≡ None
ReadsTable said (Err OutOfMemory) = Unit {0}
