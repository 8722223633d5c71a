-- The text of a feed as JSON (RFC 8259), and the response that tells it.
use Rattle.std.specs.Prelude.{ℕ, ◌++◌, nat_lt, if◌then◌else◌, List, length, codes, Option, Some}
use Rattle.std.specs.Prelude.{None}
use Rattle.std.specs.Fmt.{decimal}
use Rattle.text_parts.specs.Json.{json_string}
use Rattle.name_tree.specs.Faults.{most_bytes}
use Rattle.dtab_table.specs.TableCanon.{canon_table}
use Rattle.ns_store.specs.Contents.{Space}
use Rattle.api_wire.specs.Response.{ResponseValue, filled, plain}
use Rattle.api_wire.specs.declared.response.Media.TheVariants as media
use Rattle.follow_feed.specs.Feeds.{FeedValue}

-- the place and the run
abbrev pub numbers_text : ℕ → ℕ → List ℕ
numbers_text place run = codes "\"place\":" ++ decimal place ++ codes ",\"run\":" ++ decimal run

-- an object with its members in the order of their keys, where the namespace is there
abbrev pub full_text : ℕ → ℕ → ℕ → List ℕ → List ℕ
full_text run place version table =
    codes "{\"dtab\":" ++ json_string table ++ codes "," ++ numbers_text place run
    ++ codes ",\"version\":" ++ decimal version ++ codes "}"

-- and where it is not
abbrev pub bare_text : ℕ → ℕ → List ℕ
bare_text run place = codes "{" ++ numbers_text place run ++ codes "}"

-- a table whose text is longer than a reader takes is not told
abbrev pub table_response : ℕ → ℕ → ℕ → List ℕ → ResponseValue
table_response run place version table =
    if nat_lt most_bytes (length table) then plain 507 None (codes "long")
    else filled 200 None media.Json (full_text run place version table)

abbrev pub space_response : ℕ → ℕ → Option Space → ResponseValue
space_response run place None = filled 200 None media.Json (bare_text run place)
space_response run place (Some space) =
    table_response run place space.version (canon_table space.rules)

-- the response that tells a feed
abbrev pub feed_response : FeedValue → ResponseValue
feed_response f = space_response f.run f.place f.table
