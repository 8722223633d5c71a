-- The lines that tell what polls came to.
use Rattle.std.specs.Prelude.{ℕ, List, [], ◌∷◌, ◌++◌, codes, Option, Some, None}
use Rattle.std.specs.Fmt.{decimal}
use Rattle.text_parts.specs.Words.{spaced}
use Rattle.dtab_table.specs.TableCanon.{canon_table}
use Rattle.ns_store.specs.Contents.{Space}
use Rattle.follow_feed.specs.Feeds.{FeedValue}

-- a namespace: its version and its table, or that it is gone
abbrev pub space_words : Option Space → List ℕ
space_words None = codes " gone"
space_words (Some space) =
    codes " version " ++ decimal space.version ++ codes " dtab"
    ++ spaced (canon_table space.rules)

-- the line of a feed
abbrev pub feed_line : FeedValue → List ℕ
feed_line f =
    codes "run " ++ decimal f.run ++ codes " place " ++ decimal f.place
    ++ space_words f.table ++ 10 ∷ []

-- the line behind all polls: how many were made, how many gave a later feed than was held, and how
-- many gave none
abbrev pub total_line : ℕ → ℕ → ℕ → List ℕ
total_line polls newer lost =
    codes "polls " ++ decimal polls ++ codes " newer " ++ decimal newer ++ codes " lost "
    ++ decimal lost ++ 10 ∷ []
