-- The lines of a text.
use Rattle.std.specs.Prelude.{◌≡◌, ◌≢◌, ℕ, ◌≤◌, ◌<◌, ◌-◌, ◌==◌, ◌&&◌, ◌⊎◌, Bool, false}
use Rattle.std.specs.Prelude.{if◌then◌else◌}
use Rattle.std.specs.Prelude.{List, [], ◌∷◌, ◌++◌, length, slice_index}

-- a byte at the front of the first line
abbrev pub joined : ℕ → List (List ℕ) → List (List ℕ)
joined b [] = (b ∷ []) ∷ []
joined b (l ∷ ls) = (b ∷ l) ∷ ls

abbrev pub begins_feed : List ℕ → Bool
begins_feed [] = false
begins_feed (b ∷ bs) = b == 10

-- the lines of a text, each to its line feed and without it. The last may lack it. A carriage
-- return right before a line feed is dropped
abbrev pub lines_of : List ℕ → List (List ℕ)
lines_of [] = []
lines_of (b ∷ bs) =
    if b == 10 then [] ∷ lines_of bs
    else (if b == 13 && begins_feed bs then lines_of bs else joined b (lines_of bs))

-- no line feed stands at a place of the text from one to before another
abbrev pub HasNoFeedIn : List ℕ → ℕ → ℕ → Type 0
HasNoFeedIn text from to = (k : ℕ) → from ≤ k → k < to → slice_index text k ≡ 10 → ⊥

-- where the line that follows the one at a place begins: right behind the first line feed from
-- there on, or at the text's end where there is none
abbrev pub IsNextLine : List ℕ → ℕ → ℕ → Type 0
IsNextLine text at next =
    ((next ≡ length text) × HasNoFeedIn text at next)
    ⊎ ((slice_index text (next - 1) ≡ 10) × HasNoFeedIn text at (next - 1))

-- a text without a line feed
pub data HasNoFeed : List ℕ → Type 0 where
  no_byte : HasNoFeed []
  no_feed : {b : ℕ} {s : List ℕ} → b ≢ 10 → HasNoFeed s → HasNoFeed (b ∷ s)

-- the last byte of a text, if there is one, is no carriage return
abbrev pub EndsPlain : List ℕ → Type 0
EndsPlain s = (front : List ℕ) → s ≡ front ++ 13 ∷ [] → ⊥

-- the lines of a text. Each ends with a line feed, or a carriage return and a line feed; the last
-- may end with the text, where it has a byte
pub data SpellsLines : List ℕ → List (List ℕ) → Type 0 where
  no_line : SpellsLines [] []
  last_line : {l : List ℕ} → HasNoFeed l → 1 ≤ length l → SpellsLines l (l ∷ [])
  line : {l t : List ℕ} {ls : List (List ℕ)} → HasNoFeed l → EndsPlain l → SpellsLines t ls
      → SpellsLines (l ++ 10 ∷ t) (l ∷ ls)
  returned_line : {l t : List ℕ} {ls : List (List ℕ)} → HasNoFeed l → SpellsLines t ls
      → SpellsLines (l ++ 13 ∷ 10 ∷ t) (l ∷ ls)
