-- Where a text leaves its grammar, and what a reader answers.
use Rattle.std.specs.Prelude.{◌≡◌, ℕ, ◌+◌, ◌-◌, ◌<◌, ◌≤◌, ◌==◌, if◌then◌else◌, List, [], ◌∷◌, ◌++◌}
use Rattle.std.specs.Prelude.{length, take, slice_get, Some}

-- the most bytes of a text
abbrev pub most_bytes : ℕ
most_bytes = 65536

-- the most parentheses that are open at a place
abbrev pub most_open : ℕ
most_open = 64

-- how many parentheses are open behind a byte, where so many are open before it
abbrev pub open_after : ℕ → ℕ → ℕ
open_after n b = if b == 40 then n + 1 else (if b == 41 then n - 1 else n)

-- how many parentheses are open behind some bytes
abbrev pub open_behind : ℕ → List ℕ → ℕ
open_behind n [] = n
open_behind n (b ∷ bs) = open_behind (open_after n b) bs

-- a `(` stands here inside the most parentheses that may be open
abbrev pub IsTooDeep : List ℕ → ℕ → Type 0
IsTooDeep text at = (slice_get text at ≡ Some 40) × (most_open ≤ open_behind 0 (take at text))

-- the text is too long
pub record IsTooLong (text : List ℕ) (limit : ℕ) : Type 0 where
  pub same : limit ≡ most_bytes
  pub long : most_bytes < length text

-- a grammar says which texts stand for which values
module _ {V : Type 0} (Text : List ℕ → V → Type 0) where
  -- some text of the grammar begins with these bytes
  abbrev pub BeginsText : List ℕ → Type 0
  BeginsText bytes = (more : List ℕ) × (v : V) × Text (bytes ++ more) v

  -- the longest front of the text that begins some text of the grammar has so many bytes
  pub record IsFront (text : List ℕ) (at : ℕ) : Type 0 where
    pub within : at ≤ length text
    pub begins : BeginsText (take at text)
    pub longest : (n : ℕ) → n ≤ length text → BeginsText (take n text) → n ≤ at

  -- the text is the value's, and keeps the limits
  pub record IsValue (text : List ℕ) (v : V) : Type 0 where
    pub short : length text ≤ most_bytes
    pub flat : (at : ℕ) → IsTooDeep text at → ⊥
    pub stands : Text text v

  -- the first parenthesis that is too deep stands here, in the longest front
  pub record IsTooNested (text : List ℕ) (at : ℕ) : Type 0 where
    pub short : length text ≤ most_bytes
    pub deep : IsTooDeep text at
    pub first : (k : ℕ) → k < at → IsTooDeep text k → ⊥
    pub front : ℕ
    pub is_front : IsFront text front
    pub inside : at < front

  -- the text leaves the grammar here, and no parenthesis before is too deep
  pub record IsSyntax (text : List ℕ) (at : ℕ) : Type 0 where
    pub short : length text ≤ most_bytes
    pub flat : (k : ℕ) → k < at → IsTooDeep text k → ⊥
    pub is_front : IsFront text at
    pub refused : (v : V) → Text text v → ⊥
