-- The words of a line: the pieces between its gaps, and those around a byte.
use Rattle.std.specs.Prelude.{ℕ, Bool, true, false, ◌||◌, ◌==◌, if◌then◌else◌, List, [], ◌∷◌}
use Rattle.std.specs.Prelude.{IsTrue, Option, Some, None}

-- a space or a tab
abbrev pub is_gap : ℕ → Bool
is_gap b = b == 32 || b == 9

-- any number of spaces and tabs, none included
pub data AreGaps : List ℕ → Type 0 where
  no_gap : AreGaps []
  gap : {b : ℕ} {s : List ℕ} → IsTrue (is_gap b) → AreGaps s → AreGaps (b ∷ s)

abbrev pub drop_gaps : List ℕ → List ℕ
drop_gaps [] = []
drop_gaps (b ∷ bs) = if is_gap b then drop_gaps bs else b ∷ bs

-- the bytes to the first gap, and those from there on
abbrev pub word_of : List ℕ → List ℕ
word_of [] = []
word_of (b ∷ bs) = if is_gap b then [] else b ∷ word_of bs

abbrev pub behind_word : List ℕ → List ℕ
behind_word [] = []
behind_word (b ∷ bs) = if is_gap b then b ∷ bs else behind_word bs

abbrev pub is_empty : List ℕ → Bool
is_empty [] = true
is_empty (b ∷ bs) = false

-- the one word of a text, between gaps; None where there are more. The text of gaps alone has the
-- empty word
abbrev pub single_word : List ℕ → Option (List ℕ)
single_word text =
    let words = drop_gaps text in
    if is_empty (drop_gaps (behind_word words)) then Some (word_of words) else None

-- the bytes before the first byte of this value, and those behind it, if there is one
abbrev pub before_byte : ℕ → List ℕ → List ℕ
before_byte mark [] = []
before_byte mark (b ∷ bs) = if b == mark then [] else b ∷ before_byte mark bs

abbrev pub behind_byte : ℕ → List ℕ → Option (List ℕ)
behind_byte mark [] = None
behind_byte mark (b ∷ bs) = if b == mark then Some bs else behind_byte mark bs

-- a space and a text, unless that is empty
abbrev pub spaced : List ℕ → List ℕ
spaced [] = []
spaced (b ∷ text) = 32 ∷ b ∷ text
