-- That lines and numbers are read as they are written.
use Rattle.std.specs.Prelude.{◌≡◌, ◌↔◌, ℕ, ◌<◌, ◌^◌, List, Some}
use Rattle.std.specs.Fmt.{decimal}
use Rattle.text_parts.specs.Lines.{lines_of, SpellsLines}
use Rattle.text_parts.specs.Numbers.{number_of}

-- the lines that are computed are those of the text, and no others
abbrev pub ComputesLines : Type 0
ComputesLines = (text : List ℕ) (ls : List (List ℕ)) → (lines_of text ≡ ls) ↔ SpellsLines text ls

-- a text is read as a number exactly where it is the one that is written for it
abbrev pub ReadsNumbers : Type 0
ReadsNumbers =
    (text : List ℕ) (n : ℕ)
    → (number_of text ≡ Some n) ↔ ((n < 2 ^ 64) × (text ≡ decimal n))
