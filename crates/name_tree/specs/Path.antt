-- Paths as values, and their canonical texts.
use Rattle.std.specs.Prelude.{ℕ, ◌+◌, ◌<◌, ◌/◌, ◌%◌, Bool, ◌||◌, ◌==◌, nat_lt, if◌then◌else◌, List}
use Rattle.std.specs.Prelude.{[], ◌∷◌, length}
use Rattle.std.specs.List.{flat_map}
use Rattle.std.specs.Char.{is_ascii_alphanumeric}

-- a label is a list of one or more bytes
abbrev pub Label : Type 0
Label = List ℕ

abbrev pub Labels : Type 0
Labels = List Label

-- each label has a byte
abbrev pub AreLabels : Labels → Type 0
AreLabels [] = Unit {0}
AreLabels (l ∷ ls) = (0 < length l) × AreLabels ls

-- `/`
abbrev pub slash : ℕ
slash = 47

-- a byte that stands for itself in a text: a letter, a digit, or one of `_ : . # $ % -`
unfoldable pub is_plain : ℕ → Bool
is_plain b =
    is_ascii_alphanumeric b || b == 95 || b == 58 || b == 46 || b == 35 || b == 36 || b == 37
    || b == 45

-- a hexadecimal digit in lower case
abbrev pub hex_digit : ℕ → ℕ
hex_digit n = if nat_lt n 10 then 48 + n else 87 + n

-- a byte in a canonical text: itself where it is plain, else `\x` and two digits
abbrev pub canon_byte : ℕ → List ℕ
canon_byte b =
    if is_plain b then b ∷ [] else 92 ∷ 120 ∷ hex_digit (b / 16) ∷ hex_digit (b % 16) ∷ []

-- a label in a canonical text
abbrev pub canon_label : Label → List ℕ
canon_label l = slash ∷ flat_map canon_byte l

-- the canonical text of a path: `/`, or `/` and a label, one or more times
abbrev pub canon_path : Labels → List ℕ
canon_path [] = slash ∷ []
canon_path (l ∷ ls) = flat_map canon_label (l ∷ ls)
