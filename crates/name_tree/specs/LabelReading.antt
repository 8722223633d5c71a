-- A label read byte by byte.
use Rattle.std.specs.Prelude.{ℕ, ◌+◌, ◌*◌, Bool, ◌||◌, ◌==◌, if◌then◌else◌, [], ◌∷◌, ◌++◌, Option}
use Rattle.std.specs.Prelude.{Some, None, option_map}
use Rattle.name_tree.specs.Path.{Label, is_plain}
use Rattle.name_tree.specs.Grammar.{hex_value}

-- how far a label is read
pub data Spelling : Type 0 where
  -- behind these bytes of it, none included
  bytes : Label → Spelling
  -- behind these and a `\`
  escape : Label → Spelling
  -- behind these and `\x`
  hex : Label → Spelling
  -- behind these, `\x` and a digit that stands for the number
  digit : Label → ℕ → Spelling

-- what is read behind the next byte, if some label goes on with it
abbrev pub next_spelling : Spelling → ℕ → Option Spelling
next_spelling (bytes l) b =
    if is_plain b then Some (bytes (l ++ b ∷ [])) else (if b == 92 then Some (escape l) else None)
next_spelling (escape l) b = if b == 120 then Some (hex l) else None
next_spelling (hex l) b = option_map (λ m. digit l m) (hex_value b)
next_spelling (digit l m) b = option_map (λ n. bytes (l ++ (16 * m + n) ∷ [])) (hex_value b)

-- one byte at least
abbrev pub whole_label : Label → Option Label
whole_label [] = None
whole_label (b ∷ bs) = Some (b ∷ bs)

-- the label that may end here
abbrev pub end_spelling : Spelling → Option Label
end_spelling (bytes l) = whole_label l
end_spelling (escape l) = None
end_spelling (hex l) = None
end_spelling (digit l m) = None

-- a byte that stands in paths and weights alone
abbrev pub is_path_byte : ℕ → Bool
is_path_byte b = is_plain b || b == 47 || b == 92
