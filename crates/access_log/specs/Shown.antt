-- Texts in quotation marks.
use Rattle.std.specs.Prelude.{ℕ, ◌/◌, ◌%◌, Bool, not, ◌&&◌, ◌==◌, nat_le, if◌then◌else◌, List, []}
use Rattle.std.specs.Prelude.{◌∷◌}
use Rattle.std.specs.List.{flat_map}
use Rattle.name_tree.specs.Path.{hex_digit}

-- printable ASCII, without the quotation mark and the backslash
abbrev pub is_plain : ℕ → Bool
is_plain b = nat_le 32 b && (nat_le b 126 && (not (b == 34) && not (b == 92)))

-- any other byte is `\x` and two hexadecimal digits
abbrev pub shown_byte : ℕ → List ℕ
shown_byte b =
    if is_plain b then b ∷ [] else 92 ∷ 120 ∷ hex_digit (b / 16) ∷ hex_digit (b % 16) ∷ []

abbrev pub shown : List ℕ → List ℕ
shown text = flat_map shown_byte text
