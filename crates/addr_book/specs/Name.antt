-- Names of services.
use Rattle.std.specs.Prelude.{ℕ, ◌≤◌, nat_le, Bool, ◌&&◌, ◌||◌, ◌==◌, if◌then◌else◌, List, length}
use Rattle.std.specs.Prelude.{IsTrue, All, Option, Some, None}
use Rattle.std.specs.Char.{is_ascii_alphanumeric}
use Rattle.std.specs.List.{list_all}

-- a letter, a digit, or one of `_ : . -`
abbrev pub is_name_byte : ℕ → Bool
is_name_byte b = is_ascii_alphanumeric b || b == 95 || b == 58 || b == 46 || b == 45

-- 1 to 255 bytes of these
pub record IsName (text : List ℕ) : Type 0 where
  pub some : 1 ≤ length text
  pub few : length text ≤ 255
  pub bytes : All (λ b. IsTrue (is_name_byte b)) text

-- the name that a text is
abbrev pub name_of : List ℕ → Option (List ℕ)
name_of text =
    if (nat_le 1 (length text) && nat_le (length text) 255) && list_all is_name_byte text
    then Some text else None
