-- Texts as JSON strings (RFC 8259 section 7).
use Rattle.std.specs.Prelude.{ℕ, ◌==◌, if◌then◌else◌, List, [], ◌∷◌, ◌++◌, codes}
use Rattle.std.specs.List.{flat_map}

-- A byte of a text in a JSON string. The texts here are names and canonical ones, which have
-- visible ASCII bytes and spaces, and no quotation mark: of these JSON escapes the backslash alone,
-- by another
abbrev pub json_byte : ℕ → List ℕ
json_byte b = if b == 92 then 92 ∷ 92 ∷ [] else b ∷ []

-- a text as a JSON string
abbrev pub json_string : List ℕ → List ℕ
json_string text = codes "\"" ++ flat_map json_byte text ++ codes "\""
