-- The lines of a head that is written (RFC 9112 section 2.1).
use Rattle.std.specs.Prelude.{ℕ, List, [], ◌∷◌, ◌++◌, codes}
use Rattle.httparse.specs.Ascii.{crlf_bytes}
use Rattle.http_wire.specs.declared.head.Field.{Field}

-- each line with its CR LF
abbrev pub ended : List (List ℕ) → List ℕ
ended [] = []
ended (line ∷ lines) = line ++ crlf_bytes ++ ended lines

-- the line of a field (RFC 9112 section 5)
abbrev pub line_of : List ℕ → List ℕ → List ℕ
line_of name value = name ++ codes ": " ++ value

abbrev pub field_line : Field → List ℕ
field_line field = line_of field.name field.value
