-- The fields of a head, looked up by name (RFC 9110 section 5).
use Rattle.std.specs.Prelude.{ℕ, Bool, List, map, filter, bytes_eq, codes, slice_get, ◌==◌, Option}
use Rattle.std.specs.List.{list_any, slice_split}
use Rattle.std.specs.Char.{to_ascii_lowercase}
use Rattle.httparse.specs.Ascii.{comma}
use Rattle.httparse.specs.Grammar.{trim_ows}
use Rattle.http_wire.specs.declared.head.Field.{Field}

-- the bytes with each ASCII letter in lower case
abbrev pub lower : List ℕ → List ℕ
lower bytes = map to_ascii_lowercase bytes

-- field names are compared without case (RFC 9110 section 5.1), and so are some values
unfoldable pub same_ignoring_case : List ℕ → List ℕ → Bool
same_ignoring_case a b = bytes_eq (lower a) (lower b)

-- the field has this name
abbrev pub is_named : List ℕ → Field → Bool
is_named name field = same_ignoring_case field.name name

-- the values of the fields of this name, in order (RFC 9110 section 5.3)
unfoldable pub values_of : List ℕ → List Field → List (List ℕ)
values_of name fields = map (λ (field : Field). field.value) (filter (is_named name) fields)

-- the value of the first field of this name
abbrev pub first_value : List ℕ → List Field → Option (List ℕ)
first_value name fields = slice_get (values_of name fields) 0

-- `close` stands between the commas of a value, in any case and with blanks around it
abbrev pub says_close : List ℕ → Bool
says_close value =
    list_any (λ piece. same_ignoring_case (trim_ows piece) (codes "close"))
    (slice_split (λ b. b == comma) value)

-- a Connection field names `close` (RFC 9112 section 9.6)
abbrev pub names_close : List Field → Bool
names_close fields =
    list_any (λ (f : Field). says_close f.value) (filter (is_named (codes "connection")) fields)
