-- What the query of a view asks for.
use Rattle.std.specs.Prelude.{ℕ, if◌then◌else◌, List, [], ◌∷◌, codes, Option, Some, None}
use Rattle.std.specs.Option.{option_and_then}
use Rattle.std.specs.Str.{bytes_eq}
use Rattle.std.specs.Str.Lossy.{utf8_lossy}
use Rattle.form_urlencoded.specs.Form.{decode, raw_pairs}
use Rattle.name_tree.specs.Path.{Labels}
use Rattle.name_tree.specs.Computed.{path_of}
use Rattle.dtab_table.specs.Rules.{Rule}
use Rattle.dtab_table.specs.Computed.{table_of}

-- the text that an encoded name or value stands for: what is no UTF-8 is replaced
abbrev pub form_text : List ℕ → List ℕ
form_text encoded = utf8_lossy (decode encoded)

-- the text of the first value that a form has for a name
abbrev pub first_value : List ℕ → List (List ℕ × List ℕ) → Option (List ℕ)
first_value name [] = None
first_value name (pair ∷ pairs) =
    if bytes_eq (form_text pair.0) name then Some (form_text pair.1) else first_value name pairs

-- the table of a text, and the empty one where there is no text
abbrev pub table_or_none : Option (List ℕ) → Option (List Rule)
table_or_none None = Some []
table_or_none (Some text) = table_of text

-- a path with a table, where both are there
abbrev pub with_table : Option Labels → Option (List Rule) → Option (Labels × List Rule)
with_table (Some path) (Some rules) = Some (path, rules)
with_table _ _ = None

-- a query asks for the path of its first `path`, with the table of its first `dtab`
abbrev pub view_asked : List ℕ → Option (Labels × List Rule)
view_asked query =
    let pairs = raw_pairs query in
    with_table (option_and_then path_of (first_value (codes "path") pairs))
    (table_or_none (first_value (codes "dtab") pairs))
