-- Tables that are written as JSON: an array of objects, each with the texts of a tree and a prefix.
use Rattle.std.specs.Prelude.{ℕ, ◌+◌, ◌==◌, ◌&&◌, Bool, nat_le, if◌then◌else◌, List, [], ◌∷◌}
use Rattle.std.specs.Prelude.{length, sum_by, codes, Option, Some, None}
use Rattle.std.specs.Option.{option_and_then}
use Rattle.serde_json.specs.Data.{Data, Items, no_items, item}
use Rattle.serde_json.specs.Find.{as_array}
use Rattle.name_tree.specs.Value.{TreeValue}
use Rattle.name_tree.specs.Computed.{tree_of}
use Rattle.name_tree.specs.Faults.{most_bytes}
use Rattle.name_tree.specs.Recogniser.{value_from}
use Rattle.http_wire.specs.declared.head.Field.{Field}
use Rattle.dtab_table.specs.Answers.{most_entries}
use Rattle.dtab_table.specs.Computed.{table_of}
use Rattle.dtab_table.specs.Pattern.{Pattern}
use Rattle.dtab_table.specs.PrefixReading.{before, next_prefix, end_prefix}
use Rattle.dtab_table.specs.Rules.{Rule}
use Rattle.api_wire.specs.Json.{json_of, members_in, text_at}
use Rattle.api_wire.specs.Request.{is_json}

-- the prefix that a text stands for
unfoldable pub prefix_of : List ℕ → Option (List Pattern)
prefix_of text = value_from next_prefix end_prefix before text

-- an object with two members
abbrev pub is_pair : Data → Bool
is_pair d = members_in d == 2

-- the rule of a tree and a prefix, where both are there
abbrev pub rule_from : Option TreeValue → Option (List Pattern) → Option Rule
rule_from (Some tree) (Some prefix) = Some (record { prefix = prefix; tree = tree })
rule_from _ _ = None

-- the rule of two texts
abbrev pub rule_in : Option (List ℕ) → Option (List ℕ) → Option Rule
rule_in (Some dst) (Some prefix) = rule_from (tree_of dst) (prefix_of prefix)
rule_in _ _ = None

-- the rule of an object with just the members `dst` and `prefix`
abbrev pub row_rule : Data → Option Rule
row_rule d =
    if is_pair d then rule_in (text_at (codes "dst") d) (text_at (codes "prefix") d) else None

abbrev pub text_size : Option (List ℕ) → ℕ
text_size None = 0
text_size (Some text) = length text

-- how many bytes the texts of an object have, without the escapes of JSON
abbrev pub row_size : Data → ℕ
row_size d = text_size (text_at (codes "dst") d) + text_size (text_at (codes "prefix") d)

abbrev pub list_of : Items → List Data
list_of no_items = []
list_of (item d ds) = d ∷ list_of ds

abbrev pub first_rule : Option Rule → Option (List Rule) → Option (List Rule)
first_rule (Some r) (Some rs) = Some (r ∷ rs)
first_rule _ _ = None

-- the rules of all objects, in order
abbrev pub row_rules : List Data → Option (List Rule)
row_rules [] = Some []
row_rules (d ∷ ds) = first_rule (row_rule d) (row_rules ds)

-- at most 1,024 objects, whose texts have at most 65,536 bytes together
abbrev pub are_few : List Data → Bool
are_few ds = nat_le (length ds) most_entries && nat_le (sum_by row_size ds) most_bytes

abbrev pub few_rules : List Data → Option (List Rule)
few_rules ds = if are_few ds then row_rules ds else None

-- the rules of a table as JSON
unfoldable pub json_rules : Data → Option (List Rule)
json_rules d = option_and_then (λ items. few_rules (list_of items)) (as_array d)

-- the rules that a body stands for: as JSON where the head says that it is, and else as the text of
-- a table
unfoldable pub body_rules : List Field → List ℕ → Option (List Rule)
body_rules fields body =
    if is_json fields then option_and_then json_rules (json_of body) else table_of body
