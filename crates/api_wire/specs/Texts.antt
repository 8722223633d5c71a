-- The bodies of responses.
use Rattle.std.specs.Prelude.{ℕ, ◌==◌, if◌then◌else◌, List, [], ◌∷◌, ◌++◌, codes}
use Rattle.std.specs.Fmt.{decimal}
use Rattle.std.specs.List.{flat_map}
use Rattle.text_parts.specs.Json.{json_string}
use Rattle.name_tree.specs.Canon.{canon, canon_weight}
use Rattle.name_tree.specs.Value.{one_whole}
use Rattle.dtab_table.specs.Rules.{Rule}
use Rattle.dtab_table.specs.TableCanon.{canon_prefix}
use Rattle.addr_book.specs.declared.addr.Weighted.{Weighted}
use Rattle.addr_book.specs.Addr.{ip_text}

-- a rule as a JSON object
unfoldable pub rule_text : Rule → List ℕ
rule_text r =
    codes "{\"dst\":" ++ json_string (canon r.tree) ++ codes ",\"prefix\":"
    ++ json_string (canon_prefix r.prefix) ++ codes "}"

abbrev pub more_rules : List Rule → List ℕ
more_rules rules = flat_map (λ r. 44 ∷ rule_text r) rules

abbrev pub rules_text : List Rule → List ℕ
rules_text [] = []
rules_text (r ∷ rs) = rule_text r ++ more_rules rs

-- a table as JSON: an array of its rules, in order
abbrev pub table_text : List Rule → List ℕ
table_text rules = codes "[" ++ rules_text rules ++ codes "]"

abbrev pub more_names : List (List ℕ) → List ℕ
more_names names = flat_map (λ name. 44 ∷ json_string name) names

abbrev pub listed_names : List (List ℕ) → List ℕ
listed_names [] = []
listed_names (name ∷ names) = json_string name ++ more_names names

-- names as a JSON array
abbrev pub names_text : List (List ℕ) → List ℕ
names_text names = codes "[" ++ listed_names names ++ codes "]"

-- a weight in an address file, left out where it is one
abbrev pub weight_part : ℕ → List ℕ
weight_part weight = if weight == one_whole then [] else codes " * " ++ canon_weight weight

-- a line of an address file
unfoldable pub addr_line : Weighted → List ℕ
addr_line item =
    ip_text item.addr.ip ++ codes " " ++ decimal item.addr.port ++ weight_part item.weight ++ 10
    ∷ []

-- addresses as the lines of an address file
abbrev pub addrs_text : List Weighted → List ℕ
addrs_text items = flat_map addr_line items

-- how much there is of each thing, as a JSON object
abbrev pub counts_text : ℕ → ℕ → ℕ → ℕ → List ℕ
counts_text changes marks spaces services =
    codes "{\"changes\":" ++ decimal changes ++ codes ",\"marks\":" ++ decimal marks
    ++ codes ",\"namespaces\":" ++ decimal spaces ++ codes ",\"services\":" ++ decimal services
    ++ codes "}"
