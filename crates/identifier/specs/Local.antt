-- The table that a request brings along.
use Rattle.std.specs.Prelude.{◌≡◌, ⊤, ℕ, List, [], ◌∷◌, ◌++◌, map, codes, Option, Some, None}
use Rattle.std.specs.Prelude.{option_map, Result, Ok, Err}
use Rattle.std.specs.Option.{option_and_then}
use Rattle.http_wire.specs.declared.head.Field.{Field}
use Rattle.http_wire.specs.Fields.{values_of}
use Rattle.dtab_table.specs.declared.dtab.Dtab.{Dtab}
use Rattle.dtab_table.specs.declared.entry.Entry.{Entry}
use Rattle.dtab_table.specs.Dtab.{rules_of}
use Rattle.dtab_table.specs.Rules.{Rule, rule_of}
use Rattle.dtab_table.specs.Computed.{few_enough, table_of}
use Rattle.identifier.specs.declared.fault.LocalFault.{LocalFault}
use Rattle.identifier.specs.declared.fault.LocalFault.TheVariants.{BadDtab, OutOfMemory}

-- the texts of a request's table, in order: those that another router passed on come before the
-- client's own
abbrev pub local_texts : List Field → List (List ℕ)
local_texts fields = values_of (codes "l5d-ctx-dtab") fields ++ values_of (codes "l5d-dtab") fields

-- the rules of all the texts, in order; nothing where one is no table's
abbrev pub joined_rules : List (List ℕ) → Option (List Rule)
joined_rules [] = Some []
joined_rules (text ∷ texts) =
    option_and_then (λ rules. option_map (λ more. rules ++ more) (joined_rules texts))
    (table_of text)

-- the rules of a request's table, if they are not too many together
abbrev pub local_rules : List Field → Option (List Rule)
local_rules fields = option_and_then few_enough (joined_rules (local_texts fields))

-- an answer that gives a table of these rules, or that there is none
abbrev pub Gives : Option (List Rule) → Result Dtab LocalFault → Type 0
Gives rules (Ok dtab) = rules ≡ Some (rules_of dtab)
Gives rules (Err BadDtab) = rules ≡ None
Gives rules (Err OutOfMemory) = ⊤

-- an answer that puts entries with these rules behind others, or that there are none
abbrev pub Adds : List Entry → List Entry → Option (List Rule) → Result (Unit {0}) LocalFault
    → Type 0
Adds old new rules (Ok done) =
    option_map (λ more. map rule_of old ++ more) rules ≡ Some (map rule_of new)
Adds old new rules (Err BadDtab) = rules ≡ None
Adds old new rules (Err OutOfMemory) = ⊤
