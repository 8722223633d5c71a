-- Tables from the trees of JSON.
use Rattle.std.proofs.Common.{◌≡◌, List, map, Option, Some, None, Result, sym, ap, ◌∙◌, subst}
use Rattle.std.specs.Prelude.{MatchResult, option_and_then}
use Rattle.serde_json.specs.Data.{Data, Items}
use Rattle.serde_json.specs.Find.{as_array}
use Rattle.serde_json.specs.View.{items_view, view}
use Rattle.serde_json.specs.declared.value.Value.{Value}
use Rattle.dtab_table.specs.declared.dtab.Dtab.{Dtab}
use Rattle.dtab_table.specs.Dtab.{rules_of}
use Rattle.dtab_table.specs.Rules.{Rule}
use Rattle.ns_api.specs.declared.json_table.TableFault.{TableFault}
use Rattle.ns_api.specs.declared.json_table.TableFault.TheVariants.{NoTable}
use Rattle.ns_api.specs.JsonTable.{few_rules, json_rules, list_of}
use Rattle.ns_api.proofs.Values.{list_of-items}

pub rows_of : (d : Data) (vs : List Value) → Some (items_view vs) ≡ as_array d
    → json_rules d ≡ few_rules (map view vs)
unfolding json_rules
rows_of d vs is =
    ap (λ (o : Option Items). option_and_then (λ items. few_rules (list_of items)) o) (sym is)
    ∙ ap few_rules (list_of-items (map view vs))

pub no_rows : (d : Data) → None ≡ as_array d → json_rules d ≡ None
unfolding json_rules
no_rows d is =
    ap (λ (o : Option Items). option_and_then (λ items. few_rules (list_of items)) o) (sym is)

-- what is read of a part is what is read of the whole
pub table_by : (whole part : Option (List Rule)) (read : Result Dtab TableFault) → whole ≡ part
    → MatchResult read (λ d. part ≡ Some (rules_of d)) (λ f. f ≡ NoTable → part ≡ None)
    → MatchResult read (λ d. whole ≡ Some (rules_of d)) (λ f. f ≡ NoTable → whole ≡ None)
table_by whole part read same h =
    let P : Option (List Rule)
    → Type 0 = λ o. MatchResult read (λ d. o ≡ Some (rules_of d)) (λ f. f ≡ NoTable → o ≡ None)
    in subst P (sym same) h
