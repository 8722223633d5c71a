use Rattle.std.proofs.Common.{◌∙◌, ap, List, Some}
use Rattle.serde_json.specs.View.{items_view, view}
use Rattle.serde_json.specs.declared.value.Value.{Value}
use Rattle.ns_api.proofs.Trees.{no_rows, rows_of, table_by}
use Rattle.ns_api.proofs.json_table.table_of_tree.Goals as goal

pub returns-in-Some : goal.returns-in-Some
returns-in-Some c =
    table_by _ _ _ (rows_of (view c.args.tree.now) c.as_slice.result.now
    (ap (λ (vs : List Value). Some (items_view vs)) c.as_slice.ensures.value ∙ c.in-Some.ensures))
    c.table_of_rows.ensures

pub returns-in-None : goal.returns-in-None
returns-in-None c = λ _. no_rows (view c.args.tree.now) c.in-None.ensures
