use Rattle.std.proofs.Common.{◌≡◌, ◌++◌, [], ◌∷◌, Bor, List, Bool, Vec, Global, map, ap, ◌∙◌}
use Rattle.std.proofs.lemmas.List.{map-append}
use Rattle.name_tree.specs.declared.path.Path.{Path}
use Rattle.name_tree.specs.Path.{Labels}
use Rattle.name_tree.specs.Tree.{value_of}
use Rattle.dtab_table.specs.Rules.{Rule, rule_of}
use Rattle.dtab_check.specs.Live.{leaves_in, paths_of, reached_by}
use Rattle.dtab_check.proofs.sure.put_links.Goals as goal

pub returns-clause-own : goal.returns-clause-own
returns-clause-own c = c.in_ok-push.ensures.items
    ∙ ap (λ (stops : Bool). c.args.own.now.items ++ stops ∷ []) c.in_ok-live.ensures.stops

pub returns-clause-rows : goal.returns-clause-rows
returns-clause-rows c =
    let rules : List Rule = map rule_of c.args.indexed.now.entries.now in
    let items : Vec Bool Global → List Bool = λ row. row.items in
    let row : c.in-Ok.row.items ≡ reached_by (leaves_in (value_of c.args.tree.now)) rules =
    c.in-Ok.ensures
    ∙ (ap (λ (ls : List (Bor Path)). reached_by (paths_of ls) rules) c.as_slice.ensures.value
    ∙ ap (λ (ls : List Labels). reached_by ls rules) c.in_ok-live.ensures.leaves) in
    ap (map items) c.in_ok-push-2.ensures.items
    ∙ (map-append items c.args.rows.now.items (c.in-Ok.row ∷ [])
    ∙ ap (λ (reached : List Bool). map items c.args.rows.now.items ++ reached ∷ []) row)
