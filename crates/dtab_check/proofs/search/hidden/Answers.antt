use Rattle.std.proofs.Common.{◌≡◌, List, length, map, ap, sym, subst, ◌∙◌}
use Rattle.std.proofs.lemmas.List.{length-map}
use Rattle.name_tree.specs.Tree.{value_of}
use Rattle.dtab_table.specs.Dtab.{rules_of}
use Rattle.dtab_table.specs.Rules.{Rule, rule_of}
use Rattle.dtab_check.specs.declared.hidden_list.Hidden.{Hidden}
use Rattle.dtab_check.specs.Hidden.{hidden_in, without}
use Rattle.dtab_check.specs.Laws.{MayReplace}
use Rattle.dtab_check.specs.Sure.{is_sure}
use Rattle.dtab_check.proofs.Searching.{hidden_next, hidden_end, map-trees}
use Rattle.dtab_check.proofs.Replacing.{may_replace}
use Rattle.dtab_check.proofs.search.hidden.Goals as goal

pub find_last_cover-by-requires-clause-same : goal.find_last_cover-by-requires-clause-same
find_last_cover-by-requires-clause-same c =
    let entries = c.in_ok-entries.entries.now in
    let rules : List Rule = map rule_of entries in
    ap length c.as_slice.ensures.value
    ∙ (ap length c.in_ok-sure.ensures
    ∙ (length-map rules (λ (r : Rule). is_sure rules r.tree) ∙ length-map entries rule_of))

pub loop-at-preserved : goal.loop-at-preserved
loop-at-preserved c =
    let entries = c.in_ok-entries.entries.now in
    let rules : List Rule = map rule_of entries in
    let are : c.as_slice.result.now ≡ map (λ e. is_sure rules (value_of e.tree)) entries =
    c.as_slice.ensures.value ∙ (c.in_ok-sure.ensures ∙ map-trees (is_sure rules) entries) in
    hidden_next (is_sure rules) entries c.loop-at.at c.index-entries-at.result
    c.loop-at.items.items c.put_hidden.new.items.items c.find_last_cover-by.result
    (hidden_in rules) c.loop-at-test.true c.index-entries-at.is
    (c.find_last_cover-by.ensures.cover (is_sure rules) are) c.in_ok-put_hidden.ensures
    c.loop-at.invariant

pub returns-clause-entries : goal.returns-clause-entries
returns-clause-entries c =
    let entries = c.in_ok-entries.entries.now in
    c.of.ensures ∙ (hidden_end (is_sure (map rule_of entries)) entries c.loop-at.at
    c.loop-at.items.items (hidden_in (map rule_of entries)) c.loop-at-test.false
    c.loop-at.invariant ∙ ap hidden_in c.in_ok-entries.ensures.entries)

pub returns-clause-never_asked : goal.returns-clause-never_asked
returns-clause-never_asked c =
    let entries = c.in_ok-entries.entries.now in
    let rules : List Rule = rules_of c.args.dtab.now in
    let list : c.of.result ≡ hidden_in rules =
    c.of.ensures ∙ (hidden_end (is_sure (map rule_of entries)) entries c.loop-at.at
    c.loop-at.items.items (hidden_in (map rule_of entries)) c.loop-at-test.false
    c.loop-at.invariant ∙ ap hidden_in c.in_ok-entries.ensures.entries) in
    subst (λ (hs : List Hidden). MayReplace rules (without hs rules)) (sym list) (may_replace rules)
