use Rattle.std.proofs.Common.{◌≡◌, List, map, ap, sym, subst, ◌∙◌}
use Rattle.dtab_table.specs.declared.dtab.Dtab.{Dtab}
use Rattle.dtab_table.specs.declared.entry.Entry.{Entry}
use Rattle.dtab_table.specs.Dtab.{rules_of}
use Rattle.dtab_table.specs.Rules.{Rule, rule_of}
use Rattle.addr_book.proofs.Results.{ok_with}
use Rattle.dtab_check.specs.declared.hidden_list.Hidden.{Hidden}
use Rattle.dtab_check.specs.Hidden.{is_named, hidden_in, without}
use Rattle.dtab_check.specs.Laws.{MayReplace}
use Rattle.dtab_check.proofs.Searching.{kept_next, kept_end, kept_few}
use Rattle.dtab_check.proofs.Replacing.{may_replace}
use Rattle.dtab_check.proofs.taking_out.taken_out.Goals as goal

pub loop-at-preserved : goal.loop-at-preserved
loop-at-preserved c =
    let entries = c.in_ok-entries.entries.now in
    let list = c.args.list.now in
    let named : c.is_entry_of-is_hidden.result ≡ is_named list c.loop-at.at =
    c.is_entry_of-is_hidden.ensures ∙ ap (λ (hs : List Hidden). is_named hs c.loop-at.at)
    c.items.ensures in
    record {
      kept = kept_next list entries c.loop-at.at c.index-entries-at.result
          (map rule_of c.loop-at.kept.items) (map rule_of c.put_unless.new.kept.items)
          c.is_entry_of-is_hidden.result (without list (map rule_of entries))
          c.loop-at-test.true c.index-entries-at.is named c.in_ok-put_unless.ensures
          c.loop-at.invariant.kept;
      few = kept_few c.loop-at.kept.items c.put_unless.new.kept.items
          (rule_of c.index-entries-at.result) c.is_entry_of-is_hidden.result c.loop-at.at
          c.in_ok-put_unless.ensures c.loop-at.invariant.few;
    }

pub returns-clause-entries : goal.returns-clause-entries
returns-clause-entries c =
    let entries = c.in_ok-entries.entries.now in
    let rules : List Rule = rules_of c.args.dtab.now in
    let kept : map rule_of c.loop-at.kept.items ≡ without c.args.list.now (map rule_of entries) =
    kept_end c.args.list.now entries c.loop-at.at (map rule_of c.loop-at.kept.items)
    (without c.args.list.now (map rule_of entries)) c.loop-at-test.false c.loop-at.invariant.kept in
    let left : map rule_of c.of.result ≡ without c.args.list.now rules =
    ap (λ (es : List Entry). map rule_of es) c.of.ensures
    ∙ (kept ∙ ap (λ (rs : List Rule). without c.args.list.now rs) c.in_ok-entries.ensures.entries)
    in
    let P : Dtab → Type 0 = λ rest. rules_of rest ≡ map rule_of c.of.result in
    let Q : Dtab → Type 0 = λ rest. rules_of rest ≡ without c.args.list.now rules in
    ok_with P Q c.of-2.result c.of-2.ensures (λ rest is. is ∙ left)

pub returns-clause-same : goal.returns-clause-same
returns-clause-same c =
    let entries = c.in_ok-entries.entries.now in
    let rules : List Rule = rules_of c.args.dtab.now in
    let kept : map rule_of c.loop-at.kept.items ≡ without c.args.list.now (map rule_of entries) =
    kept_end c.args.list.now entries c.loop-at.at (map rule_of c.loop-at.kept.items)
    (without c.args.list.now (map rule_of entries)) c.loop-at-test.false c.loop-at.invariant.kept in
    let left : map rule_of c.of.result ≡ without (hidden_in rules) rules =
    ap (λ (es : List Entry). map rule_of es) c.of.ensures
    ∙ (kept ∙ (ap (λ (rs : List Rule). without c.args.list.now rs) c.in_ok-entries.ensures.entries
    ∙ ap (λ (hs : List Hidden). without hs rules) c.requires)) in
    let P : Dtab → Type 0 = λ rest. rules_of rest ≡ map rule_of c.of.result in
    let Q : Dtab → Type 0 = λ rest. MayReplace rules (rules_of rest) in
    ok_with P Q c.of-2.result c.of-2.ensures
    (λ rest is. subst (λ (rs : List Rule). MayReplace rules rs) (sym (is ∙ left))
    (may_replace rules))
