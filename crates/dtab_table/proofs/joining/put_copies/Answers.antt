use Rattle.std.proofs.Common.{◌∙◌, ◌++◌, List, map, ap, sym}
use Rattle.std.proofs.lemmas.List.{append-nil, take_all}
use Rattle.dtab_table.specs.declared.entry.Entry.{Entry}
use Rattle.dtab_table.specs.Rules.{rule_of}
use Rattle.dtab_table.proofs.Matches.{copied_more}
use Rattle.dtab_table.proofs.joining.put_copies.Goals as goal

pub loop-entry-init : goal.loop-entry-init
loop-entry-init c = sym (append-nil (map rule_of c.args.out.now.items))

pub loop-entry-preserved : goal.loop-entry-preserved
loop-entry-preserved c =
    copied_more c.loop-entry.out.items c.push.new.self.items c.args.out.now.items
    c.args.entries.now c.loop-entry.entry-index c.entry-item.result c.in_ok-copied.field-0
    c.loop-entry-test.true c.entry-item.is
    c.in_ok-copied.ensures c.in_ok-push.ensures.items c.loop-entry.invariant

pub returns : goal.returns
returns c = c.loop-entry.invariant ∙ ap
    (λ (es : List Entry). map rule_of c.args.out.now.items ++ map rule_of es)
    (take_all c.loop-entry.entry-index c.args.entries.now c.loop-entry-test.false)
