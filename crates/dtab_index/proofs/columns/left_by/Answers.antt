use Rattle.std.proofs.Common.{◌+◌, sym, ◌∙◌}
use Rattle.std.proofs.lemmas.Bool.{OnTrue_at}
use Rattle.dtab_index.specs.Bits.{has}
use Rattle.dtab_index.proofs.Known.{narrowed, none_left}
use Rattle.dtab_index.proofs.columns.left_by.Goals as goal

pub loop-at-preserved : goal.loop-at-preserved
loop-at-preserved c = λ place past few.
    narrowed place c.args.columns.now c.args.path.now c.loop-at.at c.index-columns-at.result
    c.label.result.now (has c.loop-at.left.words place)
    (has c.narrow.new.left.words place) c.loop-at-test.true
    c.index-columns-at.is c.label.ensures (c.loop-at.invariant place past few)
    (c.narrow.ensures.left place past few)

pub returns-then-narrow : goal.returns-then-narrow
returns-then-narrow c = λ place past few.
    let stands = narrowed place c.args.columns.now c.args.path.now c.loop-at.at
    c.index-columns-at.result c.label.result.now (has c.loop-at.left.words place)
    (has c.narrow.new.left.words place) c.loop-at-test.true
    c.index-columns-at.is c.label.ensures (c.loop-at.invariant place past few)
    (c.narrow.ensures.left place past few) in
    let none = OnTrue_at c.if-narrow.true c.narrow.ensures.none place past few in
    sym (none_left place c.args.columns.now c.args.path.now (c.loop-at.at + 1)
    (has c.narrow.new.left.words place) none stands) ∙ none
