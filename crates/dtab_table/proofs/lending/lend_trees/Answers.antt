use Rattle.std.proofs.Common.{[], length, get_or, refl, ◌∙◌, arith}
use Rattle.dtab_table.specs.Rules.{placed_from}
use Rattle.dtab_table.proofs.LeanMatching.{lean_length, lean_here, lean_begun, lean_more, lean_done}
use Rattle.dtab_table.proofs.Rewriting.{begun, in_bounds, entry_here, as_many}
use Rattle.dtab_table.proofs.lending.lend_trees.Goals as goal

pub loop-at-init : goal.loop-at-init
loop-at-init c =
    lean_begun c.args.entries.now c.args.path.now c.deref-at-items.result.now
    c.in_ok-found.found.items _ c.in_ok-found.ensures.items
    (begun c.args.entries.now c.args.path.now c.deref-at-items.result.now
    (placed_from 0 c.args.entries.now) c.args.path.now
    (c.deref-at-items.ensures.value ∙ c.in_ok-places.ensures) refl refl [] refl)

pub bounds-entries-at : goal.bounds-entries-at
bounds-entries-at c =
    in_bounds c.args.entries.now c.args.path.now c.deref-at-items.result.now
    (placed_from 0 c.args.entries.now) c.args.path.now
    (c.deref-at-items.ensures.value ∙ c.in_ok-places.ensures) refl refl c.loop-at.at-index
    c.loop-at-test.true

pub bounds-leaner-at : goal.bounds-leaner-at
bounds-leaner-at c =
    let within = in_bounds c.args.entries.now c.args.path.now c.deref-at-items.result.now
    (placed_from 0 c.args.entries.now) c.args.path.now
    (c.deref-at-items.ensures.value ∙ c.in_ok-places.ensures) refl refl c.loop-at.at-index
    c.loop-at-test.true in
    omega (arith, within, lean_length c.args.entries.now c.args.leaner.now c.requires.lean)

pub loop-at-preserved : goal.loop-at-preserved
loop-at-preserved c =
    let here = entry_here c.args.entries.now c.args.path.now c.deref-at-items.result.now
    (placed_from 0 c.args.entries.now) c.args.path.now
    (c.deref-at-items.ensures.value ∙ c.in_ok-places.ensures) refl refl c.loop-at.at-index
    c.index-entries-at.result c.loop-at-test.true c.index-entries-at.is in
    lean_more c.args.entries.now c.args.path.now c.deref-at-items.result.now c.loop-at.at-index
    c.index-entries-at.result c.lean_tree-tree.result.now c.index-leaner-at.result
    (length c.labels.result.now) c.loop-at.found.items
    c.put_tree.new.found.items _ c.loop-at-test.true here.0 c.lean_tree-tree.ensures
    (lean_here c.args.entries.now c.args.leaner.now
    (get_or c.deref-at-items.result.now c.loop-at.at-index 0) c.index-entries-at.result
    c.index-leaner-at.result c.requires.lean here.0 c.index-leaner-at.is)
    (as_many c.labels.result.now c.index-entries-at.result.prefix c.labels.ensures)
    c.in_ok-put_tree.ensures c.loop-at.invariant

pub returns : goal.returns
returns c = lean_done c.args.entries.now c.args.path.now c.deref-at-items.result.now
    c.loop-at.at-index c.loop-at.found.items _ c.loop-at-test.false c.loop-at.invariant
