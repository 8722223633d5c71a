use Rattle.std.proofs.Common.{◌≤◌, [], length, Bor, refl, ◌∙◌}
use Rattle.std.proofs.lemmas.List.Elements.{All-nil, All-same}
use Rattle.dtab_table.specs.declared.entry.Entry.{Entry}
use Rattle.dtab_table.specs.Rules.{placed_from}
use Rattle.dtab_table.proofs.Rewriting.{begun, in_bounds, entry_here, one_more, short_more, done}
use Rattle.dtab_table.proofs.lending.lend_entries.Goals as goal

pub loop-at-init : goal.loop-at-init
loop-at-init c = record {
  trees =
      begun c.args.entries.now c.args.path.now c.deref-at-items.result.now
      (placed_from 0 c.args.entries.now) c.args.path.now
      (c.deref-at-items.ensures.value ∙ c.in_ok-places.ensures) refl refl
      c.in_ok-found.found.items c.in_ok-found.ensures.items;
  long = let P : Bor Entry → Type 0 = λ entry. length entry.now.prefix ≤ length c.args.path.now in
      All-same P c.in_ok-found.found.items [] c.in_ok-found.ensures.items (All-nil P);
}

pub bounds-entries-at : goal.bounds-entries-at
bounds-entries-at c =
    in_bounds c.args.entries.now c.args.path.now c.deref-at-items.result.now
    (placed_from 0 c.args.entries.now) c.args.path.now
    (c.deref-at-items.ensures.value ∙ c.in_ok-places.ensures) refl refl c.loop-at.at-index
    c.loop-at-test.true

pub loop-at-preserved : goal.loop-at-preserved
loop-at-preserved c =
    let here = entry_here c.args.entries.now c.args.path.now c.deref-at-items.result.now
    (placed_from 0 c.args.entries.now) c.args.path.now
    (c.deref-at-items.ensures.value ∙ c.in_ok-places.ensures) refl refl c.loop-at.at-index
    c.index-entries-at.result c.loop-at-test.true c.index-entries-at.is in
    record {
      trees =
          one_more c.args.entries.now c.args.path.now c.deref-at-items.result.now
          c.loop-at.at-index _ c.loop-at.found.items c.push.new.self.items _ c.loop-at-test.true
          here.0 c.in_ok-push.ensures.items
          c.loop-at.invariant.trees;
      long = short_more c.args.path.now c.loop-at.found.items c.push.new.self.items _
          c.in_ok-push.ensures.items here.1 c.loop-at.invariant.long;
    }

pub returns-clause-trees : goal.returns-clause-trees
returns-clause-trees c =
    done c.args.entries.now c.args.path.now c.deref-at-items.result.now c.loop-at.at-index
    c.loop-at.found.items _ c.loop-at-test.false c.loop-at.invariant.trees
