use Rattle.std.proofs.Common.{◌∙◌, length, refl}
use Rattle.dtab_check.proofs.Indexing.{found-within, met-more}
use Rattle.dtab_check.proofs.indexed.IndexedEntries.met_by.Goals as goal

pub mark-requires : goal.mark-requires
mark-requires c =
    found-within c.args.self.now.entries.now c.args.self.now.index c.leaf-item.result.now
    c.as_slice.result.now (length c.loop-leaf.met.items) c.requires.entries
    (c.as_slice.ensures.value ∙ c.in_ok-found.ensures) c.loop-leaf.invariant.size

pub loop-leaf-preserved : goal.loop-leaf-preserved
loop-leaf-preserved c = record {
  met = met-more c.args.self.now.index c.args.leaves.now c.loop-leaf.leaf-index c.leaf-item.result
      c.leaf-item.result.now c.as_slice.result.now c.loop-leaf.met.items c.mark.new.met.items
      c.loop-leaf.invariant.met c.loop-leaf-test.true c.leaf-item.is refl
      (c.as_slice.ensures.value ∙ c.in_ok-found.ensures) c.mark.ensures.marks;
  size = c.mark.ensures.size ∙ c.loop-leaf.invariant.size;
}
