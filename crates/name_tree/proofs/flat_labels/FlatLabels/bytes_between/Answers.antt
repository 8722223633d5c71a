use Rattle.std.proofs.Common.{sym, arith}
use Rattle.name_tree.proofs.FlatPaths.{labels_long, part_places}
use Rattle.name_tree.proofs.flat_labels.FlatLabels.bytes_between.Goals as goal

pub start-requires : goal.start-requires
start-requires c = omega (
  arith,
  c.requires.within,
  labels_long c.self.inside.ends c.self.inside.bytes.items c.args.self.now c.self.view_is,
)

pub start-requires-2 : goal.start-requires-2
start-requires-2 c = omega (
  arith,
  c.requires.order,
  c.requires.within,
  labels_long c.self.inside.ends c.self.inside.bytes.items c.args.self.now c.self.view_is,
)

pub overflow_sub-result : goal.overflow_sub-result
overflow_sub-result c =
    let here = part_places c.self.inside.ends c.self.inside.bytes.items c.args.self.now c.args.from
    c.args.to c.start-2.result c.start.result c.self.invariant c.self.view_is c.requires.order
    c.requires.within c.start-2.ensures c.start.ensures in
    here.order

pub returns : goal.returns
returns c =
    let here = part_places c.self.inside.ends c.self.inside.bytes.items c.args.self.now c.args.from
    c.args.to c.start-2.result c.start.result c.self.invariant c.self.view_is c.requires.order
    c.requires.within c.start-2.ensures c.start.ensures in
    sym here.count
