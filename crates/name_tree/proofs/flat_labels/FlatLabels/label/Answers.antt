use Rattle.std.proofs.Common.{ℕ, List, ◌<◌, ◌-◌, length, take, drop, ap, sym, ◌∙◌, Some, arith}
use Rattle.std.specs.Prelude.{slice_get}
use Rattle.name_tree.specs.Path.{Labels}
use Rattle.name_tree.proofs.FlatPaths.{labels_long, label_is}
use Rattle.name_tree.proofs.flat_labels.FlatLabels.label.Goals as goal

pub start-start-requires : goal.start-start-requires
start-start-requires c =
    omega (
      arith,
      c.requires,
      labels_long c.self.inside.ends c.self.inside.bytes.items
          c.args.self.now c.self.view_is,
    )

pub end-end-requires : goal.end-end-requires
end-end-requires c = omega (
  arith,
  c.requires,
  labels_long c.self.inside.ends c.self.inside.bytes.items c.args.self.now c.self.view_is,
)

pub slice_bounds-result-count : goal.slice_bounds-result-count
slice_bounds-result-count c =
    let inside : c.args.at < length c.self.inside.ends =
    omega (
      arith,
      c.requires,
      labels_long c.self.inside.ends c.self.inside.bytes.items
          c.args.self.now c.self.view_is,
    ) in
    let here = label_is c.self.inside.ends c.self.inside.bytes.items c.args.at c.start-start.result
    c.end-end.result c.self.invariant inside c.start-start.ensures c.end-end.ensures in
    here.order

pub slice_bounds-result-start : goal.slice_bounds-result-start
slice_bounds-result-start c =
    let inside : c.args.at < length c.self.inside.ends =
    omega (
      arith,
      c.requires,
      labels_long c.self.inside.ends c.self.inside.bytes.items
          c.args.self.now c.self.view_is,
    ) in
    let here = label_is c.self.inside.ends c.self.inside.bytes.items c.args.at c.start-start.result
    c.end-end.result c.self.invariant inside c.start-start.ensures c.end-end.ensures in
    omega (arith, here.order, here.within, ap length c.deref.ensures.value)

pub slice_bounds-result-end : goal.slice_bounds-result-end
slice_bounds-result-end c =
    let inside : c.args.at < length c.self.inside.ends =
    omega (
      arith,
      c.requires,
      labels_long c.self.inside.ends c.self.inside.bytes.items
          c.args.self.now c.self.view_is,
    ) in
    let here = label_is c.self.inside.ends c.self.inside.bytes.items c.args.at c.start-start.result
    c.end-end.result c.self.invariant inside c.start-start.ensures c.end-end.ensures in
    omega (arith, here.order, here.within, ap length c.deref.ensures.value)

pub returns : goal.returns
returns c =
    let inside : c.args.at < length c.self.inside.ends =
    omega (
      arith,
      c.requires,
      labels_long c.self.inside.ends c.self.inside.bytes.items
          c.args.self.now c.self.view_is,
    ) in
    let here = label_is c.self.inside.ends c.self.inside.bytes.items c.args.at c.start-start.result
    c.end-end.result c.self.invariant inside c.start-start.ensures c.end-end.ensures in
    ap (λ (xs : Labels). slice_get xs c.args.at) (sym c.self.view_is)
    ∙ (here.label ∙ ap (λ (xs : List ℕ).
    Some (take (c.end-end.result - c.start-start.result) (drop c.start-start.result xs)))
    (sym c.deref.ensures.value))
