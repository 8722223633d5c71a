use Rattle.std.proofs.Common.{◌≡◌, ◌-◌, ◌++◌, ℕ, List, length, take, drop, ap, ◌∙◌, arith}
use Rattle.name_tree.specs.FlatPath.{start_at}
use Rattle.name_tree.proofs.FlatPaths.{labels_long, part_places, part_put}
use Rattle.name_tree.proofs.flat_labels.FlatLabels.with.Goals as goal

pub start-start-requires : goal.start-start-requires
start-start-requires c =
    omega (
      arith,
      c.requires.order,
      c.requires.within,
      labels_long c.others.inside.ends c.others.inside.bytes.items c.args.others.now
          c.others.view_is,
    )

pub start-end-requires : goal.start-end-requires
start-end-requires c =
    omega (
      arith,
      c.requires.within,
      labels_long c.others.inside.ends c.others.inside.bytes.items
          c.args.others.now c.others.view_is,
    )

pub slice_bounds-extend_from_slice-count : goal.slice_bounds-extend_from_slice-count
slice_bounds-extend_from_slice-count c =
    let here = part_places c.others.inside.ends c.others.inside.bytes.items c.args.others.now
    c.args.from c.args.to c.start-start.result c.start-end.result c.others.invariant
    c.others.view_is c.requires.order c.requires.within c.start-start.ensures c.start-end.ensures in
    here.order

pub slice_bounds-extend_from_slice-start : goal.slice_bounds-extend_from_slice-start
slice_bounds-extend_from_slice-start c =
    let here = part_places c.others.inside.ends c.others.inside.bytes.items c.args.others.now
    c.args.from c.args.to c.start-start.result c.start-end.result c.others.invariant
    c.others.view_is c.requires.order c.requires.within c.start-start.ensures c.start-end.ensures in
    omega (arith, here.order, here.within, ap length c.deref.ensures.value)

pub slice_bounds-extend_from_slice-end : goal.slice_bounds-extend_from_slice-end
slice_bounds-extend_from_slice-end c =
    let here = part_places c.others.inside.ends c.others.inside.bytes.items c.args.others.now
    c.args.from c.args.to c.start-start.result c.start-end.result c.others.invariant
    c.others.view_is c.requires.order c.requires.within c.start-start.ensures c.start-end.ensures in
    omega (arith, here.order, here.within, ap length c.deref.ensures.value)

pub put_moved-requires-clause-within : goal.put_moved-requires-clause-within
put_moved-requires-clause-within c =
    omega (
      arith,
      c.requires.within,
      labels_long c.others.inside.ends c.others.inside.bytes.items
          c.args.others.now c.others.view_is,
    )

pub invariant_of-result : goal.invariant_of-result
invariant_of-result c =
    let base : c.start-base.result ≡ start_at 0 c.self.inside.ends (length c.self.inside.ends) =
    c.start-base.ensures ∙ ap (start_at 0 c.self.inside.ends) c.len.ensures in
    let all = part_put c.self.inside.ends c.self.inside.bytes.items c.others.inside.ends
    c.others.inside.bytes.items c.args.self c.args.others.now c.args.from c.args.to
    c.start-base.result c.start-start.result c.start-end.result
    c.self.invariant c.others.invariant c.self.view_is c.others.view_is c.requires.order
    c.requires.within base c.start-start.ensures c.start-end.ensures c.put_moved.new.self
    c.extend_from_slice.new.self.items c.in_ok-put_moved.ensures
    (c.in_ok-extend_from_slice.ensures.items
    ∙ ap (λ (xs : List ℕ). c.self.inside.bytes.items ++ take
    (c.start-end.result - c.start-start.result) (drop c.start-start.result xs))
    c.deref.ensures.value) in
    all.1

pub returns : goal.returns
returns c =
    let base : c.start-base.result ≡ start_at 0 c.self.inside.ends (length c.self.inside.ends) =
    c.start-base.ensures ∙ ap (start_at 0 c.self.inside.ends) c.len.ensures in
    let all = part_put c.self.inside.ends c.self.inside.bytes.items c.others.inside.ends
    c.others.inside.bytes.items c.args.self c.args.others.now c.args.from c.args.to
    c.start-base.result c.start-start.result c.start-end.result
    c.self.invariant c.others.invariant c.self.view_is c.others.view_is c.requires.order
    c.requires.within base c.start-start.ensures c.start-end.ensures c.put_moved.new.self
    c.extend_from_slice.new.self.items c.in_ok-put_moved.ensures
    (c.in_ok-extend_from_slice.ensures.items
    ∙ ap (λ (xs : List ℕ). c.self.inside.bytes.items ++ take
    (c.start-end.result - c.start-start.result) (drop c.start-start.result xs))
    c.deref.ensures.value) in
    all.0
