use Rattle.name_tree.proofs.Unions.{union_is}
use Rattle.name_tree.proofs.union.union_of_parts.Goals as goal

pub returns : goal.returns
returns c =
    union_is c.args.parts.items c.as_slice.result.now c.in_ok-branches.branches.items c.of.result
    c.as_slice.ensures.value c.if-is_bare.ensures.1 c.in_ok-branches.ensures c.of.ensures
