use Rattle.std.proofs.Common.{arith}
use Rattle.std.proofs.lemmas.Bool.Decides.{nat_tests}
use Rattle.name_tree.proofs.Leaning.{union_ends}
use Rattle.name_tree.proofs.lean.LeanUnion.into_tree.Goals as goal

pub returns : goal.returns
returns c =
    union_ends c.args.self.fails c.args.self.lacks c.args.self.branches.items
    c.put_mark_if.new.branches.items c.put_mark_if-2.new.branches.items _
    (grind (arith, nat_tests)) c.in_ok-put_mark_if.ensures
    c.in_ok-put_mark_if-2.ensures c.of.ensures
