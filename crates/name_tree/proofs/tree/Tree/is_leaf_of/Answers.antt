use Rattle.std.proofs.Common.{refl, ap}
use Rattle.name_tree.specs.Value.{leaf}
use Rattle.name_tree.specs.Tree.{value_of}
use Rattle.name_tree.proofs.Apart.{apart}
use Rattle.name_tree.proofs.tree.Tree.is_leaf_of.Goals as goal

pub returns-in-Neg : goal.returns-in-Neg
returns-in-Neg c = apart (leaf c.args.path.now) _ (leaf c.args.path.now) _ refl
    (ap value_of c.in-Neg.is) refl

pub returns-in-Fail : goal.returns-in-Fail
returns-in-Fail c = apart (leaf c.args.path.now) _ (leaf c.args.path.now) _ refl
    (ap value_of c.in-Fail.is) refl

pub returns-in-Empty : goal.returns-in-Empty
returns-in-Empty c = apart (leaf c.args.path.now) _ (leaf c.args.path.now) _ refl
    (ap value_of c.in-Empty.is) refl

pub returns-in-Alt : goal.returns-in-Alt
returns-in-Alt c = apart (leaf c.args.path.now) _ (leaf c.args.path.now) _ refl
    (ap value_of c.in-Alt.is) refl

pub returns-in-Union : goal.returns-in-Union
returns-in-Union c = apart (leaf c.args.path.now) _ (leaf c.args.path.now) _ refl
    (ap value_of c.in-Union.is) refl
