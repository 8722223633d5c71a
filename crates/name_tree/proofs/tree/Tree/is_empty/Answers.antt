use Rattle.std.proofs.Common.{refl, ap}
use Rattle.name_tree.specs.Value.{empty}
use Rattle.name_tree.specs.Tree.{value_of}
use Rattle.name_tree.proofs.Apart.{apart, alike}
use Rattle.name_tree.proofs.tree.Tree.is_empty.Goals as goal

pub returns-in-Leaf : goal.returns-in-Leaf
returns-in-Leaf c = apart empty _ empty _ refl (ap value_of c.in-Leaf.is) refl

pub returns-in-Neg : goal.returns-in-Neg
returns-in-Neg c = apart empty _ empty _ refl (ap value_of c.in-Neg.is) refl

pub returns-in-Fail : goal.returns-in-Fail
returns-in-Fail c = apart empty _ empty _ refl (ap value_of c.in-Fail.is) refl

pub returns-in-Empty : goal.returns-in-Empty
returns-in-Empty c = alike empty _ (ap value_of c.in-Empty.is)

pub returns-in-Alt : goal.returns-in-Alt
returns-in-Alt c = apart empty _ empty _ refl (ap value_of c.in-Alt.is) refl

pub returns-in-Union : goal.returns-in-Union
returns-in-Union c = apart empty _ empty _ refl (ap value_of c.in-Union.is) refl
