use Rattle.std.proofs.Common.{refl, ap}
use Rattle.name_tree.specs.Value.{neg}
use Rattle.name_tree.specs.Tree.{value_of}
use Rattle.name_tree.proofs.Apart.{apart, alike}
use Rattle.name_tree.proofs.tree.Tree.is_neg.Goals as goal

pub returns-in-Leaf : goal.returns-in-Leaf
returns-in-Leaf c = apart neg _ neg _ refl (ap value_of c.in-Leaf.is) refl

pub returns-in-Neg : goal.returns-in-Neg
returns-in-Neg c = alike neg _ (ap value_of c.in-Neg.is)

pub returns-in-Fail : goal.returns-in-Fail
returns-in-Fail c = apart neg _ neg _ refl (ap value_of c.in-Fail.is) refl

pub returns-in-Empty : goal.returns-in-Empty
returns-in-Empty c = apart neg _ neg _ refl (ap value_of c.in-Empty.is) refl

pub returns-in-Alt : goal.returns-in-Alt
returns-in-Alt c = apart neg _ neg _ refl (ap value_of c.in-Alt.is) refl

pub returns-in-Union : goal.returns-in-Union
returns-in-Union c = apart neg _ neg _ refl (ap value_of c.in-Union.is) refl
