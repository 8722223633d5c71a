use Rattle.name_tree.proofs.Growing.{grows_behind}
use Rattle.name_tree.proofs.write.put_label.Goals as goal

pub returns-in_err-put_byte-clause-grows : goal.returns-in_err-put_byte-clause-grows
returns-in_err-put_byte-clause-grows c =
    grows_behind _ _ _ _ c.loop-byte.invariant c.put_byte.ensures.grows
