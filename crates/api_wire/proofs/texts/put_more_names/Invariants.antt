use Rattle.std.proofs.Common.{◌≡◌, ◌++◌, take}
use Rattle.api_wire.specs.Texts.{more_names}
use Rattle.api_wire.proofs.texts.put_more_names.Given as goal

abbrev pub invariant-loop-name : goal.invariant-loop-name
invariant-loop-name l = l.out.items ≡ l.fn.out.items ++ more_names (take l.name-index l.names)
