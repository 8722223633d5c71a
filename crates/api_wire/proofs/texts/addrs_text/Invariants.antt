use Rattle.std.proofs.Common.{◌≡◌, take}
use Rattle.api_wire.specs.Texts.{addrs_text}
use Rattle.api_wire.proofs.texts.addrs_text.Given as goal

abbrev pub invariant-loop-item : goal.invariant-loop-item
invariant-loop-item l = l.out.items ≡ addrs_text (take l.item-index l.items)
