use Rattle.std.proofs.Common.{◌≡◌, ◌*◌, drop}
use Rattle.name_tree.specs.Weight.{decimals_from, point_from}
use Rattle.name_tree.proofs.weight_text.read_decimals.Given as goal

abbrev pub invariant-loop-byte : goal.invariant-loop-byte
invariant-loop-byte l = decimals_from l.decimals.millionths l.decimals.unit
    (drop l.byte-index l.others) ≡ point_from (l.fn.whole.value * 1000000) l.fn.text
