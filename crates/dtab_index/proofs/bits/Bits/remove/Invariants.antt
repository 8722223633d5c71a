use Rattle.std.proofs.Common.{get_or, ◌/◌}
use Rattle.std.specs.Int.RustNames.{bit_xor}
use lib.Bits.{bit_and}
use Rattle.dtab_index.proofs.WordBits.{AreMadeOf}
use Rattle.dtab_index.proofs.bits.Bits.remove.Given as goal

abbrev pub invariant-loop-at : goal.invariant-loop-at
invariant-loop-at l =
    AreMadeOf (λ k. bit_xor (get_or l.fn.self.words k 0)
    (bit_and (get_or l.fn.self.words k 0) (get_or l.others.words k 0))) l.fn.self.words
    l.self.words (l.first / 64) l.at l.all
