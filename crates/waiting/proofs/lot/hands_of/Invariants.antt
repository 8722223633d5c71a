use Rattle.std.proofs.Common.{◌≡◌, ◌+◌}
use Rattle.std.specs.Prelude.{All, vec_len}
use Rattle.waiting.specs.Hands.{IsNew}
use Rattle.waiting.proofs.lot.hands_of.Given as goal

abbrev pub invariant-loop-place : goal.invariant-loop-place
invariant-loop-place g l = record {
  left : l.left.parts + l._place ≡ l.count;
  none_left : l.left.amount ≡ 0;
  taken : l.taken.parts + l._place ≡ l.count;
  none_taken : l.taken.amount ≡ 0;
  count : vec_len l.hands ≡ l._place;
  new : All IsNew l.hands.items;
}
