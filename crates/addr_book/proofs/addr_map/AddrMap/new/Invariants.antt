use Rattle.std.proofs.Common.{◌≡◌, vec_len}
use Rattle.addr_book.proofs.Shards.{AreNone}
use Rattle.addr_book.proofs.addr_map.AddrMap.new.Given as goal

abbrev pub invariant-loop-place : goal.invariant-loop-place
invariant-loop-place l = record {
  long : vec_len l.shards ≡ l._place;
  none : AreNone l.shards.items;
}
