use Rattle.std.proofs.Common.{◌≡◌, drop}
use Rattle.text_parts.specs.Hash.{with_bytes}
use Rattle.text_parts.proofs.hash.fnv_mix_bytes.Given as goal

abbrev pub invariant-loop-byte : goal.invariant-loop-byte
invariant-loop-byte l = with_bytes l.all (drop l.byte-index l.bytes) ≡ with_bytes l.hash l.bytes
