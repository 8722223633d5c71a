use Rattle.std.proofs.Common.{◌≡◌, ◌++◌, take}
use Rattle.access_log.specs.Shown.{shown}
use Rattle.access_log.proofs.shown.put_shown.Given as goal

abbrev pub invariant-loop-byte : goal.invariant-loop-byte
invariant-loop-byte l = l.out.items ≡ l.fn.out.items ++ shown (take l.byte-index l.text)
