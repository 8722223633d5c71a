use Rattle.std.proofs.Common.{◌≡◌, take, false}
use Rattle.std.specs.List.{list_any}
use Rattle.bind_cache.specs.Touch.{touched_by}
use Rattle.bind_cache.proofs.touch.Touch.touches_any.Given as goal

abbrev pub invariant-loop-path : goal.invariant-loop-path
invariant-loop-path l = list_any (touched_by l.self) (take l.path-index l.paths) ≡ false
