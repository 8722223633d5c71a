use Rattle.std.proofs.Common.{◌≡◌, ◌++◌, map}
use Rattle.httparse.specs.Grammar.{trim_ows}
use Rattle.forward.specs.Listed.{lowered}
use Rattle.forward.proofs.names.push_pieces.Given as goal

abbrev pub invariant-loop-piece : goal.invariant-loop-piece
invariant-loop-piece l =
    map (λ n. n.items) l.names.items ≡ map (λ n. n.items) l.fn.names.items
    ++ lowered (map (λ n. trim_ows n.now) l.yielded)
