use Rattle.std.proofs.Common.{◌≡◌, ◌++◌, map, take}
use Rattle.http_wire.specs.Lines.{ended, field_line}
use Rattle.forward.specs.Kept.{left_by}
use Rattle.forward.proofs.dropped.push_left.Given as goal

abbrev pub invariant-loop-field : goal.invariant-loop-field
invariant-loop-field l =
    l.head.items ≡ l.fn.head.items ++ ended
    (map field_line (left_by (map (λ n. n.now) l.never) l.listed (take l.field-index l.fields)))
