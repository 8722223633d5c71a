use Rattle.std.proofs.Common.{◌≡◌, ◌-◌, ◌≤◌, length}
use Rattle.std.specs.Io.KnownBytes.{Consumes}
use Rattle.script.proofs.ends.read_all.Given as goal

abbrev pub invariant-loop-most : goal.invariant-loop-most
invariant-loop-most g l = record {
  within : length l.all.items ≤ l.most;
  taken : Consumes (g.S.Source.input l.fn.source).left (g.S.Source.input l.source).left l.all.items;
  kept : (g.S.Source.input l.source).faults ≡ (g.S.Source.input l.fn.source).faults;
  ends : (g.S.Source.input l.fn.source).ends ≤ (g.S.Source.input l.source).ends;
}

abbrev pub decreases-loop-most : goal.decreases-loop-most
decreases-loop-most g l = l.most - length l.all.items
