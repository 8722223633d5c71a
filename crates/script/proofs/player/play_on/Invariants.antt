use Rattle.std.proofs.Common.{◌≡◌, ℕ, ◌+◌, ◌-◌, ◌≤◌, List, ◌++◌, length, drop}
use Rattle.std.specs.Io.KnownBytes.{Appends}
use Rattle.text_parts.specs.Lines.{lines_of}
use Rattle.machine.specs.Code.{state_of}
use Rattle.script.proofs.Plays.{PlaysSo}
use Rattle.script.proofs.player.play_on.Given as goal

abbrev pub invariant-loop-at : goal.invariant-loop-at
invariant-loop-at g l = record {
  within : l.at ≤ length l.script;
  few : l.number ≤ l.at + 1;
  written : List ℕ;
  given : Appends (g.K.Sink.output l.fn.sink).held (g.K.Sink.output l.sink).held written;
  front : List (List ℕ);
  split : lines_of l.script ≡ front ++ lines_of (drop l.at l.script);
  so : PlaysSo front (written ++ l.replies.items) (state_of l.state) l.number;
  kept : (g.K.Sink.output l.sink).faults ≡ (g.K.Sink.output l.fn.sink).faults;
}

abbrev pub decreases-loop-at : goal.decreases-loop-at
decreases-loop-at g l = length l.script - l.at
