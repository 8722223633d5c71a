use Rattle.std.proofs.Common.{◌≡◌, ◌≤◌}
use Rattle.signal_watch.proofs.watching.watch.Given as goal

abbrev pub invariant-looks : goal.invariant-looks
invariant-looks g l = record {
  files : (g.F.Folder.filed l.folder).files ≡ (g.F.Folder.filed l.fn.folder).files;
  faults : (g.F.Folder.filed l.fn.folder).faults ≤ (g.F.Folder.filed l.folder).faults;
  heard : g.P.Pause.heard l.pause ≡ g.P.Pause.heard l.fn.pause;
  calls : g.S.Stop.calls l.stop ≡ g.S.Stop.calls l.fn.stop;
}
