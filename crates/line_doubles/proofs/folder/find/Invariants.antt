use Rattle.std.proofs.Common.{◌≡◌, drop}
use Rattle.line_base.specs.Files.{file_at}
use Rattle.line_doubles.proofs.folder.find.Given as goal

abbrev pub invariant-loop-file : goal.invariant-loop-file
invariant-loop-file l = file_at (drop l.file-index l.files) l.path ≡ file_at l.files l.path
