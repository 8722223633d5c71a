use Rattle.std.proofs.Common.{◌≡◌, ◌++◌, drop, map}
use Rattle.std.specs.String.{string_bytes}
use Rattle.line_base.specs.Files.{names_in}
use Rattle.line_doubles.proofs.folder.names_of.Given as goal

abbrev pub invariant-loop-file : goal.invariant-loop-file
invariant-loop-file l = map (λ n. string_bytes n) l.names.items
    ++ names_in (drop l.file-index l.files) l.folder ≡ names_in l.files l.folder
