use Rattle.std.proofs.Common.{◌≡◌, List, map, drop, Some, string_bytes}
use Rattle.line_base.specs.Files.{File}
use Rattle.linker_config.specs.Folder.{services_told}
use Rattle.linker_config.specs.Loading.{behind}
use Rattle.linker_config.proofs.folder.load_names.Given as goal

abbrev pub invariant-loop-name : goal.invariant-loop-name
invariant-loop-name g l = record {
  files : (g.F.Folder.filed l.folder).files ≡ (g.F.Folder.filed l.fn.folder).files;
  faults : (g.F.Folder.filed l.folder).faults ≡ (g.F.Folder.filed l.fn.folder).faults;
  told : (fs : List File) → (g.F.Folder.filed l.fn.folder).files ≡ Some fs
      → behind l.items.items
      (services_told fs l.root (map (λ n. string_bytes n) (drop l.name-index l.names)))
      ≡ services_told fs l.root (map (λ n. string_bytes n) l.names);
}
