-- What is told of a file, and of services that were not loaded, is a course of it.
use Rattle.std.proofs.Common.{◌≡◌, ℕ, Bool, List, refl, arith, inl, inr}
use Rattle.std.specs.Prelude.{Option, None, Some, Result, Ok, Err, IfOk}
use Rattle.line_base.specs.Counts.{Rose}
use Rattle.line_base.specs.Files.{File, Filed}
use Rattle.line_base.specs.Lines.{Line}
use Rattle.line_base.specs.declared.socket_address.SocketAddress.{SocketAddress}
use Rattle.linker_config.specs.declared.config.Config.{Config}
use Rattle.linker_config.specs.declared.loaded.LoadFault.{LoadFault}
use Rattle.linker_config.specs.declared.loaded.LoadFault.TheVariants.{BadFile, FolderFault}
use Rattle.linker_config.specs.declared.loaded.LoadFault.TheVariants.{LongFile, OutOfMemory}
use Rattle.linker_config.specs.Folder.{Loads}
use Rattle.linker_config.specs.Loading.{HasLoadCause}
use Rattle.command_lines.specs.declared.checking.CheckEnd.{CheckEnd}
use Rattle.command_lines.specs.declared.checking.CheckEnd.TheVariants as why
use Rattle.command_lines.specs.declared.checking.Verdict.{Verdict}
use Rattle.linker_commands.specs.Courses.{load_course, verdict_course}
use Rattle.linker_commands.specs.Linked.{Linked}
use Rattle.linker_commands.specs.Run.{Checks, Serves}
use Rattle.command_lines.specs.Check.{IsConfig}
use Rattle.linker_commands.specs.Served.{LoadsRoot}

-- what is told of a file is a course of it
pub checks_verdict : (TellsFile : Bool → List ℕ → Type 0) (old new : Filed)
    (verdict : Result Verdict CheckEnd)
    → IfOk verdict (λ (v : Verdict). TellsFile v.is_right v.line.items)
    → (verdict ≡ Err why.Fault → Rose old.faults new.faults)
    → ((verdict ≡ Err why.Fault → ⊥) → new.faults ≡ old.faults)
    → Checks TellsFile old new (verdict_course verdict)
checks_verdict TellsFile old new (Ok v) told fault kept = (told, kept (λ is. cc is))
checks_verdict TellsFile old new (Err why.Fault) told fault kept = fault refl
checks_verdict TellsFile old new (Err why.OutOfMemory) told fault kept = kept (λ is. cc is)

-- a refusal of services comes from the folder that is named
named_root : (files : Option (List File)) (root : Option (List ℕ)) (fault : LoadFault)
    → LoadsRoot files root (Err fault)
    → (named : List ℕ) × (root ≡ Some named) × Loads files named (Err fault)
named_root files None fault told = cc told
named_root files (Some named) fault told = (named, refl, told)

-- a configuration whose services were not loaded is a course of serving by the one at a path: the
-- folder's count of faults rose exactly where it could not be read
pub unloaded_course : {P T : Type 0} (line_of : P → Line) (address_of : P → Option SocketAddress)
    (moments : Option (List ℕ)) (path : List ℕ) (c : Config) (files files_after : Filed)
    (net : Linked P) (fault : LoadFault) → IsConfig files.files path c
    → LoadsRoot files.files c.root (Err fault)
    → HasLoadCause {T = T} files.faults files_after.faults (Err fault)
    → Serves line_of address_of moments path files files_after net net (load_course fault)
unloaded_course line_of address_of moments path c files files_after net (LongFile name) right told
    cause =
    let root = named_root files.files c.root (LongFile name) told in
    (inr (c, right, inl (root.0, name, root.1, inl root.2, refl)), cause.count, refl)
unloaded_course line_of address_of moments path c files files_after net (BadFile name line) right
    told cause =
    let root = named_root files.files c.root (BadFile name line) told in
    (inr (c, right, inl (root.0, name, root.1, inr (line, root.2), refl)), cause.count, refl)
unloaded_course line_of address_of moments path c files files_after net FolderFault right told
    cause =
    (omega (arith, cause.count), refl)
unloaded_course line_of address_of moments path c files files_after net OutOfMemory right told
    cause =
    (cause.count, refl)
