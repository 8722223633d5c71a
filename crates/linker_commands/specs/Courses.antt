-- The courses of what is told of a file, and of services that were not loaded.
use Rattle.std.specs.Prelude.{false, Result, Ok, Err}
use Rattle.linker_config.specs.declared.loaded.LoadFault.{LoadFault}
use Rattle.linker_config.specs.declared.loaded.LoadFault.TheVariants as unloaded
use Rattle.command_lines.specs.declared.checking.CheckEnd.{CheckEnd}
use Rattle.command_lines.specs.declared.checking.CheckEnd.TheVariants as why
use Rattle.command_lines.specs.declared.checking.Verdict.{Verdict}
use Rattle.linker_commands.specs.Run.{Course, line_told, no_memory, read_failed}
use Rattle.linker_commands.specs.Served.{file_line}

-- the course of a file of which this is told, or of which nothing is
abbrev pub verdict_course : Result Verdict CheckEnd → Course
verdict_course (Ok verdict) = line_told verdict.is_right verdict.line.items
verdict_course (Err why.Fault) = read_failed
verdict_course (Err why.OutOfMemory) = no_memory

-- the course of a configuration whose services were not loaded
abbrev pub load_course : LoadFault → Course
load_course (unloaded.LongFile name) = line_told false (file_line name)
load_course (unloaded.BadFile name line) = line_told false (file_line name)
load_course unloaded.FolderFault = read_failed
load_course unloaded.OutOfMemory = no_memory
