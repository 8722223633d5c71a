use Rattle.line_base.specs.Files.{Filed}
use Rattle.command_lines.specs.Check.{TellsPath}
use Rattle.linker_commands.specs.Courses.{verdict_course}
use Rattle.linker_commands.proofs.Courses.{checks_verdict}
use Rattle.linker_commands.proofs.run.check_config.Goals as goal

pub returns-clause-checked : goal.returns-clause-checked
returns-clause-checked g c =
    let old : Filed = g.F.Folder.filed c.args.folder.now in
    let new : Filed = g.F.Folder.filed c.check.new.folder in
    let e = c.check.ensures in (
      verdict_course c.check.result,
      checks_verdict (TellsPath old.files c.args.path.now) old new c.check.result e.told e.fault
          e.kept,
      c.tell_verdict.ensures,
    )
