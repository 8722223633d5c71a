use Rattle.line_base.specs.Files.{Filed}
use Rattle.command_lines.specs.Lint.{TellsTablePath}
use Rattle.linker_commands.specs.Courses.{verdict_course}
use Rattle.linker_commands.proofs.Courses.{checks_verdict}
use Rattle.linker_commands.proofs.run.lint_table.Goals as goal

pub returns-clause-linted : goal.returns-clause-linted
returns-clause-linted g c =
    let old : Filed = g.F.Folder.filed c.args.folder.now in
    let new : Filed = g.F.Folder.filed c.lint.new.folder in
    let e = c.lint.ensures in (
      verdict_course c.lint.result,
      checks_verdict (TellsTablePath old.files c.args.path.now) old new c.lint.result e.told e.fault
          e.kept,
      c.tell_verdict.ensures,
    )
