use Rattle.std.proofs.Common.{◌≡◌, ℕ, List, subst, true}
use Rattle.std.specs.Prelude.{Ok}
use Rattle.line_base.specs.declared.folder.Found.{Found}
use Rattle.line_base.specs.declared.folder.Found.TheVariants.{Bytes, Absent, Longer}
use Rattle.linker_config.specs.declared.config.Config.{Config}
use Rattle.linker_config.specs.Answers.{Reads}
use Rattle.linker_config.specs.Lines.{good_line}
use Rattle.command_lines.specs.Check.{IsText, TellsFound}
use Rattle.command_lines.proofs.checking.check.Goals as goal

-- the line of a configuration that was read tells of what was found
told_right : (found : Found) (text line : List ℕ) (config : Config) → IsText found text
    → Reads text (Ok config) → line ≡ good_line config → TellsFound found true line
told_right (Bytes bytes) text line config is reads told =
    (config, subst (λ (t : List ℕ). Reads t (Ok config)) is reads, told)
told_right Absent text line config is reads told = absurd is
told_right Longer text line config is reads told = absurd is

pub returns-in-Ok-told-clause-told : goal.returns-in-Ok-told-clause-told
returns-in-Ok-told-clause-told g c =
    let right = c.in-Ok.ensures.config in (
      right.0,
      right.1,
      told_right right.0 right.2 c.in-Ok-told.line.items c.in-Ok.config
          right.3 right.4 c.in-Ok-told.ensures,
    )
