-- Why there is no configuration.
use Rattle.std.specs.Prelude.{ℕ, List}
use Rattle.command_lines.specs.declared.checking.ConfigEnd.{ConfigEnd}
use Rattle.command_lines.specs.declared.checking.ConfigEnd.TheVariants.{Wrong, Fault, OutOfMemory}

-- where a line tells why, it is such
abbrev pub IfWrong : ConfigEnd → (List ℕ → Type 0) → Type 0
IfWrong (Wrong line) Is = Is line.items
IfWrong Fault Is = Unit {0}
IfWrong OutOfMemory Is = Unit {0}
