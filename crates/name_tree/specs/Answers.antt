-- When each fault is answered.
use Rattle.std.specs.Prelude.{ℕ, List}
use Rattle.name_tree.specs.declared.read.TextFault.{TextFault}
use Rattle.name_tree.specs.declared.read.TextFault.TheVariants.{TooLong, TooNested, Syntax}
use Rattle.name_tree.specs.declared.read.TextFault.TheVariants.{OutOfMemory}
use Rattle.name_tree.specs.Faults.{IsTooLong, IsTooNested, IsSyntax}

abbrev pub FaultFits : {V : Type 0} → (List ℕ → V → Type 0) → List ℕ → TextFault → Type 0
FaultFits Text text (TooLong limit) = IsTooLong text limit
FaultFits Text text (TooNested at) = IsTooNested Text text at
FaultFits Text text (Syntax at) = IsSyntax Text text at
FaultFits Text text OutOfMemory = Unit {0}
