-- What a run of a job gives.
use Rattle.std.specs.Prelude.{Option, Some, None}

-- one run of a job gave this end
abbrev pub Ran : {J E : Type 0} → (J → J → E → Type 0) → J → J → Option E → Type 0
Ran runs old new None = ⊥
Ran runs old new (Some e) = runs old new e

-- a job that came back with its end is one that has run
abbrev pub ComesBack : {J E : Type 0} → (J → J → E → Type 0) → J → J × E → Type 0
ComesBack runs job back = runs job back.0 back.1
