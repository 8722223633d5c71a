-- Why a worker takes nothing more.
use Rattle.std.specs.Prelude.{◌≡◌, ◌≤◌}
use Rattle.line_base.specs.Accepts.{Listening}
use Rattle.line_base.specs.Counts.{raised}
use Rattle.workers.specs.declared.accepting.Accepting.{Accepting}
use Rattle.workers.specs.declared.accepting.Accepting.TheVariants.{Closed, Failing}

-- the listener answered once that it is closed, or a hundred waits failed in a row
abbrev pub Ends : {P : Type 0} → Accepting → Listening P → Listening P → Type 0
Ends Closed old new = (new.closes ≡ raised old.closes) × (new.run ≡ 0)
Ends Failing old new = (new.closes ≡ old.closes) × (100 ≤ new.run)
