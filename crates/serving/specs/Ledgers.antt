-- The ledgers that count at the lots, before a type stands for each.
use Rattle.std.specs.Prelude.{◌≡◌, ℕ}
use Rattle.std.specs.declared.sync.ledger.Blank.{Blank}
use Rattle.std.specs.declared.sync.ledger.Ledger.{Ghosts}
use Rattle.serving.specs.declared.lots.Blanks.{Blanks}

-- it is that of a ledger that has so many parts
abbrev pub IsBlankFor : {A : Type 0} → Ghosts A → ℕ → Blank → Type 0
IsBlankFor ledger parts blank =
    (blank.name ≡ ledger.name) × (blank.parts ≡ ledger.parts) × (ledger.parts ≡ parts)

-- they are those of four ledgers, which have a part for each of so many workers that serve clients,
-- and for each of so many that serve the interfaces
pub record AreBlanksFor {A B E F : Type 0} (a : Ghosts A) (b : Ghosts B) (e : Ghosts E)
    (f : Ghosts F) (clients callers : ℕ) (blanks : Blanks) : Type 0 where
  pub clients_left : IsBlankFor a clients blanks.clients_left
  pub clients_taken : IsBlankFor b clients blanks.clients_taken
  pub callers_left : IsBlankFor e callers blanks.callers_left
  pub callers_taken : IsBlankFor f callers blanks.callers_taken
