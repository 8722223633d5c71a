-- What crates above cite: facts that all operations keep, and a reader after two calls.
use Rattle.std.proofs.Common.{List, [], ◌∷◌, ◌++◌, fold, ◌∙◌}
use Rattle.snap_cell.specs.declared.reader.Reader.{Reader}
use Rattle.snap_cell.specs.Legal.{AllFit}
use Rattle.snap_cell.specs.Views.{SameReader}

module _ {S O : Type 0} (applied : S → O → S) (Fits : S → O → Type 0) where
  -- what holds of the opening state, and is kept by each operation that fits, holds of what a
  -- reader enters
  pub kept_by_all : (Holds : S → Type 0)
      → ((s : S) (op : O) → Holds s → Fits s op → Holds (applied s op)) → (s : S) (ops : List O)
      → Holds s → AllFit applied Fits s ops
      → Holds (fold applied s ops)
  kept_by_all Holds keeps s [] holds fit = holds
  kept_by_all Holds keeps s (op ∷ ops) holds fit =
      kept_by_all Holds keeps (applied s op) ops (keeps s op holds fit.0) fit.1

  -- each operation fits the state at its point
  pub fits_at : (s : S) (before after : List O) (op : O)
      → AllFit applied Fits s (before ++ op ∷ after) → Fits (fold applied s before) op
  fits_at s [] after op fit = fit.0
  fits_at s (x ∷ before) after op fit = fits_at (applied s x) before after op fit.1

pub same_trans : {V O Q S : Type 0} (a b c : Reader V O Q S) → SameReader a b → SameReader b c
    → SameReader a c
same_trans a b c p q = record { number = q.number ∙ p.number; cell = q.cell ∙ p.cell }
