-- Which lists of operations may be published.
use Rattle.std.specs.Prelude.{ℕ, ◌<◌, List, [], ◌∷◌, All, ⊤}

module _ {S O : Type 0} (applied : S → O → S) (Fits : S → O → Type 0) where
  -- each operation fits the state that those before it leave
  abbrev pub AllFit : S → List O → Type 0
  AllFit state [] = ⊤
  AllFit state (op ∷ ops) = Fits state op × AllFit (applied state op) ops

  -- besides, each is of a caller whose number is below that of the readers
  pub record Legal (caller : O → ℕ) (opening : S) (readers : ℕ) (ops : List O) : Type 0 where
    pub fit : AllFit opening ops
    pub callers : All (λ op. caller op < readers) ops
