-- A recogniser of texts, byte by byte: which state is behind the next byte, if some text goes on
-- so, and what a text that ends in a state stands for.
use Rattle.std.specs.Prelude.{ℕ, List, [], ◌∷◌, Option, Some}
use Rattle.std.specs.Option.{option_and_then}

module _ {S : Type 0} (next : S → ℕ → Option S) where
  -- the state behind these bytes
  abbrev pub run : S → List ℕ → Option S
  run q [] = Some q
  run q (b ∷ bs) = option_and_then (λ to. run to bs) (next q b)

  -- what a text stands for whose last bytes are these
  abbrev pub value_from : {V : Type 0} → (S → Option V) → S → List ℕ → Option V
  value_from ended q [] = ended q
  value_from ended q (b ∷ bs) = option_and_then (λ to. value_from ended to bs) (next q b)
