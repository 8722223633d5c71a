-- Bytes that grow in two steps.
use Rattle.std.proofs.Common.{◌≡◌, ℕ, List, ◌++◌, ap, ◌∙◌, append_assoc}
use Rattle.name_tree.specs.Growth.{Grows}

-- behind a text that was put
pub grows_behind : (old text mid new : List ℕ) → mid ≡ old ++ text → Grows mid new → Grows old new
grows_behind old text mid new is more = (
  text ++ more.0,
  more.1 ∙ ap (λ (bytes : List ℕ). bytes ++ more.0) is
      ∙ append_assoc old text more.0,
)
