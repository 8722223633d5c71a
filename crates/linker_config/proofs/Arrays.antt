-- Arrays by the number of their elements.
use Rattle.std.proofs.Common.{◌≡◌, ◌≢◌, List, [], ◌∷◌, length, None, refl}
use Rattle.serde_json.specs.declared.value.Value.{Value}
use Rattle.serde_json.specs.View.{items_view}
use Rattle.linker_config.specs.Values.{at_most_one, only}

pub only-other : (vs : List Value) → length vs ≢ 1 → only (items_view vs) ≡ None
only-other [] h = refl
only-other (v ∷ []) h = absurd (h refl)
only-other (v ∷ w ∷ vs) h = refl

pub at_most_one-more : (vs : List Value) → length vs ≢ 0 → length vs ≢ 1
    → at_most_one (items_view vs) ≡ None
at_most_one-more [] h g = absurd (h refl)
at_most_one-more (v ∷ []) h g = absurd (g refl)
at_most_one-more (v ∷ w ∷ vs) h g = refl
