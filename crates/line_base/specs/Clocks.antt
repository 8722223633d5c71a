-- What a clock gives, where it tells the moments to come.
use Rattle.std.specs.Prelude.{◌≡◌, ℕ, List, [], ◌∷◌, Option, Some, None}

-- the first of the moments to come, and 0 where there are none
abbrev pub next_moment : List ℕ → ℕ
next_moment [] = 0
next_moment (m ∷ ms) = m

-- those behind it: the last one stays
abbrev pub moments_after : List ℕ → List ℕ
moments_after [] = []
moments_after (m ∷ []) = m ∷ []
moments_after (m ∷ n ∷ ms) = n ∷ ms

-- the clock gave this moment
abbrev pub Tells : Option (List ℕ) → Option (List ℕ) → ℕ → Type 0
Tells None new moment = Unit {0}
Tells (Some old) new moment = (moment ≡ next_moment old) × (new ≡ Some (moments_after old))

-- a fork begins at the first moment, where it tells its moments
abbrev pub Begins : Option (List ℕ) → Option (List ℕ) → Type 0
Begins None moments = Unit {0}
Begins (Some all) None = Unit {0}
Begins (Some all) (Some moments) = moments ≡ all
