-- What a pick reads of the loads.
use Rattle.std.specs.Prelude.{◌≡◌, ℕ, List, [], ◌∷◌, ◌++◌, ◌⊎◌, Option, Some, None}
use Rattle.machine.specs.Choosing.{Offer, either, neither}

-- the slots that are read, in order, with the loads that are found
abbrev pub reads_for : Option (ℕ × ℕ) → ℕ × ℕ → List (ℕ × ℕ)
reads_for None found = []
reads_for (Some slots) found = (slots.0, found.0) ∷ (slots.1, found.1) ∷ []

-- an address by itself has no slot, and counts as without load
abbrev pub AreLoads : Option (ℕ × ℕ) → ℕ × ℕ → Type 0
AreLoads None found = (found.0 ≡ 0) × (found.1 ≡ 0)
AreLoads (Some slots) found = Unit {0}

-- so for what a pick comes to before any load is read
abbrev pub reads_at : Offer → ℕ × ℕ → List (ℕ × ℕ)
reads_at (either pair) found = reads_for pair.slots found
reads_at (neither why) found = []

abbrev pub AreLoadsAt : Offer → ℕ × ℕ → Type 0
AreLoadsAt (either pair) found = AreLoads pair.slots found
AreLoadsAt (neither why) found = AreLoads None found

-- a pick that was not answered read nothing, or all that it reads
abbrev pub MayHaveRead : Offer → List (ℕ × ℕ) → List (ℕ × ℕ) → Type 0
MayHaveRead offer before after =
    (after ≡ before) ⊎ ((loads : ℕ × ℕ) × (after ≡ before ++ reads_at offer loads)
    × AreLoadsAt offer loads)
