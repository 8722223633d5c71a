-- What leads to something known, in rounds.
use Rattle.std.specs.Prelude.{◌≡◌, ℕ, zero, suc, ◌+◌, ◌<◌, Bool, true, false, not, ◌&&◌, ◌||◌}
use Rattle.std.specs.Prelude.{if◌then◌else◌, List, [], ◌∷◌, ◌++◌, length, slice_index_or, slice_set}

-- whether some member is in both
abbrev pub overlap : List Bool → List Bool → Bool
overlap [] known = false
overlap (r ∷ rs) [] = false
overlap (r ∷ rs) (k ∷ ks) = (r && k) || overlap rs ks

-- what is known by itself, and what leads to something that was known before
abbrev pub next_round : List Bool → List (List Bool) → List Bool → List Bool
next_round [] rows known = []
next_round (s ∷ ss) [] known = []
next_round (s ∷ ss) (r ∷ rs) known = (s || overlap r known) ∷ next_round ss rs known

-- what is known after so many rounds, of which these are known by themselves, and where each row
-- says what one leads to
abbrev pub after_rounds : List Bool → List (List Bool) → ℕ → List Bool
after_rounds own rows zero = own
after_rounds own rows (suc rounds) = next_round own rows (after_rounds own rows rounds)

-- whether a place of a list is true
abbrev pub holds : List Bool → ℕ → Bool
holds known at = slice_index_or known at false

-- whether one leads to another
abbrev pub leads : List (List Bool) → ℕ → ℕ → Bool
leads rows at to = holds (slice_index_or rows at []) to

-- how many are known
abbrev pub count_known : List Bool → ℕ
count_known [] = 0
count_known (k ∷ ks) = (if k then 1 else 0) + count_known ks

-- what is known, and the places of those in the order in which they were found. As many rounds as
-- were found lead to each
pub record IsFound (own : List Bool) (rows : List (List Bool)) (known : List Bool) (order : List ℕ)
    : Type 0 where
  pub size : length known ≡ length own
  pub counted : count_known known ≡ length order
  pub all_known : (k : ℕ) → k < length order → holds known (slice_index_or order k 0) ≡ true
  pub all_listed : (at : ℕ) → holds known at ≡ true
      → (k : ℕ) × (k < length order) × (slice_index_or order k 0 ≡ at)
  pub sound : (at : ℕ) → holds known at ≡ true
      → holds (after_rounds own rows (length order)) at ≡ true

-- all of some are known
abbrev pub AreKnown : List Bool → List Bool → Type 0
AreKnown own known = (at : ℕ) → holds own at ≡ true → holds known at ≡ true

-- all that lead to one are known, of the first so many
abbrev pub LeadersKnown : List (List Bool) → List Bool → ℕ → ℕ → Type 0
LeadersKnown rows known to most =
    (at : ℕ) → at < most → leads rows at to ≡ true → holds known at ≡ true

-- what is known stays so, and what is found comes behind what was found before
pub record Grows (known more : List Bool) (order longer : List ℕ) : Type 0 where
  pub keeps : AreKnown known more
  pub found : List ℕ
  pub behind : longer ≡ order ++ found

-- what is known where a place is found, if it is
abbrev pub with_known : List Bool → ℕ → Bool → List Bool
with_known known at is_found = if is_found then slice_set known at true else known

abbrev pub with_order : List Bool → List ℕ → ℕ → Bool → List ℕ
with_order known order at is_found =
    if is_found && not (holds known at) then order ++ at ∷ [] else order
