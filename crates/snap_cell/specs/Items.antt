-- The items of a reader, each with its point: how many operations had been published there.
use Rattle.std.specs.Prelude.{ℕ, ◌≡◌, ◌≤◌, List, [], ◌∷◌, ◌++◌, Option, Some, None, slice_get}
use Rattle.std.specs.declared.snapshot.Snapshot.{Snapshot}
use Rattle.snap_cell.specs.declared.trail.Trail.{Trail, Empty, Next'}

module _ {Q : Type 0} where
  abbrev pub items_in : Trail Q → List (Q × ℕ)
  items_in Empty = []
  items_in (Next' shape before item point) = items_in before ++ (item.value, point) ∷ []

  -- one item more at this point, or none
  abbrev pub added : List (Q × ℕ) → Option (Snapshot Q) → ℕ → List (Q × ℕ)
  added items None point = items
  added items (Some item) point = items ++ (item.value, point) ∷ []

  -- points never fall, and none is above the end
  pub record InOrder (items : List (Q × ℕ)) (end : ℕ) : Type 0 where
    pub rising : (i j : ℕ) (x y : Q × ℕ) → i ≤ j → slice_get items i ≡ Some x
        → slice_get items j ≡ Some y → x.1 ≤ y.1
    pub within : (i : ℕ) (x : Q × ℕ) → slice_get items i ≡ Some x → x.1 ≤ end
