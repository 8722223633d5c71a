-- What holds of the copy that readers enter, and what an entry and a publish tell.
use Rattle.std.specs.Prelude.{ℕ, ◌≡◌, ◌<◌, ◌++◌, [], ◌∷◌, List, Option, Some, None, fold}
use Rattle.snap_cell.specs.declared.history.Prefix.{Prefix}
use Rattle.snap_cell.specs.declared.kept.Entry.{Entry}
use mathlib.Core.Option.{some}
use lib.ListN.{get_elem?}
use Rattle.snap_cell.specs.declared.kept.Origin.{Origin}
use Rattle.snap_cell.specs.declared.kept.Kept.{Kept}
use Rattle.snap_cell.specs.Legal.{Legal}

module _ {V S O : Type 0} (state : V → S) (applied : S → O → S) (Fits : S → O → Type 0)
    (caller : O → ℕ) where
  -- a copy is the fold of its operations, which are legal
  pub record Sound (k : Kept V O) : Type 0 where
    pub folded : state k.value ≡ fold applied (state k.origin.opening.value) k.known.seen.log
    pub legal : Legal applied Fits caller (state k.origin.opening.value) k.origin.readers
        k.known.seen.log
    pub one_list : k.known.seen.book ≡ k.origin.empty.book

  -- the copy is sound, and is of the cell that each handle knows
  pub record Holds (k : Kept V O) (views : List (Option (Origin V O))) : Type 0 where
    pub sound : Sound k
    pub known : (seat : ℕ) (o : Origin V O) → get_elem? views seat ≡ some (Some o) → k.origin ≡ o

  -- what was entered is sound, and of the cell that the handle knows
  abbrev pub Enters : Option (Origin V O) → Kept V O → Kept V O → Option (Origin V O) → Type 0
  Enters v x y w = (w ≡ v) × Sound y × ((o : Origin V O) → v ≡ Some o → y.origin ≡ o)

  -- what was published is of the cell that the writer then knows
  abbrev pub Shows : Option (Origin V O) → Kept V O → Kept V O → Option (Origin V O) → Type 0
  Shows v x y w = (w ≡ Some y.origin) × Sound y

module _ {V S O : Type 0} (Fits : S → O → Type 0) (caller : O → ℕ) (applied : S → O → S)
    (state : V → S) where
  -- one operation is pending, with the list that ends with it, and it may be published
  abbrev pub IsReady : Kept V O → List (Entry O) → Type 0
  IsReady x pending =
      (op : O) × (known : Prefix O)
      × (pending ≡ (record { operation = Some op; known = known }) ∷ [])
      × (known.seen.log ≡ x.known.seen.log ++ op ∷ [])
      × (known.seen.book ≡ x.known.seen.book)
      × Fits (fold applied (state x.origin.opening.value) x.known.seen.log) op
      × (caller op < x.origin.readers)

module _ {V O : Type 0} where
  -- the copy that is shown has these operations and is of this cell, which the writer knows
  abbrev pub Stands : Origin V O → Prefix O → Kept V O → Option (Origin V O) → Type 0
  Stands origin known y w = (y.known ≡ known) × (y.origin ≡ origin) × (w ≡ Some origin)

  -- the copy that is shown has the operations of each entry that was pending
  abbrev pub Follows : Kept V O → List (Entry O) → Kept V O → Option (Origin V O) → Type 0
  Follows x pending y w = (e : Entry O) → pending ≡ e ∷ [] → Stands x.origin e.known y w

  -- an entry without an operation is pending, with the copy's list
  abbrev pub Opens : Kept V O → List (Entry O) → Type 0
  Opens x pending = pending ≡ (record { operation = None; known = x.known }) ∷ []

  -- the copy with which a cell begins
  pub record IsFirst (k : Kept V O) : Type 0 where
    pub opening : k.value ≡ k.origin.opening.value
    pub empty : k.known.seen.log ≡ []
    pub one_list : k.known.seen.book ≡ k.origin.empty.book
