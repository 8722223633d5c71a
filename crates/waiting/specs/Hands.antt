-- What a worker left and took.
use Rattle.std.specs.Prelude.{◌≡◌, ℕ, ◌+◌, Option, Some, None}
use Rattle.waiting.specs.declared.hand.Hand.{Hand}

module _ {A B : Type 0} where
  -- how many connections it left
  abbrev pub left_by : Hand A B → ℕ
  left_by h = h.left.amount

  -- how many it took
  abbrev pub taken_by : Hand A B → ℕ
  taken_by h = h.taken.amount

  -- it left and took nothing
  pub record IsNew (h : Hand A B) : Type 0 where
    pub left_is : left_by h ≡ 0
    pub taken_is : taken_by h ≡ 0

  -- it left so many more, and took so many more
  pub record Counts (old new : Hand A B) (left taken : ℕ) : Type 0 where
    pub left_is : left_by new ≡ left_by old + left
    pub taken_is : taken_by new ≡ taken_by old + taken

-- how many were taken by a call that gave this
abbrev pub taken_of : {C : Type 0} → Option C → ℕ
taken_of None = 0
taken_of (Some connection) = 1
