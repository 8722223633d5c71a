-- The hands of workers at the lots.
use Rattle.std.specs.Prelude.{◌≡◌, ◌+◌, ℕ, All, List, sum_by}
use Rattle.waiting.specs.declared.hand.Hand.{Hand}
use Rattle.waiting.specs.Hands.{IsNew, left_by, taken_by}

module _ {A B : Type 0} where
  -- with none of them anything was left or taken
  abbrev pub AreNewHands : List (Hand A B) → Type 0
  AreNewHands hands = All IsNew hands

  -- with these hands, which are all, so many more were left than were taken
  abbrev pub LeftMore : List (Hand A B) → ℕ → Type 0
  LeftMore hands waiting = sum_by left_by hands ≡ sum_by taken_by hands + waiting
