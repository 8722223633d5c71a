-- How far a choice has come, and what it comes to.
use Rattle.std.specs.Prelude.{ℕ, ◌+◌, ◌<◌, ◌≤◌, ◌^◌, List, length, Option, Some, None}
use Rattle.addr_book.specs.declared.bound.BoundItem.{BoundItem}
use Rattle.addr_book.specs.declared.leaf.Leaf.{Leaf}
use Rattle.addr_book.specs.Book.{Services}
use Rattle.addr_book.specs.Bound.{listed_items}
use Rattle.addr_book.specs.Found.{Found, many, member, AreFilled, AreBounded}
use Rattle.addr_book.proofs.Bounds.{list_size}
use Rattle.choose_core.specs.declared.way.Among.{Among}
use Rattle.choose_core.specs.declared.way.Reached.{Reached}
use Rattle.choose_core.specs.declared.way.Reached.TheVariants.{Leaf as the_leaf}
use Rattle.choose_core.specs.declared.way.Reached.TheVariants.{Among as among_items}
use Rattle.choose_core.specs.declared.way.Turn.{Turn}
use Rattle.choose_core.specs.declared.way.Turn.TheVariants.{Into, Away}
use Rattle.choose_core.specs.declared.way.Way.{Way, Word, Through'}
use Rattle.choose_core.specs.Branch.{pruned_members, total_weight, branch_of, branch_over}

-- the leaf that a choice among some branches comes to
abbrev pub leaf_among : Services → Among → Option Leaf
leaf_among services among =
    branch_over (pruned_members services (listed_items among.items.now)) among.over among.word

-- the leaf that a choice comes to
abbrev pub leaf_in : Services → Reached → Option Leaf
leaf_in services (the_leaf leaf) = Some leaf.now
leaf_in services (among_items among) = leaf_among services among

-- the leaf that a choice comes to which goes on here, in what is left of a bound
abbrev pub turned : Services → Found → Turn → Option Leaf
turned services found (Into word) = branch_of found word
turned services found (Away among) = leaf_among services among

-- the leaf that a word chooses above a way, at the end of which this is left
abbrev pub through : Services → Way → Found → Option Leaf
through services (Word word) found = branch_of found word
through services (Through' weight later p above) found =
    through services above (many
    (member weight found (pruned_members services (listed_items later.now))))

-- a branch and those behind it in its union: no weight is 0 or too large, and there are not too
-- many
pub record IsBranch (weight : ℕ) (later : List BoundItem) : Type 0 where
  pub some : 0 < weight
  pub small : weight ≤ 999999999999
  pub few : length later + 1 ≤ 65536
  pub filled : AreFilled (listed_items later)
  pub bounded : AreBounded (listed_items later)

-- so is each branch on the way
abbrev pub IsGoodWay : Way → Type 0
IsGoodWay (Word word) = word < 2 ^ 64
IsGoodWay (Through' weight later p above) = IsBranch weight later.now × IsGoodWay above

-- the number falls on one of the branches of which something is left
pub record IsGoodAmong (services : Services) (among : Among) : Type 0 where
  pub few : length among.items.now ≤ 65536
  pub filled : AreFilled (listed_items among.items.now)
  pub bounded : AreBounded (listed_items among.items.now)
  pub over : among.over < total_weight (pruned_members services (listed_items among.items.now))
  pub word : among.word < 2 ^ 64

abbrev pub IsGoodTurn : Services → Turn → Type 0
IsGoodTurn services (Into word) = word < 2 ^ 64
IsGoodTurn services (Away among) = IsGoodAmong services among

abbrev pub IsGoodChoice : Services → Reached → Type 0
IsGoodChoice services (the_leaf leaf) = Unit {0}
IsGoodChoice services (among_items among) = IsGoodAmong services among

-- how many leaves and unions some branches have
abbrev pub items_size : List BoundItem → ℕ
items_size items = list_size (listed_items items)

-- how many may still be looked at
abbrev pub turn_size : Turn → ℕ
turn_size (Into word) = 0
turn_size (Away among) = items_size among.items.now

abbrev pub choice_size : Reached → ℕ
choice_size (the_leaf leaf) = 0
choice_size (among_items among) = items_size among.items.now

abbrev pub way_size : Way → ℕ
way_size (Word word) = 0
way_size (Through' weight later p above) = items_size later.now + way_size above

abbrev pub choice_left : Option Reached → ℕ
choice_left None = 0
choice_left (Some choice) = choice_size choice + 1
