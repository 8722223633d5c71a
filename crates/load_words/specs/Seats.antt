-- What contracts say of the words and of a seat.
use Rattle.std.specs.Prelude.{◌≡◌, ℕ, List, [], Option, None}
use Rattle.atomic_table.specs.Seated.{TableId}
use Rattle.load_words.specs.declared.rule.Tally.{Tally}
use Rattle.load_words.specs.declared.words.LoadSeat.{LoadSeat}
use Rattle.load_words.specs.declared.words.Loads.{Loads}

-- which words they are, and how many seats were made with them. A contract that ties a seat to the
-- words compares two of these
pub record Words : Type 0 where
  pub table : TableId
  pub seats : ℕ

abbrev pub words_of : Loads → Words
words_of loads = record { table = loads.table.shared.table_id; seats = loads.table.shared.key }

-- how many seats were made with the words
abbrev pub seats_of : Loads → ℕ
seats_of loads = (words_of loads).seats

abbrev pub tally : LoadSeat → Tally
tally seat = seat.seat.me.0

-- the words that a seat was made with
abbrev pub words_of_seat : LoadSeat → Words
words_of_seat seat = record { table = seat.seat.table_id; seats = (tally seat).seats }

-- the slot that a seat holds
abbrev pub slot_of : LoadSeat → Option ℕ
slot_of seat = (tally seat).slot

-- the slots that a seat read, in order, with the numbers found
abbrev pub reads_of : LoadSeat → List (ℕ × ℕ)
reads_of seat = (tally seat).reads

-- the slots that a seat took, in order
abbrev pub taken_of : LoadSeat → List ℕ
taken_of seat = (tally seat).taken

-- a seat was made with the words
abbrev pub IsOf : Loads → LoadSeat → Type 0
IsOf loads seat = words_of_seat seat ≡ words_of loads

-- a seat holds nothing and did nothing
abbrev pub IsUnused : LoadSeat → Type 0
IsUnused seat = (slot_of seat ≡ None) × (reads_of seat ≡ []) × (taken_of seat ≡ [])
