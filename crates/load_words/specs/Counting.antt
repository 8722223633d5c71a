-- Words that count the seats which hold a slot, and what one step does to what its seat knows.
use Rattle.std.specs.Prelude.{◌≡◌, ℕ, ◌+◌, ◌-◌, ◌<◌, ◌≤◌, ◌==◌, List, [], ◌∷◌, ◌++◌, length}
use Rattle.std.specs.Prelude.{slice_index, if◌then◌else◌, Option, Some, None}
use mathlib.Core.Option.{some}
use lib.ListN.{get_elem?}
use Rattle.atomic_table.specs.Table.{State}
use Rattle.load_words.specs.declared.rule.Tally.{Tally}

-- 1 if a seat holds the slot k, and else 0
abbrev pub holds_one : ℕ → Option ℕ → ℕ
holds_one k None = 0
holds_one k (Some held) = if held == k then 1 else 0

-- how many seats hold the slot k
abbrev pub holders : ℕ → List Tally → ℕ
holders k [] = 0
holders k (v ∷ vs) = holds_one k v.slot + holders k vs

-- how many parts the seats have
abbrev pub all_parts : List Tally → ℕ
all_parts [] = 0
all_parts (v ∷ vs) = v.parts + all_parts vs

-- a seat that holds a slot has a part
abbrev pub HasPart : Option ℕ → ℕ → Type 0
HasPart None parts = Unit {0}
HasPart (Some held) parts = 0 < parts

-- Each of the 8,192 words is the number of seats that hold its slot. Seats that hold a slot have a
-- part each, and there are no more parts than seats were made: so no word is greater, nor wraps
pub record WordsCountHolders (seats : ℕ) (s : State (Unit {0}) Tally) : Type 0 where
  pub words : length s.words ≡ 8192
  pub each : (slot : ℕ) → slot < 8192 → slice_index s.words slot ≡ holders slot s.views
  pub limit : seats ≤ 1024
  pub parts : all_parts s.views ≤ seats
  pub holding : (id : ℕ) (v : Tally) → get_elem? s.views id ≡ some v → HasPart v.slot v.parts
  pub same : (id : ℕ) (v : Tally) → get_elem? s.views id ≡ some v → 0 < v.parts → v.seats ≡ seats

-- a seat that holds nothing and did nothing
abbrev pub fresh : ℕ → ℕ → Tally
fresh seats parts = record { seats = seats; parts = parts; slot = None; reads = []; taken = [] }

-- the first seat has all parts
abbrev pub opened : ℕ → Tally
opened seats = fresh seats seats

-- split: one part goes to a new seat
abbrev pub less_one_part : Tally → Tally
less_one_part v = record v { parts = v.parts - 1 }

abbrev pub with_one_part : Tally → Tally
with_one_part v = fresh v.seats 1

-- join: a seat has the parts of another too, which has none any more
abbrev pub joined : Tally → Tally → Tally
joined v w = record v { parts = v.parts + w.parts }

abbrev pub spent : Tally
spent = fresh 0 0

-- load: the number found is at most that of the seats, and at least 1 where the seat holds the slot
abbrev pub Loaded : ℕ → ℕ → Tally → Tally → Type 0
Loaded slot found old new =
    (new ≡ record old { reads = old.reads ++ (slot, found) ∷ [] }) × (found ≤ old.seats)
    × (old.slot ≡ Some slot → 1 ≤ found)

-- add
abbrev pub Added : ℕ → Tally → Tally → Type 0
Added slot old new = new ≡ record old { slot = Some slot; taken = old.taken ++ slot ∷ [] }

-- subtract
abbrev pub Subtracted : Tally → Tally → Type 0
Subtracted old new = new ≡ record old { slot = None }
