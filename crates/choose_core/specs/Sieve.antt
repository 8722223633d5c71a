-- What passes through a sieve of the code.
use Rattle.std.specs.Prelude.{◌≡◌, ℕ, ◌<◌, Bool, ◌||◌, false, List, length, filter, slice_index_or}
use Rattle.addr_book.specs.declared.addr.Weighted.{Weighted}
use Rattle.addr_book.specs.SlotSet.{has_slot}
use Rattle.choose_core.specs.declared.bits.Bits.{Bits}
use Rattle.choose_core.specs.declared.mark.Limits.{Limits}
use Rattle.choose_core.specs.declared.sieve.Sieve.{Sieve}
use Rattle.choose_core.specs.Live.{is_alive}
use Rattle.choose_core.specs.Marks.{MarkMap}

abbrev pub passes : Sieve → Weighted → Bool
passes sieve item = sieve.all || is_alive sieve.marks.now sieve.moment sieve.limits item

abbrev pub passing : Sieve → List Weighted → List Weighted
passing sieve list = filter (passes sieve) list

-- of the first 1,024 addresses of a list, these bits tell which are alive
abbrev pub AreAlive : MarkMap → ℕ → Limits → List Weighted → Bits → Type 0
AreAlive marks moment limits list alive =
    (at : ℕ) (d : Weighted) → at < length list → at < 1024
    → has_slot alive.words at ≡ is_alive marks moment limits (slice_index_or list at d)

-- a sieve through which not all pass tells of the address at a place whether it is alive
abbrev pub TellsAt : Sieve → ℕ → Weighted → Type 0
TellsAt sieve at item =
    sieve.all ≡ false → at < 1024
    → has_slot sieve.alive.words at ≡ is_alive sieve.marks.now sieve.moment sieve.limits item

-- so it does of each place of a list
abbrev pub TellsOf : Sieve → List Weighted → Type 0
TellsOf sieve list =
    (at : ℕ) (d : Weighted) → at < length list → TellsAt sieve at (slice_index_or list at d)
