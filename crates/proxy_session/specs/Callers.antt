-- What an exchange does with its pass, over plain lists.
use Rattle.std.specs.Prelude.{◌≡◌, ℕ, Bool, false, List, ◌++◌, length, Option, None}
use Rattle.std.specs.Option.{option_to_list}
use mathlib.Core.List.{IsPrefix}
use Rattle.addr_book.specs.declared.addr.Addr.{Addr}
use Rattle.bind_cache.specs.Kept.{Kept}
use Rattle.machine.specs.Values.{SettingsValue, StateValue, AskValue, PickValue, report}
use Rattle.one_history.specs.Calls.{Called}
use Rattle.router_log.specs.Operation.{Operation, is_change}
use Rattle.router_log.specs.Call.{Call, asked, changing, keeping, publishes}
use Rattle.router_log.specs.Value.{value_of}
use Rattle.router.specs.Chosen.{IsPermitted}
use Rattle.router.specs.Picked.{IsAsked, IsWorkedOut, is_kept_for}
use Rattle.router.specs.declared.naming.Naming.{Ghosts}
use Rattle.router.specs.declared.pass.Pass.{Pass}
use Rattle.router.specs.Passes.{number_in, seen_in, items_in, reads_in, taken_in, slot_in}

-- a pass, but for how often it was not let in: its number, what it has seen of the list of all
-- operations, its calls with their points in that list, what it read of the loads, the slots that
-- it took, and the one that it holds
pub record Caller : Type 0 where
  pub number : ℕ
  pub seen : List Operation
  pub items : List (Call × ℕ)
  pub reads : List (ℕ × ℕ)
  pub taken : List ℕ
  pub slot : Option ℕ

module _ {J : Type 0} {g : Ghosts J} where
  abbrev pub caller_of : Pass J g → Caller
  caller_of p = record {
    number = number_in p;
    seen = seen_in p;
    items = items_in p;
    reads = reads_in p;
    taken = taken_in p;
    slot = slot_in p;
  }

-- One call: what had been seen begins what is seen then; the call is one item more, at a point no
-- earlier than what had been seen; and what it published stands there
abbrev pub Makes : SettingsValue → Caller → Caller → Call → ℕ → Type 0
Makes settings old new call at =
    Called is_change (publishes settings) old.number old.seen new.seen old.items new.items call at

-- the slots stay
pub record SameSlots (old new : Caller) : Type 0 where
  pub taken : new.taken ≡ old.taken
  pub slot : new.slot ≡ old.slot

-- an ask, at the end of what is seen then
pub record Asks (settings : SettingsValue) (old new : Caller) (ask : AskValue) : Type 0 where
  pub number : new.number ≡ old.number
  pub called : Makes settings old new (asked ask) (length new.seen)
  pub slots : SameSlots old new

-- an ask at whose point nothing is kept for it. No load was read
pub record Misses (settings : SettingsValue) (old new : Caller) (ask : AskValue) : Type 0 where
  pub asks : Asks settings old new ask
  pub nothing : is_kept_for (value_of settings new.seen) ask ≡ false
  pub reads : new.reads ≡ old.reads

-- an ask at whose point something is kept for it or not, with the one answer that full delegation
-- in the state there permits for the loads that were read
pub record Finds
    (settings : SettingsValue) (old new : Caller) (ask : AskValue) (kept : Bool) (said : PickValue)
    : Type 0 where
  pub asks : Asks settings old new ask
  pub is_kept : is_kept_for (value_of settings new.seen) ask ≡ kept
  pub loads : ℕ × ℕ
  pub permitted :
      IsPermitted settings (value_of settings new.seen).state ask old.reads new.reads loads said

-- a delegation was given back, to be kept
pub record Returns (settings : SettingsValue) (old new : Caller) (binding : Kept) : Type 0 where
  pub at : ℕ
  pub number : new.number ≡ old.number
  pub called : Makes settings old new (keeping binding) at
  pub reads : new.reads ≡ old.reads
  pub slots : SameSlots old new

-- it is the one that was worked out for an ask in a state
pub record Remembers
    (settings : SettingsValue) (state : StateValue) (old new : Caller) (ask : AskValue)
    : Type 0 where
  pub binding : Kept
  pub is_asked : IsAsked ask binding
  pub worked_out : IsWorkedOut settings state binding
  pub returns : Returns settings old new binding

-- it may have seen more, and called nothing
pub record SeesMore (old new : Caller) : Type 0 where
  pub number : new.number ≡ old.number
  pub seen : IsPrefix old.seen new.seen
  pub items : new.items ≡ old.items
  pub reads : new.reads ≡ old.reads
  pub slots : SameSlots old new

-- a report on an address
pub record Reports
    (settings : SettingsValue) (old new : Caller) (addr : Addr) (good : Bool) (moment : ℕ)
    : Type 0 where
  pub at : ℕ
  pub number : new.number ≡ old.number
  pub called : Makes settings old new (changing (report addr good moment)) at
  pub reads : new.reads ≡ old.reads
  pub slots : SameSlots old new

-- the slot of a replica was held for a time, if it has one
pub record Holds (old new : Caller) (replica : Option ℕ) : Type 0 where
  pub number : new.number ≡ old.number
  pub seen : new.seen ≡ old.seen
  pub items : new.items ≡ old.items
  pub reads : new.reads ≡ old.reads
  pub taken : new.taken ≡ old.taken ++ option_to_list replica
  pub slot : new.slot ≡ None
