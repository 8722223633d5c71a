-- What contracts see of a pass, and how calls move it.
use Rattle.std.specs.Prelude.{◌≡◌, ℕ, ◌+◌, ◌-◌, ◌^◌, ◌≤◌, min, List, Option, length}
use mathlib.Core.List.{IsPrefix}
use Rattle.snap_cell.specs.Views.{number_of, refusals_of}
use Rattle.load_words.specs.Seats.{reads_of, taken_of, slot_of}
use Rattle.one_history.specs.Entries.{changes_made, others_made}
use Rattle.one_history.specs.Calls as calls
use Rattle.router_log.specs.Operation.{Operation, is_change}
use Rattle.router_log.specs.Call.{Call, publishes}
use Rattle.router.specs.declared.naming.Naming.{Ghosts}
use Rattle.router.specs.declared.pass.Pass.{Pass}
use Rattle.router.specs.Views.{seen_by, items_by}

module _ {J : Type 0} {g : Ghosts J} where
  abbrev pub number_in : Pass J g → ℕ
  number_in p = number_of p.reader

  -- the operations that it has seen, which begin the list of all
  abbrev pub seen_in : Pass J g → List Operation
  seen_in p = seen_by p.reader

  -- its calls, each with its point: how many operations stood before it
  abbrev pub items_in : Pass J g → List (Call × ℕ)
  items_in p = items_by p.reader

  -- how often it was not let in
  abbrev pub refusals_in : Pass J g → ℕ
  refusals_in p = refusals_of p.reader

  -- the slots that it read, with the loads that it found, and the slots that it took
  abbrev pub reads_in : Pass J g → List (ℕ × ℕ)
  reads_in p = reads_of p.seat

  abbrev pub taken_in : Pass J g → List ℕ
  taken_in p = taken_of p.seat

  -- the slot that it holds
  abbrev pub slot_in : Pass J g → Option ℕ
  slot_in p = slot_of p.seat

  -- how many changes its calls published, and how many of its delegations are kept
  abbrev pub made_in : Pass J g → ℕ
  made_in p = changes_made is_change (publishes g.settings) (number_in p) (seen_in p) (items_in p)

  abbrev pub kept_in : Pass J g → ℕ
  kept_in p = others_made is_change (publishes g.settings) (number_in p) (seen_in p) (items_in p)

  -- One call: what it had seen begins what it has seen then; the call is one item more, at a point
  -- no earlier than what had been seen; and what the call published, if anything, stands there at
  -- that point
  abbrev pub Called : Pass J g → Pass J g → Call → ℕ → Type 0
  Called old new call at =
      calls.Called is_change (publishes g.settings) (number_in old) (seen_in old) (seen_in new)
      (items_in old) (items_in new) call at

  -- no load was read, and the slots stay
  pub record SameSeat (old new : Pass J g) : Type 0 where
    pub reads : reads_in new ≡ reads_in old
    pub taken : taken_in new ≡ taken_in old
    pub slot : slot_in new ≡ slot_in old

  -- it is as it was, but for its seat at the load words
  pub record SameReading (old new : Pass J g) : Type 0 where
    pub number : number_in new ≡ number_in old
    pub seen : seen_in new ≡ seen_in old
    pub items : items_in new ≡ items_in old
    pub refusals : refusals_in new ≡ refusals_in old

  -- it was not let in: the number of refusals rose, or stands at its last value, and all else is as
  -- before
  pub record NotLetIn (old new : Pass J g) : Type 0 where
    pub refusals : refusals_in new ≡ min (refusals_in old + 1) (2 ^ 64 - 1)
    pub seen : seen_in new ≡ seen_in old
    pub items : items_in new ≡ items_in old
    pub seat : SameSeat old new

  -- it may have seen more, and nothing was called
  pub record SawMore (old new : Pass J g) : Type 0 where
    pub seen : IsPrefix (seen_in old) (seen_in new)
    pub items : items_in new ≡ items_in old
    pub refusals : refusals_in new ≡ refusals_in old
    pub seat : SameSeat old new

  -- a change was not answered: the pass may have seen more, and may not have been let in, which its
  -- count of refusals shows; nothing was called
  pub record Unanswered (old new : Pass J g) : Type 0 where
    pub seen : IsPrefix (seen_in old) (seen_in new)
    pub items : items_in new ≡ items_in old
    pub refusals : refusals_in old ≤ refusals_in new
    pub seat : SameSeat old new

  -- it entered for a call that publishes nothing, which stands at the end of what it has seen then
  pub record Entered (old new : Pass J g) (call : Call) : Type 0 where
    pub called : Called old new call (length (seen_in new))
    pub made : made_in new ≡ made_in old
    pub kept : kept_in new ≡ kept_in old
    pub refusals : refusals_in new ≡ refusals_in old
    pub taken : taken_in new ≡ taken_in old
    pub slot : slot_in new ≡ slot_in old
