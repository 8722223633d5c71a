-- What the end of a router shows.
use Rattle.std.specs.Prelude.{ℕ, ◌≡◌, ◌==◌, ◌&&◌, not, List, All, filter, map, slice_get, sum_by}
use Rattle.std.specs.Prelude.{Some}
use mathlib.Core.List.{IsPrefix}
use Rattle.one_history.specs.Entries.{entries}
use Rattle.one_history.specs.Order.{InOrder}
use Rattle.router_log.specs.Call.{publishes}
use Rattle.router_log.specs.Operation.{Operation, is_change, caller_of, place_of, kept_count}
use Rattle.router_log.specs.Value.{AllFit, opening_value}
use Rattle.router.specs.declared.naming.Naming.{Ghosts}
use Rattle.router.specs.declared.pass.Pass.{Pass}
use Rattle.router.specs.Passes.{number_in, seen_in, items_in, made_in, kept_in}

-- the kept delegations of a list that a pass with this number gave
abbrev pub own_kept : ℕ → List Operation → List Operation
own_kept number ops = filter (λ op. not (is_change op) && (caller_of op == number)) ops

module _ {J : Type 0} {g : Ghosts J} where
  -- what its calls published, in a list that begins with what it has seen
  abbrev pub published_in : List Operation → Pass J g → List Operation
  published_in ops p =
      map (λ e. e.0) (entries is_change (publishes g.settings) (number_in p) ops (items_in p))

  abbrev pub numbers_of : List (Pass J g) → List ℕ
  numbers_of ps = map number_in ps

  -- what a pass has seen begins the list, its calls stand in order in that, and the list has no
  -- other change and no other kept delegation of its own
  pub record IsOf (ops : List Operation) (p : Pass J g) : Type 0 where
    pub seen : IsPrefix (seen_in p) ops
    pub order : InOrder is_change (publishes g.settings) caller_of (number_in p) ops (items_in p)
    pub kept : own_kept (number_in p) ops ≡ filter (λ op. not (is_change op)) (published_in ops p)

  -- there was one list of operations, with so many changes, which is how many the passes made, and
  -- as many kept delegations as they gave. Each operation fitted where it was published, and was
  -- published by one of the passes
  pub record IsClosed (place : ℕ) (passes : List (Pass J g)) : Type 0 where
    pub ops : List Operation
    pub place_is : place_of ops ≡ place
    pub made : sum_by made_in passes ≡ place
    pub kept : sum_by kept_in passes ≡ kept_count ops
    pub fit : AllFit g.settings opening_value ops
    pub passes_are : All (IsOf ops) passes
    pub callers : All
        (λ op. (i : ℕ) × (p : Pass J g) × (slice_get passes i ≡ Some p)
        × (caller_of op ≡ number_in p)) ops
