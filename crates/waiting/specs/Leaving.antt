-- What comes of a connection that is left.
use Rattle.std.specs.Prelude.{◌≡◌, ℕ, ◌<◌, length}
use Rattle.waiting.specs.declared.left.Left.{Left}
use Rattle.waiting.specs.declared.left.Left.TheVariants as left
use Rattle.waiting.specs.Waiting.{Line, TakesOldest, joined}

-- how many were left, and how many were taken, by a call that gave this
abbrev pub left_in : {C : Type 0} → Left C → ℕ
left_in left.Waits = 1
left_in (left.Displaced oldest) = 1
left_in (left.Back connection) = 0

abbrev pub taken_in : {C : Type 0} → Left C → ℕ
taken_in left.Waits = 0
taken_in (left.Displaced oldest) = 1
taken_in (left.Back connection) = 0

-- a connection was left at this tick, where so many have room: it waits behind all others; or it
-- does, and the oldest waits no more, since all room was taken; or it was handed back
abbrev pub Leaves : {C : Type 0} → ℕ → ℕ → Line C → Line C → C → Left C → Type 0
Leaves room tick old new connection left.Waits =
    (length old.waiting < room) × (new ≡ joined old tick connection)
Leaves room tick old new connection (left.Displaced oldest) =
    (length old.waiting ≡ room) × TakesOldest (joined old tick connection) new oldest
Leaves room tick old new connection (left.Back back) =
    (back ≡ connection) × (new.waiting ≡ old.waiting)

-- a connection that is handed back is the one that was left
abbrev pub ComesBack : {C : Type 0} → C → Left C → Type 0
ComesBack connection left.Waits = Unit {0}
ComesBack connection (left.Displaced oldest) = Unit {0}
ComesBack connection (left.Back back) = back ≡ connection
