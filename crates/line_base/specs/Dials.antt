-- What a dialer tells of itself, and what its log gains at each call, where it is told.
use Rattle.std.specs.Prelude.{◌≡◌, ◌⊎◌, ℕ, ◌<◌, Bool, true, false, List, [], ◌∷◌, ◌++◌, length}
use Rattle.std.specs.Prelude.{nat_lt, take, Option, Some, None, Result, Ok, Err, MatchResult}
use Rattle.line_base.specs.declared.dialer.ConnectionPool.{ConnectionPool}
use Rattle.line_base.specs.declared.dialer.DialEvent.{DialEvent}
use Rattle.line_base.specs.declared.dialer.DialEvent.TheVariants.{Dialed, Resumed, Sent, Got, Hung}

-- a dialer: what it did, in order, where it tells it; the bytes that the other end has yet to give,
-- where they are told; where the open connection leads, if one is open, by its address and its
-- port; where those lead that it keeps; how many it may keep, and for how long, which stays so;
-- whether its last send or receive failed because it waited for too long; and how often a call
-- failed. The count never falls, and stands still at the last value of a `u64`
pub record Upstream : Type 0 where
  pub log : Option (List DialEvent)
  pub left : Option (List ℕ)
  pub open_to : Option (ℕ × ℕ)
  pub kept : List (ℕ × ℕ)
  pub pool : ConnectionPool
  pub late : Bool
  pub faults : ℕ

-- a pool has room for a connection, so that some are kept
abbrev pub has_room : ConnectionPool → Bool
has_room pool = nat_lt 0 pool.max_size

-- its connections are as they were
pub record HasSameLinks (old new : Upstream) : Type 0 where
  pub open_to : new.open_to ≡ old.open_to
  pub kept : new.kept ≡ old.kept
  pub pool : new.pool ≡ old.pool

-- a known log grows by these events
abbrev pub Grows : Option (List DialEvent) → Option (List DialEvent) → List DialEvent → Type 0
Grows None new events = Unit {0}
Grows (Some old) None events = ⊥
Grows (Some old) (Some new) events = new ≡ old ++ events

-- the dialer did nothing
pub record IsIdle (old new : Upstream) : Type 0 where
  pub log : Grows old.log new.log []
  pub links : HasSameLinks old new
  pub faults : new.faults ≡ old.faults

-- a known log stays as it was
abbrev pub KeepsLog : Option (List DialEvent) → Option (List DialEvent) → Type 0
KeepsLog None new = Unit {0}
KeepsLog (Some old) None = ⊥
KeepsLog (Some old) (Some new) = new ≡ old

-- a known log grows by this event
abbrev pub Logs : Option (List DialEvent) → Option (List DialEvent) → DialEvent → Type 0
Logs None new event = Unit {0}
Logs (Some old) None event = ⊥
Logs (Some old) (Some new) event = new ≡ old ++ event ∷ []

-- a dial that was answered adds itself
abbrev pub LogsDial : {E : Type 0} → Option (List DialEvent) → Option (List DialEvent) → ℕ → ℕ
    → Result (Unit {0}) E → Type 0
LogsDial old new ip port result =
    MatchResult result (λ _. Logs old new (Dialed ip port)) (λ _. KeepsLog old new)

-- a connection that was taken up again adds that
abbrev pub LogsResume : Option (List DialEvent) → Option (List DialEvent) → ℕ → ℕ → Bool → Type 0
LogsResume old new ip port true = Logs old new (Resumed ip port)
LogsResume old new ip port false = KeepsLog old new

-- this event is added, unless a call asks for no byte
abbrev pub LogsMove : Option (List DialEvent) → Option (List DialEvent) → ℕ → DialEvent → Type 0
LogsMove old new asked event = (0 < asked → Logs old new event) × (asked ≡ 0 → KeepsLog old new)

-- a send adds the bytes that it took
abbrev pub LogsSend : {E : Type 0} → Option (List DialEvent) → Option (List DialEvent)
    → Result ℕ E → List ℕ → Type 0
LogsSend old new result bytes =
    MatchResult result (λ n. LogsMove old new (length bytes) (Sent (take n bytes)))
    (λ _. KeepsLog old new)

-- a receive adds the bytes that it gave, which are none at the end
abbrev pub LogsReceive : {E : Type 0} → Option (List DialEvent) → Option (List DialEvent)
    → Result ℕ E → List ℕ → Type 0
LogsReceive old new result into =
    MatchResult result (λ n. LogsMove old new (length into) (Got (take n into)))
    (λ _. KeepsLog old new)

-- a hang ends what is open, and else adds nothing
abbrev pub LogsHang : Option (ℕ × ℕ) → Option (List DialEvent) → Option (List DialEvent) → Type 0
LogsHang (Some address) old new = Logs old new Hung
LogsHang None old new = KeepsLog old new

-- ---- where connections lead

-- a dial that was answered opens a connection to its address
abbrev pub dialed_to : {T E : Type 0} → Result T E → ℕ × ℕ → Option (ℕ × ℕ)
dialed_to (Ok v) address = Some address
dialed_to (Err e) address = None

-- so does a resume that answers true
abbrev pub resumed_to : Bool → ℕ × ℕ → Option (ℕ × ℕ)
resumed_to true address = Some address
resumed_to false address = None

-- some members of a list, in their order
abbrev pub AreSomeOf : {X : Type 0} → List X → List X → Type 0
AreSomeOf [] all = Unit {0}
AreSomeOf (x ∷ xs) [] = ⊥
AreSomeOf (x ∷ xs) (y ∷ ys) = ((x ≡ y) × AreSomeOf xs ys) ⊎ AreSomeOf (x ∷ xs) ys

-- one member was taken out of a list
pub record WasTaken {X : Type 0} (x : X) (old new : List X) : Type 0 where
  pub before : List X
  pub behind : List X
  pub was : old ≡ before ++ x ∷ behind
  pub is_now : new ≡ before ++ behind

-- a resume that answers true took one of the kept connections that lead to its address. Others may
-- have been ended, at any answer
abbrev pub TakesOut : Bool → ℕ × ℕ → List (ℕ × ℕ) → List (ℕ × ℕ) → Type 0
TakesOut true address old new =
    (before : List (ℕ × ℕ)) × (behind : List (ℕ × ℕ))
    × AreSomeOf (before ++ address ∷ behind) old × (new ≡ before ++ behind)
TakesOut false address old new = AreSomeOf new old

-- the open connection was put behind those that are kept. Others may have been ended, and so may it
abbrev pub PutsAside : Option (ℕ × ℕ) → List (ℕ × ℕ) → List (ℕ × ℕ) → Type 0
PutsAside None old new = AreSomeOf new old
PutsAside (Some address) old new = AreSomeOf new (old ++ address ∷ [])
