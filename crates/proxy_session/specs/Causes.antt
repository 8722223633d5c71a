-- Why an exchange, or a session, ends as it does.
use Rattle.std.specs.Prelude.{◌≡◌, ℕ, ◌-◌, ◌^◌, ◌≤◌, min, Bool, true, false, List, []}
use Rattle.std.specs.Prelude.{Option, Some, None, IfSome}
use Rattle.line_base.specs.Counts.{Rose}
use Rattle.http_wire.specs.declared.ended.Ended.{Ended}
use Rattle.http_wire.specs.declared.ended.Ended.TheVariants as ended
use Rattle.line_base.specs.Lines.{Line}

-- a count did not fall, up to the last value of a `u64`
abbrev pub Later : ℕ → ℕ → Type 0
Later before now = min before (2 ^ 64 - 1) ≤ now

-- bytes that are told are told still
abbrev pub TellsStill : Option (List ℕ) → Option (List ℕ) → Type 0
TellsStill None now = Unit {0}
TellsStill (Some before) None = ⊥
TellsStill (Some before) (Some now) = Unit {0}

-- none of the connection's counts fell, and it tells its client's bytes still, if it did
pub record NoneFell (old new : Line) : Type 0 where
  pub reads : Later old.read_faults new.read_faults
  pub writes : Later old.write_faults new.write_faults
  pub ends : Later old.ends new.ends
  pub closings : Later old.closings new.closings
  pub quiets : Later old.quiets new.quiets
  pub tells : TellsStill old.left new.left

-- a client whose bytes are told has given them all
abbrev pub HasGivenAll : Option (List ℕ) → Option (List ℕ) → Type 0
HasGivenAll left left_after = IfSome left (λ bytes. left_after ≡ Some [])

-- a read gave the end of the client's bytes, and none of them is left
pub record HasEnded (old new : Line) : Type 0 where
  pub rose : Rose old.ends new.ends
  pub all : HasGivenAll old.left new.left

-- why a connection ended so: the count that rose, where an end says that one did
abbrev pub CauseOf : Ended → Line → Line → Type 0
CauseOf ended.PeerEnded old new = HasEnded old new
CauseOf ended.Cut old new = HasEnded old new
CauseOf ended.ReadFault old new = Rose old.read_faults new.read_faults
CauseOf ended.WriteFault old new = Rose old.write_faults new.write_faults
CauseOf ended.Closed old new = Unit {0}
CauseOf ended.Spent old new = Unit {0}
CauseOf ended.Drained old new = Rose old.closings new.closings
CauseOf ended.UpstreamCut old new = Unit {0}
CauseOf ended.OutOfMemory old new = Unit {0}

-- the same of an exchange, which may go on. It never ends as a connection does that has no further
-- request
abbrev pub HasCauseOf : Option Ended → Line → Line → Type 0
HasCauseOf None old new = Unit {0}
HasCauseOf (Some ended.PeerEnded) old new = ⊥
HasCauseOf (Some ended.Drained) old new = ⊥
HasCauseOf (Some e) old new = CauseOf e old new

-- the connection goes on only behind a request that is not its last, and is spent only by the last
abbrev pub FitsLast : Bool → Option Ended → Type 0
FitsLast last None = last ≡ false
FitsLast last (Some ended.Spent) = last ≡ true
FitsLast last (Some e) = Unit {0}

-- no call of the connection failed
pub record NoneFailed (old new : Line) : Type 0 where
  pub reads : Rose old.read_faults new.read_faults → ⊥
  pub writes : Rose old.write_faults new.write_faults → ⊥

-- an end that the bytes on both sides decide, or that memory was wanting
abbrev pub IsNoFault : Ended → Type 0
IsNoFault ended.ReadFault = ⊥
IsNoFault ended.WriteFault = ⊥
IsNoFault e = Unit {0}
