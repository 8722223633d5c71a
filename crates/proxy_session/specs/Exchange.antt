-- One request on a connection, from its head on.
use Rattle.std.specs.Prelude.{◌≡◌, ◌⊎◌, ℕ, Bool, not, List, Option, Some, None, Ok, Err}
use Rattle.rand_pcg.specs.Lcg.{Lcg}
use Rattle.line_base.specs.Clocks.{Tells}
use Rattle.addr_book.specs.declared.addr.Addr.{Addr}
use Rattle.http_wire.specs.declared.ended.Ended.{Ended}
use Rattle.http_wire.specs.declared.ended.Ended.TheVariants as ended
use Rattle.http_wire.specs.declared.frames.Framing.{Framing}
use Rattle.http_wire.specs.declared.head.Head.{Head}
use Rattle.identifier.specs.declared.rule.Rule.{Rule}
use Rattle.machine.specs.declared.chosen.Why.{Why}
use Rattle.machine.specs.Values.{SettingsValue, AskValue, PickValue, Replica, replica, none}
use Rattle.own_reply.specs.declared.error.OwnError.{OwnError}
use Rattle.replica_try.specs.declared.tried.Tried.{Tried}
use Rattle.proxy_session.specs.Answering.{Ends, Refuses, own_of_why, report_of}
use Rattle.proxy_session.specs.Asking.{Finding, StopsAsking, behind_draw, drawn}
use Rattle.proxy_session.specs.Callers.{Caller, Holds, Reports, SeesMore}
use Rattle.proxy_session.specs.Onward.{IsForwarded}
use Rattle.line_base.specs.Dials.{IsIdle, Upstream, has_room}
use Rattle.line_base.specs.Lines.{Line, Rests}
use Rattle.proxy_session.specs.Seeking.{Seeks, Sought}
use Rattle.replica_try.specs.Trying.{Tries}

-- all that an exchange moves: the client's connection and the bytes that were read from it and not
-- used yet, the dialer, the pass, the clock's moments to come, where they are told, and the
-- generator of words
pub record Standing : Type 0 where
  pub line : Line
  pub kept : List ℕ
  pub upstream : Upstream
  pub caller : Caller
  pub moments : Option (List ℕ)
  pub words : Lcg

-- the dialer did nothing, and no byte behind the head was used
pub record IsAway (old new : Standing) : Type 0 where
  pub kept : new.kept ≡ old.kept
  pub upstream : IsIdle old.upstream new.upstream

-- nothing was asked
pub record AsksNothing (old new : Standing) : Type 0 where
  pub away : IsAway old new
  pub caller : new.caller ≡ old.caller
  pub moments : new.moments ≡ old.moments
  pub words : new.words ≡ old.words

-- the three words of an ask were drawn, and the moment is the clock's next
pub record Draws
    (moments moments_after : Option (List ℕ)) (words words_after : Lcg) (moment : ℕ)
    : Type 0 where
  pub told : Tells moments moments_after moment
  pub words_are : words_after ≡ behind_draw words

-- ---- behind a try: the report, and what the client is answered

-- no report is due; or one was made, with the clock's next moment
abbrev pub ReportDone : SettingsValue → Option Bool → Addr → Caller → Caller → Option (List ℕ)
    → Option (List ℕ) → Type 0
ReportDone settings None addr old new moments moments_after =
    (new ≡ old) × (moments_after ≡ moments)
ReportDone settings (Some good) addr old new moments moments_after =
    (moment : ℕ) × Tells moments moments_after moment × Reports settings old new addr good moment

-- there was no memory for the report that is due
abbrev pub ReportFails : Option Bool → Caller → Caller → Option (List ℕ) → Option (List ℕ) → Type 0
ReportFails None old new moments moments_after = ⊥
ReportFails (Some good) old new moments moments_after =
    (moment : ℕ) × Tells moments moments_after moment × SeesMore old new

abbrev pub Settles : SettingsValue → Head → Bool → Addr → Tried → Caller → Caller → Option (List ℕ)
    → Option (List ℕ) → Line → Line → Option Ended → Type 0
Settles settings head last addr how old new moments moments_after line line_after result =
    (ReportDone settings (report_of how) addr old new moments moments_after
    × Ends how head last line line_after result)
    ⊎ (ReportFails (report_of how) old new moments moments_after × Rests line line_after
    × (result ≡ Some ended.OutOfMemory))

-- ---- the ways of an exchange

-- the request is refused before anything is asked
pub record IsRefused
    (rule : Rule) (head : Head) (last : Bool) (old new : Standing) (result : Option Ended)
    : Type 0 where
  pub err : OwnError
  pub seeks : Seeks rule head (Err err)
  pub nothing : AsksNothing old new
  pub refuses : Refuses err head last old.line new.line result

-- nothing moved, since there was no memory for what was to come
pub record StopsShort (old new : Standing) (result : Option Ended) : Type 0 where
  pub nothing : AsksNothing old new
  pub line : Rests old.line new.line
  pub ends : result ≡ Some ended.OutOfMemory

-- memory was wanting while a replica was asked for, or behind that, before it was tried
pub record StopsAsked
    (settings : SettingsValue) (ask : AskValue) (moments : Option (List ℕ)) (old new : Standing)
    (result : Option Ended)
    : Type 0 where
  pub asks :
      StopsAsking settings old.caller new.caller ask
      ⊎ ((said : PickValue) × Finding settings old.caller new.caller ask said)
  pub moments_are : new.moments ≡ moments
  pub away : IsAway old new
  pub line : Rests old.line new.line
  pub ends : result ≡ Some ended.OutOfMemory

-- there is no replica
pub record IsUnbound
    (settings : SettingsValue) (head : Head) (last : Bool) (ask : AskValue)
    (moments : Option (List ℕ)) (old new : Standing) (result : Option Ended)
    : Type 0 where
  pub why : Why
  pub finds : Finding settings old.caller new.caller ask (none why)
  pub moments_are : new.moments ≡ moments
  pub away : IsAway old new
  pub refuses : Refuses (own_of_why why) head last old.line new.line result

-- The replica at an address is tried, with a head of this kind. Its slot is held while it is, if it
-- has one
pub record IsSent
    (settings : SettingsValue) (head : Head) (last : Bool) (framing : Framing) (addr : Addr)
    (slot : Option ℕ)
    (IsHead : List ℕ → Type 0) (old new : Standing) (result : Option Ended)
    : Type 0 where
  pub onward : List ℕ
  pub is_head : IsHead onward
  pub how : Tried
  pub between : Line
  pub tries :
      Tries head onward framing last addr old.line between old.kept new.kept old.upstream
      new.upstream how
  pub held : Caller
  pub holds : Holds old.caller held slot
  pub settles :
      Settles settings head last addr how held new.caller old.moments new.moments between new.line
      result
  pub words_are : new.words ≡ old.words

-- a server that has asked for a replica: its pass is this one then, and the clock and the generator
-- have moved on
abbrev pub having_asked : Standing → Caller → Option (List ℕ) → Lcg → Standing
having_asked old found moments words = record {
  line = old.line;
  kept = old.kept;
  upstream = old.upstream;
  caller = found;
  moments = moments;
  words = words;
}

-- the replica that was found is tried
pub record IsTried
    (settings : SettingsValue) (head : Head) (last : Bool) (sought : Sought) (ask : AskValue)
    (moments : Option (List ℕ)) (old new : Standing) (result : Option Ended)
    : Type 0 where
  pub to : Replica
  pub found : Caller
  pub finds : Finding settings old.caller found ask (replica to)
  pub sent :
      IsSent settings head last sought.framing to.addr to.slot
      (IsForwarded head sought (not (has_room old.upstream.pool)) to)
      (having_asked old found moments new.words) new
      result

-- a replica is asked for, with three words and the clock's next moment, for what the request seeks
abbrev pub Routes : SettingsValue → Head → Bool → Sought → Standing → Standing → Option Ended
    → Type 0
Routes settings head last sought old new result =
    (moment : ℕ) × (moments : Option (List ℕ))
    × Draws old.moments moments old.words new.words moment
    × (StopsAsked settings (drawn sought.path sought.rules moment old.words) moments old new result
    ⊎ (IsUnbound settings head last (drawn sought.path sought.rules moment old.words) moments
    old new result
    ⊎ IsTried settings head last sought (drawn sought.path sought.rules moment old.words) moments
    old new result))

-- One exchange: it is refused; or finds no replica; or tries one; or memory was wanting before
-- that. What it moved until memory was wanting, or a call of the client's connection failed, is a
-- front of what it would have moved
abbrev pub Exchanges : SettingsValue → Rule → Head → Bool → Standing → Standing → Option Ended
    → Type 0
Exchanges settings rule head last old new result =
    IsRefused rule head last old new result
    ⊎ (StopsShort old new result
    ⊎ ((sought : Sought) × Seeks rule head (Ok sought)
    × Routes settings head last sought old new result))
