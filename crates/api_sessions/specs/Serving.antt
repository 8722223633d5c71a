-- A stay of a connection of an interface: the requests that its bytes begin with, in order, what
-- each is answered, and how the connection stands behind them.
use Rattle.std.specs.Prelude.{◌≡◌, ◌⊎◌, ℕ, ◌+◌, ◌==◌, ◌||◌, ◌&&◌, not, Bool, true, false}
use Rattle.std.specs.Prelude.{if◌then◌else◌, List, [], ◌++◌, Option, Some, None}
use Rattle.line_base.specs.Counts.{raised}
use Rattle.http_wire.specs.declared.ended.Ended.{Ended}
use Rattle.http_wire.specs.declared.ended.Ended.TheVariants as ended
use Rattle.http_wire.specs.declared.head.Head.{Head}
use Rattle.http_wire.specs.declared.paused.Paused.{Paused}
use Rattle.http_wire.specs.declared.paused.Paused.TheVariants as paused
use Rattle.http_wire.specs.Ended.{drained}
use Rattle.http_wire.specs.Heads.{IsUnfinished}
use Rattle.http_wire.specs.Next.{IsAsked}
use Rattle.body_wire.specs.Passing.{IsFrontOf}
use Rattle.own_reply.specs.declared.error.OwnError.{OwnError}
use Rattle.own_reply.specs.Closing.{asks_to_close, most_requests}
use Rattle.own_reply.specs.Reply.{reply_of}
use Rattle.router.specs.declared.naming.Naming.{Ghosts}
use Rattle.api_wire.specs.declared.reply.ApiReply.{ApiReply}
use Rattle.api_sessions.specs.declared.which.Which.{Which}
use Rattle.api_sessions.specs.declared.which.Which.TheVariants.{Namerd, Admin, Feed}
use Rattle.api_sessions.specs.Answering.{AnswersAs, LeavesAs, Sources}
use Rattle.api_sessions.specs.Requests.{IsRequest, HasOpenBody, IsRefusedAs, IsBetween, IsInside}
use Rattle.api_sessions.specs.Reading.{HasReadCauses, is_drained, is_write_fault, raised_where}

-- the interface as a request finds it: once the listeners are closing, the admin interface is ready
-- for no more connections
abbrev pub while_closing : Bool → Which → Which
while_closing closing Namerd = Namerd
while_closing closing (Admin ready) = Admin (ready && not closing)
while_closing closing (Feed run) = Feed run

-- the calls of a stop: one more where the program was stopped
abbrev pub calls_after : ℕ → Bool → ℕ
calls_after calls stopped = if stopped then raised calls else calls

-- A reply is written, and says how the connection ends, if it does. The connection closes behind a
-- reply that stops the program, and behind one to a request that asks for that; it is spent where
-- that is because of the last request alone. The program is stopped where all of such a reply was
-- written
abbrev pub IsDelivered : Head → Bool → ApiReply → List ℕ → Bool → Option Ended → Type 0
IsDelivered head last reply written stopped None =
    ((reply.stops || asks_to_close head) ≡ false) × (last ≡ false) × (written ≡ reply.bytes.items)
    × (stopped ≡ false)
IsDelivered head last reply written stopped (Some ended.Closed) =
    ((reply.stops || asks_to_close head) ≡ true) × (written ≡ reply.bytes.items)
    × (stopped ≡ reply.stops)
IsDelivered head last reply written stopped (Some ended.Spent) =
    ((reply.stops || asks_to_close head) ≡ false) × (last ≡ true) × (written ≡ reply.bytes.items)
    × (stopped ≡ false)
IsDelivered head last reply written stopped (Some ended.Drained) = ⊥
IsDelivered head last reply written stopped (Some ended.WriteFault) =
    IsFrontOf reply.bytes.items written × (stopped ≡ false)
IsDelivered head last reply written stopped (Some ended.PeerEnded) = ⊥
IsDelivered head last reply written stopped (Some ended.Cut) = ⊥
IsDelivered head last reply written stopped (Some ended.ReadFault) = ⊥
IsDelivered head last reply written stopped (Some ended.UpstreamCut) = ⊥
IsDelivered head last reply written stopped (Some ended.OutOfMemory) = ⊥

-- How a connection ends with no further request that is answered, and what was written: a refusal,
-- whole where it closes
abbrev pub EndsWithout : List ℕ → List ℕ → Ended → Type 0
EndsWithout bytes written ended.PeerEnded = IsBetween bytes × (written ≡ [])
EndsWithout bytes written ended.Cut = IsInside bytes × (written ≡ [])
EndsWithout bytes written ended.ReadFault =
    (IsUnfinished bytes ⊎ HasOpenBody bytes) × (written ≡ [])
EndsWithout bytes written ended.OutOfMemory = written ≡ []
EndsWithout bytes written ended.Closed =
    (err : OwnError) × (with_body : Bool) × IsRefusedAs bytes err with_body
    × (written ≡ reply_of err true with_body)
EndsWithout bytes written ended.WriteFault =
    (err : OwnError) × (with_body : Bool) × IsRefusedAs bytes err with_body
    × IsFrontOf (reply_of err true with_body) written
EndsWithout bytes written ended.Drained = (bytes ≡ []) × (written ≡ [])
EndsWithout bytes written ended.Spent = ⊥
EndsWithout bytes written ended.UpstreamCut = ⊥

module _ {J : Type 0} {g : Ghosts J} where
  -- a request has its answer, which is delivered
  pub record IsReplied (which : Which) (last : Bool) (head : Head) (body : List ℕ)
      (old new : Sources J g) (written : List ℕ) (stopped : Bool) (result : Option Ended)
      : Type 0 where
    pub reply : ApiReply
    pub answers : AnswersAs which head last body old new reply
    pub delivered : IsDelivered head last reply written stopped result

  -- or memory was wanting, and what it asked for was done, or nothing
  pub record IsWanting (which : Which) (head : Head) (body : List ℕ) (old new : Sources J g)
      (written : List ℕ) (stopped : Bool) (result : Option Ended) : Type 0 where
    pub leaves : LeavesAs which head body old new
    pub nothing : written ≡ []
    pub goes_on : stopped ≡ false
    pub is : result ≡ Some ended.OutOfMemory

  abbrev pub Answers : Which → Bool → Head → List ℕ → Sources J g → Sources J g → List ℕ → Bool
      → Option Ended → Type 0
  Answers which last head body old new written stopped result =
      IsReplied which last head body old new written stopped result
      ⊎ IsWanting which head body old new written stopped result

  -- the connection ends behind a whole request, which is its last where that spends it, or where
  -- the listeners are closing
  pub record EndsBehind
      (which : Which) (spent closing : Bool) (bytes : List ℕ) (old new : Sources J g)
      (written : List ℕ) (stopped : Bool) (result : Ended)
      : Type 0 where
    pub head : Head
    pub body : List ℕ
    pub behind : List ℕ
    pub request : IsRequest bytes head body behind
    pub asked : IsAsked spent closing
    pub end : Option Ended
    pub answers :
        Answers (while_closing closing which) (spent || closing) head body old new written stopped
        end
    pub is : Some result ≡ drained closing end

  -- or with none
  abbrev pub EndsWith : Which → Bool → Bool → List ℕ → Sources J g → Sources J g → List ℕ → Bool
      → Ended → Type 0
  EndsWith which spent closing bytes old new written stopped result =
      EndsBehind which spent closing bytes old new written stopped result
      ⊎ ((new ≡ old) × (stopped ≡ false) × (closing ≡ is_drained (Some result))
      × EndsWithout bytes written result)

  -- no byte of a next request was kept or came, and nothing was done
  pub record IsQuiet (bytes : List ℕ) (old new : Sources J g) (written : List ℕ)
      (stopped closing : Bool) : Type 0 where
    pub none : bytes ≡ []
    pub still : new ≡ old
    pub nothing : written ≡ []
    pub goes_on : stopped ≡ false
    pub open_ : closing ≡ false

  -- the connection waits, or it ends
  abbrev pub PausesWith : Which → Bool → Bool → List ℕ → Sources J g → Sources J g → List ℕ → Bool
      → Paused → Type 0
  PausesWith which spent closing bytes old new written stopped paused.Quiet =
      IsQuiet bytes old new written stopped closing
  PausesWith which spent closing bytes old new written stopped (paused.Ended result) =
      EndsWith which spent closing bytes old new written stopped result

  -- Requests of a connection that had had `from` of them are answered, one after the other, and it
  -- goes on behind each: so many it has had then, with what the worker answers from, the bytes that
  -- are left, and those that were written. The connection never goes on behind its last request
  pub data Serves (which : Which) (from : ℕ) (old : Sources J g) (bytes : List ℕ) : ℕ
      → Sources J g → List ℕ → List ℕ → Type 0 where
    begun : Serves which from old bytes from old bytes []
    one_more : (count : ℕ) (mid new : Sources J g) (rest behind written sent : List ℕ) (head : Head)
        (body : List ℕ) → Serves which from old bytes count mid rest written
        → IsRequest rest head body behind
        → Answers which (count + 1 == most_requests) head body mid new sent false None
        → Serves which from old bytes (count + 1) new behind (written ++ sent)

  -- A connection is served for a stay: some requests are answered, behind which it has had `upto`;
  -- and then it waits, or ends. `bytes` are those that came, and `written` those that it was given;
  -- `closing` says that its end is one of those that come since the listeners are closing
  pub record IsServing
      (which : Which) (from upto : ℕ) (old new : Sources J g) (bytes written : List ℕ)
      (stopped closing : Bool) (result : Paused)
      : Type 0 where
    pub mid : Sources J g
    pub rest : List ℕ
    pub first : List ℕ
    pub final : List ℕ
    pub serves : Serves which from old bytes upto mid rest first
    pub pauses :
        PausesWith which (upto + 1 == most_requests) closing rest mid new final stopped result
    pub all : written ≡ first ++ final

  -- one turn: a request is answered and the connection goes on, whatever bytes follow it; or it
  -- waits, or ends
  abbrev pub Turns : Which → Bool → Bool → Sources J g → Sources J g → List ℕ → List ℕ → List ℕ
      → Bool → Option Paused → Type 0
  Turns which spent closing old new bytes kept written stopped None =
      (stopped ≡ false) × (closing ≡ false)
      × ((head : Head) × (body : List ℕ)
      × ((more : List ℕ) → IsRequest (bytes ++ more) head body (kept ++ more))
      × Answers which spent head body old new written false None)
  Turns which spent closing old new bytes kept written stopped (Some result) =
      PausesWith which spent closing bytes old new written stopped result

-- how the connection ended, if it did
abbrev pub ended_in : Option Paused → Option Ended
ended_in None = None
ended_in (Some paused.Quiet) = None
ended_in (Some (paused.Ended end)) = Some end

-- what the counts of a peer tell of how a connection ended, if it did: a write failed exactly where
-- it ended by that, and it was read no further than the request that was due
pub record HasCauses (ends_before ends_now reads_before reads_now writes_before writes_now : ℕ)
    (result : Option Ended) : Type 0 where
  pub reading : HasReadCauses ends_before ends_now reads_before reads_now result
  pub writes : writes_now ≡ raised_where (is_write_fault result) writes_before
