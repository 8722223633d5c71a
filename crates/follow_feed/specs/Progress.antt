-- What polls come to, one after another.
use Rattle.std.specs.Prelude.{◌≡◌, ◌⊎◌, ℕ, ◌+◌, ◌≤◌, if◌then◌else◌, List, [], ◌∷◌, ◌++◌, length}
use Rattle.std.specs.Prelude.{All, fold, Option, Some, None, Result, Ok, Err}
use Rattle.std.specs.Io.KnownBytes.{Appends}
use Rattle.addr_book.specs.declared.addr.Addr.{Addr}
use Rattle.body_wire.specs.Passing.{IsFrontOf}
use Rattle.line_base.specs.Counts.{raised}
use Rattle.line_base.specs.Dials.{Upstream}
use Rattle.follow_feed.specs.declared.following.FollowEnd.{FollowEnd}
use Rattle.follow_feed.specs.declared.following.FollowEnd.TheVariants.{Done, WriteFault}
use Rattle.follow_feed.specs.declared.following.FollowEnd.TheVariants.{OutOfMemory}
use Rattle.follow_feed.specs.declared.following.Following.{Following}
use Rattle.follow_feed.specs.declared.polling.PollEnd.{PollEnd}
use Rattle.follow_feed.specs.Feeds.{FeedValue}
use Rattle.follow_feed.specs.Following.{held_in, is_news}
use Rattle.follow_feed.specs.Lines.{feed_line, total_line}
use Rattle.follow_feed.specs.Polling.{Polls, faults_after}

-- what some polls came to: what is held, how many gave a later feed than was held, how many gave
-- none, and the lines of those that were later
pub record Progress : Type 0 where
  pub held : Option FeedValue
  pub newer : ℕ
  pub lost : ℕ
  pub text : List ℕ

abbrev pub begun : Progress
begun = record { held = None; newer = 0; lost = 0; text = [] }

-- one more feed
abbrev pub with_feed : Progress → FeedValue → Progress
with_feed p f =
    if is_news p.held f
    then record { held = Some f; newer = p.newer + 1; lost = p.lost; text = p.text ++ feed_line f }
    else p

-- one more poll that was lost or strange
abbrev pub with_loss : Progress → Progress
with_loss p = record { held = p.held; newer = p.newer; lost = p.lost + 1; text = p.text }

-- one more poll. Where memory was wanting it counts for nothing
abbrev pub after_poll : Progress → Result FeedValue PollEnd → Progress
after_poll p (Ok f) = with_feed p f
after_poll p (Err PollEnd.Lost) = with_loss p
after_poll p (Err PollEnd.Strange) = with_loss p
after_poll p (Err PollEnd.OutOfMemory) = p

-- what all of some polls came to
abbrev pub progress_of : List (Result FeedValue PollEnd) → Progress
progress_of polled = fold after_poll begun polled

-- all that is told of so many polls
abbrev pub told_of : ℕ → Progress → List ℕ
told_of polls p = p.text ++ total_line polls p.newer p.lost

-- polls of a leader, one after another, and what they gave
pub data Polled (leader : Addr) (space : List ℕ) (old : Upstream)
    : List (Result FeedValue PollEnd) → Upstream → Type 0 where
  none_yet : Polled leader space old [] old
  one_more : (polled : List (Result FeedValue PollEnd)) (mid new : Upstream)
      (gave : Result FeedValue PollEnd) → Polled leader space old polled mid
      → Polls leader space mid new gave → new.faults ≡ faults_after mid.faults gave
      → Polled leader space old (polled ++ gave ∷ []) new

-- a poll was made, whatever it gave: memory was not wanting for it
abbrev pub IsMade : Result FeedValue PollEnd → Type 0
IsMade (Ok f) = Unit {0}
IsMade (Err PollEnd.Lost) = Unit {0}
IsMade (Err PollEnd.Strange) = Unit {0}
IsMade (Err PollEnd.OutOfMemory) = ⊥

-- so many polls, and each of them was made
abbrev pub AreAllMade : ℕ → List (Result FeedValue PollEnd) → Type 0
AreAllMade polls polled = (length polled ≡ polls) × All IsMade polled

-- whole lines: those of all of these polls, or of all but the last. Each poll of which they tell
-- was made
pub record AreLines (polled : List (Result FeedValue PollEnd)) (lines : List ℕ) : Type 0 where
  pub told : List (Result FeedValue PollEnd)
  pub last : List (Result FeedValue PollEnd)
  pub cut : polled ≡ told ++ last
  pub one : length last ≤ 1
  pub made : All IsMade told
  pub are : lines ≡ (progress_of told).text

-- behind such lines stands a front of the next one: of the last poll's, or, where all polls were
-- made, of the count's
pub record CutsLine (polls : ℕ) (polled : List (Result FeedValue PollEnd)) (wrote : List ℕ) : Type 0
  where
    pub made : All IsMade polled
    pub lines : List ℕ
    pub part : List ℕ
    pub whole : AreLines polled lines
    pub are : wrote ≡ lines ++ part
    pub next :
        ((length polled ≤ polls) × IsFrontOf (progress_of polled).text wrote)
        ⊎ ((length polled ≡ polls) × IsFrontOf (told_of polls (progress_of polled)) wrote)

-- what was written, at each end: all, where all polls were made; else whole lines of those that
-- were made, and behind them, where a write failed, a front of one more
abbrev pub Tells : ℕ → List (Result FeedValue PollEnd) → List ℕ → FollowEnd → Type 0
Tells polls polled wrote Done =
    AreAllMade polls polled × (wrote ≡ told_of polls (progress_of polled))
Tells polls polled wrote WriteFault = CutsLine polls polled wrote
Tells polls polled wrote OutOfMemory = (length polled ≤ polls) × AreLines polled wrote

-- what a follower's polls came to, behind these lines
abbrev pub progress_in : Following → List ℕ → Progress
progress_in f text =
    record { held = held_in f.follower; newer = f.newer; lost = f.lost; text = text }

-- all of a line was written; a front of it, where a write failed; or nothing, where memory was
-- wanting
abbrev pub IsWritten : List ℕ → List ℕ → Result (Unit {0}) FollowEnd → Type 0
IsWritten line wrote (Ok done) = wrote ≡ line
IsWritten line wrote (Err Done) = ⊥
IsWritten line wrote (Err WriteFault) = IsFrontOf line wrote
IsWritten line wrote (Err OutOfMemory) = wrote ≡ []

-- what a poll gave was taken, behind any lines: it was made, and all of its line was written, or a
-- front of it; or memory was wanting, for the poll or its line, and nothing was written
abbrev pub Takes : (List ℕ → Progress) → (List ℕ → Progress) → Result FeedValue PollEnd → List ℕ
    → Result (Unit {0}) FollowEnd → Type 0
Takes old new gave wrote (Ok done) =
    IsMade gave × ((text : List ℕ) → new (text ++ wrote) ≡ after_poll (old text) gave)
Takes old new gave wrote (Err Done) = ⊥
Takes old new gave wrote (Err WriteFault) =
    IsMade gave × ((text : List ℕ) → IsFrontOf (after_poll (old text) gave).text (text ++ wrote))
Takes old new gave wrote (Err OutOfMemory) = wrote ≡ []

-- a sink's count of faults behind a call that ends so
abbrev pub faults_behind : ℕ → FollowEnd → ℕ
faults_behind faults Done = faults
faults_behind faults WriteFault = raised faults
faults_behind faults OutOfMemory = faults

abbrev pub turn_faults : ℕ → Result (Unit {0}) FollowEnd → ℕ
turn_faults faults (Ok done) = faults
turn_faults faults (Err end) = faults_behind faults end

-- a poll was made, and what it gave was taken
pub record IsTurn
    (leader : Addr) (space : List ℕ) (dialer dialer_now : Upstream)
    (held held_now : Option (List ℕ))
    (old new : List ℕ → Progress) (result : Result (Unit {0}) FollowEnd)
    : Type 0 where
  pub gave : Result FeedValue PollEnd
  pub polls : Polls leader space dialer dialer_now gave
  pub faults : dialer_now.faults ≡ faults_after dialer.faults gave
  pub wrote : List ℕ
  pub given : Appends held held_now wrote
  pub takes : Takes old new gave wrote result
