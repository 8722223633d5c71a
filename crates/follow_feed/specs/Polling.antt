-- A poll: a request for the feed of a namespace, over a connection of its own, and the reply.
use Rattle.std.specs.Prelude.{◌≡◌, ◌⊎◌, ℕ, ◌<◌, ◌≤◌, List, [], ◌∷◌, ◌++◌, length, drop, map, codes}
use Rattle.std.specs.Prelude.{Some, None, Result, Ok, Err}
use Rattle.std.specs.List.{concat}
use Rattle.httparse.specs.Ascii.{crlf_bytes}
use Rattle.line_base.specs.Counts.{raised}
use Rattle.line_base.specs.Dials.{Grows, Upstream}
use Rattle.line_base.specs.declared.dialer.DialEvent.TheVariants.{Dialed, Sent, Got, Hung}
use Rattle.addr_book.specs.Addr.{addr_text}
use Rattle.addr_book.specs.declared.addr.Addr.{Addr}
use Rattle.http_wire.specs.declared.frames.Framing.{Framing}
use Rattle.http_wire.specs.declared.head.ReplyHead.{ReplyHead}
use Rattle.http_wire.specs.declared.reading.HeadEnd.{HeadEnd}
use Rattle.http_wire.specs.Framing.{framing_of, reply_framing_of}
use Rattle.http_wire.specs.Lines.{ended, line_of}
use Rattle.http_wire.specs.Replies.{BeginsWithReply}
use Rattle.http_wire.specs.Reading.{Whatever}
use Rattle.http_wire.specs.ReplyReading.{EndsAtEnd}
use Rattle.body_wire.specs.Passing.{IsFrontOf, most_read}
use Rattle.body_wire.specs.declared.end.BodyEnd.{BodyEnd}
use Rattle.follow_feed.specs.declared.feed.Feed.{Feed}
use Rattle.follow_feed.specs.declared.polling.PollEnd.{PollEnd}
use Rattle.follow_feed.specs.declared.polling.PollEnd.TheVariants.{Lost, Strange, OutOfMemory}
use Rattle.follow_feed.specs.Feeds.{FeedValue, feed_value}
use Rattle.follow_feed.specs.Reading.{feed_in}

-- what a poll gave, as a value
abbrev pub given : Result Feed PollEnd → Result FeedValue PollEnd
given (Ok feed) = Ok (feed_value feed)
given (Err end) = Err end

-- the request
abbrev pub request_line : List ℕ → List ℕ
request_line space = codes "GET /feed/" ++ space ++ codes " HTTP/1.1"

abbrev pub request_of : Addr → List ℕ → List ℕ
request_of leader space =
    ended (request_line space ∷ []) ++ ended (line_of (codes "Host") (addr_text leader) ∷ [])
    ++ ended (line_of (codes "Connection") (codes "close") ∷ []) ++ crlf_bytes

-- the head of a good reply: of the status 200, with a body of this length, which is short enough
pub record IsFeedHead (head : ReplyHead) (count : ℕ) : Type 0 where
  pub status : head.status ≡ 200
  pub framed :
      reply_framing_of (codes "GET") head.status (framing_of head.version head.fields)
      ≡ Ok (Framing.Length count)
  pub short : count ≤ most_read

-- the bytes are a body of this length, and those behind it
pub record IsBody (bytes body : List ℕ) (count : ℕ) : Type 0 where
  pub behind : List ℕ
  pub cut : bytes ≡ body ++ behind
  pub long : length body ≡ count

-- the bytes begin with a good reply, which says this feed
pub record BeginsWithFeed (bytes : List ℕ) (feed : FeedValue) : Type 0 where
  pub head : ReplyHead
  pub len : ℕ
  pub begins : BeginsWithReply bytes head len
  pub count : ℕ
  pub good : IsFeedHead head count
  pub body : List ℕ
  pub whole : IsBody (drop len bytes) body count
  pub says : feed_in body ≡ Some feed

-- they begin with none
abbrev pub HasNoFeed : List ℕ → Type 0
HasNoFeed bytes = (feed : FeedValue) → BeginsWithFeed bytes feed → ⊥

-- what was got is strange: it begins with no good reply, whatever follows, or it ended before it
-- began with one
abbrev pub IsStrange : List (List ℕ) → Type 0
IsStrange got = Whatever HasNoFeed (concat got) ⊎ (EndsAtEnd got × HasNoFeed (concat got))

-- what was got says this
abbrev pub Says : List (List ℕ) → Result FeedValue PollEnd → Type 0
Says got (Ok feed) = BeginsWithFeed (concat got) feed
Says got (Err Lost) = HasNoFeed (concat got)
Says got (Err Strange) = IsStrange got
Says got (Err OutOfMemory) = Unit {0}

-- all of these bytes were sent where there is an answer of the other end, and else a front of them
abbrev pub IsSent : List ℕ → List ℕ → Result FeedValue PollEnd → Type 0
IsSent all sent (Ok feed) = sent ≡ all
IsSent all sent (Err Lost) = IsFrontOf all sent
IsSent all sent (Err Strange) = sent ≡ all
IsSent all sent (Err OutOfMemory) = IsFrontOf all sent

-- over an open connection, a request was sent, and these pieces were got
pub record Speaks
    (request : List ℕ) (sent got : List (List ℕ)) (result : Result FeedValue PollEnd) : Type 0 where
  pub asked : IsSent request (concat sent) result
  pub heard : Says got result

-- a connection to the leader was opened, the two spoke over it, and it was ended
pub record IsSpoken
    (leader : Addr) (request : List ℕ) (old new : Upstream) (result : Result FeedValue PollEnd)
    : Type 0 where
  pub sent : List (List ℕ)
  pub got : List (List ℕ)
  pub log :
      Grows old.log new.log (Dialed leader.ip leader.port ∷
      (map Sent sent ++ (map Got got ++ Hung ∷ [])))
  pub speaks : Speaks request sent got result
  pub closed : new.open_to ≡ None

-- no connection was opened
abbrev pub GaveUp : Result FeedValue PollEnd → Type 0
GaveUp (Ok feed) = ⊥
GaveUp (Err Lost) = Unit {0}
GaveUp (Err Strange) = ⊥
GaveUp (Err OutOfMemory) = Unit {0}

-- a poll of a leader about a namespace
abbrev pub Polls : Addr → List ℕ → Upstream → Upstream → Result FeedValue PollEnd → Type 0
Polls leader space old new result =
    (Grows old.log new.log [] × GaveUp result)
    ⊎ IsSpoken leader (request_of leader space) old new result

-- the count of faults behind a poll: it rose, by one, exactly where the poll was lost
abbrev pub faults_after : ℕ → Result FeedValue PollEnd → ℕ
faults_after faults (Ok feed) = faults
faults_after faults (Err Lost) = raised faults
faults_after faults (Err Strange) = faults
faults_after faults (Err OutOfMemory) = faults

-- a body of a reply with this head, behind the bytes that were kept, says this
pub record SaysBody (head : ReplyHead) (bytes : List ℕ) (feed : FeedValue) : Type 0 where
  pub count : ℕ
  pub good : IsFeedHead head count
  pub body : List ℕ
  pub whole : IsBody bytes body count
  pub says : feed_in body ≡ Some feed

-- it is a whole body that says nothing
pub record SaysNothing (head : ReplyHead) (bytes : List ℕ) : Type 0 where
  pub count : ℕ
  pub good : IsFeedHead head count
  pub body : List ℕ
  pub whole : IsBody bytes body count
  pub says : feed_in body ≡ None

-- it has not come whole
pub record IsShort (head : ReplyHead) (bytes : List ℕ) : Type 0 where
  pub count : ℕ
  pub good : IsFeedHead head count
  pub short : length bytes < count

-- the head is not that of a good reply, or the body says nothing or ended early
abbrev pub IsStrangeBody : ReplyHead → List ℕ → List (List ℕ) → Type 0
IsStrangeBody head bytes got =
    ((count : ℕ) → IsFeedHead head count → ⊥)
    ⊎ (SaysNothing head bytes ⊎ (EndsAtEnd got × IsShort head bytes))

-- what the body says
abbrev pub SaysBehind : ReplyHead → List ℕ → List (List ℕ) → Result FeedValue PollEnd → Type 0
SaysBehind head kept got (Ok feed) = SaysBody head (kept ++ concat got) feed
SaysBehind head kept got (Err Lost) = IsShort head (kept ++ concat got)
SaysBehind head kept got (Err Strange) = IsStrangeBody head (kept ++ concat got) got
SaysBehind head kept got (Err OutOfMemory) = Unit {0}

-- how a poll ends whose reply has no head
abbrev pub end_of_head : HeadEnd → PollEnd
end_of_head HeadEnd.Ended = Strange
end_of_head HeadEnd.Cut = Strange
end_of_head HeadEnd.Bad = Strange
end_of_head HeadEnd.Version = Strange
end_of_head HeadEnd.TooLarge = Strange
end_of_head HeadEnd.ReadFault = Lost
end_of_head HeadEnd.OutOfMemory = OutOfMemory

-- and whose body did not come whole
abbrev pub end_of_body : BodyEnd → PollEnd
end_of_body (BodyEnd.BadChunk n) = Strange
end_of_body BodyEnd.Cut = Strange
end_of_body BodyEnd.TooLong = Strange
end_of_body BodyEnd.ReadFault = OutOfMemory
end_of_body BodyEnd.WriteFault = OutOfMemory
end_of_body BodyEnd.SendFault = OutOfMemory
end_of_body BodyEnd.RecvFault = Lost
end_of_body BodyEnd.OutOfMemory = OutOfMemory
