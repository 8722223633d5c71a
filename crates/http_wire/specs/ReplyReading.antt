-- What a call that reads the head of a reply answers, and what it leaves.
use Rattle.std.specs.Prelude.{◌≡◌, ◌≢◌, ◌⊎◌, ℕ, ◌<◌, ◌≤◌, List, [], ◌∷◌, ◌++◌, length, drop, map}
use Rattle.std.specs.Prelude.{Option, Some, None, Result, Ok, Err}
use Rattle.std.specs.Io.KnownBytes.{Consumes, IsAtEnd}
use Rattle.line_base.specs.declared.dialer.DialEvent.{DialEvent}
use Rattle.line_base.specs.declared.dialer.DialEvent.TheVariants.{Got}
use Rattle.line_base.specs.Dials.{KeepsLog, Logs}
use Rattle.httparse.specs.declared.spans.HeaderSpan.{HeaderSpan}
use Rattle.httparse.specs.declared.spans.ResponseSpans.{ResponseSpans}
use Rattle.httparse.specs.Grammar.{ResponseHead, print_response, ReadsResponse, NeverHasResponse}
use Rattle.httparse.specs.Spans.{span_bytes, header_bytes}
use Rattle.http_wire.specs.declared.head.ReplyHead.{ReplyHead}
use Rattle.http_wire.specs.declared.reading.HeadEnd.{HeadEnd}
use Rattle.http_wire.specs.declared.reply_parse.ParsedReply.{ParsedReply}
use Rattle.http_wire.specs.declared.reply_parse.ParsedReply.TheVariants.{Whole, Bad, Partial}
use Rattle.http_wire.specs.FirstLine.{skip_empty_lines}
use Rattle.http_wire.specs.Heads.{most_piece, window}
use Rattle.http_wire.specs.Parsed.{pair_of}
use Rattle.http_wire.specs.Reading.{Whatever}
use Rattle.http_wire.specs.Replies.{IsReplyOf, BeginsWithReply, IsBadReply, IsOpenReply}
use Rattle.http_wire.specs.Replies.{IsTooLargeReply, IsUnfinishedReply}

-- ---- parsing

-- the parts of the head are what the spans cover
pub record IsReplyAt (bytes : List ℕ) (parts : ResponseSpans) (spans : List HeaderSpan)
    (head : ReplyHead) : Type 0 where
  pub version : head.version ≡ parts.version
  pub status : head.status ≡ parts.code
  pub reason : head.reason ≡ span_bytes bytes parts.reason
  pub fields : map pair_of head.fields ≡ map (header_bytes bytes) spans

-- a whole head of the bytes
pub record IsWholeReply (bytes : List ℕ) (head : ReplyHead) (len : ℕ) : Type 0 where
  pub parts : ResponseHead
  pub reads : ReadsResponse bytes parts (drop len bytes)
  pub long : len ≡ length (print_response parts)
  pub is : IsReplyOf head parts

-- what was parsed of the bytes
abbrev pub ParsesReply : List ℕ → ParsedReply → Type 0
ParsesReply bytes (Whole head len) = IsWholeReply bytes head len
ParsesReply bytes Bad = NeverHasResponse bytes
ParsesReply bytes Partial = IsOpenReply bytes

-- what was parsed of those that count
abbrev pub ShowsReply : List ℕ → ParsedReply → Type 0
ShowsReply bytes (Whole head len) = BeginsWithReply bytes head len
ShowsReply bytes Bad = IsBadReply bytes
ShowsReply bytes Partial = IsOpenReply (window bytes)

-- ---- answers

-- the answer to these bytes, and what is kept of them: all, but for a head that was answered. A
-- head and a refusal are those of the bytes, whatever follows them; the others say that the bytes
-- show neither
abbrev pub AnswersReply : List ℕ → List ℕ → Result ReplyHead HeadEnd → Type 0
AnswersReply bytes kept (Ok head) =
    (len : ℕ) × Whatever (λ all. BeginsWithReply all head len) bytes × (kept ≡ drop len bytes)
AnswersReply bytes kept (Err HeadEnd.Ended) =
    IsUnfinishedReply bytes × (skip_empty_lines bytes ≡ []) × (kept ≡ bytes)
AnswersReply bytes kept (Err HeadEnd.Cut) =
    IsUnfinishedReply bytes × (skip_empty_lines bytes ≢ []) × (kept ≡ bytes)
AnswersReply bytes kept (Err HeadEnd.Bad) = Whatever IsBadReply bytes × (kept ≡ bytes)
AnswersReply bytes kept (Err HeadEnd.Version) = ⊥
AnswersReply bytes kept (Err HeadEnd.TooLarge) = Whatever IsTooLargeReply bytes × (kept ≡ bytes)
AnswersReply bytes kept (Err HeadEnd.ReadFault) = IsUnfinishedReply bytes × (kept ≡ bytes)
AnswersReply bytes kept (Err HeadEnd.OutOfMemory) = kept ≡ bytes

-- what a look at the bytes answers; it receives nothing, so that neither an end nor a fault comes
abbrev pub LooksReply : List ℕ → List ℕ → Result ReplyHead HeadEnd → Type 0
LooksReply bytes kept (Ok head) = AnswersReply bytes kept (Ok head)
LooksReply bytes kept (Err HeadEnd.Ended) = ⊥
LooksReply bytes kept (Err HeadEnd.Cut) = ⊥
LooksReply bytes kept (Err HeadEnd.ReadFault) = ⊥
LooksReply bytes kept (Err HeadEnd.Version) = ⊥
LooksReply bytes kept (Err HeadEnd.Bad) = Whatever IsBadReply bytes × (kept ≡ bytes)
LooksReply bytes kept (Err HeadEnd.TooLarge) = Whatever IsTooLargeReply bytes × (kept ≡ bytes)
LooksReply bytes kept (Err HeadEnd.OutOfMemory) = kept ≡ bytes

-- ---- receiving

-- the bytes of some pieces, in order
abbrev pub joined : List (List ℕ) → List ℕ
joined [] = []
joined (piece ∷ pieces) = piece ++ joined pieces

-- a known log grows by these pieces, each got by one receive
abbrev pub LogsGot : Option (List DialEvent) → Option (List DialEvent) → List (List ℕ) → Type 0
LogsGot None new pieces = Unit {0}
LogsGot (Some old) None pieces = ⊥
LogsGot (Some old) (Some new) pieces = new ≡ old ++ map Got pieces

-- the last receive began while the bytes before showed no head and no refusal, and asked for at
-- most 16,384 bytes
pub record EndsInReceive (kept : List ℕ) (pieces : List (List ℕ)) : Type 0 where
  pub earlier : List (List ℕ)
  pub piece : List ℕ
  pub cut : pieces ≡ earlier ++ piece ∷ []
  pub short : length piece ≤ most_piece
  pub unfinished : IsUnfinishedReply (kept ++ joined earlier)

-- no more was received than was needed
abbrev pub IsPromptReply : List ℕ → List (List ℕ) → Type 0
IsPromptReply kept pieces = (pieces ≡ []) ⊎ EndsInReceive kept pieces

-- the last receive gave the end
abbrev pub EndsAtEnd : List (List ℕ) → Type 0
EndsAtEnd pieces = (earlier : List (List ℕ)) × (pieces ≡ earlier ++ [] ∷ [])

-- the end was given where the answer says so
abbrev pub SaysEnd : Option (List ℕ) → List (List ℕ) → Result ReplyHead HeadEnd → Type 0
SaysEnd left pieces (Ok head) = Unit {0}
SaysEnd left pieces (Err HeadEnd.Ended) = IsAtEnd left × EndsAtEnd pieces
SaysEnd left pieces (Err HeadEnd.Cut) = IsAtEnd left × EndsAtEnd pieces
SaysEnd left pieces (Err HeadEnd.Bad) = Unit {0}
SaysEnd left pieces (Err HeadEnd.Version) = Unit {0}
SaysEnd left pieces (Err HeadEnd.TooLarge) = Unit {0}
SaysEnd left pieces (Err HeadEnd.ReadFault) = Unit {0}
SaysEnd left pieces (Err HeadEnd.OutOfMemory) = Unit {0}

-- the pieces that a dialer gave, behind the bytes that were kept, and the answer to them all, which
-- is given as soon as they show it. The log gains these pieces alone
pub record ReadsReply
    (left_before left_after : Option (List ℕ)) (log_before log_after : Option (List DialEvent))
    (kept_before kept_after : List ℕ) (result : Result ReplyHead HeadEnd)
    : Type 0 where
  pub pieces : List (List ℕ)
  pub given : Consumes left_before left_after (joined pieces)
  pub logged : LogsGot log_before log_after pieces
  pub prompt : IsPromptReply kept_before pieces
  pub answers : AnswersReply (kept_before ++ joined pieces) kept_after result
  pub end : SaysEnd left_after pieces result

-- a piece that came
pub record GotPiece
    (left_before left_after : Option (List ℕ)) (log_before log_after : Option (List DialEvent))
    (kept_before kept_after : List ℕ)
    : Type 0 where
  pub piece : List ℕ
  pub given : Consumes left_before left_after piece
  pub logged : Logs log_before log_after (Got piece)
  pub grown : kept_after ≡ kept_before ++ piece
  pub some : 0 < length piece
  pub short : length piece ≤ most_piece

-- no piece came, and this is why
abbrev pub StopsAt : HeadEnd → Option (List ℕ) → Option (List DialEvent) → Option (List DialEvent)
    → List ℕ → Type 0
StopsAt HeadEnd.Ended left log_before log_after kept =
    Logs log_before log_after (Got []) × IsAtEnd left × (skip_empty_lines kept ≡ [])
StopsAt HeadEnd.Cut left log_before log_after kept =
    Logs log_before log_after (Got []) × IsAtEnd left × (skip_empty_lines kept ≢ [])
StopsAt HeadEnd.ReadFault left log_before log_after kept = KeepsLog log_before log_after
StopsAt HeadEnd.OutOfMemory left log_before log_after kept = KeepsLog log_before log_after
StopsAt HeadEnd.Bad left log_before log_after kept = ⊥
StopsAt HeadEnd.Version left log_before log_after kept = ⊥
StopsAt HeadEnd.TooLarge left log_before log_after kept = ⊥

-- one receive: a piece more, or why there is none
abbrev pub ReceivesOnce : Option (List ℕ) → Option (List ℕ) → Option (List DialEvent)
    → Option (List DialEvent) → List ℕ → List ℕ
    → Result (Unit {0}) HeadEnd → Type 0
ReceivesOnce left_before left_after log_before log_after kept_before kept_after (Ok done) =
    GotPiece left_before left_after log_before log_after kept_before kept_after
ReceivesOnce left_before left_after log_before log_after kept_before kept_after (Err end) =
    Consumes left_before left_after [] × (kept_after ≡ kept_before)
    × StopsAt end left_after log_before log_after kept_before
