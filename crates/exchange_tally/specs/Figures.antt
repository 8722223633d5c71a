-- The places of classes and of own replies' words among their kind, and of figures among all.
use Rattle.std.specs.Prelude.{ℕ, ◌+◌, min}
use Rattle.metrics_text.specs.declared.class.Class.{Class}
use Rattle.metrics_text.specs.declared.class.Class.TheVariants.{Success, Redirection, ClientError}
use Rattle.metrics_text.specs.declared.class.Class.TheVariants.{ServerError, Other, NoReply}
use Rattle.own_reply.specs.declared.error.OwnError.{OwnError}
use Rattle.own_reply.specs.declared.error.OwnError.TheVariants as own
use Rattle.exchange_tally.specs.declared.figure.Figure.{Figure}
use Rattle.exchange_tally.specs.declared.figure.Figure.TheVariants as figure

abbrev pub class_place : Class → ℕ
class_place Success = 0
class_place Redirection = 1
class_place ClientError = 2
class_place ServerError = 3
class_place Other = 4
class_place NoReply = 5

abbrev pub own_place : OwnError → ℕ
own_place own.Version = 0
own_place own.BadHead = 1
own_place own.HeadTooLarge = 2
own_place own.Connect = 3
own_place own.Target = 4
own_place own.Length = 5
own_place own.Coding = 6
own_place own.TooLong = 7
own_place own.Host = 8
own_place own.Unidentified = 9
own_place own.Dtab = 10
own_place own.Body = 11
own_place own.Negative = 12
own_place own.Failing = 13
own_place own.Empty = 14
own_place own.TooDeep = 15
own_place own.TooWide = 16
own_place own.Dial = 17
own_place own.Upstream = 18

-- the classes, the words, the buckets, and then the other figures
abbrev pub place_of : Figure → ℕ
place_of (figure.Requests class) = class_place class
place_of (figure.OwnReplies word) = 6 + own_place word
place_of (figure.Bucket place) = 25 + min place 13
place_of figure.Tries = 39
place_of figure.Failures = 40
place_of figure.RequestBytes = 41
place_of figure.ReplyBytes = 42
place_of figure.Milliseconds = 43
place_of figure.Hits = 44
place_of figure.Misses = 45
