-- What a worker records of an exchange.
use Rattle.std.specs.Prelude.{◌≡◌, ℕ, List, Option, Some, None, option_map}
use Rattle.std.specs.Option.{option_copied}
use Rattle.access_log.specs.declared.entry.Entry.{Entry}
use Rattle.access_log.specs.declared.entry.RequestLine.{RequestLine}
use Rattle.access_log.specs.Line.{line_text}
use Rattle.count_words.specs.declared.words.CountWriter.{CountWriter}
use Rattle.count_words.specs.declared.words.Counts.{Counts}
use Rattle.count_words.specs.Seats.{WordsId, first_of, words_of}
use Rattle.exchange_record.specs.declared.recorder.ConnectionStep.{ConnectionStep}
use Rattle.exchange_record.specs.Told.{Told}
use Rattle.exchange_tally.specs.declared.done.Timed.{Timed}
use Rattle.exchange_tally.specs.declared.figure.Figure.{Figure}
use Rattle.exchange_tally.specs.declared.tally.Tally.{Tally}
use Rattle.exchange_tally.specs.Tallies.{Adds, count_in}
use Rattle.exchange_tally.specs.Worth.{lasted}
use Rattle.http_wire.specs.declared.head.Head.{Head}
use Rattle.line_base.specs.Clocks.{Tells}
use Rattle.line_log.specs.declared.journal.LineCounts.{LineCounts}
use Rattle.line_log.specs.Logged.{IsAppended, Logged, counts_in}
use Rattle.worker_record.specs.declared.connections.ConnectionCounts.{ConnectionCounts}
use Rattle.worker_record.specs.Connections.{after_step, count_of}

-- ---- the line of an exchange

-- the words of a request line
pub record RequestWords : Type 0 where
  pub method : List ℕ
  pub target : List ℕ
  pub version : ℕ

abbrev pub words_of_head : Head → RequestWords
words_of_head h = record { method = h.method; target = h.target; version = h.version }

abbrev pub words_of_line : RequestLine → RequestWords
words_of_line l = record { method = l.method.now; target = l.target.now; version = l.version }

-- an entry of the log says of an exchange what was told of it, and when it was
pub record IsEntryOf (told : Told) (timed : Timed) (entry : Entry) : Type 0 where
  pub moment : entry.moment ≡ timed.begun
  pub client : entry.client ≡ told.client
  pub request : option_map words_of_line entry.request ≡ option_map words_of_head told.head
  pub answer : entry.answer ≡ told.done.answer
  pub bytes : entry.bytes ≡ told.done.reply_bytes
  pub milliseconds : entry.milliseconds ≡ lasted timed
  pub name : option_copied entry.name ≡ told.name
  pub replica : entry.replica ≡ told.done.replica
  pub broken : entry.broken ≡ told.done.broken

-- its line was appended to a log, or lost and counted
abbrev pub IsLogged : Told → Timed → Logged → Logged → Type 0
IsLogged told timed old new =
    (entry : Entry) × IsEntryOf told timed entry × IsAppended old (line_text entry) new

-- where there is one
abbrev pub IsLoggedIn : Told → Timed → Option Logged → Option Logged → Type 0
IsLoggedIn told timed None new = new ≡ None
IsLoggedIn told timed (Some old) None = ⊥
IsLoggedIn told timed (Some old) (Some new) = IsLogged told timed old new

-- the counts of a log's lines are these, where there is one
abbrev pub AreLinesOf : Option Logged → LineCounts → Type 0
AreLinesOf None lines = Unit {0}
AreLinesOf (Some log) lines = counts_in log ≡ lines

-- ---- the record of a worker

-- the moments to come of its clock, when the exchange began that it was told of last, its counts
-- of exchanges, its log, if it has one, its counts of connections, in which words it publishes all
-- counts, from which of them on, and what it has published there, by places
pub record RecordValue : Type 0 where
  pub moments : Option (List ℕ)
  pub begun : ℕ
  pub tally : Tally
  pub log : Option Logged
  pub connections : ConnectionCounts
  pub words : WordsId
  pub first : ℕ
  pub published : List ℕ

-- nothing was recorded yet: it has these moments, and this log
pub record IsFresh (moments : Option (List ℕ)) (log : Option Logged) (new : RecordValue) : Type 0
  where
    pub moments_are : new.moments ≡ moments
    pub log_is : new.log ≡ log
    pub tally : (f : Figure) → count_in new.tally f ≡ 0
    pub connections : (step : ConnectionStep) → count_of step new.connections ≡ 0

-- it publishes by this writer, in these words
pub record IsSeated (counts : Counts) (writer : CountWriter) (new : RecordValue) : Type 0 where
  pub words : new.words ≡ words_of counts
  pub first : new.first ≡ first_of writer

-- it publishes where it did before
pub record KeepsSeat (old new : RecordValue) : Type 0 where
  pub words : new.words ≡ old.words
  pub first : new.first ≡ old.first

-- an exchange begins now
pub record Begins (old new : RecordValue) : Type 0 where
  pub begun : Tells old.moments new.moments new.begun
  pub tally : new.tally ≡ old.tally
  pub log : new.log ≡ old.log
  pub connections : new.connections ≡ old.connections
  pub seat : KeepsSeat old new

abbrev pub timed_by : Told → ℕ → ℕ → Timed
timed_by told begun ended = record { done = told.done; begun = begun; ended = ended }

-- it has ended now: it is counted, and logged where there is a log
pub record Ends (old : RecordValue) (told : Told) (new : RecordValue) : Type 0 where
  pub ended : ℕ
  pub told_now : Tells old.moments new.moments ended
  pub tally : Adds old.tally (timed_by told old.begun ended) new.tally
  pub log : IsLoggedIn told (timed_by told old.begun ended) old.log new.log
  pub connections : new.connections ≡ old.connections
  pub seat : KeepsSeat old new

-- this became of a connection
pub record Steps (old : RecordValue) (step : ConnectionStep) (new : RecordValue) : Type 0 where
  pub connections : new.connections ≡ after_step step old.connections
  pub moments : new.moments ≡ old.moments
  pub begun : new.begun ≡ old.begun
  pub tally : new.tally ≡ old.tally
  pub log : new.log ≡ old.log
  pub seat : KeepsSeat old new
