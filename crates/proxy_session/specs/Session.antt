-- The requests of a connection, one after another.
use Rattle.std.specs.Prelude.{◌≡◌, ◌≢◌, ◌⊎◌, ℕ, zero, suc, ◌+◌, ◌*◌, ◌/◌, ◌≤◌, ◌==◌, ◌||◌, Bool}
use Rattle.std.specs.Prelude.{true, [], Option, Some, None, Result, Ok, Err}
use Rattle.std.specs.Io.KnownBytes.{Keeps}
use Rattle.http_wire.specs.declared.ended.Ended.{Ended}
use Rattle.http_wire.specs.declared.ended.Ended.TheVariants as ended
use Rattle.http_wire.specs.declared.head.Head.{Head}
use Rattle.http_wire.specs.declared.next.NextHead.{NextHead}
use Rattle.http_wire.specs.declared.next.NextHead.TheVariants as next
use Rattle.http_wire.specs.declared.reading.HeadEnd.{HeadEnd}
use Rattle.http_wire.specs.Ended.{drained}
use Rattle.http_wire.specs.Next.{IsAsked}
use Rattle.http_wire.specs.Reading.{HasCauses, ReadsHead}
use Rattle.identifier.specs.declared.rule.Rule.{Rule}
use Rattle.identifier.specs.Context.{heard_by}
use Rattle.machine.specs.Values.{SettingsValue}
use Rattle.own_reply.specs.declared.error.OwnError.{OwnError}
use Rattle.own_reply.specs.declared.error.OwnError.TheVariants as own
use Rattle.own_reply.specs.Reply.{reply_of}
use Rattle.http_wire.specs.declared.paused.Paused.{Paused}
use Rattle.http_wire.specs.declared.paused.Paused.TheVariants as paused
use Rattle.proxy_session.specs.Answering.{Writes, end_behind}
use Rattle.proxy_session.specs.Exchange.{AsksNothing, Standing}
use Rattle.proxy_session.specs.Requests.{IsUntried, Requests}
use Rattle.retry_budget.specs.Budget.{BudgetValue}
use Rattle.line_base.specs.Dials.{IsIdle}
use Rattle.line_base.specs.Counts.{raised}
use Rattle.line_base.specs.Lines.{Line, Rests, told_closing, told_quiet}
use Rattle.own_reply.specs.Closing.{most_requests}

-- a connection of which nothing was read yet
abbrev pub begun : Standing → Standing
begun s = record {
  line = s.line;
  kept = [];
  upstream = s.upstream;
  caller = s.caller;
  moments = s.moments;
  words = s.words;
}

-- a head was read, or it was seen that there is none: of the bytes that were kept and those that
-- the client gave behind them
pub record Reads (old new : Standing) (result : Result Head HeadEnd) : Type 0 where
  pub head : ReadsHead old.line.left new.line.left old.kept new.kept result
  pub causes :
      HasCauses old.line.ends new.line.ends old.line.read_faults new.line.read_faults result
  pub given : Keeps old.line.given new.line.given
  pub writes : new.line.write_faults ≡ old.line.write_faults
  pub closings : new.line.closings ≡ old.line.closings
  pub quiets : new.line.quiets ≡ old.line.quiets
  pub upstream : IsIdle old.upstream new.upstream
  pub caller : new.caller ≡ old.caller
  pub moments : new.moments ≡ old.moments
  pub words : new.words ≡ old.words

-- the client's connection said whether its listeners are closing, and nothing else moved
abbrev pub having_told : Bool → Standing → Standing
having_told closing s = record {
  line = told_closing closing s.line;
  kept = s.kept;
  upstream = s.upstream;
  caller = s.caller;
  moments = s.moments;
  words = s.words;
}

-- the client's connection said that nothing came for a while, and nothing else moved
abbrev pub having_waited : Standing → Standing
having_waited s = record {
  line = told_quiet s.line;
  kept = s.kept;
  upstream = s.upstream;
  caller = s.caller;
  moments = s.moments;
  words = s.words;
}

-- a connection that waits: no byte of a further request was kept, and its client's connection said
-- that none came for a while
abbrev pub IsStill : Standing → Standing → Type 0
IsStill old new = (old.kept ≡ []) × (new ≡ having_waited old)

-- a further request was waited for, and its head was read; or it was seen that there is none; or
-- the listeners are closing, or it can wait, and no byte of one has come
abbrev pub ReadsNext : Standing → Standing → NextHead → Type 0
ReadsNext old new (next.Head head) = Reads old new (Ok head)
ReadsNext old new (next.Ended end) = Reads old new (Err end)
ReadsNext old new next.Closing = (old.kept ≡ []) × (new ≡ having_told true old)
ReadsNext old new next.Quiet = IsStill old new

-- A request: its head was read, and then it was served as it was heard, with so many retries: where
-- the rule clears the context, what the client says of that is no part of the request. It is the
-- connection's last where that is spent by it, or where the listeners are closing
pub record ServesSo
    (settings : SettingsValue) (rule : Rule) (spent closing : Bool) (retries : ℕ)
    (before behind : Option BudgetValue) (old new : Standing) (result : Option Ended)
    : Type 0 where
  pub mid : Standing
  pub received : Head
  pub reads : Reads old mid (Ok received)
  pub head : Head
  pub heard : head ≡ heard_by rule.clears_context received
  pub asked : IsAsked spent closing
  pub end : Option Ended
  pub request :
      Requests settings rule head (spent || closing) retries before behind
      (having_told closing mid) new end
  pub is : result ≡ drained closing end

abbrev pub Serves : SettingsValue → Rule → Bool → ℕ → Option BudgetValue → Option BudgetValue
    → Standing → Standing → Option Ended → Type 0
Serves settings rule spent retries before behind old new result =
    (closing : Bool) × ServesSo settings rule spent closing retries before behind old new result

-- a session ended with no head: the bytes of the client ended, or are none, or could not be read
abbrev pub own_of_end : HeadEnd → Option OwnError
own_of_end HeadEnd.Bad = Some own.BadHead
own_of_end HeadEnd.Version = Some own.Version
own_of_end HeadEnd.TooLarge = Some own.HeadTooLarge
own_of_end HeadEnd.Ended = None
own_of_end HeadEnd.Cut = None
own_of_end HeadEnd.ReadFault = None
own_of_end HeadEnd.OutOfMemory = None

-- how, where nothing is answered
abbrev pub ended_of_end : HeadEnd → Ended
ended_of_end HeadEnd.Ended = ended.PeerEnded
ended_of_end HeadEnd.Cut = ended.Cut
ended_of_end HeadEnd.ReadFault = ended.ReadFault
ended_of_end HeadEnd.OutOfMemory = ended.OutOfMemory
ended_of_end HeadEnd.Bad = ended.Closed
ended_of_end HeadEnd.Version = ended.Closed
ended_of_end HeadEnd.TooLarge = ended.Closed

-- the refusal of bytes that are no head closes, and has a body
abbrev pub AnswersEnd : Option OwnError → Line → Line → Ended → Ended → Type 0
AnswersEnd None old new quiet result = Rests old new × (result ≡ quiet)
AnswersEnd (Some err) old new quiet result =
    (told : Result (Unit {0}) Ended) × Writes old new (reply_of err true true) told
    × (Some result ≡ end_behind (Some quiet) told)

-- no further request
pub record EndsWithout (old new : Standing) (result : Ended) : Type 0 where
  pub mid : Standing
  pub end : HeadEnd
  pub reads : Reads old mid (Err end)
  pub nothing : AsksNothing mid new
  pub answers : AnswersEnd (own_of_end end) mid.line new.line (ended_of_end end) result

-- no further request, since the listeners are closing: no byte of one has come
pub record EndsClosing (old new : Standing) (result : Ended) : Type 0 where
  pub none : old.kept ≡ []
  pub closing : new ≡ having_told true old
  pub is : result ≡ ended.Drained

abbrev pub Stops : Standing → Standing → Ended → Type 0
Stops old new result = EndsWithout old new result ⊎ EndsClosing old new result

-- So many requests were served, with so many retries, of a connection that had had `from` before
-- them. The last of them ended so, and behind each other one the connection went on
abbrev pub Served : SettingsValue → Rule → ℕ → ℕ → ℕ → Option BudgetValue → Option BudgetValue
    → Standing → Standing → Option Ended → Type 0
Served settings rule from zero retries before behind old new end =
    IsUntried retries before behind × (new ≡ old) × (end ≡ None)
Served settings rule from (suc n) retries before behind old new end =
    (mid : Standing) × (between : Option BudgetValue) × (earlier : ℕ) × (more : ℕ)
    × Served settings rule from n earlier before between old mid None
    × Serves settings rule (from + n + 1 == most_requests) more between behind mid new end
    × (retries ≡ earlier + more)

-- a further request, or that there is none, or that none has come yet
abbrev pub ServesNext : SettingsValue → Rule → Bool → ℕ → Option BudgetValue → Option BudgetValue
    → Standing → Standing → Option Paused → Type 0
ServesNext settings rule last retries before behind old new None =
    Serves settings rule last retries before behind old new None
ServesNext settings rule last retries before behind old new (Some paused.Quiet) =
    IsStill old new × IsUntried retries before behind
ServesNext settings rule last retries before behind old new (Some (paused.Ended end)) =
    (Stops old new end × IsUntried retries before behind)
    ⊎ Serves settings rule last retries before behind old new (Some end)

-- so many requests, with so many retries: the last one ended the connection, or there was no
-- further one
abbrev pub Sessions : SettingsValue → Rule → ℕ → ℕ → ℕ → Option BudgetValue → Option BudgetValue
    → Standing → Standing → Ended → Type 0
Sessions settings rule from requests retries before behind old new result =
    ((mid : Standing) × Served settings rule from requests retries before behind old mid None
    × Stops mid new result)
    ⊎ Served settings rule from requests retries before behind old new (Some result)

-- so many requests, with so many retries: they ended the connection, or it waits behind them
abbrev pub Stays : SettingsValue → Rule → ℕ → ℕ → ℕ → Option BudgetValue → Option BudgetValue
    → Standing → Standing → Paused → Type 0
Stays settings rule from requests retries before behind old new paused.Quiet =
    (mid : Standing) × Served settings rule from requests retries before behind old mid None
    × IsStill mid new
Stays settings rule from requests retries before behind old new (paused.Ended end) =
    Sessions settings rule from requests retries before behind old new end

-- so many requests paid into a budget, and so many retries were taken out of it. What is left is no
-- more than what it had and was paid
pub record Pays (b : BudgetValue) (behind : Option BudgetValue) (requests retries : ℕ) : Type 0
  where
    pub left : BudgetValue
    pub is : behind ≡ Some left
    pub tries : left.tries ≡ b.tries
    pub paid : 100 * retries + left.balance ≤ b.balance + b.tries.percent * requests

abbrev pub Accounts : Option BudgetValue → Option BudgetValue → ℕ → ℕ → Type 0
Accounts None behind requests retries = (behind ≡ None) × (retries ≡ 0)
Accounts (Some b) behind requests retries = Pays b behind requests retries

-- as many retries as so many requests have out of a budget, at most: what its balance was and what
-- they paid in, in whole retries
abbrev pub most_retries : Option BudgetValue → ℕ → ℕ
most_retries None requests = 0
most_retries (Some b) requests = (b.balance + b.tries.percent * requests) / 100

-- A stay of a connection that had had so many requests before it: it begins with no byte of its
-- client read, whatever is kept of the connection before it. Where the connection waits behind it,
-- it has had so many requests more. Over all stays of a connection the attempts behind the first of
-- each request are no more than its budget had, since each stay goes on with what the one before it
-- left
pub record StaysTo
    (settings : SettingsValue) (rule : Rule) (from upto : ℕ) (before behind : Option BudgetValue)
    (old new : Standing) (result : Paused)
    : Type 0 where
  pub requests : ℕ
  pub retries : ℕ
  pub serves : Stays settings rule from requests retries before behind (begun old) new result
  pub paid : Accounts before behind requests retries
  pub count : result ≡ paused.Quiet → upto ≡ from + requests

-- as many requests as a connection may carry were served, and the last one closed it by being the
-- last alone
abbrev pub Spends : SettingsValue → Rule → ℕ → Option BudgetValue → Option BudgetValue → Standing
    → Standing → Type 0
Spends settings rule from before behind old new =
    (n : ℕ) × (retries : ℕ) × (from + n ≡ most_requests)
    × Served settings rule from n retries before behind (begun old) new (Some ended.Spent)

-- the listeners' closing was told once, behind all requests but one at most: where a further one
-- was waited for, or of the last one, when its head was read
pub record Drains
    (settings : SettingsValue) (rule : Rule) (from : ℕ) (before behind : Option BudgetValue)
    (old new : Standing) (result : Ended)
    : Type 0 where
  pub requests : ℕ
  pub retries : ℕ
  pub more : ℕ
  pub between : Option BudgetValue
  pub mid : Standing
  pub served : Served settings rule from requests retries before between (begun old) mid None
  pub quiet : mid.line.closings ≡ old.line.closings
  pub rose : new.line.closings ≡ raised old.line.closings
  pub ends :
      (EndsClosing mid new result × IsUntried more between behind)
      ⊎ ServesSo settings rule (from + requests + 1 == most_requests) true more between behind mid
      new (Some result)

-- how a stay heard that the listeners are closing: not at all, and then it did not end by that; or
-- once, and then the connection ended there
abbrev pub HearsClosing : SettingsValue → Rule → ℕ → Option BudgetValue → Option BudgetValue
    → Standing → Standing → Paused → Type 0
HearsClosing settings rule from before behind old new paused.Quiet =
    new.line.closings ≡ old.line.closings
HearsClosing settings rule from before behind old new (paused.Ended result) =
    ((new.line.closings ≡ old.line.closings) × (result ≢ ended.Drained))
    ⊎ Drains settings rule from before behind old new result
