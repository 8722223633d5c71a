-- What an attempt was, in numbers, by what it found and what became of it; and attempts together.
use Rattle.std.specs.Prelude.{ℕ, ◌+◌, ◌≤◌, ◌&&◌, Bool, true, false, not, length, if◌then◌else◌}
use Rattle.std.specs.Prelude.{Option, Some, None}
use Rattle.access_log.specs.declared.ending.Answer.{Answer}
use Rattle.access_log.specs.declared.ending.Answer.TheVariants as answers
use Rattle.access_log.specs.declared.ending.Break.{Break}
use Rattle.access_log.specs.Ending.{break_of}
use Rattle.addr_book.specs.declared.addr.Addr.{Addr}
use Rattle.exchange_tally.specs.declared.done.Done.{Done}
use Rattle.exchange_tally.specs.Worth.{one_if}
use Rattle.http_wire.specs.declared.ended.Ended.{Ended}
use Rattle.http_wire.specs.declared.ended.Ended.TheVariants as ended
use Rattle.http_wire.specs.declared.head.Head.{Head}
use Rattle.own_reply.specs.declared.error.OwnError.{OwnError}
use Rattle.own_reply.specs.declared.error.OwnError.TheVariants as own
use Rattle.own_reply.specs.Reply.{body_of}
use Rattle.replica_try.specs.declared.tried.Tried.{Tried}
use Rattle.replica_try.specs.declared.tried.Tried.TheVariants as tried
use Rattle.replica_try.specs.Trying.{moved_in, status_in}
use Rattle.proxy_session.specs.Answering.{has_reply_body, report_of}

-- what cut the exchange off, by how the connection ends after it
abbrev pub broken_by : Option Ended → Option Break
broken_by None = None
broken_by (Some end) = break_of end

-- a refusal was written to the client, in whole or in part, unless there was no memory for it
abbrev pub is_written : Option Ended → Bool
is_written None = true
is_written (Some ended.OutOfMemory) = false
is_written (Some ended.PeerEnded) = true
is_written (Some ended.Cut) = true
is_written (Some ended.Closed) = true
is_written (Some ended.Spent) = true
is_written (Some ended.Drained) = true
is_written (Some ended.ReadFault) = true
is_written (Some ended.WriteFault) = true
is_written (Some ended.UpstreamCut) = true

abbrev pub refused_answer : OwnError → Option Ended → Answer
refused_answer err end = if is_written end then answers.Own err else answers.Nothing

-- the content of a refusal is its word and a line feed
abbrev pub refusal_bytes : OwnError → Bool → ℕ
refusal_bytes err with_body = if with_body then length (body_of err) else 0

abbrev pub refused_bytes : OwnError → Head → Option Ended → ℕ
refused_bytes err head end = refusal_bytes err (is_written end && has_reply_body head)

-- the refusal that answers a try, if one does
abbrev pub own_of_try : Tried → Option OwnError
own_of_try tried.NotDialed = Some own.Dial
own_of_try (tried.NotSent moved) = Some own.Upstream
own_of_try (tried.Silent moved) = Some own.Upstream
own_of_try (tried.NoReply moved) = Some own.Upstream
own_of_try (tried.BadBody moved) = Some own.Body
own_of_try (tried.LongBody moved) = Some own.TooLong
own_of_try (tried.BodyCut moved) = None
own_of_try (tried.BodyFault moved) = None
own_of_try (tried.ReplyCut moved status) = None
own_of_try (tried.WrittenShort moved status) = None
own_of_try (tried.Whole moved status closes reusable) = None
own_of_try (tried.OutOfMemory moved status) = None

-- a replica's reply that went back, whole or in part
abbrev pub passed_answer : Option ℕ → Answer
passed_answer None = answers.Nothing
passed_answer (Some status) = answers.Passed status

abbrev pub try_answer : Option OwnError → Tried → Option Ended → Answer
try_answer None how end = passed_answer (status_in how)
try_answer (Some err) how end = refused_answer err end

abbrev pub try_bytes : Option OwnError → Tried → Head → Option Ended → ℕ
try_bytes None how head end = (moved_in how).given
try_bytes (Some err) how head end = refused_bytes err head end

-- a report is due that the replica failed
abbrev pub is_bad : Option Bool → Bool
is_bad None = false
is_bad (Some good) = not good

-- ---- attempts

-- nothing was asked, and the client was told nothing
abbrev pub nothing_done : Option Ended → Done
nothing_done end = record {
  answer = answers.Nothing;
  replica = None;
  tries = 0;
  failures = 0;
  request_bytes = 0;
  reply_bytes = 0;
  hits = 0;
  misses = 0;
  broken = broken_by end;
}

-- a delegation was kept for the ask or not, and memory was wanting before a replica was tried
abbrev pub stopped_done : Bool → Option Ended → Done
stopped_done hit end = record {
  answer = answers.Nothing;
  replica = None;
  tries = 0;
  failures = 0;
  request_bytes = 0;
  reply_bytes = 0;
  hits = one_if hit;
  misses = one_if (not hit);
  broken = broken_by end;
}

-- it was refused before anything was asked
abbrev pub refused_done : OwnError → Head → Option Ended → Done
refused_done err head end = record {
  answer = refused_answer err end;
  replica = None;
  tries = 0;
  failures = 0;
  request_bytes = 0;
  reply_bytes = refused_bytes err head end;
  hits = 0;
  misses = 0;
  broken = broken_by end;
}

-- bytes that are no head were refused
abbrev pub unread_done : OwnError → Ended → Done
unread_done err end = record {
  answer = refused_answer err (Some end);
  replica = None;
  tries = 0;
  failures = 0;
  request_bytes = 0;
  reply_bytes = refusal_bytes err (is_written (Some end));
  hits = 0;
  misses = 0;
  broken = break_of end;
}

-- a request was refused, since there is no replica
abbrev pub unbound_done : Bool → OwnError → Head → Option Ended → Done
unbound_done hit err head end = record {
  answer = refused_answer err end;
  replica = None;
  tries = 0;
  failures = 0;
  request_bytes = 0;
  reply_bytes = refused_bytes err head end;
  hits = one_if hit;
  misses = one_if (not hit);
  broken = broken_by end;
}

-- a replica was tried last, and the report that was due could be made or not
abbrev pub tried_done : Bool → Addr → Tried → Bool → Head → Option Ended → Done
tried_done hit addr how reported head end = record {
  answer = try_answer (own_of_try how) how end;
  replica = Some addr;
  tries = 1;
  failures = one_if (reported && is_bad (report_of how));
  request_bytes = (moved_in how).sent;
  reply_bytes = try_bytes (own_of_try how) how head end;
  hits = one_if hit;
  misses = one_if (not hit);
  broken = broken_by end;
}

-- a replica was tried in vain, and another attempt follows
abbrev pub vain_done : Bool → Addr → Tried → Done
vain_done hit addr how = record {
  answer = answers.Nothing;
  replica = Some addr;
  tries = 1;
  failures = one_if (is_bad (report_of how));
  request_bytes = (moved_in how).sent;
  reply_bytes = 0;
  hits = one_if hit;
  misses = one_if (not hit);
  broken = None;
}

-- ---- attempts together

abbrev pub last_replica : Option Addr → Option Addr → Option Addr
last_replica earlier None = earlier
last_replica earlier (Some addr) = Some addr

-- attempts that failed, and the one after them: the numbers add up, and what the client was told,
-- and what of bodies moved, is that of the last one
abbrev pub followed_by : Done → Done → Done
followed_by earlier later = record {
  answer = later.answer;
  replica = last_replica earlier.replica later.replica;
  tries = earlier.tries + later.tries;
  failures = earlier.failures + later.failures;
  request_bytes = later.request_bytes;
  reply_bytes = later.reply_bytes;
  hits = earlier.hits + later.hits;
  misses = earlier.misses + later.misses;
  broken = later.broken;
}

-- the numbers of so many attempts are no more than these
pub record CountsUpTo (n : ℕ) (done : Done) : Type 0 where
  pub tries : done.tries ≤ n
  pub failures : done.failures ≤ n
  pub hits : done.hits ≤ n
  pub misses : done.misses ≤ n
