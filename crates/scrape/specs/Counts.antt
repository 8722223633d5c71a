-- The numbers that a scrape tells, by the sums at the places of their figures.
use Rattle.std.specs.Prelude.{ℕ, ◌-◌, List, [], ◌∷◌}
use Rattle.exchange_tally.specs.declared.figure.Figure.TheVariants as figure
use Rattle.exchange_tally.specs.Figures.{place_of}
use Rattle.metrics_text.specs.declared.class.Class.TheVariants.{Success, Redirection, ClientError}
use Rattle.metrics_text.specs.declared.class.Class.TheVariants.{ServerError, Other, NoReply}
use Rattle.metrics_text.specs.declared.class.Classes.{Classes}
use Rattle.metrics_text.specs.declared.counts.Counts.{Counts}
use Rattle.metrics_text.specs.declared.counts.OwnReplies.{OwnReplies}
use Rattle.own_reply.specs.declared.error.OwnError.{OwnError}
use Rattle.own_reply.specs.declared.error.OwnError.TheVariants as own
use Rattle.scrape.specs.declared.counts.State.{State}

abbrev pub classes_by : (ℕ → ℕ) → Classes
classes_by sum = record {
  success = sum (place_of (figure.Requests Success));
  redirection = sum (place_of (figure.Requests Redirection));
  client_error = sum (place_of (figure.Requests ClientError));
  server_error = sum (place_of (figure.Requests ServerError));
  other = sum (place_of (figure.Requests Other));
  no_reply = sum (place_of (figure.Requests NoReply));
}

abbrev pub word_sum : (ℕ → ℕ) → OwnError → ℕ
word_sum sum word = sum (place_of (figure.OwnReplies word))

abbrev pub own_replies_by : (ℕ → ℕ) → OwnReplies
own_replies_by sum = record {
  version = word_sum sum own.Version;
  bad_head = word_sum sum own.BadHead;
  head_too_large = word_sum sum own.HeadTooLarge;
  connect = word_sum sum own.Connect;
  target = word_sum sum own.Target;
  length = word_sum sum own.Length;
  coding = word_sum sum own.Coding;
  too_long = word_sum sum own.TooLong;
  host = word_sum sum own.Host;
  unidentified = word_sum sum own.Unidentified;
  dtab = word_sum sum own.Dtab;
  body = word_sum sum own.Body;
  negative = word_sum sum own.Negative;
  failing = word_sum sum own.Failing;
  empty = word_sum sum own.Empty;
  too_deep = word_sum sum own.TooDeep;
  too_wide = word_sum sum own.TooWide;
  dial = word_sum sum own.Dial;
  upstream = word_sum sum own.Upstream;
}

abbrev pub bucket_sum : (ℕ → ℕ) → ℕ → ℕ
bucket_sum sum place = sum (place_of (figure.Bucket place))

abbrev pub buckets_by : (ℕ → ℕ) → List ℕ
buckets_by sum =
    bucket_sum sum 0 ∷ bucket_sum sum 1 ∷ bucket_sum sum 2 ∷ bucket_sum sum 3 ∷ bucket_sum sum 4
    ∷ bucket_sum sum 5 ∷ bucket_sum sum 6 ∷ bucket_sum sum 7 ∷ bucket_sum sum 8
    ∷ bucket_sum sum 9 ∷ bucket_sum sum 10 ∷ bucket_sum sum 11 ∷ bucket_sum sum 12
    ∷ bucket_sum sum 13 ∷ []

-- behind the figures stand the lines of the access log, which were written and lost, and the
-- connections that came, finished, were left to wait and were taken up again
abbrev pub counts_by : (ℕ → ℕ) → State → Counts
counts_by sum state = record {
  changes = state.changes;
  tables_written = state.tables_written;
  marks = state.marks;
  namespaces = state.namespaces;
  services = state.services;
  requests = classes_by sum;
  own_replies = own_replies_by sum;
  tries = sum (place_of figure.Tries);
  failures = sum (place_of figure.Failures);
  accepted = sum 48;
  «open» = sum 48 - sum 49;
  waiting = sum 50 - sum 51;
  request_bytes = sum (place_of figure.RequestBytes);
  reply_bytes = sum (place_of figure.ReplyBytes);
  durations = record {
    buckets = buckets_by sum;
    milliseconds = sum (place_of figure.Milliseconds);
  };
  hits = sum (place_of figure.Hits);
  misses = sum (place_of figure.Misses);
  kept = state.kept;
  log_lines = sum 46;
  lost_lines = sum 47;
}
