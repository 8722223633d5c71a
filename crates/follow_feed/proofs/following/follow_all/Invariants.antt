use Rattle.std.proofs.Common.{◌≡◌, ◌≤◌, ℕ, List, Result, length}
use Rattle.std.specs.Prelude.{All}
use Rattle.std.specs.Io.KnownBytes.{Appends}
use Rattle.follow_feed.specs.declared.polling.PollEnd.{PollEnd}
use Rattle.follow_feed.specs.Feeds.{FeedValue}
use Rattle.follow_feed.specs.Progress.{IsMade, Polled, progress_in, progress_of}
use Rattle.follow_feed.proofs.following.follow_all.Given as goal

abbrev pub invariant-polls : goal.invariant-polls
invariant-polls g l = record {
  polled : List (Result FeedValue PollEnd);
  wrote : List ℕ;
  chain : Polled l.leader l.space (g.D.Dialer.upstream l.fn.dialer) polled
      (g.D.Dialer.upstream l.dialer);
  given : Appends (g.K.Sink.output l.fn.out).held (g.K.Sink.output l.out).held wrote;
  count : length polled ≡ l._turn;
  made : All IsMade polled;
  stands : progress_in l.following wrote ≡ progress_of polled;
  few_newer : l.following.newer ≤ l._turn;
  few_lost : l.following.lost ≤ l._turn;
  faults : (g.K.Sink.output l.out).faults ≡ (g.K.Sink.output l.fn.out).faults;
}
