-- What following a leader does, and what is told of it.
use Rattle.std.specs.Prelude.{◌≡◌, ℕ, Bool, true, false, List, Option, None, Result}
use Rattle.addr_book.specs.declared.addr.Addr.{Addr}
use Rattle.line_base.specs.Dials.{Upstream}
use Rattle.line_base.specs.Nets.{IsNewLog, Returns}
use Rattle.follow_feed.specs.declared.following.FollowEnd.{FollowEnd}
use Rattle.follow_feed.specs.declared.following.FollowEnd.TheVariants.{Done, OutOfMemory}
use Rattle.follow_feed.specs.declared.polling.PollEnd.{PollEnd}
use Rattle.follow_feed.specs.Feeds.{FeedValue}
use Rattle.follow_feed.specs.Progress.{Polled, Tells}

-- how following ends: all polls were made and told of, or memory was wanting
abbrev pub end_if : Bool → FollowEnd
end_if true = Done
end_if false = OutOfMemory

-- a leader was polled by a new dialer of a net that tells so much, as often as was asked for or,
-- where memory was wanting, no more often; and these lines tell of the polls, as `follow_feed` says
pub record IsFollowed
    {P : Type 0} (told : Option (Returns P)) (leader : Addr) (space : List ℕ) (polls : ℕ)
    (all : Bool) (lines : List ℕ)
    : Type 0 where
  pub dialer : Upstream
  pub new_dialer : IsNewLog told dialer.log × (dialer.open_to ≡ None)
  pub behind : Upstream
  pub polled : List (Result FeedValue PollEnd)
  pub made : Polled leader space dialer polled behind
  pub lines_are : Tells polls polled lines (end_if all)
