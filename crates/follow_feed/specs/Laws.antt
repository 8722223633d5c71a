-- What holds of all lists of feeds, and of all histories.
use Rattle.std.specs.Prelude.{◌≡◌, ℕ, List, ◌++◌, fold, All, None}
use Rattle.machine.specs.Values.{SettingsValue}
use Rattle.router_log.specs.Operation.{Operation, place_of}
use Rattle.follow_feed.specs.Feeds.{FeedValue, Run, feed_of, run_of}
use Rattle.follow_feed.specs.Following.{Agrees, Followed, HasOwnNumbers, Sent, taken}

-- what is held once all of a list were taken is the greatest of it
abbrev pub HoldsTheGreatest : Type 0
HoldsTheGreatest = (fs : List FeedValue) → Followed fs (fold taken None fs)

-- and it is the leader's, where one leader said them all
abbrev pub HoldsTheLeaders : Type 0
HoldsTheLeaders =
    (leader : List Run) (space : List ℕ) (fs : List FeedValue) → HasOwnNumbers leader
    → All (Sent leader space) fs → Agrees leader space (fold taken None fs)

-- the feed at the place of some operations is the same once more were published
abbrev pub FeedsStay : Type 0
FeedsStay =
    (number : ℕ) (settings : SettingsValue) (ops more : List Operation) (space : List ℕ)
    → feed_of (run_of number settings (ops ++ more)) (place_of ops) space
    ≡ feed_of (run_of number settings ops) (place_of ops) space
