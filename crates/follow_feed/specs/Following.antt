-- What is held of the feeds that came, and what the leader has to do with it.
use Rattle.std.specs.Prelude.{◌≡◌, ℕ, ◌≤◌, ◌==◌, ◌&&◌, ◌||◌, nat_lt, Bool, true, false}
use Rattle.std.specs.Prelude.{if◌then◌else◌, List, [], length, Contains, Option, Some, None}
use Rattle.std.specs.Prelude.{option_map}
use Rattle.follow_feed.specs.declared.follower.Follower.{Follower}
use Rattle.follow_feed.specs.declared.follower.Taken.{Taken}
use Rattle.follow_feed.specs.declared.follower.Taken.TheVariants.{Newer, Older}
use Rattle.follow_feed.specs.Feeds.{FeedValue, Run, feed_of, feed_value, space_at}

-- what a follower holds, if it holds something
abbrev pub held_in : Follower → Option FeedValue
held_in follower = option_map feed_value follower.held

-- a feed is later than another: it has a greater run, or a greater place of the same run
abbrev pub is_later : FeedValue → FeedValue → Bool
is_later f held =
    nat_lt held.run f.run || ((held.run == f.run) && nat_lt held.place f.place)

-- and than what is held, if something is
abbrev pub is_news : Option FeedValue → FeedValue → Bool
is_news None f = true
is_news (Some held) f = is_later f held

-- how a feed is taken, and what is held then
abbrev pub taken_as : Option FeedValue → FeedValue → Taken
taken_as held f = if is_news held f then Newer else Older

abbrev pub taken : Option FeedValue → FeedValue → Option FeedValue
taken held f = if is_news held f then Some f else held

-- one of some feeds, than which none is later
pub record IsGreatest (fs : List FeedValue) (f : FeedValue) : Type 0 where
  pub among : Contains fs f
  pub greatest : (other : FeedValue) → Contains fs other → is_later other f ≡ false

-- what is to be held of some feeds, in whatever order they came and however often: the one with the
-- greatest run and place, and nothing where none came
abbrev pub Followed : List FeedValue → Option FeedValue → Type 0
Followed fs None = fs ≡ []
Followed fs (Some f) = IsGreatest fs f

-- no two runs of a leader have one number
abbrev pub HasOwnNumbers : List Run → Type 0
HasOwnNumbers leader =
    (one other : Run) → Contains leader one → Contains leader other → one.number ≡ other.number
    → one ≡ other

-- a leader said this of a namespace: behind some number of the changes of some run of it
pub record Sent (leader : List Run) (space : List ℕ) (f : FeedValue) : Type 0 where
  pub run : Run
  pub place : ℕ
  pub known : Contains leader run
  pub within : place ≤ length run.changes
  pub is : f ≡ feed_of run place space

-- a feed is the leader's: it has the table that the leader had at the run and the place that it
-- names
pub record IsLeaders (leader : List Run) (space : List ℕ) (f : FeedValue) : Type 0 where
  pub sent : Sent leader space f
  pub at_place :
      (run : Run) → Contains leader run → run.number ≡ f.run → f.table ≡ space_at run f.place space

-- what is held is the leader's, if something is
abbrev pub Agrees : List Run → List ℕ → Option FeedValue → Type 0
Agrees leader space None = Unit {0}
Agrees leader space (Some f) = IsLeaders leader space f
