-- What a leader says of a namespace: its version and its table, behind so many changes of a run.
use Rattle.std.specs.Prelude.{ℕ, List, [], ◌∷◌, take, fold, Option, option_map}
use Rattle.std.specs.FinMap.{get}
use Rattle.dtab_table.specs.Dtab.{rules_of}
use Rattle.ns_store.specs.Contents.{Space}
use Rattle.machine.specs.State.{opening, after}
use Rattle.machine.specs.Values.{SettingsValue, StateValue, ChangeValue}
use Rattle.router_log.specs.Operation.{Operation, changed, kept}
use Rattle.follow_feed.specs.declared.feed.Feed.{Feed}
use Rattle.follow_feed.specs.declared.feed.Versioned.{Versioned}

-- a feed: the number of a run, how many changes the run had accepted, and the namespace as it was
-- then, if it was there
pub record FeedValue : Type 0 where
  pub run : ℕ
  pub place : ℕ
  pub table : Option Space

-- what the code's feeds say
abbrev pub space_of : Versioned → Space
space_of v = record { version = v.version; rules = rules_of v.dtab }

abbrev pub feed_value : Feed → FeedValue
feed_value f = record { run = f.run; place = f.place; table = option_map space_of f.table }

-- a run of a leader: its number, what it is set up with, and the changes that it accepted, in order
pub record Run : Type 0 where
  pub number : ℕ
  pub settings : SettingsValue
  pub changes : List ChangeValue

-- the state behind the first so many of its changes
abbrev pub state_at : Run → ℕ → StateValue
state_at run place = fold (after run.settings) opening (take place run.changes)

-- a namespace behind so many changes, if it is there
abbrev pub space_at : Run → ℕ → List ℕ → Option Space
space_at run place space = get (state_at run place).store.spaces space

-- the feed of a namespace at a place of a run
abbrev pub feed_of : Run → ℕ → List ℕ → FeedValue
feed_of run place space =
    record { run = run.number; place = place; table = space_at run place space }

-- the changes among some operations of a router, in order
abbrev pub changes_in : List Operation → List ChangeValue
changes_in [] = []
changes_in (changed caller serial change ∷ ops) = change ∷ changes_in ops
changes_in (kept caller serial k ∷ ops) = changes_in ops

-- the run of this number of a router that published these operations
abbrev pub run_of : ℕ → SettingsValue → List Operation → Run
run_of number settings ops =
    record { number = number; settings = settings; changes = changes_in ops }
