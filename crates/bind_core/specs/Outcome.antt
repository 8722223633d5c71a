-- What the outcomes of the code say.
use Rattle.std.specs.Prelude.{◌≡◌, ℕ, List, [], map}
use Rattle.name_tree.specs.Path.{Labels}
use Rattle.dtab_table.specs.Rules.{Rule}
use Rattle.bind_core.specs.declared.outcome.Outcome.{Outcome}
use Rattle.bind_core.specs.declared.outcome.Outcome.TheVariants as outcome
use Rattle.bind_core.specs.declared.outcome.Delegated.{Delegated}
use Rattle.bind_core.specs.declared.outcome.Wanted.{Wanted}
use Rattle.bind_core.specs.declared.outcome.Wanted.TheVariants as wanted
use Rattle.bind_core.specs.declared.trace.LookupEnd.{LookupEnd}
use Rattle.bind_core.specs.declared.trace.LookupEnd.TheVariants as ended
use Rattle.bind_core.specs.declared.trace.TraceItem.{TraceItem}
use Rattle.addr_book.specs.Bound.{found_of}
use Rattle.bind_core.specs.Delegation.{Ending, negative, failing, no_replica, too_deep, too_wide}
use Rattle.bind_core.specs.Delegation.{bound, Names, Visit, outcome_of, cost_of, most_asked}
use Rattle.bind_core.specs.Delegation.{most_wide, kept_asked, trace_of}

abbrev pub ending_of : Outcome → Ending
ending_of outcome.Neg = negative
ending_of outcome.Fail = failing
ending_of outcome.Empty = no_replica
ending_of outcome.TooDeep = too_deep
ending_of outcome.TooWide = too_wide
ending_of (outcome.Bound found) = bound (found_of found)

-- how a lookup ended. None is too wide: that is for the whole delegation to say
abbrev pub ended_as : Ending → LookupEnd
ended_as negative = ended.Negative
ended_as failing = ended.Failing
ended_as no_replica = ended.Empty
ended_as too_deep = ended.TooDeep
ended_as too_wide = ended.TooDeep
ended_as (bound found) = ended.Bound

-- a lookup as the code tells it
abbrev pub traced : Visit → TraceItem
traced v = record { depth = v.depth; path = v.path; ended = ended_as v.ending }

-- how many lookups are kept for what is wanted
abbrev pub most_for : Wanted → ℕ
most_for wanted.Neither = 0
most_for wanted.Asked = most_asked
most_for wanted.Trace = most_wide

-- the paths and the lookups that are told of those that were kept
abbrev pub paths_for : Wanted → List TraceItem → List Labels
paths_for wanted.Asked items = map (λ i. i.path) items
paths_for _ items = []

abbrev pub items_for : Wanted → List TraceItem → List TraceItem
items_for wanted.Trace items = items
items_for _ items = []

-- the paths that are told, where they are wanted
abbrev pub asked_told : Wanted → List Rule → Names → Labels → List Labels
asked_told wanted.Asked rules names path = kept_asked rules names path
asked_told _ rules names path = []

-- the lookups that are told, where they are wanted
abbrev pub trace_told : Wanted → List Rule → Names → Labels → List TraceItem
trace_told wanted.Trace rules names path = map traced (trace_of rules names path)
trace_told _ rules names path = []

-- this is what the path comes to in the table, at this cost, with the list that is wanted
pub record IsDelegated (rules : List Rule) (names : Names) (path : Labels) (wanted : Wanted)
    (d : Delegated) : Type 0 where
  pub outcome : ending_of d.outcome ≡ outcome_of rules names path
  pub cost : d.cost ≡ cost_of rules names path
  pub asked : d.asked ≡ asked_told wanted rules names path
  pub trace : d.trace ≡ trace_told wanted rules names path
