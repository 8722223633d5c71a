-- How many turns its loop takes at most. In a lean tree each node that is no mark leads to a
-- lookup, so that the turns are no more than a few for each lookup and each tree above it.
use Rattle.std.specs.Prelude.{◌≡◌, ℕ, ◌+◌, ◌*◌, ◌<◌, ◌≤◌, ◌⊎◌, Bool, true, false, if◌then◌else◌}
use Rattle.std.specs.Prelude.{List, [], ◌∷◌, ◌++◌}
use Rattle.name_tree.specs.Value.{TreeValue, TreeValues, Branches, leaf, neg, fail, empty, alt}
use Rattle.name_tree.specs.Value.{union, none, more, no_branch, branch}
use Rattle.bind_core.specs.declared.frame.Frame.{Frame}
use Rattle.bind_core.specs.declared.frame.Frame.TheVariants as frame
use Rattle.bind_core.specs.declared.outcome.Outcome.{Outcome}
use Rattle.bind_core.specs.declared.rewritten.Rewritten.{Rewritten}
use Rattle.bind_core.specs.declared.work.Task.{Task}
use Rattle.bind_core.specs.declared.work.Task.TheVariants as task
use Rattle.bind_core.specs.Delegation.{Ending, negative, failing, no_replica, too_deep, too_wide}
use Rattle.bind_core.specs.Delegation.{bound}
use Rattle.bind_core.specs.Depth.{depth_of, depth_of_each, turns_per_lookup}
use Rattle.bind_core.specs.Outcome.{ending_of}
use Rattle.bind_core.specs.Rewritten.{tree_of}
use Rattle.bind_core.specs.Stack.{ends_all, weighted, choice_names, union_branches}

abbrev pub is_mark : TreeValue → Bool
is_mark (leaf path) = false
is_mark neg = true
is_mark fail = true
is_mark empty = true
is_mark (alt ts) = false
is_mark (union bs) = false

-- the first of them is no mark
abbrev pub BeginAll : TreeValues → Type 0
BeginAll none = ⊥
BeginAll (more t ts) = is_mark t ≡ false

abbrev pub BeginEach : Branches → Type 0
BeginEach no_branch = ⊥
BeginEach (branch n t bs) = is_mark t ≡ false

-- how many branches are marks
abbrev pub marks_in : Branches → ℕ
marks_in no_branch = 0
marks_in (branch n t bs) = (if is_mark t then 1 else 0) + marks_in bs

abbrev mutual
  -- nothing in it is negative, and the first tree of each alternation and each union is no mark
  pub IsTrim : TreeValue → Type 0
  IsTrim (leaf path) = Unit {0}
  IsTrim neg = ⊥
  IsTrim fail = Unit {0}
  IsTrim empty = Unit {0}
  IsTrim (alt ts) = BeginAll ts × AreTrim ts
  IsTrim (union bs) = BeginEach bs × EachTrim bs × (marks_in bs ≤ 2)

  pub AreTrim : TreeValues → Type 0
  AreTrim none = Unit {0}
  AreTrim (more t ts) = IsTrim t × AreTrim ts

  pub EachTrim : Branches → Type 0
  EachTrim no_branch = Unit {0}
  EachTrim (branch n t bs) = (0 < n) × IsTrim t × EachTrim bs

-- so are some trees, no deeper than so; what is left of a frame, of a stack and of a task
abbrev pub ListTrim : ℕ → List TreeValue → Type 0
ListTrim depth [] = Unit {0}
ListTrim depth (t ∷ ts) = IsTrim t × (depth_of t ≤ depth) × ListTrim depth ts

abbrev pub FrameTrim : ℕ → Frame → Type 0
FrameTrim depth (frame.FirstOf f) = ListTrim depth (choice_names f)
FrameTrim depth (frame.Union f) = EachTrim (union_branches f) ×
    (depth_of_each (union_branches f) ≤ depth)

abbrev pub StackTrim : ℕ → List Frame → Type 0
StackTrim depth [] = Unit {0}
StackTrim depth (f ∷ fs) = FrameTrim depth f × StackTrim depth fs

abbrev pub TaskTrim : ℕ → Task → Type 0
TaskTrim depth (task.Try tree left) = IsTrim (tree_of tree) × (depth_of (tree_of tree) ≤ depth)
TaskTrim depth (task.Tell outcome) = Unit {0}

-- the turns that a frame still takes by itself: its end, and what its marks take
abbrev pub own_turns : Frame → ℕ
own_turns (frame.FirstOf f) = 3
own_turns (frame.Union f) = 3 + 4 * marks_in (union_branches f)

abbrev pub owed_turns : List Frame → ℕ
owed_turns [] = 0
owed_turns (f ∷ fs) = own_turns f + owed_turns fs

-- the turns that a task takes until the next lookup
abbrev pub task_turns : Task → ℕ
task_turns (task.Try tree left) = 12 * depth_of (tree_of tree)
task_turns (task.Tell outcome) = 0

-- what a task may take before the lookup is made that it leads to
abbrev pub told_ahead : ℕ → Ending → ℕ
told_ahead depth negative = 0
told_ahead depth failing = 2
told_ahead depth no_replica = 2
told_ahead depth too_deep = 12 * depth + 10
told_ahead depth too_wide = 12 * depth + 10
told_ahead depth (bound found) = 2

abbrev pub ahead : ℕ → Task → ℕ
ahead depth (task.Try tree left) = if is_mark (tree_of tree) then 1 else turns_per_lookup depth
ahead depth (task.Tell outcome) = told_ahead depth (ending_of outcome)

-- the turns that were taken, and those that are owed, are paid by the lookups that were made
pub record IsPaid (depth start now : ℕ) (stack : List Frame) (count : ℕ) (next : Task) : Type 0
  where
    pub paid : now + owed_turns stack + task_turns next
        ≤ start + turns_per_lookup depth * count + ahead depth next
    pub stack_trim : StackTrim depth stack
    pub task_trim : TaskTrim depth next

-- so they are where one turn more was taken
pub record IsDue (depth start now : ℕ) (stack : List Frame) (count : ℕ) (here : Task) : Type 0 where
  pub due : now + owed_turns stack + task_turns here
      ≤ start + turns_per_lookup depth * count + ahead depth here + 1
  pub stack_trim : StackTrim depth stack
  pub task_trim : TaskTrim depth here

-- a lookup may be made
pub record CanLookUp (depth start now : ℕ) (stack : List Frame) (count : ℕ) : Type 0 where
  pub room : now + owed_turns stack + 11
      ≤ start + turns_per_lookup depth * count + turns_per_lookup depth
  pub stack_trim : StackTrim depth stack

-- nothing is tried next of a frame that is told this
abbrev pub IsEnded : Frame → Ending → Type 0
IsEnded (frame.FirstOf f) told = told ≡ negative → choice_names f ≡ []
IsEnded (frame.Union f) told = weighted (union_branches f) ≡ no_branch

-- this tree is tried next, and then this frame is left
abbrev pub IsNext : Frame → Ending → TreeValue → Frame → Type 0
IsNext (frame.FirstOf f) told t (frame.FirstOf g) =
    (told ≡ negative) × (choice_names f ≡ t ∷ choice_names g)
IsNext (frame.FirstOf f) told t (frame.Union g) = ⊥
IsNext (frame.Union f) told t (frame.FirstOf g) = ⊥
IsNext (frame.Union f) told t (frame.Union g) =
    (n : ℕ) × (weighted (union_branches f) ≡ branch n t (union_branches g))

-- something is told on, and no frame is left
pub record IsToldOn (old new : List Frame) (next : Task) : Type 0 where
  pub outcome : Outcome
  pub is : next ≡ task.Tell outcome
  pub goes_on : ends_all (ending_of outcome) ≡ false
  pub same : new ≡ old

-- a tree is tried, and a frame is left
pub record IsTried (Left : TreeValue → Frame → Type 0) (old new : List Frame) (next : Task)
    : Type 0 where
  pub tree : Rewritten
  pub left : ℕ
  pub frame_left : Frame
  pub is : next ≡ task.Try tree left
  pub pushed : new ≡ old ++ frame_left ∷ []
  pub of_frame : Left (tree_of tree) frame_left

-- what a turn of a frame does that is told this
abbrev pub IsTurn : Frame → Ending → List Frame → List Frame → Task → Type 0
IsTurn f told old new next =
    (IsEnded f told × IsToldOn old new next) ⊎ IsTried (IsNext f told) old new next

-- a tree is tried, and no frame is left
pub record IsTriedLast (ts : List TreeValue) (old new : List Frame) (next : Task) : Type 0 where
  pub tree : Rewritten
  pub left : ℕ
  pub is : next ≡ task.Try tree left
  pub same : new ≡ old
  pub of_trees : ts ≡ tree_of tree ∷ []

abbrev pub IsNextOf : List TreeValue → TreeValue → Frame → Type 0
IsNextOf ts t (frame.FirstOf g) = ts ≡ t ∷ choice_names g
IsNextOf ts t (frame.Union g) = ⊥

-- what a lookup with these trees does first
abbrev pub IsFirst : List TreeValue → List Frame → List Frame → Task → Type 0
IsFirst ts old new next = IsToldOn old new next ⊎
    (IsTried (IsNextOf ts) old new next ⊎ IsTriedLast ts old new next)
