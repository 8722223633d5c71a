-- What a stack of frames makes of an ending, how many turns it takes, and what one step does to it.
use Rattle.std.specs.Prelude.{◌≡◌, ℕ, zero, suc, ◌+◌, ◌<◌, ◌≤◌, ◌⊎◌, ◌==◌, Bool, true, false}
use Rattle.std.specs.Prelude.{nat_lt, if◌then◌else◌, min, List, [], ◌∷◌, ◌++◌, length, map, drop}
use Rattle.std.specs.Prelude.{Option, Some, None}
use Rattle.std.specs.Borrow.{Bor}
use Rattle.std.specs.Slice.Iter.{iter_rest}
use Rattle.std.specs.Vec.Iter.{into_iter_items}
use Rattle.name_tree.specs.Path.{Labels}
use Rattle.name_tree.specs.Value.{TreeValue, TreeValues, Branches, leaf, neg, fail, empty, alt}
use Rattle.name_tree.specs.Value.{union, none, more, no_branch, branch, append_rest}
use Rattle.name_tree.specs.Value.{append_rest_branches}
use Rattle.name_tree.specs.Tree.{value_of, listed}
use Rattle.name_tree.specs.declared.tree.Tree.{Tree}
use Rattle.dtab_table.specs.Dtab.{rewrites}
use Rattle.dtab_table.specs.LeanTrees.{lean_trees, lent_trees}
use Rattle.dtab_table.specs.Rules.{Rule}
use Rattle.bind_core.specs.declared.frame.FirstOf.{FirstOf}
use Rattle.bind_core.specs.declared.frame.TreesLeft.{TreesLeft}
use Rattle.bind_core.specs.declared.frame.TreesLeft.TheVariants as trees
use Rattle.bind_core.specs.declared.frame.Union.{Union}
use Rattle.bind_core.specs.declared.frame.Frame.{Frame}
use Rattle.bind_core.specs.declared.frame.Frame.TheVariants as frame
use Rattle.addr_book.specs.declared.leaf.Leaf.{Leaf}
use Rattle.bind_core.specs.declared.outcome.Outcome.{Outcome}
use Rattle.bind_core.specs.declared.outcome.Outcome.TheVariants as outcome
use Rattle.bind_core.specs.declared.trace.LookupEnd.{LookupEnd}
use Rattle.bind_core.specs.declared.trace.TraceItem.{TraceItem}
use Rattle.bind_core.specs.declared.work.Scene.{Scene}
use Rattle.bind_core.specs.declared.work.Work.{Work}
use Rattle.bind_core.specs.declared.work.Task.{Task}
use Rattle.bind_core.specs.declared.work.Task.TheVariants as task
use Rattle.addr_book.specs.Namer.{named_in}
use Rattle.bind_core.specs.Delegation.{Ending, negative, too_deep, too_wide, Names, Visit, Told}
use Rattle.bind_core.specs.Delegation.{or_else, Evaluated, walk, walk_each, first_of, named_ending}
use Rattle.bind_core.specs.Delegation.{lookup, within_width, most_wide, visits_within}
use Rattle.bind_core.specs.Kept.{Kept, kept_of, kept_with, kept_ending}
use Rattle.bind_core.specs.Outcome.{ending_of, traced}
use Rattle.bind_core.specs.Rewritten.{labels_of, tree_of}
use Rattle.bind_core.specs.Tables.{rules_in}

-- the rules of a delegation, and what paths name in it by themselves
abbrev pub rules_at : Scene → List Rule
rules_at scene = rules_in scene.tables.now

abbrev pub names_at : Scene → Names
names_at scene = named_in scene.book.now

-- this ends the whole delegation at once
abbrev pub ends_all : Ending → Bool
ends_all too_deep = true
ends_all too_wide = true
ends_all _ = false

-- what is told after these lookups
abbrev pub behind : List Visit → Told → Told
behind visits told = or_else (negative, visits) told

-- a lookup, counted from 0, comes to this
abbrev pub end_at : ℕ → Ending → List Visit → List Visit
end_at at ending [] = []
end_at zero ending (v ∷ vs) = record v { ending = ending } ∷ vs
end_at (suc at) ending (v ∷ vs) = v ∷ end_at at ending vs

-- where a lookup ends, it comes to what is told; unless that ends all, since it came to that before
-- it had ended
abbrev pub closed : Option ℕ → Told → Told
closed None told = told
closed (Some at) told = if ends_all told.0 then told else (told.0, end_at at told.0 told.1)

-- the branches from the first on whose weight is not 0
abbrev pub weighted : Branches → Branches
weighted no_branch = no_branch
weighted (branch n t bs) = if n == 0 then weighted bs else branch n t bs

-- the weight and the tree of the next branch whose weight is not 0, and those behind it
abbrev pub IsNextWeighted : Branches → Branches → Option (ℕ × Bor Tree) → Type 0
IsNextWeighted old new None = weighted old ≡ no_branch
IsNextWeighted old new (Some b) = (weighted old ≡ branch b.0 (value_of b.1.now) new) × (0 < b.0)

module _ (work : Labels → ℕ) where
  abbrev mutual
    -- the turns that a tree takes, where a path takes so many
    pub tree_work : TreeValue → ℕ
    tree_work (leaf path) = work path
    tree_work neg = 1
    tree_work fail = 1
    tree_work empty = 1
    tree_work (alt ts) = 1 + all_work ts
    tree_work (union bs) = 1 + each_work bs

    pub all_work : TreeValues → ℕ
    all_work none = 1
    all_work (more t ts) = 1 + (tree_work t + all_work ts)

    pub each_work : Branches → ℕ
    each_work no_branch = 1
    each_work (branch n t bs) = 1 + (tree_work t + each_work bs)

  -- the turns of a frame with these trees
  abbrev pub list_work : List TreeValue → ℕ
  list_work [] = 1
  list_work (t ∷ ts) = 1 + (tree_work t + list_work ts)

-- the trees that are left, with the rest of a path behind their leaves
abbrev pub trees_left : TreesLeft → Labels → List TreeValue
trees_left (trees.Entries entries) path = lent_trees path (into_iter_items entries)
trees_left (trees.Alternatives left) path =
    map (λ t. append_rest (value_of t) (drop left.from path)) (iter_rest left.trees)

-- there is none
abbrev pub NoTreeLeft : TreesLeft → Type 0
NoTreeLeft left = (path : Labels) → trees_left left path ≡ []

-- the next of them, and how many labels of the path its prefix took
abbrev pub IsNextTree : TreesLeft → TreesLeft → Option (Bor Tree × ℕ) → Type 0
IsNextTree old new None = NoTreeLeft old
IsNextTree old new (Some next) = (path : Labels)
    → trees_left old path
    ≡ append_rest (value_of next.0.now) (drop next.1 path) ∷ trees_left new path

-- the trees that are left in a frame
abbrev pub choice_names : FirstOf → List TreeValue
choice_names f = trees_left f.trees (labels_of f.path)

-- the branches that are left in a frame
abbrev pub union_branches : Union → Branches
union_branches f = append_rest_branches (listed (iter_rest f.branches))
    (drop f.from (labels_of f.path))

-- what is told, unless that ends all; then it is the first
abbrev pub unless_ended : Told → Told → Told
unless_ended first told = if ends_all first.0 then first else told

-- what a union comes to that kept so much, where the branch with this weight tells so and the
-- others are left
abbrev pub union_told : Kept → ℕ → Told → List Evaluated → Told
union_told k n told [] = unless_ended told (kept_ending (kept_with k n told.0), told.1)
union_told k n told (b ∷ bs) = unless_ended told
    (union_told (kept_with k n told.0) b.weight (behind told.1 b.told) bs)

-- a lookup of the code, counted from 0, ended so
abbrev pub end_item : ℕ → LookupEnd → List TraceItem → List TraceItem
end_item at ended [] = []
end_item zero ended (i ∷ is) = record i { ended = ended } ∷ is
end_item (suc at) ended (i ∷ is) = i ∷ end_item at ended is

-- so does the lookup that a frame is of, if it is of one
abbrev pub end_items : Option ℕ → LookupEnd → List TraceItem → List TraceItem
end_items None ended items = items
end_items (Some at) ended items = end_item at ended items

-- one lookup more, of which no more than so many are kept: where there were so many before, all are
-- let go
abbrev pub with_item : ℕ → ℕ → TraceItem → List TraceItem → List TraceItem
with_item most count item items = if nat_lt count most then items ++ item ∷ [] else []

-- these lookups were made, and they are kept where there are at most so many
pub record Fits (most : ℕ) (visits : List Visit) (work : Work) : Type 0 where
  pub most_is : work.visits.most ≡ most
  pub count : work.count ≡ length visits
  pub items : work.visits.items.items
      ≡ (if nat_lt most (length visits) then [] else map traced visits)

-- the answer is that there are too many lookups, and there are
pub record IsTooWide (whole : Told) (work : Work) (next : Task) : Type 0 where
  pub outcome : next ≡ task.Tell outcome.TooWide
  pub count : work.count ≡ most_wide + 1
  pub items : work.visits.items.items ≡ []
  pub many : most_wide < length whole.1

-- the answer to what was told, within the limit on lookups, with the lookups where there are at
-- most so many
pub record IsAnswer (most : ℕ) (whole : Told) (work : Work) (told : Outcome) : Type 0 where
  pub outcome : ending_of told ≡ within_width whole
  pub count : work.count ≡ min (length whole.1) (most_wide + 1)
  pub items : work.visits.items.items ≡ map traced (visits_within most whole)

module _ (rules : List Rule) where
  -- the turns that a path takes at most, with so many lookups left in its chain
  unfoldable pub path_work : ℕ → Labels → ℕ
  path_work zero path = 1
  path_work (suc left) path = 1 + list_work (path_work left) (lean_trees (rewrites rules path))

  -- the turns that are left for a frame, and for a stack
  abbrev pub choice_work : FirstOf → ℕ
  choice_work f = list_work (path_work f.left) (choice_names f)

  abbrev pub union_work : Union → ℕ
  union_work f = each_work (path_work f.left) (union_branches f)

  abbrev pub frame_work : Frame → ℕ
  frame_work (frame.FirstOf f) = choice_work f
  frame_work (frame.Union f) = union_work f

  abbrev pub stack_work : List Frame → ℕ
  stack_work [] = 0
  stack_work (f ∷ fs) = stack_work fs + frame_work f

  -- the turns that a task takes by itself
  abbrev pub task_work : Task → ℕ
  task_work (task.Try tree left) = tree_work (path_work left) (tree_of tree)
  task_work (task.Tell outcome) = 0

module _ (rules : List Rule) (names : Names) where
  -- what a lookup or an alternation comes to: its trees in order, and then what its path names by
  -- itself
  abbrev pub choice_told : FirstOf → Told
  choice_told f = or_else (first_of (lookup rules names f.left) (choice_names f))
      (named_ending f.named, [])

  -- what it tells on, after what was told before it
  abbrev pub choice_on : FirstOf → Told → Told
  choice_on f told = closed f.visit (or_else told (choice_told f))

  -- what the lookup that began last comes to, with these trees, and what its path names
  abbrev pub lookup_on : List TreeValue → Option Leaf → ℕ → ℕ → List Visit → Told
  lookup_on trees named visit left visits =
      closed (Some visit) (behind visits (or_else (first_of (lookup rules names left) trees)
      (named_ending named, [])))

  -- what a union makes of what is told of the branch that is evaluated
  abbrev pub union_on : Union → Told → Told
  union_on f told = union_told (kept_of f.gathered) f.weight told
      (walk_each (lookup rules names f.left) (union_branches f))

  -- what a frame makes of what is told before it
  abbrev pub frame_on : Frame → Told → Told
  frame_on (frame.FirstOf f) told = choice_on f told
  frame_on (frame.Union f) told = union_on f told

  -- what a stack makes of what is told, the last frame first
  abbrev pub resume : List Frame → Told → Told
  resume [] told = told
  resume (f ∷ fs) told = frame_on f (resume fs told)

  -- what a task tells, after these lookups
  abbrev pub task_told : Task → List Visit → Told
  task_told (task.Try tree left) visits =
      behind visits (walk (lookup rules names left) (tree_of tree))
  task_told (task.Tell outcome) visits = (ending_of outcome, visits)

  -- the task and the stack come to what was asked
  pub record IsOpen (most : ℕ) (whole : Told) (stack : List Frame) (work : Work) (next : Task)
      : Type 0 where
    pub visits : List Visit
    pub fits : Fits most visits work
    pub few : work.count ≤ most_wide
    pub same : resume stack (task_told next visits) ≡ whole

  -- the task leads to the whole: together with the stack it comes to that, or the whole is too wide
  abbrev pub LeadsTo : ℕ → Told → List Frame → Work → Task → Type 0
  LeadsTo most whole stack work next = IsOpen most whole stack work next ⊎ IsTooWide whole work next

  -- a step to the whole: it puts frames on the stack, and they lead to the whole with the next
  -- task, in fewer turns than so many. The whole goes on from the lookups that were made before
  pub record IsStep (most : ℕ) (whole : List Visit → Told) (turns : ℕ) (old new : Work)
      (next : Task)
      : Type 0 where
    pub more : List Frame
    pub pushed : new.stack.items ≡ old.stack.items ++ more
    pub less : stack_work rules more + task_work rules next < turns
    pub leads : (visits : List Visit) → Fits most visits old
        → LeadsTo most (whole visits) more new next
