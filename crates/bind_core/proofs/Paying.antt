-- The turns of the loop are paid by the lookups.
use Rattle.std.proofs.Common.{◌≡◌, ℕ, ◌+◌, ◌*◌, ◌≤◌, ◌⊎◌, inl, inr, List, [], ◌∷◌, ◌++◌, true}
use Rattle.std.proofs.Common.{false, refl, sym, ap, subst, ◌∙◌, arith}
use Rattle.std.specs.Prelude.{◌==◌, if◌then◌else◌}
use Rattle.std.proofs.lemmas.Bool.Decides.{nat_tests}
use Rattle.std.proofs.Math.Nat.{mul-add, mul-one}
use Rattle.name_tree.specs.Path.{Labels}
use Rattle.name_tree.specs.Value.{TreeValue, Branches, leaf, neg, fail, empty, alt, union}
use Rattle.name_tree.specs.Value.{tree_values, no_branch, branch}
use Rattle.dtab_table.specs.declared.lean_tree.LeanTree.{LeanTree}
use Rattle.dtab_table.specs.Dtab.{rewrites}
use Rattle.dtab_table.specs.LeanTrees.{lean_trees, lent_trees}
use Rattle.dtab_table.specs.Rules.{Rule}
use Rattle.bind_core.specs.declared.frame.FirstOf.{FirstOf}
use Rattle.bind_core.specs.declared.frame.Union.{Union}
use Rattle.bind_core.specs.declared.frame.Frame.{Frame}
use Rattle.bind_core.specs.declared.frame.Frame.TheVariants as frame
use Rattle.bind_core.specs.declared.outcome.Outcome.{Outcome}
use Rattle.bind_core.specs.declared.outcome.Outcome.TheVariants as outcome
use Rattle.bind_core.specs.declared.rewritten.Rewritten.{Rewritten}
use Rattle.bind_core.specs.declared.work.Task.{Task}
use Rattle.bind_core.specs.declared.work.Task.TheVariants as task
use Rattle.bind_core.specs.Delegation.{Ending, negative, failing, no_replica, too_deep, too_wide}
use Rattle.bind_core.specs.Delegation.{bound}
use Rattle.bind_core.specs.Outcome.{ending_of}
use Rattle.bind_core.specs.Rewritten.{tree_of}
use Rattle.bind_core.specs.Stack.{ends_all, weighted, choice_names, union_branches}
use Rattle.bind_core.specs.Depth.{depth_of, depth_of_all, depth_of_each, greatest_depth}
use Rattle.bind_core.specs.Depth.{turns_per_lookup}
use Rattle.bind_core.specs.Turns.{is_mark, BeginAll, BeginEach, marks_in, IsTrim, AreTrim, EachTrim}
use Rattle.bind_core.specs.Turns.{ListTrim, FrameTrim, StackTrim, own_turns, owed_turns, told_ahead}
use Rattle.bind_core.specs.Turns.{IsPaid, IsDue, CanLookUp, IsNext, IsToldOn, IsTried, IsTurn}
use Rattle.bind_core.specs.Turns.{IsNextOf, IsFirst}
use Rattle.bind_core.proofs.Trimming.{rewrites_trim}

-- ---- stacks
owed-push : (fs : List Frame) (f : Frame) → owed_turns (fs ++ f ∷ []) ≡ owed_turns fs + own_turns f
owed-push [] f = omega arith
owed-push (g ∷ fs) f = omega (arith, owed-push fs f)

trim-push : (depth : ℕ) (fs : List Frame) (f : Frame) → StackTrim depth fs → FrameTrim depth f
    → StackTrim depth (fs ++ f ∷ [])
trim-push depth [] f stack last = (last, tt)
trim-push depth (g ∷ fs) f stack last = (stack.0, trim-push depth fs f stack.1 last)

trim-pop : (depth : ℕ) (fs : List Frame) (f : Frame) → StackTrim depth (fs ++ f ∷ [])
    → StackTrim depth fs × FrameTrim depth f
trim-pop depth [] f stack = (tt, stack.0)
trim-pop depth (g ∷ fs) f stack = let rest = trim-pop depth fs f stack.1 in
    ((stack.0, rest.0), rest.1)

-- ---- endings
told_few : (depth : ℕ) (e : Ending) → ends_all e ≡ false → told_ahead depth e ≤ 2
told_few depth negative goes_on = omega arith
told_few depth failing goes_on = omega arith
told_few depth no_replica goes_on = omega arith
told_few depth too_deep goes_on = cc
told_few depth too_wide goes_on = cc
told_few depth (bound found) goes_on = omega arith

pub told_most : (depth : ℕ) (e : Ending) → told_ahead depth e ≤ 12 * depth + 10
told_most depth negative = omega arith
told_most depth failing = omega arith
told_most depth no_replica = omega arith
told_most depth too_deep = omega arith
told_most depth too_wide = omega arith
told_most depth (bound found) = omega arith

-- a mark has no depth
no_depth : (t : TreeValue) → is_mark t ≡ true → depth_of t ≡ 0
no_depth (leaf path) is = cc
no_depth neg is = refl
no_depth fail is = refl
no_depth empty is = refl
no_depth (alt ts) is = cc
no_depth (union bs) is = cc

mark_or : (t : TreeValue) → (is_mark t ≡ true) ⊎ (is_mark t ≡ false)
mark_or t = elim (is_mark t) as (λ b. (b ≡ true) ⊎ (b ≡ false))
    [ true ↦ inl refl | false ↦ inr refl ]

abbrev tree_ahead : ℕ → TreeValue → ℕ
tree_ahead depth t = if is_mark t then 1 else turns_per_lookup depth

-- a tree of a frame may be tried behind what was told, and one of a lookup behind the lookup
behind_told : (depth start now owed told : ℕ) (paid_by : ℕ) (t : TreeValue) → depth_of t ≤ depth
    → now + owed ≤ start + paid_by + told → told + 1 ≤ 3 → (is_mark t ≡ true → told + 1 ≤ 1)
    → now + 1 + owed + 12 * depth_of t ≤ start + paid_by + tree_ahead depth t
behind_told depth start now owed told paid_by t less paid few mark = elim (mark_or t) [
  | inl is ↦ (let flat : depth_of t ≡ 0 = no_depth t is in let one : told + 1 ≤ 1 = mark is in
      rw is (omega (arith, flat, one, paid)))
  | inr is ↦ rw is (omega (arith, less, paid, few))
]

-- ---- what is left of a frame
weighted-trim : (bs : Branches) → EachTrim bs → weighted bs ≡ bs
weighted-trim no_branch trim = refl
weighted-trim (branch n t bs) trim = let test : (n == 0) ≡ false =
    grind (arith, nat_tests, trim.0) in rw test refl

-- the next branch, and those behind it
record IsCut (depth : ℕ) (bs : Branches) (t : TreeValue) (cs : Branches) : Type 0 where
  trim : IsTrim t
  less : depth_of t ≤ depth
  rest_trim : EachTrim cs
  rest_less : depth_of_each cs ≤ depth
  marks_are : marks_in bs ≡ (if is_mark t then 1 else 0) + marks_in cs

branch_cut : (depth : ℕ) (bs cs : Branches) (n : ℕ) (t : TreeValue) → bs ≡ branch n t cs
    → EachTrim bs → depth_of_each bs ≤ depth → IsCut depth bs t cs
branch_cut depth bs cs n t is trim less =
    let all : EachTrim (branch n t cs) = subst EachTrim is trim in
    let deep : depth_of_each (branch n t cs) ≤ depth =
    subst (λ (ds : Branches). depth_of_each ds ≤ depth) is less in
    record {
      trim = all.1;
      less = omega (arith, deep);
      rest_trim = all.2;
      rest_less = omega (arith, deep);
      marks_are = ap marks_in is;
    }

-- ---- turns
module _ (depth start now : ℕ) (count : ℕ) (stack : List Frame) (f : Frame) (o : Outcome)
    (new : List Frame) (next : Task) (goes_on : ends_all (ending_of o) ≡ false)
    (paid : now + owed_turns (stack ++ f ∷ []) + 0 ≤ start + turns_per_lookup depth * count +
    told_ahead depth (ending_of o)) (trim : StackTrim depth (stack ++ f ∷ [])) where
  own_some : (g : Frame) → 3 ≤ own_turns g
  own_some (frame.FirstOf g) = omega arith
  own_some (frame.Union g) = omega arith

  told_on : IsToldOn stack new next → IsPaid depth start (now + 1) new count next
  told_on told = record {
    paid = rw (told.is, told.same) (omega
        (arith, paid, owed-push stack f, told_few depth (ending_of o) goes_on, own_some f));
    stack_trim = rw told.same (trim-pop depth stack f trim).0;
    task_trim = rw told.is tt;
  }

  next_of : (h g : Frame) (t : TreeValue) → h ≡ f → IsNext h (ending_of o) t g
      → IsTrim t × (depth_of t ≤ depth) × FrameTrim depth g ×
      (now + 1 + owed_turns stack + own_turns g + 12 * depth_of t ≤ start + turns_per_lookup
      depth * count + tree_ahead depth t)
  next_of (frame.FirstOf h) (frame.FirstOf g) t is left =
      let all = subst (FrameTrim depth) (sym is) (trim-pop depth stack f trim).1 in
      let cut : ListTrim depth (t ∷ choice_names g) = subst (ListTrim depth) left.1 all in
      let own : own_turns f ≡ 3 = ap own_turns (sym is) in
      let none : told_ahead depth (ending_of o) ≡ 0 = ap (told_ahead depth) left.0 in (
        cut.0,
        cut.1,
        cut.2,
        omega (
          arith,
          behind_told depth start now (owed_turns stack + 3) 0
              (turns_per_lookup depth * count) t cut.1
              (omega (arith, paid, owed-push stack f, own, none)) (omega arith) (λ _. omega arith),
        ),
      )
  next_of (frame.FirstOf h) (frame.Union g) t is left = absurd left
  next_of (frame.Union h) (frame.FirstOf g) t is left = absurd left
  next_of (frame.Union h) (frame.Union g) t is left =
      let all = subst (FrameTrim depth) (sym is) (trim-pop depth stack f trim).1 in
      let cut = branch_cut depth (union_branches h) (union_branches g) left.0 t
      (sym (weighted-trim (union_branches h) all.0) ∙ left.1) all.0 all.1 in
      let own : own_turns f ≡ 3 + 4 * marks_in (union_branches h) = ap own_turns (sym is) in
      let few = told_few depth (ending_of o) goes_on in (
        cut.trim,
        cut.less,
        (cut.rest_trim, cut.rest_less),
        elim (mark_or t) [
          | inl mark ↦ (let flat : depth_of t ≡ 0 = no_depth t mark in let marks =
              rw mark at cut.marks_are in rw mark (omega
              (arith, flat, marks, own, few, paid, owed-push stack f)))
          | inr some ↦ (let marks = rw some at cut.marks_are in let less = cut.less in
              rw some (omega (arith, less, marks, own, few, paid, owed-push stack f)))
        ],
      )

  tried_next : IsTried (IsNext f (ending_of o)) stack new next
      → IsPaid depth start (now + 1) new count next
  tried_next tried =
      let left = next_of f tried.frame_left (tree_of tried.tree) refl tried.of_frame in
      record {
        paid = rw (tried.is, tried.pushed) (omega
            (arith, left.3, owed-push stack tried.frame_left));
        stack_trim = rw tried.pushed (trim-push depth stack tried.frame_left
            (trim-pop depth stack f trim).0 left.2);
        task_trim = rw tried.is (left.0, left.1);
      }

  pub turn_paid : IsTurn f (ending_of o) stack new next
      → IsPaid depth start (now + 1) new count next
  turn_paid (inl ended) = told_on ended.1
  turn_paid (inr tried) = tried_next tried

-- an outcome that is told to the last frame
pub turned_paid : (depth start now count : ℕ) (stack mid new : List Frame) (f : Frame)
    (here next : Task) (o : Outcome) → here ≡ task.Tell o → stack ≡ mid ++ f ∷ []
    → ends_all (ending_of o) ≡ false
    → IsPaid depth start now stack count here → IsTurn f (ending_of o) mid new next
    → IsPaid depth start (now + 1) new count next
turned_paid depth start now count stack mid new f here next o is popped goes_on paid turn =
    let at_pop : IsPaid depth start now (mid ++ f ∷ []) count (task.Tell o) =
    subst (λ (fs : List Frame). IsPaid depth start now fs count (task.Tell o)) popped
    (subst (IsPaid depth start now stack count) is paid) in
    turn_paid depth start now count mid f o new next goes_on at_pop.paid at_pop.stack_trim turn

-- what is taken until something is told that is the answer
pub told_paid : (depth start now count : ℕ) (stack : List Frame) (here : Task) (o : Outcome)
    → here ≡ task.Tell o → IsPaid depth start now stack count here
    → now + 1 ≤ start + turns_per_lookup depth * count + turns_per_lookup depth
told_paid depth start now count stack here o is paid =
    let at_end : IsPaid depth start now stack count (task.Tell o) =
    subst (IsPaid depth start now stack count) is paid in
    omega (arith, at_end.paid, told_most depth (ending_of o))

-- ---- a tree that is tried
module _ (depth start now count : ℕ) (stack new : List Frame) (next : Task)
    (stack_trim : StackTrim depth stack) where
  -- the first tree of several is no mark
  abbrev IsHead : ℕ → List TreeValue → Type 0
  IsHead most [] = ⊥
  IsHead most (t ∷ ts) = (is_mark t ≡ false) × IsTrim t × (depth_of t ≤ most) × ListTrim depth ts

  list_trim : (ts : List TreeValue) → AreTrim (tree_values ts)
      → depth_of_all (tree_values ts) ≤ depth → ListTrim depth ts
  list_trim [] trim less = tt
  list_trim (t ∷ ts) trim less = (
    trim.0,
    omega (arith, less),
    list_trim ts trim.1
        (omega (arith, less)),
  )

  head_of : (ts : List TreeValue) → BeginAll (tree_values ts) → AreTrim (tree_values ts)
      → depth_of_all (tree_values ts) ≤ depth → IsHead (depth_of_all (tree_values ts)) ts
  head_of [] begins trim less = absurd begins
  head_of (t ∷ ts) begins trim less = (
    begins,
    trim.0,
    omega arith,
    list_trim ts trim.1
        (omega (arith, less)),
  )

  tried_first : (tree : Rewritten) (left : ℕ) (g : Frame) (most own : ℕ) → next ≡ task.Try tree left
      → new ≡ stack ++ g ∷ [] → is_mark (tree_of tree) ≡ false → IsTrim (tree_of tree)
      → depth_of (tree_of tree) ≤ most
      → most ≤ depth → FrameTrim depth g → own_turns g ≤ 11
      → now + owed_turns stack + 12 * (1 + most) ≤ start + turns_per_lookup depth * count +
      turns_per_lookup depth + 1 → IsPaid depth start now new count next
  tried_first tree left g most own is pushed some trim less within frame_trim few paid = record {
    paid = rw (is, pushed) (rw some (omega (arith, owed-push stack g, less, few, paid)));
    stack_trim = rw pushed (trim-push depth stack g stack_trim frame_trim);
    task_trim = rw is (trim, omega (arith, less, within));
  }

  choice_first : (f : FirstOf) (ts : List TreeValue)
      (tried : IsTried (IsNext (frame.FirstOf f) negative) stack new next) (g : Frame)
      → g ≡ tried.frame_left → choice_names f ≡ ts → IsHead (depth_of_all (tree_values ts)) ts
      → depth_of_all (tree_values ts) ≤ depth
      → IsNext (frame.FirstOf f) negative (tree_of tried.tree) g
      → now + owed_turns stack + 12 * (1 + depth_of_all (tree_values ts)) ≤ start +
      turns_per_lookup depth * count + turns_per_lookup depth + 1
      → IsPaid depth start now new count next
  choice_first f ts tried (frame.FirstOf g) same is head within left paid =
      let most = depth_of_all (tree_values ts) in
      let cut : IsHead most (tree_of tried.tree ∷ choice_names g) =
      subst (IsHead most) (sym is ∙ left.1) head in
      tried_first tried.tree tried.left (frame.FirstOf g) most 0 tried.is
      (tried.pushed ∙ ap (λ (h : Frame). stack ++ h ∷ []) (sym same)) cut.0 cut.1 cut.2 within
      cut.3 (omega arith) paid
  choice_first f ts tried (frame.Union g) same is head within left paid = absurd left

  pub alt_paid : (f : FirstOf) (ts : List TreeValue) → choice_names f ≡ ts
      → IsTrim (alt (tree_values ts)) → depth_of (alt (tree_values ts)) ≤ depth
      → now + owed_turns stack + 12 * depth_of (alt (tree_values ts)) ≤ start + turns_per_lookup
      depth * count + turns_per_lookup depth + 1
      → IsTurn (frame.FirstOf f) negative stack new next → IsPaid depth start now new count next
  alt_paid f ts is trim less paid (inl ended) =
      let none_left : ts ≡ [] = sym is ∙ ended.0 refl in
      absurd (subst (λ (us : List TreeValue). BeginAll (tree_values us)) none_left trim.0)
  alt_paid f ts is trim less paid (inr tried) =
      choice_first f ts tried tried.frame_left refl is
      (head_of ts trim.0 trim.1 (omega (arith, less))) (omega (arith, less)) tried.of_frame paid

  -- and so is the first branch
  abbrev IsFront : ℕ → Branches → Type 0
  IsFront most no_branch = ⊥
  IsFront most (branch n t bs) = (is_mark t ≡ false) × IsTrim t × (depth_of t ≤ most) × EachTrim bs
      × (depth_of_each bs ≤ depth) × (marks_in bs ≤ 2)

  front_of : (bs : Branches) → BeginEach bs → EachTrim bs → marks_in bs ≤ 2
      → depth_of_each bs ≤ depth → IsFront (depth_of_each bs) bs
  front_of no_branch begins trim marks less = absurd begins
  front_of (branch n t bs) begins trim marks less =
      (begins, trim.1, omega arith, trim.2, omega (arith, less), omega (arith, marks))

  union_first : (f : Union) (bs : Branches)
      (tried : IsTried (IsNext (frame.Union f) negative) stack new next) (g : Frame)
      → g ≡ tried.frame_left → union_branches f ≡ bs → EachTrim bs → IsFront (depth_of_each bs) bs
      → depth_of_each bs ≤ depth → IsNext (frame.Union f) negative (tree_of tried.tree) g
      → now + owed_turns stack + 12 * (1 + depth_of_each bs) ≤ start + turns_per_lookup depth *
      count + turns_per_lookup depth + 1
      → IsPaid depth start now new count next
  union_first f bs tried (frame.FirstOf g) same is trim front within left paid = absurd left
  union_first f bs tried (frame.Union g) same is trim front within left paid =
      let most = depth_of_each bs in
      let cut : IsFront most (branch left.0 (tree_of tried.tree) (union_branches g)) =
      subst (IsFront most) (sym (ap weighted is ∙ weighted-trim bs trim) ∙ left.1) front in
      tried_first tried.tree tried.left (frame.Union g) most 0 tried.is
      (tried.pushed ∙ ap (λ (h : Frame). stack ++ h ∷ []) (sym same)) cut.0 cut.1 cut.2 within
      (cut.3, cut.4) (omega (arith, cut.5)) paid

  pub union_paid : (f : Union) (bs : Branches) → union_branches f ≡ bs → IsTrim (union bs)
      → depth_of (union bs) ≤ depth
      → now + owed_turns stack + 12 * depth_of (union bs) ≤ start + turns_per_lookup depth * count +
      turns_per_lookup depth + 1 → IsTurn (frame.Union f) negative stack new next
      → IsPaid depth start now new count next
  union_paid f bs is trim less paid (inl ended) =
      let none_left : bs ≡ no_branch = sym (ap weighted is ∙ weighted-trim bs trim.1) ∙ ended.0 in
      absurd (subst BeginEach none_left trim.0)
  union_paid f bs is trim less paid (inr tried) =
      union_first f bs tried tried.frame_left refl is trim.1
      (front_of bs trim.0 trim.1 trim.2 (omega (arith, less))) (omega (arith, less))
      tried.of_frame paid

-- ---- a lookup
head_first : (depth : ℕ) (ts us : List TreeValue) (t : TreeValue) → ts ≡ t ∷ us → ListTrim depth ts
    → IsTrim t × (depth_of t ≤ depth) × ListTrim depth us
head_first depth ts us t is trim = subst (ListTrim depth) is trim

module _ (depth start now later count : ℕ) (stack new : List Frame) (next : Task)
    (few : later ≤ now + 4) (stack_trim : StackTrim depth stack)
    (paid : now + owed_turns stack + 11 ≤ start + turns_per_lookup depth * count + turns_per_lookup
    depth) where
  one_more : turns_per_lookup depth * (count + 1) ≡ turns_per_lookup depth * count +
      turns_per_lookup depth
  one_more = mul-add (turns_per_lookup depth) count 1
      ∙ ap (λ (n : ℕ). turns_per_lookup depth * count + n) (mul-one (turns_per_lookup depth))

  try_paid : (t : TreeValue) (own : ℕ) → own ≤ 3 → depth_of t ≤ depth
      → later + (owed_turns stack + own) + 12 * depth_of t ≤ start + turns_per_lookup depth *
      (count + 1) + tree_ahead depth t
  try_paid t own small less = elim (mark_or t) [
    | inl mark ↦ (let flat : depth_of t ≡ 0 = no_depth t mark in
        rw mark (omega (arith, flat, one_more, few, paid, small)))
    | inr some ↦ rw some (omega (arith, less, one_more, few, paid, small))
  ]

  with_frame : (ts : List TreeValue) (tried : IsTried (IsNextOf ts) stack new next) (g : Frame)
      → g ≡ tried.frame_left → ListTrim depth ts → IsNextOf ts (tree_of tried.tree) g
      → IsPaid depth start later new (count + 1) next
  with_frame ts tried (frame.Union g) same trim left = absurd left
  with_frame ts tried (frame.FirstOf g) same trim left =
      let cut = head_first depth ts (choice_names g) (tree_of tried.tree) left trim in
      let pushed : new ≡ stack ++ frame.FirstOf g ∷ [] = tried.pushed
      ∙ ap (λ (h : Frame). stack ++ h ∷ []) (sym same) in
      record {
        paid = rw (tried.is, pushed) (omega (
          arith,
          owed-push stack (frame.FirstOf g),
          try_paid
              (tree_of tried.tree) 3 (omega arith) cut.1,
        ));
        stack_trim = rw pushed (trim-push depth stack (frame.FirstOf g) stack_trim cut.2);
        task_trim = rw tried.is (cut.0, cut.1);
      }

  pub lookup_paid : (ts : List TreeValue) → ListTrim depth ts → IsFirst ts stack new next
      → IsPaid depth start later new (count + 1) next
  lookup_paid ts trim (inl told) = record {
    paid = rw (told.is, told.same) (omega (arith, one_more, few, paid));
    stack_trim = rw told.same stack_trim;
    task_trim = rw told.is tt;
  }
  lookup_paid ts trim (inr (inl tried)) =
      with_frame ts tried tried.frame_left refl trim tried.of_frame
  lookup_paid ts trim (inr (inr last)) =
      let cut = head_first depth ts [] (tree_of last.tree) last.of_trees trim in
      record {
        paid = rw (last.is, last.same)
            (omega (arith, try_paid (tree_of last.tree) 0 (omega arith) cut.1));
        stack_trim = rw last.same stack_trim;
        task_trim = rw last.is (cut.0, cut.1);
      }

  -- there are too many
  pub wide_paid : next ≡ task.Tell outcome.TooWide → new ≡ stack → now ≤ later
      → IsPaid depth start later new (count + 1) next
  wide_paid is same after = record {
    paid = rw (is, same) (omega (arith, one_more, few, paid));
    stack_trim = rw same stack_trim;
    task_trim = rw is tt;
  }

-- ---- from turn to turn
pub can_begin : (depth start count : ℕ) (stack : List Frame) → stack ≡ [] → count ≡ 0
    → CanLookUp depth start start stack count
can_begin depth start count stack bare first =
    let owed : owed_turns stack ≡ 0 = ap owed_turns bare in
    record { room = omega (arith, owed); stack_trim = subst (StackTrim depth) (sym bare) tt }

pub due_of : (depth start now later count : ℕ) (stack : List Frame) (here there : Task)
    → here ≡ there → later ≡ now + 1 → IsPaid depth start now stack count here
    → IsDue depth start later stack count there
due_of depth start now later count stack here there is tick paid =
    let at_task : IsPaid depth start now stack count there =
    subst (IsPaid depth start now stack count) is paid in
    record {
      due = omega (arith, at_task.paid, tick);
      stack_trim = at_task.stack_trim;
      task_trim = at_task.task_trim;
    }

pub turned_later : (depth start now later count new_count : ℕ) (stack mid new : List Frame)
    (f : Frame) (here next : Task) (o : Outcome) → here ≡ task.Tell o → stack ≡ mid ++ f ∷ []
    → ends_all (ending_of o) ≡ false
    → later ≡ now + 1 → new_count ≡ count → IsPaid depth start now stack count here
    → IsTurn f (ending_of o) mid new next → IsPaid depth start later new new_count next
turned_later depth start now later count new_count stack mid new f here next o is popped goes_on
    tick same paid turn =
    rw (tick, same) (turned_paid depth start now count stack mid new f here next o is popped goes_on
    paid turn)

pub told_later : (depth start now later count new_count : ℕ) (stack : List Frame) (here : Task)
    (o : Outcome) → here ≡ task.Tell o → later ≡ now + 1 → new_count ≡ count
    → IsPaid depth start now stack count here
    → later ≤ start + turns_per_lookup depth * (new_count + 1)
told_later depth start now later count new_count stack here o is tick same paid =
    let more_of : turns_per_lookup depth * (count + 1) ≡ turns_per_lookup depth * count +
    turns_per_lookup depth =
    mul-add (turns_per_lookup depth) count 1
    ∙ ap (λ (n : ℕ). turns_per_lookup depth * count + n) (mul-one (turns_per_lookup depth)) in
    let told : now + 1 ≤ start + turns_per_lookup depth * count + turns_per_lookup depth =
    told_paid depth start now count stack here o is paid in
    rw (tick, same) (omega (arith, told, more_of))

-- ---- the trees that are tried
module _ (depth start now count : ℕ) (stack : List Frame) (tree : Rewritten) (left : ℕ)
    (due : IsDue depth start now stack count (task.Try tree left)) where
  abbrev Due : TreeValue → Type 0
  Due t = now + owed_turns stack + 12 * depth_of t ≤ start + turns_per_lookup depth * count +
      tree_ahead depth t + 1

  pub neg_due : tree_of tree ≡ neg → ⊥
  neg_due is = subst IsTrim is due.task_trim.0

  pub fail_due : tree_of tree ≡ fail → IsPaid depth start now stack count (task.Tell outcome.Fail)
  fail_due is = let here : Due fail = subst Due is due.due in
      record { paid = omega (arith, here); stack_trim = due.stack_trim; task_trim = tt }

  pub empty_due : tree_of tree ≡ empty
      → IsPaid depth start now stack count (task.Tell outcome.Empty)
  empty_due is = let here : Due empty = subst Due is due.due in
      record { paid = omega (arith, here); stack_trim = due.stack_trim; task_trim = tt }

  pub leaf_due : (path : Labels) → tree_of tree ≡ leaf path → CanLookUp depth start now stack count
  leaf_due path is = let here : Due (leaf path) = subst Due is due.due in
      record { room = omega (arith, here); stack_trim = due.stack_trim }

  pub long_due : (path : Labels) → tree_of tree ≡ leaf path
      → IsPaid depth start now stack count (task.Tell outcome.TooDeep)
  long_due path is = let can = leaf_due path is in
      record { paid = omega (arith, can.room); stack_trim = due.stack_trim; task_trim = tt }

  pub alt_due : (f : FirstOf) (ts : List TreeValue) (new : List Frame) (next : Task)
      → tree_of tree ≡ alt (tree_values ts) → choice_names f ≡ ts
      → IsTurn (frame.FirstOf f) negative stack new next
      → IsPaid depth start now new count next
  alt_due f ts new next is are turn =
      let here : Due (alt (tree_values ts)) = subst Due is due.due in
      let trim : IsTrim (alt (tree_values ts)) = subst IsTrim is due.task_trim.0 in
      let less : depth_of (alt (tree_values ts)) ≤ depth =
      subst (λ (t : TreeValue). depth_of t ≤ depth) is due.task_trim.1 in
      alt_paid depth start now count stack new next due.stack_trim f ts are trim less
      (omega (arith, here)) turn

  pub union_due : (f : Union) (bs : Branches) (new : List Frame) (next : Task)
      → tree_of tree ≡ union bs → union_branches f ≡ bs
      → IsTurn (frame.Union f) negative stack new next → IsPaid depth start now new count next
  union_due f bs new next is are turn =
      let here : Due (union bs) = subst Due is due.due in
      let trim : IsTrim (union bs) = subst IsTrim is due.task_trim.0 in
      let less : depth_of (union bs) ≤ depth =
      subst (λ (t : TreeValue). depth_of t ≤ depth) is due.task_trim.1 in
      union_paid depth start now count stack new next due.stack_trim f bs are trim less
      (omega (arith, here)) turn

-- ---- the lookups that are made
module _ (depth start now count : ℕ) (stack : List Frame)
    (can : CanLookUp depth start now stack count) where
  pub deep_look : IsPaid depth start now stack count (task.Tell outcome.TooDeep)
  deep_look = record { paid = omega (arith, can.room); stack_trim = can.stack_trim; task_trim = tt }

  pub wide_look : (more_of : ℕ) → more_of ≡ count + 1
      → IsPaid depth start now stack more_of (task.Tell outcome.TooWide)
  wide_look more_of is = rw is (wide_paid depth start now now count stack stack
      (task.Tell outcome.TooWide) (omega arith) can.stack_trim can.room refl refl (omega arith))

  pub made_look : (rules : List Rule) (seen path : Labels) (entries left_over : List LeanTree)
      (later new_count : ℕ) (new : List Frame) (next : Task) → greatest_depth rules ≤ depth
      → seen ≡ path → left_over ≡ entries
      → lent_trees seen entries ≡ lean_trees (rewrites rules seen) → later ≤ now + 4
      → new_count ≡ count + 1 → IsFirst (lent_trees path left_over) stack new next
      → IsPaid depth start later new new_count next
  made_look rules seen path entries left_over later new_count new next less is all trees few same
      first =
      let trim : ListTrim depth (lent_trees path left_over) =
      subst (λ (ls : Labels). ListTrim depth (lent_trees ls left_over)) is
      (subst (λ (es : List LeanTree). ListTrim depth (lent_trees seen es)) (sym all)
      (subst (ListTrim depth) (sym trees) (rewrites_trim depth rules seen less))) in
      rw same (lookup_paid depth start now later count stack new next few can.stack_trim can.room
      (lent_trees path left_over) trim first)
