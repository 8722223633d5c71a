-- The turns of the loop: each keeps what the stack comes to, and leaves less work.
use Rattle.std.proofs.Common.{◌≡◌, ℕ, ◌+◌, ◌<◌, ◌≤◌, List, [], ◌∷◌, ◌++◌, length, map, Bool, true}
use Rattle.std.proofs.Common.{false, inl, inr, Option, None, Some, Global, refl, sym, ap, subst}
use Rattle.std.proofs.Common.{◌∙◌, arith}
use Rattle.std.specs.Prelude.{nat_lt, if◌then◌else◌, Result, Ok, Err, IfOk}
use Rattle.std.specs.Option.{is_some}
use Rattle.std.specs.declared.vec.IntoIter.{IntoIter}
use Rattle.std.specs.Vec.Iter.{into_iter_items, into_iter_len}
use Rattle.std.proofs.lemmas.Bool.Decides.{nat_tests}
use Rattle.std.proofs.lemmas.List.{append-nil}
use Rattle.name_tree.specs.Path.{Labels}
use Rattle.name_tree.specs.Value.{TreeValue, Branches, no_branch, branch}
use Rattle.dtab_table.specs.Rules.{Rule}
use Rattle.bind_core.specs.declared.frame.FirstOf.{FirstOf}
use Rattle.bind_core.specs.declared.frame.Union.{Union}
use Rattle.bind_core.specs.declared.frame.Frame.{Frame}
use Rattle.bind_core.specs.declared.frame.Frame.TheVariants as frame
use Rattle.addr_book.specs.declared.leaf.Leaf.{Leaf}
use Rattle.bind_core.specs.declared.outcome.Outcome.{Outcome}
use Rattle.bind_core.specs.declared.outcome.Outcome.TheVariants as outcome
use Rattle.bind_core.specs.declared.work.Work.{Work}
use Rattle.bind_core.specs.declared.work.Task.{Task}
use Rattle.bind_core.specs.declared.work.Task.TheVariants as task
use Rattle.bind_core.specs.Outcome.{ending_of, ended_as, traced}
use Rattle.bind_core.specs.Rewritten.{tree_of}
use Rattle.bind_core.specs.declared.rewritten.Rewritten.{Rewritten}
use Rattle.bind_core.specs.Delegation.{Ending, Names, Visit, negative, Told, kept, or_else, walk}
use Rattle.bind_core.specs.Delegation.{walk_each, lookup, named_ending, most_wide}
use Rattle.bind_core.specs.Kept.{Kept, kept_of, kept_with, kept_ending}
use Rattle.bind_core.specs.Stack.{ends_all, behind, closed, end_items, tree_work, list_work}
use Rattle.bind_core.specs.Stack.{each_work, path_work, choice_work, union_work, frame_work}
use Rattle.bind_core.specs.Stack.{stack_work, task_work, choice_names, union_branches, choice_told}
use Rattle.bind_core.specs.Stack.{choice_on, lookup_on, union_on, frame_on, resume, task_told}
use Rattle.bind_core.specs.Stack.{weighted, Fits, LeadsTo, IsStep, IsAnswer}
use Rattle.bind_core.specs.Turns.{IsTurn, IsFirst}
use Rattle.addr_book.specs.Found.{Found}
use Rattle.bind_core.proofs.Trees.{walk_each-weighted, each_work-weighted, walk_each-some}
use Rattle.bind_core.proofs.Stacks.{resume-append, resume-ended, resume-more, stack_work-append}
use Rattle.bind_core.proofs.Stepping.{tell_step, close_step, push_step, last_step}

keeps : (o : Outcome) (vs : List Visit) (x : Told) → (o ≡ outcome.Neg → ⊥)
    → or_else (ending_of o, vs) x ≡ (ending_of o, vs)
keeps outcome.Neg vs x other = absurd (other refl)
keeps outcome.Fail vs x other = refl
keeps outcome.Empty vs x other = refl
keeps outcome.TooDeep vs x other = refl
keeps outcome.TooWide vs x other = refl
keeps (outcome.Bound found) vs x other = refl

some_work : (work : _) (ts : List TreeValue) → 0 < list_work work ts
some_work work [] = omega arith
some_work work (t ∷ ts) = omega arith

some_each : (work : _) (bs : Branches) → 0 < each_work work bs
some_each work no_branch = omega arith
some_each work (branch n t bs) = omega arith

no_elements : {X : Type 0} (xs : List X) → length xs ≡ 0 → xs ≡ []
no_elements [] none = refl
no_elements (x ∷ xs) none = absurd (omega arith)

-- an iterator with no length has no item
pub no_items : {X : Type 0} (it : IntoIter X Global) → into_iter_len it ≡ 0
    → into_iter_items it ≡ []
no_items it none = no_elements (into_iter_items it) (omega arith)

pub named-goes_on : (named : Option Leaf) → ends_all (named_ending named) ≡ false
named-goes_on None = refl
named-goes_on (Some found) = refl

kept-items : (most : ℕ) (vs : List Visit) (b : Bool)
    → (if b then [] else map traced vs) ≡ map traced (if b then [] else vs)
kept-items most vs true = refl
kept-items most vs false = refl

module _ (rules : List Rule) (names : Names) (most : ℕ) (small : most ≤ most_wide) (whole : Told)
    (work : Work) (o : Outcome) where
  -- what is told at the end is the answer
  answer_of : (vs : List Visit) → Fits most vs work → work.count ≤ most_wide
      → (ending_of o, vs) ≡ whole → IsAnswer most whole work o
  answer_of vs fits few same =
      let made : length vs ≤ most_wide = omega (arith, few, fits.count) in
      let test : nat_lt most_wide (length vs) ≡ false = grind (arith, nat_tests) in
      subst (λ (x : Told). IsAnswer most x work o) same
      (record {
        outcome = rw test refl;
        count = omega (arith, fits.count, made);
        items = fits.items
            ∙ kept-items most vs (nat_lt most (length vs));
      })

  too_many : o ≡ outcome.TooWide → work.count ≡ most_wide + 1 → work.visits.items.items ≡ []
      → most_wide < length whole.1 → IsAnswer most whole work o
  too_many outcome_is count_is items_are many =
      let test : nat_lt most_wide (length whole.1) ≡ true = grind (arith, nat_tests) in
      let none_kept : nat_lt most (length whole.1) ≡ true = grind (arith, nat_tests) in
      record {
        outcome = rw (outcome_is, test) refl;
        count = omega arith;
        items = rw (items_are, none_kept) refl;
      }

  -- what ends all is the answer, whatever is left
  pub ends_at_once : (stack : List Frame) → LeadsTo rules names most whole stack work (task.Tell o)
      → ends_all (ending_of o) ≡ true → IsAnswer most whole work o
  ends_at_once stack (inl open') ends =
      answer_of open'.visits open'.fits open'.few
      (sym (resume-ended rules names stack (ending_of o, open'.visits) ends) ∙ open'.same)
  ends_at_once stack (inr wide) ends = let is : o ≡ outcome.TooWide = cc in
      too_many is wide.count wide.items wide.many

  -- and so is what is told where nothing is left
  pub ends : LeadsTo rules names most whole [] work (task.Tell o) → IsAnswer most whole work o
  ends (inl open') = answer_of open'.visits open'.fits open'.few open'.same
  ends (inr wide) = let is : o ≡ outcome.TooWide = cc in too_many is wide.count wide.items wide.many

not_wide : (o : Outcome) → ends_all (ending_of o) ≡ false → o ≡ outcome.TooWide → ⊥
not_wide o goes_on is = let ends : true ≡ false = rw is at goes_on in cc

-- what does not end all comes after no more lookups than the limit
pub few_told : (rules : List Rule) (names : Names) (most : ℕ) (whole : Told) (stack : List Frame)
    (work : Work) (now : Task) (o : Outcome) → now ≡ task.Tell o
    → LeadsTo rules names most whole stack work now
    → ends_all (ending_of o) ≡ false → work.count ≤ most_wide
few_told rules names most whole stack work now o is (inl open') goes_on = open'.few
few_told rules names most whole stack work now o is (inr wide) goes_on =
    absurd (not_wide o goes_on cc)

pub few_tried : (rules : List Rule) (names : Names) (most : ℕ) (whole : Told) (stack : List Frame)
    (work : Work) (now : Task) (tree : Rewritten) (left : ℕ) → now ≡ task.Try tree left
    → LeadsTo rules names most whole stack work now → work.count ≤ most_wide
few_tried rules names most whole stack work now tree left is (inl open') = open'.few
few_tried rules names most whole stack work now tree left is (inr wide) =
    let other : task.Try tree left ≡ task.Tell outcome.TooWide = cc in cc

module _ (rules : List Rule) (names : Names) (most : ℕ) (whole : Told) where
  -- a step leads on
  leads_on : (fs : List Frame) (asked : List Visit
      → Told) (turns : ℕ) (mid new : Work) (next : Task) → mid.stack.items ≡ fs
      → IsStep rules names most asked turns mid new next
      → (vs : List Visit) → Fits most vs mid → resume rules names fs (asked vs) ≡ whole
      → LeadsTo rules names most whole new.stack.items new next
  leads_on fs asked turns mid new next stack_is step vs fits same =
      elim (step.leads vs fits) [
        | inl on ↦
            inl (record {
              visits = on.visits;
              fits = on.fits;
              few = on.few;
              same =
                  ap (λ (xs : List Frame). resume rules names xs
                  (task_told rules names next on.visits))
                  (step.pushed ∙ ap (λ (xs : List Frame). xs ++ step.more) stack_is)
                  ∙ (resume-append rules names fs step.more (task_told rules names next on.visits)
                  ∙ (ap (resume rules names fs) on.same ∙ same));
            })
        | inr wide ↦
            inr (record {
              outcome = wide.outcome;
              count = wide.count;
              items = wide.items;
              many = subst (λ (x : Told). most_wide < length x.1) same
                  (omega (arith, wide.many, resume-more rules names fs (asked vs)));
            })
      ]

  fewer : (fs : List Frame) (asked : List Visit → Told) (turns : ℕ) (mid new : Work) (next : Task)
      → mid.stack.items ≡ fs → IsStep rules names most asked turns mid new next
      → stack_work rules new.stack.items + task_work rules next < stack_work rules fs + turns
  fewer fs asked turns mid new next stack_is step =
      rw (step.pushed, stack_is) (omega (arith, stack_work-append rules fs step.more, step.less))

  -- the first step
  pub begins : (old new : Work) (next : Task) (asked : List Visit → Told) (turns : ℕ)
      → old.stack.items ≡ [] → Fits most [] old → asked [] ≡ whole
      → IsStep rules names most asked turns old new next
      → LeadsTo rules names most whole new.stack.items new next
  begins old new next asked turns none fits same step =
      leads_on [] asked turns old new next none step [] fits same

  -- a tree that is tried
  pub tried : (work new : Work) (now next : Task) (tree : Rewritten) (left : ℕ)
      → now ≡ task.Try tree left
      → IsStep rules names work.visits.most
      (λ vs. behind vs (walk (lookup rules names left) (tree_of tree)))
      (tree_work (path_work rules left) (tree_of tree)) work new next
      → LeadsTo rules names most whole work.stack.items work now
      → LeadsTo rules names most whole new.stack.items new next
  tried work new now next tree left is step (inl on) =
      let asked : List Visit → Told = λ vs. behind vs
      (walk (lookup rules names left) (tree_of tree)) in
      leads_on work.stack.items asked (tree_work (path_work rules left) (tree_of tree)) work new
      next refl
      (subst (λ (k : ℕ). IsStep rules names k asked
      (tree_work (path_work rules left) (tree_of tree)) work new next) on.fits.most_is step)
      on.visits on.fits (rw is at on.same)
  tried work new now next tree left is step (inr wide) =
      let other : task.Try tree left ≡ task.Tell outcome.TooWide = cc in cc

  module _ (work mid new : Work) (f : Frame) (now : Task) (o : Outcome) (next : Task)
      (is : now ≡ task.Tell o) (popped : work.stack.items ≡ mid.stack.items ++ f ∷ [])
      (count_is : mid.count ≡ work.count) (visits_are : mid.visits ≡ work.visits)
      (step : IsStep rules names work.visits.most (λ vs. frame_on rules names f (ending_of o, vs))
      (frame_work rules f) mid new next) where
    -- an outcome that is told to the last frame
    pub turned : LeadsTo rules names most whole work.stack.items work now
        → ends_all (ending_of o) ≡ false → LeadsTo rules names most whole new.stack.items new next
    turned (inl on) goes_on =
        leads_on mid.stack.items (λ vs. frame_on rules names f (ending_of o, vs))
        (frame_work rules f) mid new next refl (rw on.fits.most_is at step) on.visits
        (record {
          most_is = rw visits_are on.fits.most_is;
          count = count_is ∙ on.fits.count;
          items = rw visits_are on.fits.items;
        })
        (sym (resume-append rules names mid.stack.items (f ∷ []) (ending_of o, on.visits))
        ∙ (ap (λ (xs : List Frame). resume rules names xs (ending_of o, on.visits)) (sym popped)
        ∙ rw is at on.same))
    turned (inr wide) goes_on = absurd (not_wide o goes_on cc)

pub tried_fewer : (rules : List Rule) (names : Names) (most : ℕ) (work new : Work) (now next : Task)
    (tree : Rewritten) (left : ℕ) → now ≡ task.Try tree left
    → IsStep rules names most (λ vs. behind vs (walk (lookup rules names left) (tree_of tree)))
    (tree_work (path_work rules left) (tree_of tree)) work new next
    → stack_work rules new.stack.items + task_work rules next < stack_work rules work.stack.items +
    task_work rules now
tried_fewer rules names most work new now next tree left is step =
    rw is (fewer rules names most (negative, []) work.stack.items
    (λ vs. behind vs (walk (lookup rules names left) (tree_of tree)))
    (tree_work (path_work rules left) (tree_of tree)) work new next refl step)

pub turned_fewer : (rules : List Rule) (names : Names) (most : ℕ) (work mid new : Work) (f : Frame)
    (now : Task) (o : Outcome) (next : Task) → now ≡ task.Tell o
    → work.stack.items ≡ mid.stack.items ++ f ∷ []
    → IsStep rules names most (λ vs. frame_on rules names f (ending_of o, vs)) (frame_work rules f)
    mid new next
    → stack_work rules new.stack.items + task_work rules next < stack_work rules work.stack.items +
    task_work rules now
turned_fewer rules names most work mid new f now o next is popped step =
    let less = fewer rules names most (negative, []) mid.stack.items
    (λ vs. frame_on rules names f (ending_of o, vs)) (frame_work rules f) mid new next refl
    step in
    rw (is, popped) (omega (arith, stack_work-append rules mid.stack.items (f ∷ []), less))

-- what is told where nothing is left, or where it ends all, is the answer
module _ (rules : List Rule) (names : Names) (most : ℕ) (small : most ≤ most_wide) (whole : Told)
    (work : Work) (now : Task) (o : Outcome) (is : now ≡ task.Tell o) where
  pub finished : (stack : List Frame) → LeadsTo rules names most whole stack work now
      → ends_all (ending_of o) ≡ true → IsAnswer most whole work o
  finished stack leads ends = ends_at_once rules names most small whole work o stack
      (subst (λ (x : Task). LeadsTo rules names most whole stack work x) is leads) ends

  pub finished_empty : (stack : List Frame) (left : Work) → length stack ≡ 0
      → left.count ≡ work.count → left.visits ≡ work.visits
      → LeadsTo rules names most whole stack work now → IsAnswer most whole left o
  finished_empty stack left none count_is visits_are leads =
      let none_left : stack ≡ [] = no_elements stack none in
      let answer : IsAnswer most whole work o =
      ends rules names most small whole work o
      (subst (λ (fs : List Frame). LeadsTo rules names most whole fs work (task.Tell o))
      none_left (subst (λ (x : Task). LeadsTo rules names most whole stack work x) is leads)) in
      record {
        outcome = answer.outcome;
        count = count_is ∙ answer.count;
        items = rw visits_are answer.items;
      }

-- what a step does, where it is
pub on_ok : {E : Type 0} {P Q : Task → Type 0} (r : Result Task E) → ((t : Task) → P t → Q t)
    → IfOk r P → IfOk r Q
on_ok (Ok t) f p = f t p
on_ok (Err e) f p = tt

pub is_none : (named : Option Leaf) → is_some named ≡ false → named ≡ None
is_none None h = refl
is_none (Some found) h = cc

pub none_kept : (most : ℕ) (test : Bool) → test ≡ nat_lt 0 most → test ≡ false → most ≡ 0
none_kept most test is no_test = grind (arith, nat_tests)

module _ (rules : List Rule) (names : Names) (most : ℕ) (f : FirstOf) (old new : Work)
    (few : old.count ≤ most_wide) where
  -- a lookup or an alternation passes what is not negative
  pub passed : (o : Outcome) → (o ≡ outcome.Neg → ⊥) → ends_all (ending_of o) ≡ false
      → new.stack.items ≡ old.stack.items → new.count ≡ old.count
      → new.visits.most ≡ old.visits.most
      → new.visits.items.items ≡ end_items f.visit (ended_as (ending_of o)) old.visits.items.items
      → IsStep rules names most (λ vs. choice_on rules names f (ending_of o, vs))
      (choice_work rules f) old new (task.Tell o)
  passed o other goes_on stack_is count_is most_is items_are =
      close_step rules names most (λ vs. choice_on rules names f (ending_of o, vs))
      (choice_work rules f) old new f.visit o
      (some_work (path_work rules f.left) (choice_names f)) few goes_on stack_is count_is
      most_is items_are (λ vs. ap (closed f.visit)
      (sym (keeps o vs (choice_told rules names f) other)))

  -- and where no tree is left, it comes to what its path names
  pub emptied : (told o : Outcome) → told ≡ outcome.Neg → choice_names f ≡ []
      → ending_of o ≡ named_ending f.named → new.stack.items ≡ old.stack.items
      → new.count ≡ old.count
      → new.visits.most ≡ old.visits.most → new.visits.items.items ≡ end_items f.visit
      (ended_as (ending_of o)) old.visits.items.items
      → IsStep rules names most (λ vs. choice_on rules names f (ending_of told, vs))
      (choice_work rules f) old new (task.Tell o)
  emptied told o is none end_is stack_is count_is most_is items_are =
      let goes_on : ends_all (ending_of o) ≡ false = ap ends_all end_is ∙ named-goes_on f.named in
      close_step rules names most (λ vs. choice_on rules names f (ending_of told, vs))
      (choice_work rules f) old new f.visit o
      (some_work (path_work rules f.left) (choice_names f)) few goes_on stack_is count_is
      most_is items_are (λ vs. rw (is, none, end_is)
      (ap (λ (xs : List Visit). closed f.visit (named_ending f.named, xs))
      (sym (append-nil vs))))

  -- else it is left with the trees behind the next
  pub chosen : (g : FirstOf) (tree : Rewritten) (told : Outcome) → told ≡ outcome.Neg
      → choice_names f ≡ tree_of tree ∷ choice_names g → g.left ≡ f.left → g.named ≡ f.named
      → g.visit ≡ f.visit
      → new.stack.items ≡ old.stack.items ++ frame.FirstOf g ∷ [] → new.count ≡ old.count
      → new.visits ≡ old.visits
      → IsStep rules names most (λ vs. choice_on rules names f (ending_of told, vs))
      (choice_work rules f) old new (task.Try tree f.left)
  chosen g tree told is cut left named visit pushed count_is visits_are =
      rw (is, cut, ← named, ← visit) (push_step rules names most old new g tree f.left few pushed
      count_is visits_are left)

-- a lookup with no tree comes to what its path names
pub bare : (rules : List Rule) (names : Names) (most : ℕ) (ts : List TreeValue)
    (named : Option Leaf) (visit left : ℕ) (old new : Work) (o : Outcome) → ts ≡ []
    → old.count ≤ most_wide
    → ending_of o ≡ named_ending named → new.stack.items ≡ old.stack.items → new.count ≡ old.count
    → new.visits.most ≡ old.visits.most → new.visits.items.items ≡ end_items (Some visit)
    (ended_as (ending_of o)) old.visits.items.items
    → IsStep rules names most (λ vs. lookup_on rules names ts named visit left vs)
    (list_work (path_work rules left) ts) old new (task.Tell o)
bare rules names most ts named visit left old new o none few end_is stack_is count_is most_is
    items_are =
    let goes_on : ends_all (ending_of o) ≡ false = ap ends_all end_is ∙ named-goes_on named in
    close_step rules names most (λ vs. lookup_on rules names ts named visit left vs)
    (list_work (path_work rules left) ts) old new (Some visit) o
    (some_work (path_work rules left) ts) few goes_on stack_is count_is
    most_is items_are (λ vs. rw (none, end_is)
    (ap (λ (xs : List Visit). closed (Some visit) (named_ending named, xs))
    (sym (append-nil vs))))

-- one with trees leaves those behind the first
pub first : (rules : List Rule) (names : Names) (most : ℕ) (ts : List TreeValue)
    (named : Option Leaf) (visit left : ℕ) (old new : Work) (g : FirstOf) (tree : Rewritten)
    → ts ≡ tree_of tree ∷ choice_names g
    → old.count ≤ most_wide → g.left ≡ left → g.named ≡ named → g.visit ≡ Some visit
    → new.stack.items ≡ old.stack.items ++ frame.FirstOf g ∷ [] → new.count ≡ old.count
    → new.visits ≡ old.visits
    → IsStep rules names most (λ vs. lookup_on rules names ts named visit left vs)
    (list_work (path_work rules left) ts) old new (task.Try tree left)
first rules names most ts named visit left old new g tree cut few left_is named_is visit_is pushed
    count_is visits_are =
    rw cut (rw (named_is, visit_is) at (push_step rules names most old new g tree left few pushed
    count_is visits_are left_is))

-- and nothing where there is none behind it, its path names nothing, and no lookup is kept
pub last : (rules : List Rule) (names : Names) (most : ℕ) (ts : List TreeValue)
    (named : Option Leaf) (visit left : ℕ) (old : Work) (tree : Rewritten) → ts ≡ tree_of tree ∷ []
    → named ≡ None → most ≡ 0
    → old.count ≤ most_wide → visit < old.count
    → IsStep rules names most (λ vs. lookup_on rules names ts named visit left vs)
    (list_work (path_work rules left) ts) old old (task.Try tree left)
last rules names most ts named visit left old tree only nothing none few before =
    rw (only, nothing) (last_step rules names most old tree visit left none few before)

module _ (rules : List Rule) (names : Names) (most : ℕ) (f : Union) (kept : Kept) (o : Outcome)
    (old : Work) (few : old.count ≤ most_wide) (goes_on : ends_all (ending_of o) ≡ false)
    (kept_is : kept ≡ kept_with (kept_of f.gathered) f.weight (ending_of o)) where
  abbrev look : Labels → Told
  look = lookup rules names f.left

  -- a union without a branch that is left
  pub gathered : (result : Outcome) → weighted (union_branches f) ≡ no_branch
      → ending_of result ≡ kept_ending kept
      → IsStep rules names most (λ vs. union_on rules names f (ending_of o, vs))
      (union_work rules f) old old (task.Tell result)
  gathered result none end_is =
      let no_more : walk_each look (union_branches f) ≡ [] =
      sym (walk_each-weighted look (union_branches f)) ∙ ap (walk_each look) none in
      tell_step rules names most (λ vs. union_on rules names f (ending_of o, vs))
      (union_work rules f) old result (some_each (path_work rules f.left) (union_branches f))
      few
      (λ vs. rw (no_more, goes_on, end_is, kept_is) refl)

  -- else it is left with the branches behind the next
  pub branched : (new : Work) (g : Union) (n : ℕ) (tree : Rewritten)
      → weighted (union_branches f) ≡ branch n (tree_of tree) (union_branches g) → 0 < n
      → g.left ≡ f.left → g.weight ≡ n
      → kept_of g.gathered ≡ kept → new.stack.items ≡ old.stack.items ++ frame.Union g ∷ []
      → new.count ≡ old.count → new.visits ≡ old.visits
      → IsStep rules names most (λ vs. union_on rules names f (ending_of o, vs))
      (union_work rules f) old new (task.Try tree f.left)
  branched new g n tree cut some left weight kept_g pushed count_is visits_are =
      let each : walk_each look (union_branches f) ≡ record {
        weight = n;
        told = walk look (tree_of tree);
      } ∷ walk_each look (union_branches g) =
      sym (walk_each-weighted look (union_branches f))
      ∙ (ap (walk_each look) cut ∙ walk_each-some look n (tree_of tree) (union_branches g)
      some) in
      let rest_work : union_work rules g ≡ each_work (path_work rules f.left) (union_branches g) =
      rw left refl in
      let cut_work : each_work (path_work rules f.left) (weighted (union_branches f)) ≡ 1 +
      (tree_work (path_work rules f.left) (tree_of tree) + each_work (path_work rules f.left)
      (union_branches g)) =
      ap (each_work (path_work rules f.left)) cut in
      record {
        more = frame.Union g ∷ [];
        pushed = pushed;
        less = omega (arith, each_work-weighted (path_work rules f.left) (union_branches f));
        leads = λ vs fits. inl (record {
          visits = vs;
          fits = record {
            most_is = rw visits_are fits.most_is;
            count = count_is
                ∙ fits.count;
            items = rw visits_are fits.items;
          };
          few = omega arith;
          same = rw (each, goes_on, left, weight, kept_g, kept_is) refl;
        });
      }

-- a frame that is a lookup or an alternation, or a union
pub told_choice : {E : Type 0} (rules : List Rule) (names : Names) (most : ℕ) (f : FirstOf)
    (frame_of : Frame) (o : Outcome) (old new : Work) (r : Result Task E)
    → frame_of ≡ frame.FirstOf f
    → IfOk r (IsStep rules names most (λ vs. choice_on rules names f (ending_of o, vs))
    (choice_work rules f) old new)
    → IfOk r (IsStep rules names most (λ vs. frame_on rules names frame_of (ending_of o, vs))
    (frame_work rules frame_of) old new)
told_choice rules names most f frame_of o old new r is step =
    subst (λ (x : Frame). IfOk r (IsStep rules names most
    (λ vs. frame_on rules names x (ending_of o, vs)) (frame_work rules x) old new)) (sym is)
    step

pub told_union : {E : Type 0} (rules : List Rule) (names : Names) (most : ℕ) (f : Union)
    (frame_of : Frame) (o : Outcome) (old new : Work) (r : Result Task E) → frame_of ≡ frame.Union f
    → IfOk r (IsStep rules names most (λ vs. union_on rules names f (ending_of o, vs))
    (union_work rules f) old new)
    → IfOk r (IsStep rules names most (λ vs. frame_on rules names frame_of (ending_of o, vs))
    (frame_work rules frame_of) old new)
told_union rules names most f frame_of o old new r is step =
    subst (λ (x : Frame). IfOk r (IsStep rules names most
    (λ vs. frame_on rules names x (ending_of o, vs)) (frame_work rules x) old new)) (sym is)
    step

-- ---- what a turn does, whatever the frame comes to
pub ending_neg : (o : Outcome) → ending_of o ≡ negative → o ≡ outcome.Neg
ending_neg outcome.Neg is = refl
ending_neg outcome.Fail is = cc
ending_neg outcome.Empty is = cc
ending_neg outcome.TooDeep is = cc
ending_neg outcome.TooWide is = cc
ending_neg (outcome.Bound found) is = cc

kept_passes : (found : List (ℕ × Found)) (fails lacks : Bool)
    → ends_all (kept found fails lacks) ≡ false
kept_passes [] true lacks = refl
kept_passes [] false true = refl
kept_passes [] false false = refl
kept_passes (f ∷ found) fails lacks = refl

-- what is told of a union that has ended goes on
pub gathered_on : (old : List Frame) (f : Union) (k : Kept) (e : Ending) (o : Outcome)
    → weighted (union_branches f) ≡ no_branch → ending_of o ≡ kept_ending k
    → IsTurn (frame.Union f) e old old (task.Tell o)
gathered_on old f k e o none is = inl (
  none,
  record {
    outcome = o;
    is = refl;
    goes_on = rw is (kept_passes k.found k.fails k.lacks);
    same = refl;
  },
)

-- and of a lookup or an alternation
pub passed_on : (old : List Frame) (f : FirstOf) (o : Outcome) → (o ≡ outcome.Neg → ⊥)
    → ends_all (ending_of o) ≡ false → IsTurn (frame.FirstOf f) (ending_of o) old old (task.Tell o)
passed_on old f o other goes_on = inl (
  λ is. absurd (other (ending_neg o is)),
  record {
    outcome = o;
    is = refl;
    goes_on = goes_on;
    same = refl;
  },
)

pub emptied_on : (old : List Frame) (f : FirstOf) (e : Ending) (named : Option Leaf) (o : Outcome)
    → choice_names f ≡ [] → ending_of o ≡ named_ending named
    → IsTurn (frame.FirstOf f) e old old (task.Tell o)
emptied_on old f e named o none is =
    inl (
      λ _. none,
      record {
        outcome = o;
        is = refl;
        goes_on = rw is (named-goes_on named);
        same = refl;
      },
    )

pub named_on : (ts : List TreeValue) (old : List Frame) (named : Option Leaf) (o : Outcome)
    → ending_of o ≡ named_ending named → IsFirst ts old old (task.Tell o)
named_on ts old named o is = inl (record {
  outcome = o;
  is = refl;
  goes_on = rw is (named-goes_on named);
  same = refl;
})

pub turn_of : {E : Type 0} (f frame_of : Frame) (e : Ending) (old new : List Frame)
    (r : Result Task E) → frame_of ≡ f → IfOk r (IsTurn f e old new)
    → IfOk r (IsTurn frame_of e old new)
turn_of f frame_of e old new r is moves =
    subst (λ (x : Frame). IfOk r (IsTurn x e old new)) (sym is) moves
