-- The steps that change a stack: each leads to what it was asked for.
use Rattle.std.proofs.Common.{◌≡◌, ℕ, zero, suc, ◌+◌, ◌-◌, ◌<◌, ◌≤◌, List, [], ◌∷◌, ◌++◌, length}
use Rattle.std.proofs.Common.{Bool, true, false, inl, inr, Option, Some, None, refl, sym, ap, subst}
use Rattle.std.proofs.Common.{◌∙◌, arith, length-append}
use Rattle.std.specs.Prelude.{nat_lt, IsTrue, Result, IfOk, MatchOption}
use Rattle.std.proofs.lemmas.Bool.{cases_lt}
use Rattle.std.proofs.lemmas.Bool.Decides.{nat_tests}
use Rattle.std.proofs.lemmas.List.{append-nil}
use Rattle.name_tree.specs.Path.{Labels, canon_path}
use Rattle.name_tree.specs.Value.{TreeValue, leaf, alt, tree_values, Branches, union}
use Rattle.dtab_table.specs.declared.lean_tree.LeanTree.{LeanTree}
use Rattle.dtab_table.specs.Dtab.{rewrites}
use Rattle.dtab_table.specs.LeanTrees.{lean_trees, lent_trees}
use Rattle.dtab_table.specs.Rules.{Rule}
use Rattle.bind_core.specs.declared.frame.FirstOf.{FirstOf}
use Rattle.bind_core.specs.declared.frame.Union.{Union}
use Rattle.bind_core.specs.declared.frame.Frame.{Frame}
use Rattle.bind_core.specs.declared.frame.Frame.TheVariants as frame
use Rattle.addr_book.specs.declared.leaf.Leaf.{Leaf}
use Rattle.bind_core.specs.declared.outcome.Outcome.{Outcome}
use Rattle.bind_core.specs.declared.outcome.Outcome.TheVariants as outcome
use Rattle.bind_core.specs.declared.work.Work.{Work}
use Rattle.bind_core.specs.declared.work.Task.{Task}
use Rattle.bind_core.specs.declared.work.Task.TheVariants as task
use Rattle.bind_core.specs.Delegation.{Ending, Names, Visit, Told, first_of, visited, lookup}
use Rattle.bind_core.specs.Delegation.{named_ending, walk, walk_each, most_deep, most_wide}
use Rattle.bind_core.specs.Delegation.{most_path_bytes, negative, too_deep, or_else}
use Rattle.bind_core.specs.Kept.{kept_of, nothing_kept}
use Rattle.bind_core.specs.Outcome.{ending_of, ended_as, traced}
use Rattle.bind_core.specs.Rewritten.{labels_of, tree_of}
use Rattle.bind_core.specs.declared.rewritten.HeldPath.{HeldPath}
use Rattle.bind_core.specs.declared.rewritten.Rewritten.{Rewritten}
use Rattle.bind_core.specs.Stack.{ends_all, behind, closed, end_items, with_item, tree_work}
use Rattle.bind_core.specs.Stack.{list_work, path_work, each_work, choice_work, choice_names}
use Rattle.bind_core.specs.Stack.{choice_on, union_work, union_branches, union_on, lookup_on, Fits}
use Rattle.bind_core.specs.Stack.{IsStep, LeadsTo}
use Rattle.bind_core.proofs.Leaning.{first_of-lean}
use Rattle.bind_core.proofs.Trees.{walk_all-tree_values, all_work-tree_values}
use Rattle.bind_core.proofs.Narrow.{IsNarrow, walk_each-AreNarrow, lookup-IsNarrow}
use Rattle.bind_core.proofs.Narrow.{or_else-IsNarrow, first_of-IsNarrow, named_ending-IsNarrow}
use Rattle.bind_core.proofs.Unions.{union_told-together}
use Rattle.bind_core.proofs.Closing.{length-closed, kept-closed, kept-begun, closed-begun}
use Rattle.bind_core.proofs.Closing.{closed-before}
use Rattle.bind_core.proofs.Stacks.{or_else-assoc, ended}

-- what a test of a length says where it fails
longer : (test : Bool) (n most : ℕ) → (IsTrue test → n ≤ most) × (n ≤ most → IsTrue test)
    → test ≡ false → most < n
longer true n most fits no_fit = cc
longer false n most fits no_fit = elim (cases_lt most n)
    [ inl long ↦ long | inr short ↦ (let test : IsTrue false = fits.1 short in cc) ]

-- and so of a path that is seen
pub long_path : (test : Bool) (seen path : Labels) → seen ≡ path
    → (IsTrue test → length (canon_path seen) ≤ most_path_bytes) ×
    (length (canon_path seen) ≤ most_path_bytes → IsTrue test) → test ≡ false
    → most_path_bytes < length (canon_path path)
long_path test seen path is fits no_fit =
    subst (λ (ls : Labels). most_path_bytes < length (canon_path ls)) is
    (longer test (length (canon_path seen)) most_path_bytes fits no_fit)

-- a path that is seen is as short as it is
pub short_path : (seen path : Labels) → seen ≡ path → length (canon_path seen) ≤ most_path_bytes
    → length (canon_path path) ≤ most_path_bytes
short_path seen path is short = subst (λ (ls : Labels). length (canon_path ls) ≤ most_path_bytes) is
    short

closed-is : (visit : Option ℕ) (e : Ending) (vs : List Visit) → ends_all e ≡ false
    → closed visit (e, vs) ≡ (e, (closed visit (e, vs)).1)
closed-is None e vs goes_on = refl
closed-is (Some at) e vs goes_on = rw goes_on refl

module _ (rules : List Rule) (names : Names) (most : ℕ) where
  -- a step that changes nothing and tells
  pub tell_step : (whole : List Visit → Told) (turns : ℕ) (old : Work) (o : Outcome) → 0 < turns
      → old.count ≤ most_wide → ((vs : List Visit) → (ending_of o, vs) ≡ whole vs)
      → IsStep rules names most whole turns old old (task.Tell o)
  tell_step whole turns old o some few same = record {
    more = [];
    pushed = sym (append-nil old.stack.items);
    less = omega arith;
    leads = λ vs fits. inl (record { visits = vs; fits = fits; few = few; same = same vs });
  }

  -- a step that ends a lookup and tells
  pub close_step : (whole : List Visit
      → Told) (turns : ℕ) (old new : Work) (visit : Option ℕ) (o : Outcome) → 0 < turns
      → old.count ≤ most_wide → ends_all (ending_of o) ≡ false
      → new.stack.items ≡ old.stack.items → new.count ≡ old.count
      → new.visits.most ≡ old.visits.most → new.visits.items.items ≡ end_items visit
      (ended_as (ending_of o)) old.visits.items.items
      → ((vs : List Visit) → closed visit (ending_of o, vs) ≡ whole vs)
      → IsStep rules names most whole turns old new (task.Tell o)
  close_step whole turns old new visit o some few goes_on stack_is count_is most_is items_are same =
      record {
        more = [];
        pushed = stack_is ∙ sym (append-nil old.stack.items);
        less = omega arith;
        leads = λ vs fits. inl (record {
          visits = (closed visit (ending_of o, vs)).1;
          fits = record {
            most_is = most_is ∙ fits.most_is;
            count = count_is ∙ (fits.count ∙ sym (length-closed visit (ending_of o, vs)));
            items = items_are ∙ (ap (end_items visit (ended_as (ending_of o))) fits.items
                ∙ kept-closed most visit (ending_of o) vs goes_on);
          };
          few = omega arith;
          same = sym (closed-is visit (ending_of o) vs goes_on) ∙ same vs;
        });
      }

  -- a step that leaves a tree to try, and a frame with those behind it
  pub push_step : (old new : Work) (g : FirstOf) (tree : Rewritten) (left : ℕ)
      → old.count ≤ most_wide → new.stack.items ≡ old.stack.items ++ frame.FirstOf g ∷ []
      → new.count ≡ old.count
      → new.visits ≡ old.visits → g.left ≡ left
      → IsStep rules names most
      (λ vs. closed g.visit (behind vs (or_else
      (or_else (walk (lookup rules names left) (tree_of tree))
      (first_of (lookup rules names left) (choice_names g))) (named_ending g.named, []))))
      (1 + (tree_work (path_work rules left) (tree_of tree) + list_work (path_work rules left)
      (choice_names g))) old new (task.Try tree left)
  push_step old new g tree left few pushed count_is visits_are left_is =
      let look = lookup rules names left in
      let frame_turns : choice_work rules g ≡ list_work (path_work rules left) (choice_names g) =
      rw left_is refl in
      record {
        more = frame.FirstOf g ∷ [];
        pushed = pushed;
        less = omega arith;
        leads = λ vs fits. inl (record {
          visits = vs;
          fits = record {
            most_is = rw visits_are fits.most_is;
            count = count_is
                ∙ fits.count;
            items = rw visits_are fits.items;
          };
          few = omega arith;
          same =
              rw left_is
              (ap (closed g.visit)
              (or_else-assoc (negative, vs) (walk look (tree_of tree))
              (or_else (first_of look (choice_names g)) (named_ending g.named, []))
              ∙ ap (behind vs) (sym (or_else-assoc (walk look (tree_of tree))
              (first_of look (choice_names g)) (named_ending g.named, [])))));
        });
      }

  -- a step that leaves nothing but a tree to try, where no lookup is kept
  pub last_step : (old : Work) (tree : Rewritten) (visit left : ℕ) → most ≡ 0
      → old.count ≤ most_wide → visit < old.count
      → IsStep rules names most (λ vs. closed (Some visit)
      (behind vs (or_else (or_else (walk (lookup rules names left) (tree_of tree))
      (negative, [])) (negative, []))))
      (1 + (tree_work (path_work rules left) (tree_of tree) + 1)) old old (task.Try tree left)
  last_step old tree visit left none few before =
      let told = walk (lookup rules names left) (tree_of tree) in
      record {
        more = [];
        pushed = sym (append-nil old.stack.items);
        less = omega arith;
        leads = λ vs fits. inl (record {
          visits = (closed (Some visit) (told.0, vs)).1;
          fits =
              let same_length = length-closed (Some visit) (told.0, vs) in
              let many : nat_lt most (length vs) ≡ true =
              grind (arith, nat_tests, none, before, fits.count) in
              record {
                most_is = fits.most_is;
                count = fits.count ∙ sym same_length;
                items = rw (same_length, many) (rw many at fits.items);
              };
          few = few;
          same =
              let lt : visit < length vs = omega (arith, before, fits.count) in
              sym (ap (λ (t : Told). closed (Some visit) (behind vs t))
              (ended (or_else told (negative, [])) ∙ ended told)
              ∙ closed-before visit vs told lt);
        });
      }

module _ (rules : List Rule) (names : Names) (path : Labels) where
  -- a lookup that is too deep
  pub lookup-zero : (left : ℕ) → left ≡ 0 → lookup rules names left path ≡ (too_deep, [])
  unfolding lookup
  lookup-zero zero is = refl
  lookup-zero (suc left) is = absurd (omega arith)

  pub lookup-long : (left : ℕ) → most_path_bytes < length (canon_path path)
      → lookup rules names left path ≡ (too_deep, [])
  unfolding lookup
  lookup-long zero long = refl
  lookup-long (suc left) long = let test : nat_lt most_path_bytes (length (canon_path path)) ≡
      true = grind (arith, nat_tests) in rw test refl

  -- what a lookup that is not makes of its trees and of what its path names
  abbrev within : ℕ → Told
  within left = or_else (first_of (lookup rules names (left - 1)) (rewrites rules path))
      (named_ending (names path), [])

  within-narrow : (left : ℕ) → IsNarrow (within left)
  within-narrow left =
      or_else-IsNarrow (first_of (lookup rules names (left - 1)) (rewrites rules path))
      (named_ending (names path), [])
      (first_of-IsNarrow (lookup rules names (left - 1)) (lookup-IsNarrow rules names (left - 1))
      (rewrites rules path)) (named_ending-IsNarrow (names path) [])

  pub lookup-within : (left : ℕ) → 0 < left → length (canon_path path) ≤ most_path_bytes
      → lookup rules names left path ≡ visited (most_deep - left) path (within left)
  unfolding lookup
  lookup-within zero some short = absurd (omega arith)
  lookup-within (suc left) some short =
      let test : nat_lt most_path_bytes (length (canon_path path)) ≡ false =
      grind (arith, nat_tests) in
      let before : suc left - 1 ≡ left = omega arith in rw (test, before) refl

  pub path_work-within : (left : ℕ) → 0 < left
      → path_work rules left path ≡ 1 + list_work (path_work rules (left - 1))
      (lean_trees (rewrites rules path))
  unfolding path_work
  path_work-within zero some = absurd (omega arith)
  path_work-within (suc left) some = let before : suc left - 1 ≡ left = omega arith in
      rw before refl

  pub path_work-some : (left : ℕ) → 0 < path_work rules left path
  unfolding path_work
  path_work-some zero = omega arith
  path_work-some (suc left) = omega arith

  pub deep_step : (most left : ℕ) (old : Work) → old.count ≤ most_wide
      → lookup rules names left path ≡ (too_deep, [])
      → IsStep rules names most (λ vs. behind vs (lookup rules names left path))
      (path_work rules left path) old old (task.Tell outcome.TooDeep)
  deep_step most left old few deep =
      tell_step rules names most (λ vs. behind vs (lookup rules names left path))
      (path_work rules left path) old outcome.TooDeep (path_work-some left) few
      (λ vs. rw deep (ap (λ (xs : List Visit). (too_deep, xs)) (sym (append-nil vs))))

  pub wide_step : (most left : ℕ) (old new : Work) → most_wide ≤ old.count → 0 < left
      → length (canon_path path) ≤ most_path_bytes → new.stack.items ≡ old.stack.items
      → new.count ≡ most_wide + 1
      → new.visits.items.items ≡ []
      → IsStep rules names most (λ vs. behind vs (lookup rules names left path))
      (path_work rules left path) old new (task.Tell outcome.TooWide)
  wide_step most left old new full some short stack_is count_is items_are = record {
    more = [];
    pushed = stack_is ∙ sym (append-nil old.stack.items);
    less = omega (arith, path_work-some left);
    leads = λ vs fits. inr (record {
      outcome = refl;
      count = count_is;
      items = items_are;
      many = rw (lookup-within left some short)
          (omega (
            arith,
            full,
            fits.count,
            length-append vs
                (visited (most_deep - left) path (within left)).1,
          ));
    });
  }

  pub lookup_step : (most left : ℕ) (old mid new : Work) (next : Task) (ts : List TreeValue)
      (named : Option Leaf) → 0 < left → length (canon_path path) ≤ most_path_bytes
      → ts ≡ lean_trees (rewrites rules path) → named ≡ names path
      → mid.stack.items ≡ old.stack.items → mid.count ≡ old.count + 1
      → mid.visits.most ≡ old.visits.most
      → mid.visits.items.items ≡ with_item old.visits.most old.count
      (traced (record { depth = most_deep - left; path = path; ending = too_deep }))
      old.visits.items.items
      → IsStep rules names most (λ vs. lookup_on rules names ts named old.count (left - 1) vs)
      (list_work (path_work rules (left - 1)) ts) mid new next
      → IsStep rules names most (λ vs. behind vs (lookup rules names left path))
      (path_work rules left path) old new next
  lookup_step most left old mid new next ts named some short trees_are named_is stack_is count_is
      most_is items_are step =
      let v : Visit = record { depth = most_deep - left; path = path; ending = too_deep } in
      record {
        more = step.more;
        pushed = step.pushed ∙ ap (λ (fs : List Frame). fs ++ step.more) stack_is;
        less = rw (path_work-within left some, ← trees_are) (omega (arith, step.less));
        leads = λ vs fits.
            let begun : Fits most (vs ++ v ∷ []) mid =
            record {
              most_is = most_is ∙ fits.most_is;
              count = omega (arith, count_is, fits.count, length-append vs (v ∷ []));
              items = items_are ∙ rw (fits.most_is, fits.count, fits.items) (kept-begun most vs v);
            } in
            let same : lookup_on rules names ts named old.count (left - 1) (vs ++ v ∷ []) ≡ behind
            vs (lookup rules names left path) =
            rw (
              trees_are,
              first_of-lean (lookup rules names (left - 1)) (rewrites rules path),
              named_is,
              fits.count,
              lookup-within left some short,
            )
            (closed-begun vs v refl (within left) (within-narrow left)) in
            subst (λ (whole : Told). LeadsTo rules names most whole step.more new next) same
            (step.leads (vs ++ v ∷ []) begun);
      }

looked_up_as : (rules : List Rule) (names : Names) (path : Labels) (left : ℕ) (old mid new : Work)
    (next : Task) (ts : List TreeValue) (named : Option Leaf) → 0 < left
    → length (canon_path path) ≤ most_path_bytes → ts ≡ lean_trees (rewrites rules path)
    → named ≡ names path → mid.stack.items ≡ old.stack.items → mid.count ≡ old.count + 1
    → mid.visits.most ≡ old.visits.most
    → mid.visits.items.items ≡ with_item old.visits.most old.count
    (traced (record { depth = most_deep - left; path = path; ending = too_deep }))
    old.visits.items.items
    → IsStep rules names mid.visits.most
    (λ vs. lookup_on rules names ts named old.count (left - 1) vs)
    (list_work (path_work rules (left - 1)) ts) mid new next
    → IsStep rules names old.visits.most (λ vs. behind vs (lookup rules names left path))
    (path_work rules left path) old new next
looked_up_as rules names path left old mid new next ts named some short trees_are named_is stack_is
    count_is most_is items_are step =
    lookup_step rules names path old.visits.most left old mid new next ts named some short trees_are
    named_is stack_is count_is most_is items_are
    (subst (λ (k : ℕ). IsStep rules names k
    (λ vs. lookup_on rules names ts named old.count (left - 1) vs)
    (list_work (path_work rules (left - 1)) ts) mid new next) most_is step)

-- a lookup of a path that is seen
pub looked_up : (rules : List Rule) (names : Names) (seen path : Labels) (left : ℕ)
    (old mid new : Work) (next : Task) (entries left_over : List LeanTree) (named : Option Leaf)
    → seen ≡ path → left_over ≡ entries
    → 0 < left → length (canon_path seen) ≤ most_path_bytes
    → lent_trees seen entries ≡ lean_trees (rewrites rules seen) → named ≡ names seen
    → mid.stack.items ≡ old.stack.items → mid.count ≡ old.count + 1
    → mid.visits.most ≡ old.visits.most
    → mid.visits.items.items ≡ with_item old.visits.most old.count
    (traced (record { depth = most_deep - left; path = seen; ending = too_deep }))
    old.visits.items.items
    → IsStep rules names mid.visits.most
    (λ vs. lookup_on rules names (lent_trees path left_over) named old.count (left - 1) vs)
    (list_work (path_work rules (left - 1)) (lent_trees path left_over)) mid new next
    → IsStep rules names old.visits.most (λ vs. behind vs (lookup rules names left path))
    (path_work rules left path) old new next
looked_up rules names seen path left old mid new next entries left_over named is all some short
    trees_are named_is stack_is count_is most_is items_are step =
    let Stepped : Labels → List LeanTree → Type 0 = λ ls es.
    IsStep rules names mid.visits.most (λ vs. lookup_on rules names (lent_trees ls es) named
    old.count (left - 1) vs) (list_work (path_work rules (left - 1)) (lent_trees ls es)) mid new
    next in
    subst (λ (ls : Labels). IsStep rules names old.visits.most
    (λ vs. behind vs (lookup rules names left ls)) (path_work rules left ls) old new next) is
    (looked_up_as rules names seen left old mid new next (lent_trees seen entries) named some short
    trees_are named_is stack_is count_is most_is items_are
    (subst (Stepped seen) all (subst (λ (ls : Labels). Stepped ls left_over) (sym is) step)))

-- a step to the same, in no more turns
same_step : (rules : List Rule) (names : Names) (most : ℕ) (asked whole : List Visit
    → Told) (few many : ℕ) (old new : Work) (next : Task)
    → ((vs : List Visit) → asked vs ≡ whole vs) → few ≤ many
    → IsStep rules names most asked few old new next
    → IsStep rules names most whole many old new next
same_step rules names most asked whole few many old new next same more_turns step = record {
  more = step.more;
  pushed = step.pushed;
  less = omega (arith, step.less);
  leads = λ vs fits. subst (λ (told : Told). LeadsTo rules names most told step.more new next)
      (same vs) (step.leads vs fits);
}

module _ (rules : List Rule) (names : Names) (most : ℕ) (tree : TreeValue) (left : ℕ)
    (old new : Work) (next : Task) where
  -- an alternation is what is left of it
  pub alt_step : (ts : List TreeValue) (f : FirstOf) → tree ≡ alt (tree_values ts) → f.left ≡ left
      → choice_names f ≡ ts → f.named ≡ None → f.visit ≡ None
      → IsStep rules names most (λ vs. choice_on rules names f (negative, vs)) (choice_work rules f)
      old new next
      → IsStep rules names most (λ vs. behind vs (walk (lookup rules names left) tree))
      (tree_work (path_work rules left) tree) old new next
  alt_step ts f is left_is trees_are named_is visit_is step =
      let work_is : choice_work rules f ≡ list_work (path_work rules left) ts =
      rw (left_is, trees_are) refl in
      same_step rules names most (λ vs. choice_on rules names f (negative, vs))
      (λ vs. behind vs (walk (lookup rules names left) tree)) (choice_work rules f)
      (tree_work (path_work rules left) tree) old new next
      (λ vs. rw (is, left_is, trees_are, named_is, visit_is)
      (ap (behind vs) (ended (first_of (lookup rules names left) ts)
      ∙ sym (walk_all-tree_values (lookup rules names left) ts))))
      (rw is (omega (arith, work_is, all_work-tree_values (path_work rules left) ts))) step

  -- and so is a union
  pub union_step : (bs : Branches) (f : Union) → tree ≡ union bs → f.left ≡ left
      → union_branches f ≡ bs → kept_of f.gathered ≡ nothing_kept
      → IsStep rules names most (λ vs. union_on rules names f (negative, vs)) (union_work rules f)
      old new next
      → IsStep rules names most (λ vs. behind vs (walk (lookup rules names left) tree))
      (tree_work (path_work rules left) tree) old new next
  union_step bs f is left_is branches_are nothing step =
      let work_is : union_work rules f ≡ each_work (path_work rules left) bs =
      rw (left_is, branches_are) refl in
      same_step rules names most (λ vs. union_on rules names f (negative, vs))
      (λ vs. behind vs (walk (lookup rules names left) tree)) (union_work rules f)
      (tree_work (path_work rules left) tree) old new next
      (λ vs. rw (is, left_is, branches_are, nothing)
      (union_told-together f.weight vs (walk_each (lookup rules names left) bs)
      (walk_each-AreNarrow (lookup rules names left) (lookup-IsNarrow rules names left) bs)))
      (rw is (omega (arith, work_is))) step

-- a mark tells itself
pub mark_step : (rules : List Rule) (names : Names) (most : ℕ) (tree mark : TreeValue) (left : ℕ)
    (old : Work) (o : Outcome) → old.count ≤ most_wide → tree ≡ mark
    → walk (lookup rules names left) mark ≡ (ending_of o, [])
    → 0 < tree_work (path_work rules left) mark
    → IsStep rules names most (λ vs. behind vs (walk (lookup rules names left) tree))
    (tree_work (path_work rules left) tree) old old (task.Tell o)
mark_step rules names most tree mark left old o few is comes some =
    tell_step rules names most (λ vs. behind vs (walk (lookup rules names left) tree))
    (tree_work (path_work rules left) tree) old o (rw is some) few
    (λ vs. rw (is, comes) (ap (λ (xs : List Visit). (ending_of o, xs)) (sym (append-nil vs))))

-- and a leaf is looked up, with the rest behind it
pub leaf_step : {E : Type 0} (rules : List Rule) (names : Names) (most : ℕ) (tree : TreeValue)
    (path : Labels) (left : ℕ) (old new : Work) (r : Result Task E) (joined : Option HeldPath)
    (held : HeldPath) → tree ≡ leaf path
    → joined ≡ Some held → MatchOption joined (most_path_bytes < length (canon_path path))
    (λ h. labels_of h ≡ path)
    → IfOk r (IsStep rules names most (λ vs. behind vs (lookup rules names left (labels_of held)))
    (path_work rules left (labels_of held)) old new)
    → IfOk r (IsStep rules names most (λ vs. behind vs (walk (lookup rules names left) tree))
    (tree_work (path_work rules left) tree) old new)
leaf_step rules names most tree path left old new r joined held is there said step =
    let Joined : Option HeldPath → Type 0 =
    λ o. MatchOption o (most_path_bytes < length (canon_path path)) (λ h. labels_of h ≡ path) in
    let same : labels_of held ≡ path = subst Joined there said in
    let Stepped : TreeValue → Type 0 = λ t. IfOk r
    (IsStep rules names most (λ vs. behind vs (walk (lookup rules names left) t))
    (tree_work (path_work rules left) t) old new) in
    subst Stepped (ap leaf same ∙ sym is) step

-- one that is too long is too deep
pub long_leaf_step : (rules : List Rule) (names : Names) (most : ℕ) (tree : TreeValue)
    (path : Labels) (left : ℕ) (old : Work) (joined : Option HeldPath) → old.count ≤ most_wide
    → tree ≡ leaf path
    → joined ≡ None → MatchOption joined (most_path_bytes < length (canon_path path))
    (λ h. labels_of h ≡ path)
    → IsStep rules names most (λ vs. behind vs (walk (lookup rules names left) tree))
    (tree_work (path_work rules left) tree) old old (task.Tell outcome.TooDeep)
long_leaf_step rules names most tree path left old joined few is none said =
    let Joined : Option HeldPath → Type 0 =
    λ o. MatchOption o (most_path_bytes < length (canon_path path)) (λ h. labels_of h ≡ path) in
    let long : most_path_bytes < length (canon_path path) = subst Joined none said in
    subst (λ (t : TreeValue). IsStep rules names most
    (λ vs. behind vs (walk (lookup rules names left) t)) (tree_work (path_work rules left) t)
    old old (task.Tell outcome.TooDeep)) (sym is)
    (deep_step rules names path most left old few (lookup-long rules names path left long))
