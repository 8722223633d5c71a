-- Each union that a delegation finds has a member, and no weight in it is 0.
use Rattle.std.proofs.Common.{◌≡◌, ◌-◌, ℕ, zero, suc, ◌<◌, Bool, true, false, List, [], ◌∷◌, ◌++◌}
use Rattle.std.proofs.Common.{Option, Some, None, length, inl, inr, sym, subst, arith}
use Rattle.std.specs.Prelude.{nat_lt, if◌then◌else◌}
use Rattle.std.proofs.lemmas.Bool.Decides.{nat_tests}
use Rattle.name_tree.specs.Path.{Labels, canon_path}
use Rattle.name_tree.specs.Value.{TreeValue, TreeValues, Branches, leaf, neg, fail, empty, alt}
use Rattle.name_tree.specs.Value.{union, none, more, no_branch, branch}
use Rattle.dtab_table.specs.Dtab.{rewrites}
use Rattle.dtab_table.specs.Rules.{Rule}
use Rattle.addr_book.specs.declared.leaf.Leaf.{Leaf}
use Rattle.bind_core.specs.declared.outcome.Outcome.{Outcome}
use Rattle.addr_book.specs.Found.{Found, members, IsFilled, AreFilled}
use Rattle.bind_core.specs.Delegation.{Ending, Told, Evaluated, negative, failing, no_replica}
use Rattle.bind_core.specs.Delegation.{too_deep, too_wide, bound, IfBound, or_else, is_too_deep}
use Rattle.bind_core.specs.Delegation.{is_failing, is_empty, some_end, found_at, found_in, kept}
use Rattle.bind_core.specs.Delegation.{together, walk, walk_all, walk_each, first_of, named_ending}
use Rattle.bind_core.specs.Delegation.{Names, visited, lookup, outcome_of, most_deep, most_wide}
use Rattle.bind_core.specs.Delegation.{most_path_bytes}
use Rattle.bind_core.specs.Outcome.{ending_of}
use Rattle.bind_core.proofs.Trees.{zero_or}

abbrev EndsFilled : Told → Type 0
EndsFilled told = IfBound IsFilled told.0

abbrev AllFilled : List Evaluated → Type 0
AllFilled [] = Unit {0}
AllFilled (b ∷ bs) = (0 < b.weight) × EndsFilled b.told × AllFilled bs

or_else-filled : (a b : Told) → EndsFilled a → EndsFilled b → EndsFilled (or_else a b)
or_else-filled (negative, n) b ha hb = hb
or_else-filled (failing, n) b ha hb = tt
or_else-filled (no_replica, n) b ha hb = tt
or_else-filled (too_deep, n) b ha hb = tt
or_else-filled (too_wide, n) b ha hb = tt
or_else-filled (bound f, n) b ha hb = ha

found_at-filled : (n : ℕ) (e : Ending) (ms : List (ℕ × Found)) → 0 < n → IfBound IsFilled e
    → AreFilled (members ms) → AreFilled (members (found_at n e ++ ms))
found_at-filled n negative ms some h k = k
found_at-filled n failing ms some h k = k
found_at-filled n no_replica ms some h k = k
found_at-filled n too_deep ms some h k = k
found_at-filled n too_wide ms some h k = k
found_at-filled n (bound f) ms some h k = (some, h, k)

found_in-filled : (bs : List Evaluated) → AllFilled bs → AreFilled (members (found_in bs))
found_in-filled [] h = tt
found_in-filled (b ∷ bs) h = found_at-filled b.weight b.told.0 (found_in bs) h.0 h.1
    (found_in-filled bs h.2)

kept-filled : (ms : List (ℕ × Found)) (fails lacks : Bool) → AreFilled (members ms)
    → IfBound IsFilled (kept ms fails lacks)
kept-filled [] true lacks h = tt
kept-filled [] false true h = tt
kept-filled [] false false h = tt
kept-filled (m ∷ ms) fails lacks h = (omega arith, h)

together-filled : (bs : List Evaluated) → AllFilled bs → EndsFilled (together bs)
together-filled bs h =
    elim (some_end is_too_deep bs) as (λ b. IfBound IsFilled
    (if b then too_deep else kept (found_in bs) (some_end is_failing bs) (some_end is_empty bs))) [
      | true ↦ tt
      | false ↦ kept-filled (found_in bs) (some_end is_failing bs) (some_end is_empty bs)
          (found_in-filled bs h)
    ]

module _ (look : Labels → Told) (filled : (path : Labels) → EndsFilled (look path)) where
  mutual
    walk-filled : (t : TreeValue) → EndsFilled (walk look t)
    walk-filled (leaf path) = filled path
    walk-filled neg = tt
    walk-filled fail = tt
    walk-filled empty = tt
    walk-filled (alt ts) = walk_all-filled ts
    walk-filled (union bs) = together-filled (walk_each look bs) (walk_each-filled bs)

    walk_all-filled : (ts : TreeValues) → EndsFilled (walk_all look ts)
    walk_all-filled none = tt
    walk_all-filled (more t ts) = or_else-filled (walk look t) (walk_all look ts) (walk-filled t)
        (walk_all-filled ts)

    walk_each-filled : (bs : Branches) → AllFilled (walk_each look bs)
    walk_each-filled no_branch = tt
    walk_each-filled (branch n t bs) = elim (zero_or n) [
      | inl zero_weight ↦ rw zero_weight (walk_each-filled bs)
      | inr some ↦ (let above : 0 < n = grind (arith, nat_tests) in
          rw some (above, walk-filled t, walk_each-filled bs))
    ]

  first_of-filled : (ts : List TreeValue) → EndsFilled (first_of look ts)
  first_of-filled [] = tt
  first_of-filled (t ∷ ts) = or_else-filled (walk look t) (first_of look ts) (walk-filled t)
      (first_of-filled ts)

named_ending-filled : (found : Option Leaf) → IfBound IsFilled (named_ending found)
named_ending-filled None = tt
named_ending-filled (Some found) = tt

lookup-filled : (rules : List Rule) (names : Names) (left : ℕ) (path : Labels)
    → EndsFilled (lookup rules names left path)
unfolding lookup
lookup-filled rules names zero path = tt
lookup-filled rules names (suc left) path =
    let within =
    or_else-filled (first_of (lookup rules names left) (rewrites rules path))
    (named_ending (names path), [])
    (first_of-filled (lookup rules names left) (lookup-filled rules names left)
    (rewrites rules path))
    (named_ending-filled (names path)) in
    elim (nat_lt most_path_bytes (length (canon_path path))) as (λ b.
    EndsFilled (if b then (too_deep, []) else visited (most_deep - suc left) path
    (or_else (first_of (lookup rules names left) (rewrites rules path))
    (named_ending (names path), [])))) [ true ↦ tt | false ↦ within ]

outcome_of-filled : (rules : List Rule) (names : Names) (path : Labels)
    → IfBound IsFilled (outcome_of rules names path)
outcome_of-filled rules names path =
    elim (nat_lt most_wide (length (lookup rules names most_deep path).1)) as (λ b.
    IfBound IsFilled (if b then too_wide else (lookup rules names most_deep path).0)) [
      | true ↦ tt
      | false ↦ lookup-filled rules names most_deep path
    ]

pub filled_outcome : (rules : List Rule) (names : Names) (path : Labels) (o : Outcome)
    → ending_of o ≡ outcome_of rules names path → IfBound IsFilled (ending_of o)
filled_outcome rules names path o is =
    subst (IfBound IsFilled) (sym is) (outcome_of-filled rules names path)
