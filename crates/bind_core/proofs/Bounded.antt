-- Where the rules of a table are sound, each union that a delegation finds has no more members than
-- a union of theirs, and no larger weights.
use Rattle.std.proofs.Common.{◌-◌, ◌≡◌, ℕ, zero, suc, ◌+◌, ◌<◌, ◌≤◌, Bool, true, false, List, []}
use Rattle.std.proofs.Common.{◌∷◌, ◌++◌, Option, Some, None, length, refl, sym, ap, subst, arith}
use Rattle.std.specs.Prelude.{nat_lt, ◌==◌, if◌then◌else◌, option_map}
use Rattle.std.specs.Option.{option_to_list}
use Rattle.name_tree.specs.Path.{Labels, canon_path}
use Rattle.name_tree.specs.Value.{TreeValue, TreeValues, Branches, leaf, neg, fail, empty, alt}
use Rattle.name_tree.specs.Value.{union, none, more, no_branch, branch, append_rest}
use Rattle.name_tree.specs.Value.{append_rest_all, append_rest_branches}
use Rattle.dtab_table.specs.Dtab.{rest_behind, rewrites}
use Rattle.dtab_table.specs.Rules.{Rule}
use Rattle.dtab_table.specs.TableCanon.{AreSoundRules}
use Rattle.name_tree.specs.Canon.{IsSound, AreSound, AreSoundBranches, count_names, count_branches}
use Rattle.name_tree.specs.Canon.{most_members, weight_bound}
use Rattle.addr_book.specs.declared.leaf.Leaf.{Leaf}
use Rattle.bind_core.specs.declared.outcome.Outcome.{Outcome}
use Rattle.addr_book.specs.Found.{Found, members, IsBounded, AreBounded, count_members}
use Rattle.bind_core.specs.Delegation.{Ending, Told, Evaluated, negative, failing, no_replica}
use Rattle.bind_core.specs.Delegation.{too_deep, too_wide, bound, IfBound, or_else, is_too_deep}
use Rattle.bind_core.specs.Delegation.{is_failing, is_empty, some_end, found_at, found_in, kept}
use Rattle.bind_core.specs.Delegation.{together, walk, walk_all, walk_each, first_of, named_ending}
use Rattle.bind_core.specs.Delegation.{Names, visited, lookup, outcome_of, most_deep, most_wide}
use Rattle.bind_core.specs.Delegation.{most_path_bytes}
use Rattle.bind_core.specs.Outcome.{ending_of}

count_names-rest : (ts : TreeValues) (rest : Labels)
    → count_names (append_rest_all ts rest) ≡ count_names ts
count_names-rest none rest = refl
count_names-rest (more t ts) rest = ap (λ (n : ℕ). 1 + n) (count_names-rest ts rest)

count_branches-rest : (bs : Branches) (rest : Labels)
    → count_branches (append_rest_branches bs rest) ≡ count_branches bs
count_branches-rest no_branch rest = refl
count_branches-rest (branch n t bs) rest = ap (λ (n : ℕ). 1 + n) (count_branches-rest bs rest)

mutual
  -- labels behind the leaves leave a tree sound
  rest-sound : (t : TreeValue) (rest : Labels) → IsSound t → IsSound (append_rest t rest)
  rest-sound (leaf path) rest h = tt
  rest-sound neg rest h = tt
  rest-sound fail rest h = tt
  rest-sound empty rest h = tt
  rest-sound (alt ts) rest h = (
    omega (arith, h.0, count_names-rest ts rest),
    omega (arith, h.1, count_names-rest ts rest),
    rest_all-sound ts rest h.2,
  )
  rest-sound (union bs) rest h = (
    omega (arith, h.0, count_branches-rest bs rest),
    omega (arith, h.1, count_branches-rest bs rest),
    rest_branches-sound bs rest h.2,
  )

  rest_all-sound : (ts : TreeValues) (rest : Labels) → AreSound ts
      → AreSound (append_rest_all ts rest)
  rest_all-sound none rest h = tt
  rest_all-sound (more t ts) rest h = (rest-sound t rest h.0, rest_all-sound ts rest h.1)

  rest_branches-sound : (bs : Branches) (rest : Labels) → AreSoundBranches bs
      → AreSoundBranches (append_rest_branches bs rest)
  rest_branches-sound no_branch rest h = tt
  rest_branches-sound (branch n t bs) rest h =
      (h.0, rest-sound t rest h.1, rest_branches-sound bs rest h.2)

abbrev AllSound : List TreeValue → Type 0
AllSound [] = Unit {0}
AllSound (t ∷ ts) = IsSound t × AllSound ts

AllSound-append : (ts us : List TreeValue) → AllSound ts → AllSound us → AllSound (ts ++ us)
AllSound-append [] us h k = k
AllSound-append (t ∷ ts) us h k = (h.0, AllSound-append ts us h.1 k)

rewrites-sound : (rules : List Rule) (path : Labels) → AreSoundRules rules
    → AllSound (rewrites rules path)
rewrites-sound [] path h = tt
rewrites-sound (r ∷ rs) path h =
    let here = elim (rest_behind r.prefix path) as (λ o.
    AllSound (option_to_list (option_map (append_rest r.tree) o)))
    [ None ↦ tt | Some rest ↦ (rest-sound r.tree rest h.0.sound, tt) ] in
    AllSound-append (rewrites rs path)
    (option_to_list (option_map (append_rest r.tree) (rest_behind r.prefix path)))
    (rewrites-sound rs path h.1) here

abbrev EndsBounded : Told → Type 0
EndsBounded told = IfBound IsBounded told.0

abbrev AllBounded : List Evaluated → Type 0
AllBounded [] = Unit {0}
AllBounded (b ∷ bs) = (b.weight < weight_bound) × EndsBounded b.told × AllBounded bs

or_else-bounded : (a b : Told) → EndsBounded a → EndsBounded b → EndsBounded (or_else a b)
or_else-bounded (negative, n) b ha hb = hb
or_else-bounded (failing, n) b ha hb = tt
or_else-bounded (no_replica, n) b ha hb = tt
or_else-bounded (too_deep, n) b ha hb = tt
or_else-bounded (too_wide, n) b ha hb = tt
or_else-bounded (bound f, n) b ha hb = ha

found_at-bounded : (n : ℕ) (e : Ending) (ms : List (ℕ × Found)) → n < weight_bound
    → IfBound IsBounded e → AreBounded (members ms) → AreBounded (members (found_at n e ++ ms))
found_at-bounded n negative ms small h k = k
found_at-bounded n failing ms small h k = k
found_at-bounded n no_replica ms small h k = k
found_at-bounded n too_deep ms small h k = k
found_at-bounded n too_wide ms small h k = k
found_at-bounded n (bound f) ms small h k = (small, h, k)

found_in-bounded : (bs : List Evaluated) → AllBounded bs → AreBounded (members (found_in bs))
found_in-bounded [] h = tt
found_in-bounded (b ∷ bs) h = found_at-bounded b.weight b.told.0 (found_in bs) h.0 h.1
    (found_in-bounded bs h.2)

-- a branch gives one member at most
found_at-count : (n : ℕ) (e : Ending) (ms : List (ℕ × Found))
    → count_members (members (found_at n e ++ ms)) ≤ 1 + count_members (members ms)
found_at-count n negative ms = omega arith
found_at-count n failing ms = omega arith
found_at-count n no_replica ms = omega arith
found_at-count n too_deep ms = omega arith
found_at-count n too_wide ms = omega arith
found_at-count n (bound f) ms = omega arith

found_in-count : (bs : List Evaluated) → count_members (members (found_in bs)) ≤ length bs
found_in-count [] = omega arith
found_in-count (b ∷ bs) =
    omega (arith, found_at-count b.weight b.told.0 (found_in bs), found_in-count bs)

kept-bounded : (ms : List (ℕ × Found)) (fails lacks : Bool)
    → count_members (members ms) ≤ most_members → AreBounded (members ms)
    → IfBound IsBounded (kept ms fails lacks)
kept-bounded [] true lacks few h = tt
kept-bounded [] false true few h = tt
kept-bounded [] false false few h = tt
kept-bounded (m ∷ ms) fails lacks few h = (few, h)

together-bounded : (bs : List Evaluated) → length bs ≤ most_members → AllBounded bs
    → EndsBounded (together bs)
together-bounded bs few h =
    let count : count_members (members (found_in bs)) ≤ most_members =
    omega (arith, found_in-count bs) in
    elim (some_end is_too_deep bs) as (λ b. IfBound IsBounded
    (if b then too_deep else kept (found_in bs) (some_end is_failing bs) (some_end is_empty bs))) [
      | true ↦ tt
      | false ↦ kept-bounded (found_in bs) (some_end is_failing bs) (some_end is_empty bs) count
          (found_in-bounded bs h)
    ]

module _ (look : Labels → Told) (bounded : (path : Labels) → EndsBounded (look path)) where
  walk_each-count : (bs : Branches) → length (walk_each look bs) ≤ count_branches bs
  walk_each-count no_branch = omega arith
  walk_each-count (branch n t bs) =
      let rest = walk_each-count bs in
      elim (n == 0) as (λ b.
      length (if b then walk_each look bs else record { weight = n; told = walk look t }
      ∷ walk_each look bs) ≤ 1 + count_branches bs) [
        | true ↦ omega arith
        | false ↦ omega arith
      ]

  mutual
    walk-bounded : (t : TreeValue) → IsSound t → EndsBounded (walk look t)
    walk-bounded (leaf path) h = bounded path
    walk-bounded neg h = tt
    walk-bounded fail h = tt
    walk-bounded empty h = tt
    walk-bounded (alt ts) h = walk_all-bounded ts h.2
    walk-bounded (union bs) h = together-bounded (walk_each look bs)
        (omega (arith, walk_each-count bs, h.1)) (walk_each-bounded bs h.2)

    walk_all-bounded : (ts : TreeValues) → AreSound ts → EndsBounded (walk_all look ts)
    walk_all-bounded none h = tt
    walk_all-bounded (more t ts) h = or_else-bounded (walk look t) (walk_all look ts)
        (walk-bounded t h.0) (walk_all-bounded ts h.1)

    walk_each-bounded : (bs : Branches) → AreSoundBranches bs → AllBounded (walk_each look bs)
    walk_each-bounded no_branch h = tt
    walk_each-bounded (branch n t bs) h =
        elim (n == 0) as (λ b.
        AllBounded (if b then walk_each look bs else record { weight = n; told = walk look t }
        ∷ walk_each look bs)) [
          | true ↦ walk_each-bounded bs h.2
          | false ↦ (h.0, walk-bounded t h.1, walk_each-bounded bs h.2)
        ]

  first_of-bounded : (ts : List TreeValue) → AllSound ts → EndsBounded (first_of look ts)
  first_of-bounded [] h = tt
  first_of-bounded (t ∷ ts) h = or_else-bounded (walk look t) (first_of look ts)
      (walk-bounded t h.0) (first_of-bounded ts h.1)

named_ending-bounded : (found : Option Leaf) → IfBound IsBounded (named_ending found)
named_ending-bounded None = tt
named_ending-bounded (Some found) = tt

lookup-bounded : (rules : List Rule) (names : Names) (left : ℕ) → AreSoundRules rules
    → (path : Labels) → EndsBounded (lookup rules names left path)
unfolding lookup
lookup-bounded rules names zero sound path = tt
lookup-bounded rules names (suc left) sound path =
    let within =
    or_else-bounded (first_of (lookup rules names left) (rewrites rules path))
    (named_ending (names path), [])
    (first_of-bounded (lookup rules names left) (lookup-bounded rules names left sound)
    (rewrites rules path) (rewrites-sound rules path sound))
    (named_ending-bounded (names path)) in
    elim (nat_lt most_path_bytes (length (canon_path path))) as (λ b.
    EndsBounded (if b then (too_deep, []) else visited (most_deep - suc left) path
    (or_else (first_of (lookup rules names left) (rewrites rules path))
    (named_ending (names path), [])))) [ true ↦ tt | false ↦ within ]

outcome_of-bounded : (rules : List Rule) (names : Names) (path : Labels) → AreSoundRules rules
    → IfBound IsBounded (outcome_of rules names path)
outcome_of-bounded rules names path sound =
    elim (nat_lt most_wide (length (lookup rules names most_deep path).1)) as (λ b.
    IfBound IsBounded (if b then too_wide else (lookup rules names most_deep path).0)) [
      | true ↦ tt
      | false ↦ lookup-bounded rules names most_deep sound path
    ]

pub bounded_outcome : (rules : List Rule) (names : Names) (path : Labels) (o : Outcome)
    → ending_of o ≡ outcome_of rules names path → AreSoundRules rules
    → IfBound IsBounded (ending_of o)
bounded_outcome rules names path o is sound =
    subst (IfBound IsBounded) (sym is) (outcome_of-bounded rules names path sound)
