-- Trees and lookups are never too wide: that is for the whole delegation to say.
use Rattle.std.proofs.Common.{◌-◌, ◌≡◌, ℕ, zero, suc, Bool, true, false, List, [], ◌∷◌, Option}
use Rattle.std.proofs.Common.{Some, None, length}
use Rattle.std.specs.Prelude.{nat_lt, ◌==◌, if◌then◌else◌}
use Rattle.name_tree.specs.Path.{Labels, canon_path}
use Rattle.name_tree.specs.Value.{TreeValue, TreeValues, Branches, leaf, neg, fail, empty, alt}
use Rattle.name_tree.specs.Value.{union, none, more, no_branch, branch}
use Rattle.dtab_table.specs.Dtab.{rewrites}
use Rattle.dtab_table.specs.Rules.{Rule}
use Rattle.addr_book.specs.declared.leaf.Leaf.{Leaf}
use Rattle.addr_book.specs.Found.{Found}
use Rattle.bind_core.specs.Delegation.{Told, Evaluated, negative, failing, no_replica, too_deep}
use Rattle.bind_core.specs.Delegation.{too_wide, bound, or_else, is_too_deep, is_failing, is_empty}
use Rattle.bind_core.specs.Delegation.{some_end, found_in, kept, together, walk, walk_all}
use Rattle.bind_core.specs.Delegation.{walk_each, first_of, named_ending, Names, visited, lookup}
use Rattle.bind_core.specs.Delegation.{most_deep, most_path_bytes, Visit}

abbrev pub IsNarrow : Told → Type 0
IsNarrow told = told.0 ≡ too_wide → ⊥

abbrev pub AreNarrow : List Evaluated → Type 0
AreNarrow [] = Unit {0}
AreNarrow (b ∷ bs) = IsNarrow b.told × AreNarrow bs

pub or_else-IsNarrow : (a b : Told) → IsNarrow a → IsNarrow b → IsNarrow (or_else a b)
or_else-IsNarrow (negative, n) b ha hb = hb
or_else-IsNarrow (failing, n) b ha hb = ha
or_else-IsNarrow (no_replica, n) b ha hb = ha
or_else-IsNarrow (too_deep, n) b ha hb = ha
or_else-IsNarrow (too_wide, n) b ha hb = ha
or_else-IsNarrow (bound x, n) b ha hb = ha

kept-narrow : (found : List (ℕ × Found)) (fails lacks : Bool) → kept found fails lacks ≡ too_wide
    → ⊥
kept-narrow [] true lacks h = cc
kept-narrow [] false true h = cc
kept-narrow [] false false h = cc
kept-narrow (m ∷ ms) fails lacks h = cc

together-IsNarrow : (bs : List Evaluated) → IsNarrow (together bs)
together-IsNarrow bs =
    elim (some_end is_too_deep bs) as (λ b.
    (if b then too_deep else kept (found_in bs) (some_end is_failing bs) (some_end is_empty bs))
    ≡ too_wide → ⊥) [
      | true ↦ (λ h. cc)
      | false ↦ kept-narrow (found_in bs) (some_end is_failing bs) (some_end is_empty bs)
    ]

module _ (look : Labels → Told) (narrow : (path : Labels) → IsNarrow (look path)) where
  mutual
    pub walk-IsNarrow : (t : TreeValue) → IsNarrow (walk look t)
    walk-IsNarrow (leaf path) = narrow path
    walk-IsNarrow neg = λ h. cc
    walk-IsNarrow fail = λ h. cc
    walk-IsNarrow empty = λ h. cc
    walk-IsNarrow (alt ts) = walk_all-IsNarrow ts
    walk-IsNarrow (union bs) = together-IsNarrow (walk_each look bs)

    walk_all-IsNarrow : (ts : TreeValues) → IsNarrow (walk_all look ts)
    walk_all-IsNarrow none = λ h. cc
    walk_all-IsNarrow (more t ts) = or_else-IsNarrow (walk look t) (walk_all look ts)
        (walk-IsNarrow t) (walk_all-IsNarrow ts)

  pub walk_each-AreNarrow : (bs : Branches) → AreNarrow (walk_each look bs)
  walk_each-AreNarrow no_branch = tt
  walk_each-AreNarrow (branch n t bs) =
      elim (n == 0) as (λ b.
      AreNarrow (if b then walk_each look bs else record { weight = n; told = walk look t }
      ∷ walk_each look bs)) [
        | true ↦ walk_each-AreNarrow bs
        | false ↦ (walk-IsNarrow t, walk_each-AreNarrow bs)
      ]

  pub first_of-IsNarrow : (ts : List TreeValue) → IsNarrow (first_of look ts)
  first_of-IsNarrow [] = λ h. cc
  first_of-IsNarrow (t ∷ ts) = or_else-IsNarrow (walk look t) (first_of look ts) (walk-IsNarrow t)
      (first_of-IsNarrow ts)

pub named_ending-IsNarrow : (found : Option Leaf) (n : List Visit)
    → IsNarrow (named_ending found, n)
named_ending-IsNarrow None n = λ h. cc
named_ending-IsNarrow (Some found) n = λ h. cc

pub lookup-IsNarrow : (rules : List Rule) (names : Names) (left : ℕ) (path : Labels)
    → IsNarrow (lookup rules names left path)
unfolding lookup
lookup-IsNarrow rules names zero path = λ h. cc
lookup-IsNarrow rules names (suc left) path =
    let within =
    or_else-IsNarrow (first_of (lookup rules names left) (rewrites rules path))
    (named_ending (names path), [])
    (first_of-IsNarrow (lookup rules names left) (lookup-IsNarrow rules names left)
    (rewrites rules path))
    (named_ending-IsNarrow (names path) []) in
    elim (nat_lt most_path_bytes (length (canon_path path))) as (λ b.
    IsNarrow (if b then (too_deep, []) else visited (most_deep - suc left) path
    (or_else (first_of (lookup rules names left) (rewrites rules path))
    (named_ending (names path), [])))) [ true ↦ (λ h. cc) | false ↦ within ]
