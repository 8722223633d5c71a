-- What there is to try of the trees of the entries that match, one by one.
use Rattle.std.proofs.Common.{◌≡◌, ℕ, zero, suc, ◌+◌, ◌<◌, ◌≤◌, List, [], ◌∷◌, ◌++◌, length, take}
use Rattle.std.proofs.Common.{drop, get_or, Option, Some, refl, sym, ap, ◌∙◌, arith, add-one}
use Rattle.std.proofs.Common.{drop-cons}
use Rattle.std.specs.List.{slice_get}
use Rattle.std.proofs.lemmas.List.{append-nil, drop_all, take_more}
use Rattle.std.proofs.lemmas.List.Concat.{flat_map-cons}
use Rattle.name_tree.specs.Path.{Labels}
use Rattle.name_tree.specs.Value.{TreeValue, append_rest}
use Rattle.name_tree.specs.Tree.{value_of}
use Rattle.name_tree.specs.Lean.{lean}
use Rattle.name_tree.specs.declared.tree.Tree.{Tree}
use Rattle.dtab_table.specs.declared.entry.Entry.{Entry}
use Rattle.dtab_table.specs.declared.lean_tree.LeanTree.{LeanTree}
use Rattle.dtab_table.specs.Dtab.{rewritten_by}
use Rattle.dtab_table.specs.Kept.{lean_value, AreLean}
use Rattle.dtab_table.specs.LeanTrees.{unless_neg, lean_trees, lent_trees}
use Rattle.dtab_table.proofs.LeanRests.{lean-rest}
use Rattle.dtab_table.proofs.Rewriting.{trees_at}

-- ---- lean trees beside their entries
pub lean_length : (es : List Entry) (ls : List (Option Tree)) → AreLean es ls
    → length ls ≡ length es
lean_length [] [] are = refl
lean_length [] (l ∷ ls) are = absurd are
lean_length (e ∷ es) [] are = absurd are
lean_length (e ∷ es) (l ∷ ls) are = omega (arith, lean_length es ls are.1)

same_some : (e f : Entry) → Some e ≡ Some f → e ≡ f
same_some e f is = cc

pub lean_here : (es : List Entry) (ls : List (Option Tree)) (k : ℕ) (e : Entry) (l : Option Tree)
    → AreLean es ls → slice_get es k ≡ Some e → l ≡ get_or ls k l
    → lean_value e l ≡ lean (value_of e.tree)
lean_here [] ls k e l are at is = cc
lean_here (f ∷ es) [] k e l are at is = absurd are
lean_here (f ∷ es) (m ∷ ls) zero e l are at is = let same : f ≡ e = same_some f e at in
    rw (is, ← same) are.0
lean_here (f ∷ es) (m ∷ ls) (suc k) e l are at is = lean_here es ls k e l are.1 at is

lean_push : (es : List Entry) (ls : List (Option Tree)) (e : Entry) (l : Option Tree)
    → AreLean es ls → lean_value e l ≡ lean (value_of e.tree)
    → AreLean (es ++ e ∷ []) (ls ++ l ∷ [])
lean_push [] [] e l are is = (is, tt)
lean_push [] (m ∷ ls) e l are is = absurd are
lean_push (f ∷ es) [] e l are is = absurd are
lean_push (f ∷ es) (m ∷ ls) e l are is = (are.0, lean_push es ls e l are.1 is)

pub leaner_more : (es : List Entry) (i : ℕ) (e : Entry) (l : Option Tree)
    (ls more : List (Option Tree)) → i < length es → e ≡ get_or es i e
    → lean_value e l ≡ lean (value_of e.tree) → more ≡ ls ++ l ∷ []
    → AreLean (take i es) ls → AreLean (take (i + 1) es) more
leaner_more es i e l ls more within is made pushed are =
    let front : take (i + 1) es ≡ take i es ++ e ∷ [] =
    take_more es i e within ∙ ap (λ (f : Entry). take i es ++ f ∷ []) (sym is) in
    rw (pushed, front) (lean_push (take i es) ls e l are made)

-- ---- the trees that are lent
module _ (all : List Entry) (path : Labels) (found : List ℕ) where
  abbrev pub left_from : ℕ → List TreeValue
  left_from i = lean_trees (trees_at all path (drop i found))

  pub lean_begun : (lent : List LeanTree) (rules_say : List TreeValue) → lent ≡ []
      → [] ++ trees_at all path found ≡ rules_say → lent_trees path lent ++ left_from 0
      ≡ lean_trees rules_say
  lean_begun lent rules_say none is = rw none (ap lean_trees is)

  pub lean_more : (i : ℕ) (e : Entry) (tree : Tree) (l : Option Tree) (taken : ℕ)
      (lent more : List LeanTree) (total : List TreeValue) → i < length found
      → slice_get all (get_or found i 0) ≡ Some e
      → value_of tree ≡ lean_value e l → lean_value e l ≡ lean (value_of e.tree)
      → taken ≡ length e.prefix
      → ((p : Labels) (ts : List TreeValue) → lent_trees p more ++ ts
      ≡ lent_trees p lent ++ unless_neg (append_rest (value_of tree) (drop taken p)) ts)
      → lent_trees path lent ++ left_from i ≡ total → lent_trees path more ++ left_from (i + 1)
      ≡ total
  lean_more i e tree l taken lent more total within here own made long put stands =
      let first : trees_at all path (drop i found) ≡ rewritten_by path e
      ∷ trees_at all path (drop (i + 1) found) =
      rw (drop-cons found i 0, add-one, flat_map-cons, here) refl in
      let rest : List ℕ → List TreeValue = λ ks. [] in
      let cut : left_from i
      ≡ unless_neg (append_rest (lean (value_of e.tree)) (drop (length e.prefix) path))
      (left_from (i + 1)) =
      ap lean_trees first ∙ ap (λ (t : TreeValue). unless_neg t (left_from (i + 1)))
      (lean-rest (value_of e.tree) (drop (length e.prefix) path)) in
      put path (left_from (i + 1))
      ∙ (rw (own, made, long) (sym (ap (λ (ts : List TreeValue). lent_trees path lent ++ ts) cut))
      ∙ stands)

  pub lean_done : (i : ℕ) (lent : List LeanTree) (total : List TreeValue) → length found ≤ i
      → lent_trees path lent ++ left_from i ≡ total → lent_trees path lent ≡ total
  lean_done i lent total past stands = let none : drop i found ≡ [] = drop_all i found past in
      sym (append-nil (lent_trees path lent)) ∙ (rw none at stands)
