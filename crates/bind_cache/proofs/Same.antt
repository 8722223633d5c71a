-- The tests of sameness tell what is equal.
use Rattle.std.proofs.Common.{◌≡◌, Bool, true, false, ◌&&◌, List, Some, None, refl, sym, ap, subst}
use Rattle.std.proofs.Common.{◌∙◌}
use Rattle.std.specs.Prelude.{◌==◌, ◌↔◌, IsTrue}
use Rattle.std.specs.Bool.{Decides}
use Rattle.std.specs.Cmp.Lexicographic.{pointwise, pointwise_decides}
use Rattle.std.proofs.lemmas.Slice.Eq.{bytes_eq-Decides}
use Rattle.std.proofs.lemmas.Bool.Decides.{Decides-eqb}
use Rattle.name_tree.specs.Path.{Labels}
use Rattle.name_tree.specs.Value.{TreeValue, TreeValues, Branches, leaf, neg, fail, empty, alt}
use Rattle.name_tree.specs.Value.{union, none, more, no_branch, branch}
use Rattle.dtab_table.specs.Pattern.{Pattern}
use Rattle.dtab_table.specs.Rules.{Rule}
use Rattle.bind_cache.specs.Same.{same_path, same_tree, same_trees, same_branches, same_pattern}
use Rattle.bind_cache.specs.Same.{same_rule, same_rules}
use Rattle.bind_cache.specs.Kept.{Kept, is_key}

pub both_true : (b c : Bool) → (b && c) ≡ true → (b ≡ true) × (c ≡ true)
both_true true c is = (refl, is)
both_true false c is = absurd (cc)

pub and_true : (b c : Bool) → b ≡ true → c ≡ true → (b && c) ≡ true
and_true b c p q = rw (p, q) refl

pub same_path-Decides : (p q : Labels) → Decides (same_path p q) (p ≡ q)
same_path-Decides p q = pointwise_decides bytes_eq-Decides p q

mutual
  unfolding same_tree same_trees same_branches

  same_tree-is : (t u : TreeValue) → same_tree t u ≡ true → t ≡ u
  same_tree-is (leaf p) (leaf q) h = ap leaf ((same_path-Decides p q).0 h)
  same_tree-is neg neg h = refl
  same_tree-is fail fail h = refl
  same_tree-is empty empty h = refl
  same_tree-is (alt ts) (alt us) h = ap alt (same_trees-is ts us h)
  same_tree-is (union bs) (union cs) h = ap union (same_branches-is bs cs h)
  same_tree-is _ _ h = absurd (cc)

  same_trees-is : (ts us : TreeValues) → same_trees ts us ≡ true → ts ≡ us
  same_trees-is none none h = refl
  same_trees-is (more t ts) (more u us) h =
      let parts = both_true (same_tree t u) (same_trees ts us) h in
      let head : t ≡ u = same_tree-is t u parts.0 in
      let tail : ts ≡ us = same_trees-is ts us parts.1 in
      cc
  same_trees-is _ _ h = absurd (cc)

  same_branches-is : (bs cs : Branches) → same_branches bs cs ≡ true → bs ≡ cs
  same_branches-is no_branch no_branch h = refl
  same_branches-is (branch n t bs) (branch m u cs) h =
      let parts = both_true (n == m) (same_tree t u && same_branches bs cs) h in
      let rest = both_true (same_tree t u) (same_branches bs cs) parts.1 in
      let weight : n ≡ m = (Decides-eqb n m).0 parts.0 in
      let head : t ≡ u = same_tree-is t u rest.0 in
      let tail : bs ≡ cs = same_branches-is bs cs rest.1 in
      cc
  same_branches-is _ _ h = absurd (cc)

mutual
  unfolding same_tree same_trees same_branches

  same_tree-refl : (t : TreeValue) → same_tree t t ≡ true
  same_tree-refl (leaf p) = (same_path-Decides p p).1 refl
  same_tree-refl neg = refl
  same_tree-refl fail = refl
  same_tree-refl empty = refl
  same_tree-refl (alt ts) = same_trees-refl ts
  same_tree-refl (union bs) = same_branches-refl bs

  same_trees-refl : (ts : TreeValues) → same_trees ts ts ≡ true
  same_trees-refl none = refl
  same_trees-refl (more t ts) = and_true (same_tree t t) (same_trees ts ts) (same_tree-refl t)
      (same_trees-refl ts)

  same_branches-refl : (bs : Branches) → same_branches bs bs ≡ true
  same_branches-refl no_branch = refl
  same_branches-refl (branch n t bs) =
      and_true (n == n) (same_tree t t && same_branches bs bs) ((Decides-eqb n n).1 refl)
      (and_true (same_tree t t) (same_branches bs bs) (same_tree-refl t) (same_branches-refl bs))

pub same_tree-Decides : (t u : TreeValue) → Decides (same_tree t u) (t ≡ u)
same_tree-Decides t u =
    (same_tree-is t u, λ e. subst (λ (x : TreeValue). same_tree t x ≡ true) e (same_tree-refl t))

pub same_pattern-Decides : (p q : Pattern) → Decides (same_pattern p q) (p ≡ q)
same_pattern-Decides None None = (λ h. refl, λ e. refl)
same_pattern-Decides None (Some m) = (λ h. absurd (cc), λ e. absurd (cc))
same_pattern-Decides (Some l) None = (λ h. absurd (cc), λ e. absurd (cc))
same_pattern-Decides (Some l) (Some m) =
    (λ h. ap Some ((bytes_eq-Decides l m).0 h), λ e. (bytes_eq-Decides l m).1 (cc))

rule_is : (r q : Rule) → r.prefix ≡ q.prefix → r.tree ≡ q.tree → r ≡ q
rule_is r q p t =
    let make : List Pattern → TreeValue → Rule =
    λ prefix tree. record { prefix = prefix; tree = tree } in
    ap (λ (x : List Pattern). make x r.tree) p ∙ ap (make q.prefix) t

pub same_rule-Decides : (r q : Rule) → Decides (same_rule r q) (r ≡ q)
unfolding same_rule
same_rule-Decides r q = (
  λ h. let parts = both_true (pointwise same_pattern r.prefix q.prefix)
      (same_tree r.tree q.tree) h in
      rule_is r q ((pointwise_decides same_pattern-Decides r.prefix q.prefix).0 parts.0)
      ((same_tree-Decides r.tree q.tree).0 parts.1),
  λ e. and_true (pointwise same_pattern r.prefix q.prefix) (same_tree r.tree q.tree)
      ((pointwise_decides same_pattern-Decides r.prefix q.prefix).1
      (ap (λ (x : Rule). x.prefix) e))
      ((same_tree-Decides r.tree q.tree).1 (ap (λ (x : Rule). x.tree) e)),
)

pub same_rules-Decides : (rs qs : List Rule) → Decides (same_rules rs qs) (rs ≡ qs)
same_rules-Decides rs qs = pointwise_decides same_rule-Decides rs qs

-- a key is that of a binding where both have the same path and the same rules
pub is_key-Decides : (path : Labels) (local : List Rule) (k : Kept)
    → Decides (is_key path local k) ((path ≡ k.path) × (local ≡ k.local))
is_key-Decides path local k = (
  λ h. let parts = both_true (same_path path k.path) (same_rules local k.local) h in
      ((same_path-Decides path k.path).0 parts.0, (same_rules-Decides local k.local).0 parts.1),
  λ e. and_true (same_path path k.path) (same_rules local k.local)
      ((same_path-Decides path k.path).1 e.0) ((same_rules-Decides local k.local).1 e.1),
)

-- the test of a key, path first
pub path_differs : (path : Labels) (local : List Rule) (k : Kept) (b : Bool)
    → IsTrue b ↔ (path ≡ k.path) → b ≡ false → false ≡ is_key path local k
path_differs path local k b tells off =
    let P : Bool → Type 0 = λ x. same_path path k.path ≡ x
    → false ≡ (x && same_rules local k.local) in
    let each : P (same_path path k.path) =
    elim (same_path path k.path) as P [
      | true ↦ (λ e. let has : IsTrue b = tells.1 ((same_path-Decides path k.path).0 e) in
          absurd (cc))
      | false ↦ (λ e. refl)
    ] in
    each refl

pub path_same : (path : Labels) (local : List Rule) (k : Kept) (b rest : Bool)
    → IsTrue b ↔ (path ≡ k.path) → IsTrue b → rest ≡ same_rules local k.local
    → rest ≡ is_key path local k
path_same path local k b rest tells has is =
    is ∙ ap (λ (x : Bool). x && same_rules local k.local)
    (sym ((same_path-Decides path k.path).1 (tells.0 has)))
