-- What several tables rewrite a path to, one behind another.
use Rattle.std.proofs.Common.{◌≡◌, List, [], ◌∷◌, ◌++◌, refl, sym, ap, ◌∙◌, append_assoc}
use Rattle.std.proofs.lemmas.List.{append-nil}
use Rattle.std.specs.Option.{option_to_list}
use Rattle.name_tree.specs.Path.{Labels}
use Rattle.name_tree.specs.Value.{TreeValue, leaf, neg, fail, empty, alt, union}
use Rattle.name_tree.specs.Lean.{lean}
use Rattle.dtab_table.specs.declared.lean_tree.LeanTree.{LeanTree}
use Rattle.dtab_table.specs.Dtab.{rewrite, rewrites}
use Rattle.dtab_table.specs.LeanTrees.{unless_neg, lean_trees, lent_trees}
use Rattle.dtab_table.specs.Rules.{Rule}

-- the rules of the later table come first
rewrites-append : (rules others : List Rule) (path : Labels)
    → rewrites (rules ++ others) path ≡ rewrites others path ++ rewrites rules path
rewrites-append [] others path = sym (append-nil (rewrites others path))
rewrites-append (r ∷ rules) others path =
    ap (λ (ts : List TreeValue). ts ++ option_to_list (rewrite r path))
    (rewrites-append rules others path)
    ∙ append_assoc (rewrites others path) (rewrites rules path) (option_to_list (rewrite r path))

pub three : (space base local : List Rule) (path : Labels)
    → rewrites (space ++ base ++ local) path ≡ (rewrites local path ++ rewrites base path) ++
    rewrites space path
three space base local path =
    rewrites-append (space ++ base) local path
    ∙ (ap (λ (ts : List TreeValue). rewrites local path ++ ts) (rewrites-append space base path)
    ∙ sym (append_assoc (rewrites local path) (rewrites base path) (rewrites space path)))

-- and what there is to try of them
unless-append : (t : TreeValue) (us vs : List TreeValue)
    → unless_neg t (us ++ vs) ≡ unless_neg t us ++ vs
unless-append (leaf path) us vs = refl
unless-append neg us vs = refl
unless-append fail us vs = refl
unless-append empty us vs = refl
unless-append (alt ts) us vs = refl
unless-append (union bs) us vs = refl

lean-append : (ts us : List TreeValue) → lean_trees (ts ++ us) ≡ lean_trees ts ++ lean_trees us
lean-append [] us = refl
lean-append (t ∷ ts) us = ap (unless_neg (lean t)) (lean-append ts us)
    ∙ unless-append (lean t) (lean_trees ts) (lean_trees us)

lean_three : (space base local : List Rule) (path : Labels)
    → lean_trees (rewrites (space ++ base ++ local) path) ≡
    (lean_trees (rewrites local path) ++ lean_trees (rewrites base path)) ++ lean_trees
    (rewrites space path)
lean_three space base local path =
    ap lean_trees (three space base local path)
    ∙ (lean-append (rewrites local path ++ rewrites base path) (rewrites space path)
    ∙ ap (λ (ts : List TreeValue). ts ++ lean_trees (rewrites space path))
    (lean-append (rewrites local path) (rewrites base path)))

pub chained : (space base local : List Rule) (path : Labels) (none : List LeanTree)
    (first second third : List TreeValue) → none ≡ []
    → first ≡ lent_trees path none ++ lean_trees (rewrites local path)
    → second ≡ first ++ lean_trees (rewrites base path)
    → third ≡ second ++ lean_trees (rewrites space path)
    → third ≡ lean_trees (rewrites (space ++ base ++ local) path)
chained space base local path none first second third is first_is second_is third_is =
    rw (third_is, second_is, first_is, is) (sym (lean_three space base local path))
