-- One alternative or branch more is written.
use Rattle.std.proofs.Common.{◌≡◌, ℕ, ◌+◌, ◌<◌, ◌≤◌, arith, Bool, ◌||◌, List, [], ◌∷◌, ◌++◌, length}
use Rattle.std.proofs.Common.{map, take, get_or, sym, ap, ◌∙◌, append_assoc, length-take, subst}
use Rattle.std.proofs.Common.{Result, OnOk}
use Rattle.std.specs.Prelude.{codes}
use Rattle.std.specs.declared.alloc.AllocError.{AllocError}
use Rattle.std.proofs.lemmas.List.{take_more, take_all, map-append, length-map, append-nil}
use Rattle.name_tree.specs.declared.tree.Tree.{Tree}
use Rattle.name_tree.specs.declared.tree.Branch.{Branch}
use Rattle.name_tree.specs.declared.tree.Branches.{Branches as BranchList, out-Branches}
use Rattle.name_tree.specs.Value.{TreeValue, tree_values}
use Rattle.name_tree.specs.Canon.{canon_weight, is_alt, is_union, grouped, canon, canon_alts}
use Rattle.name_tree.specs.Canon.{canon_more_alts, branch_text, canon_branches, canon_more_branches}
use Rattle.name_tree.specs.Separated.{separated}
use Rattle.name_tree.specs.Tree.{value_of, branches_of, listed}
use Rattle.name_tree.proofs.Bridge.{branches_of-out}

length-take-le : {A : Type 0} (k : ℕ) (xs : List A) → k < length xs → length (take k xs) ≡ k
length-take-le k xs h = omega (arith, length-take k xs)

abbrev alt_text : TreeValue → List ℕ
alt_text t = grouped (is_alt t) (canon t)

more_alts-snoc : (ts : List TreeValue) (t : TreeValue)
    → canon_more_alts (tree_values (ts ++ t ∷ [])) ≡ canon_more_alts (tree_values ts)
    ++ (codes " | " ++ alt_text t)
more_alts-snoc [] t = simp append-nil
more_alts-snoc (u ∷ us) t = ap (λ x. codes " | " ++ alt_text u ++ x) (more_alts-snoc us t)
    ∙ sym (append_assoc (codes " | " ++ alt_text u) (canon_more_alts (tree_values us))
    (codes " | " ++ alt_text t))

alts-snoc : (ts : List TreeValue) (t : TreeValue)
    → canon_alts (tree_values (ts ++ t ∷ [])) ≡ canon_alts (tree_values ts)
    ++ (separated (length ts) (codes " | ") ++ alt_text t)
alts-snoc [] t = append-nil (alt_text t)
alts-snoc (u ∷ us) t = ap (λ x. alt_text u ++ x) (more_alts-snoc us t)
    ∙ sym (append_assoc (alt_text u) (canon_more_alts (tree_values us)) (codes " | " ++ alt_text t))

abbrev text_of : Branch → List ℕ
text_of b = branch_text b.weight (value_of b.tree)

more_branches-snoc : (bs : List Branch) (b : Branch)
    → canon_more_branches (listed (bs ++ b ∷ [])) ≡ canon_more_branches (listed bs)
    ++ (codes " & " ++ text_of b)
more_branches-snoc [] b = append-nil (codes " & " ++ text_of b)
more_branches-snoc (c ∷ cs) b =
    ap (λ x. codes " & " ++ text_of c ++ x) (more_branches-snoc cs b)
    ∙ sym (append_assoc (codes " & " ++ text_of c) (canon_more_branches (listed cs))
    (codes " & " ++ text_of b))

branches-snoc : (bs : List Branch) (b : Branch) → canon_branches (listed (bs ++ b ∷ []))
    ≡ canon_branches (listed bs) ++ (separated (length bs) (codes " & ") ++ text_of b)
branches-snoc [] b = append-nil (text_of b)
branches-snoc (c ∷ cs) b = ap (λ x. text_of c ++ x) (more_branches-snoc cs b)
    ∙ sym (append_assoc (text_of c) (canon_more_branches (listed cs)) (codes " & " ++ text_of b))

-- the bytes behind one alternative more
pub alts_grown : (ts : List Tree) (k : ℕ) (t : Tree) (group : Bool) (old one two three : List ℕ)
    → k < length ts → t ≡ get_or ts k t
    → one ≡ old ++ canon_alts (tree_values (map value_of (take k ts)))
    → two ≡ one ++ separated k (codes " | ") → group ≡ is_alt (value_of t)
    → three ≡ two ++ grouped group (canon (value_of t))
    → three ≡ old ++ canon_alts (tree_values (map value_of (take (k + 1) ts)))
alts_grown ts k t group old one two three less at e f is g =
    let count : length (map value_of (take k ts)) ≡ k =
    length-map (take k ts) value_of ∙ length-take-le k ts less in
    let step : canon_alts (tree_values (map value_of (take (k + 1) ts)))
    ≡ canon_alts (tree_values (map value_of (take k ts)))
    ++ (separated k (codes " | ") ++ alt_text (value_of t))
    = ap (λ xs. canon_alts (tree_values (map value_of xs))) (take_more ts k t less)
    ∙ (ap (λ u. canon_alts (tree_values (map value_of (take k ts ++ u ∷ [])))) (sym at)
    ∙ (ap (λ xs. canon_alts (tree_values xs)) (map-append value_of (take k ts) (t ∷ []))
    ∙ (alts-snoc (map value_of (take k ts)) (value_of t)
    ∙ ap (λ n. canon_alts (tree_values (map value_of (take k ts)))
    ++ (separated n (codes " | ") ++ alt_text (value_of t))) count))) in
    rw (g, is, f, e, step) (simp append_assoc)

pub branches_grown : (bs : List Branch) (k : ℕ) (b : Branch) (old one two three : List ℕ)
    → k < length bs → b ≡ get_or bs k b
    → one ≡ old ++ canon_branches (listed (take k bs)) → two ≡ one ++ separated k (codes " & ")
    → three ≡ two ++ branch_text b.weight (value_of b.tree)
    → three ≡ old ++ canon_branches (listed (take (k + 1) bs))
branches_grown bs k b old one two three less at e f g =
    let step : canon_branches (listed (take (k + 1) bs))
    ≡ canon_branches (listed (take k bs)) ++ (separated k (codes " & ") ++ text_of b)
    = ap (λ xs. canon_branches (listed xs)) (take_more bs k b less)
    ∙ (ap (λ u. canon_branches (listed (take k bs ++ u ∷ []))) (sym at)
    ∙ (branches-snoc (take k bs) b ∙ ap
    (λ n. canon_branches (listed (take k bs)) ++ (separated n (codes " & ") ++ text_of b))
    (length-take-le k bs less))) in
    rw (g, f, e, step) (simp append_assoc)

pub branches_written : (branches : BranchList) (items : List Branch) (k : ℕ) (old out : List ℕ)
    → length items ≤ k → items ≡ (out-Branches branches).items.items
    → out ≡ old ++ canon_branches (listed (take k items))
    → out ≡ old ++ canon_branches (branches_of branches)
branches_written branches items k old out all seen e =
    e ∙ ap (λ x. old ++ canon_branches x)
    (ap listed (take_all k items all ∙ seen) ∙ sym (branches_of-out branches))

-- a tree's text is put
pub tree_put : (tree : Tree) (value : TreeValue) (done : Result (Unit {0}) AllocError)
    (old new text : List ℕ) → value_of tree ≡ value → text ≡ canon value
    → OnOk done (new ≡ old ++ text) → OnOk done (new ≡ old ++ canon (value_of tree))
tree_put tree value done old new text is same put =
    subst (λ (bytes : List ℕ). OnOk done (new ≡ old ++ bytes)) (same ∙ ap canon (sym is)) put

-- and that of a branch
pub branch_put : (weight : ℕ) (value : TreeValue) (group : Bool)
    (done : Result (Unit {0}) AllocError) (old one two new : List ℕ)
    → one ≡ old ++ canon_weight weight → two ≡ one ++ codes " * "
    → group ≡ (is_alt value || is_union value)
    → OnOk done (new ≡ two ++ grouped group (canon value))
    → OnOk done (new ≡ old ++ branch_text weight value)
branch_put weight value group done old one two new first second is put =
    let all : two ++ grouped group (canon value) ≡ old ++ branch_text weight value =
    rw (second, first, is) (simp append_assoc) in
    subst (λ (bytes : List ℕ). OnOk done (new ≡ bytes)) all put
