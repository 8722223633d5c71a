-- What there is to try of a table's trees is trim, and no deeper than the trees are.
use Rattle.std.proofs.Common.{◌≡◌, ℕ, ◌+◌, ◌<◌, ◌≤◌, List, [], ◌∷◌, ◌++◌, Bool, true, false, inl}
use Rattle.std.proofs.Common.{inr, Option, Some, None, refl, ap, arith}
use Rattle.std.specs.Prelude.{max, option_map}
use Rattle.std.specs.Option.{option_to_list}
use Rattle.std.proofs.lemmas.Bool.Decides.{nat_tests}
use Rattle.name_tree.specs.Path.{Labels}
use Rattle.name_tree.specs.Value.{TreeValue, TreeValues, Branches, leaf, neg, fail, empty, alt}
use Rattle.name_tree.specs.Value.{union, none, more, no_branch, branch, append_rest}
use Rattle.name_tree.specs.Value.{append_rest_all, append_rest_branches}
use Rattle.name_tree.specs.Lean.{tried_before, choice, Parts, part_before, branches_then, marks}
use Rattle.name_tree.specs.Lean.{union_left, lean, lean_all, lean_each}
use Rattle.dtab_table.specs.Dtab.{rewrite, rewrites, rest_behind}
use Rattle.dtab_table.specs.LeanTrees.{unless_neg, lean_trees}
use Rattle.dtab_table.specs.Rules.{Rule}
use Rattle.bind_core.specs.Depth.{depth_of, depth_of_all, depth_of_each, greatest_depth}
use Rattle.bind_core.specs.Turns.{is_mark, marks_in, IsTrim, AreTrim, EachTrim, ListTrim}
use Rattle.bind_core.proofs.Trees.{zero_or}

-- ---- depths
mutual
  depth-rest : (t : TreeValue) (rest : Labels) → depth_of (append_rest t rest) ≡ depth_of t
  depth-rest (leaf path) rest = refl
  depth-rest neg rest = refl
  depth-rest fail rest = refl
  depth-rest empty rest = refl
  depth-rest (alt ts) rest = ap (λ (n : ℕ). 1 + n) (depth_all-rest ts rest)
  depth-rest (union bs) rest = ap (λ (n : ℕ). 1 + n) (depth_each-rest bs rest)

  depth_all-rest : (ts : TreeValues) (rest : Labels)
      → depth_of_all (append_rest_all ts rest) ≡ depth_of_all ts
  depth_all-rest none rest = refl
  depth_all-rest (more t ts) rest = rw (depth-rest t rest, depth_all-rest ts rest) refl

  depth_each-rest : (bs : Branches) (rest : Labels)
      → depth_of_each (append_rest_branches bs rest) ≡ depth_of_each bs
  depth_each-rest no_branch rest = refl
  depth_each-rest (branch n t bs) rest = rw (depth-rest t rest, depth_each-rest bs rest) refl

depth_tried : (t : TreeValue) (ts : TreeValues)
    → depth_of_all (tried_before t ts) ≤ max (depth_of t) (depth_of_all ts)
depth_tried (leaf path) ts = omega arith
depth_tried neg ts = omega arith
depth_tried fail ts = omega arith
depth_tried empty ts = omega arith
depth_tried (alt us) ts = omega arith
depth_tried (union bs) ts = omega arith

depth_choice : (ts : TreeValues) → depth_of (choice ts) ≤ 1 + depth_of_all ts
depth_choice none = omega arith
depth_choice (more t none) = omega arith
depth_choice (more t (more u us)) = omega arith

depth_part : (n : ℕ) (t : TreeValue) (p : Parts)
    → depth_of_each (part_before n t p).branches ≤ max (depth_of t) (depth_of_each p.branches)
depth_part n (leaf path) p = omega arith
depth_part n neg p = omega arith
depth_part n fail p = omega arith
depth_part n empty p = omega arith
depth_part n (alt ts) p = omega arith
depth_part n (union bs) p = omega arith

depth_marks : (fails lacks : Bool) → depth_of_each (marks fails lacks) ≡ 0
depth_marks true true = refl
depth_marks true false = refl
depth_marks false true = refl
depth_marks false false = refl

depth_then : (bs : Branches) (fails lacks : Bool)
    → depth_of_each (branches_then bs (marks fails lacks)) ≤ depth_of_each bs
depth_then no_branch fails lacks = omega (arith, depth_marks fails lacks)
depth_then (branch n t bs) fails lacks = omega (arith, depth_then bs fails lacks)

depth_left : (fails lacks : Bool) (bs : Branches)
    → depth_of (union_left fails lacks bs) ≤ 1 + depth_of_each bs
depth_left true lacks no_branch = omega arith
depth_left false true no_branch = omega arith
depth_left false false no_branch = omega arith
depth_left true true (branch n t bs) = omega (arith, depth_then (branch n t bs) true true)
depth_left true false (branch n t bs) = omega (arith, depth_then (branch n t bs) true false)
depth_left false true (branch n t bs) = omega (arith, depth_then (branch n t bs) false true)
depth_left false false (branch n t bs) = omega (arith, depth_then (branch n t bs) false false)

mutual
  depth-lean : (t : TreeValue) → depth_of (lean t) ≤ depth_of t
  depth-lean (leaf path) = omega arith
  depth-lean neg = omega arith
  depth-lean fail = omega arith
  depth-lean empty = omega arith
  depth-lean (alt ts) = omega (arith, depth_choice (lean_all ts), depth_all-lean ts)
  depth-lean (union bs) = omega (
    arith,
    depth_left (lean_each bs).fails (lean_each bs).lacks
        (lean_each bs).branches,
    depth_each-lean bs,
  )

  depth_all-lean : (ts : TreeValues) → depth_of_all (lean_all ts) ≤ depth_of_all ts
  depth_all-lean none = omega arith
  depth_all-lean (more t ts) = omega (
    arith,
    depth_tried (lean t) (lean_all ts),
    depth-lean t,
    depth_all-lean ts,
  )

  depth_each-lean : (bs : Branches) → depth_of_each (lean_each bs).branches ≤ depth_of_each bs
  depth_each-lean no_branch = omega arith
  depth_each-lean (branch n t bs) = elim (zero_or n) [
    | inl zero ↦ rw zero (omega (arith, depth_each-lean bs))
    | inr some ↦ rw some (omega (
      arith,
      depth_part n (lean t) (lean_each bs),
      depth-lean t,
      depth_each-lean bs,
    ))
  ]

-- ---- trim trees
abbrev OrNeg : TreeValue → Type 0
OrNeg (leaf path) = Unit {0}
OrNeg neg = Unit {0}
OrNeg fail = Unit {0}
OrNeg empty = Unit {0}
OrNeg (alt ts) = IsTrim (alt ts)
OrNeg (union bs) = IsTrim (union bs)

or_neg : (t : TreeValue) → IsTrim t → OrNeg t
or_neg (leaf path) h = tt
or_neg neg h = tt
or_neg fail h = tt
or_neg empty h = tt
or_neg (alt ts) h = h
or_neg (union bs) h = h

-- no alternative but the last is a mark
abbrev LastMarks : TreeValues → Type 0
LastMarks none = Unit {0}
LastMarks (more t none) = Unit {0}
LastMarks (more t (more u us)) = (is_mark t ≡ false) × LastMarks (more u us)

no_mark_before : (t : TreeValue) (ts : TreeValues) → is_mark t ≡ false → LastMarks ts
    → LastMarks (more t ts)
no_mark_before t none some last = tt
no_mark_before t (more u us) some last = (some, last)

tried_good : (t : TreeValue) (ts : TreeValues) → OrNeg t → AreTrim ts → LastMarks ts
    → AreTrim (tried_before t ts) × LastMarks (tried_before t ts)
tried_good (leaf path) ts h trim last = ((tt, trim), no_mark_before (leaf path) ts refl last)
tried_good neg ts h trim last = (trim, last)
tried_good fail ts h trim last = ((tt, tt), tt)
tried_good empty ts h trim last = ((tt, tt), tt)
tried_good (alt us) ts h trim last = ((h, trim), no_mark_before (alt us) ts refl last)
tried_good (union bs) ts h trim last = ((h, trim), no_mark_before (union bs) ts refl last)

choice_good : (ts : TreeValues) → AreTrim ts → LastMarks ts → OrNeg (choice ts)
choice_good none trim last = tt
choice_good (more t none) trim last = or_neg t trim.0
choice_good (more t (more u us)) trim last = (last.0, trim)

abbrev NoMarks : Branches → Type 0
NoMarks no_branch = Unit {0}
NoMarks (branch n t bs) = (is_mark t ≡ false) × NoMarks bs

part_good : (n : ℕ) (t : TreeValue) (p : Parts) → 0 < n → OrNeg t → EachTrim p.branches
    → NoMarks p.branches → EachTrim (part_before n t p).branches × NoMarks
    (part_before n t p).branches
part_good n (leaf path) p some h trim lookups = ((some, tt, trim), (refl, lookups))
part_good n neg p some h trim lookups = (trim, lookups)
part_good n fail p some h trim lookups = (trim, lookups)
part_good n empty p some h trim lookups = (trim, lookups)
part_good n (alt ts) p some h trim lookups = ((some, h, trim), (refl, lookups))
part_good n (union bs) p some h trim lookups = ((some, h, trim), (refl, lookups))

marks_trim : (fails lacks : Bool) → EachTrim (marks fails lacks)
marks_trim true true = (omega arith, tt, (omega arith, tt, tt))
marks_trim true false = (omega arith, tt, tt)
marks_trim false true = (omega arith, tt, tt)
marks_trim false false = tt

two_marks : (fails lacks : Bool) → marks_in (marks fails lacks) ≤ 2
two_marks true true = omega arith
two_marks true false = omega arith
two_marks false true = omega arith
two_marks false false = omega arith

then_trim : (bs ms : Branches) → EachTrim bs → EachTrim ms → EachTrim (branches_then bs ms)
then_trim no_branch ms first second = second
then_trim (branch n t bs) ms first second = (first.0, first.1, then_trim bs ms first.2 second)

then_marks : (bs ms : Branches) → NoMarks bs → marks_in (branches_then bs ms) ≡ marks_in ms
then_marks no_branch ms lookups = refl
then_marks (branch n t bs) ms lookups = rw lookups.0 (omega (arith, then_marks bs ms lookups.1))

union_good : (fails lacks : Bool) (n : ℕ) (t : TreeValue) (bs : Branches) → EachTrim (branch n t bs)
    → NoMarks (branch n t bs) → IsTrim (union (branches_then (branch n t bs) (marks fails lacks)))
union_good fails lacks n t bs trim lookups = (
  lookups.0,
  then_trim (branch n t bs) (marks fails lacks) trim (marks_trim fails lacks),
  omega
      (arith, then_marks (branch n t bs) (marks fails lacks) lookups, two_marks fails lacks),
)

left_good : (fails lacks : Bool) (bs : Branches) → EachTrim bs → NoMarks bs
    → OrNeg (union_left fails lacks bs)
left_good true lacks no_branch trim lookups = tt
left_good false true no_branch trim lookups = tt
left_good false false no_branch trim lookups = tt
left_good true true (branch n t bs) trim lookups = union_good true true n t bs trim lookups
left_good true false (branch n t bs) trim lookups = union_good true false n t bs trim lookups
left_good false true (branch n t bs) trim lookups = union_good false true n t bs trim lookups
left_good false false (branch n t bs) trim lookups = union_good false false n t bs trim lookups

mutual
  trim-lean : (t : TreeValue) → OrNeg (lean t)
  trim-lean (leaf path) = tt
  trim-lean neg = tt
  trim-lean fail = tt
  trim-lean empty = tt
  trim-lean (alt ts) = let good = trim_all-lean ts in choice_good (lean_all ts) good.0 good.1
  trim-lean (union bs) = let good = trim_each-lean bs in
      left_good (lean_each bs).fails (lean_each bs).lacks (lean_each bs).branches good.0 good.1

  trim_all-lean : (ts : TreeValues) → AreTrim (lean_all ts) × LastMarks (lean_all ts)
  trim_all-lean none = (tt, tt)
  trim_all-lean (more t ts) = let good = trim_all-lean ts in
      tried_good (lean t) (lean_all ts) (trim-lean t) good.0 good.1

  trim_each-lean : (bs : Branches) → EachTrim (lean_each bs).branches × NoMarks
      (lean_each bs).branches
  trim_each-lean no_branch = (tt, tt)
  trim_each-lean (branch n t bs) = elim (zero_or n) [
    | inl zero ↦ rw zero (trim_each-lean bs)
    | inr some ↦ rw some
        (let good = trim_each-lean bs in let weighs : 0 < n = grind (arith, nat_tests, some) in
        part_good n (lean t) (lean_each bs) weighs (trim-lean t) good.0 good.1)
  ]

-- ---- lists of trees
abbrev NoDeeper : ℕ → List TreeValue → Type 0
NoDeeper depth [] = Unit {0}
NoDeeper depth (t ∷ ts) = (depth_of t ≤ depth) × NoDeeper depth ts

no_deeper-append : (depth : ℕ) (ts us : List TreeValue) → NoDeeper depth ts → NoDeeper depth us
    → NoDeeper depth (ts ++ us)
no_deeper-append depth [] us first second = second
no_deeper-append depth (t ∷ ts) us first second =
    (first.0, no_deeper-append depth ts us first.1 second)

rewritten_no_deeper : (depth : ℕ) (t : TreeValue) (rest : Option Labels) → depth_of t ≤ depth
    → NoDeeper depth (option_to_list (option_map (append_rest t) rest))
rewritten_no_deeper depth t None less = tt
rewritten_no_deeper depth t (Some rest) less = (omega (arith, depth-rest t rest), tt)

rewrites_no_deeper : (depth : ℕ) (rules : List Rule) (path : Labels) → greatest_depth rules ≤ depth
    → NoDeeper depth (rewrites rules path)
rewrites_no_deeper depth [] path less = tt
rewrites_no_deeper depth (r ∷ rules) path less =
    no_deeper-append depth (rewrites rules path) (option_to_list (rewrite r path))
    (rewrites_no_deeper depth rules path (omega arith))
    (rewritten_no_deeper depth r.tree (rest_behind r.prefix path) (omega arith))

unless_trim : (depth : ℕ) (t : TreeValue) (ts : List TreeValue) → OrNeg t → depth_of t ≤ depth
    → ListTrim depth ts → ListTrim depth (unless_neg t ts)
unless_trim depth (leaf path) ts h less trim = (tt, less, trim)
unless_trim depth neg ts h less trim = trim
unless_trim depth fail ts h less trim = (tt, less, trim)
unless_trim depth empty ts h less trim = (tt, less, trim)
unless_trim depth (alt us) ts h less trim = (h, less, trim)
unless_trim depth (union bs) ts h less trim = (h, less, trim)

lean_trim : (depth : ℕ) (ts : List TreeValue) → NoDeeper depth ts → ListTrim depth (lean_trees ts)
lean_trim depth [] less = tt
lean_trim depth (t ∷ ts) less = unless_trim depth (lean t) (lean_trees ts) (trim-lean t)
    (omega (arith, depth-lean t, less.0)) (lean_trim depth ts less.1)

-- what there is to try of the trees that a path is rewritten to
pub rewrites_trim : (depth : ℕ) (rules : List Rule) (path : Labels) → greatest_depth rules ≤ depth
    → ListTrim depth (lean_trees (rewrites rules path))
rewrites_trim depth rules path less =
    lean_trim depth (rewrites rules path) (rewrites_no_deeper depth rules path less)
