-- The canonical texts of paths, trees and tables have the bytes that a field's value may have.
use Rattle.std.proofs.Common.{◌≡◌, ℕ, zero, suc, ◌+◌, ◌/◌, ◌%◌, ◌^◌, ◌<◌, ◌≤◌, ◌||◌, arith, Bool}
use Rattle.std.proofs.Common.{true, false, cond, eqb, List, [], ◌∷◌, ◌++◌, codes, Some, None, refl}
use Rattle.std.proofs.Common.{sym, subst, All, IsTrue}
use Rattle.std.specs.Fmt.{decimal}
use Rattle.std.specs.List.{flat_map}
use Rattle.std.specs.Str.Parse.{AllDigits}
use Rattle.std.proofs.Math.Nat.{div-lt_iff_lt-mul, mod-lt}
use Rattle.std.proofs.lemmas.Bool.Decides.{nat_tests}
use Rattle.std.proofs.lemmas.Fmt.{decimal_is_IsNumeral}
use Rattle.std.proofs.lemmas.List.Concat.{flat_map-cons}
use Rattle.std.proofs.lemmas.List.Elements.{All-append, All-cons, All-head, All-nil, All-tail}
use Rattle.std.proofs.lemmas.List.Sums.{AllPass-from_list_all}
use Rattle.std.proofs.lemmas.Str.Parse.{digit_at}
use Rattle.httparse.specs.Grammar.{AllPass, is_value_byte}
use Rattle.name_tree.specs.Path.{Label, Labels, is_plain, hex_digit, canon_byte, canon_label}
use Rattle.name_tree.specs.Path.{canon_path}
use Rattle.name_tree.specs.Value.{TreeValue, leaf, neg, fail, empty, alt, union, TreeValues, none}
use Rattle.name_tree.specs.Value.{more, Branches, no_branch, branch}
use Rattle.name_tree.specs.Canon.{decimals_text, point_text, canon_weight, grouped, is_alt}
use Rattle.name_tree.specs.Canon.{is_union, canon, canon_alts, canon_more_alts, canon_branches}
use Rattle.name_tree.specs.Canon.{canon_more_branches, IsSound, AreSound, AreSoundBranches}
use Rattle.name_tree.specs.Canon.{IsByteLabel, AreByteLabels, HasLabels, HaveLabels}
use Rattle.name_tree.specs.Canon.{BranchesHaveLabels}
use Rattle.dtab_table.specs.Pattern.{Pattern}
use Rattle.dtab_table.specs.Rules.{Rule}
use Rattle.dtab_table.specs.TableCanon.{canon_pattern, canon_prefix, canon_rule, canon_more}
use Rattle.dtab_table.specs.TableCanon.{canon_table, IsPattern, ArePatterns, IsSoundRule}
use Rattle.dtab_table.specs.TableCanon.{AreSoundRules}

abbrev pub IsValue : ℕ → Type 0
IsValue b = IsTrue (is_value_byte b)

both : (xs ys : List ℕ) → All IsValue xs → All IsValue ys → All IsValue (xs ++ ys)
both xs ys x y = All-append IsValue xs ys x y

first : (b : ℕ) (bs : List ℕ) → IsValue b → All IsValue bs → All IsValue (b ∷ bs)
first b bs here there = All-cons IsValue b bs here there

-- ---- paths

plain_byte : (b : ℕ) → IsTrue (is_plain b) → IsValue b
unfolding is_plain
plain_byte b plain = grind (arith, nat_tests)

hex_byte : (n : ℕ) → n < 16 → IsValue (hex_digit n)
hex_byte n small = grind (arith, nat_tests)

byte_text : (b : ℕ) → b < 256 → All IsValue (canon_byte b)
byte_text b small = by_test (is_plain b) refl
  where
    by_test : (t : Bool) → is_plain b ≡ t
        → All IsValue (cond t (b ∷ []) (92 ∷ 120 ∷ hex_digit (b / 16) ∷ hex_digit (b % 16) ∷ []))
    by_test true test = first b [] (plain_byte b test) (All-nil IsValue)
    by_test false test =
        first 92 (120 ∷ hex_digit (b / 16) ∷ hex_digit (b % 16) ∷ []) refl
        (first 120 (hex_digit (b / 16) ∷ hex_digit (b % 16) ∷ []) refl
        (first (hex_digit (b / 16)) (hex_digit (b % 16) ∷ []) (hex_byte (b / 16) (omega arith))
        (first (hex_digit (b % 16)) [] (hex_byte (b % 16) (omega arith)) (All-nil IsValue))))

bytes_text : (bs : List ℕ) → All (λ b. b < 256) bs → All IsValue (flat_map canon_byte bs)
bytes_text [] small = All-nil IsValue
bytes_text (b ∷ bs) small =
    subst (All IsValue) (sym (flat_map-cons canon_byte b bs))
    (both (canon_byte b) (flat_map canon_byte bs)
    (byte_text b (All-head (λ c. c < 256) b bs small))
    (bytes_text bs (All-tail (λ c. c < 256) b bs small)))

label_text : (l : Label) → IsByteLabel l → All IsValue (canon_label l)
label_text l is = first 47 (flat_map canon_byte l) refl (bytes_text l is.1)

labels_text : (ls : Labels) → AreByteLabels ls → All IsValue (flat_map canon_label ls)
labels_text [] are = All-nil IsValue
labels_text (l ∷ ls) are =
    subst (All IsValue) (sym (flat_map-cons canon_label l ls))
    (both (canon_label l) (flat_map canon_label ls) (label_text l are.0) (labels_text ls are.1))

pub path_text : (ls : Labels) → AreByteLabels ls → All IsValue (canon_path ls)
path_text [] are = first 47 [] refl (All-nil IsValue)
path_text (l ∷ ls) are = labels_text (l ∷ ls) are

-- ---- numbers

digits_text : (ds : List ℕ) → AllDigits 10 ds → All IsValue ds
digits_text [] all = All-nil IsValue
digits_text (d ∷ ds) all = first d ds (digit d (digit_at (d ∷ []) 0 (all.0, tt) (omega arith)))
    (digits_text ds all.1)
  where
    digit : (x : ℕ) → (48 ≤ x) × (x ≤ 57) → IsValue x
    digit x range = let low = range.0 in let high = range.1 in grind (arith, nat_tests, low, high)

pub decimal_text : (n : ℕ) → n < 2 ^ 64 → All IsValue (decimal n)
decimal_text n small = digits_text (decimal n) (decimal_is_IsNumeral n small).0.1

decimals : (k rest : ℕ) → rest < 10 ^ k → All IsValue (decimals_text k rest)
decimals zero rest small = All-nil IsValue
decimals (suc k) rest small = by_test (eqb rest 0) (decimals k (rest % 10 ^ k) (mod-lt rest some))
  where
    some : 0 < 10 ^ k
    some = grind arith

    digit : (x : ℕ) → x < 10 → IsValue (48 + x)
    digit x less = grind (arith, nat_tests)

    by_test : (t : Bool) → All IsValue (decimals_text k (rest % 10 ^ k))
        → All IsValue (cond t [] ((48 + rest / 10 ^ k) ∷ decimals_text k (rest % 10 ^ k)))
    by_test true others = All-nil IsValue
    by_test false others = first (48 + rest / 10 ^ k) (decimals_text k (rest % 10 ^ k))
        (digit (rest / 10 ^ k) ((div-lt_iff_lt-mul some).1 (omega (arith, small)))) others

point : (rest : ℕ) → rest < 10 ^ 6 → All IsValue (point_text rest)
point rest small = by_test (eqb rest 0)
  where
    by_test : (t : Bool) → All IsValue (cond t [] (codes "." ++ decimals_text 6 rest))
    by_test true = All-nil IsValue
    by_test false = first 46 (decimals_text 6 rest) refl (decimals 6 rest small)

weight_text : (n : ℕ) → n < 10 ^ 12 → All IsValue (canon_weight n)
weight_text n small =
    both (decimal (n / 1000000)) (point_text (n % 1000000))
    (decimal_text (n / 1000000) (omega (arith, small))) (point (n % 1000000) (omega arith))

-- ---- trees

group_text : (b : Bool) (text : List ℕ) → All IsValue text → All IsValue (grouped b text)
group_text true text all = both (codes "(" ++ text) (codes ")")
    (both (codes "(") text (first 40 [] refl (All-nil IsValue)) all)
    (first 41 [] refl (All-nil IsValue))
group_text false text all = all

-- a literal
literal : (text : List ℕ) → AllPass is_value_byte text → All IsValue text
literal text all = all

star_text : All IsValue (codes " * ")
star_text = AllPass-from_list_all is_value_byte (codes " * ") refl

branch_text : (n : ℕ) (b : Bool) (text : List ℕ) → n < 10 ^ 12 → All IsValue text
    → All IsValue (canon_weight n ++ codes " * " ++ grouped b text)
branch_text n b text small all =
    both (canon_weight n ++ codes " * ") (grouped b text)
    (both (canon_weight n) (codes " * ") (weight_text n small) star_text) (group_text b text all)

mutual
  tree_text : (t : TreeValue) → IsSound t → HasLabels t → All IsValue (canon t)
  tree_text (leaf ls) sound labels = path_text ls labels
  tree_text neg sound labels = first 126 [] refl (All-nil IsValue)
  tree_text fail sound labels = first 33 [] refl (All-nil IsValue)
  tree_text empty sound labels = first 36 [] refl (All-nil IsValue)
  tree_text (alt ts) sound labels = alts_text ts sound.2 labels
  tree_text (union bs) sound labels = branches_text bs sound.2 labels

  alts_text : (ts : TreeValues) → AreSound ts → HaveLabels ts → All IsValue (canon_alts ts)
  alts_text none sound labels = All-nil IsValue
  alts_text (more t ts) sound labels =
      both (grouped (is_alt t) (canon t)) (canon_more_alts ts)
      (group_text (is_alt t) (canon t) (tree_text t sound.0 labels.0))
      (more_alts_text ts sound.1 labels.1)

  more_alts_text : (ts : TreeValues) → AreSound ts → HaveLabels ts
      → All IsValue (canon_more_alts ts)
  more_alts_text none sound labels = All-nil IsValue
  more_alts_text (more t ts) sound labels =
      both (codes " | " ++ grouped (is_alt t) (canon t)) (canon_more_alts ts)
      (both (codes " | ") (grouped (is_alt t) (canon t))
      (AllPass-from_list_all is_value_byte (codes " | ") refl)
      (group_text (is_alt t) (canon t) (tree_text t sound.0 labels.0)))
      (more_alts_text ts sound.1 labels.1)

  branches_text : (bs : Branches) → AreSoundBranches bs → BranchesHaveLabels bs
      → All IsValue (canon_branches bs)
  branches_text no_branch sound labels = All-nil IsValue
  branches_text (branch n t bs) sound labels =
      both (canon_weight n ++ codes " * " ++ grouped (is_alt t || is_union t) (canon t))
      (canon_more_branches bs)
      (branch_text n (is_alt t || is_union t) (canon t) sound.0 (tree_text t sound.1 labels.0))
      (more_branches_text bs sound.2 labels.1)

  more_branches_text : (bs : Branches) → AreSoundBranches bs → BranchesHaveLabels bs
      → All IsValue (canon_more_branches bs)
  more_branches_text no_branch sound labels = All-nil IsValue
  more_branches_text (branch n t bs) sound labels =
      both (codes " & " ++ canon_weight n ++ codes " * "
      ++ grouped (is_alt t || is_union t) (canon t)) (canon_more_branches bs)
      (both (codes " & " ++ canon_weight n ++ codes " * ")
      (grouped (is_alt t || is_union t) (canon t))
      (both (codes " & " ++ canon_weight n) (codes " * ")
      (both (codes " & ") (canon_weight n) (AllPass-from_list_all is_value_byte (codes " & ") refl)
      (weight_text n sound.0)) star_text)
      (group_text (is_alt t || is_union t) (canon t) (tree_text t sound.1 labels.0)))
      (more_branches_text bs sound.2 labels.1)

-- ---- tables

pattern_text : (p : Pattern) → IsPattern p → All IsValue (canon_pattern p)
pattern_text None is = first 47 (42 ∷ []) refl (first 42 [] refl (All-nil IsValue))
pattern_text (Some l) is = label_text l is

patterns_text : (ps : List Pattern) → ArePatterns ps → All IsValue (flat_map canon_pattern ps)
patterns_text [] are = All-nil IsValue
patterns_text (p ∷ ps) are =
    subst (All IsValue) (sym (flat_map-cons canon_pattern p ps))
    (both (canon_pattern p) (flat_map canon_pattern ps) (pattern_text p are.0)
    (patterns_text ps are.1))

prefix_text : (ps : List Pattern) → ArePatterns ps → All IsValue (canon_prefix ps)
prefix_text [] are = first 47 [] refl (All-nil IsValue)
prefix_text (p ∷ ps) are = patterns_text (p ∷ ps) are

rule_text : (r : Rule) → IsSoundRule r → All IsValue (canon_rule r)
rule_text r sound =
    both (canon_prefix r.prefix ++ codes "=>") (canon r.tree)
    (both (canon_prefix r.prefix) (codes "=>") (prefix_text r.prefix sound.patterns)
    (AllPass-from_list_all is_value_byte (codes "=>") refl))
    (tree_text r.tree sound.sound sound.labels)

more_text : (rs : List Rule) → AreSoundRules rs → All IsValue (canon_more rs)
more_text [] are = All-nil IsValue
more_text (r ∷ rs) are =
    both (codes ";" ++ canon_rule r) (canon_more rs)
    (both (codes ";") (canon_rule r) (first 59 [] refl (All-nil IsValue)) (rule_text r are.0))
    (more_text rs are.1)

pub table_text : (rs : List Rule) → AreSoundRules rs → All IsValue (canon_table rs)
table_text [] are = All-nil IsValue
table_text (r ∷ rs) are = both (canon_rule r) (canon_more rs) (rule_text r are.0)
    (more_text rs are.1)
