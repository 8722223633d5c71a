-- The canonical text of a tree, and which trees have one.
use Rattle.std.specs.Prelude.{ℕ, zero, suc, ◌+◌, ◌/◌, ◌%◌, ◌^◌, ◌<◌, ◌≤◌, ◌==◌, Bool, true, false}
use Rattle.std.specs.Prelude.{◌||◌, if◌then◌else◌, List, [], ◌∷◌, ◌++◌, length, codes, All}
use Rattle.std.specs.Fmt.{decimal}
use Rattle.name_tree.specs.Path.{Label, Labels, canon_path}
use Rattle.name_tree.specs.Value.{TreeValue, leaf, neg, fail, empty, alt, union, TreeValues, none}
use Rattle.name_tree.specs.Value.{more, Branches, no_branch, branch, one_whole}

-- the last so many decimals, which are worth so much, without the zeros at their end
abbrev pub decimals_text : ℕ → ℕ → List ℕ
decimals_text zero rest = []
decimals_text (suc k) rest =
    if rest == 0 then [] else (48 + rest / 10 ^ k) ∷ decimals_text k (rest % 10 ^ k)

-- a point and six decimals without the zeros at their end, or nothing
abbrev pub point_text : ℕ → List ℕ
point_text rest = if rest == 0 then [] else codes "." ++ decimals_text 6 rest

-- a weight in millionths
abbrev pub canon_weight : ℕ → List ℕ
canon_weight n = decimal (n / one_whole) ++ point_text (n % one_whole)

abbrev pub is_alt : TreeValue → Bool
is_alt (alt ts) = true
is_alt _ = false

abbrev pub is_union : TreeValue → Bool
is_union (union bs) = true
is_union _ = false

-- a text in parentheses, or as it is
abbrev pub grouped : Bool → List ℕ → List ℕ
grouped true text = codes "(" ++ text ++ codes ")"
grouped false text = text

abbrev mutual
  -- the canonical text of a tree
  pub canon : TreeValue → List ℕ
  canon (leaf ls) = canon_path ls
  canon neg = codes "~"
  canon fail = codes "!"
  canon empty = codes "$"
  canon (alt ts) = canon_alts ts
  canon (union bs) = canon_branches bs

  -- alternatives with ` | ` between them: a choice stands in parentheses
  pub canon_alts : TreeValues → List ℕ
  canon_alts none = []
  canon_alts (more t ts) = grouped (is_alt t) (canon t) ++ canon_more_alts ts

  pub canon_more_alts : TreeValues → List ℕ
  canon_more_alts none = []
  canon_more_alts (more t ts) = codes " | " ++ grouped (is_alt t) (canon t) ++ canon_more_alts ts

  -- branches with ` & ` between them, each its weight, ` * ` and its tree: a choice or a union
  -- stands in parentheses
  pub canon_branches : Branches → List ℕ
  canon_branches no_branch = []
  canon_branches (branch n t bs) =
      canon_weight n ++ codes " * " ++ grouped (is_alt t || is_union t) (canon t)
      ++ canon_more_branches bs

  pub canon_more_branches : Branches → List ℕ
  canon_more_branches no_branch = []
  canon_more_branches (branch n t bs) =
      codes " & " ++ canon_weight n ++ codes " * " ++ grouped (is_alt t || is_union t) (canon t)
      ++ canon_more_branches bs

-- a branch in a union's text
abbrev pub branch_text : ℕ → TreeValue → List ℕ
branch_text n t = canon_weight n ++ codes " * " ++ grouped (is_alt t || is_union t) (canon t)

abbrev pub count_names : TreeValues → ℕ
count_names none = 0
count_names (more t ts) = 1 + count_names ts

abbrev pub count_branches : Branches → ℕ
count_branches no_branch = 0
count_branches (branch n t bs) = 1 + count_branches bs

-- the most members of a choice or a union
abbrev pub most_members : ℕ
most_members = 65536

-- no weight is as large
abbrev pub weight_bound : ℕ
weight_bound = 10 ^ 12

abbrev mutual
  -- a tree has two alternatives or more in each choice, a branch or more in each union, not too
  -- many of either, and no weight that is too large
  pub IsSound : TreeValue → Type 0
  IsSound (leaf ls) = Unit {0}
  IsSound neg = Unit {0}
  IsSound fail = Unit {0}
  IsSound empty = Unit {0}
  IsSound (alt ts) = (2 ≤ count_names ts) × (count_names ts ≤ most_members) × AreSound ts
  IsSound (union bs) =
      (1 ≤ count_branches bs) × (count_branches bs ≤ most_members) × AreSoundBranches bs

  pub AreSound : TreeValues → Type 0
  AreSound none = Unit {0}
  AreSound (more t ts) = IsSound t × AreSound ts

  pub AreSoundBranches : Branches → Type 0
  AreSoundBranches no_branch = Unit {0}
  AreSoundBranches (branch n t bs) = (n < weight_bound) × IsSound t × AreSoundBranches bs

-- bytes, of which there is one at least
abbrev pub IsByteLabel : Label → Type 0
IsByteLabel l = (1 ≤ length l) × All (λ b. b < 256) l

abbrev pub AreByteLabels : Labels → Type 0
AreByteLabels [] = Unit {0}
AreByteLabels (l ∷ ls) = IsByteLabel l × AreByteLabels ls

abbrev mutual
  -- each label of the tree is one
  pub HasLabels : TreeValue → Type 0
  HasLabels (leaf ls) = AreByteLabels ls
  HasLabels neg = Unit {0}
  HasLabels fail = Unit {0}
  HasLabels empty = Unit {0}
  HasLabels (alt ts) = HaveLabels ts
  HasLabels (union bs) = BranchesHaveLabels bs

  pub HaveLabels : TreeValues → Type 0
  HaveLabels none = Unit {0}
  HaveLabels (more t ts) = HasLabels t × HaveLabels ts

  pub BranchesHaveLabels : Branches → Type 0
  BranchesHaveLabels no_branch = Unit {0}
  BranchesHaveLabels (branch n t bs) = HasLabels t × BranchesHaveLabels bs
