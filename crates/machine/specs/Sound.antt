-- Namespaces whose tables are sound.
use Rattle.std.specs.Prelude.{◌≡◌, ℕ, List, [], ◌∷◌, Some, None}
use Rattle.std.specs.Coded.{×_prop, Unit-prop}
use Rattle.std.specs.FinMap.{get}
use Rattle.std.proofs.Props.{props}
use Rattle.name_tree.specs.Value.{TreeValue, leaf, neg, fail, empty, alt, union, TreeValues, none}
use Rattle.name_tree.specs.Value.{more, Branches, no_branch, branch}
use Rattle.name_tree.specs.Path.{Label, Labels}
use Rattle.name_tree.specs.Canon.{IsSound, AreSound, AreSoundBranches, IsByteLabel, AreByteLabels}
use Rattle.name_tree.specs.Canon.{HasLabels, HaveLabels, BranchesHaveLabels}
use Rattle.dtab_table.specs.Pattern.{Pattern}
use Rattle.dtab_table.specs.Rules.{Rule}
use Rattle.dtab_table.specs.TableCanon.{IsPattern, ArePatterns, IsSoundRule, AreSoundRules}
use Rattle.ns_store.specs.Contents.{Space, Spaces}

-- the table of each namespace is sound
abbrev pub AreSoundSpaces : Spaces → Type 0
AreSoundSpaces spaces =
    (name : List ℕ) (space : Space) → get spaces name ≡ Some space → AreSoundRules space.rules

-- ---- each of these has one proof at most
IsByteLabel-prop : (l : Label) → IsProp (IsByteLabel l)
IsByteLabel-prop l = hlevel props

AreByteLabels-prop : (ls : Labels) → IsProp (AreByteLabels ls)
AreByteLabels-prop [] = Unit-prop
AreByteLabels-prop (l ∷ ls) = ×_prop (IsByteLabel-prop l) (AreByteLabels-prop ls)

mutual
  HasLabels-prop : (t : TreeValue) → IsProp (HasLabels t)
  HasLabels-prop (leaf ls) = AreByteLabels-prop ls
  HasLabels-prop neg = Unit-prop
  HasLabels-prop fail = Unit-prop
  HasLabels-prop empty = Unit-prop
  HasLabels-prop (alt ts) = HaveLabels-prop ts
  HasLabels-prop (union bs) = BranchesHaveLabels-prop bs

  HaveLabels-prop : (ts : TreeValues) → IsProp (HaveLabels ts)
  HaveLabels-prop none = Unit-prop
  HaveLabels-prop (more t ts) = ×_prop (HasLabels-prop t) (HaveLabels-prop ts)

  BranchesHaveLabels-prop : (bs : Branches) → IsProp (BranchesHaveLabels bs)
  BranchesHaveLabels-prop no_branch = Unit-prop
  BranchesHaveLabels-prop (branch n t bs) = ×_prop (HasLabels-prop t) (BranchesHaveLabels-prop bs)

mutual
  IsSound-prop : (t : TreeValue) → IsProp (IsSound t)
  IsSound-prop (leaf ls) = Unit-prop
  IsSound-prop neg = Unit-prop
  IsSound-prop fail = Unit-prop
  IsSound-prop empty = Unit-prop
  IsSound-prop (alt ts) = hlevel (props, AreSound-prop ts)
  IsSound-prop (union bs) = hlevel (props, AreSoundBranches-prop bs)

  AreSound-prop : (ts : TreeValues) → IsProp (AreSound ts)
  AreSound-prop none = Unit-prop
  AreSound-prop (more t ts) = ×_prop (IsSound-prop t) (AreSound-prop ts)

  AreSoundBranches-prop : (bs : Branches) → IsProp (AreSoundBranches bs)
  AreSoundBranches-prop no_branch = Unit-prop
  AreSoundBranches-prop (branch n t bs) = hlevel (props, IsSound-prop t, AreSoundBranches-prop bs)

IsPattern-prop : (p : Pattern) → IsProp (IsPattern p)
IsPattern-prop None = Unit-prop
IsPattern-prop (Some l) = IsByteLabel-prop l

ArePatterns-prop : (ps : List Pattern) → IsProp (ArePatterns ps)
ArePatterns-prop [] = Unit-prop
ArePatterns-prop (p ∷ ps) = ×_prop (IsPattern-prop p) (ArePatterns-prop ps)

IsSoundRule-prop : (r : Rule) → IsProp (IsSoundRule r)
IsSoundRule-prop r = hlevel (ArePatterns-prop r.prefix, IsSound-prop r.tree, HasLabels-prop r.tree)

pub AreSoundRules-prop : (rs : List Rule) → IsProp (AreSoundRules rs)
AreSoundRules-prop [] = Unit-prop
AreSoundRules-prop (r ∷ rs) = ×_prop (IsSoundRule-prop r) (AreSoundRules-prop rs)

pub AreSoundSpaces-prop : (spaces : Spaces) → IsProp (AreSoundSpaces spaces)
AreSoundSpaces-prop spaces = hlevel (λ (rs : List Rule). AreSoundRules-prop rs)
