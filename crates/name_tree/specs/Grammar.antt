-- The texts that stand for paths and trees: a rule for each line of the grammar.
use Rattle.std.specs.Prelude.{◌≡◌, ℕ, ◌+◌, ◌-◌, ◌*◌, ◌/◌, ◌≤◌, Bool, ◌||◌, ◌&&◌, ◌==◌, nat_le}
use Rattle.std.specs.Prelude.{if◌then◌else◌, List, [], ◌∷◌, ◌++◌, length, codes, IsTrue, Option}
use Rattle.std.specs.Prelude.{Some, None}
use Rattle.std.specs.Char.{is_ascii_digit}
use Rattle.name_tree.specs.Path.{Label, Labels, is_plain}
use Rattle.name_tree.specs.Value.{TreeValue, leaf, neg, fail, empty, BranchValue, one_whole}
use Rattle.name_tree.specs.Value.{one_or_alt, union_of}

-- a space, a tab, a CR or an LF
abbrev pub is_blank : ℕ → Bool
is_blank b = b == 32 || b == 9 || b == 13 || b == 10

-- any number of blanks, none included
pub data AreBlanks : List ℕ → Type 0 where
  no_blank : AreBlanks []
  blank : {b : ℕ} {s : List ℕ} → IsTrue (is_blank b) → AreBlanks s → AreBlanks (b ∷ s)

-- a decimal digit
abbrev pub is_digit : ℕ → Bool
is_digit b = is_ascii_digit b

-- any number of decimal digits, none included
pub data AreDigits : List ℕ → Type 0 where
  no_digit : AreDigits []
  digit : {b : ℕ} {s : List ℕ} → IsTrue (is_digit b) → AreDigits s → AreDigits (b ∷ s)

-- what a hexadecimal digit of either case stands for
abbrev pub hex_value : ℕ → Option ℕ
hex_value b =
    if is_digit b then Some (b - 48) else
    (if nat_le 65 b && nat_le b 70 then Some (b - 55) else
    (if nat_le 97 b && nat_le b 102 then Some (b - 87) else None))

-- a byte of a label: a plain one stands for itself, `\x` and two hexadecimal digits for any
pub data SpellsByte : List ℕ → ℕ → Type 0 where
  plain : {b : ℕ} → IsTrue (is_plain b) → SpellsByte (b ∷ []) b
  escape : {h l m n : ℕ} → hex_value h ≡ Some m → hex_value l ≡ Some n
      → SpellsByte (codes "\\x" ++ h ∷ l ∷ []) (16 * m + n)

-- a label: one or more bytes
pub data SpellsLabel : List ℕ → Label → Type 0 where
  byte : {s : List ℕ} {b : ℕ} → SpellsByte s b → SpellsLabel s (b ∷ [])
  bytes : {s t : List ℕ} {b : ℕ} {l : Label} → SpellsByte s b → SpellsLabel t l
      → SpellsLabel (s ++ t) (b ∷ l)

-- one or more times `/` and a label
pub data SpellsLabels : List ℕ → Labels → Type 0 where
  label : {s : List ℕ} {l : Label} → SpellsLabel s l → SpellsLabels (codes "/" ++ s) (l ∷ [])
  labels : {s t : List ℕ} {l : Label} {ls : Labels} → SpellsLabel s l → SpellsLabels t ls
      → SpellsLabels (codes "/" ++ s ++ t) (l ∷ ls)

-- a path: `/`, or one or more times `/` and a label
pub data SpellsPath : List ℕ → Labels → Type 0 where
  root : SpellsPath (codes "/") []
  under : {s : List ℕ} {ls : Labels} → SpellsLabels s ls → SpellsPath s ls

-- the number that decimal digits stand for, behind digits that stand for n
abbrev pub number : ℕ → List ℕ → ℕ
number n [] = n
number n (d ∷ ds) = number (10 * n + (d - 48)) ds

-- what decimals stand for: a digit is worth a tenth of the one before it, in whole millionths, so
-- that the seventh is worth nothing
abbrev pub fraction : ℕ → List ℕ → ℕ
fraction unit [] = 0
fraction unit (d ∷ ds) = (d - 48) * unit + fraction (unit / 10) ds

-- a weight in millionths: one to six digits; or none to six digits, `.`, and one or more digits
pub data SpellsWeight : List ℕ → ℕ → Type 0 where
  whole : {ds : List ℕ} → AreDigits ds → 1 ≤ length ds → length ds ≤ 6
      → SpellsWeight ds (number 0 ds * one_whole)
  decimal : {ds es : List ℕ} → AreDigits ds → length ds ≤ 6 → AreDigits es → 1 ≤ length es
      → SpellsWeight (ds ++ codes "." ++ es) (number 0 ds * one_whole + fraction 100000 es)

mutual
  -- a path, a mark, or a tree in parentheses
  pub data SpellsSimple : List ℕ → TreeValue → Type 0 where
    path : {s : List ℕ} {ls : Labels} → SpellsPath s ls → SpellsSimple s (leaf ls)
    failing : SpellsSimple (codes "!") fail
    negative : SpellsSimple (codes "~") neg
    nothing : SpellsSimple (codes "$") empty
    group : {s : List ℕ} {v : TreeValue} → TreeText s v
        → SpellsSimple (codes "(" ++ s ++ codes ")") v

  -- a simple, or a weight, `*` and a simple
  pub data SpellsBranch : List ℕ → BranchValue → Type 0 where
    bare : {s : List ℕ} {v : TreeValue} → SpellsSimple s v → SpellsBranch s (None, v)
    weighed : {w a b s : List ℕ} {n : ℕ} {v : TreeValue} → SpellsWeight w n → AreBlanks a
        → AreBlanks b → SpellsSimple s v
        → SpellsBranch (w ++ a ++ codes "*" ++ b ++ s) (Some n, v)

  -- one or more branches with `&` between them
  pub data SpellsUnion : List ℕ → List BranchValue → Type 0 where
    branch : {s : List ℕ} {p : BranchValue} → SpellsBranch s p → SpellsUnion s (p ∷ [])
    branches : {s a b t : List ℕ} {p : BranchValue} {ps : List BranchValue} → SpellsBranch s p
        → AreBlanks a → AreBlanks b → SpellsUnion t ps
        → SpellsUnion (s ++ a ++ codes "&" ++ b ++ t) (p ∷ ps)

  -- one or more unions with `|` between them
  pub data SpellsTree : List ℕ → List TreeValue → Type 0 where
    union : {s : List ℕ} {ps : List BranchValue} → SpellsUnion s ps
        → SpellsTree s (union_of ps ∷ [])
    unions : {s a b t : List ℕ} {ps : List BranchValue} {vs : List TreeValue} → SpellsUnion s ps
        → AreBlanks a → AreBlanks b → SpellsTree t vs
        → SpellsTree (s ++ a ++ codes "|" ++ b ++ t) (union_of ps ∷ vs)

  -- the text of a tree: blanks, a tree, blanks
  pub data TreeText : List ℕ → TreeValue → Type 0 where
    tree : {a s b : List ℕ} {vs : List TreeValue} → AreBlanks a → SpellsTree s vs → AreBlanks b
        → TreeText (a ++ s ++ b) (one_or_alt vs)

-- the text of a path: blanks, a path, blanks
pub data PathText : List ℕ → Labels → Type 0 where
  path : {a s b : List ℕ} {ls : Labels} → AreBlanks a → SpellsPath s ls → AreBlanks b
      → PathText (a ++ s ++ b) ls
