-- What was read of a tree spells it: what the bytes up to here are.
use Rattle.std.proofs.Common.{◌≡◌, ℕ, ◌+◌, ◌-◌, ◌*◌, ◌/◌, ◌≤◌, arith, List, [], ◌∷◌, ◌++◌, length}
use Rattle.std.proofs.Common.{Option, refl, sym, subst, subst₂, append_assoc}
use Rattle.name_tree.specs.Value.{TreeValue, BranchValue, one_whole, one_or_alt, union_of}
use Rattle.name_tree.specs.Grammar.{AreBlanks, AreDigits, number, fraction, SpellsWeight}
use Rattle.name_tree.specs.Grammar.{SpellsSimple, SpellsBranch, SpellsUnion, branches, SpellsTree}
use Rattle.name_tree.specs.Grammar.{union, unions, TreeText, tree}
use Rattle.name_tree.specs.PathReading.{Walk}
use Rattle.name_tree.specs.TreeReading.{Frame, Place, Mode}
use Rattle.name_tree.proofs.Walks.{WalkFront}

-- one more

pub number_snoc : (n : ℕ) (ds : List ℕ) (d : ℕ) → number n (ds ++ d ∷ [])
    ≡ 10 * number n ds + (d - 48)
number_snoc n [] d = refl
number_snoc n (c ∷ cs) d = number_snoc (10 * n + (c - 48)) cs d

-- what the next decimal is worth
abbrev pub unit_after : ℕ → List ℕ → ℕ
unit_after u [] = u
unit_after u (d ∷ ds) = unit_after (u / 10) ds

pub unit_snoc : (u : ℕ) (ds : List ℕ) (d : ℕ) → unit_after u (ds ++ d ∷ []) ≡ unit_after u ds / 10
unit_snoc u [] d = refl
unit_snoc u (c ∷ cs) d = unit_snoc (u / 10) cs d

pub fraction_snoc : (u : ℕ) (ds : List ℕ) (d : ℕ)
    → fraction u (ds ++ d ∷ []) ≡ fraction u ds + (d - 48) * unit_after u ds
fraction_snoc u [] d = omega arith
fraction_snoc u (c ∷ cs) d = let h = fraction_snoc (u / 10) cs d in omega (arith, h)

-- a union, and a tree, with blanks round it

pub data PaddedUnion : List ℕ → List BranchValue → Type 0 where
  padded : {a s b : List ℕ} {ps : List BranchValue} → AreBlanks a → SpellsUnion s ps → AreBlanks b
      → PaddedUnion (a ++ (s ++ b)) ps

pub data PaddedTree : List ℕ → List TreeValue → Type 0 where
  padded : {a s b : List ℕ} {vs : List TreeValue} → AreBlanks a → SpellsTree s vs → AreBlanks b
      → PaddedTree (a ++ (s ++ b)) vs

union_more : {a t b u : List ℕ} {q : BranchValue} {qs : List BranchValue} → AreBlanks a
    → SpellsBranch t q → AreBlanks b → PaddedUnion u qs
    → PaddedUnion (a ++ (t ++ (b ++ 38 ∷ u))) (q ∷ qs)
union_more {a} {t} {b} {q = q} x r y (padded {a = c} {s = s} {b = d} {ps = qs} z rs w) =
    let same : (t ++ b ++ 38 ∷ [] ++ c ++ s) ++ d ≡ t ++ (b ++ 38 ∷ (c ++ (s ++ d))) =
    simp append_assoc in
    subst (λ (v : List ℕ). PaddedUnion (a ++ v) (q ∷ qs)) same
    (PaddedUnion.padded x (branches r y z rs) w)

tree_more : {a t b u : List ℕ} {ps : List BranchValue} {vs : List TreeValue} → AreBlanks a
    → SpellsUnion t ps → AreBlanks b → PaddedTree u vs
    → PaddedTree (a ++ (t ++ (b ++ 124 ∷ u))) (union_of ps ∷ vs)
tree_more {a} {t} {b} {ps = ps} x r y (padded {a = c} {s = s} {b = d} {vs = vs} z rs w) =
    let same : (t ++ b ++ 124 ∷ [] ++ c ++ s) ++ d ≡ t ++ (b ++ 124 ∷ (c ++ (s ++ d))) =
    simp append_assoc in
    subst (λ (v : List ℕ). PaddedTree (a ++ v) (union_of ps ∷ vs)) same
    (PaddedTree.padded x (unions r y z rs) w)

pub padded_text : {s : List ℕ} {vs : List TreeValue} → PaddedTree s vs → TreeText s (one_or_alt vs)
padded_text (padded {a = a} {s = s} {b = b} {vs = vs} x r y) =
    subst (λ (t : List ℕ). TreeText t (one_or_alt vs)) (append_assoc a s b) (tree x r y)

pub padded_union : {s : List ℕ} {ps : List BranchValue} → PaddedUnion s ps
    → PaddedTree s (union_of ps ∷ [])
padded_union (padded x r y) = PaddedTree.padded x (union r) y

-- branches, each with its `&`
pub record PartsFront (s : List ℕ) (ps : List BranchValue) : Type 0 where
  pub extend : {t : List ℕ} {qs : List BranchValue} → PaddedUnion t qs
      → PaddedUnion (s ++ t) (ps ++ qs)

-- alternatives, each with its `|`
pub record AltsFront (s : List ℕ) (vs : List TreeValue) : Type 0 where
  pub extend : {t : List ℕ} {us : List TreeValue} → PaddedTree t us → PaddedTree (s ++ t) (vs ++ us)

pub parts_more : {s a t b : List ℕ} {ps : List BranchValue} {q : BranchValue} → PartsFront s ps
    → AreBlanks a → SpellsBranch t q → AreBlanks b
    → PartsFront (s ++ (a ++ (t ++ (b ++ 38 ∷ [])))) (ps ++ q ∷ [])
parts_more {s} {a} {t} {b} {ps} {q} f x r y = record {
  extend = λ {t = u} {qs} r'.
      let same : s ++ (a ++ (t ++ (b ++ 38 ∷ u))) ≡ (s ++ (a ++ (t ++ (b ++ 38 ∷ [])))) ++ u =
      simp append_assoc in
      subst₂ PaddedUnion same (sym (append_assoc ps (q ∷ []) qs)) (f.extend (union_more x r y r'));
}

pub alts_more : {s t : List ℕ} {vs : List TreeValue} {ps : List BranchValue} → AltsFront s vs
    → PaddedUnion t ps → AltsFront (s ++ (t ++ 124 ∷ [])) (vs ++ union_of ps ∷ [])
alts_more {s} {t} {vs} {ps} f (padded {a = a} {s = c} {b = b} x r y) = record {
  extend = λ {t = u} {us} r'.
      let same : s ++ (a ++ (c ++ (b ++ 124 ∷ u))) ≡ (s ++ ((a ++ (c ++ b)) ++ 124 ∷ [])) ++ u =
      simp append_assoc in
      subst₂ PaddedTree same (sym (append_assoc vs (union_of ps ∷ []) us))
      (f.extend (tree_more x r y r'));
}

-- a weight and its `*`, or nothing
pub record BranchFront (s : List ℕ) (w : Option ℕ) : Type 0 where
  pub extend : {t : List ℕ} {v : TreeValue} → SpellsSimple t v → SpellsBranch (s ++ t) (w, v)

-- the bytes up to where a branch begins, after what stands before these parentheses
pub record Ahead (Outer : List ℕ → Type 0) (vs : List TreeValue) (ps : List BranchValue)
    (s : List ℕ) : Type 0 where
  pub outer : List ℕ
  pub unions : List ℕ
  pub branches : List ℕ
  pub same : s ≡ outer ++ (unions ++ branches)
  pub opened : Outer outer
  pub alts : AltsFront unions vs
  pub parts : PartsFront branches ps

-- a parenthesis where a simple may begin
pub record Opens (Outer : List ℕ → Type 0) (f : Frame) (s : List ℕ) : Type 0 where
  pub front : List ℕ
  pub blanks : List ℕ
  pub weight : List ℕ
  pub same : s ≡ front ++ (blanks ++ (weight ++ 40 ∷ []))
  pub ahead : Ahead Outer f.alts f.parts front
  pub are_blanks : AreBlanks blanks
  pub weighs : BranchFront weight f.weight

-- the bytes up to where a tree begins inside these parentheses
abbrev pub Opened : List Frame → List ℕ → Type 0
Opened [] s = s ≡ []
Opened (f ∷ fs) s = Opens (λ t. Opened fs t) f s

-- the bytes of a branch up to here

pub record InWhole (n k : ℕ) (s : List ℕ) : Type 0 where
  pub blanks : List ℕ
  pub digits : List ℕ
  pub same : s ≡ blanks ++ digits
  pub are_blanks : AreBlanks blanks
  pub are_digits : AreDigits digits
  pub some : 1 ≤ length digits
  pub few : length digits ≤ 6
  pub count : k ≡ length digits
  pub value : n ≡ number 0 digits

pub record InPoint (n : ℕ) (s : List ℕ) : Type 0 where
  pub blanks : List ℕ
  pub digits : List ℕ
  pub same : s ≡ blanks ++ (digits ++ 46 ∷ [])
  pub are_blanks : AreBlanks blanks
  pub are_digits : AreDigits digits
  pub few : length digits ≤ 6
  pub value : n ≡ number 0 digits * one_whole

pub record InDecimals (n u : ℕ) (s : List ℕ) : Type 0 where
  pub blanks : List ℕ
  pub digits : List ℕ
  pub decimals : List ℕ
  pub same : s ≡ blanks ++ (digits ++ 46 ∷ decimals)
  pub are_blanks : AreBlanks blanks
  pub are_digits : AreDigits digits
  pub few : length digits ≤ 6
  pub are_decimals : AreDigits decimals
  pub some : 1 ≤ length decimals
  pub worth : u ≡ unit_after 100000 decimals
  pub value : n ≡ number 0 digits * one_whole + fraction 100000 decimals

pub record InWeight (n : ℕ) (s : List ℕ) : Type 0 where
  pub blanks : List ℕ
  pub weight : List ℕ
  pub after : List ℕ
  pub same : s ≡ blanks ++ (weight ++ after)
  pub are_blanks : AreBlanks blanks
  pub spells : SpellsWeight weight n
  pub are_after : AreBlanks after

pub record InStar (n : ℕ) (s : List ℕ) : Type 0 where
  pub blanks : List ℕ
  pub weight : List ℕ
  pub between : List ℕ
  pub after : List ℕ
  pub same : s ≡ blanks ++ (weight ++ (between ++ 42 ∷ after))
  pub are_blanks : AreBlanks blanks
  pub spells : SpellsWeight weight n
  pub are_between : AreBlanks between
  pub are_after : AreBlanks after

pub record InWalk (w : Option ℕ) (at : Walk) (s : List ℕ) : Type 0 where
  pub blanks : List ℕ
  pub weight : List ℕ
  pub path : List ℕ
  pub same : s ≡ blanks ++ (weight ++ path)
  pub are_blanks : AreBlanks blanks
  pub weighs : BranchFront weight w
  pub walks : WalkFront at path

pub record WholeBranch (q : BranchValue) (s : List ℕ) : Type 0 where
  pub blanks : List ℕ
  pub branch : List ℕ
  pub after : List ℕ
  pub same : s ≡ blanks ++ (branch ++ after)
  pub are_blanks : AreBlanks blanks
  pub spells : SpellsBranch branch q
  pub are_after : AreBlanks after

abbrev pub InBranch : Mode → List ℕ → Type 0
InBranch Mode.start s = AreBlanks s
InBranch (Mode.whole n k) s = InWhole n k s
InBranch (Mode.point n) s = InPoint n s
InBranch (Mode.decimals n u) s = InDecimals n u s
InBranch (Mode.weight n) s = InWeight n s
InBranch (Mode.star n) s = InStar n s
InBranch (Mode.walk w at) s = InWalk w at s
InBranch Mode.behind s = ⊥

-- the bytes up to here, inside a branch
pub record Inside (p : Place) (m : Mode) (s : List ℕ) : Type 0 where
  pub front : List ℕ
  pub rest : List ℕ
  pub same : s ≡ front ++ rest
  pub ahead : Ahead (λ t. Opened p.outer t) p.alts p.parts front
  pub branch : InBranch m rest

-- the bytes up to here, behind a branch
pub record Behind (p : Place) (s : List ℕ) : Type 0 where
  pub front : List ℕ
  pub rest : List ℕ
  pub parts : List BranchValue
  pub last : BranchValue
  pub same : s ≡ front ++ rest
  pub these : p.parts ≡ parts ++ last ∷ []
  pub ahead : Ahead (λ t. Opened p.outer t) p.alts parts front
  pub branch : WholeBranch last rest

-- the bytes up to here
abbrev pub Front : Place → Mode → List ℕ → Type 0
Front p Mode.behind s = Behind p s
Front p m s = Inside p m s
