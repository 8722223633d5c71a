-- The laws of the recogniser of trees.
use Rattle.std.proofs.Common.{◌≡◌, ℕ, ◌+◌, ◌*◌, List, [], ◌∷◌, ◌++◌, length, Option, Some, None}
use Rattle.std.proofs.Common.{refl, ◌∙◌}
use Rattle.name_tree.specs.Path.{is_plain}
use Rattle.name_tree.specs.Value.{TreeValue, leaf, neg, BranchValue}
use Rattle.name_tree.specs.Grammar.{TreeText}
use Rattle.name_tree.specs.PathReading.{Walk}
use Rattle.name_tree.proofs.Walks.{walk_can_end}
use Rattle.name_tree.specs.TreeReading.{Frame, Place, Mode, State, with_part, next_state}
use Rattle.name_tree.specs.TreeReading.{ended_state, tree_from, before}
use Rattle.name_tree.proofs.Weights.{Follows, at_end, other, walk_in, walk_ends}
use Rattle.name_tree.proofs.Spelled.{spelled_is_read}
use Rattle.name_tree.proofs.Steps.{read_is_spelled}
use Rattle.name_tree.proofs.Recognisers.{Recognises}
use Rattle.name_tree.proofs.Places.{Counts}
use Rattle.name_tree.proofs.Depth.{step_depth}

-- as many `)` as parentheses are open
abbrev closings : List Frame → List ℕ
closings [] = []
closings (f ∷ fs) = 41 ∷ closings fs

follows_closings : (fs : List Frame) → Follows (closings fs)
unfolding is_plain
follows_closings [] = at_end
follows_closings (f ∷ fs) = other refl

behind_ends : (fs : List Frame) (vs : List TreeValue) (ps : List BranchValue)
    → (v : TreeValue) × (tree_from (record { outer = fs; alts = vs; parts = ps }) Mode.behind
    (closings fs) ≡ Some v)
behind_ends [] vs ps = (_, refl)
behind_ends (f ∷ fs) vs ps = behind_ends fs f.alts _

walk_ended : (p : Place) (w : Option ℕ) (at : Walk)
    → (more : List ℕ) × (v : TreeValue) × (tree_from p (Mode.walk w at) more ≡ Some v)
walk_ended p w at =
    let k = walk_can_end at in
    let q = with_part p w (leaf k.labels) in
    let e = behind_ends q.outer q.alts q.parts in (
      k.more ++ closings p.outer,
      e.0,
      walk_in p w k.more at k.to k.reads (closings p.outer)
          ∙ (walk_ends p w k.to k.labels k.ends (follows_closings p.outer) ∙ e.1),
    )

can_end : (p : Place) (m : Mode) → (more : List ℕ) × (v : TreeValue) × (tree_from p m more ≡ Some v)
can_end p Mode.start = let e = behind_ends p.outer p.alts (p.parts ++ (None, neg) ∷ []) in
    (126 ∷ closings p.outer, e.0, e.1)
can_end p (Mode.whole n k) = let e =
    behind_ends p.outer p.alts (p.parts ++ (Some (n * 1000000), neg) ∷ []) in
    (42 ∷ 126 ∷ closings p.outer, e.0, e.1)
can_end p (Mode.point n) = let e = behind_ends p.outer p.alts
    (p.parts ++ (Some (n + 0 * 100000), neg) ∷ []) in (48 ∷ 42 ∷ 126 ∷ closings p.outer, e.0, e.1)
can_end p (Mode.decimals n u) = let e =
    behind_ends p.outer p.alts (p.parts ++ (Some n, neg) ∷ []) in
    (42 ∷ 126 ∷ closings p.outer, e.0, e.1)
can_end p (Mode.weight n) = let e = behind_ends p.outer p.alts (p.parts ++ (Some n, neg) ∷ []) in
    (42 ∷ 126 ∷ closings p.outer, e.0, e.1)
can_end p (Mode.star n) = let e = behind_ends p.outer p.alts (p.parts ++ (Some n, neg) ∷ []) in
    (126 ∷ closings p.outer, e.0, e.1)
can_end p (Mode.walk w at) = walk_ended p w at
can_end p Mode.behind = let e = behind_ends p.outer p.alts p.parts in (closings p.outer, e.0, e.1)

pub tree_laws : Recognises next_state ended_state (before [], Mode.start) TreeText
tree_laws = record {
  reads = λ s v r. spelled_is_read r;
  gives = λ s v e. read_is_spelled s v e;
  can_end = λ q. can_end q.0 q.1;
}

pub tree_counts : Counts next_state (before [], Mode.start) (λ q. length q.0.outer)
tree_counts = record { at_start = refl; each = λ q b. step_depth q.0 q.1 b }

abbrev pub tree_start : State
tree_start = (before [], Mode.start)

abbrev pub tree_depth : State → ℕ
tree_depth q = length q.0.outer
