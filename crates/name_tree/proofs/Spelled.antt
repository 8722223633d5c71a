-- A tree is read as it is spelled.
use Rattle.std.proofs.Common.{◌≡◌, ℕ, false, List, [], ◌∷◌, ◌++◌, Option, Some, None, refl, sym, ap}
use Rattle.std.proofs.Common.{◌∙◌, append_assoc}
use Rattle.std.proofs.lemmas.List.{append-nil}
use Rattle.name_tree.specs.Path.{Labels, is_plain}
use Rattle.name_tree.specs.Value.{TreeValue, leaf, neg, fail, empty, BranchValue, one_or_alt}
use Rattle.name_tree.specs.Value.{union_of}
use Rattle.name_tree.specs.Grammar.{AreBlanks, SpellsPath, SpellsSimple, path, failing, negative}
use Rattle.name_tree.specs.Grammar.{nothing, group, SpellsBranch, bare, weighed, SpellsUnion}
use Rattle.name_tree.specs.Grammar.{branch, branches, SpellsTree, union, unions, TreeText, tree}
use Rattle.name_tree.specs.Grammar.{SpellsWeight}
use Rattle.name_tree.specs.LabelReading.{is_path_byte}
use Rattle.name_tree.specs.PathReading.{walk_start}
use Rattle.name_tree.specs.TreeReading.{Frame, Place, Mode, with_part, opened, next, tree_from}
use Rattle.name_tree.specs.TreeReading.{before, tree_read}
use Rattle.name_tree.proofs.Weights.{Follows, at_end, other, follows_blanks, blanks_start}
use Rattle.name_tree.proofs.Weights.{blanks_behind, blanks_weight, blanks_star, path_in, weight_in}

-- where a simple may begin behind a weight or none
data Begins : Option ℕ → Mode → Type 0 where
  first : Begins None Mode.start
  starred : {n : ℕ} → Begins (Some n) (Mode.star n)

-- a simple is read, and the branch ends
record SimpleReads (s : List ℕ) (v : TreeValue) : Type 0 where
  reads : {w : Option ℕ} {m : Mode} → Begins w m → (p : Place) {more : List ℕ} → Follows more
      → tree_from p m (s ++ more) ≡ tree_from (with_part p w v) Mode.behind more

record BranchReads (s : List ℕ) (part : BranchValue) : Type 0 where
  reads : (p : Place) {more : List ℕ} → Follows more
      → tree_from p Mode.start (s ++ more) ≡ tree_from (with_part p part.0 part.1) Mode.behind more

record UnionReads (s : List ℕ) (ps : List BranchValue) : Type 0 where
  reads : (p : Place) {more : List ℕ} → Follows more
      → tree_from p Mode.start (s ++ more)
      ≡ tree_from (record p { parts = p.parts ++ ps }) Mode.behind more

-- behind these alternatives, and these branches of the last
abbrev at : List Frame → List TreeValue → List BranchValue → Place
at fs vs ps = record { outer = fs; alts = vs; parts = ps }

record TreeReads (s : List ℕ) (vs : List TreeValue) : Type 0 where
  front : List TreeValue
  last : List BranchValue
  same : vs ≡ front ++ union_of last ∷ []
  reads : (fs : List Frame) (us : List TreeValue) {more : List ℕ} → Follows more
      → tree_from (at fs us []) Mode.start (s ++ more)
      ≡ tree_from (at fs (us ++ front) last) Mode.behind more

record TextReads (s : List ℕ) (v : TreeValue) : Type 0 where
  front : List TreeValue
  last : List BranchValue
  same : v ≡ one_or_alt (front ++ union_of last ∷ [])
  reads : (fs : List Frame) {more : List ℕ} → Follows more
      → tree_from (before fs) Mode.start (s ++ more) ≡ tree_from (at fs front last) Mode.behind more

not_path_41 : is_path_byte 41 ≡ false
unfolding is_plain
not_path_41 = refl

not_path_38 : is_path_byte 38 ≡ false
unfolding is_plain
not_path_38 = refl

not_path_124 : is_path_byte 124 ≡ false
unfolding is_plain
not_path_124 = refl

not_path_42 : is_path_byte 42 ≡ false
unfolding is_plain
not_path_42 = refl

on_slash : {w : Option ℕ} {m : Mode} → Begins w m → (p : Place)
    → next p m 47 ≡ Some (p, Mode.walk w walk_start)
on_slash first p = refl
on_slash starred p = refl

on_open : {w : Option ℕ} {m : Mode} → Begins w m → (p : Place)
    → next p m 40 ≡ Some (opened p w, Mode.start)
on_open first p = refl
on_open starred p = refl

on_fail : {w : Option ℕ} {m : Mode} → Begins w m → (p : Place)
    → next p m 33 ≡ Some (with_part p w fail, Mode.behind)
on_fail first p = refl
on_fail starred p = refl

on_neg : {w : Option ℕ} {m : Mode} → Begins w m → (p : Place)
    → next p m 126 ≡ Some (with_part p w neg, Mode.behind)
on_neg first p = refl
on_neg starred p = refl

on_empty : {w : Option ℕ} {m : Mode} → Begins w m → (p : Place)
    → next p m 36 ≡ Some (with_part p w empty, Mode.behind)
on_empty first p = refl
on_empty starred p = refl

path_reads : {s : List ℕ} {ls : Labels} → SpellsPath s ls → SimpleReads s (leaf ls)
path_reads {s} {ls} r = record {
  reads = λ {w} {m} b p {more} f. let k = path_in r p w f in
      rw (k.1, on_slash b p) k.2;
}

fail_reads : SimpleReads (33 ∷ []) fail
fail_reads = record { reads = λ b p f. rw (on_fail b p) refl }

neg_reads : SimpleReads (126 ∷ []) neg
neg_reads = record { reads = λ b p f. rw (on_neg b p) refl }

empty_reads : SimpleReads (36 ∷ []) empty
empty_reads = record { reads = λ b p f. rw (on_empty b p) refl }

group_reads : {s : List ℕ} {v : TreeValue} → TextReads s v → SimpleReads (40 ∷ s ++ 41 ∷ []) v
group_reads {s} {v} r = record {
  reads = λ {w} {m} b p {more} f.
      rw (on_open b p) (ap (λ u. tree_from (opened p w) Mode.start u)
      (append_assoc s (41 ∷ []) more) ∙ r.reads (opened p w).outer (other not_path_41)
      ∙ ap (λ x. tree_from (with_part p w x) Mode.behind more) (sym r.same));
}

bare_reads : {s : List ℕ} {v : TreeValue} → SimpleReads s v → BranchReads s (None, v)
bare_reads r = record { reads = λ p f. r.reads first p f }

weighed_reads : {w a b s : List ℕ} {n : ℕ} {v : TreeValue} → SpellsWeight w n → AreBlanks a
    → AreBlanks b → SimpleReads s v → BranchReads (w ++ a ++ 42 ∷ [] ++ b ++ s) (Some n, v)
weighed_reads {w} {a} {b} {s} {n} {v} q x y r = record {
  reads = λ p {more} f.
      rw (append_assoc, append_assoc, append_assoc, append_assoc)
      (weight_in q p (follows_blanks x (other not_path_42))
      ∙ (blanks_weight x p n (42 ∷ b ++ (s ++ more))
      ∙ (blanks_star y p n (s ++ more) ∙ r.reads starred p f)));
}

branch_reads : {s : List ℕ} {p : BranchValue} → BranchReads s p → UnionReads s (p ∷ [])
branch_reads r = record { reads = λ p f. r.reads p f }

branches_read : {s a b t : List ℕ} {q : BranchValue} {qs : List BranchValue} → BranchReads s q
    → AreBlanks a → AreBlanks b → UnionReads t qs
    → UnionReads (s ++ a ++ 38 ∷ [] ++ b ++ t) (q ∷ qs)
branches_read {s} {a} {b} {t} {q} {qs} r x y rs = record {
  reads = λ p {more} f.
      rw (append_assoc, append_assoc, append_assoc, append_assoc)
      (r.reads p (follows_blanks x (other not_path_38))
      ∙ (blanks_behind x (with_part p q.0 q.1) (38 ∷ b ++ (t ++ more))
      ∙ (blanks_start y (with_part p q.0 q.1) (t ++ more)
      ∙ (rs.reads (with_part p q.0 q.1) f
      ∙ ap (λ ps. tree_from (record p { parts = ps }) Mode.behind more)
      (append_assoc p.parts (q ∷ []) qs)))));
}

union_reads : {s : List ℕ} {ps : List BranchValue} → UnionReads s ps
    → TreeReads s (union_of ps ∷ [])
union_reads {s} {ps} r =
    record {
      front = [];
      last = ps;
      same = refl;
      reads =
          λ fs us {more} f. r.reads (at fs us []) f
          ∙ ap (λ xs. tree_from (at fs xs ps) Mode.behind more) (sym (append-nil us));
    }

unions_read : {s a b t : List ℕ} {ps : List BranchValue} {vs : List TreeValue} → UnionReads s ps
    → AreBlanks a → AreBlanks b → TreeReads t vs
    → TreeReads (s ++ a ++ 124 ∷ [] ++ b ++ t) (union_of ps ∷ vs)
unions_read {s} {a} {b} {t} {ps} {vs} r x y rs = record {
  front = union_of ps ∷ rs.front;
  last = rs.last;
  same = ap (λ us. union_of ps ∷ us) rs.same;
  reads = λ fs us {more} f.
      rw (append_assoc, append_assoc, append_assoc, append_assoc)
      (r.reads (at fs us []) (follows_blanks x (other not_path_124))
      ∙ (blanks_behind x (at fs us ps) (124 ∷ b ++ (t ++ more))
      ∙ (blanks_start y (at fs (us ++ union_of ps ∷ []) []) (t ++ more)
      ∙ (rs.reads fs (us ++ union_of ps ∷ []) f
      ∙ ap (λ xs. tree_from (at fs xs rs.last) Mode.behind more)
      (append_assoc us (union_of ps ∷ []) rs.front)))));
}

text_reads : {a s b : List ℕ} {vs : List TreeValue} → AreBlanks a → TreeReads s vs → AreBlanks b
    → TextReads (a ++ s ++ b) (one_or_alt vs)
text_reads {a} {s} {b} {vs} x r y = record {
  front = r.front;
  last = r.last;
  same = ap one_or_alt r.same;
  reads = λ fs {more} f. rw (append_assoc, append_assoc)
      (blanks_start x (before fs) (s ++ (b ++ more))
      ∙ (r.reads fs [] (follows_blanks y f) ∙ blanks_behind y (at fs r.front r.last) more));
}

mutual
  simple_read : {s : List ℕ} {v : TreeValue} → SpellsSimple s v → SimpleReads s v
  simple_read (path r) = path_reads r
  simple_read failing = fail_reads
  simple_read negative = neg_reads
  simple_read nothing = empty_reads
  simple_read (group r) = group_reads (text_read r)

  branch_read : {s : List ℕ} {p : BranchValue} → SpellsBranch s p → BranchReads s p
  branch_read (bare r) = bare_reads (simple_read r)
  branch_read (weighed q x y r) = weighed_reads q x y (simple_read r)

  union_read : {s : List ℕ} {ps : List BranchValue} → SpellsUnion s ps → UnionReads s ps
  union_read (branch r) = branch_reads (branch_read r)
  union_read (branches r x y rs) = branches_read (branch_read r) x y (union_read rs)

  tree_spelled : {s : List ℕ} {vs : List TreeValue} → SpellsTree s vs → TreeReads s vs
  tree_spelled (union r) = union_reads (union_read r)
  tree_spelled (unions r x y rs) = unions_read (union_read r) x y (tree_spelled rs)

  text_read : {s : List ℕ} {v : TreeValue} → TreeText s v → TextReads s v
  text_read (tree x r y) = text_reads x (tree_spelled r) y

-- what a text stands for is what reading it gives
pub spelled_is_read : {s : List ℕ} {v : TreeValue} → TreeText s v → tree_read s ≡ Some v
spelled_is_read {s} {v} r =
    let k = text_read r in
    ap tree_read (sym (append-nil s)) ∙ (k.reads [] at_end ∙ ap Some (sym k.same))
