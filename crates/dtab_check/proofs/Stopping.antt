-- Endings that stop a search, and unions and lists of trees of which one has such an ending.
use Rattle.std.proofs.Common.{◌≡◌, ℕ, Bool, true, false, List, [], ◌∷◌, ◌++◌, refl, sym, ap, ◌∙◌}
use Rattle.std.specs.Prelude.{◌||◌, if◌then◌else◌}
use Rattle.name_tree.specs.Path.{Labels}
use Rattle.name_tree.specs.Value.{TreeValue, TreeValues, Branches, leaf, neg, fail, empty, alt}
use Rattle.name_tree.specs.Value.{union, none, more, no_branch, branch}
use Rattle.addr_book.specs.Found.{Found}
use Rattle.bind_core.specs.Delegation.{Ending, negative, failing, no_replica, too_deep, too_wide}
use Rattle.bind_core.specs.Delegation.{bound, Told, Evaluated, or_else, is_too_deep, is_failing}
use Rattle.bind_core.specs.Delegation.{is_empty, some_end, found_at, found_in, kept, together, walk}
use Rattle.bind_core.specs.Delegation.{walk_all, walk_each, first_of}
use Rattle.bind_core.proofs.Narrow.{IsNarrow, first_of-IsNarrow}
use Rattle.bind_core.proofs.Stacks.{or_else-assoc}

-- whether nothing behind it is looked up
abbrev pub stops : Ending → Bool
stops negative = false
stops failing = true
stops no_replica = true
stops too_deep = true
stops too_wide = false
stops (bound found) = true

abbrev pub IsStop : Told → Type 0
IsStop told = stops told.0 ≡ true

pub or_else-stop : (a b : Told) → IsStop a → or_else a b ≡ a
or_else-stop (negative, vs) b h = cc
or_else-stop (failing, vs) b h = refl
or_else-stop (no_replica, vs) b h = refl
or_else-stop (too_deep, vs) b h = refl
or_else-stop (too_wide, vs) b h = refl
or_else-stop (bound found, vs) b h = refl

pub or_else-IsStop_left : (a b : Told) → IsStop a → IsStop (or_else a b)
or_else-IsStop_left a b h = rw (or_else-stop a b h) h

pub or_else-IsStop_right : (a b : Told) → IsNarrow a → IsStop b → IsStop (or_else a b)
or_else-IsStop_right (negative, vs) b narrow h = h
or_else-IsStop_right (failing, vs) b narrow h = refl
or_else-IsStop_right (no_replica, vs) b narrow h = refl
or_else-IsStop_right (too_deep, vs) b narrow h = refl
or_else-IsStop_right (too_wide, vs) b narrow h = absurd (narrow refl)
or_else-IsStop_right (bound found, vs) b narrow h = refl

-- a union of which one branch stops

abbrev some_found : List (ℕ × Found) → Bool
some_found [] = false
some_found (m ∷ ms) = true

kept-stops : (deep : Bool) (found : List (ℕ × Found)) (fails lacks : Bool)
    → stops (if deep then too_deep else kept found fails lacks)
    ≡ (deep || (some_found found || (fails || lacks)))
kept-stops true found fails lacks = refl
kept-stops false [] true lacks = refl
kept-stops false [] false true = refl
kept-stops false [] false false = refl
kept-stops false (m ∷ ms) fails lacks = refl

one_more : (e : Ending) (n : ℕ) (found : List (ℕ × Found)) (deep fails lacks some : Bool)
    → some ≡ (deep || (some_found found || (fails || lacks)))
    → (stops e || some) ≡ ((is_too_deep e || deep)
    || (some_found (found_at n e ++ found) || ((is_failing e || fails) || (is_empty e || lacks))))
one_more negative n found deep fails lacks some h = h
one_more too_wide n found deep fails lacks some h = h
one_more too_deep n found deep fails lacks some h = refl
one_more (bound f) n found true fails lacks some h = refl
one_more (bound f) n found false fails lacks some h = refl
one_more failing n found true fails lacks some h = refl
one_more failing n [] false fails lacks some h = refl
one_more failing n (m ∷ ms) false fails lacks some h = refl
one_more no_replica n found true fails lacks some h = refl
one_more no_replica n [] false true lacks some h = refl
one_more no_replica n [] false false lacks some h = refl
one_more no_replica n (m ∷ ms) false fails lacks some h = refl

some_end-stops : (bs : List Evaluated) → some_end stops bs
    ≡ (some_end is_too_deep bs
    || (some_found (found_in bs) || (some_end is_failing bs || some_end is_empty bs)))
some_end-stops [] = refl
some_end-stops (b ∷ bs) = one_more b.told.0 b.weight (found_in bs) (some_end is_too_deep bs)
    (some_end is_failing bs) (some_end is_empty bs) (some_end stops bs) (some_end-stops bs)

pub together-IsStop : (bs : List Evaluated) → some_end stops bs ≡ true → IsStop (together bs)
together-IsStop bs h = kept-stops (some_end is_too_deep bs) (found_in bs) (some_end is_failing bs)
    (some_end is_empty bs) ∙ (sym (some_end-stops bs) ∙ h)

module _ (look : Labels → Told) where
  -- some trees are tried, and then others
  pub first_of-append : (ts us : List TreeValue) → first_of look (ts ++ us)
      ≡ or_else (first_of look ts) (first_of look us)
  first_of-append [] us = refl
  first_of-append (t ∷ ts) us = ap (or_else (walk look t)) (first_of-append ts us)
      ∙ sym (or_else-assoc (walk look t) (first_of look ts) (first_of look us))

  pub first_of-IsStop_left : (ts us : List TreeValue) → IsStop (first_of look ts)
      → IsStop (first_of look (ts ++ us))
  first_of-IsStop_left ts us h = rw (first_of-append ts us)
      (or_else-IsStop_left (first_of look ts) (first_of look us) h)

  pub first_of-stop : (ts us : List TreeValue) → IsStop (first_of look ts)
      → first_of look (ts ++ us) ≡ first_of look ts
  first_of-stop ts us h = first_of-append ts us
      ∙ or_else-stop (first_of look ts) (first_of look us) h

  module _ (narrow : (path : Labels) → IsNarrow (look path)) where
    pub first_of-IsStop_right : (ts us : List TreeValue) → IsStop (first_of look us)
        → IsStop (first_of look (ts ++ us))
    first_of-IsStop_right ts us h = rw (first_of-append ts us)
        (or_else-IsStop_right (first_of look ts) (first_of look us)
        (first_of-IsNarrow look narrow ts) h)

-- two ways to look paths up that always tell the same
module _ (look other : Labels → Told) (same : (path : Labels) → other path ≡ look path) where
  abbrev mutual
    pub walk-same : (t : TreeValue) → walk other t ≡ walk look t
    walk-same (leaf path) = same path
    walk-same neg = refl
    walk-same fail = refl
    walk-same empty = refl
    walk-same (alt ts) = walk_all-same ts
    walk-same (union bs) = ap together (walk_each-same bs)

    walk_all-same : (ts : TreeValues) → walk_all other ts ≡ walk_all look ts
    walk_all-same none = refl
    walk_all-same (more t ts) = rw (walk-same t, walk_all-same ts) refl

    walk_each-same : (bs : Branches) → walk_each other bs ≡ walk_each look bs
    walk_each-same no_branch = refl
    walk_each-same (branch n t bs) =
        let tail = walk_each-same bs in
        let head = walk-same t in
        rw (tail, head) refl

  pub first_of-same : (ts : List TreeValue) → first_of other ts ≡ first_of look ts
  first_of-same [] = refl
  first_of-same (t ∷ ts) = rw (walk-same t, first_of-same ts) refl
