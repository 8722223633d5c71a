-- Blanks, paths and weights in a tree's text are read as they are spelled.
use Rattle.std.proofs.Common.{◌≡◌, ℕ, suc, ◌+◌, ◌-◌, ◌*◌, ◌/◌, ◌≤◌, List, [], ◌∷◌, ◌++◌, length}
use Rattle.std.proofs.Common.{true, false, Option, Some, refl, sym, ap, ◌∙◌, append_assoc, arith}
use Rattle.std.specs.Prelude.{nat_lt, ⊤}
use Rattle.std.proofs.lemmas.Bool.{lt-ltb}
use Rattle.std.proofs.lemmas.Option.{same_Some, option_and_then_some, MatchOption-at_some}
use Rattle.name_tree.specs.Path.{Labels}
use Rattle.name_tree.specs.Value.{leaf, one_whole}
use Rattle.name_tree.specs.Grammar.{number, fraction, AreBlanks, no_blank, blank, AreDigits}
use Rattle.name_tree.specs.Grammar.{no_digit, digit, SpellsWeight, whole, decimal, SpellsPath}
use Rattle.name_tree.specs.Recogniser.{run}
use Rattle.name_tree.specs.LabelReading.{is_path_byte}
use Rattle.name_tree.specs.PathReading.{Walk, walk_start, next_walk, end_walk}
use Rattle.name_tree.specs.TreeReading.{Place, Mode, with_part, tree_from}
use Rattle.name_tree.proofs.Bytes.{blank-path, digit-blank, other-digit, other-point}
use Rattle.name_tree.proofs.Walks.{path_walk, walk_byte}

-- what may follow a path or a weight: the end, or a byte that stands in neither
pub data Follows : List ℕ → Type 0 where
  at_end : Follows []
  other : {b : ℕ} {s : List ℕ} → is_path_byte b ≡ false → Follows (b ∷ s)

pub follows_blanks : {a s : List ℕ} → AreBlanks a → Follows s → Follows (a ++ s)
follows_blanks no_blank f = f
follows_blanks (blank {b = b} h r) f = other (blank-path b h)

-- blanks

pub blanks_start : {a : List ℕ} → AreBlanks a → (p : Place) (more : List ℕ)
    → tree_from p Mode.start (a ++ more) ≡ tree_from p Mode.start more
blanks_start no_blank p more = refl
blanks_start (blank h r) p more = rw h (blanks_start r p more)

pub blanks_behind : {a : List ℕ} → AreBlanks a → (p : Place) (more : List ℕ)
    → tree_from p Mode.behind (a ++ more) ≡ tree_from p Mode.behind more
blanks_behind no_blank p more = refl
blanks_behind (blank h r) p more = rw h (blanks_behind r p more)

pub blanks_weight : {a : List ℕ} → AreBlanks a → (p : Place) (n : ℕ) (more : List ℕ)
    → tree_from p (Mode.weight n) (a ++ more) ≡ tree_from p (Mode.weight n) more
blanks_weight no_blank p n more = refl
blanks_weight (blank h r) p n more = rw h (blanks_weight r p n more)

pub blanks_star : {a : List ℕ} → AreBlanks a → (p : Place) (n : ℕ) (more : List ℕ)
    → tree_from p (Mode.star n) (a ++ more) ≡ tree_from p (Mode.star n) more
blanks_star no_blank p n more = refl
blanks_star (blank h r) p n more = rw h (blanks_star r p n more)

-- paths

-- in a tree a path is read as it is read alone
pub walk_in : (p : Place) (w : Option ℕ) (s : List ℕ) (at to : Walk) → run next_walk at s ≡ Some to
    → (more : List ℕ)
    → tree_from p (Mode.walk w at) (s ++ more) ≡ tree_from p (Mode.walk w to) more
walk_in p w [] at to e more = ap (λ x. tree_from p (Mode.walk w x) more) (same_Some at to e)
walk_in p w (b ∷ bs) at to e more =
    option_and_then_some (λ x. run next_walk x bs) (next_walk at b) to e
    (λ via i r. let test : is_path_byte b ≡ true =
    MatchOption-at_some ⊤ (λ _. is_path_byte b ≡ true) via i (walk_byte at b) in
    rw (test, i) (walk_in p w bs via to r more))

-- a path that may end ends where what follows does not go on with it
pub walk_ends : (p : Place) (w : Option ℕ) (at : Walk) (ls : Labels) → end_walk at ≡ Some ls
    → {more : List ℕ} → Follows more
    → tree_from p (Mode.walk w at) more ≡ tree_from (with_part p w (leaf ls)) Mode.behind more
walk_ends p w at ls e at_end = rw e refl
walk_ends p w at ls e (other h) = rw (h, e) refl

pub path_in : {s : List ℕ} {ls : Labels} → SpellsPath s ls
    → (p : Place) (w : Option ℕ) {more : List ℕ} → Follows more
    → (t : List ℕ) × (s ≡ 47 ∷ t)
    × (tree_from p (Mode.walk w walk_start) (t ++ more)
    ≡ tree_from (with_part p w (leaf ls)) Mode.behind more)
path_in {s} {ls} r p w {more} f =
    let k = path_walk r in (
      k.tail,
      k.head,
      walk_in p w k.tail walk_start k.at k.reads more
          ∙ walk_ends p w k.at ls k.ends f,
    )

-- weights

whole_ends : (p : Place) (n k : ℕ) {more : List ℕ} → Follows more
    → tree_from p (Mode.whole n k) more ≡ tree_from p (Mode.weight (n * one_whole)) more
whole_ends p n k at_end = refl
whole_ends p n k (other {b = b} h) = rw (other-digit b h, other-point b h) refl

decimals_end : (p : Place) (n u : ℕ) {more : List ℕ} → Follows more
    → tree_from p (Mode.decimals n u) more ≡ tree_from p (Mode.weight n) more
decimals_end p n u at_end = refl
decimals_end p n u (other {b = b} h) = rw (other-digit b h) refl

whole_digits : {ds : List ℕ} → AreDigits ds → (p : Place) (n k : ℕ) → k + length ds ≤ 6
    → (more : List ℕ)
    → tree_from p (Mode.whole n k) (ds ++ more)
    ≡ tree_from p (Mode.whole (number n ds) (k + length ds)) more
whole_digits no_digit p n k few more = let e : k + 0 ≡ k = omega arith in
    ap (λ i. tree_from p (Mode.whole n i) more) (sym e)
whole_digits (digit {b = d} {s = ds} h r) p n k few more =
    let room : nat_lt k 6 ≡ true = lt-ltb k 6 (omega arith) in
    let e : (k + 1) + length ds ≡ k + suc (length ds) = omega arith in
    rw (h, room) (whole_digits r p (10 * n + (d - 48)) (k + 1) (omega arith) more
    ∙ ap (λ i. tree_from p (Mode.whole (number (10 * n + (d - 48)) ds) i) more) e)

decimal_digits : {ds : List ℕ} → AreDigits ds → (p : Place) (n u : ℕ) {more : List ℕ} → Follows more
    → tree_from p (Mode.decimals n u) (ds ++ more)
    ≡ tree_from p (Mode.weight (n + fraction u ds)) more
decimal_digits no_digit p n u {more} f = let e : n + 0 ≡ n = omega arith in
    decimals_end p n u f ∙ ap (λ i. tree_from p (Mode.weight i) more) (sym e)
decimal_digits (digit {b = d} {s = ds} h r) p n u {more} f =
    let e : (n + (d - 48) * u) + fraction (u / 10) ds ≡ n + ((d - 48) * u + fraction (u / 10) ds) =
    omega arith in
    rw h (decimal_digits r p (n + (d - 48) * u) (u / 10) f
    ∙ ap (λ i. tree_from p (Mode.weight i) more) e)

point_digits : {ds : List ℕ} → AreDigits ds → 1 ≤ length ds → (p : Place) (n : ℕ) {more : List ℕ}
    → Follows more
    → tree_from p (Mode.point n) (ds ++ more)
    ≡ tree_from p (Mode.weight (n + fraction 100000 ds)) more
point_digits no_digit some p n f = absurd (omega arith)
point_digits (digit {b = d} {s = ds} h r) some p n {more} f =
    let e : (n + (d - 48) * 100000) + fraction 10000 ds
    ≡ n + ((d - 48) * 100000 + fraction 10000 ds) = omega arith in
    rw h (decimal_digits r p (n + (d - 48) * 100000) 10000 f
    ∙ ap (λ i. tree_from p (Mode.weight i) more) e)

-- one digit or more at the start
start_digits : {ds : List ℕ} → AreDigits ds → 1 ≤ length ds → length ds ≤ 6
    → (p : Place) (more : List ℕ)
    → tree_from p Mode.start (ds ++ more) ≡ tree_from p (Mode.whole (number 0 ds) (length ds)) more
start_digits no_digit some few p more = absurd (omega arith)
start_digits (digit {b = d} {s = ds} h r) some few p more =
    let e : 10 * 0 + (d - 48) ≡ d - 48 = omega arith in
    let k : 1 + length ds ≡ suc (length ds) = omega arith in
    rw (digit-blank d h, h, e) (whole_digits r p (d - 48) 1 (omega arith) more
    ∙ ap (λ i. tree_from p (Mode.whole (number (d - 48) ds) i) more) k)

-- a point behind digits or none
to_point : {ds : List ℕ} → AreDigits ds → length ds ≤ 6 → (p : Place) (more : List ℕ)
    → tree_from p Mode.start (ds ++ 46 ∷ more)
    ≡ tree_from p (Mode.point (number 0 ds * one_whole)) more
to_point no_digit few p more = refl
to_point (digit {b = d} {s = ds} h r) few p more =
    start_digits (digit h r) (omega arith) few p (46 ∷ more)

pub weight_in : {s : List ℕ} {n : ℕ} → SpellsWeight s n → (p : Place) {more : List ℕ} → Follows more
    → tree_from p Mode.start (s ++ more) ≡ tree_from p (Mode.weight n) more
weight_in (whole {ds = ds} r some few) p {more} f =
    start_digits r some few p more ∙ whole_ends p (number 0 ds) (length ds) f
weight_in (decimal {ds = ds} {es = es} r few q some) p {more} f =
    rw (append_assoc, append_assoc) (to_point r few p (es ++ more)
    ∙ point_digits q some p (number 0 ds * one_whole) f)
