-- Lists of bytes: cuts at a byte, blanks at the ends, and texts without case.
use Rattle.std.proofs.Common.{◌≡◌, ◌↔◌, ℕ, Bool, true, false, List, length, take, refl, sym, ap}
use Rattle.std.proofs.Common.{◌∙◌, reverse, IsTrue, arith, ltb, ◌≤◌, Some, None, cond}
use Rattle.std.specs.List.{before_first, position_or_len, position}
use Rattle.std.proofs.lemmas.Bool.Decides.{nat_tests}
use Rattle.std.specs.Str.{bytes_eq}
use Rattle.std.proofs.lemmas.List.{take_all, reverse-reverse}
use Rattle.std.proofs.lemmas.Slice.Eq.{bytes_eq-Decides}
use Rattle.httparse.specs.Grammar.{skip_ows, trim_ows}
use Rattle.http_wire.specs.Fields.{same_ignoring_case, lower}

-- a test that holds exactly where two texts are alike without case
pub is_same_text : (r : Bool) (a b : List ℕ) → (IsTrue r ↔ (lower a ≡ lower b))
    → r ≡ same_ignoring_case a b
unfolding same_ignoring_case
is_same_text r a b test = by_cases r (bytes_eq (lower a) (lower b)) refl test
  where
    by_cases : (r s : Bool) → bytes_eq (lower a) (lower b) ≡ s → (IsTrue r ↔ (lower a ≡ lower b))
        → r ≡ bytes_eq (lower a) (lower b)
    by_cases true true is test = sym is
    by_cases true false is test = let bad =
        (bytes_eq-Decides (lower a) (lower b)).1 (test.0 refl) in cc
    by_cases false true is test = let bad = test.1 ((bytes_eq-Decides (lower a) (lower b)).0 is) in
        cc
    by_cases false false is test = sym is

-- the blanks at the two ends are cut one end after the other
pub trimmed_both : (bytes start both : List ℕ) → start ≡ skip_ows bytes
    → reverse both ≡ skip_ows (reverse start) → both ≡ trim_ows bytes
unfolding trim_ows
trimmed_both bytes start both front back = sym (reverse-reverse both)
    ∙ ap reverse (back ∙ ap (λ (xs : List ℕ). skip_ows (reverse xs)) front)

-- what stands before the first element that passes, by where it stands
pub before_at : (p : ℕ → Bool) (xs : List ℕ) (at : ℕ) → Some at ≡ position p xs
    → take at xs ≡ before_first p xs
before_at p xs at is = ap (λ (n : ℕ). take n xs) (found (ltb (position_or_len p xs) (length xs)) is)
  where
    found : (b : Bool) → Some at ≡ cond b (Some (position_or_len p xs)) None
        → at ≡ position_or_len p xs
    found true e = cc
    found false e = cc

-- where none passes, all stands before it
pub before_none : (p : ℕ → Bool) (xs : List ℕ) → None ≡ position p xs → xs ≡ before_first p xs
before_none p xs is =
    sym (take_all (position_or_len p xs) xs
    (missing (ltb (position_or_len p xs) (length xs)) refl is))
  where
    missing : (b : Bool) → ltb (position_or_len p xs) (length xs) ≡ b
        → None ≡ cond b (Some (position_or_len p xs)) None → length xs ≤ position_or_len p xs
    missing true test e = absurd (cc)
    missing false test e = grind (arith, nat_tests)
