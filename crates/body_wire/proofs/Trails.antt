-- Trailers, byte for byte.
use Rattle.std.proofs.Common.{◌≡◌, ℕ, ◌+◌, ◌<◌, ◌≤◌, List, [], ◌∷◌, ◌++◌, length, take, drop}
use Rattle.std.proofs.Common.{get_or, refl, sym, ap, ◌∙◌, arith, Option, Some, None}
use Rattle.std.specs.Prelude.{option_and_then}
use Rattle.std.proofs.lemmas.List.{length-take, take_more, take_all, take-append-le}
use Rattle.std.proofs.lemmas.List.{take-append-drop}
use Rattle.body_wire.specs.declared.trailers.LineAt.{LineAt}
use Rattle.body_wire.specs.Chunks.{line_after, line_behind}
use Rattle.body_wire.specs.Pieces.{EndsAt}

-- some bytes, and then others
pub behind_more : (at next : LineAt) (xs ys : List ℕ) → line_behind at xs ≡ Some next
    → line_behind at (xs ++ ys) ≡ line_behind next ys
behind_more at next [] ys is =
    ap (λ (o : Option LineAt). option_and_then (λ n. line_behind n ys) o) is
behind_more at next (x ∷ xs) ys is = by (λ n. behind_more n next xs ys) (line_after at x) is
  where
    by : ((n : LineAt) → line_behind n xs ≡ Some next
        → line_behind n (xs ++ ys) ≡ line_behind next ys) → (o : Option LineAt)
        → option_and_then (λ n. line_behind n xs) o ≡ Some next
        → option_and_then (λ n. line_behind n (xs ++ ys)) o ≡ line_behind next ys
    by more None is = cc
    by more (Some n) is = more n is

-- one byte more
pub behind_byte : (at next : LineAt) (xs : List ℕ) (b : ℕ) (o : Option LineAt)
    → line_behind at xs ≡ Some next → line_after next b ≡ o
    → line_behind at (xs ++ b ∷ []) ≡ o
behind_byte at next xs b o is after = behind_more at next xs (b ∷ []) is ∙ one (line_after next b)
    ∙ after
  where
    one : (p : Option LineAt) → option_and_then (λ n. line_behind n []) p ≡ p
    one None = refl
    one (Some n) = refl

pub goes_on : (at now next : LineAt) (bytes : List ℕ) (i : ℕ) → i < length bytes
    → line_behind at (take i bytes) ≡ Some now
    → Some next ≡ line_after now (get_or bytes i 0) → line_behind at (take (i + 1) bytes)
    ≡ Some next
goes_on at now next bytes i within is after =
    ap (line_behind at) (take_more bytes i 0 within)
    ∙ behind_byte at now (take i bytes) (get_or bytes i 0) (Some next) is (sym after)

pub ends_at : (at now : LineAt) (bytes : List ℕ) (i : ℕ) → i < length bytes
    → line_behind at (take i bytes) ≡ Some now
    → None ≡ line_after now (get_or bytes i 0) → EndsAt at bytes (i + 1)
ends_at at now bytes i within is after = record {
  front = take i bytes;
  last = get_or bytes i 0;
  place = now;
  some = omega arith;
  within = omega arith;
  taken = take_more bytes i 0 within;
  open_ = is;
  ended = ap (line_behind at) (take_more bytes i 0 within)
      ∙ behind_byte at now (take i bytes) (get_or bytes i 0) None is (sym after);
}

pub at_end : (at now : LineAt) (bytes : List ℕ) (i : ℕ) → length bytes ≤ i
    → line_behind at (take i bytes) ≡ Some now → line_behind at bytes ≡ Some now
at_end at now bytes i past is = ap (line_behind at) (sym (take_all i bytes past)) ∙ is

-- what ends in the front of some bytes ends in them
pub ends_within : (at : LineAt) (bytes : List ℕ) (run n : ℕ) → EndsAt at (take run bytes) n
    → EndsAt at bytes n
ends_within at bytes run n ends =
    let w = ends.within in
    let same : take n (take run bytes) ≡ take n bytes =
    sym (take-append-le n (take run bytes) (drop run bytes) w)
    ∙ ap (take n) (take-append-drop run bytes) in
    record {
      front = ends.front;
      last = ends.last;
      place = ends.place;
      some = ends.some;
      within = omega (arith, length-take run bytes);
      taken = sym same ∙ ends.taken;
      open_ = ends.open_;
      ended = ap (line_behind at) (sym same) ∙ ends.ended;
    }
