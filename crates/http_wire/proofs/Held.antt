-- The bytes that a room holds, as they are let go, moved and put.
use Rattle.std.proofs.Common.{◌≡◌, ◌≤◌, ℕ, ◌+◌, ◌-◌, List, [], ◌++◌, length, take, drop, refl, sym}
use Rattle.std.proofs.Common.{ap, ◌∙◌, arith, append_assoc, append-nil, length-append, length-drop}
use Rattle.std.proofs.Math.Seq.{take-append-add}
use Rattle.std.proofs.lemmas.List.{drop-append-le, drop-drop, drop-take, length-take}
use Rattle.std.proofs.lemmas.List.{take-append-drop, take_at}
use Rattle.std.specs.List.{slice_range}

-- the first bytes let go
pub skipped : (bytes : List ℕ) (at end n : ℕ) → n ≤ length (slice_range bytes at end)
    → slice_range bytes (at + n) end ≡ drop n (slice_range bytes at end)
skipped bytes at end n few =
    let left : n ≤ end - at =
    omega (arith, few, length-take (end - at) (drop at bytes), length-drop at bytes) in
    let whole : n + (end - (at + n)) ≡ end - at = omega arith in
    ap (take (end - (at + n))) (sym (drop-drop n at bytes))
    ∙ (sym (drop-take n (end - (at + n)) (drop at bytes))
    ∙ ap (λ (m : ℕ). drop n (take m (drop at bytes))) whole)

-- bytes that are written behind those that are held
pub put_behind : (bytes more tail : List ℕ) (at end : ℕ) → at ≤ end → end ≤ length bytes
    → slice_range (take end bytes ++ (more ++ tail)) at (end + length more)
    ≡ slice_range bytes at end ++ more
put_behind bytes more tail at end ordered within =
    let front : length (take end bytes) ≡ end = omega (arith, length-take end bytes) in
    let whole : at + (end - at) ≡ end = omega arith in
    let held : drop at (take end bytes) ≡ slice_range bytes at end =
    ap (λ (m : ℕ). drop at (take m bytes)) (sym whole) ∙ drop-take at (end - at) bytes in
    let cut : drop at (take end bytes ++ (more ++ tail))
    ≡ slice_range bytes at end ++ (more ++ tail) =
    drop-append-le at (take end bytes) (more ++ tail) (omega arith)
    ∙ ap (λ (xs : List ℕ). xs ++ (more ++ tail)) held in
    let long : length (slice_range bytes at end) ≡ end - at =
    omega (arith, length-take (end - at) (drop at bytes), length-drop at bytes) in
    let size : (end + length more) - at ≡ length (slice_range bytes at end) + length more =
    omega (arith, long) in
    (λ i. take (size i) (cut i))
    ∙ (take-append-add (slice_range bytes at end) (more ++ tail) (length more)
    ∙ ap (λ (xs : List ℕ). slice_range bytes at end ++ xs) (take_at more tail (length more) refl))

-- bytes that are written behind them leave them as they are
pub kept_before : (bytes more : List ℕ) (at end : ℕ) → at ≤ end → end ≤ length bytes
    → slice_range (take end bytes ++ more) at end ≡ slice_range bytes at end
kept_before bytes more at end ordered within =
    let none : List ℕ = [] in
    let same : end + length none ≡ end = omega arith in
    ap (slice_range (take end bytes ++ more) at) (sym same)
    ∙ (put_behind bytes none more at end ordered within ∙ append-nil (slice_range bytes at end))

-- some of the bytes that were written behind them
pub read_behind : (bytes given tail : List ℕ) (at end count : ℕ) → at ≤ end → end ≤ length bytes
    → count ≤ length given
    → slice_range (take end bytes ++ (given ++ tail)) at (end + count)
    ≡ slice_range bytes at end ++ take count given
read_behind bytes given tail at end count ordered within few =
    let some : length (take count given) ≡ count = omega (arith, length-take count given) in
    let cut : given ++ tail ≡ take count given ++ (drop count given ++ tail) =
    ap (λ (xs : List ℕ). xs ++ tail) (sym (take-append-drop count given))
    ∙ append_assoc (take count given) (drop count given) tail in
    (λ i. slice_range (take end bytes ++ cut i) at (end + sym some i))
    ∙ put_behind bytes (take count given) (drop count given ++ tail) at end ordered within

-- the bytes that are lent from a place on
pub lent_length : (bytes : List ℕ) (end most : ℕ) → end + most ≤ length bytes
    → length (take ((end + most) - end) (drop end bytes)) ≡ most
lent_length bytes end most within =
    omega (arith, length-take ((end + most) - end) (drop end bytes), length-drop end bytes)

-- writing into the middle leaves the length as it is
pub same_length : (bytes given : List ℕ) (end most : ℕ) → end + most ≤ length bytes
    → length given ≡ most
    → length (take end bytes ++ (given ++ drop ((end + most) - end) (drop end bytes)))
    ≡ length bytes
same_length bytes given end most within long =
    omega (
      arith,
      long,
      length-append (take end bytes) (given ++ drop ((end + most) - end) (drop end bytes)),
      length-append given (drop ((end + most) - end) (drop end bytes)),
      length-take end bytes,
      length-drop ((end + most) - end) (drop end bytes),
      length-drop end bytes,
    )
