-- The line of a size, written from its last digit on.
use Rattle.std.proofs.Common.{◌≡◌, ◌≢◌, ℕ, zero, suc, ◌+◌, ◌-◌, ◌/◌, ◌%◌, ◌<◌, ◌≤◌, Bool, true}
use Rattle.std.proofs.Common.{false, List, [], ◌∷◌, ◌++◌, length, drop, refl, sym, ap, ◌∙◌, subst}
use Rattle.std.proofs.Common.{arith, cond, eq-eqb, ne_eqb}
use Rattle.std.specs.Prelude.{◌==◌}
use Rattle.std.proofs.lemmas.List.{drop-set, drop_all}
use Rattle.std.proofs.Math.Seq.{drop-cons}
use Rattle.std.proofs.Common.{set, get_or, get_or-set_other, get_or-set_same, length-set}
use Rattle.std.specs.Fmt.{digits, digits_onto, digit_glyph}
use Rattle.httparse.specs.Ascii.{crlf_bytes}

-- the digits of `left`, at most so many, before `behind` make the line of `size`
unfoldable pub Writes : ℕ → ℕ → List ℕ → ℕ → Type 0
Writes start left behind size = digits_onto start 16 false left behind
    ≡ digits 16 false size ++ crlf_bytes

-- what stands behind the digits stays behind them
digits_behind : (k n : ℕ) (acc tail : List ℕ) → digits_onto k 16 false n (acc ++ tail)
    ≡ digits_onto k 16 false n acc ++ tail
digits_behind zero n acc tail = refl
digits_behind (suc k) n acc tail = by
    (digits_behind k (n / 16) (digit_glyph false (n % 16) ∷ acc) tail) (n / 16 == 0)
  where
    by : digits_onto k 16 false (n / 16) (digit_glyph false (n % 16) ∷ (acc ++ tail))
        ≡ digits_onto k 16 false (n / 16) (digit_glyph false (n % 16) ∷ acc) ++ tail
        → (b : Bool) → cond b (digit_glyph false (n % 16) ∷ (acc ++ tail))
        (digits_onto k 16 false (n / 16) (digit_glyph false (n % 16) ∷ (acc ++ tail)))
        ≡ cond b (digit_glyph false (n % 16) ∷ acc)
        (digits_onto k 16 false (n / 16) (digit_glyph false (n % 16) ∷ acc)) ++ tail
    by more true = refl
    by more false = more

pub begins : (n : ℕ) (behind : List ℕ) → behind ≡ crlf_bytes → Writes 64 n behind n
unfolding Writes digits
begins n behind is = ap (digits_onto 64 16 false n) is ∙ digits_behind 64 n [] crlf_bytes

-- the last digit of all
pub last_digit : (i n size : ℕ) (acc line : List ℕ) → 0 < i → n / 16 ≡ 0
    → line ≡ digit_glyph false (n % 16) ∷ acc → Writes i n acc size
    → line ≡ digits 16 false size ++ crlf_bytes
unfolding Writes
last_digit zero n size acc line some none is writes = absurd (omega arith)
last_digit (suc k) n size acc line some none is writes =
    is ∙ sym (ap (λ (b : Bool). cond b (digit_glyph false (n % 16) ∷ acc)
    (digits_onto k 16 false (n / 16) (digit_glyph false (n % 16) ∷ acc))) (eq-eqb _ 0 none))
    ∙ writes

-- one digit, with others before it
pub one_digit : (i n size : ℕ) (acc line : List ℕ) → 0 < i → n / 16 ≢ 0
    → line ≡ digit_glyph false (n % 16) ∷ acc → Writes i n acc size
    → Writes (i - 1) (n / 16) line size
unfolding Writes
one_digit zero n size acc line some more is writes = absurd (omega arith)
one_digit (suc k) n size acc line some more is writes =
    let less : suc k - 1 ≡ k = omega arith in
    ap (λ j. digits_onto j 16 false (n / 16) line) less ∙ ap (digits_onto k 16 false (n / 16)) is
    ∙ sym (ap (λ (b : Bool). cond b (digit_glyph false (n % 16) ∷ acc)
    (digits_onto k 16 false (n / 16) (digit_glyph false (n % 16) ∷ acc))) (ne_eqb _ 0 more))
    ∙ writes

-- the line end behind the digits
pub line_end : (line : List ℕ) → length line ≡ 66
    → drop 64 (set (set line 64 13) 65 10) ≡ crlf_bytes
line_end line long =
    let first = set line 64 13 in
    let all = set first 65 10 in
    let long_first : length first ≡ 66 = length-set line 64 13 ∙ long in
    let long_all : length all ≡ 66 = length-set first 65 10 ∙ long_first in
    let second : drop 65 all ≡ 10 ∷ drop 66 first = drop-set first 65 10 (omega arith) in
    let other : 64 ≢ 65 = omega arith in
    let got : get_or all 64 0 ≡ 13 = get_or-set_other first 65 64 10 0 other
    ∙ get_or-set_same line 64 13 0 (omega arith) in
    drop-cons all 64 0 (omega arith) ∙ ap (λ xs. get_or all 64 0 ∷ xs) second
    ∙ ap (λ x. x ∷ 10 ∷ drop 66 first) got
    ∙ ap (λ xs. 13 ∷ 10 ∷ xs) (drop_all 66 first (omega arith))

-- a digit before what is written
pub digit_before : (line : List ℕ) (start d : ℕ) → 0 < start → start ≤ length line
    → drop (start - 1) (set line (start - 1) d) ≡ d ∷ drop start line
digit_before line start d some within =
    let next : (start - 1) + 1 ≡ start = omega arith in
    drop-set line (start - 1) d (omega arith) ∙ ap (λ n. d ∷ drop n line) next

pub no_digits : (n size : ℕ) (behind : List ℕ) (start : ℕ) → start ≡ 0 → Writes start n behind size
    → behind ≡ digits 16 false size ++ crlf_bytes
unfolding Writes
no_digits n size behind start none writes =
    subst (λ i. digits_onto i 16 false n behind ≡ digits 16 false size ++ crlf_bytes) none writes
