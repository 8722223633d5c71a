-- What a look at the front of some bytes shows.
use Rattle.std.proofs.Common.{◌≡◌, ◌≢◌, ◌<◌, ℕ, Bool, false, List, [], ◌∷◌, ◌++◌, length, take}
use Rattle.std.proofs.Common.{refl, sym, ap, ◌∙◌, subst, arith, eqb, ltb, cond, ◌&&◌, inl, inr}
use Rattle.std.proofs.Common.{Option, Some, None, MatchOption, IsTrue, All, append_assoc, get_or}
use Rattle.std.specs.Prelude.{⊤}
use Rattle.std.specs.List.{position_or_len}
use Rattle.std.specs.Option.{option_map}
use Rattle.std.proofs.lemmas.Bool.Decides.{nat_tests}
use Rattle.std.proofs.lemmas.List.{take_all}
use Rattle.std.proofs.lemmas.List.Concat.{flat_map-cons}
use Rattle.std.proofs.lemmas.List.Elements.{All-append, All-cons, All-head, All-weaker}
use Rattle.std.proofs.lemmas.List.Sums.{position_or_len_is}
use Rattle.httparse.specs.Grammar.{LineEnd, crlf, lf, print_end, print_blank, is_token_byte}
use Rattle.httparse.specs.Grammar.{is_uri_byte, HasNoRequest, MayBecomeRequest, EndsInTarget}
use Rattle.http_wire.specs.FirstLine.{first_line, line_at, skip_empty_lines, ends_in_other_version}
use Rattle.http_wire.specs.Heads.{window, IsOpen, MayBecomeHead}

-- ---- a first line that has ended does not end inside a target

pub token_byte_low : (b : ℕ) → IsTrue (is_token_byte b) → (b ≢ 10) × (b ≢ 13)
unfolding is_token_byte
token_byte_low b token = (
  λ feed. cc (subst (λ (x : ℕ). IsTrue (is_token_byte x)) feed token),
  λ return. cc (subst (λ (x : ℕ). IsTrue (is_token_byte x)) return token),
)

pub uri_byte_low : (b : ℕ) → IsTrue (is_uri_byte b) → b ≢ 10
uri_byte_low b uri = λ feed. cc (subst (λ (x : ℕ). IsTrue (is_uri_byte x)) feed uri)

pub skip-feed : (bytes : List ℕ) → skip_empty_lines (10 ∷ bytes) ≡ skip_empty_lines bytes
skip-feed [] = refl
skip-feed (b ∷ bs) = refl

pub skip-blank : (blank : List LineEnd) (rest : List ℕ)
    → skip_empty_lines (print_blank blank ++ rest) ≡ skip_empty_lines rest
skip-blank [] rest = refl
skip-blank (crlf ∷ ends) rest =
    let cut : print_blank (crlf ∷ ends) ≡ 13 ∷ 10 ∷ print_blank ends =
    flat_map-cons print_end crlf ends in
    ap (λ (xs : List ℕ). skip_empty_lines (xs ++ rest)) cut ∙ skip-blank ends rest
skip-blank (lf ∷ ends) rest =
    let cut : print_blank (lf ∷ ends) ≡ 10 ∷ print_blank ends = flat_map-cons print_end lf ends in
    ap (λ (xs : List ℕ). skip_empty_lines (xs ++ rest)) cut
    ∙ (skip-feed (print_blank ends ++ rest) ∙ skip-blank ends rest)

-- a test of two numbers that differ
pub differ : (a b : ℕ) → a ≢ b → eqb a b ≡ false
differ a b other = grind (arith, nat_tests, other)

pub skip-other : (b : ℕ) (bytes : List ℕ) → b ≢ 10 → b ≢ 13
    → skip_empty_lines (b ∷ bytes) ≡ b ∷ bytes
skip-other b [] feed return = ap (λ (t : Bool). cond t [] (b ∷ [])) (differ b 10 feed)
skip-other b (c ∷ bytes) feed return =
    (λ i. cond (differ b 10 feed i) (skip_empty_lines (c ∷ bytes))
    (cond (differ b 13 return i && eqb c 10) (skip_empty_lines bytes) (b ∷ c ∷ bytes)))

-- where no byte is a line feed, no line has ended
pub no_line : (bytes : List ℕ) → All (λ b. b ≢ 10) bytes → line_at bytes ≡ None
no_line bytes other =
    let is_feed : ℕ → Bool = λ (b : ℕ). eqb b 10 in
    let last : position_or_len is_feed bytes ≡ length bytes =
    position_or_len_is is_feed bytes (length bytes) 0 (omega arith)
    (λ k within. differ (get_or bytes k 0) 10 (other k 0 within)) (λ past. absurd (omega arith)) in
    let test : ltb (position_or_len is_feed bytes) (length bytes) ≡ false =
    rw last (grind (arith, nat_tests)) in
    ap (λ (t : Bool). option_map (λ (at : ℕ). take at bytes)
    (cond t (Some (position_or_len is_feed bytes)) None)) test

-- bytes that end inside a target have no first line that has ended
in_target : (bytes : List ℕ) → EndsInTarget bytes → first_line bytes ≡ None
unfolding first_line
in_target bytes (blank, [], target, token, uri, is) = absurd (omega (arith, token.0))
in_target bytes (blank, (m ∷ ms), target, token, uri, is) =
    let low = token_byte_low m (All-head (λ b. IsTrue (is_token_byte b)) m ms token.1) in
    let text = m ∷ ms ++ 32 ∷ target in
    let grouped : print_blank blank ++ (m ∷ ms) ++ 32 ∷ target ≡ print_blank blank ++ text =
    append_assoc (print_blank blank) (m ∷ ms) (32 ∷ target) in
    let skipped : skip_empty_lines bytes ≡ text =
    ap skip_empty_lines (is ∙ grouped)
    ∙ (skip-blank blank text ∙ skip-other m (ms ++ 32 ∷ target) low.0 low.1) in
    let clean : All (λ b. b ≢ 10) text =
    All-append (λ b. b ≢ 10) (m ∷ ms) (32 ∷ target)
    (All-weaker (λ b. IsTrue (is_token_byte b)) (λ b. b ≢ 10) (λ b t. (token_byte_low b t).0)
    (m ∷ ms) token.1)
    (All-cons (λ b. b ≢ 10) 32 target (omega arith)
    (All-weaker (λ b. IsTrue (is_uri_byte b)) (λ b. b ≢ 10) uri_byte_low target uri)) in
    ap line_at skipped ∙ no_line text clean

-- ---- a head that has begun and not ended

-- where the first line has ended and names a served version, what is partial is open
pub partial_open : (bytes w line : List ℕ) → w ≡ window bytes → Some line ≡ first_line w
    → false ≡ ends_in_other_version line
    → HasNoRequest w → MayBecomeRequest w → IsOpen (window bytes)
partial_open bytes w line same first served none may = subst IsOpen same (open_at (may_become may))
  where
    may_become : MayBecomeRequest w → MayBecomeHead w
    may_become (inl more) = more
    may_become (inr inside) = let gone = in_target w inside in absurd (cc)

    open_at : MayBecomeHead w → IsOpen w
    open_at more =
        let P : Option (List ℕ) → Type 0 = λ o. MatchOption o ⊤
        (λ l. (ends_in_other_version l ≡ false) × HasNoRequest w × MayBecomeHead w) in
        subst P first (sym served, none, more)

-- fewer bytes than count all count
pub all_count : (n : ℕ) (bytes : List ℕ) → length bytes < n → bytes ≡ take n bytes
all_count n bytes few = sym (take_all n bytes (omega arith))
