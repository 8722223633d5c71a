-- The lines that are computed are those of the text.
use Rattle.std.proofs.Common.{◌≡◌, ◌≢◌, ℕ, ◌≤◌, List, [], ◌∷◌, ◌++◌, length, drop, get_or, Bool}
use Rattle.std.proofs.Common.{true, false, refl, sym, ap, ◌∙◌, subst, arith, true≢false}
use Rattle.std.specs.Prelude.{◌↔◌, ◌==◌, ◌&&◌, if◌then◌else◌}
use Rattle.std.proofs.lemmas.Bool.Decides.{nat_tests}
use Rattle.text_parts.specs.Lines.{joined, begins_feed, lines_of}
use Rattle.text_parts.specs.Lines.{HasNoFeed, no_byte, no_feed, EndsPlain, SpellsLines, no_line}
use Rattle.text_parts.specs.Lines.{last_line, line, returned_line}
use Rattle.text_parts.proofs.LineCuts.{plain_step}

no_ten : (b : ℕ) → b ≢ 10 → (b == 10) ≡ false
no_ten b h = grind (arith, nat_tests)

other_than : (b n : ℕ) → (b == n) ≡ false → b ≢ n
other_than b n h e = grind (arith, nat_tests)

same_as : (b n : ℕ) → (b == n) ≡ true → b ≡ n
same_as b n h = grind (arith, nat_tests)

-- ---- what is spelled is computed

-- a line of one byte more
longer : (b c : ℕ) (xs l : List ℕ) (ls : List (List ℕ)) → b ≢ 10 → c ≢ 10
    → lines_of (c ∷ xs) ≡ l ∷ ls → lines_of (b ∷ c ∷ xs) ≡ (b ∷ l) ∷ ls
longer b c xs l ls h k e = plain_step b (c ∷ xs) (no_ten b h) (no_ten c k) ∙ ap (joined b) e

to_feed : {l : List ℕ} → HasNoFeed l → EndsPlain l → (t : List ℕ)
    → lines_of (l ++ 10 ∷ t) ≡ l ∷ lines_of t
to_feed no_byte ends t = refl
to_feed (no_feed {b = b} h no_byte) ends t =
    let e : (b == 10) ≡ false = no_ten b h in
    let f : (b == 13) ≡ false = let k : b ≢ 13 = λ (i : b ≡ 13). ends [] (ap (λ x. x ∷ []) i) in
    grind (arith, nat_tests) in
    rw (e, f) refl
to_feed (no_feed {b = b} h (no_feed {b = c} {s = s} k r)) ends t =
    longer b c (s ++ 10 ∷ t) (c ∷ s) (lines_of t) h k
    (to_feed (no_feed k r) (λ front e. ends (b ∷ front) (ap (λ (xs : List ℕ). b ∷ xs) e)) t)

to_return : {l : List ℕ} → HasNoFeed l → (t : List ℕ) → lines_of (l ++ 13 ∷ 10 ∷ t) ≡ l ∷ lines_of t
to_return no_byte t = refl
to_return (no_feed {b = b} h no_byte) t =
    let k : 13 ≢ 10 = λ (i : 13 ≡ 10). omega (arith, i) in
    longer b 13 (10 ∷ t) [] (lines_of t) h k refl
to_return (no_feed {b = b} h (no_feed {b = c} {s = s} k r)) t =
    longer b c (s ++ 13 ∷ 10 ∷ t) (c ∷ s) (lines_of t) h k (to_return (no_feed k r) t)

to_end : {l : List ℕ} → HasNoFeed l → 1 ≤ length l → lines_of l ≡ l ∷ []
to_end no_byte some = absurd (omega arith)
to_end (no_feed {b = b} h no_byte) some = plain_step b [] (no_ten b h) refl
to_end (no_feed {b = b} h (no_feed {b = c} {s = s} k r)) some =
    longer b c s (c ∷ s) [] h k (to_end (no_feed k r) (omega arith))

lines_read : {text : List ℕ} {ls : List (List ℕ)} → SpellsLines text ls → lines_of text ≡ ls
lines_read no_line = refl
lines_read (last_line h some) = to_end h some
lines_read (line {l = l} {t = t} h ends r) = to_feed h ends t
    ∙ ap (λ (xs : List (List ℕ)). l ∷ xs) (lines_read r)
lines_read (returned_line {l = l} {t = t} h r) = to_return h t
    ∙ ap (λ (xs : List (List ℕ)). l ∷ xs) (lines_read r)

-- ---- what is computed is spelled

-- a byte more at the front, which ends no line
one_more : (b : ℕ) → b ≢ 10 → {bs : List ℕ} {ls : List (List ℕ)} → SpellsLines bs ls
    → (b == 13 && begins_feed bs) ≡ false → SpellsLines (b ∷ bs) (joined b ls)
one_more b h no_line f = last_line (no_feed h no_byte) (omega arith)
one_more b h (last_line r some) f = last_line (no_feed h r) (omega arith)
one_more b h (returned_line r q) f = returned_line (no_feed h r) q
one_more b h (line {l = l} {t = t} r ends q) f = line (no_feed h r) (plain l ends f) q
  where
    plain : (l : List ℕ) → EndsPlain l → (b == 13 && begins_feed (l ++ 10 ∷ t)) ≡ false
        → EndsPlain (b ∷ l)
    plain [] ends f [] e =
        let i : b ≡ 13 = ap (λ (xs : List ℕ). get_or xs 0 0) e in
        let both : (13 == 13 && true) ≡ false = subst (λ x. (x == 13 && true) ≡ false) i f in
        true≢false both
    plain (c ∷ cs) ends f [] e = let none : length (b ∷ c ∷ cs) ≡ 1 =
        ap (λ (xs : List ℕ). length xs) e in omega (arith, none)
    plain l ends f (x ∷ front) e = ends front (ap (λ (xs : List ℕ). drop 1 xs) e)

spelled : (text : List ℕ) → SpellsLines text (lines_of text)
spelled [] = no_line
spelled (b ∷ []) = go (b == 10) refl
  where
    go : (t : Bool) → (b == 10) ≡ t → SpellsLines (b ∷ [])
        (if t then [] ∷ [] else (if b == 13 && false then [] else joined b []))
    go true h = subst (λ x. SpellsLines (x ∷ []) ([] ∷ [])) (sym (same_as b 10 h))
        (line no_byte none no_line)
      where
        none : EndsPlain []
        none [] e = let k : 0 ≡ 1 = ap length e in omega (arith, k)
        none (x ∷ front) e = let k : 0 ≡ length ((x ∷ front) ++ 13 ∷ []) = ap length e in
            omega (arith, k)
    go false h =
        let f : (b == 13 && false) ≡ false =
        elim (b == 13) as (λ t. (t && false) ≡ false) [ true ↦ refl | false ↦ refl ] in
        rw f (one_more b (other_than b 10 h) no_line f)
spelled (b ∷ c ∷ cs) = go (b == 10) refl (b == 13 && c == 10) refl (spelled cs) (spelled (c ∷ cs))
  where
    none : EndsPlain []
    none [] e = let k : 0 ≡ 1 = ap length e in omega (arith, k)
    none (x ∷ front) e = let k : 0 ≡ length ((x ∷ front) ++ 13 ∷ []) = ap length e in
        omega (arith, k)

    parts : (s t : Bool) → (s && t) ≡ true → (s ≡ true) × (t ≡ true)
    parts true t e = (refl, e)
    parts false t e = cc

    go : (t : Bool) → (b == 10) ≡ t → (u : Bool) → (b == 13 && c == 10) ≡ u
        → SpellsLines cs (lines_of cs) → SpellsLines (c ∷ cs) (lines_of (c ∷ cs))
        → SpellsLines (b ∷ c ∷ cs)
        (if t then [] ∷ lines_of (c ∷ cs) else
        (if u then lines_of (c ∷ cs) else joined b (lines_of (c ∷ cs))))
    go true h u k below rest = subst (λ x. SpellsLines (x ∷ c ∷ cs) ([] ∷ lines_of (c ∷ cs)))
        (sym (same_as b 10 h)) (line no_byte none rest)
    go false h true k below rest =
        let both = parts (b == 13) (c == 10) k in
        let first : lines_of (c ∷ cs) ≡ [] ∷ lines_of cs = rw both.1 refl in
        subst (SpellsLines (b ∷ c ∷ cs)) (sym first)
        (subst (λ x. SpellsLines (x ∷ c ∷ cs) ([] ∷ lines_of cs)) (sym (same_as b 13 both.0))
        (subst (λ x. SpellsLines (13 ∷ x ∷ cs) ([] ∷ lines_of cs)) (sym (same_as c 10 both.1))
        (returned_line no_byte below)))
    go false h false k below rest = one_more b (other_than b 10 h) rest k

pub text_lines : (text : List ℕ) (ls : List (List ℕ)) → (lines_of text ≡ ls) ↔ SpellsLines text ls
text_lines text ls = (λ e. subst (SpellsLines text) e (spelled text), lines_read)
