-- The lines of a script, from where a line begins.
use Rattle.std.proofs.Common.{◌≡◌, ◌≢◌, ℕ, zero, suc, ◌+◌, ◌-◌, ◌<◌, ◌≤◌, ◌==◌, List, [], ◌∷◌}
use Rattle.std.proofs.Common.{length, take, drop, get_or, length-drop, get_or-drop, drop-drop, refl}
use Rattle.std.proofs.Common.{sym, ap, ◌∙◌, arith, true, false}
use Rattle.std.proofs.lemmas.Bool.Decides.{nat_tests}
use Rattle.std.proofs.lemmas.List.{take_all, take-take, length-take-le, get_or-take}
use Rattle.std.specs.Prelude.{slice_range, ◌&&◌, if◌then◌else◌, ◌⊎◌}
use Rattle.std.proofs.Common.{inl, inr}
use Rattle.text_parts.specs.Lines.{joined, begins_feed, lines_of}

-- a line without a carriage return at its end
abbrev pub stripped : List ℕ → List ℕ
stripped [] = []
stripped (b ∷ []) = if b == 13 then [] else b ∷ []
stripped (b ∷ c ∷ cs) = b ∷ stripped (c ∷ cs)

feed_begins : (xs : List ℕ) → 0 < length xs → get_or xs 0 0 ≡ 10 → begins_feed xs ≡ true
feed_begins [] some is = absurd (omega arith)
feed_begins (b ∷ bs) some is = let h : b ≡ 10 = is in grind (arith, nat_tests)

feed_begins_not : (xs : List ℕ) → 0 < length xs → (get_or xs 0 0 ≡ 10 → ⊥) → begins_feed xs ≡ false
feed_begins_not [] some is = absurd (omega arith)
feed_begins_not (b ∷ bs) some is = let h : b ≢ 10 = is in grind (arith, nat_tests)

pub plain_step : (b : ℕ) (xs : List ℕ) → (b == 10) ≡ false → begins_feed xs ≡ false
    → lines_of (b ∷ xs) ≡ joined b (lines_of xs)
plain_step b xs e f =
    rw (e, f) (elim (b == 13) as (λ t. (if t && false then lines_of xs else joined b (lines_of xs))
    ≡ joined b (lines_of xs)) [ true ↦ refl | false ↦ refl ])

last_step : (b : ℕ) (xs : List ℕ) (more : List (List ℕ)) → (b == 10) ≡ false
    → begins_feed xs ≡ true → lines_of xs ≡ [] ∷ more → lines_of (b ∷ xs) ≡ stripped (b ∷ []) ∷ more
last_step b xs more e f rest =
    rw (e, f, rest) (elim (b == 13) as (λ t.
    (if t && true then [] ∷ more else joined b ([] ∷ more)) ≡ (if t then [] else b ∷ []) ∷ more)
    [ true ↦ refl | false ↦ refl ])

-- a line that ends with a line feed
feed_line : (xs : List ℕ) (n : ℕ) → n < length xs → ((k : ℕ) → k < n → get_or xs k 0 ≡ 10 → ⊥)
    → get_or xs n 0 ≡ 10
    → lines_of xs ≡ stripped (take n xs) ∷ lines_of (drop (n + 1) xs)
feed_line [] n within none feed = absurd (omega arith)
feed_line (b ∷ bs) zero within none feed =
    let e : (b == 10) ≡ true = let h : b ≡ 10 = feed in grind (arith, nat_tests) in rw e refl
feed_line (b ∷ bs) (suc zero) within none feed =
    let e : (b == 10) ≡ false = let h : b ≢ 10 = none 0 (omega arith) in grind (arith, nat_tests) in
    last_step b bs (lines_of (drop 1 bs)) e (feed_begins bs (omega arith) feed)
    (feed_line bs 0 (omega arith) (λ k lt is. absurd (omega arith)) feed)
feed_line (b ∷ []) (suc (suc n)) within none feed = absurd (omega arith)
feed_line (b ∷ c ∷ cs) (suc (suc n)) within none feed =
    let e : (b == 10) ≡ false = let h : b ≢ 10 = none 0 (omega arith) in grind (arith, nat_tests) in
    let k : suc (suc n) + 1 ≡ suc (suc n + 1) = omega arith in
    let rest = feed_line (c ∷ cs) (suc n) (omega arith)
    (λ k lt is. none (suc k) (omega arith) is) feed in
    plain_step b (c ∷ cs) e (feed_begins_not (c ∷ cs) (omega arith) (none 1 (omega arith)))
    ∙ (ap (joined b) rest
    ∙ ap (λ (j : ℕ). (b ∷ stripped (take (suc n) (c ∷ cs))) ∷ lines_of (drop j (b ∷ c ∷ cs)))
    (sym k))

-- the last line, which lacks its line feed
last_line : (xs : List ℕ) → 0 < length xs → ((k : ℕ) → k < length xs → get_or xs k 0 ≡ 10 → ⊥)
    → lines_of xs ≡ xs ∷ []
last_line [] some none = absurd (omega arith)
last_line (b ∷ []) some none =
    let e : (b == 10) ≡ false = let h : b ≢ 10 = none 0 (omega arith) in
    grind (arith, nat_tests) in plain_step b [] e refl
last_line (b ∷ c ∷ cs) some none =
    let e : (b == 10) ≡ false = let h : b ≢ 10 = none 0 (omega arith) in grind (arith, nat_tests) in
    plain_step b (c ∷ cs) e (feed_begins_not (c ∷ cs) (omega arith) (none 1 (omega arith)))
    ∙ ap (joined b) (last_line (c ∷ cs) (omega arith) (λ k lt is. none (suc k) (omega arith) is))

stripped_cr : (xs : List ℕ) (n : ℕ) → length xs ≡ n + 1 → get_or xs n 0 ≡ 13
    → stripped xs ≡ take n xs
stripped_cr [] n long is = absurd (omega arith)
stripped_cr (b ∷ []) zero long is = let e : (b == 13) ≡ true = let h : b ≡ 13 = is in
    grind (arith, nat_tests) in rw e refl
stripped_cr (b ∷ []) (suc n) long is = absurd (omega arith)
stripped_cr (b ∷ c ∷ cs) zero long is = absurd (omega arith)
stripped_cr (b ∷ c ∷ cs) (suc n) long is =
    ap (λ (ys : List ℕ). b ∷ ys) (stripped_cr (c ∷ cs) n (omega arith) is)

stripped_none : (xs : List ℕ) → ((n : ℕ) → length xs ≡ n + 1 → get_or xs n 0 ≡ 13 → ⊥)
    → stripped xs ≡ xs
stripped_none [] none = refl
stripped_none (b ∷ []) none = let e : (b == 13) ≡ false = let h : b ≢ 13 = none 0 (omega arith) in
    grind (arith, nat_tests) in rw e refl
stripped_none (b ∷ c ∷ cs) none = ap (λ (ys : List ℕ). b ∷ ys)
    (stripped_none (c ∷ cs) (λ n long is. none (suc n) (omega arith) is))

module _ (text : List ℕ) (at end : ℕ) (some : at < length text) (behind : at ≤ end)
    (within : end ≤ length text)
    (none : (k : ℕ) → at ≤ k → k < end → get_or text k 0 ≡ 10 → ⊥) where
  none_here : (k : ℕ) → k < end - at → get_or (drop at text) k 0 ≡ 10 → ⊥
  none_here k lt is = none (at + k) (omega arith) (omega arith) (sym (get_or-drop at text k 0) ∙ is)

  pub cut_last : end ≡ length text → lines_of (drop at text)
      ≡ slice_range text at end ∷ lines_of (drop end text)
  cut_last last =
      let long : length (drop at text) ≡ end - at = omega (arith, length-drop at text) in
      last_line (drop at text) (omega arith) (λ k lt is. none_here k (omega arith) is)
      ∙ (ap (λ (xs : List ℕ). xs ∷ []) (sym (take_all (end - at) (drop at text) (omega arith)))
      ∙ ap (λ (xs : List ℕ). take (end - at) (drop at text) ∷ lines_of xs)
      (sym (empty_behind last)))
    where
      empty_behind : end ≡ length text → drop end text ≡ []
      empty_behind last = none_left (drop end text) (omega (arith, length-drop end text))
        where
          none_left : (xs : List ℕ) → length xs ≡ 0 → xs ≡ []
          none_left [] is = refl
          none_left (x ∷ xs) is = absurd (omega arith)

  pub cut_feed : (stop : ℕ) → end < length text → get_or text end 0 ≡ 10 → at ≤ stop
      → ((stop ≡ end) × ((at < end) → get_or text (end - 1) 0 ≡ 13 → ⊥))
      ⊎ ((stop + 1 ≡ end) × (get_or text stop 0 ≡ 13))
      → lines_of (drop at text) ≡ slice_range text at stop ∷ lines_of (drop (end + 1) text)
  cut_feed stop lt feed ahead is =
      let n = end - at in
      let long : length (drop at text) ≡ length text - at = length-drop at text in
      let there : at + (end - at) ≡ end = omega arith in
      let next : at + ((end - at) + 1) ≡ end + 1 = omega arith in
      feed_line (drop at text) (end - at) (omega arith) none_here
      (get_or-drop at text (end - at) 0 ∙ (ap (λ (j : ℕ). get_or text j 0) there ∙ feed))
      ∙ (ap (λ (xs : List ℕ). xs ∷ lines_of (drop ((end - at) + 1) (drop at text))) (line is)
      ∙ ap (λ (xs : List ℕ). slice_range text at stop ∷ lines_of xs)
      (drop-drop ((end - at) + 1) at text ∙ ap (λ (j : ℕ). drop j text) next))
    where
      taken : length (take (end - at) (drop at text)) ≡ end - at
      taken = length-take-le (end - at) (drop at text) (omega (arith, length-drop at text))

      line : ((stop ≡ end) × ((at < end) → get_or text (end - 1) 0 ≡ 13 → ⊥))
          ⊎ ((stop + 1 ≡ end) × (get_or text stop 0 ≡ 13))
          → stripped (take (end - at) (drop at text)) ≡ slice_range text at stop
      line (inl same) =
          stripped_none (take (end - at) (drop at text)) (λ n is cr.
          let k : n + 1 ≡ end - at = sym is ∙ taken in
          let e : at + n ≡ end - 1 = omega arith in
          same.1 (omega arith) (ap (λ (j : ℕ). get_or text j 0) (sym e)
          ∙ (sym (get_or-drop at text n 0)
          ∙ (sym (get_or-take (end - at) (drop at text) n 0 (omega arith)) ∙ cr))))
          ∙ ap (λ (j : ℕ). take (j - at) (drop at text)) (sym same.0)
      line (inr cr) =
          let n = stop - at in
          let e : at + (stop - at) ≡ stop = omega arith in
          stripped_cr (take (end - at) (drop at text)) (stop - at) (taken ∙ omega arith)
          (get_or-take (end - at) (drop at text) (stop - at) 0 (omega arith)
          ∙ (get_or-drop at text (stop - at) 0 ∙ (ap (λ (j : ℕ). get_or text j 0) e ∙ cr.1)))
          ∙ take-take (stop - at) (end - at) (drop at text) (omega arith)
