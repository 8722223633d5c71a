-- Words of a line, with gaps between them.
use Rattle.std.proofs.Common.{◌≡◌, ℕ, ◌≤◌, List, [], ◌∷◌, ◌++◌, length, Bool, true, false, Some}
use Rattle.std.proofs.Common.{None, refl, ap, ◌∙◌, arith}
use Rattle.std.specs.Prelude.{if◌then◌else◌}
use Rattle.std.proofs.lemmas.Option.{same_Some}
use Rattle.text_parts.specs.Words.{is_gap, is_empty, drop_gaps, word_of, behind_word, single_word}
use Rattle.text_parts.specs.Words.{AreGaps, no_gap, gap}

-- no byte of a text passes a test
pub data Lacks (p : ℕ → Bool) : List ℕ → Type 0 where
  lacks_none : Lacks p []
  lacks : {b : ℕ} {s : List ℕ} → p b ≡ false → Lacks p s → Lacks p (b ∷ s)

pub lacks_append : (p : ℕ → Bool) {s t : List ℕ} → Lacks p s → Lacks p t → Lacks p (s ++ t)
lacks_append p lacks_none q = q
lacks_append p (lacks h r) q = lacks h (lacks_append p r q)

-- ---- gaps

pub gaps_append : {s t : List ℕ} → AreGaps s → AreGaps t → AreGaps (s ++ t)
gaps_append no_gap q = q
gaps_append (gap h r) q = gap h (gaps_append r q)

pub all_gaps : {s : List ℕ} → AreGaps s → drop_gaps s ≡ []
all_gaps no_gap = refl
all_gaps (gap h r) = rw h (all_gaps r)

-- a text and the gaps that it begins with
pub record GapsCut (text rest : List ℕ) : Type 0 where
  pub before : List ℕ
  pub gaps : AreGaps before
  pub is : text ≡ before ++ rest

pub gaps_cut : (text : List ℕ) → GapsCut text (drop_gaps text)
gaps_cut [] = record { before = []; gaps = no_gap; is = refl }
gaps_cut (b ∷ bs) = go (is_gap b) refl (gaps_cut bs)
  where
    go : (t : Bool) → is_gap b ≡ t → GapsCut bs (drop_gaps bs)
        → GapsCut (b ∷ bs) (if t then drop_gaps bs else b ∷ bs)
    go true h rest = record {
      before = b ∷ rest.before;
      gaps = gap h rest.gaps;
      is =
          ap (λ (xs : List ℕ). b ∷ xs) rest.is;
    }
    go false h rest = record { before = []; gaps = no_gap; is = refl }

-- a text that doesn't begin with a gap
pub data NoGapFirst : List ℕ → Type 0 where
  first_none : NoGapFirst []
  first_byte : {b : ℕ} {s : List ℕ} → is_gap b ≡ false → NoGapFirst (b ∷ s)

pub gaps_gone : {a s : List ℕ} → AreGaps a → NoGapFirst s → drop_gaps (a ++ s) ≡ s
gaps_gone no_gap first_none = refl
gaps_gone no_gap (first_byte h) = rw h refl
gaps_gone (gap h r) f = rw h (gaps_gone r f)

pub word_first : {w : List ℕ} → Lacks is_gap w → 1 ≤ length w → (s : List ℕ) → NoGapFirst (w ++ s)
word_first lacks_none some s = absurd (omega arith)
word_first (lacks h r) some s = first_byte h

-- ---- words

-- the end, or a gap
pub data GapFirst : List ℕ → Type 0 where
  end_first : GapFirst []
  gap_first : {b : ℕ} {s : List ℕ} → is_gap b ≡ true → GapFirst (b ∷ s)

pub gaps_first : {g : List ℕ} → AreGaps g → GapFirst g
gaps_first no_gap = end_first
gaps_first (gap h r) = gap_first h

pub some_gap_first : {g : List ℕ} → AreGaps g → 1 ≤ length g → (s : List ℕ) → GapFirst (g ++ s)
some_gap_first no_gap some s = absurd (omega arith)
some_gap_first (gap h r) some s = gap_first h

pub word_cut : (text : List ℕ) → text ≡ word_of text ++ behind_word text
word_cut [] = refl
word_cut (b ∷ bs) = go (is_gap b) (word_cut bs)
  where
    go : (t : Bool) → bs ≡ word_of bs ++ behind_word bs
        → b ∷ bs ≡ (if t then [] else b ∷ word_of bs) ++ (if t then b ∷ bs else behind_word bs)
    go true rest = refl
    go false rest = ap (λ (xs : List ℕ). b ∷ xs) rest

pub behind_first : (text : List ℕ) → GapFirst (behind_word text)
behind_first [] = end_first
behind_first (b ∷ bs) = go (is_gap b) refl (behind_first bs)
  where
    go : (t : Bool) → is_gap b ≡ t → GapFirst (behind_word bs)
        → GapFirst (if t then b ∷ bs else behind_word bs)
    go true h rest = gap_first h
    go false h rest = rest

pub word_is : {w s : List ℕ} → Lacks is_gap w → GapFirst s → word_of (w ++ s) ≡ w
word_is lacks_none end_first = refl
word_is lacks_none (gap_first h) = rw h refl
word_is (lacks {b = b} h r) f = rw h (ap (λ (xs : List ℕ). b ∷ xs) (word_is r f))

pub behind_is : {w s : List ℕ} → Lacks is_gap w → GapFirst s → behind_word (w ++ s) ≡ s
behind_is lacks_none end_first = refl
behind_is lacks_none (gap_first h) = rw h refl
behind_is (lacks h r) f = rw h (behind_is r f)

-- ---- the one word of a text

pub record InGaps (text word : List ℕ) : Type 0 where
  pub before : List ℕ
  pub behind : List ℕ
  pub gaps : AreGaps before
  pub more : AreGaps behind
  pub is : text ≡ before ++ (word ++ behind)

pub none_left : (xs : List ℕ) → is_empty xs ≡ true → xs ≡ []
none_left [] e = refl
none_left (x ∷ xs) e = cc

pub append_none : (s : List ℕ) → s ++ [] ≡ s
append_none [] = refl
append_none (b ∷ bs) = ap (λ (x : List ℕ). b ∷ x) (append_none bs)

pub single_cut : (text word : List ℕ) → single_word text ≡ Some word → InGaps text word
single_cut text word e = go (is_empty (drop_gaps (behind_word (drop_gaps text)))) refl e
  where
    go : (t : Bool) → is_empty (drop_gaps (behind_word (drop_gaps text))) ≡ t
        → (if t then Some (word_of (drop_gaps text)) else None) ≡ Some word → InGaps text word
    go true h k =
        let front = gaps_cut text in
        let tail = gaps_cut (behind_word (drop_gaps text)) in
        let none = none_left (drop_gaps (behind_word (drop_gaps text))) h in
        let rest : behind_word (drop_gaps text) ≡ tail.before
        = tail.is ∙ (ap (λ (xs : List ℕ). tail.before ++ xs) none ∙ append_none tail.before) in
        let words : drop_gaps text ≡ word ++ tail.before
        = word_cut (drop_gaps text)
        ∙ (ap (λ (xs : List ℕ). xs ++ behind_word (drop_gaps text))
        (same_Some (word_of (drop_gaps text)) word k)
        ∙ ap (λ (xs : List ℕ). word ++ xs) rest) in
        record {
          before = front.before;
          behind = tail.before;
          gaps = front.gaps;
          more = tail.gaps;
          is = front.is ∙ ap (λ (xs : List ℕ). front.before ++ xs) words;
        }
    go false h k = cc

single_of : (text w rest : List ℕ) → word_of text ≡ w → behind_word text ≡ rest
    → drop_gaps rest ≡ []
    → (if is_empty (drop_gaps (behind_word text)) then Some (word_of text) else None) ≡ Some w
single_of text w rest e f g = rw (f, g) (ap (λ (xs : List ℕ). Some xs) e)

pub single_is : {a w c : List ℕ} → AreGaps a → Lacks is_gap w → 1 ≤ length w → AreGaps c
    → single_word (a ++ (w ++ c)) ≡ Some w
single_is {a} {w} {c} before word some behind =
    ap (λ (xs : List ℕ). if is_empty (drop_gaps (behind_word xs)) then Some (word_of xs) else None)
    (gaps_gone before (word_first word some c))
    ∙ single_of (w ++ c) w c (word_is word (gaps_first behind))
    (behind_is word (gaps_first behind)) (all_gaps behind)

pub single_gap : (b : ℕ) (bs : List ℕ) → is_gap b ≡ true → single_word (b ∷ bs) ≡ single_word bs
single_gap b bs h =
    let same : drop_gaps (b ∷ bs) ≡ drop_gaps bs = rw h refl in
    ap (λ (xs : List ℕ). if is_empty (drop_gaps (behind_word xs)) then Some (word_of xs) else None)
    same
