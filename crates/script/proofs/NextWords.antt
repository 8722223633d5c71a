-- Words of a line, one after another, each of which stands for a value.
use Rattle.std.proofs.Common.{◌≡◌, ℕ, suc, ◌+◌, ◌≤◌, List, [], ◌∷◌, ◌++◌, length, Bool, true, false}
use Rattle.std.proofs.Common.{Option, Some, None, refl, sym, ap, ◌∙◌, subst, arith, append_assoc}
use Rattle.std.proofs.Common.{length-append}
use Rattle.std.specs.Prelude.{◌||◌, ◌==◌, if◌then◌else◌, All}
use Rattle.std.specs.Option.{option_and_then}
use Rattle.std.proofs.lemmas.List.Elements.{All-head, All-tail, All-nil, All-cons}
use Rattle.std.proofs.lemmas.Option.{same_Some, option_and_then_some}
use Rattle.text_parts.specs.Words.{is_gap, is_empty, drop_gaps, word_of, behind_word, single_word}
use Rattle.text_parts.specs.Words.{AreGaps, no_gap, gap}
use Rattle.text_parts.proofs.GapWords.{Lacks, lacks_none, lacks, all_gaps, GapsCut, gaps_cut}
use Rattle.text_parts.proofs.GapWords.{NoGapFirst, first_none, first_byte, gaps_gone, word_first}
use Rattle.text_parts.proofs.GapWords.{GapFirst, end_first, gap_first, gaps_first, some_gap_first}
use Rattle.text_parts.proofs.GapWords.{word_cut, behind_first, word_is, behind_is, append_none}
use Rattle.text_parts.proofs.GapWords.{none_left, single_is}
use Rattle.script.specs.Grammar.{NextWord, next}

pub lacks_from_all : (p : ℕ → Bool) (s : List ℕ) → All (λ b. p b ≡ false) s → Lacks p s
lacks_from_all p [] h = lacks_none
lacks_from_all p (b ∷ bs) h = lacks (All-head (λ x. p x ≡ false) b bs h)
    (lacks_from_all p bs (All-tail (λ x. p x ≡ false) b bs h))

pub all_from_lacks : (p : ℕ → Bool) {s : List ℕ} → Lacks p s → All (λ b. p b ≡ false) s
all_from_lacks p lacks_none = All-nil (λ b. p b ≡ false)
all_from_lacks p (lacks {b = b} {s = s} h r) =
    All-cons (λ b. p b ≡ false) b s h (all_from_lacks p r)

pub word_lacks : (text : List ℕ) → Lacks is_gap (word_of text)
word_lacks [] = lacks_none
word_lacks (b ∷ bs) = go (is_gap b) refl (word_lacks bs)
  where
    go : (t : Bool) → is_gap b ≡ t → Lacks is_gap (word_of bs)
        → Lacks is_gap (if t then [] else b ∷ word_of bs)
    go true h rest = lacks_none
    go false h rest = lacks h rest

pub dropped_first : (text : List ℕ) → NoGapFirst (drop_gaps text)
dropped_first [] = first_none
dropped_first (b ∷ bs) = go (is_gap b) refl (dropped_first bs)
  where
    go : (t : Bool) → is_gap b ≡ t → NoGapFirst (drop_gaps bs)
        → NoGapFirst (if t then drop_gaps bs else b ∷ bs)
    go true h rest = rest
    go false h rest = first_byte h

pub gaps_all : (text : List ℕ) → drop_gaps text ≡ [] → AreGaps text
gaps_all text none =
    let front = gaps_cut text in
    let all : text ≡ front.before = front.is
    ∙ (ap (λ (xs : List ℕ). front.before ++ xs) none ∙ append_none front.before) in
    subst AreGaps (sym all) front.gaps

-- a text that begins with one gap or more
pub record SomeGaps (text rest : List ℕ) : Type 0 where
  pub before : List ℕ
  pub gaps : AreGaps before
  pub some : 1 ≤ length before
  pub is : text ≡ before ++ rest

pub gaps_from : (text : List ℕ) → GapFirst text → 1 ≤ length (drop_gaps text)
    → SomeGaps text (drop_gaps text)
gaps_from [] end_first some = absurd (omega arith)
gaps_from (b ∷ bs) (gap_first h) some =
    let same : drop_gaps (b ∷ bs) ≡ drop_gaps bs = rw h refl in
    let rest = gaps_cut bs in
    subst (SomeGaps (b ∷ bs)) (sym same) (record {
      before = b ∷ rest.before;
      gaps = gap h rest.gaps;
      some = omega arith;
      is = ap (λ (xs : List ℕ). b ∷ xs) rest.is;
    })

not_empty : (w rest : List ℕ) → 1 ≤ length w → is_empty (w ++ rest) ≡ false
not_empty [] rest some = absurd (omega arith)
not_empty (b ∷ bs) rest some = refl

-- words are read as they are spelled
pub record Reads {V : Type 0} (read : List ℕ → Option V) (Word : List ℕ → V → Type 0) : Type 0 where
  pub gives : (w : List ℕ) (v : V) → Lacks is_gap w → read w ≡ Some v → Word w v
  pub reads : (w : List ℕ) (v : V) → Word w v → read w ≡ Some v
  pub lacks_gaps : (w : List ℕ) (v : V) → Word w v → Lacks is_gap w
  pub some : (w : List ℕ) (v : V) → Word w v → 1 ≤ length w

-- a text that begins with a gap and a word, and what is behind them
pub record Cut {V : Type 0} (Word : List ℕ → V → Type 0) (text rest : List ℕ) (v : V) : Type 0 where
  pub part : List ℕ
  pub spelled : NextWord Word part v
  pub is : text ≡ part ++ rest

-- a text with one word
pub record Last {V : Type 0} (Word : List ℕ → V → Type 0) (text : List ℕ) (v : V) : Type 0 where
  pub rest : List ℕ
  pub cut : Cut Word text rest v
  pub gaps : AreGaps rest

module _ {V : Type 0} {read : List ℕ → Option V} {Word : List ℕ → V → Type 0}
    (r : Reads read Word) where
  pub next_gives : (text : List ℕ) → GapFirst text → (v : V)
      → read (word_of (drop_gaps text)) ≡ Some v
      → Cut Word text (behind_word (drop_gaps text)) v
  next_gives text first v e =
      let rest = drop_gaps text in
      let word = r.gives (word_of rest) v (word_lacks rest) e in
      let some : 1 ≤ length (word_of rest) = r.some (word_of rest) v word in
      let parts : rest ≡ word_of rest ++ behind_word rest = word_cut rest in
      let more : 1 ≤ length rest =
      omega (arith, some, ap length parts, length-append (word_of rest) (behind_word rest)) in
      let cut = gaps_from text first more in
      record {
        part = cut.before ++ word_of rest;
        spelled = next cut.gaps cut.some word;
        is = cut.is ∙ (ap (λ (xs : List ℕ). cut.before ++ xs) parts
            ∙ sym (append_assoc cut.before (word_of rest) (behind_word rest)));
      }

  pub next_read : {part : List ℕ} {v : V} → NextWord Word part v → (rest : List ℕ) → GapFirst rest
      → (read (word_of (drop_gaps (part ++ rest))) ≡ Some v)
      × (behind_word (drop_gaps (part ++ rest)) ≡ rest)
  next_read (next {g = g} {w = w} {v = v} gaps some word) rest first =
      let bare = r.lacks_gaps w v word in
      let same : drop_gaps ((g ++ w) ++ rest) ≡ w ++ rest
      = ap drop_gaps (append_assoc g w rest)
      ∙ gaps_gone gaps (word_first bare (r.some w v word) rest) in (
        ap (λ (xs : List ℕ). read (word_of xs)) same
            ∙ (ap read (word_is bare first) ∙ r.reads w v word),
        ap behind_word same ∙ behind_is bare first,
      )

  pub next_first : {part : List ℕ} {v : V} → NextWord Word part v → (rest : List ℕ)
      → GapFirst (part ++ rest)
  next_first (next {g = g} {w = w} gaps some word) rest =
      subst GapFirst (sym (append_assoc g w rest)) (some_gap_first gaps some (w ++ rest))

  -- behind a gap and before what follows stands a word
  pub next_full : {part : List ℕ} {v : V} → NextWord Word part v → (rest : List ℕ)
      → is_empty (drop_gaps (part ++ rest)) ≡ false
  next_full (next {g = g} {w = w} {v = v} gaps some word) rest =
      let same : drop_gaps ((g ++ w) ++ rest) ≡ w ++ rest
      = ap drop_gaps (append_assoc g w rest)
      ∙ gaps_gone gaps (word_first (r.lacks_gaps w v word) (r.some w v word) rest) in
      ap is_empty same ∙ not_empty w rest (r.some w v word)

  pub last_gives : (text : List ℕ) → GapFirst text → (v : V)
      → option_and_then read (single_word text) ≡ Some v → Last Word text v
  last_gives text first v e =
      option_and_then_some read (single_word text) v e
      (λ w is k. go w k (is_empty (drop_gaps (behind_word (drop_gaps text)))) refl is)
    where
      go : (w : List ℕ) → read w ≡ Some v → (t : Bool)
          → is_empty (drop_gaps (behind_word (drop_gaps text))) ≡ t
          → (if t then Some (word_of (drop_gaps text)) else None) ≡ Some w → Last Word text v
      go w k true h is = record {
        rest = behind_word (drop_gaps text);
        cut = next_gives text first v (ap read (same_Some (word_of (drop_gaps text)) w is) ∙ k);
        gaps = gaps_all (behind_word (drop_gaps text))
            (none_left (drop_gaps (behind_word (drop_gaps text))) h);
      }
      go w k false h is = cc

  pub last_read : {part rest : List ℕ} {v : V} → NextWord Word part v → AreGaps rest
      → option_and_then read (single_word (part ++ rest)) ≡ Some v
  last_read {rest = rest} (next {g = g} {w = w} {v = v} gaps some word) more =
      ap (λ (xs : List ℕ). option_and_then read (single_word xs)) (append_assoc g w rest)
      ∙ (ap (option_and_then read) (single_is gaps (r.lacks_gaps w v word) (r.some w v word) more)
      ∙ r.reads w v word)
