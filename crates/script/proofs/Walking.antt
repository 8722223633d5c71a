-- The words of a text, one after another, and the addresses that they are.
use Rattle.std.proofs.Common.{◌≡◌, ℕ, suc, ◌+◌, ◌<◌, ◌≤◌, ◌++◌, ◌⊎◌, inl, inr, List, [], ◌∷◌}
use Rattle.std.proofs.Common.{length, Bool, true, false, Option, Some, None, refl, sym, ap, subst}
use Rattle.std.proofs.Common.{◌∙◌, arith, append_assoc}
use Rattle.std.specs.Prelude.{option_map, if◌then◌else◌, nat_le}
use Rattle.std.proofs.lemmas.Bool.Decides.{nat_tests}
use Rattle.std.proofs.lemmas.List.{append-nil, length_push}
use Rattle.std.proofs.lemmas.List.Elements.{All-push, All-nil}
use Rattle.addr_book.specs.declared.addr.Weighted.{Weighted}
use Rattle.addr_book.specs.AddrList.{first_places, HaveWeights, IsWeight}
use Rattle.text_parts.specs.Lines.{joined}
use Rattle.text_parts.specs.Words.{is_gap, drop_gaps, behind_word, word_of}
use Rattle.script.specs.Words.{behind, goes_on, words_of, put_first, addrs_in, weighted_in, list_in}

-- a gap has no word
pub words_gap : (xs : List ℕ) → words_of (drop_gaps xs) ≡ words_of xs
words_gap [] = refl
words_gap (x ∷ xs) = more (words_gap xs) (is_gap x) refl
  where
    more : words_of (drop_gaps xs) ≡ words_of xs → (b : Bool) → is_gap x ≡ b
        → words_of (drop_gaps (x ∷ xs)) ≡ words_of (x ∷ xs)
    more rest true e = rw e rest
    more rest false e = rw e (rw e refl)

-- gaps are dropped once
drop_again : (xs : List ℕ) → drop_gaps (drop_gaps xs) ≡ drop_gaps xs
drop_again [] = refl
drop_again (x ∷ xs) = more (drop_again xs) (is_gap x) refl
  where
    more : drop_gaps (drop_gaps xs) ≡ drop_gaps xs → (b : Bool) → is_gap x ≡ b
        → drop_gaps (drop_gaps (x ∷ xs)) ≡ drop_gaps (x ∷ xs)
    more rest true e = rw e rest
    more rest false e = rw e (rw e refl)

pub length-gaps : (xs : List ℕ) → length (drop_gaps xs) ≤ length xs
length-gaps [] = omega arith
length-gaps (x ∷ xs) =
    let rest = length-gaps xs in
    elim (is_gap x) as (λ b. length (if b then drop_gaps xs else x ∷ xs) ≤ suc (length xs))
    [ true ↦ omega arith | false ↦ omega arith ]

pub length-behind : (xs : List ℕ) → length (behind_word xs) ≤ length xs
length-behind [] = omega arith
length-behind (x ∷ xs) =
    let rest = length-behind xs in
    elim (is_gap x) as (λ b. length (if b then x ∷ xs else behind_word xs) ≤ suc (length xs))
    [ true ↦ omega arith | false ↦ omega arith ]

-- what is left once its gaps are dropped begins with no gap
starts : (x : ℕ) (xs : List ℕ) → drop_gaps (x ∷ xs) ≡ x ∷ xs → is_gap x ≡ false
starts x xs h = more (is_gap x) refl
  where
    more : (b : Bool) → is_gap x ≡ b → is_gap x ≡ false
    more true e =
        let dropped : drop_gaps xs ≡ x ∷ xs = ap (λ b. if b then drop_gaps xs else x ∷ xs) (sym e)
        ∙ h in
        absurd (omega (arith, ap length dropped, length-gaps xs))
    more false e = e

cut_shorter : (x : ℕ) (xs : List ℕ) → is_gap x ≡ false → length (behind (x ∷ xs)) < length (x ∷ xs)
cut_shorter x xs e = rw e (omega (arith, length-gaps (behind_word xs), length-behind xs))

-- a text that begins with a word has that word first, and then the words behind it
pub words_cut : (x : ℕ) (xs : List ℕ) → is_gap x ≡ false
    → words_of (x ∷ xs) ≡ word_of (x ∷ xs) ∷ words_of (behind (x ∷ xs))
words_cut x [] e = rw e refl
words_cut x (y ∷ ys) e = more (λ g. words_cut y ys g) (is_gap y) refl
  where
    more : (is_gap y ≡ false → words_of (y ∷ ys) ≡ word_of (y ∷ ys) ∷ words_of (behind (y ∷ ys)))
        → (b : Bool) → is_gap y ≡ b
        → words_of (x ∷ y ∷ ys) ≡ word_of (x ∷ y ∷ ys) ∷ words_of (behind (x ∷ y ∷ ys))
    more rest true g = rw (e, g, g)
        (ap (λ (ws : List (List ℕ)). (x ∷ []) ∷ ws) (sym (words_gap ys)))
    more rest false g = rw e
        (ap (λ b. if b then joined x (words_of (y ∷ ys)) else (x ∷ []) ∷ words_of (y ∷ ys))
        (goes g) ∙ ap (joined x) (rest g))
      where
        goes : is_gap y ≡ false → goes_on (y ∷ ys) ≡ true
        goes g = rw g refl

-- addresses behind those that were read
abbrev pub onto : List Weighted → Option (List Weighted) → Option (List Weighted)
onto items more = option_map (λ others. items ++ others) more

onto_none : (items : List Weighted) (word : List ℕ) (words : List (List ℕ))
    → weighted_in word ≡ None → onto items (addrs_in (word ∷ words)) ≡ None
onto_none items word words e = ap (λ o. onto items (put_first o (addrs_in words))) e

onto_next : (items : List Weighted) (word : List ℕ) (words : List (List ℕ)) (item : Weighted)
    → weighted_in word ≡ Some item
    → onto (items ++ item ∷ []) (addrs_in words) ≡ onto items (addrs_in (word ∷ words))
onto_next items word words item e =
    elim (addrs_in words) as (λ o. onto (items ++ item ∷ []) o
    ≡ onto items (put_first (Some item) o)) [
      | None ↦ refl
      | Some others ↦ ap Some (append_assoc items (item ∷ []) others)
    ]
    ∙ ap (λ o. onto items (put_first o (addrs_in words))) (sym e)

onto_nothing : (o : Option (List Weighted)) → onto [] o ≡ o
onto_nothing None = refl
onto_nothing (Some others) = refl

-- these addresses were read of a text, and this is left of it
pub record Walks (text rest : List ℕ) (items : List Weighted) : Type 0 where
  pub starts : drop_gaps rest ≡ rest
  pub same : onto items (addrs_in (words_of rest)) ≡ addrs_in (words_of text)
  pub counted : length items + length (words_of rest) ≡ length (words_of text)
  pub few : length items ≤ 1024
  pub weights : HaveWeights items

pub walks_start : (text rest : List ℕ) (items : List Weighted) → rest ≡ drop_gaps text → items ≡ []
    → Walks text rest items
walks_start text rest items is none =
    let words : words_of rest ≡ words_of text = ap words_of is ∙ words_gap text in
    record {
      starts = ap drop_gaps is ∙ drop_again text ∙ sym is;
      same = ap (λ xs. onto xs (addrs_in (words_of rest))) none
          ∙ onto_nothing (addrs_in (words_of rest)) ∙ ap addrs_in words;
      counted = omega (arith, ap length none, ap length words);
      few = omega (arith, ap length none);
      weights = subst HaveWeights (sym none) (All-nil (λ item. IsWeight item.weight));
    }

module _ (text rest : List ℕ) (items : List Weighted) (w : Walks text rest items)
    (some : 0 < length rest) where
  next : (xs : List ℕ) → drop_gaps xs ≡ xs → 0 < length xs
      → words_of xs ≡ word_of xs ∷ words_of (behind xs)
  next [] h more = absurd (omega arith)
  next (x ∷ xs) h more = words_cut x xs (starts x xs h)

  shorter : (xs : List ℕ) → drop_gaps xs ≡ xs → 0 < length xs → length (behind xs) < length xs
  shorter [] h more = absurd (omega arith)
  shorter (x ∷ xs) h more = cut_shorter x xs (starts x xs h)

  first : words_of rest ≡ word_of rest ∷ words_of (behind rest)
  first = next rest w.starts some

  pub walks_on : (more : List ℕ) → more ≡ behind rest → length more < length rest
  walks_on more is = omega (arith, ap length is, shorter rest w.starts some)

  pub walks_full : length items ≡ 1024 → 1024 < length (words_of text)
  walks_full full = omega (arith, w.counted, ap length first)

  pub walks_bad : (word : List ℕ) → word ≡ word_of rest → weighted_in word ≡ None
      → addrs_in (words_of text) ≡ None
  walks_bad word is bad =
      sym w.same ∙ (ap (λ ws. onto items (addrs_in ws)) first
      ∙ onto_none items (word_of rest) (words_of (behind rest)) (ap weighted_in (sym is) ∙ bad))

  pub walks_next : (word more : List ℕ) (item : Weighted) (new : List Weighted)
      → word ≡ word_of rest → more ≡ behind rest → weighted_in word ≡ Some item
      → IsWeight item.weight
      → (length items ≡ 1024 → ⊥) → new ≡ items ++ item ∷ [] → Walks text more new
  walks_next word more item new is behind_is read weight room pushed =
      let words : words_of more ≡ words_of (behind rest) = ap words_of behind_is in
      record {
        starts = ap drop_gaps behind_is ∙ drop_again (behind_word rest) ∙ sym behind_is;
        same =
            ap (λ xs. onto xs (addrs_in (words_of more))) pushed
            ∙ ap (λ ws. onto (items ++ item ∷ []) (addrs_in ws)) words
            ∙ onto_next items (word_of rest) (words_of (behind rest)) item
            (ap weighted_in (sym is) ∙ read)
            ∙ ap (λ ws. onto items (addrs_in ws)) (sym first)
            ∙ w.same;
        counted = omega (
          arith,
          w.counted,
          ap length first,
          ap length words,
          ap length pushed,
          length_push items item,
        );
        few = omega (arith, w.few, room, ap length pushed, length_push items item);
        weights = subst HaveWeights (sym pushed)
            (All-push (λ i. IsWeight i.weight) items item w.weights weight);
      }

-- all of a text was read
pub walks_end : (text rest : List ℕ) (items : List Weighted) → Walks text rest items
    → length rest ≡ 0 → (addrs_in (words_of text) ≡ Some items) × (length (words_of text) ≤ 1024)
walks_end text [] items w none =
    (sym w.same ∙ ap Some (append-nil items), omega (arith, w.counted, w.few))
walks_end text (x ∷ rest) items w none = absurd (omega arith)

-- ---- the list of a line
pub list_some : (words : List (List ℕ)) (items : List Weighted) → length words ≤ 1024
    → addrs_in words ≡ Some items → list_in words ≡ Some (first_places items)
list_some words items few e =
    let small : nat_le (length words) 1024 ≡ true = grind (arith, nat_tests) in
    ap (λ b. if b then option_map first_places (addrs_in words) else None) small
    ∙ ap (option_map first_places) e

pub list_none : (words : List (List ℕ)) → (1024 < length words) ⊎ (addrs_in words ≡ None)
    → list_in words ≡ None
list_none words (inl many) =
    let large : nat_le (length words) 1024 ≡ false = grind (arith, nat_tests) in
    ap (λ b. if b then option_map first_places (addrs_in words) else None) large
list_none words (inr none) =
    ap (λ o. if nat_le (length words) 1024 then option_map first_places o else None) none
    ∙ elim (nat_le (length words) 1024) as (λ b. (if b then option_map first_places None else None)
    ≡ None) [ true ↦ refl | false ↦ refl ]
