-- The addresses and the table that a line ends with are read as they are spelled.
use Rattle.std.proofs.Common.{◌≡◌, ℕ, zero, suc, ◌+◌, ◌<◌, ◌≤◌, List, [], ◌∷◌, ◌++◌, length, Bool}
use Rattle.std.proofs.Common.{true, false, Option, Some, None, refl, sym, ap, ◌∙◌, subst, arith}
use Rattle.std.proofs.Common.{append_assoc, length-append}
use Rattle.std.specs.Prelude.{◌↔◌}
use Rattle.std.proofs.lemmas.Option.{same_Some}
use Rattle.name_tree.specs.Weight.{ComputesWeights}
use Rattle.dtab_table.specs.Rules.{Rule}
use Rattle.dtab_table.specs.Answers.{IsTable}
use Rattle.dtab_table.specs.Computed.{table_of, ComputesTables}
use Rattle.addr_book.specs.declared.addr.Weighted.{Weighted}
use Rattle.text_parts.specs.Words.{AreGaps}
use Rattle.text_parts.specs.Words.{is_gap, drop_gaps, word_of, behind_word}
use Rattle.text_parts.proofs.GapWords.{all_gaps, GapsCut, gaps_cut, NoGapFirst, first_none}
use Rattle.text_parts.proofs.GapWords.{first_byte, gaps_gone, word_first, GapFirst, gaps_first}
use Rattle.text_parts.proofs.GapWords.{some_gap_first, behind_first, append_none}
use Rattle.script.specs.Words.{behind, words_of, put_first, weighted_in, addrs_in}
use Rattle.script.specs.Grammar.{NextWord, next, SpellsItem, SpellsItems, no_item, more_items}
use Rattle.script.specs.Grammar.{SpellsRest, no_table, rest_table}
use Rattle.script.proofs.NextWords.{dropped_first, gaps_all, SomeGaps, gaps_from, Reads, Cut}
use Rattle.script.proofs.NextWords.{next_gives, next_read, next_first}
use Rattle.script.proofs.Tables.{nothing}
use Rattle.script.proofs.Walking.{words_gap, words_cut, length-gaps, length-behind}
use Rattle.script.proofs.WordTexts.{items}

-- ---- tables

module _ (tables : ComputesTables table_of) where
  pub rest_gives : (text : List ℕ) → GapFirst text → (rules : List Rule)
      → table_of (drop_gaps text) ≡ Some rules → SpellsRest text rules
  rest_gives text first rules e = go (drop_gaps text) refl (dropped_first text) e
    where
      go : (left : List ℕ) → drop_gaps text ≡ left → NoGapFirst left → table_of left ≡ Some rules
          → SpellsRest text rules
      go [] same none f =
          let empty : [] ≡ rules = same_Some [] rules (sym nothing ∙ f) in
          subst (SpellsRest text) empty (no_table (gaps_all text same))
      go (b ∷ bs) same (first_byte h) f =
          let more : 1 ≤ length (drop_gaps text) = omega (arith, ap length same) in
          let cut = gaps_from text first more in
          let whole : text ≡ cut.before ++ b ∷ bs =
          cut.is ∙ ap (λ (xs : List ℕ). cut.before ++ xs) same in
          let spelled : SpellsRest (cut.before ++ b ∷ bs) rules =
          rest_table cut.gaps cut.some h ((tables (b ∷ bs) rules).0 f) in
          subst (λ (xs : List ℕ). SpellsRest xs rules) (sym whole) spelled

  pub rest_read : {text : List ℕ} {rules : List Rule} → SpellsRest text rules
      → table_of (drop_gaps text) ≡ Some rules
  rest_read (no_table gaps) = ap table_of (all_gaps gaps) ∙ nothing
  rest_read (rest_table {t = t} {b = b} {rules = rules} gaps some h value) =
      ap table_of (gaps_gone gaps (first_byte h)) ∙ (tables (b ∷ t) rules).1 value

pub rest_first : {text : List ℕ} {rules : List Rule} → SpellsRest text rules → GapFirst text
rest_first (no_table gaps) = gaps_first gaps
rest_first (rest_table {t = t} {b = b} gaps some h value) = some_gap_first gaps some (b ∷ t)

-- ---- addresses

pub items_first : {text : List ℕ} {list : List Weighted} → SpellsItems text list → GapFirst text
items_first (no_item gaps) = gaps_first gaps
items_first (more_items {t = t} (next {g = g} {w = w} gaps some word) more) =
    subst GapFirst (sym (append_assoc g w t)) (some_gap_first gaps some (w ++ t))

first_word : (text : List ℕ) → NoGapFirst text → 1 ≤ length text
    → words_of text ≡ word_of text ∷ words_of (behind text)
first_word [] none some = absurd (omega arith)
first_word (b ∷ bs) (first_byte h) some = words_cut b bs h

behind_shorter : (text : List ℕ) → NoGapFirst text → 1 ≤ length text
    → length (behind_word text) < length text
behind_shorter [] none some = absurd (omega arith)
behind_shorter (b ∷ bs) (first_byte h) some = rw h (omega (arith, length-behind bs))

nothing_left : (xs : List ℕ) → length xs ≤ 0 → xs ≡ []
nothing_left [] few = refl
nothing_left (x ∷ xs) few = absurd (omega arith)

record Split (item : Option Weighted) (more : Option (List Weighted))
    (list : List Weighted) : Type 0 where
  pub first : Weighted
  pub others : List Weighted
  pub item_is : item ≡ Some first
  pub more_is : more ≡ Some others
  pub list_is : first ∷ others ≡ list

split : (item : Option Weighted) (more : Option (List Weighted)) (list : List Weighted)
    → put_first item more ≡ Some list → Split item more list
split None more list e = cc
split (Some first) None list e = cc
split (Some first) (Some others) list e =
    record {
      first = first;
      others = others;
      item_is = refl;
      more_is = refl;
      list_is =
          same_Some (first ∷ others) list e;
    }

put : (item : Option Weighted) (more : Option (List Weighted)) (first : Weighted)
    (others : List Weighted) → item ≡ Some first → more ≡ Some others
    → put_first item more ≡ Some (first ∷ others)
put item more first others e f = rw (e, f) refl

pub record Listed (text : List ℕ) (list : List Weighted) : Type 0 where
  pub spelled : SpellsItems text list
  pub counted : length (words_of text) ≡ length list

pub record Read (text : List ℕ) (list : List Weighted) : Type 0 where
  pub value : addrs_in (words_of text) ≡ Some list
  pub counted : length (words_of text) ≡ length list

module _ (weights : ComputesWeights) where
  -- the words of a text, whose first is at the front of what is behind its gaps
  module _ (text : List ℕ) (some : 1 ≤ length (drop_gaps text)) where
    words : words_of text ≡ word_of (drop_gaps text) ∷ words_of (behind_word (drop_gaps text))
    words =
        sym (words_gap text) ∙ (first_word (drop_gaps text) (dropped_first text) some
        ∙ ap (λ (ws : List (List ℕ)). word_of (drop_gaps text) ∷ ws)
        (words_gap (behind_word (drop_gaps text))))

    left : length (behind_word (drop_gaps text)) < length text
    left = omega (
      arith,
      length-gaps text,
      behind_shorter (drop_gaps text) (dropped_first text) some,
    )

    more_listed : (list : List Weighted) → GapFirst text → addrs_in (words_of text) ≡ Some list
        → ((others : List Weighted) → addrs_in (words_of (behind_word (drop_gaps text)))
        ≡ Some others → Listed (behind_word (drop_gaps text)) others) → Listed text list
    more_listed list first e rest =
        let parts = split (weighted_in (word_of (drop_gaps text)))
        (addrs_in (words_of (behind_word (drop_gaps text)))) list (sym (ap addrs_in words) ∙ e) in
        let cut = next_gives (items weights) text first parts.first parts.item_is in
        let others = rest parts.others parts.more_is in
        let spelled : SpellsItems text (parts.first ∷ parts.others)
        = subst (λ (xs : List ℕ). SpellsItems xs (parts.first ∷ parts.others)) (sym cut.is)
        (more_items cut.spelled others.spelled) in
        record {
          spelled = subst (SpellsItems text) parts.list_is spelled;
          counted = omega (arith, ap length words, others.counted, ap length parts.list_is);
        }

  none_listed : (text : List ℕ) → drop_gaps text ≡ [] → (list : List Weighted)
      → addrs_in (words_of text) ≡ Some list → Listed text list
  none_listed text none list e =
      let words : words_of text ≡ [] = sym (words_gap text) ∙ ap words_of none in
      let empty : [] ≡ list = same_Some [] list (sym (ap addrs_in words) ∙ e) in
      record {
        spelled = subst (SpellsItems text) empty (no_item (gaps_all text none));
        counted =
            ap length words ∙ ap length empty;
      }

  items_within : (n : ℕ) (text : List ℕ) → length text ≤ n → GapFirst text → (list : List Weighted)
      → addrs_in (words_of text) ≡ Some list → Listed text list
  items_within zero text few first list e =
      none_listed text (nothing_left (drop_gaps text) (omega (arith, few, length-gaps text))) list e
  items_within (suc n) text few first list e =
      go (drop_gaps text) refl
      (λ lt others f. items_within n (behind_word (drop_gaps text)) (omega (arith, few, lt))
      (behind_first (drop_gaps text)) others f)
    where
      go : (xs : List ℕ) → drop_gaps text ≡ xs
          → (length (behind_word (drop_gaps text)) < length text → (others : List Weighted)
          → addrs_in (words_of (behind_word (drop_gaps text))) ≡ Some others
          → Listed (behind_word (drop_gaps text)) others)
          → Listed text list
      go [] none rest = none_listed text none list e
      go (b ∷ bs) same rest =
          let some : 1 ≤ length (drop_gaps text) = omega (arith, ap length same) in
          more_listed text some list first e (rest (left text some))

  pub items_give : (text : List ℕ) → GapFirst text → (list : List Weighted)
      → addrs_in (words_of text) ≡ Some list → Listed text list
  items_give text first list e = items_within (length text) text (omega arith) first list e

  pub items_read : {text : List ℕ} {list : List Weighted} → SpellsItems text list → Read text list
  items_read {text} (no_item gaps) =
      let words : words_of text ≡ [] = sym (words_gap text) ∙ ap words_of (all_gaps gaps) in
      record { value = ap addrs_in words; counted = ap length words }
  items_read (more_items {s = s} {t = t} {item = item} {items = list} word more) =
      let rest = items_read more in
      let read = next_read (items weights) word t (items_first more) in
      let some : 1 ≤ length (drop_gaps (s ++ t)) = dropped_some word t in
      let all : words_of (s ++ t) ≡ word_of (drop_gaps (s ++ t)) ∷ words_of t
      = words (s ++ t) some ∙ ap (λ (xs : List ℕ). word_of (drop_gaps (s ++ t)) ∷ words_of xs)
      read.1 in
      record {
        value = ap addrs_in all ∙ put (weighted_in (word_of (drop_gaps (s ++ t))))
            (addrs_in (words_of t)) item list read.0 rest.value;
        counted = ap length all ∙ ap suc rest.counted;
      }
    where
      dropped_some : {s : List ℕ} {item : Weighted} → NextWord SpellsItem s item → (t : List ℕ)
          → 1 ≤ length (drop_gaps (s ++ t))
      dropped_some (next {g = g} {w = w} {v = v} gaps some word) t =
          let r = items weights in
          let bare = r.lacks_gaps w v word in
          let least : 1 ≤ length w = r.some w v word in
          let same : drop_gaps ((g ++ w) ++ t) ≡ w ++ t = ap drop_gaps (append_assoc g w t)
          ∙ gaps_gone gaps (word_first bare least t) in
          omega (arith, least, ap length same, length-append w t)
