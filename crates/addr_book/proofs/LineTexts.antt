-- The lines of address files that are computed are those that the grammar spells.
use Rattle.std.proofs.Common.{◌≡◌, ℕ, ◌+◌, ◌≤◌, List, [], ◌∷◌, ◌++◌, length, Bool, true, false}
use Rattle.std.proofs.Common.{Option, Some, None, refl, sym, ap, ◌∙◌, subst, arith, append_assoc}
use Rattle.std.proofs.Common.{length-append}
use Rattle.std.specs.Prelude.{◌↔◌, ◌==◌, if◌then◌else◌, codes}
use Rattle.std.specs.Option.{option_and_then}
use Rattle.std.proofs.lemmas.Bool.Decides.{nat_tests}
use Rattle.std.proofs.lemmas.Option.{same_Some, option_and_then_some}
use Rattle.name_tree.specs.Value.{one_whole}
use Rattle.name_tree.specs.Grammar.{is_digit, AreDigits, no_digit, digit, SpellsWeight, whole}
use Rattle.name_tree.specs.Grammar.{decimal}
use Rattle.name_tree.specs.Weight.{weight_of, ComputesWeights}
use Rattle.addr_book.specs.declared.addr.Addr.{Addr}
use Rattle.addr_book.specs.declared.addr.Weighted.{Weighted}
use Rattle.addr_book.specs.declared.file_line.FileLine.{FileLine}
use Rattle.addr_book.specs.declared.file_line.FileLine.TheVariants.{Blank, Item, Bad}
use Rattle.addr_book.specs.Addr.{host_value, port_value, addr_of}
use Rattle.text_parts.specs.Words.{is_gap, is_empty, drop_gaps, word_of, behind_word, single_word}
use Rattle.text_parts.specs.Words.{AreGaps, no_gap, gap}
use Rattle.text_parts.proofs.Cuts.{ByteCut, byte_cut, before_first, before_all, behind_all}
use Rattle.text_parts.proofs.Cuts.{before_at, behind_at}
use Rattle.addr_book.specs.AddrGrammar.{SpellsHost, SpellsPort, SpellsShare, whole_share, share}
use Rattle.addr_book.specs.AddrGrammar.{AddrText, addr}
use Rattle.addr_book.specs.FileLine.{before_star, behind_star, some_weight, line_weight, item_line}
use Rattle.addr_book.specs.FileLine.{behind_host, words_value, line_value}
use Rattle.text_parts.proofs.GapWords.{Lacks, lacks_none, lacks, lacks_append, gaps_append}
use Rattle.text_parts.proofs.GapWords.{all_gaps, GapsCut, gaps_cut, gaps_gone, word_first, GapFirst}
use Rattle.text_parts.proofs.GapWords.{end_first, gap_first, some_gap_first, word_cut, behind_first}
use Rattle.text_parts.proofs.GapWords.{word_is, behind_is, InGaps, append_none, none_left}
use Rattle.text_parts.proofs.GapWords.{single_cut, single_is, single_gap}
use Rattle.addr_book.proofs.Stars.{is_star, gap_no_star, gaps_lack_stars}
use Rattle.addr_book.proofs.HostTexts.{host_read, port_read, hosts, ports, port_lacks, some_port}
use Rattle.addr_book.proofs.HostTexts.{digit_no_gap, host_no_gaps, some_host}

-- ---- weights

digits_lack_gaps : {s : List ℕ} → AreDigits s → Lacks is_gap s
digits_lack_gaps no_digit = lacks_none
digits_lack_gaps (digit {b = b} h r) = lacks (digit_no_gap b h) (digits_lack_gaps r)

pub weight_lacks : {s : List ℕ} {n : ℕ} → SpellsWeight s n → Lacks is_gap s
weight_lacks (whole r some few) = digits_lack_gaps r
weight_lacks (decimal r few q some) =
    let point : Lacks is_gap (codes ".") = lacks refl lacks_none in
    lacks_append is_gap (lacks_append is_gap (digits_lack_gaps r) point) (digits_lack_gaps q)

pub some_weight_text : {s : List ℕ} {n : ℕ} → SpellsWeight s n → 1 ≤ length s
some_weight_text (whole r some few) = some
some_weight_text (decimal {ds = ds} {es = es} r few q some) =
    omega (arith, length-append (ds ++ codes ".") es)

pub weight_gives : (n v : ℕ) → some_weight n ≡ Some v → (n ≡ v) × (1 ≤ v)
weight_gives n v e = go (n == 0) refl e
  where
    go : (t : Bool) → (n == 0) ≡ t → (if t then None else Some n) ≡ Some v → (n ≡ v) × (1 ≤ v)
    go true h f = cc
    go false h f =
        let some : 1 ≤ n = grind (arith, nat_tests) in
        let same = same_Some n v f in
        (same, subst (λ m. 1 ≤ m) same some)

pub weight_stays : (n : ℕ) → 1 ≤ n → some_weight n ≡ Some n
weight_stays n some = let e : (n == 0) ≡ false = grind (arith, nat_tests) in rw e refl

-- ---- what a line's parts tell

pub record Parts (host port weight : Option ℕ) (item : Weighted) : Type 0 where
  pub ip : ℕ
  pub number : ℕ
  pub millionths : ℕ
  pub host_is : host ≡ Some ip
  pub port_is : port ≡ Some number
  pub weight_is : weight ≡ Some millionths
  pub item_is : record { addr = record { ip = ip; port = number }; weight = millionths } ≡ item

abbrev item_or : Weighted → FileLine → Weighted
item_or other (Item item) = item
item_or other _ = other

parts_give : (host port weight : Option ℕ) (item : Weighted)
    → item_line (addr_of host port) weight ≡ Item item → Parts host port weight item
parts_give None port weight item e = cc
parts_give (Some ip) None weight item e = cc
parts_give (Some ip) (Some number) None item e = cc
parts_give (Some ip) (Some number) (Some millionths) item e =
    record {
      ip = ip;
      number = number;
      millionths = millionths;
      host_is = refl;
      port_is = refl;
      weight_is = refl;
      item_is = ap (item_or item) e;
    }

parts_read : (host port weight : Option ℕ) (ip number millionths : ℕ) → host ≡ Some ip
    → port ≡ Some number → weight ≡ Some millionths
    → item_line (addr_of host port) weight
    ≡ Item (record { addr = record { ip = ip; port = number }; weight = millionths })
parts_read host port weight ip number millionths e f g = rw (e, f, g) refl

never_blank : (host : Option Addr) (weight : Option ℕ) → item_line host weight ≡ Blank → ⊥
never_blank None weight e = cc
never_blank (Some host) None e = cc
never_blank (Some host) (Some weight) e = cc

nest : (g p b x y z : List ℕ) → (g ++ (p ++ b)) ++ 42 ∷ (x ++ (y ++ z))
    ≡ g ++ (p ++ (b ++ ((42 ∷ (x ++ y)) ++ z)))
nest g p b x y z = simp append_assoc refl

nest_all : (a h g p b s c : List ℕ) → a ++ h ++ g ++ p ++ b ++ s ++ c
    ≡ a ++ (h ++ (g ++ (p ++ (b ++ (s ++ c)))))
nest_all a h g p b s c = simp append_assoc refl

digit_no_star : (b : ℕ) → is_digit b ≡ true → is_star b ≡ false
digit_no_star b h = grind (arith, nat_tests)

-- what follows a host
data AfterHost : List ℕ → ℕ → ℕ → Type 0 where
  after : {g p b s c : List ℕ} {number weight : ℕ} → AreGaps g → 1 ≤ length g → SpellsPort p number
      → AreGaps b → SpellsShare s weight → AreGaps c
      → AfterHost (g ++ (p ++ (b ++ (s ++ c)))) number weight

spelled : {a h rest : List ℕ} {ip number weight : ℕ} → AreGaps a → SpellsHost h ip
    → AfterHost rest number weight
    → AddrText (a ++ (h ++ rest))
    (record { addr = record { ip = ip; port = number }; weight = weight })
spelled {a} {h} {ip = ip} {number = number} {weight = weight} ga hh
    (after {g = g} {p = p} {b = b} {s = s} {c = c} gg some pp gb ss gc) =
    subst (λ (xs : List ℕ). AddrText xs
    (record { addr = record { ip = ip; port = number }; weight = weight }))
    (nest_all a h g p b s c) (addr ga hh gg some pp gb ss gc)

-- the text behind a `*`
pub record Weighs (text : List ℕ) (n : ℕ) : Type 0 where
  pub word : List ℕ
  pub around : InGaps text word
  pub spells : SpellsWeight word n
  pub some : 1 ≤ n

host_words : (text h rest : List ℕ) → is_empty text ≡ false → word_of text ≡ h
    → behind_word text ≡ rest → words_value text ≡ behind_host h rest
host_words text h rest e f g = rw (e, f, g) refl

not_empty : (h rest : List ℕ) → 1 ≤ length h → is_empty (h ++ rest) ≡ false
not_empty [] rest some = absurd (omega arith)
not_empty (b ∷ bs) rest some = refl

module _ (weights : ComputesWeights) where
  -- ---- what is computed is spelled

  pub weighs : (text : List ℕ) (n : ℕ) → line_weight (Some text) ≡ Some n → Weighs text n
  weighs text n e =
      option_and_then_some some_weight (option_and_then weight_of (single_word text)) n e
      (λ m is f. option_and_then_some weight_of (single_word text) m is
      (λ word found reads.
      let k = weight_gives m n f in
      record {
        word = word;
        around = single_cut text word found;
        spells =
            subst (SpellsWeight word) k.0 ((weights word m).0 reads);
        some = k.1;
      }))

  cut_gives : (text front : List ℕ) (rest : Option (List ℕ)) (g p b : List ℕ) (n w : ℕ)
      → ByteCut 42 text front rest → front ≡ g ++ (p ++ b)
      → AreGaps g → 1 ≤ length g → SpellsPort p n → AreGaps b → line_weight rest ≡ Some w
      → AfterHost text n w
  cut_gives text front None g p b n w cut is gg some pp gb e =
      let same : text ≡ g ++ (p ++ (b ++ [])) =
      cut ∙ (is ∙ ap (λ (xs : List ℕ). g ++ (p ++ xs)) (sym (append_none b))) in
      let one : AfterHost (g ++ (p ++ (b ++ []))) n one_whole =
      after gg some pp gb whole_share no_gap in
      subst (λ (xs : List ℕ). AfterHost xs n w) (sym same)
      (subst (AfterHost (g ++ (p ++ (b ++ []))) n) (same_Some one_whole w e) one)
  cut_gives text front (Some rest) g p b n w cut is gg some pp gb e =
      let k = weighs rest w e in
      let same : text ≡ g ++ (p ++ (b ++ ((42 ∷ (k.around.before ++ k.word)) ++ k.around.behind))) =
      cut ∙ (ap (λ (xs : List ℕ). xs ++ 42 ∷ rest) is
      ∙ (ap (λ (xs : List ℕ). (g ++ (p ++ b)) ++ 42 ∷ xs) k.around.is
      ∙ nest g p b k.around.before k.word k.around.behind)) in
      subst (λ (xs : List ℕ). AfterHost xs n w) (sym same)
      (after gg some pp gb (share k.around.gaps k.spells k.some) k.around.more)

  after_gives : (rest : List ℕ) → GapFirst rest → (n w : ℕ)
      → option_and_then port_value (single_word (before_star rest)) ≡ Some n
      → line_weight (behind_star rest) ≡ Some w
      → AfterHost rest n w
  after_gives [] f n w e g = cc
  after_gives (b ∷ bs) (gap_first h) n w e g =
      let front : before_star (b ∷ bs) ≡ b ∷ before_star bs =
      before_first 42 b bs (gap_no_star b h) in
      let same : single_word (before_star (b ∷ bs)) ≡ single_word (before_star bs) =
      ap single_word front ∙ single_gap b (before_star bs) h in
      option_and_then_some port_value (single_word (before_star bs)) n
      (sym (ap (option_and_then port_value) same) ∙ e)
      (λ word found reads.
      let parts = single_cut (before_star bs) word found in
      cut_gives (b ∷ bs) (before_star (b ∷ bs)) (behind_star (b ∷ bs))
      (b ∷ parts.before) word parts.behind n w (byte_cut 42 (b ∷ bs))
      (front ∙ ap (λ (xs : List ℕ). b ∷ xs) parts.is) (gap h parts.gaps) (omega arith)
      ((ports word n).0 reads) parts.more g)

  line_gives : (line : List ℕ) (item : Weighted) → line_value line ≡ Item item → AddrText line item
  line_gives line item e = go (is_empty (drop_gaps line)) e
    where
      go : (t : Bool) → (if t then Blank else behind_host (word_of (drop_gaps line))
          (behind_word (drop_gaps line))) ≡ Item item → AddrText line item
      go true f = cc
      go false f =
          let words = drop_gaps line in
          let front = gaps_cut line in
          let parts = parts_give (host_value (word_of words))
          (option_and_then port_value (single_word (before_star (behind_word words))))
          (line_weight (behind_star (behind_word words))) item f in
          let rest = after_gives (behind_word words) (behind_first words) parts.number
          parts.millionths parts.port_is parts.weight_is in
          let host = (hosts (word_of words) parts.ip).0 parts.host_is in
          let same : line ≡ front.before ++ (word_of words ++ behind_word words) =
          front.is ∙ ap (λ (xs : List ℕ). front.before ++ xs) (word_cut words) in
          subst (λ (xs : List ℕ). AddrText xs item) (sym same)
          (subst (AddrText (front.before ++ (word_of words ++ behind_word words))) parts.item_is
          (spelled front.gaps host rest))

  -- ---- what is spelled is computed

  after_read : {rest : List ℕ} {n w : ℕ} → AfterHost rest n w
      → (option_and_then port_value (single_word (before_star rest)) ≡ Some n)
      × (line_weight (behind_star rest) ≡ Some w)
  after_read (after {g = g} {p = p} {b = b} {c = c} gg some pp gb whole_share gc) =
      let tail : AreGaps (b ++ c) = gaps_append gb gc in
      let none : Lacks is_star (g ++ (p ++ (b ++ c)))
      = lacks_append is_star (gaps_lack_stars gg)
      (lacks_append is_star (port_lacks is_star digit_no_star pp) (gaps_lack_stars tail)) in (
        ap (λ (xs : List ℕ). option_and_then port_value (single_word xs)) (before_all 42 none)
            ∙ (ap (option_and_then port_value)
            (single_is gg (port_lacks is_gap digit_no_gap pp) (some_port pp) tail) ∙ port_read pp),
        ap line_weight (behind_all 42 none),
      )
  after_read (after {g = g} {p = p} {b = b} {c = c} gg some pp gb
      (share {a = x} {w = y} {n = n} gx sy least) gc) =
      let front : Lacks is_star (g ++ (p ++ b))
      = lacks_append is_star (gaps_lack_stars gg)
      (lacks_append is_star (port_lacks is_star digit_no_star pp) (gaps_lack_stars gb)) in
      let same : g ++ (p ++ (b ++ ((42 ∷ (x ++ y)) ++ c)))
      ≡ (g ++ (p ++ b)) ++ 42 ∷ (x ++ (y ++ c)) = sym (nest g p b x y c) in (
        ap (λ (xs : List ℕ). option_and_then port_value (single_word (before_star xs))) same
            ∙ (ap (λ (xs : List ℕ). option_and_then port_value (single_word xs))
            (before_at 42 front (x ++ (y ++ c)))
            ∙ (ap (option_and_then port_value)
            (single_is gg (port_lacks is_gap digit_no_gap pp) (some_port pp) gb) ∙ port_read pp)),
        ap (λ (xs : List ℕ). line_weight (behind_star xs)) same
            ∙ (ap line_weight (behind_at 42 front (x ++ (y ++ c)))
            ∙ (ap (λ (o : Option (List ℕ)). option_and_then some_weight
            (option_and_then weight_of o)) (single_is gx (weight_lacks sy) (some_weight_text sy) gc)
            ∙ (ap (option_and_then some_weight) ((weights y n).1 sy) ∙ weight_stays n least))),
      )

  line_read : {line : List ℕ} {item : Weighted} → AddrText line item → line_value line ≡ Item item
  line_read (addr {a = a} {h = h} {g = g} {p = p} {b = b} {s = s} {c = c} {ip = ip} {port =
      number} {weight = weight} ga hh gg some pp gb ss gc) =
      let rest = g ++ (p ++ (b ++ (s ++ c))) in
      let parts = after_read (after gg some pp gb ss gc) in
      let first : GapFirst (g ++ (p ++ (b ++ (s ++ c)))) =
      some_gap_first gg some (p ++ (b ++ (s ++ c))) in
      ap line_value (nest_all a h g p b s c)
      ∙ (ap words_value (gaps_gone ga (word_first (host_no_gaps hh) (some_host hh) rest))
      ∙ (host_words (h ++ rest) h rest (not_empty h rest (some_host hh))
      (word_is (host_no_gaps hh) first) (behind_is (host_no_gaps hh) first)
      ∙ parts_read (host_value h) (option_and_then port_value (single_word (before_star rest)))
      (line_weight (behind_star rest)) ip number weight (host_read hh) parts.0 parts.1))

  pub lines : (line : List ℕ) (item : Weighted) → (line_value line ≡ Item item) ↔ AddrText line item
  lines line item = (line_gives line item, line_read)

-- ---- blank lines

blank_gives : (line : List ℕ) → line_value line ≡ Blank → AreGaps line
blank_gives line e = go (is_empty (drop_gaps line)) refl e
  where
    go : (t : Bool) → is_empty (drop_gaps line) ≡ t
        → (if t then Blank else behind_host (word_of (drop_gaps line))
        (behind_word (drop_gaps line))) ≡ Blank → AreGaps line
    go true h f =
        let front = gaps_cut line in
        let all : line ≡ front.before = front.is
        ∙ (ap (λ (xs : List ℕ). front.before ++ xs) (none_left (drop_gaps line) h)
        ∙ append_none front.before) in
        subst AreGaps (sym all) front.gaps
    go false h f =
        let words = drop_gaps line in
        absurd (never_blank (addr_of (host_value (word_of words))
        (option_and_then port_value (single_word (before_star (behind_word words)))))
        (line_weight (behind_star (behind_word words))) f)

blank_read : {line : List ℕ} → AreGaps line → line_value line ≡ Blank
blank_read r = ap words_value (all_gaps r)

pub blanks : (line : List ℕ) → (line_value line ≡ Blank) ↔ AreGaps line
blanks line = (blank_gives line, blank_read)
