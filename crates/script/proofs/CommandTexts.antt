-- Lines are read as they are spelled.
use Rattle.std.proofs.Common.{◌≡◌, ◌≢◌, ℕ, ◌+◌, ◌≤◌, ◌⊎◌, inl, inr, ⊎_elim, List, [], ◌∷◌, ◌++◌}
use Rattle.std.proofs.Common.{length, Bool, true, false, Option, Some, None, refl, sym, ap, ◌∙◌}
use Rattle.std.proofs.Common.{subst, arith, append_assoc}
use Rattle.std.specs.Prelude.{◌↔◌, ◌||◌, ◌==◌, if◌then◌else◌, nat_le, codes, option_map}
use Rattle.std.specs.Option.{option_and_then}
use Rattle.std.specs.Str.{bytes_eq}
use Rattle.std.proofs.lemmas.Bool.Decides.{nat_tests}
use Rattle.std.proofs.lemmas.Option.{same_Some, option_and_then_some, cond_some}
use Rattle.std.proofs.lemmas.Slice.Eq.{bytes_eq-Decides}
use Rattle.name_tree.specs.Path.{Labels}
use Rattle.name_tree.specs.Grammar.{is_blank, AreBlanks, no_blank, blank as a_blank, PathText}
use Rattle.name_tree.specs.Computed.{Computes, path_of}
use Rattle.name_tree.specs.Weight.{ComputesWeights}
use Rattle.dtab_table.specs.Rules.{Rule}
use Rattle.dtab_table.specs.Computed.{table_of, ComputesTables}
use Rattle.addr_book.specs.declared.addr.Addr.{Addr}
use Rattle.addr_book.specs.declared.addr.Weighted.{Weighted}
use Rattle.text_parts.specs.Words.{AreGaps, no_gap, gap}
use Rattle.addr_book.specs.AddrList.{first_places}
use Rattle.text_parts.specs.Words.{is_gap, is_empty, drop_gaps, word_of, behind_word, single_word}
use Rattle.text_parts.proofs.GapWords.{Lacks, lacks_none, lacks, all_gaps, GapsCut, gaps_cut}
use Rattle.text_parts.proofs.GapWords.{NoGapFirst, first_byte, gaps_gone, word_first, GapFirst}
use Rattle.text_parts.proofs.GapWords.{gaps_first, word_cut, behind_first, word_is, behind_is}
use Rattle.text_parts.proofs.GapWords.{none_left}
use Rattle.machine.specs.Values.{create, put, delete, set_addrs, drop_service, report, get_table}
use Rattle.machine.specs.Values.{list_names, view}
use Rattle.script.specs.declared.command.Command.{Command}
use Rattle.script.specs.declared.command.Command.TheVariants as command
use Rattle.script.specs.declared.line.Numbers.{Numbers}
use Rattle.script.specs.Command.{command_of}
use Rattle.text_parts.specs.Numbers.{number_of}
use Rattle.addr_book.specs.Name.{name_of}
use Rattle.script.specs.Words.{drop_blanks, behind, words_of, version_of, addr_in, addrs_in}
use Rattle.script.specs.Words.{list_in}
use Rattle.script.specs.Line.{LineValue, blank, table, change, look, ask, bad, line_or_bad}
use Rattle.script.specs.Line.{create_line, put_line, delete_line, addrs_line, report_line}
use Rattle.script.specs.Line.{numbers_of, ask_line, plain_ask, create_in, put_in, delete_in}
use Rattle.script.specs.Line.{addrs_in_line, report_in, long_pick_in, pick_in, command_value}
use Rattle.script.specs.Line.{words_value, line_value}
use Rattle.script.specs.Grammar.{NextWord, next, SpellsName, SpellsLong, SpellsVersion}
use Rattle.script.specs.Grammar.{SpellsPathWord, SpellsAddr, SpellsItems, SpellsRest, SpellsCommand}
use Rattle.script.specs.Grammar.{sets_table, creates, puts, deletes, gets, lists, sets_addrs, drops}
use Rattle.script.specs.Grammar.{fails, succeeds, picks, picks_at, views, SpellsLine, nothing}
use Rattle.script.specs.Grammar.{command as command_line}
use Rattle.script.proofs.NextWords.{gaps_all, Reads, Cut, Last, next_gives, next_read, next_first}
use Rattle.script.proofs.NextWords.{next_full, last_gives, last_read}
use Rattle.script.proofs.ItemTexts.{rest_gives, rest_read, rest_first, items_first, Listed}
use Rattle.script.proofs.ItemTexts.{items_give, Read, items_read}
use Rattle.script.proofs.WordTexts.{names, longs, versions, paths, addrs}
use Rattle.script.proofs.Walking.{list_some}

-- ---- a command's word

abbrev word_for : Command → List ℕ
word_for command.Dtab = codes "dtab"
word_for command.Create = codes "create"
word_for command.Put = codes "put"
word_for command.Delete = codes "delete"
word_for command.Get = codes "get"
word_for command.List = codes "list"
word_for command.Addrs = codes "addrs"
word_for command.Drop = codes "drop"
word_for command.Fail = codes "fail"
word_for command.Good = codes "good"
word_for command.Pick = codes "pick"
word_for command.View = codes "view"

-- one test of the words in turn
in_turn : (word : List ℕ) (c found : Command) (others : Option Command)
    → (others ≡ Some found → word ≡ word_for found)
    → (if bytes_eq word (word_for c) then Some c else others) ≡ Some found → word ≡ word_for found
in_turn word c found others more e = go (bytes_eq word (word_for c)) refl e
  where
    go : (t : Bool) → bytes_eq word (word_for c) ≡ t → (if t then Some c else others) ≡ Some found
        → word ≡ word_for found
    go true h f = (bytes_eq-Decides word (word_for c)).0 h ∙ ap word_for (same_Some c found f)
    go false h f = more f

no_command : (word : List ℕ) (found : Command) → None ≡ Some found → word ≡ word_for found
no_command word found e = cc

word_is_for : (word : List ℕ) (found : Command) → command_of word ≡ Some found
    → word ≡ word_for found
word_is_for word found e =
    in_turn word command.Dtab found _
    (in_turn word command.Create found _
    (in_turn word command.Put found _ (in_turn word command.Delete found _
    (in_turn word command.Get found _
    (in_turn word command.List found _
    (in_turn word command.Addrs found _ (in_turn word command.Drop found _
    (in_turn word command.Fail found _
    (in_turn word command.Good found _
    (in_turn word command.Pick found _ (in_turn word command.View found None
    (no_command word found)))))))))))) e

command_for : (c : Command) → command_of (word_for c) ≡ Some c
command_for command.Dtab = refl
command_for command.Create = refl
command_for command.Put = refl
command_for command.Delete = refl
command_for command.Get = refl
command_for command.List = refl
command_for command.Addrs = refl
command_for command.Drop = refl
command_for command.Fail = refl
command_for command.Good = refl
command_for command.Pick = refl
command_for command.View = refl

-- a word that begins with no blank, and has no gap
data IsPlain : List ℕ → Type 0 where
  plain : {b : ℕ} {s : List ℕ} → is_blank b ≡ false → Lacks is_gap (b ∷ s) → IsPlain (b ∷ s)

plain_words : (c : Command) → IsPlain (word_for c)
plain_words command.Dtab = plain refl (lacks refl (lacks refl (lacks refl (lacks refl lacks_none))))
plain_words command.Create = plain refl
    (lacks refl (lacks refl (lacks refl (lacks refl (lacks refl (lacks refl lacks_none))))))
plain_words command.Put = plain refl (lacks refl (lacks refl (lacks refl lacks_none)))
plain_words command.Delete = plain refl
    (lacks refl (lacks refl (lacks refl (lacks refl (lacks refl (lacks refl lacks_none))))))
plain_words command.Get = plain refl (lacks refl (lacks refl (lacks refl lacks_none)))
plain_words command.List = plain refl (lacks refl (lacks refl (lacks refl (lacks refl lacks_none))))
plain_words command.Addrs = plain refl
    (lacks refl (lacks refl (lacks refl (lacks refl (lacks refl lacks_none)))))
plain_words command.Drop = plain refl (lacks refl (lacks refl (lacks refl (lacks refl lacks_none))))
plain_words command.Fail = plain refl (lacks refl (lacks refl (lacks refl (lacks refl lacks_none))))
plain_words command.Good = plain refl (lacks refl (lacks refl (lacks refl (lacks refl lacks_none))))
plain_words command.Pick = plain refl (lacks refl (lacks refl (lacks refl (lacks refl lacks_none))))
plain_words command.View = plain refl (lacks refl (lacks refl (lacks refl (lacks refl lacks_none))))

-- ---- a value, where there is one

record OneIs {X : Type 0} (line : X → LineValue) (x : Option X) (said : LineValue) : Type 0 where
  pub value : X
  pub is : x ≡ Some value
  pub says : line value ≡ said

one_is : {X : Type 0} (line : X → LineValue) (x : Option X) (said : LineValue) → said ≢ bad
    → line_or_bad line x ≡ said → OneIs line x said
one_is line None said other e = absurd (other (sym e))
one_is line (Some value) said other e = record { value = value; is = refl; says = e }

one_read : {X : Type 0} (line : X → LineValue) (x : Option X) (value : X) → x ≡ Some value
    → line_or_bad line x ≡ line value
one_read line x value e = ap (line_or_bad line) e

record TwoAre {X Y : Type 0} (line : X → Y → LineValue) (x : Option X) (y : Option Y)
    (said : LineValue) : Type 0 where
  pub first : X
  pub second : Y
  pub first_is : x ≡ Some first
  pub second_is : y ≡ Some second
  pub says : line first second ≡ said

create_is : (x : Option (List ℕ)) (y : Option (List Rule)) (said : LineValue) → said ≢ bad
    → create_line x y ≡ said → TwoAre (λ n r. change (create n r)) x y said
create_is None y said other e = absurd (other (sym e))
create_is (Some n) None said other e = absurd (other (sym e))
create_is (Some n) (Some r) said other e =
    record { first = n; second = r; first_is = refl; second_is = refl; says = e }

create_read : (x : Option (List ℕ)) (y : Option (List Rule)) (n : List ℕ) (r : List Rule)
    → x ≡ Some n → y ≡ Some r → create_line x y ≡ change (create n r)
create_read x y n r e f = rw (e, f) refl

delete_is : (x : Option (List ℕ)) (y : Option (Option ℕ)) (said : LineValue) → said ≢ bad
    → delete_line x y ≡ said → TwoAre (λ n v. change (delete n v)) x y said
delete_is None y said other e = absurd (other (sym e))
delete_is (Some n) None said other e = absurd (other (sym e))
delete_is (Some n) (Some v) said other e =
    record { first = n; second = v; first_is = refl; second_is = refl; says = e }

delete_read : (x : Option (List ℕ)) (y : Option (Option ℕ)) (n : List ℕ) (v : Option ℕ)
    → x ≡ Some n → y ≡ Some v → delete_line x y ≡ change (delete n v)
delete_read x y n v e f = rw (e, f) refl

addrs_is : (x : Option (List ℕ)) (y : Option (List Weighted)) (said : LineValue) → said ≢ bad
    → addrs_line x y ≡ said → TwoAre (λ n l. change (set_addrs n l)) x y said
addrs_is None y said other e = absurd (other (sym e))
addrs_is (Some n) None said other e = absurd (other (sym e))
addrs_is (Some n) (Some l) said other e =
    record { first = n; second = l; first_is = refl; second_is = refl; says = e }

addrs_read : (x : Option (List ℕ)) (y : Option (List Weighted)) (n : List ℕ) (l : List Weighted)
    → x ≡ Some n → y ≡ Some l → addrs_line x y ≡ change (set_addrs n l)
addrs_read x y n l e f = rw (e, f) refl

report_is : (good : Bool) (x : Option Addr) (y : Option ℕ) (said : LineValue) → said ≢ bad
    → report_line good x y ≡ said → TwoAre (λ a m. change (report a good m)) x y said
report_is good None y said other e = absurd (other (sym e))
report_is good (Some a) None said other e = absurd (other (sym e))
report_is good (Some a) (Some m) said other e =
    record { first = a; second = m; first_is = refl; second_is = refl; says = e }

report_read : (good : Bool) (x : Option Addr) (y : Option ℕ) (a : Addr) (m : ℕ) → x ≡ Some a
    → y ≡ Some m → report_line good x y ≡ change (report a good m)
report_read good x y a m e f = rw (e, f) refl

record PutIs (x : Option (List ℕ)) (y : Option (Option ℕ)) (z : Option (List Rule))
    (said : LineValue) : Type 0 where
  pub space : List ℕ
  pub version : Option ℕ
  pub rules : List Rule
  pub space_is : x ≡ Some space
  pub version_is : y ≡ Some version
  pub rules_are : z ≡ Some rules
  pub says : change (put space version rules) ≡ said

put_is : (x : Option (List ℕ)) (y : Option (Option ℕ)) (z : Option (List Rule)) (said : LineValue)
    → said ≢ bad → put_line x y z ≡ said → PutIs x y z said
put_is None y z said other e = absurd (other (sym e))
put_is (Some n) None z said other e = absurd (other (sym e))
put_is (Some n) (Some v) None said other e = absurd (other (sym e))
put_is (Some n) (Some v) (Some r) said other e =
    record {
      space = n;
      version = v;
      rules = r;
      space_is = refl;
      version_is = refl;
      rules_are =
          refl;
      says = e;
    }

put_read : (x : Option (List ℕ)) (y : Option (Option ℕ)) (z : Option (List Rule)) (n : List ℕ)
    (v : Option ℕ) (r : List Rule) → x ≡ Some n → y ≡ Some v → z ≡ Some r
    → put_line x y z ≡ change (put n v r)
put_read x y z n v r e f g = rw (e, f, g) refl

abbrev asks : Labels → ℕ → ℕ → ℕ → ℕ → List Rule → LineValue
asks path moment branch first second rules =
    ask (record {
      path = path;
      own = rules;
      moment = moment;
      branch_word = branch;
      first_draw =
          first;
      second_draw = second;
    })

record AskIs (x : Option Labels) (m b f s : Option ℕ) (y : Option (List Rule))
    (said : LineValue) : Type 0 where
  pub path : Labels
  pub moment : ℕ
  pub branch : ℕ
  pub first : ℕ
  pub second : ℕ
  pub rules : List Rule
  pub path_is : x ≡ Some path
  pub moment_is : m ≡ Some moment
  pub branch_is : b ≡ Some branch
  pub first_is : f ≡ Some first
  pub second_is : s ≡ Some second
  pub rules_are : y ≡ Some rules
  pub says : asks path moment branch first second rules ≡ said

no_ask : (x : Option Labels) (n : Option Numbers) (y : Option (List Rule)) (said : LineValue)
    → said ≢ bad → n ≡ None → ask_line x n y ≡ said → ⊥
no_ask None n y said other none e = other (sym e)
no_ask (Some path) n y said other none e = other (sym e ∙ ap (λ o. ask_line (Some path) o y) none)

ask_is : (x : Option Labels) (m b f s : Option ℕ) (y : Option (List Rule)) (said : LineValue)
    → said ≢ bad → ask_line x (numbers_of m b f s) y ≡ said → AskIs x m b f s y said
ask_is x None b f s y said other e = absurd (no_ask x None y said other refl e)
ask_is x (Some m) None f s y said other e = absurd (no_ask x None y said other refl e)
ask_is x (Some m) (Some b) None s y said other e = absurd (no_ask x None y said other refl e)
ask_is x (Some m) (Some b) (Some f) None y said other e = absurd (no_ask x None y said other refl e)
ask_is None (Some m) (Some b) (Some f) (Some s) y said other e = absurd (other (sym e))
ask_is (Some path) (Some m) (Some b) (Some f) (Some s) None said other e = absurd (other (sym e))
ask_is (Some path) (Some m) (Some b) (Some f) (Some s) (Some rules) said other e = record {
  path = path;
  moment = m;
  branch = b;
  first = f;
  second = s;
  rules = rules;
  path_is = refl;
  moment_is = refl;
  branch_is = refl;
  first_is = refl;
  second_is = refl;
  rules_are = refl;
  says = e;
}

ask_read : (x : Option Labels) (m b f s : Option ℕ) (y : Option (List Rule)) (path : Labels)
    (moment branch first second : ℕ) (rules : List Rule) → x ≡ Some path → m ≡ Some moment
    → b ≡ Some branch → f ≡ Some first → s ≡ Some second → y ≡ Some rules
    → ask_line x (numbers_of m b f s) y ≡ asks path moment branch first second rules
ask_read x m b f s y path moment branch first second rules d e g h i j = rw (d, e, g, h, i, j) refl

-- a list of at most 1,024 words
list_is : (words : List (List ℕ)) (list : List Weighted) → list_in words ≡ Some list
    → (items : List Weighted) × (length words ≤ 1024) × (addrs_in words ≡ Some items)
    × (first_places items ≡ list)
list_is words list e = go (nat_le (length words) 1024) refl e
  where
    mapped : length words ≤ 1024 → (o : Option (List Weighted)) → addrs_in words ≡ o
        → option_map first_places o ≡ Some list
        → (items : List Weighted) × (length words ≤ 1024) × (addrs_in words ≡ Some items)
        × (first_places items ≡ list)
    mapped few None is f = cc
    mapped few (Some items) is f = (items, few, is, same_Some (first_places items) list f)

    go : (t : Bool) → nat_le (length words) 1024 ≡ t
        → (if t then option_map first_places (addrs_in words) else None) ≡ Some list
        → (items : List Weighted) × (length words ≤ 1024) × (addrs_in words ≡ Some items)
        × (first_places items ≡ list)
    go true h f = let few : length words ≤ 1024 = grind (arith, nat_tests) in
        mapped few (addrs_in words) refl f
    go false h f = cc

-- ---- blanks

blanks_all : {s : List ℕ} → AreBlanks s → is_empty (drop_blanks s) ≡ true
blanks_all no_blank = refl
blanks_all (a_blank h r) = rw h (blanks_all r)

blanks_from : (s : List ℕ) → is_empty (drop_blanks s) ≡ true → AreBlanks s
blanks_from [] e = no_blank
blanks_from (b ∷ bs) e = go (is_blank b) refl (blanks_from bs) e
  where
    go : (t : Bool) → is_blank b ≡ t → (is_empty (drop_blanks bs) ≡ true → AreBlanks bs)
        → is_empty (if t then drop_blanks bs else b ∷ bs) ≡ true → AreBlanks (b ∷ bs)
    go true h rest f = a_blank h (rest f)
    go false h rest f = cc

gap_is_blank : (b : ℕ) → is_gap b ≡ true → is_blank b ≡ true
gap_is_blank b h = grind (arith, nat_tests)

not_blank : {g : List ℕ} → AreGaps g → (b : ℕ) (s : List ℕ) → is_blank b ≡ false
    → is_empty (drop_blanks (g ++ b ∷ s)) ≡ false
not_blank no_gap b s h = rw h refl
not_blank (gap {b = d} i r) b s h = let e : is_blank d ≡ true = gap_is_blank d i in
    rw e (not_blank r b s h)

if_true : (t : Bool) (x y : LineValue) → t ≡ true → (if t then x else y) ≡ x
if_true t x y e = rw e refl

if_false : (t : Bool) (x y : LineValue) → t ≡ false → (if t then x else y) ≡ y
if_false t x y e = rw e refl

-- what follows a gap and a word
abbrev after : List ℕ → List ℕ
after text = behind_word (drop_gaps text)

nest_three : (a b c : List ℕ) → a ++ (b ++ c) ≡ a ++ b ++ c
nest_three a b c = sym (append_assoc a b c)

nest_six : (p m b f s t : List ℕ) → p ++ (m ++ (b ++ (f ++ (s ++ t)))) ≡ p ++ m ++ b ++ f ++ s ++ t
nest_six p m b f s t = simp append_assoc refl

-- a command and what follows it
record Commanded (text : List ℕ) (said : LineValue) : Type 0 where
  pub word : Command
  pub rest : List ℕ
  pub first : GapFirst rest
  pub is : text ≡ word_for word ++ rest
  pub says : command_value word rest ≡ said

says : (text w rest : List ℕ) (c : Command) → word_of text ≡ w → behind_word text ≡ rest
    → command_of w ≡ Some c → words_value text ≡ command_value c rest
says text w rest c e f g =
    ap (line_or_bad (λ d. command_value d (behind_word text))) (ap command_of e ∙ g)
    ∙ ap (command_value c) f

says_rest : (c : Command) (rest : List ℕ) → GapFirst rest
    → words_value (word_for c ++ rest) ≡ command_value c rest
says_rest c rest first = by (word_for c) (plain_words c) (command_for c)
  where
    by : (w : List ℕ) → IsPlain w → command_of w ≡ Some c
        → words_value (w ++ rest) ≡ command_value c rest
    by w (plain {b = b} {s = s} h bare) g =
        says ((b ∷ s) ++ rest) (b ∷ s) rest c (word_is bare first) (behind_is bare first) g

not_blank_command : {g : List ℕ} → AreGaps g → (c : Command) (rest : List ℕ)
    → is_empty (drop_blanks (g ++ (word_for c ++ rest))) ≡ false
not_blank_command {g = g} gaps c rest = by (word_for c) (plain_words c)
  where
    by : (w : List ℕ) → IsPlain w → is_empty (drop_blanks (g ++ (w ++ rest))) ≡ false
    by w (plain {b = b} {s = s} h bare) = not_blank gaps b (s ++ rest) h

behind_gaps : {g : List ℕ} → AreGaps g → (c : Command) (rest : List ℕ)
    → drop_gaps (g ++ (word_for c ++ rest)) ≡ word_for c ++ rest
behind_gaps {g = g} gaps c rest = by (word_for c) (plain_words c)
  where
    by : (w : List ℕ) → IsPlain w → drop_gaps (g ++ (w ++ rest)) ≡ w ++ rest
    by w (plain {b = b} {s = s} h (lacks i bare)) = gaps_gone gaps (first_byte i)

module _ (computes : Computes path_of PathText) (tables : ComputesTables table_of)
    (weights : ComputesWeights) where
  -- ---- what is computed is spelled

  module _ (rest : List ℕ) (first : GapFirst rest) (said : LineValue) (other : said ≢ bad) where
    dtab_gives : line_or_bad table (table_of (drop_gaps rest)) ≡ said
        → SpellsCommand (codes "dtab" ++ rest) said
    dtab_gives e =
        let k = one_is table (table_of (drop_gaps rest)) said other e in
        subst (SpellsCommand (codes "dtab" ++ rest)) k.says
        (sets_table (rest_gives tables rest first k.value k.is))

    create_gives : create_in rest ≡ said → SpellsCommand (codes "create" ++ rest) said
    create_gives e =
        let k = create_is (name_of (word_of (drop_gaps rest)))
        (table_of (behind (drop_gaps rest))) said other e in
        let n = next_gives names rest first k.first k.first_is in
        let t = rest_gives tables (after rest) (behind_first (drop_gaps rest)) k.second
        k.second_is in
        subst (λ (xs : List ℕ). SpellsCommand (codes "create" ++ xs) said) (sym n.is)
        (subst (SpellsCommand (codes "create" ++ (n.part ++ after rest))) k.says
        (creates n.spelled t))

    put_gives : put_in rest ≡ said → SpellsCommand (codes "put" ++ rest) said
    put_gives e =
        let more = after rest in
        let k = put_is (name_of (word_of (drop_gaps rest))) (version_of (word_of (drop_gaps more)))
        (table_of (drop_gaps (after more))) said other e in
        let n = next_gives names rest first k.space k.space_is in
        let v = next_gives versions more (behind_first (drop_gaps rest)) k.version k.version_is in
        let t = rest_gives tables (after more) (behind_first (drop_gaps more)) k.rules
        k.rules_are in
        let whole : rest ≡ n.part ++ v.part ++ after more =
        n.is ∙ (ap (λ (xs : List ℕ). n.part ++ xs) v.is ∙ nest_three n.part v.part (after more)) in
        subst (λ (xs : List ℕ). SpellsCommand (codes "put" ++ xs) said) (sym whole)
        (subst (SpellsCommand (codes "put" ++ (n.part ++ v.part ++ after more))) k.says
        (puts n.spelled v.spelled t))

    delete_gives : delete_in rest ≡ said → SpellsCommand (codes "delete" ++ rest) said
    delete_gives e =
        let more = after rest in
        let k = delete_is (name_of (word_of (drop_gaps rest)))
        (option_and_then version_of (single_word more)) said other e in
        let n = next_gives names rest first k.first k.first_is in
        let v = last_gives versions more (behind_first (drop_gaps rest)) k.second k.second_is in
        let whole : rest ≡ n.part ++ v.cut.part ++ v.rest =
        n.is ∙ (ap (λ (xs : List ℕ). n.part ++ xs) v.cut.is
        ∙ nest_three n.part v.cut.part v.rest) in
        subst (λ (xs : List ℕ). SpellsCommand (codes "delete" ++ xs) said) (sym whole)
        (subst (SpellsCommand (codes "delete" ++ (n.part ++ v.cut.part ++ v.rest))) k.says
        (deletes n.spelled v.cut.spelled v.gaps))

    get_gives : line_or_bad (λ name. look (get_table name))
        (option_and_then name_of (single_word rest)) ≡ said
        → SpellsCommand (codes "get" ++ rest) said
    get_gives e =
        let k = one_is (λ name. look (get_table name)) (option_and_then name_of (single_word rest))
        said other e in
        let n = last_gives names rest first k.value k.is in
        subst (λ (xs : List ℕ). SpellsCommand (codes "get" ++ xs) said) (sym n.cut.is)
        (subst (SpellsCommand (codes "get" ++ (n.cut.part ++ n.rest))) k.says
        (gets n.cut.spelled n.gaps))

    drop_gives : line_or_bad (λ name. change (drop_service name))
        (option_and_then name_of (single_word rest)) ≡ said
        → SpellsCommand (codes "drop" ++ rest) said
    drop_gives e =
        let k = one_is (λ name. change (drop_service name))
        (option_and_then name_of (single_word rest)) said other e in
        let n = last_gives names rest first k.value k.is in
        subst (λ (xs : List ℕ). SpellsCommand (codes "drop" ++ xs) said) (sym n.cut.is)
        (subst (SpellsCommand (codes "drop" ++ (n.cut.part ++ n.rest))) k.says
        (drops n.cut.spelled n.gaps))

    view_gives : line_or_bad (λ path. look (view path []))
        (option_and_then path_of (single_word rest)) ≡ said
        → SpellsCommand (codes "view" ++ rest) said
    view_gives e =
        let k = one_is (λ path. look (view path [])) (option_and_then path_of (single_word rest))
        said other e in
        let n = last_gives (paths computes) rest first k.value k.is in
        subst (λ (xs : List ℕ). SpellsCommand (codes "view" ++ xs) said) (sym n.cut.is)
        (subst (SpellsCommand (codes "view" ++ (n.cut.part ++ n.rest))) k.says
        (views n.cut.spelled n.gaps))

    list_gives : (if is_empty (drop_gaps rest) then look list_names else bad) ≡ said
        → SpellsCommand (codes "list" ++ rest) said
    list_gives e = go (is_empty (drop_gaps rest)) refl e
      where
        go : (t : Bool) → is_empty (drop_gaps rest) ≡ t → (if t then look list_names else bad)
            ≡ said → SpellsCommand (codes "list" ++ rest) said
        go true h f = subst (SpellsCommand (codes "list" ++ rest)) f
            (lists (gaps_all rest (none_left (drop_gaps rest) h)))
        go false h f = absurd (other (sym f))

    addrs_give : addrs_in_line rest ≡ said → SpellsCommand (codes "addrs" ++ rest) said
    addrs_give e =
        let more = after rest in
        let k = addrs_is (name_of (word_of (drop_gaps rest)))
        (list_in (words_of more)) said other e in
        let n = next_gives names rest first k.first k.first_is in
        let l = list_is (words_of more) k.second k.second_is in
        let items = items_give weights more (behind_first (drop_gaps rest)) l.0 l.2 in
        let few : length l.0 ≤ 1024 = omega (arith, l.1, items.counted) in
        let line = sets_addrs n.spelled items.spelled few in
        let listed = subst (λ (xs : List Weighted). SpellsCommand
        (codes "addrs" ++ (n.part ++ more)) (change (set_addrs k.first xs))) l.3 line in
        subst (λ (xs : List ℕ). SpellsCommand (codes "addrs" ++ xs) said) (sym n.is)
        (subst (SpellsCommand (codes "addrs" ++ (n.part ++ more))) k.says listed)

    fail_gives : report_in false rest ≡ said → SpellsCommand (codes "fail" ++ rest) said
    fail_gives e =
        let more = after rest in
        let k = report_is false (addr_in (word_of (drop_gaps rest)))
        (option_and_then number_of (single_word more)) said other e in
        let a = next_gives addrs rest first k.first k.first_is in
        let m = last_gives longs more (behind_first (drop_gaps rest)) k.second k.second_is in
        let whole : rest ≡ a.part ++ m.cut.part ++ m.rest =
        a.is ∙ (ap (λ (xs : List ℕ). a.part ++ xs) m.cut.is
        ∙ nest_three a.part m.cut.part m.rest) in
        subst (λ (xs : List ℕ). SpellsCommand (codes "fail" ++ xs) said) (sym whole)
        (subst (SpellsCommand (codes "fail" ++ (a.part ++ m.cut.part ++ m.rest))) k.says
        (fails a.spelled m.cut.spelled m.gaps))

    good_gives : report_in true rest ≡ said → SpellsCommand (codes "good" ++ rest) said
    good_gives e =
        let more = after rest in
        let k = report_is true (addr_in (word_of (drop_gaps rest)))
        (option_and_then number_of (single_word more)) said other e in
        let a = next_gives addrs rest first k.first k.first_is in
        let m = last_gives longs more (behind_first (drop_gaps rest)) k.second k.second_is in
        let whole : rest ≡ a.part ++ m.cut.part ++ m.rest =
        a.is ∙ (ap (λ (xs : List ℕ). a.part ++ xs) m.cut.is
        ∙ nest_three a.part m.cut.part m.rest) in
        subst (λ (xs : List ℕ). SpellsCommand (codes "good" ++ xs) said) (sym whole)
        (subst (SpellsCommand (codes "good" ++ (a.part ++ m.cut.part ++ m.rest))) k.says
        (succeeds a.spelled m.cut.spelled m.gaps))

    long_pick_gives : long_pick_in (drop_gaps rest) ≡ said
        → SpellsCommand (codes "pick" ++ rest) said
    long_pick_gives e =
        let r1 = after rest in
        let r2 = after r1 in
        let r3 = after r2 in
        let r4 = after r3 in
        let r5 = after r4 in
        let k =
        ask_is (path_of (word_of (drop_gaps rest))) (number_of (word_of (drop_gaps r1)))
        (number_of (word_of (drop_gaps r2))) (number_of (word_of (drop_gaps r3)))
        (number_of (word_of (drop_gaps r4))) (table_of (drop_gaps r5)) said other e in
        let p = next_gives (paths computes) rest first k.path k.path_is in
        let m = next_gives longs r1 (behind_first (drop_gaps rest)) k.moment k.moment_is in
        let b = next_gives longs r2 (behind_first (drop_gaps r1)) k.branch k.branch_is in
        let f = next_gives longs r3 (behind_first (drop_gaps r2)) k.first k.first_is in
        let s = next_gives longs r4 (behind_first (drop_gaps r3)) k.second k.second_is in
        let t = rest_gives tables r5 (behind_first (drop_gaps r4)) k.rules k.rules_are in
        let whole : rest ≡ p.part ++ m.part ++ b.part ++ f.part ++ s.part ++ r5 =
        p.is ∙ (ap (λ (xs : List ℕ). p.part ++ xs)
        (m.is ∙ ap (λ (xs : List ℕ). m.part ++ xs)
        (b.is ∙ ap (λ (xs : List ℕ). b.part ++ xs)
        (f.is ∙ ap (λ (xs : List ℕ). f.part ++ xs) s.is)))
        ∙ nest_six p.part m.part b.part f.part s.part r5) in
        subst (λ (xs : List ℕ). SpellsCommand (codes "pick" ++ xs) said) (sym whole)
        (subst (SpellsCommand
        (codes "pick" ++ (p.part ++ m.part ++ b.part ++ f.part ++ s.part ++ r5))) k.says
        (picks_at p.spelled m.spelled b.spelled f.spelled s.spelled t))

    pick_gives : pick_in rest ≡ said → SpellsCommand (codes "pick" ++ rest) said
    pick_gives e = go (is_empty (drop_gaps (after rest))) refl e
      where
        go : (t : Bool) → is_empty (drop_gaps (after rest)) ≡ t
            → (if t then line_or_bad (λ path. ask (plain_ask path))
            (path_of (word_of (drop_gaps rest))) else long_pick_in (drop_gaps rest)) ≡ said
            → SpellsCommand (codes "pick" ++ rest) said
        go true h f =
            let k = one_is (λ path. ask (plain_ask path)) (path_of (word_of (drop_gaps rest))) said
            other f in
            let p = next_gives (paths computes) rest first k.value k.is in
            let gaps = gaps_all (after rest) (none_left (drop_gaps (after rest)) h) in
            subst (λ (xs : List ℕ). SpellsCommand (codes "pick" ++ xs) said) (sym p.is)
            (subst (SpellsCommand (codes "pick" ++ (p.part ++ after rest))) k.says
            (picks p.spelled gaps))
        go false h f = long_pick_gives f

    command_gives : (c : Command) → command_value c rest ≡ said
        → SpellsCommand (word_for c ++ rest) said
    command_gives command.Dtab e = dtab_gives e
    command_gives command.Create e = create_gives e
    command_gives command.Put e = put_gives e
    command_gives command.Delete e = delete_gives e
    command_gives command.Get e = get_gives e
    command_gives command.List e = list_gives e
    command_gives command.Addrs e = addrs_give e
    command_gives command.Drop e = drop_gives e
    command_gives command.Fail e = fail_gives e
    command_gives command.Good e = good_gives e
    command_gives command.Pick e = pick_gives e
    command_gives command.View e = view_gives e

  line_gives : (line : List ℕ) (said : LineValue) → said ≢ bad → line_value line ≡ said
      → SpellsLine line said
  line_gives line said other e = go (is_empty (drop_blanks line)) refl e
    where
      go : (t : Bool) → is_empty (drop_blanks line) ≡ t
          → (if t then blank else words_value (drop_gaps line)) ≡ said → SpellsLine line said
      go true h f = subst (SpellsLine line) f (nothing (blanks_from line h))
      go false h f =
          let text = drop_gaps line in
          let front = gaps_cut line in
          let k = one_is (λ c. command_value c (behind_word text))
          (command_of (word_of text)) said other f in
          let word = word_is_for (word_of text) k.value k.is in
          let spelled = command_gives (behind_word text) (behind_first text) said other k.value
          k.says in
          let parts : text ≡ word_for k.value ++ behind_word text =
          word_cut text ∙ ap (λ (xs : List ℕ). xs ++ behind_word text) word in
          let whole : line ≡ front.before ++ (word_for k.value ++ behind_word text) =
          front.is ∙ ap (λ (xs : List ℕ). front.before ++ xs) parts in
          subst (λ (xs : List ℕ). SpellsLine xs said) (sym whole) (command_line front.gaps spelled)

  -- ---- what is spelled is computed

  commanded : {text : List ℕ} {said : LineValue} → SpellsCommand text said → Commanded text said
  commanded (sets_table {t = t} {rules = rules} r) = record {
    word = command.Dtab;
    rest = t;
    first = rest_first r;
    is = refl;
    says = one_read table (table_of (drop_gaps t)) rules (rest_read tables r);
  }
  commanded (creates {n = n} {t = t} {space = space} {rules = rules} name r) =
      let a = next_read names name t (rest_first r) in
      record {
        word = command.Create;
        rest = n ++ t;
        first = next_first names name t;
        is = refl;
        says = create_read (name_of (word_of (drop_gaps (n ++ t))))
            (table_of (behind (drop_gaps (n ++ t)))) space rules a.0
            (ap (λ (xs : List ℕ). table_of (drop_gaps xs)) a.1 ∙ rest_read tables r);
      }
  commanded (puts {n = n} {v = v} {t = t} {space = space} {version = version} {rules =
      rules} name ver r) =
      let b = next_read versions ver t (rest_first r) in
      let a = next_read names name (v ++ t) (next_first versions ver t) in
      let rest = n ++ (v ++ t) in
      record {
        word = command.Put;
        rest = n ++ (v ++ t);
        first = next_first names name (v ++ t);
        is = ap (λ (xs : List ℕ). codes "put" ++ xs) (append_assoc n v t);
        says = put_read (name_of (word_of (drop_gaps rest)))
            (version_of (word_of (drop_gaps (after rest))))
            (table_of (drop_gaps (after (after rest)))) space version rules a.0
            (ap (λ (xs : List ℕ). version_of (word_of (drop_gaps xs))) a.1 ∙ b.0)
            (ap (λ (xs : List ℕ). table_of (drop_gaps (after xs))) a.1
            ∙ (ap (λ (xs : List ℕ). table_of (drop_gaps xs)) b.1 ∙ rest_read tables r));
      }
  commanded (deletes {n = n} {v = v} {e = e} {space = space} {version = version} name ver gaps) =
      let a = next_read names name (v ++ e) (next_first versions ver e) in
      record {
        word = command.Delete;
        rest = n ++ (v ++ e);
        first = next_first names name (v ++ e);
        is = ap (λ (xs : List ℕ). codes "delete" ++ xs) (append_assoc n v e);
        says = delete_read (name_of (word_of (drop_gaps (n ++ (v ++ e)))))
            (option_and_then version_of (single_word (after (n ++ (v ++ e))))) space version a.0
            (ap (λ (xs : List ℕ). option_and_then version_of (single_word xs)) a.1
            ∙ last_read versions ver gaps);
      }
  commanded (gets {n = n} {e = e} {space = space} name gaps) = record {
    word = command.Get;
    rest = n ++ e;
    first = next_first names name e;
    is = refl;
    says = one_read (λ x. look (get_table x)) (option_and_then name_of (single_word (n ++ e)))
        space (last_read names name gaps);
  }
  commanded (lists {e = e} gaps) = record {
    word = command.List;
    rest = e;
    first = gaps_first gaps;
    is = refl;
    says = if_true (is_empty (drop_gaps e)) (look list_names) bad (ap is_empty (all_gaps gaps));
  }
  commanded (sets_addrs {n = n} {s = s} {service = service} {items = list} name items few) =
      let a = next_read names name s (items_first items) in
      let read = items_read weights items in
      let value : list_in (words_of s) ≡ Some (first_places list) =
      list_some (words_of s) list (omega (arith, few, read.counted)) read.value in
      record {
        word = command.Addrs;
        rest = n ++ s;
        first = next_first names name s;
        is = refl;
        says = addrs_read (name_of (word_of (drop_gaps (n ++ s))))
            (list_in (words_of (after (n ++ s)))) service (first_places list) a.0
            (ap (λ (xs : List ℕ). list_in (words_of xs)) a.1 ∙ value);
      }
  commanded (drops {n = n} {e = e} {service = service} name gaps) = record {
    word = command.Drop;
    rest = n ++ e;
    first = next_first names name e;
    is = refl;
    says = one_read (λ x. change (drop_service x)) (option_and_then name_of (single_word (n ++ e)))
        service (last_read names name gaps);
  }
  commanded (fails {a = a} {m = m} {e = e} {addr = addr} {moment = moment} at when gaps) =
      let r = next_read addrs at (m ++ e) (next_first longs when e) in
      record {
        word = command.Fail;
        rest = a ++ (m ++ e);
        first = next_first addrs at (m ++ e);
        is = ap (λ (xs : List ℕ). codes "fail" ++ xs) (append_assoc a m e);
        says = report_read false (addr_in (word_of (drop_gaps (a ++ (m ++ e)))))
            (option_and_then number_of (single_word (after (a ++ (m ++ e))))) addr moment r.0
            (ap (λ (xs : List ℕ). option_and_then number_of (single_word xs)) r.1
            ∙ last_read longs when gaps);
      }
  commanded (succeeds {a = a} {m = m} {e = e} {addr = addr} {moment = moment} at when gaps) =
      let r = next_read addrs at (m ++ e) (next_first longs when e) in
      record {
        word = command.Good;
        rest = a ++ (m ++ e);
        first = next_first addrs at (m ++ e);
        is = ap (λ (xs : List ℕ). codes "good" ++ xs) (append_assoc a m e);
        says = report_read true (addr_in (word_of (drop_gaps (a ++ (m ++ e)))))
            (option_and_then number_of (single_word (after (a ++ (m ++ e))))) addr moment r.0
            (ap (λ (xs : List ℕ). option_and_then number_of (single_word xs)) r.1
            ∙ last_read longs when gaps);
      }
  commanded (picks {p = p} {e = e} {path = at} word gaps) =
      let r = next_read (paths computes) word e (gaps_first gaps) in
      let end : is_empty (drop_gaps (after (p ++ e))) ≡ true =
      ap (λ (xs : List ℕ). is_empty (drop_gaps xs)) r.1 ∙ ap is_empty (all_gaps gaps) in
      let one = line_or_bad (λ path. ask (plain_ask path))
      (path_of (word_of (drop_gaps (p ++ e)))) in
      record {
        word = command.Pick;
        rest = p ++ e;
        first = next_first (paths computes) word e;
        is = refl;
        says = if_true (is_empty (drop_gaps (after (p ++ e)))) one
            (long_pick_in (drop_gaps (p ++ e))) end
            ∙ one_read (λ path. ask (plain_ask path)) (path_of (word_of (drop_gaps (p ++ e)))) at
            r.0;
      }
  commanded (picks_at {p = p} {m = m} {b = b} {f = f} {s = s} {t = t} {path = at} {moment =
      moment} {branch = branch} {first = first} {second = second} {rules = rules} pp mm bb ff ss r)
      =
      let r1 = m ++ (b ++ (f ++ (s ++ t))) in
      let r2 = b ++ (f ++ (s ++ t)) in
      let r3 = f ++ (s ++ t) in
      let r4 = s ++ t in
      let rest = p ++ r1 in
      let e5 = next_read longs ss t (rest_first r) in
      let e4 = next_read longs ff r4 (next_first longs ss t) in
      let e3 = next_read longs bb r3 (next_first longs ff r4) in
      let e2 = next_read longs mm r2 (next_first longs bb r3) in
      let e1 = next_read (paths computes) pp r1 (next_first longs mm r2) in
      let i2 : after (after rest) ≡ r2 = ap after e1.1 ∙ e2.1 in
      let i3 : after (after (after rest)) ≡ r3 = ap after i2 ∙ e3.1 in
      let i4 : after (after (after (after rest))) ≡ r4 = ap after i3 ∙ e4.1 in
      let i5 : after (after (after (after (after rest)))) ≡ t = ap after i4 ∙ e5.1 in
      let more : is_empty (drop_gaps (after rest)) ≡ false =
      ap (λ (xs : List ℕ). is_empty (drop_gaps xs)) e1.1 ∙ next_full longs mm r2 in
      let one = line_or_bad (λ path. ask (plain_ask path)) (path_of (word_of (drop_gaps rest))) in
      record {
        word = command.Pick;
        rest = p ++ r1;
        first = next_first (paths computes) pp r1;
        is = ap (λ (xs : List ℕ). codes "pick" ++ xs) (sym (nest_six p m b f s t));
        says = if_false (is_empty (drop_gaps (after rest))) one (long_pick_in (drop_gaps rest)) more
            ∙ ask_read (path_of (word_of (drop_gaps rest)))
            (number_of (word_of (drop_gaps (after rest))))
            (number_of (word_of (drop_gaps (after (after rest)))))
            (number_of (word_of (drop_gaps (after (after (after rest))))))
            (number_of (word_of (drop_gaps (after (after (after (after rest)))))))
            (table_of (drop_gaps (after (after (after (after (after rest))))))) at moment branch
            first second rules e1.0
            (ap (λ (xs : List ℕ). number_of (word_of (drop_gaps xs))) e1.1 ∙ e2.0)
            (ap (λ (xs : List ℕ). number_of (word_of (drop_gaps xs))) i2 ∙ e3.0)
            (ap (λ (xs : List ℕ). number_of (word_of (drop_gaps xs))) i3 ∙ e4.0)
            (ap (λ (xs : List ℕ). number_of (word_of (drop_gaps xs))) i4 ∙ e5.0)
            (ap (λ (xs : List ℕ). table_of (drop_gaps xs)) i5 ∙ rest_read tables r);
      }
  commanded (views {p = p} {e = e} {path = at} word gaps) = record {
    word = command.View;
    rest = p ++ e;
    first = next_first (paths computes) word e;
    is = refl;
    says = one_read (λ x. look (view x [])) (option_and_then path_of (single_word (p ++ e))) at
        (last_read (paths computes) word gaps);
  }

  line_reads : {line : List ℕ} {said : LineValue} → SpellsLine line said → line_value line ≡ said
  line_reads (nothing {s = s} blanks) =
      if_true (is_empty (drop_blanks s)) blank (words_value (drop_gaps s)) (blanks_all blanks)
  line_reads (command_line {g = g} {s = s} {said = said} gaps spelled) =
      let k = commanded spelled in
      let text = g ++ (word_for k.word ++ k.rest) in
      ap (λ (xs : List ℕ). line_value (g ++ xs)) k.is
      ∙ (if_false (is_empty (drop_blanks text)) blank (words_value (drop_gaps text))
      (not_blank_command gaps k.word k.rest)
      ∙ (ap words_value (behind_gaps gaps k.word k.rest)
      ∙ (says_rest k.word k.rest k.first ∙ k.says)))

  pub lines : (line : List ℕ) (said : LineValue) → said ≢ bad
      → (line_value line ≡ said) ↔ SpellsLine line said
  lines line said other = (line_gives line said other, line_reads)
