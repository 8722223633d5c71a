-- Names, numbers, versions, paths and addresses are read as they are spelled.
use Rattle.std.proofs.Common.{◌≡◌, ℕ, ◌+◌, ◌-◌, ◌≤◌, ◌^◌, List, [], ◌∷◌, ◌++◌, length, get_or, Bool}
use Rattle.std.proofs.Common.{true, false, Option, Some, None, refl, sym, ap, ◌∙◌, subst, arith}
use Rattle.std.proofs.Common.{append_assoc, length-append, true≢false, ⊎_elim}
use Rattle.std.specs.Prelude.{◌||◌, ◌==◌, if◌then◌else◌, codes, All, IsTrue, option_map}
use Rattle.std.specs.Option.{option_and_then}
use Rattle.std.specs.Str.{bytes_eq}
use Rattle.std.proofs.lemmas.Bool.{or_cases, eqb-true}
use Rattle.std.proofs.lemmas.Bool.Decides.{nat_tests}
use Rattle.std.proofs.lemmas.List.Elements.{All-head, All-tail}
use Rattle.std.proofs.lemmas.Option.{same_Some, option_and_then_some}
use Rattle.std.proofs.lemmas.Slice.Eq.{bytes_eq-Decides}
use Rattle.name_tree.specs.Path.{Labels}
use Rattle.name_tree.specs.Value.{one_whole}
use Rattle.name_tree.specs.Grammar.{is_digit, SpellsWeight, SpellsPath, root, under, SpellsLabels}
use Rattle.name_tree.specs.Grammar.{label, labels, PathText, path}
use Rattle.name_tree.specs.Computed.{Computes, path_of}
use Rattle.name_tree.specs.Faults.{IsValue}
use Rattle.name_tree.specs.Weight.{weight_of, ComputesWeights}
use Rattle.addr_book.specs.declared.addr.Addr.{Addr}
use Rattle.addr_book.specs.declared.addr.Weighted.{Weighted}
use Rattle.text_parts.specs.Numbers.{number_value, at_most, number_of}
use Rattle.text_parts.specs.Words.{AreGaps, no_gap, gap, is_gap, single_word}
use Rattle.text_parts.proofs.Cuts.{ByteCut, byte_cut, before_all, behind_all, before_at, behind_at}
use Rattle.text_parts.proofs.Digits.{at_most_gives, at_most_read}
use Rattle.addr_book.specs.Addr.{addr_of, host_value, port_value}
use Rattle.addr_book.specs.AddrGrammar.{SpellsNumber, SpellsHost, SpellsPort}
use Rattle.addr_book.specs.FileLine.{some_weight, before_star, behind_star, line_weight}
use Rattle.addr_book.specs.Name.{is_name_byte, IsName, name_of}
use Rattle.text_parts.proofs.GapWords.{Lacks, lacks_none, lacks, lacks_append, InGaps, append_none}
use Rattle.text_parts.proofs.GapWords.{single_is}
use Rattle.addr_book.proofs.HostTexts.{number_gives, number_read, number_first, number_lacks}
use Rattle.addr_book.proofs.HostTexts.{some_digit, fails, hosts, ports, host_read, port_read}
use Rattle.addr_book.proofs.HostTexts.{host_lacks, host_no_gaps, port_lacks, some_host}
use Rattle.addr_book.proofs.HostTexts.{digit_no_gap}
use Rattle.addr_book.proofs.LineTexts.{weight_lacks, some_weight_text, weight_stays, Weighs, weighs}
use Rattle.addr_book.proofs.Naming.{name_known, name_found}
use Rattle.addr_book.proofs.Stars.{is_star}
use Rattle.script.specs.Words.{version_of, before_colon, behind_colon, addr_in, with_weight}
use Rattle.script.specs.Words.{weighted_in}
use Rattle.script.specs.Grammar.{SpellsName, name, SpellsLong, long, SpellsVersion, any_version}
use Rattle.script.specs.Grammar.{this_version, SpellsPathWord, path_word, SpellsAddr, host_port}
use Rattle.script.specs.Grammar.{SpellsItem, whole_item, weighed_item}
use Rattle.script.proofs.NextWords.{lacks_from_all, all_from_lacks, Reads}

abbrev is_colon : ℕ → Bool
is_colon b = b == 58

-- a gap passes no test that space and tab fail
gap_fails : (p : ℕ → Bool) → p 32 ≡ false → p 9 ≡ false → (b : ℕ) → p b ≡ true → is_gap b ≡ false
gap_fails p space tab b h =
    fails (is_gap b) (λ e. ⊎_elim
    (λ i. true≢false (sym h ∙ (ap p (eqb-true b 32 i) ∙ space)))
    (λ i. true≢false (sym h ∙ (ap p (eqb-true b 9 i) ∙ tab)))
    (or_cases (b == 32) (b == 9) e))

-- ---- names

name_bytes : (s : List ℕ) → All (λ b. IsTrue (is_name_byte b)) s → Lacks is_gap s
name_bytes [] h = lacks_none
name_bytes (b ∷ bs) h =
    lacks (gap_fails is_name_byte refl refl b (All-head (λ x. IsTrue (is_name_byte x)) b bs h))
    (name_bytes bs (All-tail (λ x. IsTrue (is_name_byte x)) b bs h))

name_gives : (w v : List ℕ) → name_of w ≡ Some v → SpellsName w v
name_gives w v e = let found = name_found w v e in subst (SpellsName w) found.1 (name found.0)

name_reads : (w v : List ℕ) → SpellsName w v → name_of w ≡ Some v
name_reads w v (name h) = name_known w h

name_lacks : (w v : List ℕ) → SpellsName w v → Lacks is_gap w
name_lacks w v (name h) = name_bytes w h.bytes

name_some : (w v : List ℕ) → SpellsName w v → 1 ≤ length w
name_some w v (name h) = h.some

pub names : Reads name_of SpellsName
names = record {
  gives = λ w v bare e. name_gives w v e;
  reads = name_reads;
  lacks_gaps =
      name_lacks;
  some = name_some;
}

-- ---- numbers and versions

long_gives : (w : List ℕ) (n : ℕ) → number_of w ≡ Some n → SpellsLong w n
long_gives w n e = let k = at_most_gives (2 ^ 64 - 1) (number_value w) n e in
    long (number_gives w n k.0) k.1

long_reads : (w : List ℕ) (n : ℕ) → SpellsLong w n → number_of w ≡ Some n
long_reads w n (long r le) = ap (at_most (2 ^ 64 - 1)) (number_read r)
    ∙ at_most_read (2 ^ 64 - 1) n le

long_lacks : (w : List ℕ) (n : ℕ) → SpellsLong w n → Lacks is_gap w
long_lacks w n (long r le) = number_lacks is_gap digit_no_gap r

long_some : (w : List ℕ) (n : ℕ) → SpellsLong w n → 1 ≤ length w
long_some w n (long r le) = some_digit r

pub longs : Reads number_of SpellsLong
longs = record {
  gives = λ w n bare e. long_gives w n e;
  reads = long_reads;
  lacks_gaps =
      long_lacks;
  some = long_some;
}

version_gives : (w : List ℕ) (v : Option ℕ) → version_of w ≡ Some v → SpellsVersion w v
version_gives w v e = go (bytes_eq w (codes "*")) refl e
  where
    numbered : (o : Option ℕ) → number_of w ≡ o → option_map (λ n. Some n) o ≡ Some v
        → SpellsVersion w v
    numbered None is f = cc
    numbered (Some n) is f = subst (SpellsVersion w) (same_Some (Some n) v f)
        (this_version (long_gives w n is))

    go : (t : Bool) → bytes_eq w (codes "*") ≡ t
        → (if t then Some None else option_map (λ n. Some n) (number_of w)) ≡ Some v
        → SpellsVersion w v
    go true h f =
        let same = (bytes_eq-Decides w (codes "*")).0 h in
        subst (SpellsVersion w) (same_Some None v f)
        (subst (λ (xs : List ℕ). SpellsVersion xs None) (sym same) any_version)
    go false h f = numbered (number_of w) refl f

no_star : (d : ℕ) (ds : List ℕ) → is_digit d ≡ true → bytes_eq (d ∷ ds) (codes "*") ≡ false
no_star d ds h =
    fails (bytes_eq (d ∷ ds) (codes "*")) (λ e.
    let same = (bytes_eq-Decides (d ∷ ds) (codes "*")).0 e in
    let first : d ≡ 42 = ap (λ (xs : List ℕ). get_or xs 0 0) same in
    let star : is_digit 42 ≡ true = subst (λ x. is_digit x ≡ true) first h in
    true≢false (sym star))

chosen : (t : Bool) (x y : Option (Option ℕ)) → t ≡ false → (if t then x else y) ≡ y
chosen t x y e = rw e refl

version_reads : (w : List ℕ) (v : Option ℕ) → SpellsVersion w v → version_of w ≡ Some v
version_reads w v any_version = refl
version_reads w v (this_version (long {n = n} r le)) =
    chosen (bytes_eq w (codes "*")) (Some None) (option_map (λ n. Some n) (number_of w))
    (number_first (λ (xs : List ℕ). bytes_eq xs (codes "*") ≡ false) no_star r)
    ∙ ap (option_map (λ n. Some n)) (long_reads w n (long r le))

version_lacks : (w : List ℕ) (v : Option ℕ) → SpellsVersion w v → Lacks is_gap w
version_lacks w v any_version = lacks refl lacks_none
version_lacks w v (this_version {n = n} r) = long_lacks w n r

version_some : (w : List ℕ) (v : Option ℕ) → SpellsVersion w v → 1 ≤ length w
version_some w v any_version = omega arith
version_some w v (this_version {n = n} r) = long_some w n r

pub versions : Reads version_of SpellsVersion
versions = record {
  gives = λ w v bare e. version_gives w v e;
  reads = version_reads;
  lacks_gaps =
      version_lacks;
  some = version_some;
}

-- ---- paths

labels_some : {s : List ℕ} {ls : Labels} → SpellsLabels s ls → 1 ≤ length s
labels_some (label r) = omega arith
labels_some (labels r q) = omega arith

path_some : {s : List ℕ} {ls : Labels} → SpellsPath s ls → 1 ≤ length s
path_some root = omega arith
path_some (under r) = labels_some r

text_some : {s : List ℕ} {ls : Labels} → PathText s ls → 1 ≤ length s
text_some (path {a = a} {s = s} {b = b} before r behind) =
    let some : 1 ≤ length s = path_some r in
    omega (arith, some, length-append (a ++ s) b, length-append a s)

module _ (computes : Computes path_of PathText) where
  path_gives : (w : List ℕ) (ls : Labels) → Lacks is_gap w → path_of w ≡ Some ls
      → SpellsPathWord w ls
  path_gives w ls bare e = path_word (all_from_lacks is_gap bare) ((computes w ls).0 e)

  path_reads : (w : List ℕ) (ls : Labels) → SpellsPathWord w ls → path_of w ≡ Some ls
  path_reads w ls (path_word bare value) = (computes w ls).1 value

  path_lacks : (w : List ℕ) (ls : Labels) → SpellsPathWord w ls → Lacks is_gap w
  path_lacks w ls (path_word bare value) = lacks_from_all is_gap w bare

  path_word_some : (w : List ℕ) (ls : Labels) → SpellsPathWord w ls → 1 ≤ length w
  path_word_some w ls (path_word bare value) = text_some value.stands

  pub paths : Reads path_of SpellsPathWord
  paths = record {
    gives = path_gives;
    reads = path_reads;
    lacks_gaps = path_lacks;
    some =
        path_word_some;
  }

-- ---- addresses

record HostPort (host port : Option ℕ) (addr : Addr) : Type 0 where
  pub ip : ℕ
  pub number : ℕ
  pub host_is : host ≡ Some ip
  pub port_is : port ≡ Some number
  pub addr_is : record { ip = ip; port = number } ≡ addr

parts_give : (host port : Option ℕ) (addr : Addr) → addr_of host port ≡ Some addr
    → HostPort host port addr
parts_give None port addr e = cc
parts_give (Some ip) None addr e = cc
parts_give (Some ip) (Some number) addr e =
    record {
      ip = ip;
      number = number;
      host_is = refl;
      port_is = refl;
      addr_is =
          same_Some (record { ip = ip; port = number }) addr e;
    }

parts_read : (host port : Option ℕ) (ip number : ℕ) → host ≡ Some ip → port ≡ Some number
    → addr_of host port ≡ Some (record { ip = ip; port = number })
parts_read host port ip number e f = rw (e, f) refl

addr_gives : (w : List ℕ) (addr : Addr) → addr_in w ≡ Some addr → SpellsAddr w addr
addr_gives w addr e =
    let parts = parts_give (host_value (before_colon w))
    (option_and_then port_value (behind_colon w)) addr e in
    go (behind_colon w) (byte_cut 58 w) parts.ip parts.number parts.host_is parts.port_is
    parts.addr_is
  where
    go : (rest : Option (List ℕ)) → ByteCut 58 w (before_colon w) rest → (ip number : ℕ)
        → host_value (before_colon w) ≡ Some ip → option_and_then port_value rest ≡ Some number
        → record { ip = ip; port = number } ≡ addr → SpellsAddr w addr
    go None cut ip number f g same = cc
    go (Some rest) cut ip number f g same =
        let whole : w ≡ before_colon w ++ codes ":" ++ rest =
        cut ∙ sym (append_assoc (before_colon w) (58 ∷ []) rest) in
        let spelled : SpellsAddr (before_colon w ++ codes ":" ++ rest)
        (record { ip = ip; port = number })
        = host_port ((hosts (before_colon w) ip).0 f) ((ports rest number).0 g) in
        subst (SpellsAddr w) same
        (subst (λ (xs : List ℕ). SpellsAddr xs (record { ip = ip; port = number }))
        (sym whole) spelled)

digit_no_colon : (b : ℕ) → is_digit b ≡ true → is_colon b ≡ false
digit_no_colon b h = grind (arith, nat_tests)

digit_no_star : (b : ℕ) → is_digit b ≡ true → is_star b ≡ false
digit_no_star b h = grind (arith, nat_tests)

host_no_colon : {s : List ℕ} {ip : ℕ} → SpellsHost s ip → Lacks is_colon s
host_no_colon r =
    let local : Lacks is_colon (codes "localhost")
    = lacks refl (lacks refl
    (lacks refl (lacks refl
    (lacks refl (lacks refl (lacks refl (lacks refl (lacks refl lacks_none)))))))) in
    host_lacks is_colon digit_no_colon refl local r

host_no_star : {s : List ℕ} {ip : ℕ} → SpellsHost s ip → Lacks is_star s
host_no_star r =
    let local : Lacks is_star (codes "localhost")
    = lacks refl (lacks refl
    (lacks refl (lacks refl
    (lacks refl (lacks refl (lacks refl (lacks refl (lacks refl lacks_none)))))))) in
    host_lacks is_star digit_no_star refl local r

addr_reads : (w : List ℕ) (addr : Addr) → SpellsAddr w addr → addr_in w ≡ Some addr
addr_reads w addr (host_port {h = h} {p = p} {ip = ip} {port = number} host to) =
    ap addr_in (append_assoc h (58 ∷ []) p)
    ∙ parts_read (host_value (before_colon (h ++ 58 ∷ p)))
    (option_and_then port_value (behind_colon (h ++ 58 ∷ p))) ip number
    (ap host_value (before_at 58 (host_no_colon host) p) ∙ host_read host)
    (ap (option_and_then port_value) (behind_at 58 (host_no_colon host) p) ∙ port_read to)

addr_bare : (q : ℕ → Bool) → ((s : List ℕ) (ip : ℕ) → SpellsHost s ip → Lacks q s)
    → ((b : ℕ) → is_digit b ≡ true → q b ≡ false) → q 58 ≡ false
    → {w : List ℕ} {addr : Addr} → SpellsAddr w addr → Lacks q w
addr_bare q on_host on_digit colon (host_port {h = h} {ip = ip} host to) =
    let mark : Lacks q (codes ":") = lacks colon lacks_none in
    lacks_append q (lacks_append q (on_host h ip host) mark) (port_lacks q on_digit to)

addr_lacks : (w : List ℕ) (addr : Addr) → SpellsAddr w addr → Lacks is_gap w
addr_lacks w addr r = addr_bare is_gap (λ s ip h. host_no_gaps h) digit_no_gap refl r

addr_some : (w : List ℕ) (addr : Addr) → SpellsAddr w addr → 1 ≤ length w
addr_some w addr (host_port {h = h} {p = p} host to) =
    let some : 1 ≤ length h = some_host host in
    omega (arith, some, length-append (h ++ codes ":") p, length-append h (codes ":"))

pub addrs : Reads addr_in SpellsAddr
addrs = record {
  gives = λ w v bare e. addr_gives w v e;
  reads = addr_reads;
  lacks_gaps =
      addr_lacks;
  some = addr_some;
}

-- ---- addresses with weights

record AddrWeight (addr : Option Addr) (weight : Option ℕ) (item : Weighted) : Type 0 where
  pub at : Addr
  pub number : ℕ
  pub addr_is : addr ≡ Some at
  pub weight_is : weight ≡ Some number
  pub item_is : record { addr = at; weight = number } ≡ item

items_give : (addr : Option Addr) (weight : Option ℕ) (item : Weighted)
    → with_weight addr weight ≡ Some item → AddrWeight addr weight item
items_give None weight item e = cc
items_give (Some at) None item e = cc
items_give (Some at) (Some number) item e =
    record {
      at = at;
      number = number;
      addr_is = refl;
      weight_is = refl;
      item_is =
          same_Some (record { addr = at; weight = number }) item e;
    }

items_read : (addr : Option Addr) (weight : Option ℕ) (at : Addr) (number : ℕ) → addr ≡ Some at
    → weight ≡ Some number
    → with_weight addr weight ≡ Some (record { addr = at; weight = number })
items_read addr weight at number e f = rw (e, f) refl

lacks_front : (q : ℕ → Bool) (s t : List ℕ) → Lacks q (s ++ t) → Lacks q s × Lacks q t
lacks_front q [] t r = (lacks_none, r)
lacks_front q (b ∷ bs) t (lacks h r) = let rest = lacks_front q bs t r in (lacks h rest.0, rest.1)

bare_gaps : {s : List ℕ} → AreGaps s → Lacks is_gap s → s ≡ []
bare_gaps no_gap r = refl
bare_gaps (gap h q) (lacks f r) = absurd (true≢false (sym h ∙ f))

module _ (weights : ComputesWeights) where
  -- a text without gaps that has a weight is the weight's
  bare_weight : (text : List ℕ) (n : ℕ) → Lacks is_gap text → line_weight (Some text) ≡ Some n
      → SpellsWeight text n × (1 ≤ n)
  bare_weight text n bare e =
      let k = weighs weights text n e in
      let around : InGaps text k.word = k.around in
      let parts = lacks_front is_gap around.before (k.word ++ around.behind)
      (subst (Lacks is_gap) around.is bare) in
      let tail = lacks_front is_gap k.word around.behind parts.1 in
      let front : around.before ≡ [] = bare_gaps around.gaps parts.0 in
      let end : around.behind ≡ [] = bare_gaps around.more tail.1 in
      let same : text ≡ k.word =
      around.is ∙ (ap (λ (xs : List ℕ). xs ++ (k.word ++ around.behind)) front
      ∙ (ap (λ (xs : List ℕ). k.word ++ xs) end ∙ append_none k.word)) in
      (subst (λ (xs : List ℕ). SpellsWeight xs n) (sym same) k.spells, k.some)

  item_gives : (w : List ℕ) (item : Weighted) → Lacks is_gap w → weighted_in w ≡ Some item
      → SpellsItem w item
  item_gives w item bare e =
      let parts = items_give (addr_in (before_star w)) (line_weight (behind_star w)) item e in
      let addr = addr_gives (before_star w) parts.at parts.addr_is in
      subst (SpellsItem w) parts.item_is
      (go (behind_star w) (before_star w) (byte_cut 42 w) parts.at parts.number addr
      parts.weight_is)
    where
      go : (rest : Option (List ℕ)) (front : List ℕ) → ByteCut 42 w front rest
          → (at : Addr) (number : ℕ) → SpellsAddr front at → line_weight rest ≡ Some number
          → SpellsItem w (record { addr = at; weight = number })
      go None front cut at number addr f =
          let one : SpellsItem w (record { addr = at; weight = one_whole }) =
          whole_item (subst (λ (xs : List ℕ). SpellsAddr xs at) (sym cut) addr) in
          subst (λ n. SpellsItem w (record { addr = at; weight = n }))
          (same_Some one_whole number f) one
      go (Some rest) front cut at number addr f =
          let parts = lacks_front is_gap front (42 ∷ rest) (subst (Lacks is_gap) cut bare) in
          let tail = lacks_front is_gap (codes "*") rest parts.1 in
          let weight = bare_weight rest number tail.1 f in
          let whole : w ≡ front ++ codes "*" ++ rest =
          cut ∙ sym (append_assoc front (42 ∷ []) rest) in
          let spelled : SpellsItem (front ++ codes "*" ++ rest)
          (record { addr = at; weight = number }) = weighed_item addr weight.0 weight.1 in
          subst (λ (xs : List ℕ). SpellsItem xs (record { addr = at; weight = number }))
          (sym whole) spelled

  addr_no_star : {w : List ℕ} {addr : Addr} → SpellsAddr w addr → Lacks is_star w
  addr_no_star r = addr_bare is_star (λ s ip h. host_no_star h) digit_no_star refl r

  weight_reads : (w : List ℕ) (n : ℕ) → SpellsWeight w n → 1 ≤ n → line_weight (Some w) ≡ Some n
  weight_reads w n r least =
      let alone : single_word w ≡ Some w = ap single_word (sym (append_none w))
      ∙ single_is no_gap (weight_lacks r) (some_weight_text r) no_gap in
      ap (λ (o : Option (List ℕ)). option_and_then some_weight (option_and_then weight_of o)) alone
      ∙ (ap (option_and_then some_weight) ((weights w n).1 r) ∙ weight_stays n least)

  item_reads : (w : List ℕ) (item : Weighted) → SpellsItem w item → weighted_in w ≡ Some item
  item_reads w item (whole_item {addr = at} r) =
      items_read (addr_in (before_star w)) (line_weight (behind_star w)) at one_whole
      (ap addr_in (before_all 42 (addr_no_star r)) ∙ addr_reads w at r)
      (ap line_weight (behind_all 42 (addr_no_star r)))
  item_reads w item (weighed_item {s = s} {w = text} {addr = at} {n = n} r weight least) =
      ap weighted_in (append_assoc s (42 ∷ []) text)
      ∙ items_read (addr_in (before_star (s ++ 42 ∷ text)))
      (line_weight (behind_star (s ++ 42 ∷ text))) at n
      (ap addr_in (before_at 42 (addr_no_star r) text) ∙ addr_reads s at r)
      (ap line_weight (behind_at 42 (addr_no_star r) text) ∙ weight_reads text n weight least)

  item_lacks : (w : List ℕ) (item : Weighted) → SpellsItem w item → Lacks is_gap w
  item_lacks w item (whole_item {addr = at} r) = addr_lacks w at r
  item_lacks w item (weighed_item {s = s} {addr = at} r weight least) =
      let star : Lacks is_gap (codes "*") = lacks refl lacks_none in
      lacks_append is_gap (lacks_append is_gap (addr_lacks s at r) star) (weight_lacks weight)

  item_some : (w : List ℕ) (item : Weighted) → SpellsItem w item → 1 ≤ length w
  item_some w item (whole_item {addr = at} r) = addr_some w at r
  item_some w item (weighed_item {s = s} {w = text} {addr = at} r weight least) =
      let some : 1 ≤ length s = addr_some s at r in
      omega (arith, some, length-append (s ++ codes "*") text, length-append s (codes "*"))

  pub items : Reads weighted_in SpellsItem
  items = record {
    gives = item_gives;
    reads = item_reads;
    lacks_gaps = item_lacks;
    some =
        item_some;
  }
