-- The hosts and ports that are computed from texts are those that the grammar spells.
use Rattle.std.proofs.Common.{◌≡◌, ◌≢◌, ℕ, ◌+◌, ◌-◌, ◌*◌, ◌≤◌, List, [], ◌∷◌, ◌++◌, length, map}
use Rattle.std.proofs.Common.{get_or, Bool, true, false, Option, Some, None, refl, sym, ap, ◌∙◌}
use Rattle.std.proofs.Common.{subst, arith, append_assoc, length-append, true≢false}
use Rattle.std.specs.Prelude.{◌↔◌, nat_le, ◌==◌, if◌then◌else◌, codes, All}
use Rattle.std.specs.List.{slice_split, join_with_byte}
use Rattle.std.specs.Str.{bytes_eq}
use Rattle.std.specs.Option.{option_and_then}
use Rattle.std.proofs.lemmas.Bool.Decides.{nat_tests}
use Rattle.std.proofs.lemmas.List.Elements.{All-nil, All-cons}
use Rattle.std.proofs.lemmas.List.Splits.{slice_split_at, slice_split_none}
use Rattle.std.proofs.lemmas.List.Splits.{join_with_byte-slice_split}
use Rattle.std.proofs.lemmas.Option.{same_Some, option_and_then_some}
use Rattle.std.proofs.lemmas.Slice.Eq.{bytes_eq-Decides}
use Rattle.name_tree.specs.Grammar.{is_digit, AreDigits, no_digit, digit, number}
use Rattle.text_parts.specs.Numbers.{digits_behind, number_value, at_most}
use Rattle.text_parts.specs.Words.{is_gap}
use Rattle.text_parts.proofs.Digits.{at_most_gives, at_most_read}
use Rattle.text_parts.proofs.GapWords.{Lacks, lacks_none, lacks, lacks_append}
use Rattle.addr_book.specs.Addr.{octet_value, ip_of_octets, host_value, port_value}
use Rattle.addr_book.specs.AddrGrammar.{SpellsNumber, one_digit, digits, SpellsOctet, octet}
use Rattle.addr_book.specs.AddrGrammar.{SpellsHost, localhost, octets, SpellsPort, port}
use Rattle.addr_book.proofs.Hosts.{one_part, two_parts, three_parts, more_parts}

-- ---- numbers

digits_give : (n : ℕ) (s : List ℕ) (v : ℕ) → digits_behind n s ≡ Some v
    → AreDigits s × (v ≡ number n s)
digits_give n [] v e = (no_digit, sym (same_Some n v e))
digits_give n (d ∷ ds) v e = go (is_digit d) refl e (digits_give (10 * n + (d - 48)) ds v)
  where
    go : (t : Bool) → is_digit d ≡ t → (if t then digits_behind (10 * n + (d - 48)) ds else None)
        ≡ Some v
        → (digits_behind (10 * n + (d - 48)) ds ≡ Some v → AreDigits ds
        × (v ≡ number (10 * n + (d - 48)) ds))
        → AreDigits (d ∷ ds) × (v ≡ number n (d ∷ ds))
    go true h k more = let rest = more k in (digit h rest.0, rest.1)
    go false h k more = cc

digits_read : {s : List ℕ} → AreDigits s → (n : ℕ) → digits_behind n s ≡ Some (number n s)
digits_read no_digit n = refl
digits_read (digit {b = d} h r) n = rw h (digits_read r (10 * n + (d - 48)))

other_than : (d : ℕ) → (d == 48) ≡ false → d ≢ 48
other_than d h e = grind (arith, nat_tests)

no_zero : (d : ℕ) → d ≢ 48 → (d == 48) ≡ false
no_zero d h = grind (arith, nat_tests)

pub number_gives : (s : List ℕ) (v : ℕ) → number_value s ≡ Some v → SpellsNumber s v
number_gives [] v e = cc
number_gives (d ∷ []) v e =
    let k = digits_give 0 (d ∷ []) v e in subst (SpellsNumber (d ∷ [])) (sym k.1) (one_digit k.0)
number_gives (d ∷ c ∷ cs) v e = go (d == 48) refl e
  where
    go : (t : Bool) → (d == 48) ≡ t → (if t then None else digits_behind 0 (d ∷ c ∷ cs)) ≡ Some v
        → SpellsNumber (d ∷ c ∷ cs) v
    go true h f = cc
    go false h f =
        let k = digits_give 0 (d ∷ c ∷ cs) v f in
        subst (SpellsNumber (d ∷ c ∷ cs)) (sym k.1) (digits (other_than d h) k.0)

pub number_read : {s : List ℕ} {n : ℕ} → SpellsNumber s n → number_value s ≡ Some n
number_read (one_digit r) = digits_read r 0
number_read (digits n (digit h no_digit)) = digits_read (digit h no_digit) 0
number_read (digits {d = d} n (digit h (digit k r))) =
    rw (no_zero d n) (digits_read (digit h (digit k r)) 0)

-- what a number begins with
pub number_first : (P : List ℕ → Type 0) → ((d : ℕ) (ds : List ℕ) → is_digit d ≡ true → P (d ∷ ds))
    → {s : List ℕ} {n : ℕ} → SpellsNumber s n → P s
number_first P f (one_digit (digit {b = d} {s = ds} h r)) = f d ds h
number_first P f (digits n (digit {b = d} {s = ds} h r)) = f d ds h

pub some_digit : {s : List ℕ} {n : ℕ} → SpellsNumber s n → 1 ≤ length s
some_digit r = number_first (λ s. 1 ≤ length s) (λ d ds h. omega arith) r

digits_lack : (p : ℕ → Bool) → ((b : ℕ) → is_digit b ≡ true → p b ≡ false) → {s : List ℕ}
    → AreDigits s → Lacks p s
digits_lack p f no_digit = lacks_none
digits_lack p f (digit {b = b} h r) = lacks (f b h) (digits_lack p f r)

pub number_lacks : (p : ℕ → Bool) → ((b : ℕ) → is_digit b ≡ true → p b ≡ false)
    → {s : List ℕ} {n : ℕ} → SpellsNumber s n → Lacks p s
number_lacks p f (one_digit r) = digits_lack p f r
number_lacks p f (digits n r) = digits_lack p f r

-- ---- hosts

octet_gives : (s : List ℕ) (n : ℕ) → octet_value s ≡ Some n → SpellsOctet s n
octet_gives s n e = let k = at_most_gives 255 (number_value s) n e in
    octet (number_gives s n k.0) k.1

octet_read : {s : List ℕ} {n : ℕ} → SpellsOctet s n → octet_value s ≡ Some n
octet_read (octet {n = n} r le) = ap (at_most 255) (number_read r) ∙ at_most_read 255 n le

four_give : (s t u v : List ℕ) (x y z w : Option ℕ) (ip : ℕ) → octet_value s ≡ x
    → octet_value t ≡ y → octet_value u ≡ z → octet_value v ≡ w
    → ip_of_octets (x ∷ y ∷ z ∷ w ∷ []) ≡ Some ip
    → SpellsHost (join_with_byte 46 (s ∷ t ∷ u ∷ v ∷ [])) ip
four_give s t u v None y z w ip e f g h k = cc
four_give s t u v (Some a) None z w ip e f g h k = cc
four_give s t u v (Some a) (Some b) None w ip e f g h k = cc
four_give s t u v (Some a) (Some b) (Some c) None ip e f g h k = cc
four_give s t u v (Some a) (Some b) (Some c) (Some d) ip e f g h k =
    let host = octets (octet_gives s a e) (octet_gives t b f) (octet_gives u c g)
    (octet_gives v d h) in
    let same : s ++ codes "." ++ t ++ codes "." ++ u ++ codes "." ++ v
    ≡ join_with_byte 46 (s ∷ t ∷ u ∷ v ∷ []) = simp append_assoc refl in
    subst (λ (xs : List ℕ). SpellsHost xs ip) same
    (subst (SpellsHost (s ++ codes "." ++ t ++ codes "." ++ u ++ codes "." ++ v))
    (same_Some (((a * 256 + b) * 256 + c) * 256 + d) ip k) host)

ip_gives : (parts : List (List ℕ)) (ip : ℕ) → ip_of_octets (map octet_value parts) ≡ Some ip
    → SpellsHost (join_with_byte 46 parts) ip
ip_gives [] ip e = cc
ip_gives (s ∷ []) ip e = let none = one_part (octet_value s) in cc
ip_gives (s ∷ t ∷ []) ip e = let none = two_parts (octet_value s) (octet_value t) in cc
ip_gives (s ∷ t ∷ u ∷ []) ip e = let none =
    three_parts (octet_value s) (octet_value t) (octet_value u) in cc
ip_gives (s ∷ t ∷ u ∷ v ∷ []) ip e =
    four_give s t u v (octet_value s) (octet_value t) (octet_value u)
    (octet_value v) ip refl refl refl refl e
ip_gives (s ∷ t ∷ u ∷ v ∷ w ∷ ws) ip e =
    let none = more_parts (octet_value s) (octet_value t) (octet_value u) (octet_value v)
    (octet_value w ∷ map octet_value ws) (omega arith) in cc

host_gives : (text : List ℕ) (ip : ℕ) → host_value text ≡ Some ip → SpellsHost text ip
host_gives text ip e = go (bytes_eq text (codes "localhost")) refl e
  where
    go : (t : Bool) → bytes_eq text (codes "localhost") ≡ t
        → (if t then Some 2130706433 else ip_of_octets
        (map octet_value (slice_split (λ b. b == 46) text))) ≡ Some ip → SpellsHost text ip
    go true h f =
        let same = (bytes_eq-Decides text (codes "localhost")).0 h in
        subst (SpellsHost text) (same_Some 2130706433 ip f)
        (subst (λ (xs : List ℕ). SpellsHost xs 2130706433) (sym same) localhost)
    go false h f = subst (λ (xs : List ℕ). SpellsHost xs ip) (join_with_byte-slice_split 46 text)
        (ip_gives (slice_split (λ b. b == 46) text) ip f)

pub fails : (t : Bool) → (t ≡ true → ⊥) → t ≡ false
fails true h = absurd (h refl)
fails false h = refl

no_localhost : (d : ℕ) (rest : List ℕ) → is_digit d ≡ true
    → bytes_eq (d ∷ rest) (codes "localhost") ≡ false
no_localhost d rest h =
    fails (bytes_eq (d ∷ rest) (codes "localhost")) (λ e.
    let same = (bytes_eq-Decides (d ∷ rest) (codes "localhost")).0 e in
    let first : d ≡ 108 = ap (λ (xs : List ℕ). get_or xs 0 0) same in
    let letter : is_digit 108 ≡ true = subst (λ x. is_digit x ≡ true) first h in
    true≢false (sym letter))

all_lack : (p : ℕ → Bool) {s : List ℕ} → Lacks p s → All (λ b. p b ≡ false) s
all_lack p lacks_none = All-nil (λ b. p b ≡ false)
all_lack p (lacks {b = b} {s = s} h r) = All-cons (λ b. p b ≡ false) b s h (all_lack p r)

abbrev is_point : ℕ → Bool
is_point b = b == 46

digit_no_point : (b : ℕ) → is_digit b ≡ true → is_point b ≡ false
digit_no_point b h = grind (arith, nat_tests)

pub octet_lacks : (p : ℕ → Bool) → ((b : ℕ) → is_digit b ≡ true → p b ≡ false)
    → {s : List ℕ} {n : ℕ} → SpellsOctet s n → Lacks p s
octet_lacks p f (octet r le) = number_lacks p f r

no_points : {s : List ℕ} {n : ℕ} → SpellsOctet s n → All (λ b. is_point b ≡ false) s
no_points r = all_lack is_point (octet_lacks is_point digit_no_point r)

four_read : (x y z w : Option ℕ) (a b c d : ℕ) → x ≡ Some a → y ≡ Some b → z ≡ Some c → w ≡ Some d
    → ip_of_octets (x ∷ y ∷ z ∷ w ∷ []) ≡ Some (((a * 256 + b) * 256 + c) * 256 + d)
four_read x y z w a b c d e f g h = rw (e, f, g, h) refl

chosen : (t : Bool) (x y : Option ℕ) → t ≡ false → (if t then x else y) ≡ y
chosen t x y e = rw e refl

module _ {s t u v : List ℕ} {a b c d : ℕ} (p : SpellsOctet s a) (q : SpellsOctet t b)
    (r : SpellsOctet u c) (w : SpellsOctet v d) where
  split : slice_split is_point (s ++ 46 ∷ (t ++ 46 ∷ (u ++ 46 ∷ v))) ≡ s ∷ t ∷ u ∷ v ∷ []
  split =
      slice_split_at is_point s 46 (t ++ 46 ∷ (u ++ 46 ∷ v)) (no_points p) refl
      ∙ ap (λ (xs : List (List ℕ)). s ∷ xs)
      (slice_split_at is_point t 46 (u ++ 46 ∷ v) (no_points q) refl
      ∙ ap (λ (xs : List (List ℕ)). t ∷ xs) (slice_split_at is_point u 46 v (no_points r) refl
      ∙ ap (λ (xs : List (List ℕ)). u ∷ xs) (slice_split_none is_point v (no_points w))))

  other : bytes_eq (s ++ 46 ∷ (t ++ 46 ∷ (u ++ 46 ∷ v))) (codes "localhost") ≡ false
  other = by p
    where
      by : SpellsOctet s a → bytes_eq (s ++ 46 ∷ (t ++ 46 ∷ (u ++ 46 ∷ v))) (codes "localhost")
          ≡ false
      by (octet n le) =
          number_first (λ (xs : List ℕ). bytes_eq (xs ++ 46 ∷ (t ++ 46 ∷ (u ++ 46 ∷ v)))
          (codes "localhost") ≡ false)
          (λ d ds h. no_localhost d (ds ++ 46 ∷ (t ++ 46 ∷ (u ++ 46 ∷ v))) h) n

  octets_read : host_value (s ++ 46 ∷ (t ++ 46 ∷ (u ++ 46 ∷ v)))
      ≡ Some (((a * 256 + b) * 256 + c) * 256 + d)
  octets_read =
      chosen (bytes_eq (s ++ 46 ∷ (t ++ 46 ∷ (u ++ 46 ∷ v))) (codes "localhost")) (Some 2130706433)
      (ip_of_octets (map octet_value (slice_split is_point (s ++ 46 ∷ (t ++ 46 ∷ (u ++ 46 ∷ v))))))
      other
      ∙ (ap (λ (ps : List (List ℕ)). ip_of_octets (map octet_value ps)) split
      ∙ four_read (octet_value s) (octet_value t) (octet_value u) (octet_value v) a b c d
      (octet_read p) (octet_read q) (octet_read r) (octet_read w))

pub host_read : {text : List ℕ} {ip : ℕ} → SpellsHost text ip → host_value text ≡ Some ip
host_read localhost = refl
host_read (octets {s = s} {t = t} {u = u} {v = v} p q r w) =
    let same : s ++ codes "." ++ t ++ codes "." ++ u ++ codes "." ++ v
    ≡ s ++ 46 ∷ (t ++ 46 ∷ (u ++ 46 ∷ v)) = simp append_assoc refl in
    ap host_value same ∙ octets_read p q r w

pub hosts : (text : List ℕ) (ip : ℕ) → (host_value text ≡ Some ip) ↔ SpellsHost text ip
hosts text ip = (host_gives text ip, host_read)

-- ---- ports

port_gives : (text : List ℕ) (n : ℕ) → port_value text ≡ Some n → SpellsPort text n
port_gives text n e =
    option_and_then_some (λ m. if nat_le 1 m then Some m else None)
    (at_most 65535 (number_value text)) n e
    (λ m is f. let k = at_most_gives 65535 (number_value text) m is in
    go m (number_gives text m k.0) k.1 (nat_le 1 m) refl f)
  where
    go : (m : ℕ) → SpellsNumber text m → m ≤ 65535 → (t : Bool) → nat_le 1 m ≡ t
        → (if t then Some m else None) ≡ Some n → SpellsPort text n
    go m number le true h f =
        let some : 1 ≤ m = grind (arith, nat_tests) in
        subst (SpellsPort text) (same_Some m n f) (port number some le)
    go m number le false h f = cc

pub port_read : {text : List ℕ} {n : ℕ} → SpellsPort text n → port_value text ≡ Some n
port_read (port {n = n} r some le) =
    let e : nat_le 1 n ≡ true = grind (arith, nat_tests) in
    ap (option_and_then (λ m. if nat_le 1 m then Some m else None))
    (ap (at_most 65535) (number_read r) ∙ at_most_read 65535 n le) ∙ rw e refl

pub ports : (text : List ℕ) (n : ℕ) → (port_value text ≡ Some n) ↔ SpellsPort text n
ports text n = (port_gives text n, port_read)

pub port_lacks : (p : ℕ → Bool) → ((b : ℕ) → is_digit b ≡ true → p b ≡ false)
    → {s : List ℕ} {n : ℕ} → SpellsPort s n → Lacks p s
port_lacks p f (port r some le) = number_lacks p f r

pub some_port : {s : List ℕ} {n : ℕ} → SpellsPort s n → 1 ≤ length s
some_port (port r some le) = some_digit r

-- ---- no gap stands in a host

pub digit_no_gap : (b : ℕ) → is_digit b ≡ true → is_gap b ≡ false
digit_no_gap b h = grind (arith, nat_tests)

pub host_lacks : (p : ℕ → Bool) → ((b : ℕ) → is_digit b ≡ true → p b ≡ false) → p 46 ≡ false
    → Lacks p (codes "localhost") → {s : List ℕ} {ip : ℕ} → SpellsHost s ip
    → Lacks p s
host_lacks p f dot name localhost = name
host_lacks p f dot name (octets a b c d) =
    let point : Lacks p (codes ".") = lacks dot lacks_none in
    let one = octet_lacks p f a in
    let two = octet_lacks p f b in
    let three = octet_lacks p f c in
    let four = octet_lacks p f d in
    lacks_append p (lacks_append p
    (lacks_append p (lacks_append p (lacks_append p (lacks_append p one point) two) point) three)
    point) four

pub host_no_gaps : {s : List ℕ} {ip : ℕ} → SpellsHost s ip → Lacks is_gap s
host_no_gaps r =
    let name : Lacks is_gap (codes "localhost")
    = lacks refl (lacks refl
    (lacks refl (lacks refl
    (lacks refl (lacks refl (lacks refl (lacks refl (lacks refl lacks_none)))))))) in
    host_lacks is_gap digit_no_gap refl name r

pub some_host : {s : List ℕ} {ip : ℕ} → SpellsHost s ip → 1 ≤ length s
some_host localhost = omega arith
some_host (octets {s = s} {t = t} {u = u} {v = v} p q r w) =
    let same : s ++ codes "." ++ t ++ codes "." ++ u ++ codes "." ++ v
    ≡ s ++ 46 ∷ (t ++ 46 ∷ (u ++ 46 ∷ v)) = simp append_assoc refl in
    subst (λ (xs : List ℕ). 1 ≤ length xs) (sym same)
    (omega (arith, length-append s (46 ∷ (t ++ 46 ∷ (u ++ 46 ∷ v)))))
