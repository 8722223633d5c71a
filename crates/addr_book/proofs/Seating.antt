-- Slots of addresses: those that stay, and those that are given to new addresses.
use Rattle.std.proofs.Common.{◌≡◌, ℕ, zero, suc, ◌+◌, ◌<◌, ◌≤◌, Bool, true, false, List, [], ◌∷◌}
use Rattle.std.proofs.Common.{length, refl, sym, ap, ◌∙◌, arith, map, Option, Some, None, cond}
use Rattle.std.proofs.Common.{subst}
use Rattle.std.specs.Prelude.{◌||◌, ◌==◌, is_some}
use Rattle.std.specs.Ordering.{eq_by_cmp}
use Rattle.std.specs.List.{list_any}
use Rattle.std.specs.FinMap.{entries, find, get, get-entries, insert, contains_key, values, len}
use Rattle.std.specs.FinMap.{len-insert, get-insert, get-retain_keys}
use Rattle.std.proofs.lemmas.Bool.Decides.{nat_tests}
use Rattle.addr_book.specs.declared.addr.Addr.{Addr}
use Rattle.addr_book.specs.declared.addr.Weighted.{Weighted}
use Rattle.addr_book.specs.AddrList.{addr_cmp, same_addr, has_addr}
use Rattle.addr_book.specs.Book.{Services, Slots, is_used, staying, free_slots, assigned}
use Rattle.addr_book.proofs.AddrLists.{addr_total}
use Rattle.addr_book.proofs.AddrMaps.{addr_only}
use Rattle.addr_book.proofs.SlotSteps.{same_is}

pub get-staying : (slots : Slots) (services : Services) (a : Addr)
    → get (staying slots services) a ≡ cond (is_used services a) (get slots a) None
get-staying slots services a = get-retain_keys slots (is_used services) a
    (λ x t. ap (is_used services) (sym (addr_only a x t)))

contains-insert : (slots : Slots) (k : Addr) (s : ℕ) (a : Addr)
    → contains_key (insert slots k s) a ≡ (same_addr a k || contains_key slots a)
contains-insert slots k s a = ap is_some (get-insert addr_total slots k s a)
    ∙ some_or (same_addr a k) (get slots a)
  where
    some_or : (b : Bool) (x : Option ℕ) → is_some (cond b (Some s) x) ≡ (b || is_some x)
    some_or true x = refl
    some_or false x = refl

or_swap : (a b c : Bool) → (a || (b || c)) ≡ (b || (a || c))
or_swap true true c = refl
or_swap true false c = refl
or_swap false b c = refl

or_false : (a : Bool) → (a || false) ≡ a
or_false true = refl
or_false false = refl

-- exactly those that had a slot, and the new ones, have one, where there are enough slots
pub contains-assigned : (slots : Slots) (news : List Weighted) (free : List ℕ) (a : Addr)
    → length news ≤ length free → contains_key (assigned slots news free) a
    ≡ (contains_key slots a || has_addr news a)
contains-assigned slots [] free a enough = sym (or_false (contains_key slots a))
contains-assigned slots (n ∷ news) [] a enough = absurd (omega arith)
contains-assigned slots (n ∷ news) (s ∷ free) a enough =
    contains-assigned (insert slots n.addr s) news free a (omega arith)
    ∙ (ap (λ b. b || has_addr news a) (contains-insert slots n.addr s a)
    ∙ regroup (same_addr a n.addr) (contains_key slots a) (has_addr news a))
  where
    regroup : (x y z : Bool) → ((x || y) || z) ≡ (y || (x || z))
    regroup true true z = refl
    regroup true false z = refl
    regroup false true z = refl
    regroup false false z = refl

-- no address has any of these slots
abbrev pub AreUnused : Slots → List ℕ → Type 0
AreUnused slots [] = Unit {0}
AreUnused slots (s ∷ free) = ((a : Addr) → get slots a ≡ Some s → ⊥) × AreUnused slots free

-- they rise, from a number on
abbrev pub AreRising : ℕ → List ℕ → Type 0
AreRising from [] = Unit {0}
AreRising from (s ∷ free) = (from ≤ s) × AreRising (suc s) free

abbrev pub IsApart : Slots → Type 0
IsApart slots = (one other : Addr) (slot : ℕ) → get slots one ≡ Some slot
    → get slots other ≡ Some slot → one ≡ other

abbrev pub AreBelow : ℕ → Slots → Type 0
AreBelow end slots = (a : Addr) (slot : ℕ) → get slots a ≡ Some slot → slot < end

-- what an insertion gives: the new slot at its address, or what was there
inserted : (slots : Slots) (k : Addr) (s : ℕ) (a : Addr) (slot : ℕ) (P : Type 0)
    → get (insert slots k s) a ≡ Some slot → (a ≡ k → s ≡ slot → P) → (get slots a ≡ Some slot → P)
    → P
inserted slots k s a slot P is new old =
    go (same_addr a k) refl (sym (get-insert addr_total slots k s a) ∙ is)
  where
    go : (b : Bool) → same_addr a k ≡ b → cond b (Some s) (get slots a) ≡ Some slot → P
    go true e h = new (same_is a k e) (cc)
    go false e h = old h

pub unused_later : (slots : Slots) (k : Addr) (s : ℕ) (free : List ℕ) (from : ℕ) → s < from
    → AreRising from free → AreUnused slots free → AreUnused (insert slots k s) free
unused_later slots k s [] from lt up h = tt
unused_later slots k s (t ∷ free) from lt up h = (
  λ a is. inserted slots k s a t ⊥ is (λ _ e. absurd (omega (arith, up.0, e))) (h.0 a),
  unused_later slots k s free (suc t) (omega (arith, up.0)) up.1 h.1,
)

apart_insert : (slots : Slots) (k : Addr) (s : ℕ) → IsApart slots
    → ((a : Addr) → get slots a ≡ Some s → ⊥) → IsApart (insert slots k s)
apart_insert slots k s apart unused one other slot p q =
    inserted slots k s one slot (one ≡ other) p
    (λ e same. inserted slots k s other slot (one ≡ other) q (λ f _. e ∙ sym f)
    (λ had. absurd (unused other (had ∙ ap Some (sym same)))))
    (λ had. inserted slots k s other slot (one ≡ other) q
    (λ f same. absurd (unused one (had ∙ ap Some (sym same))))
    (λ both. apart one other slot had both))

pub apart-assigned : (slots : Slots) (news : List Weighted) (free : List ℕ) (from : ℕ)
    → IsApart slots → AreRising from free → AreUnused slots free
    → IsApart (assigned slots news free)
apart-assigned slots [] free from apart up unused = apart
apart-assigned slots (n ∷ news) [] from apart up unused = apart
apart-assigned slots (n ∷ news) (s ∷ free) from apart up unused =
    apart-assigned (insert slots n.addr s) news free (suc s)
    (apart_insert slots n.addr s apart unused.0) up.1
    (unused_later slots n.addr s free (suc s) (omega arith) up.1 unused.1)

abbrev pub AllUnder : ℕ → List ℕ → Type 0
AllUnder end [] = Unit {0}
AllUnder end (s ∷ free) = (s < end) × AllUnder end free

pub below-assigned : (slots : Slots) (news : List Weighted) (free : List ℕ) (end : ℕ)
    → AreBelow end slots → AllUnder end free → AreBelow end (assigned slots news free)
below-assigned slots [] free end below under = below
below-assigned slots (n ∷ news) [] end below under = below
below-assigned slots (n ∷ news) (s ∷ free) end below under =
    below-assigned (insert slots n.addr s) news free end
    (λ a slot is. inserted slots n.addr s a slot (slot < end) is
    (λ _ e. subst (λ (x : ℕ). x < end) e under.0) (below a slot)) under.1

pub len_insert : (slots : Slots) (k : Addr) (s : ℕ) → len (insert slots k s) ≤ len slots + 1
len_insert slots k s = rw (len-insert addr_total slots k s)
    (elim (contains_key slots k) as (λ b. cond b (len slots) (len slots + 1) ≤ len slots + 1)
    [ true ↦ omega arith | false ↦ omega arith ])

pub len-assigned : (slots : Slots) (news : List Weighted) (free : List ℕ)
    → len (assigned slots news free) ≤ len slots + length news
len-assigned slots [] free = omega arith
len-assigned slots (n ∷ news) [] = omega arith
len-assigned slots (n ∷ news) (s ∷ free) =
    omega (arith, len-assigned (insert slots n.addr s) news free, len_insert slots n.addr s)

-- ---- the free slots

pub free_rising : (n from : ℕ) (taken : List ℕ) → AreRising from (free_slots n from taken)
free_rising zero from taken = tt
free_rising (suc n) from taken =
    let rest = free_rising n (from + 1) taken in
    elim (list_any (λ slot. slot == from) taken) as (λ b. AreRising from
    (cond b (free_slots n (from + 1) taken) (from ∷ free_slots n (from + 1) taken))) [
      | true ↦ lower from (from + 1) (free_slots n (from + 1) taken) (omega arith) rest
      | false ↦ (
        omega arith,
        subst (λ (m : ℕ). AreRising m (free_slots n (from + 1) taken))
            (omega arith) rest,
      )
    ]
  where
    lower : (low high : ℕ) (ss : List ℕ) → low ≤ high → AreRising high ss → AreRising low ss
    lower low high [] le h = tt
    lower low high (s ∷ ss) le h = (omega (arith, h.0), h.1)

pub free_under : (n from : ℕ) (taken : List ℕ) → AllUnder (from + n) (free_slots n from taken)
free_under zero from taken = tt
free_under (suc n) from taken =
    let rest = subst (λ (m : ℕ). AllUnder m (free_slots n (from + 1) taken)) (omega arith)
    (free_under n (from + 1) taken) in
    elim (list_any (λ slot. slot == from) taken) as (λ b.
    AllUnder (from + suc n)
    (cond b (free_slots n (from + 1) taken) (from ∷ free_slots n (from + 1) taken))) [
      | true ↦ rest
      | false ↦ (omega arith, rest)
    ]

or_true : (b : Bool) → (b || true) ≡ true
or_true true = refl
or_true false = refl

same_test : (m n : ℕ) → m ≡ n → (m == n) ≡ true
same_test m n e = grind (arith, nat_tests)

found_case : (v s : ℕ) (rest : Option ℕ) (later : Bool) → (rest ≡ Some s → later ≡ true)
    → (b : Bool) → cond b (Some v) rest ≡ Some s → ((v == s) || later) ≡ true
found_case v s rest later found true h = ap (λ b. b || later) (same_test v s (cc))
found_case v s rest later found false h = ap (λ b. (v == s) || b) (found h) ∙ or_true (v == s)

found_value : (q : Addr) (s : ℕ) (es : List (Addr × ℕ)) → find addr_cmp q es ≡ Some s
    → list_any (λ slot. slot == s) (map (λ e. e.1) es) ≡ true
found_value q s [] is = cc
found_value q s (e ∷ es) is =
    found_case e.1 s (find addr_cmp q es) (list_any (λ slot. slot == s) (map (λ f. f.1) es))
    (found_value q s es) (eq_by_cmp addr_cmp q e.0) is

pub taken_value : (slots : Slots) (q : Addr) (s : ℕ) → get slots q ≡ Some s
    → list_any (λ slot. slot == s) (values slots) ≡ true
taken_value slots q s is = found_value q s (entries slots) (sym (get-entries slots q) ∙ is)

pub free_unused : (slots : Slots) (n from : ℕ) → AreUnused slots (free_slots n from (values slots))
free_unused slots zero from = tt
free_unused slots (suc n) from = go (free_unused slots n (from + 1))
    (list_any (λ slot. slot == from) (values slots)) refl
  where
    go : AreUnused slots (free_slots n (from + 1) (values slots)) → (b : Bool)
        → list_any (λ slot. slot == from) (values slots) ≡ b
        → AreUnused slots (cond b (free_slots n (from + 1) (values slots))
        (from ∷ free_slots n (from + 1) (values slots)))
    go rest true e = rest
    go rest false e = (λ a is. let t = taken_value slots a from is in cc, rest)

-- a slot below the first is not in question
free_above : (n from t : ℕ) (taken : List ℕ) → t < from
    → free_slots n from (t ∷ taken) ≡ free_slots n from taken
free_above zero from t taken lt = refl
free_above (suc n) from t taken lt =
    let rest = free_above n (from + 1) t taken (omega arith) in
    let other : (t == from) ≡ false = grind (arith, nat_tests) in
    ap (λ (b : Bool). cond (b || list_any (λ slot. slot == from) taken)
    (free_slots n (from + 1) (t ∷ taken)) (from ∷ free_slots n (from + 1) (t ∷ taken))) other
    ∙ ap (λ (ss : List ℕ). cond (list_any (λ slot. slot == from) taken) ss (from ∷ ss)) rest

-- a slot more that is taken leaves at most one less
one_fewer : (n from t : ℕ) (taken : List ℕ) → length (free_slots n from taken)
    ≤ length (free_slots n from (t ∷ taken)) + 1
one_fewer zero from t taken = omega arith
one_fewer (suc n) from t taken = go (one_fewer n (from + 1) t taken) (t == from) refl
  where
    here : (t == from) ≡ true → t ≡ from
    here e = grind (arith, nat_tests)

    go : length (free_slots n (from + 1) taken) ≤ length (free_slots n (from + 1) (t ∷ taken)) + 1
        → (b : Bool) → (t == from) ≡ b → length (free_slots (suc n) from taken)
        ≤ length (cond (b || list_any (λ slot. slot == from) taken)
        (free_slots n (from + 1) (t ∷ taken)) (from ∷ free_slots n (from + 1) (t ∷ taken))) + 1
    go rest true e =
        let same = free_above n (from + 1) t taken (omega (arith, here e)) in
        let long = ap length same in
        elim (list_any (λ slot. slot == from) taken) as (λ c.
        length (cond c (free_slots n (from + 1) taken) (from ∷ free_slots n (from + 1) taken))
        ≤ length (free_slots n (from + 1) (t ∷ taken)) + 1) [
          | true ↦ omega (arith, long)
          | false ↦ omega (arith, long)
        ]
    go rest false e =
        elim (list_any (λ slot. slot == from) taken) as (λ c.
        length (cond c (free_slots n (from + 1) taken) (from ∷ free_slots n (from + 1) taken))
        ≤ length (cond c (free_slots n (from + 1) (t ∷ taken))
        (from ∷ free_slots n (from + 1) (t ∷ taken))) + 1) [
          | true ↦ rest
          | false ↦ omega (arith, rest)
        ]

all_free : (n from : ℕ) → length (free_slots n from []) ≡ n
all_free zero from = refl
all_free (suc n) from = ap suc (all_free n (from + 1))

pub free_enough : (n from : ℕ) (taken : List ℕ) → n
    ≤ length (free_slots n from taken) + length taken
free_enough n from [] = omega (arith, all_free n from)
free_enough n from (t ∷ taken) = omega (arith, free_enough n from taken, one_fewer n from t taken)
