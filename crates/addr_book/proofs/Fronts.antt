-- Two lists of addresses that begin alike.
use Rattle.std.proofs.Common.{◌≡◌, ℕ, zero, suc, ◌+◌, ◌-◌, ◌<◌, ◌≤◌, Bool, true, false, List, []}
use Rattle.std.proofs.Common.{◌∷◌, length, take, drop, get_or, refl, sym, ap, ◌∙◌, arith, Option}
use Rattle.std.proofs.Common.{None, cond, subst}
use Rattle.std.specs.Prelude.{◌&&◌, ◌||◌, ◌==◌}
use Rattle.std.specs.FinMap.{FinMap, get}
use Rattle.std.proofs.lemmas.List.{take_rest}
use Rattle.std.proofs.lemmas.Bool.Decides.{nat_tests}
use Rattle.addr_book.specs.declared.addr.Addr.{Addr}
use Rattle.addr_book.specs.declared.addr.Weighted.{Weighted}
use Rattle.addr_book.specs.AddrList.{addr_cmp, same_addr, has_addr, AreDistinct}
use Rattle.addr_book.specs.Uses.{count_at}
use Rattle.addr_book.proofs.SlotSteps.{has_next, same_is}

-- one address more of both
pub same_more : (xs ys : List Weighted) (i : ℕ) (d e : Weighted) → i < length xs → i < length ys
    → ((a : Addr) → has_addr (take i xs) a ≡ has_addr (take i ys) a)
    → (get_or ys i e).addr ≡ (get_or xs i d).addr
    → (a : Addr) → has_addr (take (i + 1) xs) a ≡ has_addr (take (i + 1) ys) a
same_more xs ys i d e lt lu same is a =
    has_next xs i d lt a
    ∙ ((λ j. same a j || same_addr a (sym is j)) ∙ sym (has_next ys i e lu a))

either_part : (xs : List Weighted) (n : ℕ) (a : Addr)
    → has_addr xs a ≡ (has_addr (take n xs) a || has_addr (drop n xs) a)
either_part xs zero a = refl
either_part [] (suc n) a = refl
either_part (x ∷ xs) (suc n) a =
    let rest = either_part xs n a in
    elim (same_addr a x.addr) as (λ b. (b || has_addr xs a)
    ≡ ((b || has_addr (take n xs) a) || has_addr (drop n xs) a)) [ true ↦ refl | false ↦ rest ]

none_later : (xs : List Weighted) (n : ℕ) (a : Addr) → has_addr xs a ≡ false
    → has_addr (drop n xs) a ≡ false
none_later xs zero a none = none
none_later [] (suc n) a none = none
none_later (x ∷ xs) (suc n) a none =
    none_later xs n a (second_of_or (same_addr a x.addr) (has_addr xs a) none)
  where
    second_of_or : (a b : Bool) → (a || b) ≡ false → b ≡ false
    second_of_or true b e = cc
    second_of_or false b e = e

-- an address of the front is not behind it
pub front_alone : (xs : List Weighted) (n : ℕ) (a : Addr) → AreDistinct xs
    → has_addr (take n xs) a ≡ true → has_addr (drop n xs) a ≡ false
front_alone xs zero a h there = cc
front_alone [] (suc n) a h there = cc
front_alone (x ∷ xs) (suc n) a h there =
    let rest : has_addr (take n xs) a ≡ true → has_addr (drop n xs) a ≡ false =
    λ t. front_alone xs n a h.1 t in
    go (same_addr a x.addr) refl there rest
  where
    go : (b : Bool) → same_addr a x.addr ≡ b → (b || has_addr (take n xs) a) ≡ true
        → (has_addr (take n xs) a ≡ true → has_addr (drop n xs) a ≡ false)
        → has_addr (drop n xs) a ≡ false
    go true e t rest = none_later xs n a
        (subst (λ (q : Addr). has_addr xs q ≡ false) (sym (same_is a x.addr e)) h.0)
    go false e t rest = rest t

uses_case : (p b a : Bool) (new old : ℕ) → (p ≡ true → b ≡ false) → (p ≡ true → a ≡ false)
    → new ≡ old + cond a 1 0 - cond b 1 0 → new ≡ old + cond (p || a) 1 0 - cond (p || b) 1 0
uses_case true b a new old no_b no_a is =
    let begin : new ≡ old + 0 - 0 =
    is ∙ (λ i. old + cond (no_a refl i) 1 0 - cond (no_b refl i) 1 0) in
    omega (arith, begin)
uses_case false b a new old no_b no_a is = is

slots_case : (p b z : Bool) (new base : Option ℕ) → (p ≡ true → b ≡ false) → (p ≡ true → z ≡ false)
    → new ≡ cond (b && z) None base → new ≡ cond ((p || b) && z) None base
slots_case true b z new base no_b no_z is =
    is ∙ ((λ i. cond (no_b refl i && z) None base) ∙ (λ i. cond (sym (no_z refl) i) None base))
slots_case false b z new base no_b no_z is = is

not_zero : (n : ℕ) → 1 ≤ n → (n == 0) ≡ false
not_zero n some = grind (arith, nat_tests)

module _ (before after : List Weighted) (n : ℕ)
    (same : (a : Addr) → has_addr (take n before) a ≡ has_addr (take n after) a)
    (before_apart : AreDistinct before) (after_apart : AreDistinct after)
    (gone more : List Weighted) (gone_is : gone ≡ take (length before - n) (drop n before))
    (more_is : more ≡ take (length after - n) (drop n after)) where
  pub gone_distinct : AreDistinct gone
  gone_distinct = subst AreDistinct (sym (gone_is ∙ take_rest before n))
      (distinct_later before n before_apart)
    where
      distinct_later : (xs : List Weighted) (n : ℕ) → AreDistinct xs → AreDistinct (drop n xs)
      distinct_later xs zero h = h
      distinct_later [] (suc n) h = h
      distinct_later (x ∷ xs) (suc n) h = distinct_later xs n h.1

  has_gone : (a : Addr) → has_addr gone a ≡ has_addr (drop n before) a
  has_gone a = ap (λ (xs : List Weighted). has_addr xs a) (gone_is ∙ take_rest before n)

  has_come : (a : Addr) → has_addr more a ≡ has_addr (drop n after) a
  has_come a = ap (λ (xs : List Weighted). has_addr xs a) (more_is ∙ take_rest after n)

  not_gone : (a : Addr) → has_addr (take n before) a ≡ true → has_addr gone a ≡ false
  not_gone a there = has_gone a ∙ front_alone before n a before_apart there

  not_come : (a : Addr) → has_addr (take n before) a ≡ true → has_addr more a ≡ false
  not_come a there = has_come a ∙ front_alone after n a after_apart (sym (same a) ∙ there)

  module _ (uses counts : FinMap addr_cmp ℕ)
      (counted : (a : Addr) → count_at counts a ≡ count_at uses a + cond (has_addr more a) 1 0
      - cond (has_addr gone a) 1 0) where
    pub counts_of_all : (a : Addr) → count_at counts a
        ≡ count_at uses a + cond (has_addr after a) 1 0 - cond (has_addr before a) 1 0
    counts_of_all a =
        uses_case (has_addr (take n before) a) (has_addr gone a) (has_addr more a)
        (count_at counts a) (count_at uses a) (not_gone a) (not_come a) (counted a)
        ∙ (λ i. count_at uses a + cond (sym (all_after) i) 1 0 - cond (sym all_before i) 1 0)
      where
        all_before : has_addr before a ≡ (has_addr (take n before) a || has_addr gone a)
        all_before = either_part before n a
            ∙ ap (λ b. has_addr (take n before) a || b) (sym (has_gone a))

        all_after : has_addr after a ≡ (has_addr (take n before) a || has_addr more a)
        all_after = either_part after n a ∙ (λ i. sym (same a) i || sym (has_come a) i)

    pub kept_of_all : (slots kept : FinMap addr_cmp ℕ)
        → ((a : Addr) → has_addr before a ≡ true → 1 ≤ count_at uses a)
        → ((a : Addr) → get kept a ≡ cond (has_addr gone a && (count_at counts a == 0)) None
        (get slots a))
        → (a : Addr) → get kept a ≡ cond (has_addr before a && (count_at counts a == 0)) None
        (get slots a)
    kept_of_all slots kept used freed a =
        slots_case (has_addr (take n before) a) (has_addr gone a) (count_at counts a == 0)
        (get kept a) (get slots a) (not_gone a) still_used (freed a)
        ∙ (λ i. cond (sym all_before i && (count_at counts a == 0)) None (get slots a))
      where
        all_before : has_addr before a ≡ (has_addr (take n before) a || has_addr gone a)
        all_before = either_part before n a
            ∙ ap (λ b. has_addr (take n before) a || b) (sym (has_gone a))

        still_used : has_addr (take n before) a ≡ true → (count_at counts a == 0) ≡ false
        still_used there =
            let some = used a (all_before ∙ ap (λ b. b || has_addr gone a) there) in
            let as_before : count_at counts a ≡ count_at uses a + 0 - 0 =
            counted a ∙ (λ i. count_at uses a + cond (not_come a there i) 1 0
            - cond (not_gone a there i) 1 0) in
            not_zero (count_at counts a) (omega (arith, some, as_before))

  pub more_distinct : AreDistinct more
  more_distinct = subst AreDistinct (sym (more_is ∙ take_rest after n))
      (distinct_later after n after_apart)
    where
      distinct_later : (xs : List Weighted) (n : ℕ) → AreDistinct xs → AreDistinct (drop n xs)
      distinct_later xs zero h = h
      distinct_later [] (suc n) h = h
      distinct_later (x ∷ xs) (suc n) h = distinct_later xs n h.1
