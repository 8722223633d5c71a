-- Lists of addresses without the repeated ones.
use Rattle.std.proofs.Common.{◌≡◌, ℕ, ◌+◌, ◌<◌, ◌≤◌, Bool, take, get_or, true, false, List, [], ◌∷◌}
use Rattle.std.proofs.Common.{◌++◌, length, refl, sym, ap, ◌∙◌, arith, rules, append-nil, subst}
use Rattle.std.specs.Prelude.{filter, not, ◌||◌, if◌then◌else◌}
use Rattle.std.specs.Cmp.{IsTotalOrder, eq_by_cmp_equiv}
use Rattle.std.specs.Cmp.Rules.{comparing}
use Rattle.std.proofs.lemmas.List.Elements.{filter-append, All-nil, All-cons, All-push, All-head}
use Rattle.std.proofs.lemmas.List.Elements.{All-tail}
use Rattle.std.proofs.lemmas.List.{take_more, take_all}
use Rattle.addr_book.specs.declared.addr.Addr.{Addr}
use Rattle.addr_book.specs.declared.addr.Weighted.{Weighted}
use Rattle.addr_book.specs.AddrList.{addr_cmp, same_addr, has_addr, AreDistinct, IsAddrList}
use Rattle.addr_book.specs.AddrList.{IsWeight, HaveWeights, first_places}

pub addr_total : IsTotalOrder addr_cmp
addr_total = search (comparing, rules)

pub same_flip : (a b : Addr) → same_addr a b ≡ same_addr b a
same_flip a b = (eq_by_cmp_equiv addr_total).symm a b

pub has_more : (xs : List Weighted) (a : Weighted) (q : Addr)
    → has_addr (xs ++ a ∷ []) q ≡ (has_addr xs q || same_addr q a.addr)
has_more [] a q = elim (same_addr q a.addr) as (λ b. (b || false) ≡ b)
    [ true ↦ refl | false ↦ refl ]
has_more (x ∷ xs) a q =
    let e = has_more xs a q in
    elim (same_addr q x.addr) as (λ b. (b || has_addr (xs ++ a ∷ []) q)
    ≡ ((b || has_addr xs q) || same_addr q a.addr)) [ true ↦ refl | false ↦ e ]

-- a list with an address behind it, unless it is there
abbrev with_new : Bool → List Weighted → Weighted → List Weighted
with_new b list a = if b then list else list ++ a ∷ []

without_new : (x : Weighted) (b : Bool) (list : List Weighted) (a : Weighted)
    → x ∷ filter (λ c. not (same_addr c.addr x.addr)) (with_new b list a)
    ≡ with_new (same_addr a.addr x.addr || b)
    (x ∷ filter (λ c. not (same_addr c.addr x.addr)) list) a
without_new x true list a =
    elim (same_addr a.addr x.addr) as (λ s. x ∷ filter (λ c. not (same_addr c.addr x.addr)) list
    ≡ with_new (s || true) (x ∷ filter (λ c. not (same_addr c.addr x.addr)) list) a)
    [ true ↦ refl | false ↦ refl ]
without_new x false list a =
    ap (λ (ys : List Weighted). x ∷ ys)
    (filter-append (λ c. not (same_addr c.addr x.addr)) list (a ∷ []))
    ∙ elim (same_addr a.addr x.addr) as (λ s. x
    ∷ (filter (λ c. not (same_addr c.addr x.addr)) list ++ (if not s then a ∷ [] else []))
    ≡ with_new (s || false) (x ∷ filter (λ c. not (same_addr c.addr x.addr)) list) a) [
      | true ↦ simp append-nil
      | false ↦ refl
    ]

pub first_places_more : (xs : List Weighted) (a : Weighted)
    → first_places (xs ++ a ∷ [])
    ≡ (if has_addr xs a.addr then first_places xs else first_places xs ++ a ∷ [])
first_places_more [] a = refl
first_places_more (x ∷ xs) a =
    ap (λ (ys : List Weighted). x ∷ filter (λ c. not (same_addr c.addr x.addr)) ys)
    (first_places_more xs a) ∙ without_new x (has_addr xs a.addr) (first_places xs) a

has_filtered : (p : Weighted → Bool) (xs : List Weighted) (a : Addr) → has_addr xs a ≡ false
    → has_addr (filter p xs) a ≡ false
has_filtered p [] a h = refl
has_filtered p (x ∷ xs) a h = grind (arith, has_filtered p xs a)

pub distinct_filtered : (p : Weighted → Bool) (xs : List Weighted) → AreDistinct xs
    → AreDistinct (filter p xs)
distinct_filtered p [] h = tt
distinct_filtered p (x ∷ xs) h =
    elim (p x) as (λ b. AreDistinct (if b then x ∷ filter p xs else filter p xs)) [
      | true ↦ (has_filtered p xs x.addr h.0, distinct_filtered p xs h.1)
      | false ↦ distinct_filtered p xs h.1
    ]

has_not_same : (x : Addr) (xs : List Weighted)
    → has_addr (filter (λ c. not (same_addr c.addr x)) xs) x ≡ false
has_not_same x [] = refl
has_not_same x (y ∷ ys) =
    let rest = has_not_same x ys in
    let flip = same_flip x y.addr in
    grind (arith, rest, flip)

pub first_places_distinct : (xs : List Weighted) → AreDistinct (first_places xs)
first_places_distinct [] = tt
first_places_distinct (x ∷ xs) = (
  has_not_same x.addr (first_places xs),
  distinct_filtered (λ c. not (same_addr c.addr x.addr)) (first_places xs)
      (first_places_distinct xs),
)

pub length_filtered : (p : Weighted → Bool) (xs : List Weighted) → length (filter p xs) ≤ length xs
length_filtered p [] = omega arith
length_filtered p (x ∷ xs) =
    let rest = length_filtered p xs in
    elim (p x) as (λ b. length (if b then x ∷ filter p xs else filter p xs) ≤ length (x ∷ xs))
    [ true ↦ omega arith | false ↦ omega arith ]

first_places_few : (xs : List Weighted) → length (first_places xs) ≤ length xs
first_places_few [] = omega arith
first_places_few (x ∷ xs) =
    omega (
      arith,
      first_places_few xs,
      length_filtered (λ c. not (same_addr c.addr x.addr))
          (first_places xs),
    )

pub no_weights : (xs : List Weighted) → xs ≡ [] → HaveWeights xs
no_weights xs e = subst HaveWeights (sym e) (All-nil (λ item. IsWeight item.weight))

pub more_weights : (ys xs : List Weighted) (x : Weighted) → ys ≡ xs ++ x ∷ [] → HaveWeights xs
    → IsWeight x.weight → HaveWeights ys
more_weights ys xs x e h w = subst HaveWeights (sym e)
    (All-push (λ item. IsWeight item.weight) xs x h w)

weights_filtered : (p : Weighted → Bool) (xs : List Weighted) → HaveWeights xs
    → HaveWeights (filter p xs)
weights_filtered p [] h = h
weights_filtered p (x ∷ xs) h =
    let rest = weights_filtered p xs (All-tail (λ item. IsWeight item.weight) x xs h) in
    elim (p x) as (λ b. HaveWeights (if b then x ∷ filter p xs else filter p xs)) [
      | true ↦ All-cons (λ item. IsWeight item.weight) x (filter p xs)
          (All-head (λ item. IsWeight item.weight) x xs h) rest
      | false ↦ rest
    ]

first_places_weights : (xs : List Weighted) → HaveWeights xs → HaveWeights (first_places xs)
first_places_weights [] h = h
first_places_weights (x ∷ xs) h =
    All-cons (λ item. IsWeight item.weight) x _ (All-head (λ item. IsWeight item.weight) x xs h)
    (weights_filtered (λ c. not (same_addr c.addr x.addr)) (first_places xs)
    (first_places_weights xs (All-tail (λ item. IsWeight item.weight) x xs h)))

pub kept_list : (xs : List Weighted) → length xs ≤ 1024 → HaveWeights xs
    → IsAddrList (first_places xs)
kept_list xs few h = record {
  few = omega (arith, first_places_few xs);
  distinct =
      first_places_distinct xs;
  weights = first_places_weights xs h;
}

-- the step of a loop that notes each address and keeps the new ones
module _ (xs : List Weighted) (i : ℕ) (d : Weighted) (lt : i < length xs) where
  abbrev here : Addr
  here = (get_or xs i d).addr

  pub seen_step : (old new : Addr → Bool) → ((q : Addr) → old q ≡ has_addr (take i xs) q)
      → ((q : Addr) → new q ≡ (if same_addr here q then true else old q))
      → (q : Addr) → new q ≡ has_addr (take (i + 1) xs) q
  seen_step old new was is q =
      is q
      ∙ (ap (λ (b : Bool). if same_addr here q then true else b) (was q)
      ∙ (ap (λ (b : Bool). if b then true else has_addr (take i xs) q) (same_flip here q)
      ∙ (turned (same_addr q here) (has_addr (take i xs) q)
      ∙ (sym (has_more (take i xs) (get_or xs i d) q)
      ∙ ap (λ (ys : List Weighted). has_addr ys q) (sym (take_more xs i d lt))))))
    where
      turned : (s h : Bool) → (if s then true else h) ≡ (h || s)
      turned true true = refl
      turned true false = refl
      turned false true = refl
      turned false false = refl

  pub first_step : (items : List Weighted) → items ≡ first_places (take i xs)
      → has_addr (take i xs) here ≡ false → items ++ get_or xs i d ∷ []
      ≡ first_places (take (i + 1) xs)
  first_step items is new =
      rw (take_more xs i d lt, first_places_more (take i xs) (get_or xs i d), new, is) refl

  pub again_step : (items : List Weighted) → items ≡ first_places (take i xs)
      → has_addr (take i xs) here ≡ true → items ≡ first_places (take (i + 1) xs)
  again_step items is old =
      rw (take_more xs i d lt, first_places_more (take i xs) (get_or xs i d), old, is) refl

pub was_new : (added has : Bool) → added ≡ not has → added ≡ true → has ≡ false
was_new added true e t = cc
was_new added false e t = refl

pub was_there : (added has : Bool) → added ≡ not has → added ≡ false → has ≡ true
was_there added true e t = refl
was_there added false e t = cc

pub kept_whole : (xs items : List Weighted) (i : ℕ) → length xs ≤ i → length xs ≤ 1024
    → HaveWeights xs → items ≡ first_places (take i xs) → IsAddrList items
kept_whole xs items i past few weights is = rw (is, take_all i xs past) (kept_list xs few weights)
