-- Rings that are turned once round, and rings with one more.
use Rattle.std.proofs.Common.{◌≡◌, ℕ, zero, suc, ◌+◌, ◌-◌, ◌<◌, ◌≤◌, Bool, true, false, List, []}
use Rattle.std.proofs.Common.{◌∷◌, ◌++◌, length, map, take, drop, get_or, Some, None, refl, sym, ap}
use Rattle.std.proofs.Common.{subst, ◌∙◌, arith, add-one, append_assoc, drop-cons, length-append}
use Rattle.std.proofs.Common.{length-drop}
use Rattle.std.specs.Prelude.{filter, nat_lt, if◌then◌else◌, slice_get}
use Rattle.std.proofs.lemmas.List.{append-nil, take_all, take_more, drop_all, length-map}
use Rattle.std.proofs.lemmas.List.{map-append, length-take-le, drop-append-le, drop-map}
use Rattle.std.proofs.lemmas.List.Elements.{filter-append}
use Rattle.std.proofs.lemmas.Bool.Decides.{nat_tests}
use Rattle.circular_buffer.specs.Buffer.{Buffer, buffer, keep_last}
use Rattle.bind_cache.specs.Cache.{with_room, most_kept}
use Rattle.bind_cache.specs.Chain.{Chained}

-- where there is room, one more is behind the others
pub keep_last_all : {X : Type 0} (n : ℕ) (xs : List X) → length xs ≤ n → keep_last n xs ≡ xs
keep_last_all n xs few = let none : length xs - n ≡ 0 = omega arith in ap (λ k. drop k xs) none

pub keep_last-push : {X : Type 0} (xs : List X) (x : X) → length xs ≤ most_kept
    → keep_last most_kept (xs ++ x ∷ []) ≡ with_room xs ++ x ∷ []
keep_last-push xs x few =
    let one_more = length-append xs (x ∷ []) in
    let P : Bool → Type 0 = λ b. nat_lt (length xs) most_kept ≡ b
    → keep_last most_kept (xs ++ x ∷ []) ≡ (if b then xs else drop 1 xs) ++ x ∷ [] in
    let each : P (nat_lt (length xs) most_kept) =
    elim (nat_lt (length xs) most_kept) as P [
      | true ↦ (λ e. let less : length xs < most_kept = grind (arith, nat_tests) in
          keep_last_all most_kept (xs ++ x ∷ []) (omega (arith, one_more, less)))
      | false ↦ (λ e.
          let full : most_kept ≤ length xs = grind (arith, nat_tests) in
          let one : length (xs ++ x ∷ []) - most_kept ≡ 1 = omega (arith, one_more, full, few) in
          ap (λ k. drop k (xs ++ x ∷ [])) one ∙ drop-append-le 1 xs (x ∷ []) (omega (arith, full)))
    ] in
    each refl

pub map-with_room : {X Y : Type 0} (f : X → Y) (xs : List X)
    → map f (with_room xs) ≡ with_room (map f xs)
map-with_room f xs =
    let same : nat_lt (length (map f xs)) most_kept ≡ nat_lt (length xs) most_kept =
    ap (λ n. nat_lt n most_kept) (length-map xs f) in
    let P : Bool → Type 0 = λ b. map f (if b then xs else drop 1 xs)
    ≡ (if b then map f xs else drop 1 (map f xs)) in
    let each : P (nat_lt (length xs) most_kept) =
    elim (nat_lt (length xs) most_kept) as P [ true ↦ refl | false ↦ sym (drop-map f 1 xs) ] in
    each ∙ ap (λ (b : Bool). if b then map f xs else drop 1 (map f xs)) (sym same)

pub map-keep_last : {X Y : Type 0} (f : X → Y) (xs : List X) (x : X) → length xs ≤ most_kept
    → map f (keep_last most_kept (xs ++ x ∷ [])) ≡ with_room (map f xs) ++ f x ∷ []
map-keep_last f xs x few = ap (map f) (keep_last-push xs x few)
    ∙ (map-append f (with_room xs) (x ∷ []) ∙ ap (λ ys. ys ++ f x ∷ []) (map-with_room f xs))

pub length-filter_le : {X : Type 0} (keeps : X → Bool) (xs : List X)
    → length (filter keeps xs) ≤ length xs
length-filter_le keeps [] = omega arith
length-filter_le keeps (x ∷ xs) =
    let rest = length-filter_le keeps xs in
    let P : Bool → Type 0 = λ b. length (if b then x ∷ filter keeps xs else filter keeps xs)
    ≤ length (x ∷ xs) in
    let each : P (keeps x) = elim (keeps x) as P
    [ true ↦ omega (arith, rest) | false ↦ omega (arith, rest) ] in
    each

pub filter_all : {X : Type 0} (keeps : X → Bool) (xs : List X)
    → length (filter keeps xs) ≡ length xs → filter keeps xs ≡ xs
filter_all keeps [] same = refl
filter_all keeps (x ∷ xs) same =
    let fewer = length-filter_le keeps xs in
    let P : Bool → Type 0 = λ b. length (if b then x ∷ filter keeps xs else filter keeps xs)
    ≡ length (x ∷ xs) → (if b then x ∷ filter keeps xs else filter keeps xs) ≡ x ∷ xs in
    let each : P (keeps x) =
    elim (keeps x) as P [
      | true ↦ (λ e. ap (λ ys. x ∷ ys) (filter_all keeps xs (omega (arith, e))))
      | false ↦ (λ e. absurd (omega (arith, e, fewer)))
    ] in
    each same

-- a ring that is turned: what is kept of its first so many items stands behind the others
module _ {X : Type 0} (keeps : X → Bool) (o : List X) (cap : ℕ) where
  abbrev pub Turned : ℕ → Buffer X → Type 0
  Turned k b = b ≡ buffer (drop k o ++ filter keeps (take k o)) cap

  module _ (k : ℕ) (b : Buffer X) (stands : Turned k b) (within : k < length o) where
    record Head : Type 0 where
      item : X
      is : item ≡ get_or o k item
      rest : b.items ≡ item ∷ (drop (suc k) o ++ filter keeps (take k o))

    head : Head
    head =
        let P : List X → Type 0 = λ xs. drop k o ≡ xs → Head in
        let each : P (drop k o) =
        elim (drop k o) as P [
          | [] ↦ (λ e. absurd (omega (arith, length-drop k o, ap length e)))
          | y ∷ ys ↦ (λ e.
              let cut : y ∷ ys ≡ get_or o k y ∷ drop (suc k) o = sym e ∙ drop-cons o k y within in
              let is : y ≡ get_or o k y = cc in
              record {
                item = y;
                is = is;
                rest = ap (λ (c : Buffer X). c.items) stands
                    ∙ ap (λ xs. xs ++ filter keeps (take k o))
                    (drop-cons o k y within ∙ ap (λ (z : X). z ∷ drop (suc k) o) (sym is));
              })
        ] in
        each refl

    pub has_head : slice_get b.items 0 ≡ None → ⊥
    has_head none = let h = head in let some : slice_get b.items 0 ≡ Some h.item =
        ap (λ xs. slice_get xs 0) h.rest in cc

    module _ (x : X) (after : Buffer X) (first : slice_get b.items 0 ≡ Some x)
        (popped : after ≡ buffer (drop 1 b.items) b.capacity) where
      item_is : x ≡ head.item
      item_is = let some : slice_get b.items 0 ≡ Some head.item =
          ap (λ xs. slice_get xs 0) head.rest in cc

      here : x ≡ get_or o k x
      here = subst (λ (y : X). y ≡ get_or o k y) (sym item_is) head.is

      after_is : after ≡ buffer (drop (suc k) o ++ filter keeps (take k o)) cap
      after_is = popped ∙ (ap (λ xs. buffer (drop 1 xs) b.capacity) head.rest
          ∙ ap (λ n. buffer (drop (suc k) o ++ filter keeps (take k o)) n)
          (ap (λ (c : Buffer X). c.capacity) stands))

      next : filter keeps (take (k + 1) o) ≡ filter keeps (take k o)
          ++ (if keeps x then x ∷ [] else [])
      next = ap (filter keeps) (take_more o k x within
          ∙ ap (λ (y : X). take k o ++ y ∷ []) (sym here)) ∙ filter-append keeps (take k o) (x ∷ [])

      pub dropped : keeps x ≡ false → Turned (k + 1) after
      dropped lets =
          let none : filter keeps (take (k + 1) o) ≡ filter keeps (take k o) =
          next ∙ (ap (λ (b : Bool). filter keeps (take k o) ++ (if b then x ∷ [] else [])) lets
          ∙ append-nil (filter keeps (take k o))) in
          after_is ∙ (ap (λ n. buffer (drop n o ++ filter keeps (take k o)) cap) (sym (add-one k))
          ∙ ap (λ xs. buffer (drop (k + 1) o ++ xs) cap) (sym none))

      pub put_back : (final : Buffer X) → length o ≤ cap → keeps x ≡ true
          → final ≡ buffer (keep_last after.capacity (after.items ++ x ∷ [])) after.capacity
          → Turned (k + 1) final
      put_back final few has pushed =
          let one : filter keeps (take (k + 1) o) ≡ filter keeps (take k o) ++ x ∷ [] =
          next ∙ ap (λ (b : Bool). filter keeps (take k o) ++ (if b then x ∷ [] else [])) has in
          let items : after.items ≡ drop (suc k) o ++ filter keeps (take k o) =
          ap (λ (c : Buffer X). c.items) after_is in
          let full : after.items ++ x ∷ [] ≡ drop (k + 1) o ++ filter keeps (take (k + 1) o) =
          ap (λ xs. xs ++ x ∷ []) items
          ∙ (append_assoc (drop (suc k) o) (filter keeps (take k o)) (x ∷ [])
          ∙ (ap (λ n. drop n o ++ (filter keeps (take k o) ++ x ∷ [])) (sym (add-one k))
          ∙ ap (λ xs. drop (k + 1) o ++ xs) (sym one))) in
          let size : length (after.items ++ x ∷ []) ≤ cap =
          omega (
            arith,
            ap length full,
            length-append (drop (k + 1) o)
                (filter keeps (take (k + 1) o)),
            length-drop (k + 1) o,
            length-filter_le keeps (take (k + 1) o),
            length-take-le (k + 1) o (omega arith),
            few,
          ) in
          let room : after.capacity ≡ cap = ap (λ (c : Buffer X). c.capacity) after_is in
          pushed ∙ (ap (λ n. buffer (keep_last n (after.items ++ x ∷ [])) n) room
          ∙ (ap (λ xs. buffer xs cap) (keep_last_all cap (after.items ++ x ∷ []) size ∙ full)))

  pub turned_all : (k : ℕ) (b : Buffer X) → length o ≤ k → Turned k b
      → b ≡ buffer (filter keeps o) cap
  turned_all k b past stands = stands
      ∙ (ap (λ xs. buffer (xs ++ filter keeps (take k o)) cap) (drop_all k o past)
      ∙ ap (λ xs. buffer (filter keeps xs) cap) (take_all k o past))

-- members of a list, one by one
pub one_more_of : {X : Type 0} (h : X → ℕ) (xs : List X) (k : ℕ) (x : X) → slice_get xs k ≡ Some x
    → map h (take (k + 1) xs) ≡ map h (take k xs) ++ h x ∷ []
one_more_of h [] k x is = absurd (cc)
one_more_of h (y ∷ ys) zero x is = let same : y ≡ x = cc in ap (λ z. h z ∷ []) same
one_more_of h (y ∷ ys) (suc k) x is =
    let rest = one_more_of h ys k x is in
    let e : suc k + 1 ≡ suc (k + 1) = omega arith in
    rw e (ap (λ ns. h y ∷ ns) rest)

pub there_is : {X : Type 0} (xs : List X) (k : ℕ) → k < length xs → slice_get xs k ≡ None → ⊥
there_is [] k within is = omega arith
there_is (y ∷ ys) zero within is = cc
there_is (y ∷ ys) (suc k) within is = there_is ys k (omega arith) is

-- hashes of the first so many members, and one more
pub chained_more : {X : Type 0} (h : X → ℕ) (items : List X) (at : ℕ) (x : X)
    (chains after : Chained) (n : ℕ) → chains
    ≡ record { first = 1; hashes = map h (take at items) } → slice_get items at ≡ Some x → n ≡ h x
    → after ≡ record { first = chains.first; hashes = chains.hashes ++ n ∷ [] }
    → after ≡ record { first = 1; hashes = map h (take (at + 1) items) }
chained_more h items at x chains after n stands here is pushed =
    let make : ℕ → List ℕ → Chained = λ first hashes. record { first = first; hashes = hashes } in
    pushed
    ∙ (ap (λ (c : Chained). make c.first (c.hashes ++ n ∷ [])) stands
    ∙ (ap (λ m. make 1 (map h (take at items) ++ m ∷ [])) is
    ∙ ap (make 1) (sym (one_more_of h items at x here))))

-- what is kept of a list, seen otherwise
pub map-filter : {X Y : Type 0} (f : X → Y) (keeps : Y → Bool) (xs : List X)
    → map f (filter (λ x. keeps (f x)) xs) ≡ filter keeps (map f xs)
map-filter f keeps [] = refl
map-filter f keeps (x ∷ xs) =
    let rest = map-filter f keeps xs in
    let P : Bool → Type 0 =
    λ b. map f (if b then x ∷ filter (λ x. keeps (f x)) xs else filter (λ x. keeps (f x)) xs)
    ≡ (if b then f x ∷ filter keeps (map f xs) else filter keeps (map f xs)) in
    let each : P (keeps (f x)) = elim (keeps (f x)) as P
    [ true ↦ ap (λ ys. f x ∷ ys) rest | false ↦ rest ] in
    each
