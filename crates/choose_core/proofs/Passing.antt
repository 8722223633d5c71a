-- Addresses that pass through a sieve, one by one along a list.
use Rattle.std.proofs.Common.{◌≡◌, ℕ, zero, suc, ◌+◌, ◌<◌, List, [], ◌∷◌, length, get_or, drop}
use Rattle.std.proofs.Common.{Bool, true, false, cond, None, refl, sym, ap, ◌∙◌, arith, not}
use Rattle.std.proofs.Common.{add-one, drop-cons}
use Rattle.std.specs.Prelude.{filter, slice_get, ◌||◌}
use Rattle.addr_book.specs.declared.addr.Weighted.{Weighted}
use Rattle.addr_book.specs.declared.addr.Addr.{Addr}
use Rattle.choose_core.specs.declared.mark.Limits.{Limits}
use Rattle.choose_core.specs.declared.sieve.Sieve.{Sieve}
use Rattle.choose_core.specs.Mark.{is_dead_mark}
use Rattle.choose_core.specs.Marks.{MarkMap, mark_at}
use Rattle.choose_core.specs.Live.{is_alive, some_or_all, live_of}
use Rattle.choose_core.specs.Sieve.{passes, passing}

-- a list from a place on
pub cut_or : {X : Type 0} (xs : List X) (i : ℕ) (d : X) → i < length xs
    → drop i xs ≡ get_or xs i d ∷ drop (i + 1) xs
cut_or xs i d lt = rw add-one (drop-cons xs i d lt)

pub cut : {X : Type 0} (xs : List X) (i : ℕ) (x : X) → i < length xs → x ≡ get_or xs i x
    → drop i xs ≡ x ∷ drop (i + 1) xs
cut xs i x lt is = rw add-one (drop-cons xs i x lt ∙ (λ j. sym is j ∷ drop (suc i) xs))

module _ {X : Type 0} (p : X → Bool) where
  pub filter_all : ((x : X) → p x ≡ true) → (xs : List X) → filter p xs ≡ xs
  filter_all all [] = refl
  filter_all all (x ∷ xs) = ap (λ b. cond b (x ∷ filter p xs) (filter p xs)) (all x)
      ∙ ap (λ (ys : List X). x ∷ ys) (filter_all all xs)

  -- the next of a list passes, or does not
  pub read_passes : (xs : List X) (i : ℕ) (d : X) → i < length xs → p (get_or xs i d) ≡ true
      → filter p (drop i xs) ≡ get_or xs i d ∷ filter p (drop (i + 1) xs)
  read_passes xs i d lt t =
      ap (filter p) (cut_or xs i d lt) ∙ ap
      (λ b. cond b (get_or xs i d ∷ filter p (drop (i + 1) xs)) (filter p (drop (i + 1) xs))) t

  pub read_stays : (xs : List X) (i : ℕ) (d : X) → i < length xs → p (get_or xs i d) ≡ false
      → filter p (drop i xs) ≡ filter p (drop (i + 1) xs)
  read_stays xs i d lt t =
      ap (filter p) (cut_or xs i d lt) ∙ ap
      (λ b. cond b (get_or xs i d ∷ filter p (drop (i + 1) xs)) (filter p (drop (i + 1) xs))) t

-- the live list is what passes, where all pass if none has failures, or if none is alive
abbrev pub sieved : Bool → MarkMap → ℕ → Limits → List Weighted → List Weighted
sieved all marks moment limits list = filter (λ item. all || is_alive marks moment limits item) list

pub or_all : (list : List Weighted) → some_or_all list list ≡ list
or_all [] = refl
or_all (item ∷ list) = refl

-- all pass where no address is dead
pub all_over : (marks : MarkMap) (moment : ℕ) (limits : Limits) (list : List Weighted)
    → ((addr : Addr) (limits : Limits) → is_dead_mark (mark_at marks addr) moment limits ≡ false)
    → sieved true marks moment limits list ≡ live_of marks moment limits list
all_over marks moment limits list none =
    let kept : filter (is_alive marks moment limits) list ≡ list =
    filter_all (is_alive marks moment limits) (λ item. ap not (none item.addr limits)) list in
    filter_all (λ _. true) (λ _. refl) list
    ∙ sym (ap (λ some. some_or_all some list) kept ∙ or_all list)

-- where all pass the list is whole
pub whole : (sieve : Sieve) (list : List Weighted) → sieve.all ≡ true → passing sieve list ≡ list
whole sieve list all = filter_all (passes sieve)
    (λ item. ap (λ b. b || is_alive sieve.marks.now sieve.moment sieve.limits item) all) list

some_or : (some all : List Weighted) → 0 < length all → 0 < length (some_or_all some all)
some_or [] all more = more
some_or (item ∷ some) all more = omega arith

-- a live list is not empty
pub live_some : (marks : MarkMap) (moment : ℕ) (limits : Limits) (list : List Weighted)
    → 0 < length list → 0 < length (live_of marks moment limits list)
live_some marks moment limits list more =
    some_or (filter (is_alive marks moment limits) list) list more

-- a place within a list has an address
pub has_place : (list : List Weighted) (at : ℕ) → at < length list → slice_get list at ≡ None → ⊥
has_place [] at lt none = omega arith
has_place (item ∷ list) zero lt none = cc
has_place (item ∷ list) (suc at) lt none = has_place list at (omega arith) none
