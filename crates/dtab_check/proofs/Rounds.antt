-- A set of members that is closed, and grows by what rounds lead to, is what the rounds lead to.
use Rattle.std.proofs.Common.{◌≡◌, ⊎_elim, ◌⊎◌, inl, inr, ℕ, zero, suc, ◌+◌, ◌<◌, ◌≤◌, Bool, true}
use Rattle.std.proofs.Common.{false, ◌&&◌, List, [], ◌∷◌, ◌++◌, length, map, get_or, set, replicate}
use Rattle.std.proofs.Common.{Vec, Global, refl, sym, ap, subst, ◌∙◌, arith, append_assoc}
use Rattle.std.specs.Prelude.{not, ◌||◌, if◌then◌else◌}
use Rattle.std.proofs.lemmas.Bool.{or_cases, or_left, or_right, and_parts, and_from, cases_eq}
use Rattle.std.proofs.lemmas.Bool.{cases_lt}
use Rattle.std.proofs.lemmas.List.{length-set, get_or-set_same, get_or-set_other}
use Rattle.std.proofs.lemmas.List.{get_or_append_left, get_or_push, length_push, length-replicate}
use Rattle.std.proofs.lemmas.List.{append-nil, set-get_or, ext_get_or}
use Rattle.dtab_check.specs.Rounds.{overlap, next_round, after_rounds, holds, leads, count_known}
use Rattle.dtab_check.specs.Rounds.{IsFound, AreKnown, LeadersKnown, Grows, with_known, with_order}

pub within_true : (xs : List Bool) (i : ℕ) → holds xs i ≡ true → i < length xs
within_true [] i h = cc
within_true (x ∷ xs) zero h = omega arith
within_true (x ∷ xs) (suc i) h = omega (arith, within_true xs i h)

next_round-at : (own : List Bool) (rows : List (List Bool)) (known : List Bool) (i : ℕ)
    → length rows ≡ length own → i < length own
    → holds (next_round own rows known) i ≡ (holds own i || overlap (get_or rows i []) known)
next_round-at [] rows known i same within = absurd (omega arith)
next_round-at (s ∷ ss) [] known i same within = absurd (omega (arith, same))
next_round-at (s ∷ ss) (r ∷ rs) known zero same within = refl
next_round-at (s ∷ ss) (r ∷ rs) known (suc i) same within =
    next_round-at ss rs known i (omega (arith, same)) (omega arith)

length-next_round : (own : List Bool) (rows : List (List Bool)) (known : List Bool)
    → length rows ≡ length own → length (next_round own rows known) ≡ length own
length-next_round [] rows known same = refl
length-next_round (s ∷ ss) [] known same = absurd (omega (arith, same))
length-next_round (s ∷ ss) (r ∷ rs) known same =
    ap suc (length-next_round ss rs known (omega (arith, same)))

pub length-after_rounds : (own : List Bool) (rows : List (List Bool)) (k : ℕ)
    → length rows ≡ length own → length (after_rounds own rows k) ≡ length own
length-after_rounds own rows zero same = refl
length-after_rounds own rows (suc k) same =
    length-next_round own rows (after_rounds own rows k) same

overlap-from : (r known : List Bool) (j : ℕ) → holds r j ≡ true → holds known j ≡ true
    → overlap r known ≡ true
overlap-from [] known j h k = cc
overlap-from (r ∷ rs) [] j h k = cc
overlap-from (r ∷ rs) (k ∷ ks) zero h g = or_left (r && k) (overlap rs ks) (and_from r k h g)
overlap-from (r ∷ rs) (k ∷ ks) (suc j) h g =
    or_right (r && k) (overlap rs ks) (overlap-from rs ks j h g)

overlap-some : (r known : List Bool) → overlap r known ≡ true
    → (j : ℕ) × (holds r j ≡ true) × (holds known j ≡ true)
overlap-some [] known h = cc
overlap-some (r ∷ rs) [] h = cc
overlap-some (r ∷ rs) (k ∷ ks) h =
    ⊎_elim (λ here. let p = and_parts r k here in (0, p.0, p.1))
    (λ later. let w = overlap-some rs ks later in (suc w.0, w.1, w.2))
    (or_cases (r && k) (overlap rs ks) h)

module _ (own : List Bool) (rows : List (List Bool)) (same : length rows ≡ length own) where
  abbrev After : ℕ → ℕ → Type 0
  After k i = holds (after_rounds own rows k) i ≡ true

  pub after-own : (k i : ℕ) → holds own i ≡ true → After k i
  after-own zero i h = h
  after-own (suc k) i h =
      rw (next_round-at own rows (after_rounds own rows k) i same (within_true own i h))
      (or_left (holds own i) (overlap (get_or rows i []) (after_rounds own rows k)) h)

  pub after-lead : (k i j : ℕ) → i < length own → leads rows i j ≡ true → After k j
      → After (suc k) i
  after-lead k i j within lead h =
      rw (next_round-at own rows (after_rounds own rows k) i same within)
      (or_right (holds own i) (overlap (get_or rows i []) (after_rounds own rows k))
      (overlap-from (get_or rows i []) (after_rounds own rows k) j lead h))

  after-within : (k i : ℕ) → After k i → i < length own
  after-within k i h = omega (
    arith,
    within_true (after_rounds own rows k) i h,
    length-after_rounds own rows k same,
  )

  -- by itself, or by one that it leads to
  after-cases : (k i : ℕ) → After (suc k) i → (holds own i ≡ true)
      ⊎ ((j : ℕ) × (leads rows i j ≡ true) × After k j)
  after-cases k i h =
      let parts = next_round-at own rows (after_rounds own rows k) i same
      (after-within (suc k) i h) in
      ⊎_elim (λ by_itself. inl by_itself)
      (λ lead. inr (overlap-some (get_or rows i []) (after_rounds own rows k) lead))
      (or_cases (holds own i) (overlap (get_or rows i []) (after_rounds own rows k))
      (sym parts ∙ h))

  after-more : (k i : ℕ) → After k i → After (suc k) i
  after-more zero i h = after-own (suc zero) i h
  after-more (suc k) i h =
      ⊎_elim (λ by_itself. after-own (suc (suc k)) i by_itself)
      (λ lead. after-lead (suc k) i lead.0 (after-within (suc k) i h) lead.1
      (after-more k lead.0 lead.2)) (after-cases k i h)

  after-upto : (m k i : ℕ) → k ≤ m → After k i → After m i
  after-upto zero k i upto h = let none : k ≡ 0 = omega arith in subst (λ (n : ℕ). After n i) none h
  after-upto (suc m) k i upto h =
      ⊎_elim (λ less. after-more m i (after-upto m k i (omega arith) h))
      (λ last. let all : k ≡ suc m = omega arith in subst (λ (n : ℕ). After n i) all h)
      (cases_lt k (suc m))

  -- what is closed has all that any number of rounds lead to
  after-closed : (known : List Bool) → AreKnown own known
      → ((i j : ℕ) → i < length own → leads rows i j ≡ true → holds known j ≡ true
      → holds known i ≡ true) → (k i : ℕ) → After k i → holds known i ≡ true
  after-closed known owned closed zero i h = owned i h
  after-closed known owned closed (suc k) i h =
      ⊎_elim (λ by_itself. owned i by_itself)
      (λ lead. closed i lead.0 (after-within (suc k) i h) lead.1
      (after-closed known owned closed k lead.0 lead.2)) (after-cases k i h)

count_known-most : (known : List Bool) → count_known known ≤ length known
count_known-most [] = omega arith
count_known-most (true ∷ ks) = omega (arith, count_known-most ks)
count_known-most (false ∷ ks) = omega (arith, count_known-most ks)

count_known-set : (known : List Bool) (i : ℕ) → i < length known → holds known i ≡ false
    → count_known (set known i true) ≡ count_known known + 1
count_known-set [] i within h = absurd (omega arith)
count_known-set (true ∷ ks) zero within h = cc
count_known-set (false ∷ ks) zero within h = omega arith
count_known-set (true ∷ ks) (suc i) within h = omega (arith, count_known-set ks i (omega arith) h)
count_known-set (false ∷ ks) (suc i) within h = omega (arith, count_known-set ks i (omega arith) h)

count_known-none : (n : ℕ) → count_known (replicate n false) ≡ 0
count_known-none zero = refl
count_known-none (suc n) = omega (arith, count_known-none n)

none-holds : (n i : ℕ) → holds (replicate n false) i ≡ true → ⊥
none-holds zero i h = cc
none-holds (suc n) zero h = cc
none-holds (suc n) (suc i) h = none-holds n i h

-- what is known stays so where a place is set
set-keeps : (known : List Bool) (at i : ℕ) → at < length known → holds known i ≡ true
    → holds (set known at true) i ≡ true
set-keeps known at i within h =
    ⊎_elim (λ same. rw same (get_or-set_same known at true false within))
    (λ other. get_or-set_other known at i true false other ∙ h) (cases_eq i at)

set-known : (known : List Bool) (at : ℕ) → at < length known → holds known at ≡ true
    → set known at true ≡ known
set-known known at within h = ap (set known at) (sym h) ∙ set-get_or known at false

pub both_true : (a b : Bool) → (a ≡ true → b ≡ true) → (b ≡ true → a ≡ true) → a ≡ b
both_true true b there back = sym (there refl)
both_true false true there back = back refl
both_true false false there back = refl

module _ (own : List Bool) (rows : List (List Bool)) (same : length rows ≡ length own) where
  -- nothing is found yet
  pub found-none : (known : List Bool) (order : List ℕ) → known ≡ replicate (length own) false
      → order ≡ [] → IsFound own rows known order
  found-none known order is none =
      let P : List Bool → List ℕ → Type 0 = λ ks os. IsFound own rows ks os in
      let first : P (replicate (length own) false) [] = record {
        size = length-replicate (length own) false;
        counted = count_known-none (length own);
        all_known = λ k within. absurd (omega arith);
        all_listed = λ i h. absurd (none-holds (length own) i h);
        sound = λ i h. absurd (none-holds (length own) i h);
      } in
      rw (is, none) first

  module _ (known : List Bool) (order : List ℕ) (at : ℕ) (found : IsFound own rows known order)
      (within : at < length own) where
    -- one more is found, which was not known
    found-more : holds known at ≡ false → holds (after_rounds own rows (suc (length order))) at
        ≡ true → IsFound own rows (set known at true) (order ++ at ∷ [])
    found-more new leads_there =
        let inside : at < length known = omega (arith, found.size) in
        let long : length (order ++ at ∷ []) ≡ suc (length order) =
        length_push order at ∙ (omega arith) in
        record {
          size = length-set known at true ∙ found.size;
          counted = count_known-set known at inside new
              ∙ (ap (λ n. n + 1) found.counted ∙ sym (length_push order at));
          all_known = λ k less.
              ⊎_elim (λ before. rw (get_or_append_left order (at ∷ []) 0 k before)
              (set-keeps known at (get_or order k 0) inside (found.all_known k before)))
              (λ last. let is_last : length order ≡ k = omega (arith, long) in
              rw (get_or_push order at 0 k is_last) (get_or-set_same known at true false inside))
              (cases_lt k (length order));
          all_listed = λ i h.
              ⊎_elim (λ it. (
                length order,
                omega (arith, long),
                get_or_push order at 0 (length order) refl ∙ sym it,
              ))
              (λ other. let was = found.all_listed i
              (sym (get_or-set_other known at i true false other) ∙ h) in (
                was.0,
                omega (arith, long, was.1),
                get_or_append_left order (at ∷ []) 0 was.0 was.1
                    ∙ was.2,
              ))
              (cases_eq i at);
          sound = λ i h.
              rw long
              (⊎_elim (λ it. rw it leads_there)
              (λ other. after-more own rows same (length order) i
              (found.sound i (sym (get_or-set_other known at i true false other) ∙ h)))
              (cases_eq i at));
        }

    -- a place is looked at: where it is found, as many rounds and one lead to it
    pub found-next : (is_found : Bool)
        → (is_found ≡ true → holds (after_rounds own rows (suc (length order))) at ≡ true)
        → IsFound own rows (with_known known at is_found) (with_order known order at is_found)
    found-next false there = found
    found-next true there =
        let inside : at < length known = omega (arith, found.size) in
        let P : Bool → Type 0 = λ was. holds known at ≡ was
        → IsFound own rows (set known at true) (if not was then order ++ at ∷ [] else order) in
        let each : P (holds known at) =
        elim (holds known at) as P [
          | true ↦ (λ was. let kept : set known at true ≡ known = set-known known at inside was in
              rw kept found)
          | false ↦ (λ was. found-more was (there refl))
        ] in
        each refl

pub grows-none : (known : List Bool) (order : List ℕ) → Grows known known order order
grows-none known order = record { keeps = λ i h. h; found = []; behind = sym (append-nil order) }

pub grows-on : (a b c : List Bool) (xs ys zs : List ℕ) → Grows a b xs ys → Grows b c ys zs
    → Grows a c xs zs
grows-on a b c xs ys zs first second = record {
  keeps = λ i h. second.keeps i (first.keeps i h);
  found = first.found ++ second.found;
  behind = second.behind
      ∙ (ap (λ (os : List ℕ). os ++ second.found) first.behind
      ∙ append_assoc xs first.found second.found);
}

-- what was found before stands where it stood
pub grows-at : (a b : List Bool) (xs ys : List ℕ) (k : ℕ) → Grows a b xs ys → k < length xs
    → get_or ys k 0 ≡ get_or xs k 0
grows-at a b xs ys k grows within = rw grows.behind (get_or_append_left xs grows.found 0 k within)

-- where all that was found was followed, this is what as many rounds lead to as there are members
pub all-found : (own : List Bool) (rows : List (List Bool)) (known : List Bool) (order : List ℕ)
    → length rows ≡ length own → IsFound own rows known order → AreKnown own known
    → ((k : ℕ) → k < length order → LeadersKnown rows known (get_or order k 0) (length own))
    → known ≡ after_rounds own rows (length own)
all-found own rows known order same found owned followed =
    let few : length order ≤ length own =
    omega (arith, found.counted, found.size, count_known-most known) in
    let closed : (i j : ℕ) → i < length own → leads rows i j ≡ true → holds known j ≡ true
    → holds known i ≡ true = λ i j within lead h.
    let listed = found.all_listed j h in
    let lead_there : leads rows i (get_or order listed.0 0) ≡ true = rw listed.2 lead in
    followed listed.0 listed.1 i within lead_there in
    let there : (i : ℕ) → holds known i ≡ true → holds (after_rounds own rows (length own)) i
    ≡ true = λ i h. after-upto own rows same (length own) (length order) i few (found.sound i h) in
    let back : (i : ℕ) → holds (after_rounds own rows (length own)) i ≡ true
    → holds known i ≡ true = λ i h. after-closed own rows same known owned closed
    (length own) i h in
    ext_get_or false known (after_rounds own rows (length own))
    (found.size ∙ sym (length-after_rounds own rows (length own) same))
    (λ i within. both_true (holds known i) (holds (after_rounds own rows (length own)) i) (there i)
    (back i))

-- no more are found than there are members
pub found-few : (own : List Bool) (rows : List (List Bool)) (known : List Bool) (order : List ℕ)
    → IsFound own rows known order → length order ≤ length own
found-few own rows known order found =
    omega (arith, found.counted, found.size, count_known-most known)

-- one more member is followed
pub followed-more : (rows : List (List Bool)) (a b : List Bool) (xs ys : List ℕ) (at to most : ℕ)
    → Grows a b xs ys → ((k : ℕ) → k < at → LeadersKnown rows a (get_or xs k 0) most)
    → at < length xs → to ≡ get_or xs at 0
    → LeadersKnown rows b to most → (k : ℕ) → k < at + 1 → LeadersKnown rows b (get_or ys k 0) most
followed-more rows a b xs ys at to most grows followed within is leaders k less i inside lead =
    let stands : get_or ys k 0 ≡ get_or xs k 0 = grows-at a b xs ys k grows (omega arith) in
    let was : leads rows i (get_or xs k 0) ≡ true = ap (λ (n : ℕ). leads rows i n) (sym stands)
    ∙ lead in
    ⊎_elim (λ before. grows.keeps i (followed k before i inside was))
    (λ last. let same : k ≡ at = omega arith in
    leaders i inside (ap (λ (n : ℕ). leads rows i n) is
    ∙ (ap (λ (n : ℕ). leads rows i (get_or xs n 0)) (sym same) ∙ was)))
    (cases_lt k at)

-- one more member is looked at, which is known by itself or leads to one that is known
pub owned-next : (own : List Bool) (rows : List (List Bool)) (known : List Bool) (order : List ℕ)
    (at : ℕ) (is_own : Bool) → length rows ≡ length own → IsFound own rows known order
    → at < length own → is_own ≡ holds own at
    → IsFound own rows (with_known known at is_own) (with_order known order at is_own)
owned-next own rows known order at is_own same found within is =
    found-next own rows same known order at found within is_own
    (λ h. after-own own rows same (suc (length order)) at (sym is ∙ h))

pub led-next : (own : List Bool) (rows : List (List Bool)) (known : List Bool) (order : List ℕ)
    (at to : ℕ) (lead : Bool) → length rows ≡ length own → IsFound own rows known order
    → at < length own → holds known to ≡ true
    → lead ≡ leads rows at to → IsFound own rows (with_known known at lead)
    (with_order known order at lead)
led-next own rows known order at to lead same found within there is =
    found-next own rows same known order at found within lead
    (λ h. after-lead own rows same (length order) at to within (sym is ∙ h) (found.sound to there))

-- what is known stays so where a member is looked at, and the member is where it is found
pub next-keeps : (known : List Bool) (at i : ℕ) (is_found : Bool) → at < length known
    → holds known i ≡ true → holds (with_known known at is_found) i ≡ true
next-keeps known at i false within h = h
next-keeps known at i true within h = set-keeps known at i within h

pub next-there : (known : List Bool) (at : ℕ) (is_found : Bool) → at < length known
    → is_found ≡ true → holds (with_known known at is_found) at ≡ true
next-there known at false within h = cc
next-there known at true within h = get_or-set_same known at true false within

pub next-size : (known : List Bool) (at : ℕ) (is_found : Bool)
    → length (with_known known at is_found) ≡ length known
next-size known at false = refl
next-size known at true = length-set known at true

pub next-grows : (known : List Bool) (order : List ℕ) (at : ℕ) (is_found : Bool)
    → at < length known → Grows known (with_known known at is_found) order
    (with_order known order at is_found)
next-grows known order at false within =
    record { keeps = λ i h. h; found = []; behind = sym (append-nil order) }
next-grows known order at true within =
    let P : Bool → Type 0 = λ was. Grows known (set known at true) order
    (if not was then order ++ at ∷ [] else order) in
    let each : P (holds known at) =
    elim (holds known at) as P [
      | true ↦ record {
        keeps = λ i h. set-keeps known at i within h;
        found = [];
        behind =
            sym (append-nil order);
      }
      | false ↦ record {
        keeps = λ i h. set-keeps known at i within h;
        found = at ∷ [];
        behind =
            refl;
      }
    ] in
    each

-- rows as the code has them
pub lead_is : (rows : List (Vec Bool Global)) (at to : ℕ) (row : Vec Bool Global)
    (slice : List Bool) (lead : Bool) → at < length rows → row ≡ get_or rows at row
    → slice ≡ row.items → lead ≡ holds slice to
    → lead ≡ leads (map (λ row. row.items) rows) at to
lead_is [] at to row slice lead within is lent holds_it = absurd (omega arith)
lead_is (r ∷ rs) zero to row slice lead within is lent holds_it =
    holds_it ∙ (ap (λ (xs : List Bool). holds xs to) lent
    ∙ ap (λ (v : Vec Bool Global). holds v.items to) is)
lead_is (r ∷ rs) (suc at) to row slice lead within is lent holds_it =
    lead_is rs at to row slice lead (omega arith) is lent holds_it

-- one more row is looked at
module _ (rows : List (List Bool)) (first known next : List Bool)
    (first_order order next_order : List ℕ) (at to : ℕ) (lead : Bool) (inside : at < length known)
    (is : lead ≡ leads rows at to) (made : next ≡ with_known known at lead)
    (listed : next_order ≡ with_order known order at lead) where
  pub leader-grows : Grows first known first_order order → Grows first next first_order next_order
  leader-grows grows = rw (made, listed)
      (grows-on first known (with_known known at lead) first_order order
      (with_order known order at lead) grows (next-grows known order at lead inside))

  pub leader-known : LeadersKnown rows known to at → LeadersKnown rows next to (at + 1)
  leader-known leaders i less leading =
      rw made
      (⊎_elim (λ before. next-keeps known at i lead inside (leaders i before leading))
      (λ last. let same : i ≡ at = omega arith in
      rw same (next-there known at lead inside
      (is ∙ (ap (λ (n : ℕ). leads rows n to) (sym same) ∙ leading)))) (cases_lt i at))

  pub leader-found : (own : List Bool) → length rows ≡ length own → holds known to ≡ true
      → IsFound own rows known order → IsFound own rows next next_order
  leader-found own same there found =
      rw (made, listed) (led-next own rows known order at to lead same found
      (omega (arith, found.size, inside)) there is)

-- one more that may be known by itself is looked at
module _ (own known next : List Bool) (order next_order : List ℕ) (at : ℕ)
    (size : length known ≡ length own) (inside : at < length own)
    (made : next ≡ with_known known at (holds own at))
    (listed : next_order ≡ with_order known order at (holds own at)) where
  pub own-found : (rows : List (List Bool)) → length rows ≡ length own
      → IsFound own rows known order → IsFound own rows next next_order
  own-found rows same found = rw (made, listed)
      (owned-next own rows known order at (holds own at) same found inside refl)

  pub own-known : ((i : ℕ) → i < at → holds own i ≡ true → holds known i ≡ true) → (i : ℕ)
      → i < at + 1 → holds own i ≡ true → holds next i ≡ true
  own-known owned i less h =
      rw made
      (⊎_elim (λ before. next-keeps known at i (holds own at) (omega (arith, size))
      (owned i before h))
      (λ last. let same : i ≡ at = omega arith in
      rw same (next-there known at (holds own at) (omega (arith, size))
      (ap (holds own) (sym same) ∙ h))) (cases_lt i at))
