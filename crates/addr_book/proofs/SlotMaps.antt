-- How slots change with one address, and with the lowest free slots for new ones.
use Rattle.std.proofs.Common.{◌≡◌, ◌≢◌, ℕ, zero, suc, ◌+◌, ◌-◌, ◌<◌, ◌≤◌, ◌==◌, Bool, true, false}
use Rattle.std.proofs.Common.{List, [], ◌∷◌, ◌++◌, length, drop, get_or, refl, sym, ap, ◌∙◌, arith}
use Rattle.std.proofs.Common.{map, Option, Some, None, cond, subst, ◌⊎◌, inl, inr, ⊎_elim}
use Rattle.std.specs.Prelude.{T, not, ◌&&◌, ◌||◌, is_some}
use Rattle.std.specs.Ordering.{is_eq, is_lt}
use Rattle.std.specs.declared.cmp.Ordering.{Ordering}
use Rattle.std.specs.declared.cmp.Ordering.TheVariants.{Less, Equal, Greater}
use Rattle.std.specs.Cmp.{eq_by_cmp_equiv}
use Rattle.std.specs.List.{list_any}
use Rattle.std.specs.FinMap.{entries, entries_sorted, find, get, get-entries, insert, remove}
use Rattle.std.specs.FinMap.{contains_key, values, len, len-entries, len-insert, len-remove}
use Rattle.std.specs.FinMap.{get-insert, get-remove, is_sorted}
use Rattle.std.specs.FinMap.Entries.{below_all}
use Rattle.std.proofs.lemmas.Bool.Decides.{nat_tests}
use Rattle.std.proofs.lemmas.List.{drop_more}
use Rattle.std.proofs.lemmas.Option.{same_Some}
use Rattle.addr_book.specs.declared.addr.Addr.{Addr}
use Rattle.addr_book.specs.declared.addr.Weighted.{Weighted}
use Rattle.addr_book.specs.AddrList.{addr_cmp, same_addr, has_addr, AreDistinct}
use Rattle.addr_book.specs.Book.{Slots, newcomers, free_slots, assigned, with_newcomers}
use Rattle.addr_book.specs.SlotSet.{has_slot, open_slots, AreLowest}
use Rattle.addr_book.specs.SlotMap.{IsSlotMap}
use Rattle.addr_book.proofs.AddrLists.{addr_total}
use Rattle.addr_book.proofs.Bits.{open-add, open-same}
use Rattle.addr_book.proofs.Counts.{length_numbers}
use Rattle.addr_book.proofs.SlotSteps.{same_is, nothing_left}
use Rattle.addr_book.proofs.Seating.{AreUnused, AreRising, AllUnder, taken_value, unused_later}
use Rattle.addr_book.proofs.Seating.{free_rising, free_under, free_unused, free_enough}

both_ways : (b c : Bool) → (b ≡ true → c ≡ true) → (c ≡ true → b ≡ true) → b ≡ c
both_ways true c there back = sym (there refl)
both_ways false true there back = back refl
both_ways false false there back = refl

differ : (a b : ℕ) → a ≢ b → (a == b) ≡ false
differ a b ne = grind (arith, nat_tests)

alike : (a b : ℕ) → a ≡ b → (a == b) ≡ true
alike a b e = grind (arith, nat_tests)

number_is : (a b : ℕ) → (a == b) ≡ true → a ≡ b
number_is a b e = grind (arith, nat_tests)

and_first : (a b : Bool) → T (a && b) → T a
and_first true b p = tt
and_first false b p = p

and_second : (a b : Bool) → T (a && b) → T b
and_second true b p = p
and_second false b p = absurd p

is_less : (r : Ordering) → T (is_lt r) → is_eq r ≡ false
is_less Less p = refl
is_less Equal p = absurd p
is_less Greater p = absurd p

-- a key that is below all others is not among them
below_none : (x : Addr) (es : List (Addr × ℕ)) → T (below_all addr_cmp x es)
    → find addr_cmp x es ≡ None
below_none x [] h = refl
below_none x (e ∷ es) h =
    ap (λ b. cond b (Some e.1) (find addr_cmp x es)) (is_less (addr_cmp x e.0) (and_first _ _ h))
    ∙ below_none x es (and_second _ _ h)

-- a number that some entry has is that of its key
value_found : (t : ℕ) (es : List (Addr × ℕ)) → T (is_sorted addr_cmp es)
    → list_any (λ s. s == t) (map (λ e. e.1) es) ≡ true → (a : Addr) × (find addr_cmp a es ≡ Some t)
value_found t [] h e = cc
value_found t (e ∷ es) h some = go (e.1 == t) refl some (value_found t es (and_second _ _ h))
  where
    go : (b : Bool) → (e.1 == t) ≡ b → (b || list_any (λ s. s == t) (map (λ f. f.1) es)) ≡ true
        → (list_any (λ s. s == t) (map (λ f. f.1) es) ≡ true
        → (a : Addr) × (find addr_cmp a es ≡ Some t)) → (a : Addr)
        × (find addr_cmp a (e ∷ es) ≡ Some t)
    go true same any rest = (
      e.0,
      ap (λ b. cond b (Some e.1) (find addr_cmp e.0 es))
          ((eq_by_cmp_equiv addr_total).refl e.0) ∙ ap Some (number_is e.1 t same),
    )
    go false same any rest =
        let later = rest any in
        (later.0, at later.0 later.1 (same_addr later.0 e.0) refl)
      where
        at : (a : Addr) → find addr_cmp a es ≡ Some t → (b : Bool) → same_addr a e.0 ≡ b
            → cond b (Some e.1) (find addr_cmp a es) ≡ Some t
        at a found false other = found
        at a found true tied =
            let none : find addr_cmp a es ≡ None =
            ap (λ x. find addr_cmp x es) (same_is a e.0 tied)
            ∙ below_none e.0 es (and_first _ _ h) in
            absurd (let no = sym none ∙ found in cc)

taken_addr : (slots : Slots) (t : ℕ) → list_any (λ s. s == t) (values slots) ≡ true
    → (a : Addr) × (get slots a ≡ Some t)
taken_addr slots t e = let found = value_found t (entries slots) (entries_sorted slots) e in
    (found.0, get-entries slots found.0 ∙ found.1)

same_itself : (a : Addr) → same_addr a a ≡ true
same_itself a = (eq_by_cmp_equiv addr_total).refl a

-- what an insertion gives
inserted : (slots : Slots) (k : Addr) (s : ℕ) (a : Addr) (t : ℕ) (P : Type 0)
    → get (insert slots k s) a ≡ Some t → (a ≡ k → s ≡ t → P) → (get slots a ≡ Some t → P) → P
inserted slots k s a t P is new old =
    go (same_addr a k) refl (sym (get-insert addr_total slots k s a) ∙ is)
  where
    go : (b : Bool) → same_addr a k ≡ b → cond b (Some s) (get slots a) ≡ Some t → P
    go true e h = new (same_is a k e) (same_Some s t h)
    go false e h = old h

insert_here : (slots : Slots) (k : Addr) (s : ℕ) → get (insert slots k s) k ≡ Some s
insert_here slots k s = get-insert addr_total slots k s k
    ∙ ap (λ b. cond b (Some s) (get slots k)) (same_itself k)

insert_there : (slots : Slots) (k : Addr) (s : ℕ) (a : Addr) (t : ℕ) → get slots k ≡ None
    → get slots a ≡ Some t → get (insert slots k s) a ≡ Some t
insert_there slots k s a t none is = get-insert addr_total slots k s a ∙ go (same_addr a k) refl
  where
    go : (b : Bool) → same_addr a k ≡ b → cond b (Some s) (get slots a) ≡ Some t
    go true e = absurd (let no = sym (ap (get slots) (same_is a k e) ∙ none) ∙ is in cc)
    go false e = is

module _ (slots : Slots) (words : List ℕ) (count : ℕ) (sound : IsSlotMap slots words count)
    (k : Addr) (slot : ℕ) where
  -- an address more
  module _ (none : get slots k ≡ None) (free : (other : Addr) → get slots other ≡ Some slot → ⊥)
      (below : slot < 8192) (marks : List ℕ)
      (put : (t : ℕ) → has_slot marks t ≡ (slot == t || has_slot words t)) where
    more_values : (t : ℕ) → (slot == t || list_any (λ s. s == t) (values slots))
        ≡ list_any (λ s. s == t) (values (insert slots k slot))
    more_values t = both_ways _ _ (there (slot == t) refl) back
      where
        there : (b : Bool) → (slot == t) ≡ b → (b || list_any (λ s. s == t) (values slots)) ≡ true
            → list_any (λ s. s == t) (values (insert slots k slot)) ≡ true
        there true e h = taken_value (insert slots k slot) k t
            (insert_here slots k slot ∙ ap Some (number_is slot t e))
        there false e h = let old = taken_addr slots t h in
            taken_value (insert slots k slot) old.0 t (insert_there slots k slot old.0 t none old.1)

        back : list_any (λ s. s == t) (values (insert slots k slot)) ≡ true
            → (slot == t || list_any (λ s. s == t) (values slots)) ≡ true
        back h =
            let new = taken_addr (insert slots k slot) t h in
            inserted slots k slot new.0 t ((slot == t || list_any (λ s. s == t) (values slots))
            ≡ true) new.1
            (λ _ e. ap (λ b. b || list_any (λ s. s == t) (values slots)) (alike slot t e))
            (λ old. ap (λ b. slot == t || b) (taken_value slots new.0 t old) ∙ or_true (slot == t))
          where
            or_true : (b : Bool) → (b || true) ≡ true
            or_true true = refl
            or_true false = refl

    pub slot_more : IsSlotMap (insert slots k slot) marks (count + 1)
    slot_more = record {
      counted = ap (λ n. n + 1) sound.counted
          ∙ sym (len-insert addr_total slots k slot
          ∙ ap (λ x. cond (is_some x) (len slots) (len slots + 1)) none);
      below = λ a t is. inserted slots k slot a t (t < 8192) is
          (λ _ e. subst (λ (n : ℕ). n < 8192) e below) (sound.below a t);
      apart = λ a b t p q.
          inserted slots k slot a t (a ≡ b) p
          (λ e same. inserted slots k slot b t (a ≡ b) q (λ f _. e ∙ sym f)
          (λ had. absurd (free b (had ∙ ap Some (sym same)))))
          (λ had. inserted slots k slot b t (a ≡ b) q
          (λ f same. absurd (free a (had ∙ ap Some (sym same))))
          (λ both. sound.apart a b t had both));
      marked = λ t. put t ∙ (ap (λ b. slot == t || b) (sound.marked t) ∙ more_values t);
    }

  -- an address fewer
  module _ (is : get slots k ≡ Some slot) (marks : List ℕ)
      (take : (t : ℕ) → has_slot marks t ≡ (not (slot == t) && has_slot words t)) where
    kept : (a : Addr) (t : ℕ) → get (remove slots k) a ≡ Some t
        → (get slots a ≡ Some t) × (same_addr a k ≡ false)
    kept a t h = go (same_addr a k) (sym (get-remove addr_total slots k a) ∙ h)
      where
        go : (b : Bool) → cond b None (get slots a) ≡ Some t → (get slots a ≡ Some t) × (b ≡ false)
        go true e = cc
        go false e = (e, refl)

    fewer_values : (t : ℕ) → (not (slot == t) && list_any (λ s. s == t) (values slots))
        ≡ list_any (λ s. s == t) (values (remove slots k))
    fewer_values t = both_ways _ _ (there (slot == t) refl) back
      where
        there : (b : Bool) → (slot == t) ≡ b → (not b && list_any (λ s. s == t) (values slots))
            ≡ true → list_any (λ s. s == t) (values (remove slots k)) ≡ true
        there true e h = cc
        there false e h =
            let old = taken_addr slots t h in
            taken_value (remove slots k) old.0 t
            (get-remove addr_total slots k old.0 ∙ stays old.0 old.1 (same_addr old.0 k) refl)
          where
            stays : (a : Addr) → get slots a ≡ Some t → (b : Bool) → same_addr a k ≡ b
                → cond b None (get slots a) ≡ Some t
            stays a has false other = has
            stays a has true tied =
                let same : slot ≡ t = same_Some slot t
                (sym is ∙ (ap (get slots) (sym (same_is a k tied)) ∙ has)) in
                absurd (let no = sym (alike slot t same) ∙ e in cc)

        back : list_any (λ s. s == t) (values (remove slots k)) ≡ true
            → (not (slot == t) && list_any (λ s. s == t) (values slots)) ≡ true
        back h =
            let left = taken_addr (remove slots k) t h in
            let old = kept left.0 t left.1 in
            (λ i. not (differ slot t (λ same.
            let one : left.0 ≡ k = sound.apart left.0 k t old.0 (is ∙ ap Some same) in
            let no = sym (ap (λ a. same_addr a k) one ∙ same_itself k) ∙ old.1 in cc) i)
            && taken_value slots left.0 t old.0 i)

    pub slot_fewer : IsSlotMap (remove slots k) marks (count - 1)
    slot_fewer = record {
      counted = ap (λ n. n - 1) sound.counted
          ∙ sym (len-remove addr_total slots k
          ∙ ap (λ x. cond (is_some x) (len slots - 1) (len slots)) is);
      below = λ a t h. sound.below a t (kept a t h).0;
      apart = λ a b t p q. sound.apart a b t (kept a t p).0 (kept b t q).0;
      marked = λ t. take t ∙ (ap (λ b. not (slot == t) && b) (sound.marked t) ∙ fewer_values t);
    }

-- the map of no address, where no slot is marked
pub no_marks : (slots : Slots) (words : List ℕ) → ((a : Addr) → get slots a ≡ None) → len slots ≡ 0
    → ((t : ℕ) → has_slot words t ≡ false) → IsSlotMap slots words 0
no_marks slots words none long marks = record {
  counted = sym long;
  below = λ a t is. absurd (let no = sym (none a) ∙ is in cc);
  apart = λ a b t p q. absurd (let no = sym (none a) ∙ p in cc);
  marked = λ t. marks t ∙ both_ways false _ (λ e. cc)
      (λ e. let has = taken_addr slots t e in let no = sym (none has.0) ∙ has.1 in cc);
}

-- where an address that has no slot is taken away, nothing changes
pub none_fewer : (slots : Slots) (k : Addr) → get slots k ≡ None → (a : Addr)
    → get slots a ≡ get (remove slots k) a
none_fewer slots k none a = sym (get-remove addr_total slots k a ∙ go (same_addr a k) refl)
  where
    go : (b : Bool) → same_addr a k ≡ b → cond b None (get slots a) ≡ get slots a
    go true e = sym (ap (get slots) (same_is a k e) ∙ none)
    go false e = refl

-- ---- the lowest free slots for new addresses

-- what is true of the addresses and slots that are left: the addresses are new and distinct, and
-- the slots are free and rise
pub record Goes (slots : Slots) (news : List Weighted) (free : List ℕ) (from : ℕ) : Type 0 where
  pub new : (a : Addr) → has_addr news a ≡ true → get slots a ≡ None
  pub distinct : AreDistinct news
  pub unused : AreUnused slots free
  pub rising : AreRising from free
  pub under : AllUnder 8192 free

lower : (low high : ℕ) (ss : List ℕ) → low ≤ high → AreRising high ss → AreRising low ss
lower low high [] le h = tt
lower low high (s ∷ ss) le h = (omega (arith, h.0), h.1)

or_here : (a b : Bool) → a ≡ true → (a || b) ≡ true
or_here true b e = refl
or_here false b e = cc

or_later : (a b : Bool) → b ≡ true → (a || b) ≡ true
or_later true b e = refl
or_later false b e = e

pub head_new : (slots : Slots) (n : Weighted) (news : List Weighted) (free : List ℕ) (from : ℕ)
    → Goes slots (n ∷ news) free from → get slots n.addr ≡ None
head_new slots n news free from g =
    g.new n.addr (or_here (same_addr n.addr n.addr) (has_addr news n.addr) (same_itself n.addr))

pub goes_on : (slots : Slots) (n : Weighted) (news : List Weighted) (s : ℕ) (free : List ℕ)
    (from : ℕ) → Goes slots (n ∷ news) (s ∷ free) from
    → Goes (insert slots n.addr s) news free (from + 1)
goes_on slots n news s free from g = record {
  new = λ a has. get-insert addr_total slots n.addr s a ∙ other a has (same_addr a n.addr) refl;
  distinct = g.distinct.1;
  unused = unused_later slots n.addr s free (suc s) (omega arith) g.rising.1 g.unused.1;
  rising = lower (from + 1) (suc s) free (omega (arith, g.rising.0)) g.rising.1;
  under = g.under.1;
}
  where
    other : (a : Addr) → has_addr news a ≡ true → (b : Bool) → same_addr a n.addr ≡ b
        → cond b (Some s) (get slots a) ≡ None
    other a has false e = g.new a (or_later (same_addr a n.addr) (has_addr news a) has)
    other a has true e = absurd (let no = sym (ap (has_addr news) (sym (same_is a n.addr e)) ∙ has)
        ∙ g.distinct.0 in cc)

pub goes_past : (slots : Slots) (n : Weighted) (news : List Weighted) (from : ℕ)
    → Goes slots (n ∷ news) [] from → Goes slots news [] (from + 1)
goes_past slots n news from g = record {
  new = λ a has. g.new a (or_later (same_addr a n.addr) (has_addr news a) has);
  distinct = g.distinct.1;
  unused = tt;
  rising = tt;
  under = tt;
}

-- a step of the loop over the new addresses
module _ (slots : Slots) (news : List Weighted) (free : List ℕ) (at : ℕ) (d : Weighted)
    (lt : at < length news) (goes : Goes slots (drop at news) (drop at free) at) where
  abbrev here : Weighted
  here = get_or news at d

  with_head : Goes slots (here ∷ drop (at + 1) news) (drop at free) at
  with_head = subst (λ (ns : List Weighted). Goes slots ns (drop at free) at)
      (drop_more news at d lt) goes

  pub step_new : get slots (get_or news at d).addr ≡ None
  step_new = head_new slots here (drop (at + 1) news) (drop at free) at with_head

  module _ (within : at < length free) (s : ℕ) (is : s ≡ get_or free at 0) where
    both_heads : Goes slots (here ∷ drop (at + 1) news) (s ∷ drop (at + 1) free) at
    both_heads =
        subst (λ (ss : List ℕ). Goes slots (here ∷ drop (at + 1) news) ss at)
        (drop_more free at 0 within ∙ ap (λ n. n ∷ drop (at + 1) free) (sym is)) with_head

    pub step_free : (other : Addr) → get slots other ≡ Some s → ⊥
    step_free = both_heads.unused.0

    pub step_below : s < 8192
    step_below = both_heads.under.0

    pub step_some : Goes (insert slots (get_or news at d).addr s) (drop (at + 1) news)
        (drop (at + 1) free) (at + 1)
    step_some = goes_on slots here (drop (at + 1) news) s (drop (at + 1) free) at both_heads

  pub step_none : length free ≤ at → Goes slots (drop (at + 1) news) (drop (at + 1) free) (at + 1)
  step_none past =
      subst (λ (ss : List ℕ). Goes slots (drop (at + 1) news) ss (at + 1))
      (sym (nothing_left free (at + 1) (omega arith)))
      (goes_past slots here (drop (at + 1) news) at
      (subst (λ (ss : List ℕ). Goes slots (here ∷ drop (at + 1) news) ss at)
      (nothing_left free at past) with_head))

pub assigned_end : (slots : Slots) (news : List Weighted) (free : List ℕ) (at : ℕ)
    → length news ≤ at → assigned slots (drop at news) free ≡ slots
assigned_end slots news free at past =
    ap (λ (ns : List Weighted). assigned slots ns free) (nothing_left news at past)

under_more : (low high : ℕ) (ss : List ℕ) → low ≤ high → AllUnder low ss → AllUnder high ss
under_more low high [] le h = tt
under_more low high (s ∷ ss) le h = (omega (arith, h.0), under_more low high ss le h.1)

-- open slots of a test are free slots of the numbers that pass it
free_open : (n from : ℕ) (taken : List ℕ) → free_slots n from taken
    ≡ open_slots (λ t. list_any (λ s. s == t) taken) n from
unfolding open_slots
free_open zero from taken = refl
free_open (suc n) from taken =
    let rest = free_open n (from + 1) taken in
    λ i. cond (list_any (λ s. s == from) taken) (rest i) (from ∷ rest i)

assigned_front : (slots : Slots) (news : List Weighted) (xs ys : List ℕ) → length news ≤ length xs
    → assigned slots news (xs ++ ys) ≡ assigned slots news xs
assigned_front slots [] xs ys le = refl
assigned_front slots (n ∷ news) [] ys le = absurd (omega arith)
assigned_front slots (n ∷ news) (x ∷ xs) ys le =
    assigned_front (insert slots n.addr x) news xs ys (omega arith)

module _ (slots : Slots) (words : List ℕ) (count : ℕ) (sound : IsSlotMap slots words count)
    (news : List Weighted) (few : len slots + length news ≤ 8192) (free : List ℕ)
    (lowest : AreLowest (has_slot words) (length news) free) where
  abbrev taken : ℕ → Bool
  taken t = list_any (λ s. s == t) (values slots)

  front : ℕ → List ℕ
  front n = open_slots taken n 0

  free_front : free ≡ front lowest.end
  unfolding front
  free_front = lowest.lowest ∙ open-same (has_slot words) taken lowest.end 0 sound.marked

  free_is : free ≡ free_slots lowest.end 0 (values slots)
  unfolding front
  free_is = free_front ∙ sym (free_open lowest.end 0 (values slots))

  pub lowest_goes : AreDistinct news → ((a : Addr) → has_addr news a ≡ true → get slots a ≡ None)
      → Goes slots news free 0
  lowest_goes distinct new =
      subst (λ (ss : List ℕ). Goes slots news ss 0) (sym free_is)
      (record {
        new = new;
        distinct = distinct;
        unused = free_unused slots lowest.end 0;
        rising = free_rising lowest.end 0 (values slots);
        under = under_more (0 + lowest.end) 8192 (free_slots lowest.end 0 (values slots))
            (omega (arith, lowest.below)) (free_under lowest.end 0 (values slots));
      })

  -- so many open slots are enough
  wanted : ℕ
  wanted = len slots + length news

  long_values : length (values slots) ≡ len slots
  long_values = length_numbers (entries slots) ∙ sym (len-entries slots)

  open_enough : (n : ℕ) → len slots + length news ≤ n → length news ≤ length (front n)
  unfolding front
  open_enough n le = omega (
    arith,
    free_enough n 0 (values slots),
    ap length (free_open n 0 (values slots)),
    long_values,
  )

  free_long : length news ≤ length (front lowest.end)
  free_long = ⊎_elim (λ e. omega (arith, e, ap length free_front))
      (λ e. open_enough lowest.end (omega (arith, e, few))) lowest.enough

  longer : (m n : ℕ) → m ≤ n → length news ≤ length (front m)
      → assigned slots news (front n) ≡ assigned slots news (front m)
  unfolding front
  longer m n le long =
      let e : n ≡ m + (n - m) = omega arith in
      ap (λ k. assigned slots news (open_slots taken k 0)) e
      ∙ (ap (assigned slots news) (open-add taken m (n - m) 0)
      ∙ assigned_front slots news (open_slots taken m 0) (open_slots taken (n - m) (0 + m)) long)

  same_front : (m n : ℕ) → length news ≤ length (front m) → length news ≤ length (front n)
      → (m ≤ n) ⊎ (n ≤ m) → assigned slots news (front m) ≡ assigned slots news (front n)
  same_front m n p q (inl le) = sym (longer m n le p)
  same_front m n p q (inr le) = longer n m le q

  either_less : (m n : ℕ) → (m ≤ n) ⊎ (n ≤ m)
  either_less zero n = inl (omega arith)
  either_less (suc m) zero = inr (omega arith)
  either_less (suc m) (suc n) = ⊎_elim (λ le. inl (omega (arith, le)))
      (λ le. inr (omega (arith, le))) (either_less m n)

  pub lowest_assigned : assigned slots news free ≡ with_newcomers slots news
  unfolding front
  lowest_assigned =
      ap (assigned slots news) free_front
      ∙ (same_front lowest.end (len slots + length news) free_long
      (open_enough (len slots + length news) (omega arith))
      (either_less lowest.end (len slots + length news))
      ∙ ap (assigned slots news) (sym (free_open (len slots + length news) 0 (values slots))))

-- ---- newcomers

has_filtered : (stay : Slots) (xs : List Weighted) (a : Addr)
    → has_addr (newcomers stay xs) a ≡ true → get stay a ≡ None
has_filtered stay [] a e = cc
has_filtered stay (x ∷ xs) a e = go (contains_key stay x.addr) refl e (has_filtered stay xs a)
  where
    is_none : (o : Option ℕ) → is_some o ≡ false → o ≡ None
    is_none None h = refl
    is_none (Some n) h = cc

    go : (b : Bool) → contains_key stay x.addr ≡ b
        → has_addr (cond (not b) (x ∷ newcomers stay xs) (newcomers stay xs)) a ≡ true
        → (has_addr (newcomers stay xs) a ≡ true → get stay a ≡ None)
        → get stay a ≡ None
    go true c h rest = rest h
    go false c h rest = here (same_addr a x.addr) refl h
      where
        here : (b : Bool) → same_addr a x.addr ≡ b → (b || has_addr (newcomers stay xs) a) ≡ true
            → get stay a ≡ None
        here true s g = ap (get stay) (same_is a x.addr s) ∙ is_none (get stay x.addr) c
        here false s g = rest g

pub newcomers_new : (stay : Slots) (xs news : List Weighted) → news ≡ newcomers stay xs
    → (a : Addr) → has_addr news a ≡ true → get stay a ≡ None
newcomers_new stay xs news is a e = has_filtered stay xs a (ap (λ ys. has_addr ys a) (sym is) ∙ e)
