-- The steps of the loops over the addresses of a list.
use Rattle.std.proofs.Common.{◌≡◌, ◌≢◌, ℕ, zero, suc, ◌+◌, ◌-◌, ◌<◌, ◌≤◌, Bool, true, false, List}
use Rattle.std.proofs.Common.{[], ◌∷◌, ◌++◌, length, take, drop, get_or, refl, sym, ap, ◌∙◌, arith}
use Rattle.std.proofs.Common.{Option, Some, None, cond, drop-cons, length-drop, append_assoc}
use Rattle.std.proofs.Common.{add-one}
use Rattle.std.specs.Prelude.{unwrap_or, ◌&&◌, ◌||◌, ◌==◌}
use Rattle.std.specs.List.{list_any}
use Rattle.std.specs.Cmp.{Equal-is}
use Rattle.std.specs.FinMap.{FinMap, get, insert, remove, get-insert, get-remove}
use Rattle.std.proofs.lemmas.List.{take_more}
use Rattle.std.proofs.lemmas.Bool.Decides.{nat_tests}
use Rattle.addr_book.specs.declared.addr.Addr.{Addr}
use Rattle.addr_book.specs.declared.addr.Weighted.{Weighted}
use Rattle.addr_book.specs.AddrList.{addr_cmp, same_addr, has_addr, AreDistinct}
use Rattle.addr_book.specs.Book.{Slots, assigned, free_slots}
use Rattle.addr_book.specs.Uses.{count_at}
use Rattle.addr_book.proofs.AddrLists.{addr_total, same_flip, has_more}
use Rattle.addr_book.proofs.AddrMaps.{addr_only}

pub same_is : (a b : Addr) → same_addr a b ≡ true → a ≡ b
same_is a b e = addr_only a b ((Equal-is (addr_cmp a b)).0 e)

pick : (b : Bool) (n : ℕ) (x : Option ℕ) → unwrap_or (cond b (Some n) x) 0
    ≡ cond b n (unwrap_or x 0)
pick true n x = refl
pick false n x = refl

pick_none : (b : Bool) (x : Option ℕ) → unwrap_or (cond b None x) 0 ≡ cond b 0 (unwrap_or x 0)
pick_none true x = refl
pick_none false x = refl

pub count-insert : (m : FinMap addr_cmp ℕ) (k : Addr) (n : ℕ) (a : Addr)
    → count_at (insert m k n) a ≡ cond (same_addr a k) n (count_at m a)
count-insert m k n a = ap (λ x. unwrap_or x 0) (get-insert addr_total m k n a)
    ∙ pick (same_addr a k) n (get m a)

pub count-remove : (m : FinMap addr_cmp ℕ) (k a : Addr)
    → count_at (remove m k) a ≡ cond (same_addr a k) 0 (count_at m a)
count-remove m k a = ap (λ x. unwrap_or x 0) (get-remove addr_total m k a)
    ∙ pick_none (same_addr a k) (get m a)

pub has_next : (xs : List Weighted) (i : ℕ) (d : Weighted) → i < length xs → (a : Addr)
    → has_addr (take (i + 1) xs) a ≡ (has_addr (take i xs) a || same_addr a (get_or xs i d).addr)
has_next xs i d lt a = ap (λ (ys : List Weighted). has_addr ys a) (take_more xs i d lt)
    ∙ has_more (take i xs) (get_or xs i d) a

first_of_or : (a b : Bool) → (a || b) ≡ false → a ≡ false
first_of_or true b e = e
first_of_or false b e = refl

second_of_or : (a b : Bool) → (a || b) ≡ false → b ≡ false
second_of_or true b e = cc
second_of_or false b e = e

not_later : (xs : List Weighted) (x : Addr) (j : ℕ) (d : Weighted) → has_addr xs x ≡ false
    → j < length xs → same_addr (get_or xs j d).addr x ≡ false
not_later [] x j d h lt = absurd (omega arith)
not_later (y ∷ ys) x zero d h lt = same_flip y.addr x
    ∙ first_of_or (same_addr x y.addr) (has_addr ys x) h
not_later (y ∷ ys) x (suc j) d h lt =
    not_later ys x j d (second_of_or (same_addr x y.addr) (has_addr ys x) h) (omega arith)

pub not_before : (xs : List Weighted) (i : ℕ) (d : Weighted) → AreDistinct xs → i < length xs
    → has_addr (take i xs) (get_or xs i d).addr ≡ false
not_before [] i d h lt = absurd (omega arith)
not_before (x ∷ xs) zero d h lt = refl
not_before (x ∷ xs) (suc i) d h lt =
    ap (λ (b : Bool). b || has_addr (take i xs) (get_or xs i d).addr)
    (not_later xs x.addr i d h.0 (omega arith)) ∙ not_before xs i d h.1 (omega arith)

in_case : (s h hn : Bool) (new olda oldx base : ℕ) → new ≡ cond s (oldx + 1) olda
    → olda ≡ base + cond h 1 0 → (s ≡ true → (h ≡ false) × (oldx ≡ olda)) → hn ≡ (h || s)
    → new ≡ base + cond hn 1 0
in_case true h hn new olda oldx base is was same next =
    let facts = same refl in
    let end : hn ≡ true = next ∙ ap (λ (b : Bool). b || true) facts.0 in
    let now : olda ≡ base + 0 = was ∙ ap (λ (b : Bool). base + cond b 1 0) facts.0 in
    is ∙ (omega (arith, now, facts.1) ∙ ap (λ (b : Bool). base + cond b 1 0) (sym end))
in_case false true hn new olda oldx base is was same next =
    is ∙ (was ∙ ap (λ (b : Bool). base + cond b 1 0) (sym next))
in_case false false hn new olda oldx base is was same next =
    is ∙ (was ∙ ap (λ (b : Bool). base + cond b 1 0) (sym next))

out_case : (s h hn : Bool) (new olda oldx base : ℕ) → new ≡ cond s (oldx - 1) olda
    → olda ≡ base - cond h 1 0 → (s ≡ true → (h ≡ false) × (oldx ≡ olda)) → hn ≡ (h || s)
    → new ≡ base - cond hn 1 0
out_case true h hn new olda oldx base is was same next =
    let facts = same refl in
    let end : hn ≡ true = next ∙ ap (λ (b : Bool). b || true) facts.0 in
    let now : olda ≡ base - 0 = was ∙ ap (λ (b : Bool). base - cond b 1 0) facts.0 in
    is ∙ (omega (arith, now, facts.1) ∙ ap (λ (b : Bool). base - cond b 1 0) (sym end))
out_case false true hn new olda oldx base is was same next =
    is ∙ (was ∙ ap (λ (b : Bool). base - cond b 1 0) (sym next))
out_case false false hn new olda oldx base is was same next =
    is ∙ (was ∙ ap (λ (b : Bool). base - cond b 1 0) (sym next))

gone_case : (s h hn z : Bool) (new old base : Option ℕ) → new ≡ cond s None old
    → old ≡ cond (h && z) None base → (s ≡ true → z ≡ true) → hn ≡ (h || s)
    → new ≡ cond (hn && z) None base
gone_case true true hn z new old base is was used next =
    is ∙ ap (λ (b : Bool). cond b None base) (sym (ap (λ (b : Bool). b && z) next ∙ used refl))
gone_case true false hn z new old base is was used next =
    is ∙ ap (λ (b : Bool). cond b None base) (sym (ap (λ (b : Bool). b && z) next ∙ used refl))
gone_case false true hn z new old base is was used next =
    is ∙ (was ∙ ap (λ (b : Bool). cond (b && z) None base) (sym next))
gone_case false false hn z new old base is was used next =
    is ∙ (was ∙ ap (λ (b : Bool). cond (b && z) None base) (sym next))

stay_case : (s h hn z : Bool) (old base : Option ℕ) → old ≡ cond (h && z) None base
    → (s ≡ true → z ≡ false) → hn ≡ (h || s) → old ≡ cond (hn && z) None base
stay_case true true hn z old base was used next =
    was ∙ ap (λ (b : Bool). cond (b && z) None base) (sym next)
stay_case true false hn z old base was used next =
    was ∙ ap (λ (b : Bool). cond b None base) (sym (ap (λ (b : Bool). b && z) next ∙ used refl))
stay_case false true hn z old base was used next =
    was ∙ ap (λ (b : Bool). cond (b && z) None base) (sym next)
stay_case false false hn z old base was used next =
    was ∙ ap (λ (b : Bool). cond (b && z) None base) (sym next)

module _ (xs : List Weighted) (i : ℕ) (d : Weighted) (lt : i < length xs) where
  abbrev here : Addr
  here = (get_or xs i d).addr

  module _ (dist : AreDistinct xs) (base old : FinMap addr_cmp ℕ) where
    same_facts : (a : Addr) → same_addr a here ≡ true
        → (has_addr (take i xs) a ≡ false) × (count_at old here ≡ count_at old a)
    same_facts a e =
        let is = same_is a here e in
        (ap (has_addr (take i xs)) is ∙ not_before xs i d dist lt, ap (count_at old) (sym is))

    pub counted_in : ((a : Addr) → count_at old a ≡ count_at base a
        + cond (has_addr (take i xs) a) 1 0) → (n : ℕ) → n ≡ count_at old here
        → (new : FinMap addr_cmp ℕ)
        → ((a : Addr) → count_at new a ≡ cond (same_addr a here) (n + 1) (count_at old a))
        → (a : Addr) → count_at new a ≡ count_at base a + cond (has_addr (take (i + 1) xs) a) 1 0
    counted_in was n count new is a =
        in_case (same_addr a here) (has_addr (take i xs) a) _ _ (count_at old a)
        (count_at old here) (count_at base a)
        (is a ∙ ap (λ m. cond (same_addr a here) (m + 1) (count_at old a)) count) (was a)
        (same_facts a) (has_next xs i d lt a)

    pub counted_out : ((a : Addr) → count_at old a ≡ count_at base a
        - cond (has_addr (take i xs) a) 1 0) → (n : ℕ) → n ≡ count_at old here → (m : ℕ) → m ≡ n - 1
        → (new : FinMap addr_cmp ℕ)
        → ((a : Addr) → count_at new a ≡ cond (same_addr a here) m (count_at old a)) → (a : Addr)
        → count_at new a ≡ count_at base a - cond (has_addr (take (i + 1) xs) a) 1 0
    counted_out was n count m less new is a =
        out_case (same_addr a here) (has_addr (take i xs) a) _ _ (count_at old a)
        (count_at old here) (count_at base a)
        (is a ∙ ap (λ k. cond (same_addr a here) k (count_at old a))
        (less ∙ ap (λ k. k - 1) count)) (was a) (same_facts a) (has_next xs i d lt a)

  module _ (uses base old : FinMap addr_cmp ℕ)
      (was : (a : Addr) → get old a ≡ cond (has_addr (take i xs) a && (count_at uses a == 0)) None
      (get base a)) (new : FinMap addr_cmp ℕ) (a : Addr) where
    used_here : same_addr a here ≡ true → (count_at uses a == 0) ≡ (count_at uses here == 0)
    used_here e = ap (λ b. count_at uses b == 0) (same_is a here e)

    pub released : (count_at uses here == 0) ≡ true → new ≡ remove old here
        → get new a ≡ cond (has_addr (take (i + 1) xs) a && (count_at uses a == 0)) None
        (get base a)
    released none is =
        gone_case (same_addr a here) (has_addr (take i xs) a) _ (count_at uses a == 0) _
        (get old a) (get base a) (ap (λ m. get m a) is ∙ get-remove addr_total old here a) (was a)
        (λ e. used_here e ∙ none) (has_next xs i d lt a)

    pub unreleased : (count_at uses here == 0) ≡ false → new ≡ old
        → get new a ≡ cond (has_addr (take (i + 1) xs) a && (count_at uses a == 0)) None
        (get base a)
    unreleased some is =
        ap (λ m. get m a) is
        ∙ stay_case (same_addr a here) (has_addr (take i xs) a) _ (count_at uses a == 0)
        (get old a) (get base a) (was a) (λ e. used_here e ∙ some) (has_next xs i d lt a)

none_assigned : (slots : Slots) (news : List Weighted) → assigned slots news [] ≡ slots
none_assigned slots [] = refl
none_assigned slots (a ∷ news) = refl

pub nothing_left : {A : Type 0} (xs : List A) (i : ℕ) → length xs ≤ i → drop i xs ≡ []
nothing_left xs i h = empty (drop i xs) (omega (arith, length-drop i xs))
  where
    empty : {A : Type 0} (ys : List A) → length ys ≡ 0 → ys ≡ []
    empty [] e = refl
    empty (y ∷ ys) e = absurd (omega arith)

module _ (news : List Weighted) (free : List ℕ) (i : ℕ) (d : Weighted) (lt : i < length news)
    (slots : Slots) where
  pub assigned_next : (s : ℕ) → i < length free → s ≡ get_or free i 0
      → assigned (insert slots (get_or news i d).addr s) (drop (i + 1) news) (drop (i + 1) free)
      ≡ assigned slots (drop i news) (drop i free)
  assigned_next s within is = rw (drop-cons news i d lt, drop-cons free i 0 within, is, add-one)
      refl

  pub assigned_none : length free ≤ i → assigned slots (drop (i + 1) news) (drop (i + 1) free)
      ≡ assigned slots (drop i news) (drop i free)
  assigned_none past = rw (
    nothing_left free i past,
    nothing_left free (i + 1) (omega arith),
    none_assigned slots (drop (i + 1) news),
    none_assigned slots (drop i news),
  ) refl

module _ (end i : ℕ) (lt : i < end) (taken found whole : List ℕ)
    (was : found ++ free_slots (end - i) i taken ≡ whole) where
  one_more : end - i ≡ suc (end - (i + 1))
  one_more = omega arith

  pub free_here : list_any (λ slot. slot == i) taken ≡ false
      → (found ++ i ∷ []) ++ free_slots (end - (i + 1)) (i + 1) taken ≡ whole
  free_here none =
      append_assoc found (i ∷ []) (free_slots (end - (i + 1)) (i + 1) taken)
      ∙ (ap (λ (b : Bool). found
      ++ (cond b (free_slots (end - (i + 1)) (i + 1) taken)
      (i ∷ free_slots (end - (i + 1)) (i + 1) taken))) (sym none)
      ∙ (ap (λ n. found ++ free_slots n i taken) (sym one_more) ∙ was))

  pub taken_here : list_any (λ slot. slot == i) taken ≡ true
      → found ++ free_slots (end - (i + 1)) (i + 1) taken ≡ whole
  taken_here some =
      ap (λ (b : Bool). found
      ++ (cond b (free_slots (end - (i + 1)) (i + 1) taken)
      (i ∷ free_slots (end - (i + 1)) (i + 1) taken))) (sym some)
      ∙ (ap (λ n. found ++ free_slots n i taken) (sym one_more) ∙ was)

pub is_zero : (n m : ℕ) → n ≡ m → n ≡ 0 → (m == 0) ≡ true
is_zero n m same zero_is = ap (λ k. k == 0) (sym same ∙ zero_is)

pub is_not_zero : (n m : ℕ) → n ≡ m → (n ≡ 0 → ⊥) → (m == 0) ≡ false
is_not_zero n m same never = let h : m ≢ 0 = λ e. never (same ∙ e) in grind (arith, nat_tests)

-- all numbers were marked
pub all_marked : (mark : Bool) (left all numbers : List ℕ) (at : ℕ) → left ≡ []
    → (mark || list_any (λ n. n == at) left) ≡ list_any (λ n. n == at) all → all ≡ numbers
    → mark ≡ list_any (λ n. n == at) numbers
all_marked true left all numbers at none same is = same ∙ ap (list_any (λ n. n == at)) is
all_marked false left all numbers at none same is =
    sym (ap (list_any (λ n. n == at)) none) ∙ (same ∙ ap (list_any (λ n. n == at)) is)
