-- What is always true of a book stays true where a service is set or dropped.
use Rattle.std.proofs.Common.{◌≡◌, ℕ, ◌+◌, ◌-◌, ◌<◌, ◌≤◌, Bool, true, false, List, [], ◌∷◌, length}
use Rattle.std.proofs.Common.{refl, sym, ap, ◌∙◌, arith, map, Option, Some, None, cond, subst, suc}
use Rattle.std.proofs.Common.{nat_cmp}
use Rattle.std.specs.Prelude.{not, ◌&&◌, ◌||◌, ◌==◌, is_some, nat_le, unwrap_or}
use Rattle.std.specs.Cmp.Lexicographic.{slice_cmp, nat_list_cmp_total}
use Rattle.std.specs.FinMap.{FinMap, entries, entries_sorted, get, get-entries, get-empty}
use Rattle.std.specs.FinMap.{get-from_sorted, from_sorted, entries-from_sorted, empty, insert}
use Rattle.std.specs.FinMap.{remove, contains_key, values, len, len-empty, len-entries, len-insert}
use Rattle.std.specs.FinMap.{len-remove, same_map}
use Rattle.std.specs.FinMap.Entries.{where_key, find-where_key, is_sorted-where_key}
use Rattle.std.proofs.lemmas.Bool.Decides.{nat_tests}
use Rattle.addr_book.specs.declared.addr.Addr.{Addr}
use Rattle.addr_book.specs.declared.addr.Weighted.{Weighted}
use Rattle.addr_book.specs.AddrList.{addr_cmp, same_addr, has_addr}
use Rattle.addr_book.specs.Book.{Services, Slots, is_used, staying, newcomers, free_slots}
use Rattle.addr_book.specs.Book.{with_newcomers}
use Rattle.addr_book.specs.BookFault.{has_no_room}
use Rattle.addr_book.specs.Uses.{count_at, having, list_of, IsSound}
use Rattle.addr_book.proofs.AddrLists.{addr_total}
use Rattle.addr_book.proofs.AddrMaps.{addr_only}
use Rattle.addr_book.proofs.Counts.{one, having-insert, having-remove, used_count, count_few}
use Rattle.addr_book.proofs.SlotSteps.{same_is}
use Rattle.addr_book.proofs.Seating.{AllUnder, AreBelow, IsApart, get-staying, contains-assigned}
use Rattle.addr_book.proofs.Seating.{apart-assigned, below-assigned, len-assigned, free_rising}
use Rattle.addr_book.proofs.Seating.{free_under, free_unused, free_enough}

is_none : (x : Option ℕ) → is_some x ≡ false → x ≡ None
is_none None e = refl
is_none (Some n) e = cc

zero_test : (n : ℕ) → (n == 0) ≡ true → n ≡ 0
zero_test n e = grind (arith, nat_tests)

test_zero : (n : ℕ) → n ≡ 0 → (n == 0) ≡ true
test_zero n e = ap (λ k. k == 0) e

more : (m n : ℕ) → m ≤ n → not (m == 0) ≡ true → not (n == 0) ≡ true
more m n le e = grind (arith, nat_tests)

some_more : (m : ℕ) → 1 ≤ m → not (m == 0) ≡ true
some_more m le = grind (arith, nat_tests)

-- ---- the slots that stay

len_filtered : (p : Addr → Bool) (es : List (Addr × ℕ))
    → length (where_key addr_cmp p es) ≤ length es
len_filtered p [] = omega arith
len_filtered p (e ∷ es) =
    let rest = len_filtered p es in
    elim (p e.0) as (λ b. length (cond b (e ∷ where_key addr_cmp p es) (where_key addr_cmp p es))
    ≤ length (e ∷ es)) [ true ↦ omega arith | false ↦ omega arith ]

pub len-staying : (slots : Slots) (services : Services) → len (staying slots services) ≤ len slots
len-staying slots services =
    let p = is_used services in
    let sorted = is_sorted-where_key addr_cmp p (entries slots) (entries_sorted slots) in
    let kept = where_key addr_cmp p (entries slots) in
    let same : staying slots services ≡ from_sorted kept =
    same_map addr_total addr_only (staying slots services) (from_sorted kept) (λ q.
    get-staying slots services q
    ∙ (ap (λ x. cond (p q) x None) (get-entries slots q)
    ∙ (sym (find-where_key addr_cmp p q (λ x t. ap p (sym (addr_only q x t))) (entries slots))
    ∙ sym (get-from_sorted addr_cmp kept q sorted)))) in
    let long : len (staying slots services) ≡ length kept =
    ap len same ∙ (len-entries (from_sorted kept)
    ∙ ap length (entries-from_sorted addr_cmp kept sorted)) in
    omega (arith, long, len_filtered p (entries slots), len-entries slots)

stay_case : (b z used : Bool) (g : Option ℕ) → used ≡ not z → (z ≡ true → b ≡ false → g ≡ None)
    → cond (b && z) None g ≡ cond used g None
stay_case true true used g is none = ap (λ u. cond u g None) (sym is)
stay_case true false used g is none = ap (λ u. cond u g None) (sym is)
stay_case false true used g is none = none refl refl ∙ ap (λ u. cond u g None) (sym is)
stay_case false false used g is none = ap (λ u. cond u g None) (sym is)

module _ (services : Services) (slots : Slots) (uses : FinMap addr_cmp ℕ)
    (sound : IsSound services slots uses) where
  -- an address that no service has, has no slot
  unseated : (a : Addr) → having (values services) a ≡ 0 → get slots a ≡ None
  unseated a e = is_none (get slots a)
      (sound.seated a ∙ (used_count services a ∙ ap not (test_zero _ e)))

  pub stays : (after : Services) (before : List Weighted) (counts : FinMap addr_cmp ℕ)
      (kept : Slots) → ((a : Addr) → count_at counts a ≡ having (values after) a)
      → ((a : Addr) → has_addr before a ≡ false → having (values after) a ≡ 0
      → having (values services) a ≡ 0)
      → ((a : Addr) → get kept a ≡ cond (has_addr before a && (count_at counts a == 0)) None
      (get slots a)) → kept ≡ staying slots after
  stays after before counts kept counted left is =
      same_map addr_total addr_only kept (staying slots after) (λ a.
      is a
      ∙ (stay_case (has_addr before a) (count_at counts a == 0) (is_used after a) (get slots a)
      (used_count after a ∙ ap (λ n. not (n == 0)) (sym (counted a)))
      (λ z b. unseated a (left a b (sym (counted a) ∙ zero_test (count_at counts a) z)))
      ∙ sym (get-staying slots after a)))

  contains_staying : (after : Services) (a : Addr) → contains_key (staying slots after) a
      ≡ (is_used after a && is_used services a)
  contains_staying after a = ap is_some (get-staying slots after a)
      ∙ (pick (is_used after a) (get slots a) ∙ ap (λ b. is_used after a && b) (sound.seated a))
    where
      pick : (b : Bool) (x : Option ℕ) → is_some (cond b x None) ≡ (b && is_some x)
      pick true x = refl
      pick false x = refl

  had : (after : Services) (a : Addr) (slot : ℕ) → get (staying slots after) a ≡ Some slot
      → get slots a ≡ Some slot
  had after a slot is = go (is_used after a) (get slots a) (sym (get-staying slots after a) ∙ is)
    where
      go : (b : Bool) (x : Option ℕ) → cond b x None ≡ Some slot → x ≡ Some slot
      go true x e = e
      go false x e = cc

  pub apart_staying : (after : Services) → IsApart (staying slots after)
  apart_staying after a b slot p q = sound.apart a b slot (had after a slot p) (had after b slot q)

  pub below_staying : (after : Services) → AreBelow 8192 (staying slots after)
  below_staying after a slot is = sound.below a slot (had after a slot is)

  -- ---- a service is dropped

  module _ (name : List ℕ) where
    abbrev gone : Services
    gone = remove services name

    pub dropped_count : (counts : FinMap addr_cmp ℕ)
        → ((a : Addr) → count_at counts a ≡ count_at uses a + cond (has_addr [] a) 1 0
        - one (list_of (get services name)) a) → (a : Addr)
        → count_at counts a ≡ having (values gone) a
    dropped_count counts is a = omega (arith, is a, sound.counted a, having-remove services name a)

    pub dropped_left : (a : Addr) → has_addr (list_of (get services name)) a ≡ false
        → having (values gone) a ≡ 0 → having (values services) a ≡ 0
    dropped_left a none zero =
        let least : one (list_of (get services name)) a ≡ 0 = ap (λ (b : Bool). cond b 1 0) none in
        omega (arith, least, zero, having-remove services name a)

    still_used : (a : Addr) → is_used gone a ≡ true → is_used services a ≡ true
    still_used a e = used_count services a
        ∙ more (having (values gone) a) (having (values services) a)
        (omega (arith, having-remove services name a)) (sym (used_count gone a) ∙ e)

    pub dropped : (counts : FinMap addr_cmp ℕ)
        → ((a : Addr) → count_at counts a ≡ having (values gone) a)
        → IsSound gone (staying slots gone) counts
    dropped counts counted = record {
      few = omega (
        arith,
        len_gone (contains_key services name) (len services) (len gone)
            (len-remove nat_list_cmp_total services name),
        sound.few,
      );
      room = omega (arith, len-staying slots gone, sound.room);
      seated = λ a. contains_staying gone a
          ∙ both (is_used gone a) (is_used services a) (still_used a);
      below = below_staying gone;
      apart = apart_staying gone;
      counted = counted;
    }
      where
        len_gone : (b : Bool) (m n : ℕ) → n ≡ cond b (m - 1) m → n ≤ m
        len_gone true m n e = omega arith
        len_gone false m n e = omega arith

        both : (a b : Bool) → (a ≡ true → b ≡ true) → (a && b) ≡ a
        both true b h = h refl
        both false b h = refl

  -- ---- a service is set

  module _ (name : List ℕ) (list : List Weighted) where
    abbrev after : Services
    after = insert services name list

    abbrev stay : Slots
    stay = staying slots after

    abbrev news : List Weighted
    news = newcomers stay list

    pub set_count : (counts : FinMap addr_cmp ℕ)
        → ((a : Addr) → count_at counts a ≡ count_at uses a + one list a
        - one (list_of (get services name)) a) → (a : Addr)
        → count_at counts a ≡ having (values after) a
    set_count counts is a = omega (arith, is a, sound.counted a, having-insert services name list a)

    pub set_left : (a : Addr) → has_addr (list_of (get services name)) a ≡ false
        → having (values after) a ≡ 0 → having (values services) a ≡ 0
    set_left a none zero =
        let least : one (list_of (get services name)) a ≡ 0 = ap (λ (b : Bool). cond b 1 0) none in
        omega (arith, least, zero, having-insert services name list a)

    listed_used : (a : Addr) → has_addr list a ≡ true → is_used after a ≡ true
    listed_used a e =
        let one_is : one list a ≡ 1 = ap (λ (b : Bool). cond b 1 0) e in
        used_count after a ∙ some_more (having (values after) a)
        (omega (arith, one_is, having-insert services name list a, having-remove services name a))

    was_used : (a : Addr) → is_used after a ≡ true → has_addr list a ≡ false
        → is_used services a ≡ true
    was_used a used none =
        let least : one list a ≡ 0 = ap (λ (b : Bool). cond b 1 0) none in
        used_count services a
        ∙ more (having (values after) a) (having (values services) a)
        (omega (arith, least, having-insert services name list a)) (sym (used_count after a) ∙ used)

    has_news : (xs : List Weighted) (a : Addr) → has_addr (newcomers stay xs) a
        ≡ (has_addr xs a && not (contains_key stay a))
    has_news [] a = refl
    has_news (x ∷ xs) a = go (has_news xs a) (same_addr a x.addr) refl
        (contains_key stay x.addr) refl
      where
        go : has_addr (newcomers stay xs) a ≡ (has_addr xs a && not (contains_key stay a))
            → (s : Bool) → same_addr a x.addr ≡ s → (c : Bool) → contains_key stay x.addr ≡ c
            → has_addr (cond (not c) (x ∷ newcomers stay xs) (newcomers stay xs)) a
            ≡ ((s || has_addr xs a) && not (contains_key stay a))
        go rest true s true c =
            let here : contains_key stay a ≡ true = ap (contains_key stay) (same_is a x.addr s)
            ∙ c in
            rest ∙ (ap (λ b. has_addr xs a && not b) here
            ∙ (none (has_addr xs a) ∙ ap not (sym here)))
          where
            none : (b : Bool) → (b && false) ≡ false
            none true = refl
            none false = refl
        go rest true s false c =
            let here : contains_key stay a ≡ false = ap (contains_key stay) (same_is a x.addr s)
            ∙ c in
            ap (λ b. b || has_addr (newcomers stay xs) a) s ∙ ap not (sym here)
        go rest false s true c = rest
        go rest false s false c = ap (λ b. b || has_addr (newcomers stay xs) a) s ∙ rest

    used_case : (u v h : Bool) → (h ≡ true → u ≡ true) → (u ≡ true → h ≡ false → v ≡ true)
        → ((u && v) || (h && not (u && v))) ≡ u
    used_case true true h p q = refl
    used_case true false true p q = refl
    used_case true false false p q = q refl refl
    used_case false v true p q = absurd (no_case (p refl))
      where
        no_case : false ≡ true → ⊥
        no_case e = cc
    used_case false v false p q = refl

    abbrev free : List ℕ
    free = free_slots (len stay + length news) 0 (values stay)

    length_values : (es : List (Addr × ℕ)) → length (map (λ e. e.1) es) ≡ length es
    length_values [] = refl
    length_values (e ∷ es) = ap suc (length_values es)

    enough : length news ≤ length free
    enough = omega (
      arith,
      free_enough (len stay + length news) 0 (values stay),
      length_values (entries stay),
      len-entries stay,
    )

    wider : (low high : ℕ) (ss : List ℕ) → low ≤ high → AllUnder low ss → AllUnder high ss
    wider low high [] le h = tt
    wider low high (s ∷ ss) le h = (omega (arith, h.0), wider low high ss le h.1)

    set_len : (b : Bool) (m n : ℕ) → n ≡ cond b m (m + 1) → m ≤ 4096
        → (not b && nat_le 4096 m) ≡ false → n ≤ 4096
    set_len true m n e le room = omega arith
    set_len false m n e le room = grind (arith, nat_tests)

    pub set : (counts : FinMap addr_cmp ℕ)
        → ((a : Addr) → count_at counts a ≡ having (values after) a)
        → has_no_room (record { services = services; slots = slots }) name ≡ false
        → len stay + length news ≤ 8192 → IsSound after (with_newcomers stay news) counts
    set counts counted room few = record {
      few = set_len (contains_key services name) (len services) (len after)
          (len-insert nat_list_cmp_total services name list) sound.few room;
      room = omega (arith, len-assigned stay news free);
      seated = λ a.
          contains-assigned stay news free a enough
          ∙ ((λ i. contains_staying after a i || has_news list a i)
          ∙ (ap (λ c. (is_used after a && is_used services a) || (has_addr list a && not c))
          (contains_staying after a)
          ∙ used_case (is_used after a) (is_used services a) (has_addr list a) (listed_used a)
          (was_used a)));
      below = below-assigned stay news free 8192 (below_staying after)
          (wider (0 + (len stay + length news)) 8192 free (omega arith)
          (free_under (len stay + length news) 0 (values stay)));
      apart = apart-assigned stay news free 0 (apart_staying after)
          (free_rising (len stay + length news) 0 (values stay))
          (free_unused stay (len stay + length news) 0);
      counted = counted;
    }

  -- the seats that a change leaves, from what they have address by address
  module _ (name : List ℕ) (before : List Weighted) (same : before ≡ list_of (get services name))
      (counts : FinMap addr_cmp ℕ) (kept : Slots)
      (freed : (a : Addr) → get kept a ≡ cond (has_addr before a && (count_at counts a == 0)) None
      (get slots a)) where
    left_of : (rest : Services)
        → ((a : Addr) → has_addr (list_of (get services name)) a ≡ false
        → having (values rest) a ≡ 0 → having (values services) a ≡ 0)
        → (a : Addr) → has_addr before a ≡ false → having (values rest) a ≡ 0
        → having (values services) a ≡ 0
    left_of rest left a none = left a (ap (λ xs. has_addr xs a) (sym same) ∙ none)

    module _ (is : (a : Addr) → count_at counts a ≡ count_at uses a + 0
        - cond (has_addr before a) 1 0) where
      counted_drop : (a : Addr) → count_at counts a ≡ having (values (gone name)) a
      counted_drop = dropped_count name counts
          (λ a. is a ∙ ap (λ xs. count_at uses a + 0 - cond (has_addr xs a) 1 0) same)

      pub drop_slots : kept ≡ staying slots (gone name)
      drop_slots = stays (gone name) before counts kept counted_drop
          (left_of (gone name) (dropped_left name)) freed

      pub drop_sound : IsSound (gone name) kept counts
      drop_sound = subst (λ (k : Slots). IsSound (gone name) k counts) (sym drop_slots)
          (dropped name counts counted_drop)

    module _ (list : List Weighted) (is : (a : Addr) → count_at counts a
        ≡ count_at uses a + cond (has_addr list a) 1 0 - cond (has_addr before a) 1 0) where
      counted_set : (a : Addr) → count_at counts a ≡ having (values (after name list)) a
      counted_set = set_count name list counts
          (λ a. is a ∙ ap (λ xs. count_at uses a + cond (has_addr list a) 1 0
          - cond (has_addr xs a) 1 0) same)

      pub set_slots : kept ≡ staying slots (after name list)
      set_slots = stays (after name list) before counts kept counted_set
          (left_of (after name list) (set_left name list)) freed

      pub set_sound : has_no_room (record { services = services; slots = slots }) name ≡ false
          → len kept + length (newcomers kept list) ≤ 8192
          → IsSound (after name list) (with_newcomers kept (newcomers kept list)) counts
      set_sound room few =
          subst (λ (k : Slots). len k + length (newcomers k list) ≤ 8192
          → IsSound (after name list) (with_newcomers k (newcomers k list)) counts) (sym set_slots)
          (set name list counts counted_set room) few

pub few_counts : (services : Services) (slots : Slots) (uses : FinMap addr_cmp ℕ)
    → IsSound services slots uses → (a : Addr) → count_at uses a < 65536
few_counts services slots uses sound a =
    omega (arith, sound.counted a, count_few services a, sound.few)

-- an address of a service is counted
pub used_once : (services : Services) (slots : Slots) (uses : FinMap addr_cmp ℕ)
    → IsSound services slots uses → (name : List ℕ) (before : List Weighted)
    → before ≡ list_of (get services name)
    → (a : Addr) → has_addr before a ≡ true → 1 ≤ count_at uses a
used_once services slots uses sound name before same a there =
    let counted : one (list_of (get services name)) a ≡ 1 =
    ap (λ b. cond b 1 0) (ap (λ (list : List Weighted). has_addr list a) (sym same) ∙ there) in
    omega (arith, sound.counted a, having-remove services name a, counted)

nothing_at : (a : Addr) → get (empty {X = ℕ} {R = addr_cmp}) a ≡ None
nothing_at a = get-empty addr_cmp a

no_value : (a : Addr) (slot : ℕ) → get (empty {X = ℕ} {R = addr_cmp}) a ≡ Some slot → ⊥
no_value a slot is = let e = sym (nothing_at a) ∙ is in cc

no_use : (a : Addr) → having (values (empty {X = List Weighted} {R = slice_cmp nat_cmp})) a ≡ 0
no_use a = omega (
  arith,
  count_few (empty {X = List Weighted} {R = slice_cmp nat_cmp}) a,
  len-empty (slice_cmp nat_cmp) (List Weighted),
)

pub no_services : IsSound empty empty empty
no_services = record {
  few = omega (arith, len-empty (slice_cmp nat_cmp) (List Weighted));
  room = omega (arith, len-empty addr_cmp ℕ);
  seated = λ a. ap is_some (nothing_at a)
      ∙ sym (used_count (empty {X = List Weighted} {R = slice_cmp nat_cmp}) a
      ∙ ap (λ n. not (n == 0)) (no_use a));
  below = λ a slot is. absurd (no_value a slot is);
  apart = λ a b slot p q. absurd (no_value a slot p);
  counted = λ a. ap (λ x. unwrap_or x 0) (nothing_at a) ∙ sym (no_use a);
}
