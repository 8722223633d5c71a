-- Callers that made as many changes as a list has made all that it has.
use Rattle.std.proofs.Common.{◌≡◌, ◌≢◌, ℕ, suc, ◌+◌, ◌-◌, ◌<◌, ◌≤◌, ◌==◌, Bool, true, false, List}
use Rattle.std.proofs.Common.{[], ◌∷◌, ◌++◌, length, take, Some, None, Option, slice_get, refl}
use Rattle.std.proofs.Common.{arith, ap, sym, ◌∙◌, subst}
use Rattle.std.specs.Prelude.{All, ⊤, ◌&&◌, if◌then◌else◌, map, filter, slice_index_or, Contains}
use Rattle.std.proofs.lemmas.Bool.Decides.{nat_tests}
use Rattle.std.proofs.lemmas.List.Elements.{All-cons, All-head, All-tail, All-nil, All-weaker}
use Rattle.std.proofs.lemmas.List.Elements.{Contains-append_right}
use Rattle.one_history.specs.Entries.{entry_at, Behind, changes_with, others_with, entries_from}
use Rattle.one_history.specs.Entries.{changes_after, changes_made, entries, Follow}
use Rattle.one_history.specs.Calls.{Placed}
use Rattle.one_history.specs.Order.{own_changes, InOrder, changes_of_all, Distinct, OfCaller}
use Rattle.one_history.specs.Order.{CountShowsCallers}

-- what holds of two things of each holds of what follows from both
all_with : {A : Type 0} (P Q R : A → Type 0) → ((x : A) → P x → Q x → R x) → (xs : List A)
    → All P xs → All Q xs → All R xs
all_with P Q R f xs ps qs k d lt = f (slice_index_or xs k d) (ps k d lt) (qs k d lt)

-- 1 for a test that passes
abbrev one_if : Bool → ℕ
one_if true = 1
one_if false = 0

unequal : (a b : ℕ) → (a ≡ b → ⊥) → (a == b) ≡ false
unequal a b other = unequal_case (a == b) refl where
  unequal_case : (t : Bool) → (a == b) ≡ t → t ≡ false
  unequal_case true is = absurd (other (let e : a ≡ b = grind (arith, nat_tests) in e))
  unequal_case false is = refl

differ : (a b : ℕ) → (a == b) ≡ false → a ≡ b → ⊥
differ a b is e = let t : (a == b) ≡ true = grind (arith, nat_tests) in
    absurd (let f : true ≡ false = sym t ∙ is in cc)

no_items : {A : Type 0} (xs : List A) → length xs ≡ 0 → xs ≡ []
no_items [] is = refl
no_items (x ∷ xs) is = absurd (omega (arith, is))

module _ {O : Type 0} where
  -- the points rise from this number on
  abbrev Rising : ℕ → List (O × ℕ) → Type 0
  Rising b [] = ⊤
  Rising b (e ∷ es) = (b ≤ e.1) × Rising (e.1 + 1) es

  rising_lower : (b n : ℕ) (es : List (O × ℕ)) → b ≤ n → Rising n es → Rising b es
  rising_lower b n [] le r = tt
  rising_lower b n (e ∷ es) le r = (omega (arith, le, r.0), r.1)

  rising_above : (b : ℕ) (es : List (O × ℕ)) → Rising b es → All (λ e. b ≤ e.1) es
  rising_above b [] r = All-nil (λ (e : O × ℕ). b ≤ e.1)
  rising_above b (e ∷ es) r = All-cons (λ (e : O × ℕ). b ≤ e.1) e es r.0
      (rising_above b es (rising_lower b (e.1 + 1) es (omega (arith, r.0)) r.1))

  shift : (p : O) (ps : List O) (b : ℕ) (e : O × ℕ) → b + 1 ≤ e.1
      → slice_get (p ∷ ps) (e.1 - b) ≡ Some e.0 → slice_get ps (e.1 - (b + 1)) ≡ Some e.0
  shift p ps b e le s =
      let n : e.1 - b ≡ suc (e.1 - (b + 1)) = omega (arith, le) in
      subst (λ (k : ℕ). slice_get (p ∷ ps) k ≡ Some e.0) n s

  -- the operations of some entries
  abbrev operations : List (O × ℕ) → List O
  operations es = map (λ e. e.0) es

  module _ (q : O → Bool) where
    length_filter : (p : O) (ps : List O) (t : Bool) → q p ≡ t
        → length (filter q (p ∷ ps)) ≡ one_if t + length (filter q ps)
    length_filter p ps true is = rw is (omega arith)
    length_filter p ps false is = rw is (omega arith)

    filter_both : (p : O) (xs ps : List O) (t : Bool) → q p ≡ t → filter q xs ≡ filter q ps
        → filter q (p ∷ xs) ≡ filter q (p ∷ ps)
    filter_both p xs ps true is same = rw is (ap (λ l. p ∷ l) same)
    filter_both p xs ps false is same = rw is same

    filter_same : (p : O) (ps : List O) → q p ≡ false → filter q (p ∷ ps) ≡ filter q ps
    filter_same p ps is = rw is refl

    -- entries that stand in a list at rising points are no more than the list has, and all of it
    -- where they are as many
    record Picks (ops : List O) (es : List (O × ℕ)) : Type 0 where
      few : length (filter q (operations es)) ≤ length (filter q ops)
      all : length (filter q ops) ≤ length (filter q (operations es))
          → filter q (operations es) ≡ filter q ops

    skipped : (p : O) (ps : List O) (es : List (O × ℕ)) (t : Bool) → q p ≡ t → Picks ps es
        → Picks (p ∷ ps) es
    skipped p ps es true is picks = let n = length_filter p ps true is in record {
      few = omega (arith, n, picks.few);
      all = λ le. absurd (omega (arith, n, picks.few, le));
    }
    skipped p ps es false is picks = let e = filter_same p ps is in record {
      few = rw e picks.few;
      all = λ le. rw e (picks.all (rw (← e) le));
    }

    taken_here : (p : O) (ps : List O) (e : O × ℕ) (es : List (O × ℕ)) (t : Bool) → q p ≡ t
        → e.0 ≡ p → Picks ps es → Picks (p ∷ ps) (e ∷ es)
    taken_here p ps e es t is same picks =
        let n = length_filter p ps t is in
        let m : length (filter q (e.0 ∷ operations es)) ≡ one_if t
        + length (filter q (operations es)) =
        length_filter e.0 (operations es) t (ap q same ∙ is) in record {
          few = omega (arith, n, m, picks.few);
          all = λ le. rw same (filter_both p (operations es) ps t is
              (picks.all (omega (arith, n, m, le))));
        }

    abbrev Stand : List O → ℕ → List (O × ℕ) → Type 0
    Stand ops b es = All (λ e. slice_get ops (e.1 - b) ≡ Some e.0) es

    shift_all : (p : O) (ps : List O) (b : ℕ) (es : List (O × ℕ)) → All (λ e. b + 1 ≤ e.1) es
        → Stand (p ∷ ps) b es → Stand ps (b + 1) es
    shift_all p ps b es above stand =
        all_with (λ (e : O × ℕ). b + 1 ≤ e.1)
        (λ (e : O × ℕ). slice_get (p ∷ ps) (e.1 - b) ≡ Some e.0)
        (λ (e : O × ℕ). slice_get ps (e.1 - (b + 1)) ≡ Some e.0)
        (λ e le s. shift p ps b e le s) es above stand

    first_here : (p : O) (ps : List O) (b : ℕ) (e : O × ℕ) → e.1 ≡ b
        → slice_get (p ∷ ps) (e.1 - b) ≡ Some e.0 → e.0 ≡ p
    first_here p ps b e is s = let n : e.1 - b ≡ 0 = omega (arith, is) in
        let h : slice_get (p ∷ ps) 0 ≡ Some e.0 =
        subst (λ (k : ℕ). slice_get (p ∷ ps) k ≡ Some e.0) n s in cc h

    -- the first entry stands at the list's first place, or all stand behind it
    pick_first : (p : O) (ps : List O) (b : ℕ) (e : O × ℕ) (es : List (O × ℕ)) → Rising b (e ∷ es)
        → Stand (p ∷ ps) b (e ∷ es)
        → ((n : ℕ) (xs : List (O × ℕ)) → Rising n xs → Stand ps n xs → Picks ps xs) → (t : Bool)
        → (e.1 == b) ≡ t → Picks (p ∷ ps) (e ∷ es)
    pick_first p ps b e es rising stand below true is =
        let here : e.1 ≡ b = grind (arith, nat_tests) in
        let rest : Rising (b + 1) es = rising_lower (b + 1) (e.1 + 1) es
        (omega (arith, here)) rising.1 in
        let P = λ (x : O × ℕ). slice_get (p ∷ ps) (x.1 - b) ≡ Some x.0 in
        let picked = below (b + 1) es rest
        (shift_all p ps b es (rising_above (b + 1) es rest) (All-tail P e es stand)) in
        taken_here p ps e es (q p) refl (first_here p ps b e here (All-head P e es stand)) picked
    pick_first p ps b e es rising stand below false is =
        let later : b + 1 ≤ e.1 = let le = rising.0 in let ne = is in grind (arith, nat_tests) in
        let all : Rising (b + 1) (e ∷ es) = (later, rising.1) in
        skipped p ps (e ∷ es) (q p) refl
        (below (b + 1) (e ∷ es) all
        (shift_all p ps b (e ∷ es) (rising_above (b + 1) (e ∷ es) all) stand))

    picks : (ops : List O) (b : ℕ) (es : List (O × ℕ)) → Rising b es → Stand ops b es → Picks ops es
    picks [] b [] rising stand = record { few = omega arith; all = λ le. refl }
    picks [] b (e ∷ es) rising stand = let here : slice_get [] (e.1 - b) ≡ Some e.0 =
        All-head (λ (x : O × ℕ). slice_get [] (x.1 - b) ≡ Some x.0) e es stand in absurd cc
    picks (p ∷ ps) b [] rising stand = record
        { few = omega arith; all = λ le. sym (no_items (filter q (p ∷ ps)) (omega (arith, le))) }
    picks (p ∷ ps) b (e ∷ es) rising stand =
        pick_first p ps b e es rising stand (λ n xs r s. picks ps n xs r s) (e.1 == b) refl

module _ {O C : Type 0} (is_change : O → Bool) (publishes : List O → ℕ → ℕ → ℕ → C → Option O)
    (caller_of : O → ℕ) where
  rising_case : (found : Option O) (at b : ℕ) (items : List (C × ℕ)) (rest : List (O × ℕ)) → b ≤ at
      → All (λ next. Behind found at next.1) items → All (λ next. b ≤ next.1) items
      → ((n : ℕ) → All (λ next. n ≤ next.1) items → Rising n rest)
      → Rising b (entry_at found at ++ rest)
  rising_case None at b items rest le behind above k = k b above
  rising_case (Some op) at b items rest le behind above k = (
    le,
    k (at + 1) (All-weaker (λ (next : C × ℕ). at < next.1)
        (λ (next : C × ℕ). at + 1 ≤ next.1) (λ next lt. omega (arith, lt)) items behind),
  )

  rising_entries : (caller : ℕ) (seen : List O) (c o b : ℕ) (items : List (C × ℕ))
      → All (λ item. b ≤ item.1) items → Follow is_change publishes caller seen c o items
      → Rising b (entries_from is_change publishes caller seen c o items)
  rising_entries caller seen c o b [] above follow = tt
  rising_entries caller seen c o b (item ∷ items) above follow =
      let found = publishes (take item.1 seen) caller c o item.0 in
      let c' = changes_with is_change publishes found c in
      let o' = others_with is_change publishes found o in
      let P = λ (i : C × ℕ). b ≤ i.1 in
      rising_case found item.1 b items (entries_from is_change publishes caller seen c' o' items)
      (All-head P item items above) follow.0 (All-tail P item items above)
      (λ n all. rising_entries caller seen c' o' n items all follow.1)

  caller_case : (caller : ℕ) (found : Option O) (at : ℕ) (rest : List (O × ℕ))
      → ((op : O) → found ≡ Some op → caller_of op ≡ caller)
      → All (λ e. caller_of e.0 ≡ caller) rest
      → All (λ e. caller_of e.0 ≡ caller) (entry_at found at ++ rest)
  caller_case caller None at rest of all = all
  caller_case caller (Some op) at rest of all =
      All-cons (λ (e : O × ℕ). caller_of e.0 ≡ caller) (op, at) rest (of op refl) all

  own_entries : (caller : ℕ) (seen : List O) (c o : ℕ) (items : List (C × ℕ))
      → OfCaller is_change publishes caller_of caller
      → All (λ e. caller_of e.0 ≡ caller) (entries_from is_change publishes caller seen c o items)
  own_entries caller seen c o [] of = All-nil (λ (e : O × ℕ). caller_of e.0 ≡ caller)
  own_entries caller seen c o (item ∷ items) of =
      let found = publishes (take item.1 seen) caller c o item.0 in
      let c' = changes_with is_change publishes found c in
      let o' = others_with is_change publishes found o in
      caller_case caller found item.1 (entries_from is_change publishes caller seen c' o' items)
      (λ op is. of (take item.1 seen) c o item.0 op is) (own_entries caller seen c' o' items of)

  own_test : (caller : ℕ) (op : O) → caller_of op ≡ caller
      → (is_change op && (caller_of op == caller)) ≡ is_change op
  own_test caller op is = own_case (is_change op) (caller_of op == caller)
      (grind (arith, nat_tests)) where
        own_case : (s t : Bool) → t ≡ true → (s && t) ≡ s
        own_case true t is = is
        own_case false t is = refl

  filter_own : (caller : ℕ) (es : List (O × ℕ)) → All (λ e. caller_of e.0 ≡ caller) es
      → filter is_change (operations es) ≡ filter (λ op. is_change op && (caller_of op == caller))
      (operations es)
  filter_own caller [] all = refl
  filter_own caller (e ∷ es) all =
      let P = λ (x : O × ℕ). caller_of x.0 ≡ caller in
      let t = own_test caller e.0 (All-head P e es all) in
      let rest = filter_own caller es (All-tail P e es all) in
      filter_case (is_change e.0) (is_change e.0 && (caller_of e.0 == caller)) e.0 t rest
    where
      filter_case : (s t : Bool) (x : O) → t ≡ s → {xs ys : List O} → xs ≡ ys
          → (if s then x ∷ xs else xs) ≡ (if t then x ∷ ys else ys)
      filter_case s t x is same = rw (is, same) refl

  count_case : (found : Option O) (at c n : ℕ) (rest : List (O × ℕ))
      → length (filter is_change (operations rest)) + changes_with is_change publishes found c ≡ n
      → length (filter is_change (operations (entry_at found at ++ rest))) + c ≡ n
  count_case None at c n rest is = is
  count_case (Some op) at c n rest is = count_op (is_change op) refl where
    count_op : (t : Bool) → is_change op ≡ t → length (filter is_change (op ∷ operations rest)) + c
        ≡ n
    count_op true t = let l = length_filter is_change op (operations rest) true t in
        let c' : changes_with is_change publishes (Some op) c ≡ c + 1 = rw t refl in
        omega (arith, l, c', is)
    count_op false t = let l = length_filter is_change op (operations rest) false t in
        let c' : changes_with is_change publishes (Some op) c ≡ c = rw t refl in
        omega (arith, l, c', is)

  changes_counted : (caller : ℕ) (seen : List O) (c o : ℕ) (items : List (C × ℕ))
      → length (filter is_change
      (operations (entries_from is_change publishes caller seen c o items))) + c
      ≡ changes_after is_change publishes caller seen c o items
  changes_counted caller seen c o [] = omega arith
  changes_counted caller seen c o (item ∷ items) =
      let found = publishes (take item.1 seen) caller c o item.0 in
      let c' = changes_with is_change publishes found c in
      let o' = others_with is_change publishes found o in
      count_case found item.1 c (changes_after is_change publishes caller seen c' o' items)
      (entries_from is_change publishes caller seen c' o' items)
      (changes_counted caller seen c' o' items)

  -- what a caller's placed items published is among its own changes, and all of them where it is as
  -- many
  own_picked : (caller : ℕ) (ops : List O) (items : List (C × ℕ))
      → OfCaller is_change publishes caller_of caller → Placed is_change publishes caller ops items
      → Picks (λ op. is_change op && (caller_of op == caller)) ops
      (entries is_change publishes caller ops items)
  own_picked caller ops items of placed =
      let es = entries is_change publishes caller ops items in
      let zero_up : All (λ (i : C × ℕ). 0 ≤ i.1) items = λ k d lt. omega arith in
      let rising = rising_entries caller ops 0 0 0 items zero_up placed.follow in
      let at : (e : O × ℕ) → slice_get ops e.1 ≡ Some e.0 → slice_get ops (e.1 - 0) ≡ Some e.0 =
      λ e s. let n : e.1 - 0 ≡ e.1 = omega arith in rw n s in
      picks (λ op. is_change op && (caller_of op == caller)) ops 0 es rising
      (All-weaker (λ (e : O × ℕ). slice_get ops e.1 ≡ Some e.0)
      (λ (e : O × ℕ). slice_get ops (e.1 - 0) ≡ Some e.0) at es placed.stands)

  made_at_most : (caller : ℕ) (ops : List O) (items : List (C × ℕ))
      → OfCaller is_change publishes caller_of caller → Placed is_change publishes caller ops items
      → changes_made is_change publishes caller ops items
      ≤ length (own_changes is_change publishes caller_of caller ops)
  made_at_most caller ops items of placed =
      let es = entries is_change publishes caller ops items in
      let n = changes_counted caller ops 0 0 items in
      let own = ap length (filter_own caller es (own_entries caller ops 0 0 items of)) in
      omega (arith, n, own, (own_picked caller ops items of placed).few)

  made_all : (caller : ℕ) (ops : List O) (items : List (C × ℕ))
      → OfCaller is_change publishes caller_of caller → Placed is_change publishes caller ops items
      → length (own_changes is_change publishes caller_of caller ops)
      ≤ changes_made is_change publishes caller ops items
      → InOrder is_change publishes caller_of caller ops items
  made_all caller ops items of placed le =
      let es = entries is_change publishes caller ops items in
      let n = changes_counted caller ops 0 0 items in
      let same = filter_own caller es (own_entries caller ops 0 0 items of) in
      let own = ap length same in record {
        placed = placed;
        own = sym ((own_picked caller ops items of placed).all (omega (arith, n, own, le)))
            ∙ sym same;
      }

  -- how many of the callers' own changes there are
  abbrev own_of_all : List ℕ → List O → ℕ
  own_of_all [] ops = 0
  own_of_all (n ∷ ns) ops = length (own_changes is_change publishes caller_of n ops)
      + own_of_all ns ops

  -- how many of the callers have an operation as their own change
  abbrev owners : List ℕ → O → ℕ
  owners [] op = 0
  owners (n ∷ ns) op = one_if (is_change op && (caller_of op == n)) + owners ns op

  own_none : (ns : List ℕ) → own_of_all ns [] ≡ 0
  own_none [] = refl
  own_none (n ∷ ns) = omega (arith, own_none ns)

  own_next : (ns : List ℕ) (op : O) (ops : List O) → own_of_all ns (op ∷ ops)
      ≡ owners ns op + own_of_all ns ops
  own_next [] op ops = omega arith
  own_next (n ∷ ns) op ops =
      let q = λ (x : O). is_change x && (caller_of x == n) in
      omega (arith, length_filter q op ops (q op) refl, own_next ns op ops)

  not_owner : (n : ℕ) (op : O) → (caller_of op ≡ n → ⊥)
      → one_if (is_change op && (caller_of op == n)) ≡ 0
  not_owner n op other = not_case (is_change op) (caller_of op == n)
      (unequal (caller_of op) n other) where
        not_case : (s t : Bool) → t ≡ false → one_if (s && t) ≡ 0
        not_case true t is = rw is refl
        not_case false t is = refl

  none_owns : (ns : List ℕ) (op : O) → All (λ m. m ≢ caller_of op) ns → owners ns op ≡ 0
  none_owns [] op none = refl
  none_owns (n ∷ ns) op none =
      let P = λ (m : ℕ). m ≢ caller_of op in
      let here = not_owner n op (λ is. All-head P n ns none (sym is)) in
      omega (arith, here, none_owns ns op (All-tail P n ns none))

  unchanged_owner : (ns : List ℕ) (op : O) → is_change op ≡ false → owners ns op ≡ 0
  unchanged_owner [] op is = refl
  unchanged_owner (n ∷ ns) op is = let here : one_if (is_change op && (caller_of op == n)) ≡ 0 =
      rw is refl in omega (arith, here, unchanged_owner ns op is)

  at_most_one : (t : Bool) (k : ℕ) → k ≡ 0 → one_if t + k ≤ 1
  at_most_one true k z = omega (arith, z)
  at_most_one false k z = omega (arith, z)

  owner_case : (n : ℕ) (ns : List ℕ) (op : O) → All (λ m. m ≢ n) ns → owners ns op ≤ 1 → (t : Bool)
      → (caller_of op == n) ≡ t → owners (n ∷ ns) op ≤ 1
  owner_case n ns op apart rest true is =
      let e : caller_of op ≡ n = grind (arith, nat_tests) in
      at_most_one (is_change op && (caller_of op == n)) (owners ns op)
      (none_owns ns op (rw e apart))
  owner_case n ns op apart rest false is =
      let here = not_owner n op (λ e. differ (caller_of op) n is e) in omega (arith, here, rest)

  one_owner : (ns : List ℕ) (op : O) → Distinct ns → owners ns op ≤ 1
  one_owner [] op d = omega arith
  one_owner (n ∷ ns) op d = owner_case n ns op d.0 (one_owner ns op d.1) (caller_of op == n) refl

  owners_at_most : (ns : List ℕ) (op : O) (ops : List O) → Distinct ns → (t : Bool)
      → is_change op ≡ t → owners ns op ≤ one_if t
  owners_at_most ns op ops d true is = one_owner ns op d
  owners_at_most ns op ops d false is = omega (arith, unchanged_owner ns op is)

  all_owned : (ns : List ℕ) (ops : List O) → Distinct ns
      → own_of_all ns ops ≤ length (filter is_change ops)
  all_owned ns [] d = omega (arith, own_none ns)
  all_owned ns (op ∷ ops) d =
      omega (
        arith,
        own_next ns op ops,
        owners_at_most ns op ops d (is_change op) refl,
        all_owned ns ops d,
        length_filter is_change op ops (is_change op) refl,
      )

  made_by_all : (ops : List O) (callers : List (ℕ × List (C × ℕ)))
      → All (λ p. OfCaller is_change publishes caller_of p.0) callers
      → All (λ p. Placed is_change publishes p.0 ops p.1) callers
      → changes_of_all is_change publishes caller_of ops callers
      ≤ own_of_all (map (λ p. p.0) callers) ops
  made_by_all ops [] of placed = omega arith
  made_by_all ops (p ∷ ps) of placed =
      let F = λ (x : ℕ × List (C × ℕ)). OfCaller is_change publishes caller_of x.0 in
      let P = λ (x : ℕ × List (C × ℕ)). Placed is_change publishes x.0 ops x.1 in
      omega (
        arith,
        made_at_most p.0 ops p.1 (All-head F p ps of) (All-head P p ps placed),
        made_by_all ops ps (All-tail F p ps of) (All-tail P p ps placed),
      )

  -- where the changes of all are no fewer than the own ones, those of each are none fewer
  made_by_each : (ops : List O) (callers : List (ℕ × List (C × ℕ)))
      → All (λ p. OfCaller is_change publishes caller_of p.0) callers
      → All (λ p. Placed is_change publishes p.0 ops p.1) callers
      → own_of_all (map (λ p. p.0) callers) ops
      ≤ changes_of_all is_change publishes caller_of ops callers
      → All (λ p. InOrder is_change publishes caller_of p.0 ops p.1) callers
  made_by_each ops [] of placed le = All-nil
      (λ (p : ℕ × List (C × ℕ)). InOrder is_change publishes caller_of p.0 ops p.1)
  made_by_each ops (p ∷ ps) of placed le =
      let F = λ (x : ℕ × List (C × ℕ)). OfCaller is_change publishes caller_of x.0 in
      let P = λ (x : ℕ × List (C × ℕ)). Placed is_change publishes x.0 ops x.1 in
      let first = made_at_most p.0 ops p.1 (All-head F p ps of) (All-head P p ps placed) in
      let rest = made_by_all ops ps (All-tail F p ps of) (All-tail P p ps placed) in
      All-cons (λ (x : ℕ × List (C × ℕ)). InOrder is_change publishes caller_of x.0 ops x.1) p ps
      (made_all p.0 ops p.1 (All-head F p ps of) (All-head P p ps placed) (omega (arith, rest, le)))
      (made_by_each ops ps (All-tail F p ps of) (All-tail P p ps placed) (omega (arith, first, le)))

  pub count_shows_order : (ops : List O) (callers : List (ℕ × List (C × ℕ)))
      → Distinct (map (λ p. p.0) callers)
      → All (λ p. OfCaller is_change publishes caller_of p.0) callers
      → All (λ p. Placed is_change publishes p.0 ops p.1) callers
      → length (filter is_change ops) ≤ changes_of_all is_change publishes caller_of ops callers
      → All (λ p. InOrder is_change publishes caller_of p.0 ops p.1) callers
      × (length (filter is_change ops) ≡ changes_of_all is_change publishes caller_of ops callers)
  count_shows_order ops callers distinct of placed le =
      let all = all_owned (map (λ p. p.0) callers) ops distinct in (
        made_by_each ops callers of placed (omega (arith, all, le)),
        omega (arith, all, le, made_by_all ops callers of placed),
      )

  -- what one of the callers owns is of a caller
  owner_there : (ns : List ℕ) (op : O) → 1 ≤ owners ns op → Contains ns (caller_of op)
  owner_there [] op one = absurd (omega (arith, one))
  owner_there (n ∷ ns) op one = there_case (caller_of op == n) refl
      (λ few. owner_there ns op few) where
        there_case : (t : Bool) → (caller_of op == n) ≡ t
            → (1 ≤ owners ns op → Contains ns (caller_of op)) → Contains (n ∷ ns) (caller_of op)
        there_case true is rest = let e : n ≡ caller_of op = grind (arith, nat_tests) in
            (0, omega arith, e)
        there_case false is rest =
            let none = not_owner n op (λ e. differ (caller_of op) n is e) in
            Contains-append_right (n ∷ []) ns (caller_of op) (rest (omega (arith, one, none)))

  owned_next : (ns : List ℕ) (op : O) (ops : List O) (t : Bool) → is_change op ≡ t
      → one_if t ≤ owners ns op → All (λ x. Contains ns (caller_of x)) (filter is_change ops)
      → All (λ x. Contains ns (caller_of x)) (filter is_change (op ∷ ops))
  owned_next ns op ops true is one rest =
      rw is (All-cons (λ (x : O). Contains ns (caller_of x)) op (filter is_change ops)
      (owner_there ns op one) rest)
  owned_next ns op ops false is one rest = rw is rest

  -- where the own changes of all are as many as the list's, each of these is of a caller
  all_of_callers : (ns : List ℕ) (ops : List O) → Distinct ns
      → length (filter is_change ops) ≤ own_of_all ns ops
      → All (λ op. Contains ns (caller_of op)) (filter is_change ops)
  all_of_callers ns [] d le = All-nil (λ (op : O). Contains ns (caller_of op))
  all_of_callers ns (op ∷ ops) d le =
      let n = length_filter is_change op ops (is_change op) refl in
      let own = own_next ns op ops in
      let most = owners_at_most ns op ops d (is_change op) refl in
      let rest = all_owned ns ops d in
      owned_next ns op ops (is_change op) refl (omega (arith, le, n, own, rest))
      (all_of_callers ns ops d (omega (arith, le, n, own, most)))

  pub count_shows_callers : CountShowsCallers is_change publishes caller_of
  count_shows_callers ops callers distinct of placed le =
      all_of_callers (map (λ p. p.0) callers) ops distinct
      (omega (arith, le, made_by_all ops callers of placed))
