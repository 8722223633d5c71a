-- A leaf that is chosen has an address, and the addresses that are drawn are its service's.
use Rattle.std.proofs.Common.{◌≡◌, ℕ, zero, suc, ◌-◌, ◌≤◌, List, [], ◌∷◌, length, Bool, true, false}
use Rattle.std.proofs.Common.{Option, Some, None, cond, map, refl, sym, ap, subst, ◌∙◌, arith}
use Rattle.std.proofs.Common.{IfSome, nat_cmp}
use Rattle.std.specs.Prelude.{slice_get, option_and_then, option_map, nat_lt, filter, ◌||◌}
use Rattle.std.specs.Ordering.{eq_by_cmp}
use Rattle.std.specs.Cmp.{eq_by_cmp_equiv}
use Rattle.std.specs.Cmp.Lexicographic.{slice_cmp}
use Rattle.std.specs.List.{list_any}
use Rattle.std.specs.FinMap.{get, entries, get-entries, find}
use Rattle.std.proofs.lemmas.Option.{get_or_from_slice_get}
use Rattle.addr_book.specs.declared.addr.Addr.{Addr}
use Rattle.addr_book.specs.declared.addr.Weighted.{Weighted}
use Rattle.addr_book.specs.declared.leaf.Leaf.{Leaf}
use Rattle.addr_book.specs.declared.leaf.Cluster.TheVariants.{Fs}
use Rattle.addr_book.specs.AddrList.{same_addr, has_addr}
use Rattle.addr_book.specs.Book.{Services, is_used}
use Rattle.addr_book.specs.Found.{Found, one, many, FoundList, no_member, member}
use Rattle.addr_book.proofs.AddrLists.{addr_total}
use Rattle.choose_core.specs.declared.mark.Limits.{Limits}
use Rattle.choose_core.specs.Branch.{has_some, is_open, kept_member, kept_union, pruned}
use Rattle.choose_core.specs.Branch.{pruned_members, branch_of, branch_over, chosen}
use Rattle.choose_core.specs.Live.{is_alive, some_or_all, live_of}
use Rattle.choose_core.specs.Marks.{MarkMap}
use Rattle.choose_core.specs.Pair.{pair_of}
use Rattle.addr_book.specs.Uses.{list_of}
use Rattle.bind_core.specs.Delegation.{bound}
use Rattle.machine.specs.declared.chosen.Why.TheVariants.{Empty}
use Rattle.machine.specs.Values.{SettingsValue, StateValue, AskValue, replica, not_picked}
use Rattle.machine.specs.Choosing.{item_at, live_in, between_of, Offer, some_offer, offer_at}
use Rattle.machine.specs.Choosing.{ending_in, offer_of, taken_of, is_first_taken, pick_at, pick_of}
use Rattle.machine.specs.Choosing.{chosen_of}
use Rattle.machine.specs.Candidates.{IsDrawn}

module _ (services : Services) where
  abbrev mutual
    -- each leaf has an address
    IsOpen : Found → Type 0
    IsOpen (one leaf) = is_open services leaf.cluster ≡ true
    IsOpen (many ms) = AreOpen ms

    AreOpen : FoundList → Type 0
    AreOpen no_member = Unit {0}
    AreOpen (member w f ms) = IsOpen f × AreOpen ms

  kept_member-open : (w : ℕ) (left : Option Found) (ms : FoundList) → IfSome left IsOpen
      → AreOpen ms → AreOpen (kept_member w left ms)
  kept_member-open w None ms here rest = rest
  kept_member-open w (Some f) ms here rest = (here, rest)

  kept_union-open : (ms : FoundList) → AreOpen ms → IfSome (kept_union ms) IsOpen
  kept_union-open no_member h = tt
  kept_union-open (member w f ms) h = h

  leaf-open : (leaf : Leaf) (b : Bool) → is_open services leaf.cluster ≡ b
      → IfSome (cond b (Some (one leaf)) None) IsOpen
  leaf-open leaf true e = e
  leaf-open leaf false e = tt

  mutual
    pruned-open : (f : Found) → IfSome (pruned services f) IsOpen
    pruned-open (one leaf) = leaf-open leaf (is_open services leaf.cluster) refl
    pruned-open (many ms) = kept_union-open (pruned_members services ms) (pruned_members-open ms)

    pruned_members-open : (ms : FoundList) → AreOpen (pruned_members services ms)
    pruned_members-open no_member = tt
    pruned_members-open (member w f ms) =
        kept_member-open w (pruned services f) (pruned_members services ms) (pruned-open f)
        (pruned_members-open ms)

  abbrev pub IsOpenLeaf : Leaf → Type 0
  IsOpenLeaf leaf = is_open services leaf.cluster ≡ true

  either-open : (b : Bool) (x y : Option Leaf) → IfSome x IsOpenLeaf → IfSome y IsOpenLeaf
      → IfSome (cond b x y) IsOpenLeaf
  either-open true x y first second = first
  either-open false x y first second = second

  mutual
    branch_of-open : (f : Found) (word : ℕ) → IsOpen f → IfSome (branch_of f word) IsOpenLeaf
    branch_of-open (one leaf) word h = h
    branch_of-open (many ms) word h = branch_over-open ms _ _ h

    branch_over-open : (ms : FoundList) (n word : ℕ) → AreOpen ms
        → IfSome (branch_over ms n word) IsOpenLeaf
    branch_over-open no_member n word h = tt
    branch_over-open (member w f ms) n word h =
        either-open (nat_lt n w) (branch_of f word) (branch_over ms (n - w) word)
        (branch_of-open f word h.0) (branch_over-open ms (n - w) word h.1)

  left-open : (left : Option Found) (word : ℕ) → IfSome left IsOpen
      → IfSome (option_and_then (λ f. branch_of f word) left) IsOpenLeaf
  left-open None word h = tt
  left-open (Some f) word h = branch_of-open f word h

  -- a leaf that is chosen has an address
  pub chosen-open : (found : Found) (word : ℕ) → IfSome (chosen services found word) IsOpenLeaf
  chosen-open found word = left-open (pruned services found) word (pruned-open found)

  pub open_chosen : (found : Found) (word : ℕ) (leaf : Leaf)
      → Some leaf ≡ chosen services found word → is_open services leaf.cluster ≡ true
  open_chosen found word leaf is = subst (λ (o : Option Leaf). IfSome o IsOpenLeaf) (sym is)
      (chosen-open found word)

-- ---- addresses that are drawn
same_item : (y x : Weighted) → Some y ≡ Some x → y ≡ x
same_item y x e = cc

or_true : (b : Bool) → (b || true) ≡ true
or_true true = refl
or_true false = refl

has_item : (list : List Weighted) (i : ℕ) (x : Weighted) → slice_get list i ≡ Some x
    → has_addr list x.addr ≡ true
has_item [] i x at = cc
has_item (y ∷ list) zero x at =
    ap (λ (z : Weighted). same_addr x.addr z.addr || has_addr list x.addr) (same_item y x at)
    ∙ ap (λ b. b || has_addr list x.addr) ((eq_by_cmp_equiv addr_total).refl x.addr)
has_item (y ∷ list) (suc i) x at = ap (λ b. same_addr x.addr y.addr || b) (has_item list i x at)
    ∙ or_true (same_addr x.addr y.addr)

kept_item : (b rest all : Bool) → (rest ≡ true → all ≡ true) → (b || rest) ≡ true
    → (b || all) ≡ true
kept_item true rest all more h = refl
kept_item false rest all more h = more h

has_filtered : (p : Weighted → Bool) (list : List Weighted) (a : Addr)
    → has_addr (filter p list) a ≡ true → has_addr list a ≡ true
has_filtered p [] a = λ h. h
has_filtered p (y ∷ list) a = by_test (has_filtered p list a) (p y)
  where
    by_test : (has_addr (filter p list) a ≡ true → has_addr list a ≡ true) → (b : Bool)
        → has_addr (cond b (y ∷ filter p list) (filter p list)) a ≡ true
        → has_addr (y ∷ list) a ≡ true
    by_test rest true h = kept_item (same_addr a y.addr) (has_addr (filter p list) a)
        (has_addr list a) rest h
    by_test rest false h = ap (λ b. same_addr a y.addr || b) (rest h) ∙ or_true (same_addr a y.addr)

has_some_or_all : (some all : List Weighted) (a : Addr)
    → (has_addr some a ≡ true → has_addr all a ≡ true) → has_addr (some_or_all some all) a ≡ true
    → has_addr all a ≡ true
has_some_or_all [] all a more h = h
has_some_or_all (x ∷ some) all a more h = more h

has_live : (marks : MarkMap) (moment : ℕ) (limits : Limits) (list : List Weighted) (a : Addr)
    → has_addr (live_of marks moment limits list) a ≡ true → has_addr list a ≡ true
has_live marks moment limits list a =
    has_some_or_all (filter (is_alive marks moment limits) list) list a
    (has_filtered (is_alive marks moment limits) list a)

-- an address of a service's list is one of a service
in_values : (service : List ℕ) (list : List Weighted) (a : Addr)
    (es : List (List ℕ × List Weighted)) → find (slice_cmp nat_cmp) service es ≡ Some list
    → has_addr list a ≡ true
    → list_any (λ ys. has_addr ys a) (map (λ e. e.1) es) ≡ true
in_values service list a [] is has = cc
in_values service list a (e ∷ es) is has =
    by_tie (λ later. in_values service list a es later has)
    (eq_by_cmp (slice_cmp nat_cmp) service e.0) is
  where
    by_tie : (find (slice_cmp nat_cmp) service es ≡ Some list
        → list_any (λ ys. has_addr ys a) (map (λ f. f.1) es) ≡ true) → (b : Bool)
        → cond b (Some e.1) (find (slice_cmp nat_cmp) service es) ≡ Some list
        → (has_addr e.1 a || list_any (λ ys. has_addr ys a) (map (λ f. f.1) es)) ≡ true
    by_tie rest true here = let same : e.1 ≡ list = cc in
        ap (λ (ys : List Weighted). has_addr ys a || list_any (λ zs. has_addr zs a)
        (map (λ f. f.1) es)) same
        ∙ ap (λ b. b || list_any (λ zs. has_addr zs a) (map (λ f. f.1) es)) has
    by_tie rest false later = ap (λ b. has_addr e.1 a || b) (rest later) ∙ or_true (has_addr e.1 a)

pub used_in : (services : Services) (service : List ℕ) (list : List Weighted) (a : Addr)
    → get services service ≡ Some list → has_addr list a ≡ true → is_used services a ≡ true
used_in services service list a is has =
    in_values service list a (entries services) (sym (get-entries services service) ∙ is) has

pub live_used : (services : Services) (service : List ℕ) (list : List Weighted) (marks : MarkMap)
    (moment : ℕ) (limits : Limits) (i : ℕ) (x : Weighted)
    → get services service ≡ Some list → slice_get (live_of marks moment limits list) i ≡ Some x
    → is_used services x.addr ≡ true
live_used services service list marks moment limits i x is at =
    used_in services service list x.addr is
    (has_live marks moment limits list x.addr (has_item (live_of marks moment limits list) i x at))

-- a service that has an address has a list with one
pub some_item : (services : Services) (service : List ℕ) (list : List Weighted)
    → get services service ≡ Some list → has_some (get services service) ≡ true → 1 ≤ length list
some_item services service list is some = by_list list (sym (ap has_some is) ∙ some)
  where
    by_list : (ys : List Weighted) → has_some (Some ys) ≡ true → 1 ≤ length ys
    by_list [] e = absurd (cc)
    by_list (y ∷ ys) e = omega arith

-- ---- the two addresses of a service that are drawn
module _ (state : StateValue) (limits : Limits) (ask : AskValue) (service : List ℕ)
    (list : List Weighted) (is : get state.book.services service ≡ Some list) where
  live_is : live_in state limits ask.moment (Fs service)
      ≡ live_of state.marks ask.moment limits list
  live_is = ap (λ o. live_of state.marks ask.moment limits (list_of o)) is

  drawn_at : (at : (ℕ × ℕ) → ℕ) (i : ℕ) (x : Weighted)
      → i ≡ at (pair_of (live_of state.marks ask.moment limits list) ask.first_draw ask.second_draw)
      → slice_get (live_of state.marks ask.moment limits list) i ≡ Some x
      → item_at (live_in state limits ask.moment (Fs service))
      (at (pair_of (live_in state limits ask.moment (Fs service)) ask.first_draw ask.second_draw))
      ≡ x
  drawn_at at i x place here =
      ap (λ (xs : List Weighted). item_at xs (at (pair_of xs ask.first_draw ask.second_draw)))
      live_is
      ∙ (ap (item_at (live_of state.marks ask.moment limits list)) (sym place)
      ∙ get_or_from_slice_get (live_of state.marks ask.moment limits list) i x _ here)

  pub drawn_in : (i j : ℕ) (first second : Weighted)
      → (i, j) ≡ pair_of (live_of state.marks ask.moment limits list) ask.first_draw ask.second_draw
      → slice_get (live_of state.marks ask.moment limits list) i ≡ Some first
      → slice_get (live_of state.marks ask.moment limits list) j ≡ Some second
      → IsDrawn state limits ask service first second
  drawn_in i j first second pair here there = record {
    first_is = drawn_at (λ p. p.0) i first (ap (λ p. p.0) pair) here;
    second_is = drawn_at (λ p. p.1) j second (ap (λ p. p.1) pair) there;
    first_used = live_used state.book.services service list state.marks ask.moment limits i first
        is here;
    second_used = live_used state.book.services service list state.marks ask.moment limits j second
        is there;
  }

-- ---- a path that came to one leaf
module _ (settings : SettingsValue) (state : StateValue) (ask : AskValue) (leaf : Leaf)
    (is : bound (one leaf) ≡ ending_in settings state ask) where
  abbrev offered : Bool → Offer
  offered has = some_offer
      (option_map (between_of state settings.limits ask)
      (option_and_then (λ left. branch_of left ask.branch_word) (cond has (Some (one leaf)) None)))

  of_leaf : offer_of settings state ask ≡ offered (is_open state.book.services leaf.cluster)
  of_leaf = ap (offer_at state settings.limits ask) (sym is)

  pub shut_leaf : is_open state.book.services leaf.cluster ≡ false
      → chosen_of (pick_of settings state ask 0 0) ≡ not_picked Empty
  shut_leaf shut = ap (λ offer. chosen_of (pick_at 0 0 offer)) (of_leaf ∙ ap offered shut)

  pub open_leaf : is_open state.book.services leaf.cluster ≡ true
      → chosen_of (pick_of settings state ask 0 0)
      ≡ chosen_of (replica (taken_of (between_of state settings.limits ask leaf)
      (is_first_taken 0 0 (between_of state settings.limits ask leaf))))
  open_leaf has = ap (λ offer. chosen_of (pick_at 0 0 offer)) (of_leaf ∙ ap offered has)
