-- The places of addresses among marks in order, and what edits there do to the finite map of them.
use Rattle.std.proofs.Common.{◌≡◌, ℕ, ◌-◌, ◌<◌, ◌≤◌, List, [], ◌∷◌, length, get_or, set, map, Bool}
use Rattle.std.proofs.Common.{true, false, cond, Option, Some, None, Result, Ok, Err, zero, suc}
use Rattle.std.proofs.Common.{refl, sym, ap, subst, ◌∙◌, arith, IfOk, IfErr, not}
use Rattle.std.specs.Prelude.{T, All, filter, is_some, IfSome, unwrap_or, ◌==◌, ◌&&◌, nat_lt}
use Rattle.std.specs.declared.cmp.Ordering.TheVariants.{Equal}
use Rattle.std.specs.Ordering.{eq_by_cmp}
use Rattle.std.specs.List.{insert, remove}
use Rattle.std.specs.List.Sorted.{IsSearchInRange, IsBinarySearchResult}
use Rattle.std.specs.FinMap.{is_sorted, get, len, from_sorted, entries-from_sorted, get-from_sorted}
use Rattle.std.specs.FinMap.{get-empty, get-retain_keys, len-entries, len-remove, same_map, find}
use Rattle.std.specs.FinMap as fin
use Rattle.std.specs.FinMap.Entries.{where_key, find-where_key}
use Rattle.std.proofs.lemmas.Bool.{eqb-false, le-ltb}
use Rattle.std.proofs.lemmas.List.{length-map, length-set}
use Rattle.std.proofs.lemmas.List.Elements.{All-head, All-tail, All-cons}
use Rattle.addr_book.specs.declared.addr.Addr.{Addr}
use Rattle.addr_book.specs.AddrList.{addr_cmp}
use Rattle.addr_book.proofs.AddrLists.{addr_total}
use Rattle.addr_book.proofs.AddrMaps.{addr_only}
use Rattle.addr_book.proofs.Places.{searchable, find_there, put_there, without_there, find_nowhere}
use Rattle.addr_book.proofs.Places.{put_nowhere, sorted_put, map_put, sorted_without, map_without}
use Rattle.addr_book.proofs.Places.{map_without_none}
use Rattle.choose_core.specs.declared.mark.Mark.{Mark}
use Rattle.choose_core.specs.declared.mark.Limits.{Limits}
use Rattle.choose_core.specs.declared.marked.Marked.{Marked}
use Rattle.choose_core.specs.Mark.{no_mark, is_dead_mark}
use Rattle.choose_core.specs.Marks.{MarkMap, no_marks, mark_at, with_mark}
use Rattle.choose_core.specs.Marked.{entry_of, marks_of, AreOver, IsInOrder, IsPlace, IsGap}

is_true : (b : Bool) → T b → b ≡ true
is_true true h = refl
is_true false h = absurd h

test : (items : List Marked) → IsInOrder items → T (is_sorted addr_cmp (map entry_of items))
test items h = subst T (sym h) tt

pub entries_marks : (items : List Marked) → IsInOrder items
    → fin.entries (marks_of items) ≡ map entry_of items
entries_marks items h = entries-from_sorted addr_cmp (map entry_of items) (test items h)

pub len_marks : (items : List Marked) → IsInOrder items → fin.len (marks_of items) ≡ length items
len_marks items h = len-entries (marks_of items)
    ∙ (ap length (entries_marks items h) ∙ length-map items entry_of)

pub none_marks : (items : List Marked) → items ≡ [] → marks_of items ≡ no_marks
none_marks items is =
    ap (λ xs. from_sorted (map entry_of xs)) is
    ∙ same_map addr_total addr_only _ _
    (λ q. get-from_sorted addr_cmp [] q tt ∙ sym (get-empty addr_cmp q))

-- what a search by halves finds
pub searched : (items : List Marked) → IsInOrder items → (addr : Addr) (r : Result ℕ ℕ)
    → IsSearchInRange r (length items) → IsBinarySearchResult (λ m. addr_cmp m.addr addr) items r
    → IfOk r (IsPlace items addr) × IfErr r (IsGap items addr)
searched items h addr (Ok at) within here = (record { within = within; here = here }, tt)
searched items h addr (Err at) within parted =
    let parts = parted (searchable addr_total entry_of items addr (test items h)) in (
      tt,
      record {
        within = within;
        before = λ k d lt. parts.0 k d (omega arith) lt;
        behind =
            λ k d le lt. parts.1 k d le lt;
      },
    )

-- ---- the address is at a place
module _ (items : List Marked) (h : IsInOrder items) (addr : Addr) (at : ℕ)
    (place : IsPlace items addr at) where
  pub get_place : (read : Marked) → read ≡ get_or items at read
      → fin.get (marks_of items) addr ≡ Some read.mark
  get_place read is =
      get-from_sorted addr_cmp (map entry_of items) addr (test items h)
      ∙ (find_there addr_total entry_of items addr at read (test items h) place.within
      (place.here read) ∙ ap (λ (m : Marked). Some m.mark) (sym is))

  pub mark_place : (read : Marked) → read ≡ get_or items at read
      → read.mark ≡ mark_at (marks_of items) addr
  mark_place read is = sym (ap (λ o. unwrap_or o no_mark) (get_place read is))

  put_place : (mark : Mark) → map entry_of (set items at (record { addr = addr; mark = mark }))
      ≡ fin.put addr_cmp addr mark (map entry_of items)
  put_place mark =
      put_there addr_total entry_of addr_only items addr mark at
      (record { addr = addr; mark = mark }) (record { addr = addr; mark = mark })
      (test items h) place.within (place.here (record { addr = addr; mark = mark })) refl

  pub sorted_place : (mark : Mark) → IsInOrder (set items at (record { addr = addr; mark = mark }))
  sorted_place mark = is_true _
      (sorted_put addr_total addr_only (map entry_of items) _ addr mark (test items h)
      (put_place mark))

  pub map_place : (mark : Mark) → marks_of (set items at (record { addr = addr; mark = mark }))
      ≡ fin.insert (marks_of items) addr mark
  map_place mark = map_put addr_total addr_only (map entry_of items) _ addr mark (test items h)
      (put_place mark)

  gone_place : (d : Marked) → map entry_of (remove items at)
      ≡ where_key addr_cmp (λ q. not (eq_by_cmp addr_cmp addr q)) (map entry_of items)
  gone_place d = without_there addr_total entry_of items addr at d (test items h) place.within
      (place.here d)

  pub sorted_gone : (d : Marked) → IsInOrder (remove items at)
  sorted_gone d = is_true _
      (sorted_without addr_total addr_only (map entry_of items) _
      (λ q. not (eq_by_cmp addr_cmp addr q)) (test items h) (gone_place d))

  pub map_gone : (d : Marked) → marks_of (remove items at) ≡ fin.remove (marks_of items) addr
  map_gone d = map_without addr_total addr_only (map entry_of items) _ addr (test items h)
      (gone_place d)

-- ---- the address is at none, and would go to a place
module _ (items : List Marked) (h : IsInOrder items) (addr : Addr) (at : ℕ)
    (gap : IsGap items addr at) where
  pub get_gap : fin.get (marks_of items) addr ≡ None
  get_gap = get-from_sorted addr_cmp (map entry_of items) addr (test items h)
      ∙ find_nowhere addr_total entry_of items addr at gap.before gap.behind

  pub mark_gap : no_mark ≡ mark_at (marks_of items) addr
  mark_gap = sym (ap (λ o. unwrap_or o no_mark) get_gap)

  put_gap : (mark : Mark) → map entry_of (insert items at (record { addr = addr; mark = mark }))
      ≡ fin.put addr_cmp addr mark (map entry_of items)
  put_gap mark = put_nowhere addr_total entry_of items addr mark at
      (record { addr = addr; mark = mark }) gap.within gap.before gap.behind refl

  pub sorted_gap : (mark : Mark) → IsInOrder (insert items at (record { addr = addr; mark = mark }))
  sorted_gap mark = is_true _
      (sorted_put addr_total addr_only (map entry_of items) _ addr mark (test items h)
      (put_gap mark))

  pub map_gap : (mark : Mark) → marks_of (insert items at (record { addr = addr; mark = mark }))
      ≡ fin.insert (marks_of items) addr mark
  map_gap mark = map_put addr_total addr_only (map entry_of items) _ addr mark (test items h)
      (put_gap mark)

  pub map_gone_gap : marks_of items ≡ fin.remove (marks_of items) addr
  map_gone_gap = map_without_none addr_total addr_only (marks_of items) addr get_gap

  -- so there is room where fewer than 8,192 other addresses have marks
  pub len_gap : fin.len (fin.remove (marks_of items) addr) ≡ length items
  len_gap = ap fin.len (sym map_gone_gap) ∙ len_marks items h

less_or_same : (there : Bool) (n : ℕ) → cond there (n - 1) n ≤ n
less_or_same true n = omega arith
less_or_same false n = omega arith

-- fewer than 8,192 marks are fewer than 8,192 of other addresses
pub fewer_others : (marks : MarkMap) (addr : Addr) → fin.len marks < 8192
    → fin.len (fin.remove marks addr) < 8192
fewer_others marks addr few = omega (
  arith,
  few,
  len-remove addr_total marks addr,
  less_or_same (is_some (get marks addr)) (fin.len marks),
)

-- ---- a fact that holds of each mark
module _ (P : Marked → Type 0) where
  pub all_set : (items : List Marked) (at : ℕ) (new : Marked) → P new → All P items
      → All P (set items at new)
  all_set [] at new one h = h
  all_set (x ∷ items) zero new one h = All-cons P new items one (All-tail P x items h)
  all_set (x ∷ items) (suc at) new one h =
      All-cons P x (set items at new) (All-head P x items h)
      (all_set items at new one (All-tail P x items h))

  pub all_insert : (items : List Marked) (at : ℕ) (new : Marked) → P new → All P items
      → All P (insert items at new)
  all_insert [] zero new one h = All-cons P new [] one h
  all_insert [] (suc at) new one h = All-cons P new [] one h
  all_insert (x ∷ items) zero new one h = All-cons P new (x ∷ items) one h
  all_insert (x ∷ items) (suc at) new one h =
      All-cons P x (insert items at new) (All-head P x items h)
      (all_insert items at new one (All-tail P x items h))

  pub all_remove : (items : List Marked) (at : ℕ) → All P items → All P (remove items at)
  all_remove [] zero h = h
  all_remove [] (suc at) h = h
  all_remove (x ∷ items) zero h = All-tail P x items h
  all_remove (x ∷ items) (suc at) h =
      All-cons P x (remove items at) (All-head P x items h)
      (all_remove items at (All-tail P x items h))

  pub all_filter : (p : Marked → Bool) (items : List Marked) → All P items → All P (filter p items)
  all_filter p [] h = h
  all_filter p (x ∷ items) h =
      let rest = all_filter p items (All-tail P x items h) in
      elim (p x) as (λ b. All P (cond b (x ∷ filter p items) (filter p items))) [
        | true ↦ All-cons P x (filter p items) (All-head P x items h) rest
        | false ↦ rest
      ]

-- ---- each mark that is kept has a failure
found_failed : (items : List Marked) (addr : Addr) → All (λ m. 1 ≤ m.mark.count) items
    → IfSome (find addr_cmp addr (map entry_of items)) (λ mark. 1 ≤ mark.count)
found_failed [] addr h = tt
found_failed (x ∷ items) addr h =
    let rest = found_failed items addr (All-tail (λ m. 1 ≤ m.mark.count) x items h) in
    let here = All-head (λ m. 1 ≤ m.mark.count) x items h in
    elim (eq_by_cmp addr_cmp addr x.addr) as (λ b. IfSome
    (cond b (Some x.mark) (find addr_cmp addr (map entry_of items))) (λ mark. 1 ≤ mark.count))
    [ true ↦ here | false ↦ rest ]

pub each_failed : (items : List Marked) → IsInOrder items → All (λ m. 1 ≤ m.mark.count) items
    → (addr : Addr) → IfSome (fin.get (marks_of items) addr) (λ mark. 1 ≤ mark.count)
each_failed items h failed addr = subst (λ o. IfSome o (λ mark. 1 ≤ mark.count))
    (sym (get-from_sorted addr_cmp (map entry_of items) addr (test items h)))
    (found_failed items addr failed)

-- ---- marks of some addresses alone
shown_filter : (p : Addr → Bool) (items : List Marked)
    → map entry_of (filter (λ m. p m.addr) items) ≡ where_key addr_cmp p (map entry_of items)
shown_filter p [] = refl
shown_filter p (x ∷ items) =
    let rest = shown_filter p items in
    elim (p x.addr) as (λ b. map entry_of
    (cond b (x ∷ filter (λ m. p m.addr) items) (filter (λ m. p m.addr) items))
    ≡ cond b (entry_of x ∷ where_key addr_cmp p (map entry_of items))
    (where_key addr_cmp p (map entry_of items))) [
      | true ↦ ap (λ (es : List (Addr × Mark)). entry_of x ∷ es) rest
      | false ↦ rest
    ]

pub sorted_kept : (p : Addr → Bool) (items : List Marked) → IsInOrder items
    → IsInOrder (filter (λ m. p m.addr) items)
sorted_kept p items h =
    is_true _ (sorted_without addr_total addr_only (map entry_of items) _ p (test items h)
    (shown_filter p items))

pub map_kept : (p : Addr → Bool) (items : List Marked) → IsInOrder items
    → marks_of (filter (λ m. p m.addr) items) ≡ fin.retain_keys (marks_of items) p
map_kept p items h =
    let alike : (q x : Addr) → addr_cmp q x ≡ Equal → p x ≡ p q =
    λ q x e. ap p (sym (addr_only q x e)) in
    same_map addr_total addr_only _ _ (λ q.
    get-from_sorted addr_cmp _ q (test (filter (λ m. p m.addr) items) (sorted_kept p items h))
    ∙ (ap (find addr_cmp q) (shown_filter p items)
    ∙ (find-where_key addr_cmp p q (alike q) (map entry_of items)
    ∙ (ap (λ o. cond (p q) o None)
    (sym (get-from_sorted addr_cmp (map entry_of items) q (test items h)))
    ∙ sym (get-retain_keys (marks_of items) p q (alike q))))))

-- ---- whether a mark has failures
pub where_none : (marks : MarkMap) (addr : Addr) (mark : Mark) → (mark.count == 0) ≡ true
    → fin.remove marks addr ≡ with_mark marks addr mark
where_none marks addr mark e =
    sym (ap (λ b. cond b (fin.remove marks addr) (fin.insert marks addr mark)) e)

pub where_some : (marks : MarkMap) (addr : Addr) (mark : Mark) → (mark.count == 0) ≡ false
    → fin.insert marks addr mark ≡ with_mark marks addr mark
where_some marks addr mark e =
    sym (ap (λ b. cond b (fin.remove marks addr) (fin.insert marks addr mark)) e)

pub one_at_least : (mark : Mark) → (mark.count == 0) ≡ false → 1 ≤ mark.count
one_at_least mark e = let not_zero = eqb-false mark.count 0 e in omega (arith, not_zero)

pub length-gone : (items : List Marked) (at : ℕ) → length (remove items at) ≤ length items
length-gone [] zero = omega arith
length-gone [] (suc at) = omega arith
length-gone (x ∷ items) zero = omega arith
length-gone (x ∷ items) (suc at) = omega (arith, length-gone items at)

pub length-put : (items : List Marked) (at : ℕ) (new : Marked) (most : ℕ) → length items ≤ most
    → length (set items at new) ≤ most
length-put items at new most few = omega (arith, length-set items at new)

pub inserted : {X : Type 0} (taken : Bool) (xs ys zs : List X) → taken ≡ true
    → xs ≡ cond taken ys zs → xs ≡ ys
inserted true xs ys zs t e = e
inserted false xs ys zs t e = cc

-- ---- from a moment on no address is dead
pub all_later : (items : List Marked) (until later : ℕ) → until ≤ later → AreOver items until
    → AreOver items later
all_later items until later le over = λ k d lt. omega (arith, le, over k d lt)

found_over : (items : List Marked) (until : ℕ) (addr : Addr) → AreOver items until
    → IfSome (find addr_cmp addr (map entry_of items)) (λ mark. mark.until ≤ until)
found_over [] until addr h = tt
found_over (x ∷ items) until addr h =
    let rest = found_over items until addr (All-tail (λ m. m.mark.until ≤ until) x items h) in
    let here = All-head (λ m. m.mark.until ≤ until) x items h in
    elim (eq_by_cmp addr_cmp addr x.addr) as (λ b. IfSome
    (cond b (Some x.mark) (find addr_cmp addr (map entry_of items))) (λ mark. mark.until ≤ until))
    [ true ↦ here | false ↦ rest ]

over_or_none : (o : Option Mark) (until : ℕ) → IfSome o (λ mark. mark.until ≤ until)
    → (unwrap_or o no_mark).until ≤ until
over_or_none None until h = omega arith
over_or_none (Some mark) until h = h

mark_over : (items : List Marked) → IsInOrder items → (until : ℕ) → AreOver items until
    → (addr : Addr) → (mark_at (marks_of items) addr).until ≤ until
mark_over items h until over addr =
    over_or_none (fin.get (marks_of items) addr) until
    (subst (λ o. IfSome o (λ mark. mark.until ≤ until))
    (sym (get-from_sorted addr_cmp (map entry_of items) addr (test items h)))
    (found_over items until addr over))

is_over_mark : (mark : Mark) (moment : ℕ) (limits : Limits) → mark.until ≤ moment
    → is_dead_mark mark moment limits ≡ false
is_over_mark mark moment limits le =
    elim (mark.count == limits.failures) as (λ b. (b && nat_lt moment mark.until) ≡ false)
    [ true ↦ le-ltb moment mark.until le | false ↦ refl ]

pub none_dead_from : (items : List Marked) → IsInOrder items → (until moment : ℕ)
    → AreOver items until → until ≤ moment → (addr : Addr) (limits : Limits)
    → is_dead_mark (mark_at (marks_of items) addr) moment limits ≡ false
none_dead_from items h until moment over le addr limits =
    let early = mark_over items h until over addr in
    is_over_mark (mark_at (marks_of items) addr) moment limits (omega (arith, early, le))
