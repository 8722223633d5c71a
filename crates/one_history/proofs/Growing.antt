-- What a caller's items published stays as it is while the list grows, and while items are added.
use Rattle.std.proofs.Common.{◌≡◌, ℕ, zero, suc, ◌<◌, ◌≤◌, Bool, List, [], ◌∷◌, ◌++◌, length, take}
use Rattle.std.proofs.Common.{Some, None, Option, slice_get, refl, arith, ap, sym, ◌∙◌}
use Rattle.std.proofs.Common.{append_assoc, length-append, subst}
use Rattle.std.specs.Prelude.{All}
use Rattle.std.proofs.lemmas.List.{append-nil}
use Rattle.std.proofs.lemmas.List.Elements.{All-cons, All-head, All-tail, All-push, All-nil}
use Rattle.std.proofs.lemmas.List.Elements.{All-weaker}
use Rattle.one_history.specs.Entries.{entry_at, Behind, changes_with, others_with, entries_from}
use Rattle.one_history.specs.Entries.{changes_after, others_after, changes_made, others_made}
use Rattle.one_history.specs.Entries.{entries, Follow}
use Rattle.one_history.specs.Calls.{Placed, Called, CountsStay, CallCounts}

pub take_grown : {A : Type 0} (n : ℕ) (xs zs : List A) → n ≤ length xs
    → take n (xs ++ zs) ≡ take n xs
take_grown zero xs zs within = refl
take_grown (suc n) [] zs within = absurd (omega arith)
take_grown (suc n) (x ∷ xs) zs within =
    ap (λ ys. x ∷ ys) (take_grown n xs zs (omega (arith, within)))

pub get_grown : {A : Type 0} (xs zs : List A) (i : ℕ) (x : A) → slice_get xs i ≡ Some x
    → slice_get (xs ++ zs) i ≡ Some x
get_grown [] zs i x at = absurd cc
get_grown (y ∷ xs) zs zero x at = cc at
get_grown (y ∷ xs) zs (suc i) x at = get_grown xs zs i x at

pub get_below : {A : Type 0} (xs : List A) (i : ℕ) (x : A) → slice_get xs i ≡ Some x → i < length xs
get_below [] i x at = absurd cc
get_below (y ∷ xs) zero x at = omega arith
get_below (y ∷ xs) (suc i) x at = omega (arith, get_below xs i x at)

-- what holds of all of a list holds of all behind a front of it
pub all_behind : {A : Type 0} (P : A → Type 0) (xs ys : List A) → All P (xs ++ ys) → All P ys
all_behind P [] ys all = all
all_behind P (x ∷ xs) ys all = all_behind P xs ys (All-tail P x (xs ++ ys) all)

all_both : {A : Type 0} (P : A → Type 0) (xs ys : List A) → All P xs → All P ys → All P (xs ++ ys)
all_both P [] ys all more = more
all_both P (x ∷ xs) ys all more = All-cons P x (xs ++ ys) (All-head P x xs all)
    (all_both P xs ys (All-tail P x xs all) more)

module _ {O C : Type 0} (is_change : O → Bool) (publishes : List O → ℕ → ℕ → ℕ → C → Option O) where
  -- what is published later does not change what the items published
  pub entries_grown : (caller : ℕ) (seen more : List O) (c o : ℕ) (items : List (C × ℕ))
      → All (λ item. item.1 ≤ length seen) items
      → entries_from is_change publishes caller (seen ++ more) c o items
      ≡ entries_from is_change publishes caller seen c o items
  entries_grown caller seen more c o [] within = refl
  entries_grown caller seen more c o (item ∷ items) within =
      let here = take_grown item.1 seen more
      (All-head (λ (i : C × ℕ). i.1 ≤ length seen) item items within) in
      let found = publishes (take item.1 seen) caller c o item.0 in
      let rest = entries_grown caller seen more (changes_with is_change publishes found c)
      (others_with is_change publishes found o) items
      (All-tail (λ (i : C × ℕ). i.1 ≤ length seen) item items within) in
      rw here (ap (λ es. entry_at found item.1 ++ es) rest)

  pub changes_grown : (caller : ℕ) (seen more : List O) (c o : ℕ) (items : List (C × ℕ))
      → All (λ item. item.1 ≤ length seen) items
      → changes_after is_change publishes caller (seen ++ more) c o items
      ≡ changes_after is_change publishes caller seen c o items
  changes_grown caller seen more c o [] within = refl
  changes_grown caller seen more c o (item ∷ items) within =
      let here = take_grown item.1 seen more
      (All-head (λ (i : C × ℕ). i.1 ≤ length seen) item items within) in
      let found = publishes (take item.1 seen) caller c o item.0 in
      rw here (changes_grown caller seen more (changes_with is_change publishes found c)
      (others_with is_change publishes found o) items
      (All-tail (λ (i : C × ℕ). i.1 ≤ length seen) item items within))

  pub others_grown : (caller : ℕ) (seen more : List O) (c o : ℕ) (items : List (C × ℕ))
      → All (λ item. item.1 ≤ length seen) items
      → others_after is_change publishes caller (seen ++ more) c o items
      ≡ others_after is_change publishes caller seen c o items
  others_grown caller seen more c o [] within = refl
  others_grown caller seen more c o (item ∷ items) within =
      let here = take_grown item.1 seen more
      (All-head (λ (i : C × ℕ). i.1 ≤ length seen) item items within) in
      let found = publishes (take item.1 seen) caller c o item.0 in
      rw here (others_grown caller seen more (changes_with is_change publishes found c)
      (others_with is_change publishes found o) items
      (All-tail (λ (i : C × ℕ). i.1 ≤ length seen) item items within))

  pub follow_grown : (caller : ℕ) (seen more : List O) (c o : ℕ) (items : List (C × ℕ))
      → All (λ item. item.1 ≤ length seen) items
      → Follow is_change publishes caller seen c o items
      → Follow is_change publishes caller (seen ++ more) c o items
  follow_grown caller seen more c o [] within follow = tt
  follow_grown caller seen more c o (item ∷ items) within follow =
      let here = take_grown item.1 seen more
      (All-head (λ (i : C × ℕ). i.1 ≤ length seen) item items within) in
      let found = publishes (take item.1 seen) caller c o item.0 in
      rw here (
        follow.0,
        follow_grown caller seen more (changes_with is_change publishes found c)
            (others_with is_change publishes found o) items
            (All-tail (λ (i : C × ℕ). i.1 ≤ length seen) item items within) follow.1,
      )

  -- items stay placed while the list grows
  pub placed_grown : (caller : ℕ) (seen more : List O) (items : List (C × ℕ))
      → Placed is_change publishes caller seen items
      → Placed is_change publishes caller (seen ++ more) items
  placed_grown caller seen more items placed = record {
    within = All-weaker (λ (i : C × ℕ). i.1 ≤ length seen)
        (λ (i : C × ℕ). i.1 ≤ length (seen ++ more))
        (λ i w. omega (arith, w, length-append seen more)) items placed.within;
    follow = follow_grown caller seen more 0 0 items placed.within placed.follow;
    stands = rw (entries_grown caller seen more 0 0 items placed.within)
        (All-weaker (λ (e : O × ℕ). slice_get seen e.1 ≡ Some e.0)
        (λ (e : O × ℕ). slice_get (seen ++ more) e.1 ≡ Some e.0)
        (λ e s. get_grown seen more e.1 e.0 s) (entries is_change publishes caller seen items)
        placed.stands);
  }

  -- what the items published with one item more
  pub entries_push : (caller : ℕ) (seen : List O) (c o : ℕ) (items : List (C × ℕ)) (item : C × ℕ)
      → entries_from is_change publishes caller seen c o (items ++ item ∷ [])
      ≡ entries_from is_change publishes caller seen c o items
      ++ entry_at (publishes (take item.1 seen) caller
      (changes_after is_change publishes caller seen c o items)
      (others_after is_change publishes caller seen c o items) item.0) item.1
  entries_push caller seen c o [] item =
      append-nil (entry_at (publishes (take item.1 seen) caller c o item.0) item.1)
  entries_push caller seen c o (first ∷ items) item =
      let found = publishes (take first.1 seen) caller c o first.0 in
      let c' = changes_with is_change publishes found c in
      let o' = others_with is_change publishes found o in
      ap (λ es. entry_at found first.1 ++ es) (entries_push caller seen c' o' items item)
      ∙ sym (append_assoc (entry_at found first.1)
      (entries_from is_change publishes caller seen c' o' items)
      (entry_at (publishes (take item.1 seen) caller
      (changes_after is_change publishes caller seen c' o' items)
      (others_after is_change publishes caller seen c' o' items) item.0) item.1))

  -- how many changes that is, and how many others
  changes_push : (caller : ℕ) (seen : List O) (c o : ℕ) (items : List (C × ℕ)) (item : C × ℕ)
      → changes_after is_change publishes caller seen c o (items ++ item ∷ [])
      ≡ changes_with is_change publishes
      (publishes (take item.1 seen) caller
      (changes_after is_change publishes caller seen c o items)
      (others_after is_change publishes caller seen c o items) item.0)
      (changes_after is_change publishes caller seen c o items)
  changes_push caller seen c o [] item = refl
  changes_push caller seen c o (first ∷ items) item =
      let found = publishes (take first.1 seen) caller c o first.0 in
      changes_push caller seen (changes_with is_change publishes found c)
      (others_with is_change publishes found o) items item

  others_push : (caller : ℕ) (seen : List O) (c o : ℕ) (items : List (C × ℕ)) (item : C × ℕ)
      → others_after is_change publishes caller seen c o (items ++ item ∷ [])
      ≡ others_with is_change publishes
      (publishes (take item.1 seen) caller
      (changes_after is_change publishes caller seen c o items)
      (others_after is_change publishes caller seen c o items) item.0)
      (others_after is_change publishes caller seen c o items)
  others_push caller seen c o [] item = refl
  others_push caller seen c o (first ∷ items) item =
      let found = publishes (take first.1 seen) caller c o first.0 in
      others_push caller seen (changes_with is_change publishes found c)
      (others_with is_change publishes found o) items item

  behind_next : (found : Option O) (seen : List O) (at next : ℕ) (rest : List (O × ℕ))
      → at ≤ length seen → length seen ≤ next
      → All (λ entry. slice_get seen entry.1 ≡ Some entry.0) (entry_at found at ++ rest)
      → Behind found at next
  behind_next None seen at next rest within late stands = omega (arith, within, late)
  behind_next (Some op) seen at next rest within late stands =
      let here = All-head (λ (e : O × ℕ). slice_get seen e.1 ≡ Some e.0) (op, at) rest stands in
      omega (arith, get_below seen at op here, late)

  -- an item that comes behind all that had been seen follows the others. `whole` is what is seen
  -- then, `first` what had been seen
  follow_push : (caller : ℕ) (whole first : List O) (c o : ℕ) (items : List (C × ℕ)) (item : C × ℕ)
      → All (λ i. i.1 ≤ length first) items
      → All (λ entry. slice_get first entry.1 ≡ Some entry.0)
      (entries_from is_change publishes caller whole c o items)
      → length first ≤ item.1 → Follow is_change publishes caller whole c o items
      → Follow is_change publishes caller whole c o (items ++ item ∷ [])
  follow_push caller whole first c o [] item within stands late follow = (
    All-nil (λ (next : C × ℕ). Behind (publishes (take item.1 whole) caller c o item.0) item.1
        next.1),
    tt,
  )
  follow_push caller whole first c o (head ∷ items) item within stands late follow =
      let found = publishes (take head.1 whole) caller c o head.0 in
      let c' = changes_with is_change publishes found c in
      let o' = others_with is_change publishes found o in
      let rest = entries_from is_change publishes caller whole c' o' items in
      let here = behind_next found first head.1 item.1 rest
      (All-head (λ (i : C × ℕ). i.1 ≤ length first) head items within) late stands in (
        All-push (λ (next : C × ℕ). Behind found head.1 next.1) items item follow.0 here,
        follow_push caller whole first c' o' items item
            (All-tail (λ (i : C × ℕ). i.1 ≤ length first) head items within)
            (all_behind (λ (e : O × ℕ). slice_get first e.1 ≡ Some e.0)
            (entry_at found head.1) rest stands) late follow.1,
      )

  stands_of : (found : Option O) (seen : List O) (at : ℕ)
      → ((op : O) → found ≡ Some op → slice_get seen at ≡ Some op)
      → All (λ entry. slice_get seen entry.1 ≡ Some entry.0) (entry_at found at)
  stands_of None seen at there = All-nil (λ (e : O × ℕ). slice_get seen e.1 ≡ Some e.0)
  stands_of (Some op) seen at there =
      All-cons (λ (e : O × ℕ). slice_get seen e.1 ≡ Some e.0) (op, at) [] (there op refl)
      (All-nil (λ (e : O × ℕ). slice_get seen e.1 ≡ Some e.0))

  with_call : (caller : ℕ) (seen more : List O) (items : List (C × ℕ)) (item : C × ℕ)
      → Placed is_change publishes caller seen items
      → length seen ≤ item.1 → item.1 ≤ length (seen ++ more)
      → ((op : O) → publishes (take item.1 (seen ++ more)) caller
      (changes_made is_change publishes caller seen items)
      (others_made is_change publishes caller seen items) item.0 ≡ Some op
      → slice_get (seen ++ more) item.1 ≡ Some op)
      → Placed is_change publishes caller (seen ++ more) (items ++ item ∷ [])
  with_call caller seen more items item placed late within there =
      let whole = seen ++ more in
      let old = placed_grown caller seen more items placed in
      let c = changes_grown caller seen more 0 0 items placed.within in
      let o = others_grown caller seen more 0 0 items placed.within in
      let es = entries_grown caller seen more 0 0 items placed.within in
      let found = publishes (take item.1 whole) caller
      (changes_made is_change publishes caller whole items)
      (others_made is_change publishes caller whole items) item.0 in
      let here : All (λ (e : O × ℕ). slice_get whole e.1 ≡ Some e.0) (entry_at found item.1) =
      stands_of found whole item.1 (rw (c, o) there) in
      let first : All (λ (e : O × ℕ). slice_get seen e.1 ≡ Some e.0)
      (entries is_change publishes caller whole items) = rw es placed.stands in record {
        within = All-push (λ (i : C × ℕ). i.1 ≤ length whole) items item old.within within;
        follow = follow_push caller whole seen 0 0 items item placed.within first late old.follow;
        stands = rw (entries_push caller whole 0 0 items item)
            (all_both (λ (e : O × ℕ). slice_get whole e.1 ≡ Some e.0)
            (entries is_change publishes caller whole items) (entry_at found item.1) old.stands
            here);
      }

  -- a call places its item
  pub placed_called : (caller : ℕ) (seen seen' : List O) (items items' : List (C × ℕ)) (call : C)
      (at : ℕ) → Placed is_change publishes caller seen items
      → Called is_change publishes caller seen seen' items items' call at
      → Placed is_change publishes caller seen' items'
  placed_called caller seen seen' items items' call at placed called =
      let more = called.before.0 in
      let is : seen ++ more ≡ seen' = called.before.1 in
      let new = with_call caller seen more items (call, at) placed called.late
      (rw is called.within) (rw is called.stands) in
      subst (λ (l : List O). Placed is_change publishes caller l items') is
      (subst (λ (l : List (C × ℕ)). Placed is_change publishes caller (seen ++ more) l)
      (sym called.item) new)

  -- what items published, and how much, while the list grows
  pub counts_stay : CountsStay is_change publishes
  counts_stay caller seen more items within = (
    entries_grown caller seen more 0 0 items within,
    changes_grown caller seen more 0 0 items within,
    others_grown caller seen more 0 0 items within,
  )

  -- and with one call more
  abbrev Counted : (caller : ℕ) (seen whole : List O) (items all : List (C × ℕ)) (item : C × ℕ)
      → Type 0
  Counted caller seen whole items all item =
      let changes = changes_made is_change publishes caller seen items in
      let others = others_made is_change publishes caller seen items in
      let found = publishes (take item.1 whole) caller changes others item.0 in
      (entries is_change publishes caller whole all ≡ entries is_change publishes caller seen items
      ++ entry_at found item.1)
      × (changes_made is_change publishes caller whole all
      ≡ changes_with is_change publishes found changes)
      × (others_made is_change publishes caller whole all
      ≡ others_with is_change publishes found others)

  counted : (caller : ℕ) (seen more : List O) (items : List (C × ℕ)) (item : C × ℕ)
      → All (λ i. i.1 ≤ length seen) items
      → Counted caller seen (seen ++ more) items (items ++ item ∷ []) item
  counted caller seen more items item within =
      let es = entries_grown caller seen more 0 0 items within in
      let c = changes_grown caller seen more 0 0 items within in
      let o = others_grown caller seen more 0 0 items within in (
        entries_push caller (seen ++ more) 0 0 items item ∙ rw (es, c, o) refl,
        changes_push caller (seen ++ more) 0 0 items item ∙ rw (c, o) refl,
        others_push caller (seen ++ more) 0 0 items item ∙ rw (c, o) refl,
      )

  pub call_counts : CallCounts is_change publishes
  call_counts caller seen seen' items items' call at within called =
      let more = called.before.0 in
      let is : seen ++ more ≡ seen' = called.before.1 in
      subst (λ (l : List O). Counted caller seen l items items' (call, at)) is
      (subst (λ (l : List (C × ℕ)). Counted caller seen (seen ++ more) items l (call, at))
      (sym called.item) (counted caller seen more items (call, at) within))
