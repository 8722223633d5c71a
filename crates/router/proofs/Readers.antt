-- How a pass stands after its reader has moved.
use Rattle.std.proofs.Common.{◌≡◌, ℕ, ◌≤◌, ◌+◌, true, false, List, [], ◌∷◌, ◌++◌, length, take}
use Rattle.std.proofs.Common.{Some, None, slice_get, refl, ap, sym, ◌∙◌, arith, subst, append_assoc}
use Rattle.std.proofs.lemmas.List.{length-append}
use mathlib.Core.List.{IsPrefix}
use Rattle.snap_cell.specs.declared.reader.Reader.{Reader}
use Rattle.snap_cell.specs.Views.{seen_of, items_of, number_of, SameReader}
use Rattle.std.specs.declared.snapshot.Snapshot.{Snapshot}
use Rattle.snap_cell.specs.Items.{added}
use Rattle.bind_cache.specs.Kept.{Kept}
use Rattle.machine.specs.State.{is_accepted}
use Rattle.machine.specs.Values.{SettingsValue, AskValue, LookValue, ChangeValue}
use Rattle.one_history.specs.Entries.{changes_made, others_made}
use Rattle.one_history.specs.Calls as calls
use Rattle.router_log.specs.Operation.{Operation, changed, is_change, place_of}
use Rattle.router_log.specs.Operation.{kept as kept_op}
use Rattle.router_log.specs.Value.{value_of}
use Rattle.router_log.specs.Call.{Call, asked, looked, changing, keeping, publishes, is_kept}
use Rattle.router.specs.declared.call.Call.{Call as Shown}
use Rattle.router.specs.declared.current.Current.{Current}
use Rattle.router.specs.declared.update.Update.{Update}
use Rattle.router.specs.Standing.{Stands}
use Rattle.router.specs.Update.{operation_of, operations_of}
use Rattle.router.specs.Views.{seen_by, items_by, call_of, calls_of, Entered}
use Rattle.router.proofs.Calling.{prefix_values, map_append, map_length}
use Rattle.router.proofs.Passing.{saw_more, stands_unmoved, stands_changed, stands_kept}

pub prefix_length : {A : Type 0} (xs ys : List A) → IsPrefix xs ys → length xs ≤ length ys
prefix_length xs ys p = omega (arith, sym (ap length p.1) ∙ length-append xs p.0)

pub prefix_trans : {A : Type 0} (xs ys zs : List A) → IsPrefix xs ys → IsPrefix ys zs
    → IsPrefix xs zs
prefix_trans xs ys zs p q =
    (p.0 ++ q.0, sym (append_assoc xs p.0 q.0) ∙ (ap (λ w. w ++ q.0) p.1 ∙ q.1))

-- a question publishes nothing
abbrev pub PublishesNothing : SettingsValue → Call → Type 0
PublishesNothing settings call = (before : List Operation) (caller changes others : ℕ)
    → publishes settings before caller changes others call ≡ None

pub asked_nothing : (settings : SettingsValue) (ask : AskValue)
    → PublishesNothing settings (asked ask)
asked_nothing settings ask before caller changes others = refl

pub looked_nothing : (settings : SettingsValue) (look : LookValue)
    → PublishesNothing settings (looked look)
looked_nothing settings look before caller changes others = refl

module _ {S : Type 0} (settings : SettingsValue) (old new : Reader Current Update Shown S)
    (made kept place place' : ℕ)
    (s : Stands settings (number_of old) (seen_by old) (items_by old) made kept place)
    (same : SameReader old new) (at : place' ≡ place_of (seen_by new)) where
  -- it has seen more, and nothing was called
  pub reader_saw : IsPrefix (seen_of old) (seen_of new) → items_of new ≡ items_of old
      → Stands settings (number_of new) (seen_by new) (items_by new) made kept place'
  reader_saw before items =
      subst (λ (n : ℕ). Stands settings n (seen_by new) (items_by new) made kept place')
      (sym same.number)
      (subst (λ (l : List (Call × ℕ)). Stands settings (number_of old)
      (seen_by new) l made kept place') (sym (ap calls_of items))
      (saw_more settings (number_of old) (seen_by old) (seen_by new)
      (items_by old) made kept place place' s (prefix_values (seen_of old) (seen_of new) before)
      at))

  -- it entered for a call that publishes nothing
  module _ (call : Call) (none : PublishesNothing settings call) (e : Entered old new call) where
    pub reader_called : calls.Called is_change (publishes settings) (number_of old) (seen_by old)
        (seen_by new) (items_by old) (items_by new) call (length (seen_by new))
    reader_called = record {
      before = e.before;
      item = e.item;
      late = prefix_length (seen_by old) (seen_by new) e.before;
      within = omega arith;
      stands = λ op is. absurd (let no : None ≡ Some op =
          sym (none (take (length (seen_by new)) (seen_by new)) (number_of old) _ _) ∙ is in cc);
    }

    pub reader_entered : Stands settings (number_of new) (seen_by new)
        (items_by new) made kept place'
    reader_entered =
        subst (λ (n : ℕ). Stands settings n (seen_by new) (items_by new) made kept place')
        (sym same.number)
        (stands_unmoved settings (number_of old) (seen_by old) (seen_by new) (items_by old)
        (items_by new) call (length (seen_by new)) made kept place s reader_called place'
        (none (take (length (seen_by new)) (seen_by new)) (number_of old) _ _) at)

take_front : {A : Type 0} (xs ys : List A) → take (length xs) (xs ++ ys) ≡ xs
take_front [] ys = refl
take_front (x ∷ xs) ys = ap (λ zs. x ∷ zs) (take_front xs ys)

take_whole : {A : Type 0} (xs : List A) → take (length xs) xs ≡ xs
take_whole [] = refl
take_whole (x ∷ xs) = ap (λ zs. x ∷ zs) (take_whole xs)

get_last : {A : Type 0} (xs : List A) (x : A) → slice_get (xs ++ x ∷ []) (length xs) ≡ Some x
get_last [] x = refl
get_last (y ∷ xs) x = get_last xs x

-- items with one more, as plain values
with_item : (items : List (Shown × ℕ)) (item : Snapshot Shown) (call : Call) (at : ℕ)
    → call_of item.value ≡ call → calls_of (added items (Some item) at)
    ≡ calls_of items ++ (call, at) ∷ []
with_item items item call at is = map_append (λ (i : Shown × ℕ). (call_of i.0, i.1)) items
    ((item.value, at) ∷ []) ∙ ap (λ (c : Call). calls_of items ++ (c, at) ∷ []) is

module _ {S : Type 0} (settings : SettingsValue) (old new : Reader Current Update Shown S)
    (made kept place : ℕ)
    (s : Stands settings (number_of old) (seen_by old) (items_by old) made kept place)
    (same : SameReader old new) (item : Snapshot Shown) (call : Call)
    (is : call_of item.value ≡ call) where
  abbrev made_old : ℕ
  made_old = changes_made is_change (publishes settings) (number_of old) (seen_by old)
      (items_by old)

  abbrev kept_old : ℕ
  kept_old = others_made is_change (publishes settings) (number_of old) (seen_by old) (items_by old)

  -- it has seen all, at a point where its call publishes nothing
  module _ (us : List Update) (before : IsPrefix (seen_of old) us) (seen : seen_of new ≡ us)
      (items : items_of new ≡ added (items_of old) (Some item) (length us))
      (none : publishes settings (operations_of us) (number_of old) made_old kept_old call ≡ None)
    where
      seen_is : seen_by new ≡ operations_of us
      seen_is = ap operations_of seen

      point_is : length us ≡ length (seen_by new)
      point_is = sym (ap length seen_is ∙ map_length operation_of us)

      none_is : publishes settings (take (length (seen_by new)) (seen_by new))
          (number_of old) made_old kept_old call ≡ None
      none_is = ap (λ (l : List Operation). publishes settings l
          (number_of old) made_old kept_old call) (take_whole (seen_by new) ∙ seen_is) ∙ none

      pub shown_called : calls.Called is_change (publishes settings) (number_of old) (seen_by old)
          (seen_by new) (items_by old) (items_by new) call (length (seen_by new))
      shown_called = record {
        before = subst (λ (l : List Update). IsPrefix (seen_by old) (operations_of l)) (sym seen)
            (prefix_values (seen_of old) us before);
        item = ap calls_of items
            ∙ (with_item (items_of old) item call (length us) is
            ∙ ap (λ (k : ℕ). items_by old ++ (call, k) ∷ []) point_is);
        late = prefix_length (seen_by old) (seen_by new)
            (subst (λ (l : List Update). IsPrefix (seen_by old) (operations_of l)) (sym seen)
            (prefix_values (seen_of old) us before));
        within = omega arith;
        stands = λ op found. absurd (let no : None ≡ Some op = sym none_is ∙ found in cc);
      }

      pub shown_stands : (place' : ℕ) → place' ≡ place_of (operations_of us)
          → Stands settings (number_of new) (seen_by new) (items_by new) made kept place'
      shown_stands place' at =
          subst (λ (n : ℕ). Stands settings n (seen_by new) (items_by new) made kept place')
          (sym same.number)
          (stands_unmoved settings (number_of old) (seen_by old) (seen_by new) (items_by old)
          (items_by new) call (length (seen_by new)) made kept place s shown_called place' none_is
          (at ∙ sym (ap place_of seen_is)))

  -- its call published an operation, which is the last that it has seen
  module _ (us : List Update) (op : Update) (before : IsPrefix (seen_of old) us)
      (seen : seen_of new ≡ us ++ op ∷ [])
      (items : items_of new ≡ added (items_of old) (Some item) (length us))
      (found : publishes settings (operations_of us) (number_of old) made_old kept_old call
      ≡ Some (operation_of op)) where
    last_is : operations_of us ++ operation_of op ∷ [] ≡ seen_by new
    last_is = sym (ap operations_of seen ∙ map_append operation_of us (op ∷ []))

    at_is : length us ≡ length (operations_of us)
    at_is = sym (map_length operation_of us)

    front_is : take (length (operations_of us)) (seen_by new) ≡ operations_of us
    front_is = ap (take (length (operations_of us))) (sym last_is)
        ∙ take_front (operations_of us) (operation_of op ∷ [])

    found_is : publishes settings (take (length (operations_of us)) (seen_by new))
        (number_of old) made_old kept_old call ≡ Some (operation_of op)
    found_is = ap (λ (l : List Operation). publishes settings l
        (number_of old) made_old kept_old call) front_is ∙ found

    first_is : IsPrefix (seen_by old) (operations_of us)
    first_is = prefix_values (seen_of old) us before

    whole_is : IsPrefix (operations_of us) (seen_by new)
    whole_is = (operation_of op ∷ [], last_is)

    pub published_called : calls.Called is_change (publishes settings) (number_of old)
        (seen_by old) (seen_by new) (items_by old) (items_by new) call (length (operations_of us))
    published_called = record {
      before = prefix_trans (seen_by old) (operations_of us) (seen_by new) first_is whole_is;
      item = ap calls_of items
          ∙ (with_item (items_of old) item call (length us) is
          ∙ ap (λ (k : ℕ). items_by old ++ (call, k) ∷ []) at_is);
      late = prefix_length (seen_by old) (operations_of us) first_is;
      within = prefix_length (operations_of us) (seen_by new) whole_is;
      stands = λ o there.
          let same_op : operation_of op ≡ o = let e : Some (operation_of op) ≡ Some o =
          sym found_is ∙ there in cc in
          ap (λ (l : List Operation). slice_get l (length (operations_of us))) (sym last_is)
          ∙ (get_last (operations_of us) (operation_of op) ∙ ap Some same_op);
    }

    pub published_change : (made' place' : ℕ) → is_change (operation_of op) ≡ true
        → made' ≡ made + 1 → place' ≡ place_of (operations_of us) + 1
        → Stands settings (number_of new) (seen_by new) (items_by new) made' kept place'
    published_change made' place' kind m at =
        subst (λ (n : ℕ). Stands settings n (seen_by new) (items_by new) made' kept place')
        (sym same.number)
        (stands_changed settings (number_of old) (seen_by old) (seen_by new) (items_by old)
        (items_by new) call (length (operations_of us)) made kept place s published_called
        (operations_of us) (operation_of op) made' place' found_is kind first_is last_is m at)

    pub published_kept : (kept' place' : ℕ) → is_change (operation_of op) ≡ false
        → kept' ≡ kept + 1 → place' ≡ place_of (operations_of us)
        → Stands settings (number_of new) (seen_by new) (items_by new) made kept' place'
    published_kept kept' place' kind m at =
        subst (λ (n : ℕ). Stands settings n (seen_by new) (items_by new) made kept' place')
        (sym same.number)
        (stands_kept settings (number_of old) (seen_by old) (seen_by new) (items_by old)
        (items_by new) call (length (operations_of us)) made kept place s published_called
        (operations_of us) (operation_of op) kept' place' found_is kind first_is last_is m at)

-- what a change publishes that is accepted, and a delegation that is kept
pub change_found : (settings : SettingsValue) (ops : List Operation) (n made kept by serial : ℕ)
    (change : ChangeValue) → is_accepted (value_of settings ops).state change ≡ true → by ≡ n
    → serial ≡ made
    → publishes settings ops n made kept (changing change) ≡ Some (changed by serial change)
change_found settings ops n made kept by serial change accepted b m = rw (accepted, b, m) refl

pub keep_found : (settings : SettingsValue) (ops : List Operation) (n made kept by serial : ℕ)
    (k : Kept) → is_kept settings ops k ≡ true → by ≡ n → serial ≡ kept
    → publishes settings ops n made kept (keeping k) ≡ Some (kept_op by serial k)
keep_found settings ops n made kept by serial k is b m = rw (is, b, m) refl
