-- A reader that entered for a call.
use Rattle.std.proofs.Common.{◌≡◌, ℕ, List, [], ◌∷◌, ◌++◌, length, Some, refl, ap, sym, ◌∙◌, subst}
use Rattle.std.proofs.Common.{arith}
use Rattle.std.specs.Prelude.{map, IfOk, Result, Ok, Err}
use Rattle.std.specs.declared.snapshot.Snapshot.{Snapshot}
use mathlib.Core.List.{IsPrefix}
use Rattle.snap_cell.specs.declared.reader.Reader.{Reader}
use Rattle.snap_cell.specs.Items.{added}
use Rattle.snap_cell.specs.Views.{seen_of, items_of, refusals_of, SameReader, Returned}
use Rattle.router.specs.declared.call.Call.{Call as Shown}
use Rattle.router.specs.declared.current.Current.{Current}
use Rattle.router.specs.declared.update.Update.{Update}
use Rattle.router.specs.Update.{operation_of, operations_of}
use Rattle.router.specs.Views.{call_of, calls_of, seen_by, Entered, Saw}

pub map_append : {A B : Type 0} (f : A → B) (xs ys : List A)
    → map f (xs ++ ys) ≡ map f xs ++ map f ys
map_append f [] ys = refl
map_append f (x ∷ xs) ys = ap (λ l. f x ∷ l) (map_append f xs ys)

pub map_length : {A B : Type 0} (f : A → B) (xs : List A) → length (map f xs) ≡ length xs
map_length f [] = refl
map_length f (x ∷ xs) = omega (arith, map_length f xs)

-- what begins a list begins it as plain values too
pub prefix_values : (xs ys : List Update) → IsPrefix xs ys
    → IsPrefix (operations_of xs) (operations_of ys)
prefix_values xs ys p =
    (operations_of p.0, sym (map_append operation_of xs p.0) ∙ ap operations_of p.1)

pub items_added : (items : List (Shown × ℕ)) (item : Snapshot Shown) (call : Shown) (point : ℕ)
    → item.value ≡ call → calls_of (added items (Some item) point)
    ≡ calls_of items ++ (call_of call, point) ∷ []
items_added items item call point is =
    map_append (λ (i : Shown × ℕ). (call_of i.0, i.1)) items ((item.value, point) ∷ [])
    ∙ ap (λ (c : Shown). calls_of items ++ (call_of c, point) ∷ []) is

module _ {S : Type 0} where
  -- the reader entered, and came back
  pub entered_is : (old mid new : Reader Current Update Shown S) (item : Snapshot Shown)
      (call : Shown) → item.value ≡ call
      → SameReader old mid → refusals_of mid ≡ refusals_of old
      → IsPrefix (seen_of old) (seen_of mid) → items_of mid
      ≡ added (items_of old) (Some item) (length (seen_of mid))
      → Returned mid new → Entered old new (call_of call)
  entered_is old mid new item call is same refused before items back =
      let seen : seen_of new ≡ seen_of mid = back.seen in
      let n : length (seen_by new) ≡ length (seen_of mid) =
      map_length operation_of (seen_of new) ∙ ap length seen in record {
        same = record {
          number = back.same.number ∙ same.number;
          cell =
              back.same.cell ∙ same.cell;
        };
        refused = back.refusals ∙ refused;
        before = subst (λ (us : List Update). IsPrefix (operations_of (seen_of old))
            (operations_of us)) (sym seen) (prefix_values (seen_of old) (seen_of mid) before);
        item = ap calls_of (back.items ∙ items)
            ∙ (items_added (items_of old) item call (length (seen_of mid)) is
            ∙ ap (λ (k : ℕ). calls_of (items_of old) ++ (call_of call, k) ∷ []) (sym n));
      }

  -- the reader entered for no call, and came back
  pub saw_is : (old mid new : Reader Current Update Shown S) → SameReader old mid
      → refusals_of mid ≡ refusals_of old → IsPrefix (seen_of old) (seen_of mid)
      → items_of mid ≡ items_of old
      → Returned mid new → Saw old new
  saw_is old mid new same refused before items back = record {
    same = record { number = back.same.number ∙ same.number; cell = back.same.cell ∙ same.cell };
    refused = back.refusals ∙ refused;
    before = subst (λ (us : List Update). IsPrefix (seen_of old) us) (sym back.seen) before;
    items = back.items ∙ items;
  }

-- what holds of a value that is there
pub weaker_ok : {A E : Type 0} (r : Result A E) (P Q : A → Type 0) → ((x : A) → P x → Q x)
    → IfOk r P → IfOk r Q
weaker_ok (Ok x) P Q f p = f x p
weaker_ok (Err e) P Q f p = tt
