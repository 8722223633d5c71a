-- Lookups that end, in the list of those that were made.
use Rattle.std.proofs.Common.{◌≡◌, ℕ, zero, suc, ◌+◌, ◌<◌, ◌≤◌, Bool, true, false, List, [], ◌∷◌}
use Rattle.std.proofs.Common.{◌++◌, length, map, get_or, Option, Some, None, refl, ap, ◌∙◌, arith}
use Rattle.std.proofs.Common.{append_assoc, length-append}
use Rattle.std.specs.Prelude.{nat_lt, if◌then◌else◌}
use Rattle.std.proofs.lemmas.Bool.Decides.{nat_tests}
use Rattle.std.proofs.Math.ListN.{set}
use Rattle.bind_core.specs.Delegation.{Ending, negative, failing, no_replica, too_deep, too_wide}
use Rattle.bind_core.specs.Delegation.{bound, Visit, Told}
use Rattle.bind_core.specs.Outcome.{ended_as, traced}
use Rattle.bind_core.specs.Stack.{ends_all, behind, end_at, closed, end_item, end_items, with_item}
use Rattle.bind_core.specs.declared.trace.LookupEnd.{LookupEnd}
use Rattle.bind_core.specs.declared.trace.TraceItem.{TraceItem}
use Rattle.bind_core.proofs.Narrow.{IsNarrow}

pub length-end_at : (at : ℕ) (e : Ending) (vs : List Visit) → length (end_at at e vs) ≡ length vs
length-end_at at e [] = refl
length-end_at zero e (v ∷ vs) = omega arith
length-end_at (suc at) e (v ∷ vs) = omega (arith, length-end_at at e vs)

-- a lookup that was made before others
pub end_at-front : (at : ℕ) (e : Ending) (vs us : List Visit) → at < length vs
    → end_at at e (vs ++ us) ≡ end_at at e vs ++ us
end_at-front at e [] us h = absurd (omega arith)
end_at-front zero e (v ∷ vs) us h = refl
end_at-front (suc at) e (v ∷ vs) us h =
    ap (λ (xs : List Visit). v ∷ xs) (end_at-front at e vs us (omega arith))

-- the one that was made last
pub end_at-last : (e : Ending) (vs : List Visit) (v : Visit) → let at = length vs in
    end_at at e (vs ++ v ∷ []) ≡ vs ++ record v { ending = e } ∷ []
end_at-last e [] v = refl
end_at-last e (x ∷ vs) v = ap (λ (xs : List Visit). x ∷ xs) (end_at-last e vs v)

traced-end_at : (at : ℕ) (e : Ending) (vs : List Visit)
    → end_item at (ended_as e) (map traced vs) ≡ map traced (end_at at e vs)
traced-end_at at e [] = refl
traced-end_at zero e (v ∷ vs) = refl
traced-end_at (suc at) e (v ∷ vs) =
    ap (λ (xs : List TraceItem). traced v ∷ xs) (traced-end_at at e vs)

pub length-closed : (visit : Option ℕ) (told : Told) → length (closed visit told).1 ≡ length told.1
length-closed None told = refl
length-closed (Some at) told =
    elim (ends_all told.0) as (λ b. length
    (if b then told else (told.0, end_at at told.0 told.1)).1 ≡ length told.1)
    [ true ↦ refl | false ↦ length-end_at at told.0 told.1 ]

pub closed-more : (visit : Option ℕ) (told : Told) → length told.1 ≤ length (closed visit told).1
closed-more visit told = omega (arith, length-closed visit told)

pub closed-ended : (visit : Option ℕ) (told : Told) → ends_all told.0 ≡ true
    → closed visit told ≡ told
closed-ended None told ends = refl
closed-ended (Some at) told ends = rw ends refl

-- what is kept of lookups, of which one ends
pub kept-closed : (most : ℕ) (visit : Option ℕ) (e : Ending) (vs : List Visit) → ends_all e ≡ false
    → end_items visit (ended_as e) (if nat_lt most (length vs) then [] else map traced vs)
    ≡ (if nat_lt most (length (closed visit (e, vs)).1) then [] else map traced
    (closed visit (e, vs)).1)
kept-closed most None e vs goes_on = refl
kept-closed most (Some at) e vs goes_on =
    rw (goes_on, length-end_at at e vs)
    (elim (nat_lt most (length vs)) as (λ b. end_item at (ended_as e)
    (if b then [] else map traced vs) ≡ (if b then [] else map traced (end_at at e vs)))
    [ true ↦ refl | false ↦ traced-end_at at e vs ])

-- what is kept, behind one lookup more
traced-append : (vs : List Visit) (v : Visit) → map traced vs ++ traced v ∷ []
    ≡ map traced (vs ++ v ∷ [])
traced-append [] v = refl
traced-append (x ∷ vs) v = ap (λ (xs : List TraceItem). traced x ∷ xs) (traced-append vs v)

pub kept-begun : (most : ℕ) (vs : List Visit) (v : Visit)
    → with_item most (length vs) (traced v) (if nat_lt most (length vs) then [] else map traced vs)
    ≡ (if nat_lt most (length (vs ++ v ∷ [])) then [] else map traced (vs ++ v ∷ []))
kept-begun most vs v =
    let longer : length (vs ++ v ∷ []) ≡ length vs + 1 = omega (arith, length-append vs (v ∷ [])) in
    elim (nat_lt (length vs) most) as (λ b. nat_lt (length vs) most ≡ b
    → (if b then (if nat_lt most (length vs) then [] else map traced vs) ++ traced v ∷ [] else [])
    ≡ (if nat_lt most (length (vs ++ v ∷ [])) then [] else map traced (vs ++ v ∷ []))) [
      | true ↦ (λ few.
          let small : nat_lt most (length vs) ≡ false = grind (arith, nat_tests) in
          let small_yet : nat_lt most (length (vs ++ v ∷ [])) ≡ false = grind (arith, nat_tests) in
          rw (small, small_yet) (traced-append vs v))
      | false ↦ (λ many.
          let large : nat_lt most (length (vs ++ v ∷ [])) ≡ true = grind (arith, nat_tests) in
          rw large refl)
    ] refl

-- a lookup that comes to what is told behind it
module _ (vs : List Visit) (v : Visit) (deep : v.ending ≡ too_deep) where
  placed : (e : Ending) (us : List Visit) → let at = length vs in
      end_at at e ((vs ++ v ∷ []) ++ us) ≡ vs ++ record v { ending = e } ∷ us
  placed e us =
      let lt : length vs < length (vs ++ v ∷ []) = omega (arith, length-append vs (v ∷ [])) in
      end_at-front (length vs) e (vs ++ v ∷ []) us lt
      ∙ (ap (λ (xs : List Visit). xs ++ us) (end_at-last e vs v)
      ∙ append_assoc vs (record v { ending = e } ∷ []) us)

  unplaced : (us : List Visit) → (vs ++ v ∷ []) ++ us ≡ vs ++ record v { ending = too_deep } ∷ us
  unplaced us = rw (← deep) (append_assoc vs (v ∷ []) us)

  pub closed-begun : (told : Told) → IsNarrow told
      → closed (Some (length vs)) (behind (vs ++ v ∷ []) told)
      ≡ behind vs (told.0, record v { ending = told.0 } ∷ told.1)
  closed-begun (negative, us) narrow = ap (λ (xs : List Visit). (negative, xs)) (placed negative us)
  closed-begun (failing, us) narrow = ap (λ (xs : List Visit). (failing, xs)) (placed failing us)
  closed-begun (no_replica, us) narrow =
      ap (λ (xs : List Visit). (no_replica, xs)) (placed no_replica us)
  closed-begun (too_deep, us) narrow = ap (λ (xs : List Visit). (too_deep, xs)) (unplaced us)
  closed-begun (too_wide, us) narrow = absurd (narrow refl)
  closed-begun (bound f, us) narrow = ap (λ (xs : List Visit). (bound f, xs)) (placed (bound f) us)

-- a lookup that comes to what is told behind those that were made may come to it before
pub closed-before : (at : ℕ) (vs : List Visit) (told : Told) → at < length vs
    → closed (Some at) (behind vs told) ≡ behind (closed (Some at) (told.0, vs)).1 told
closed-before at vs told lt =
    let P : Bool → Type 0 = λ ends.
    let all : Told = (told.0, vs ++ told.1) in let open' : Told = (told.0, vs) in
    let later : Told = (told.0, end_at at told.0 (vs ++ told.1)) in
    let sooner : Told = (told.0, end_at at told.0 vs) in
    let whole : Told = (told.0, (if ends then open' else sooner).1 ++ told.1) in
    (if ends then all else later) ≡ whole in
    elim (ends_all told.0) as P [
      | true ↦ refl
      | false ↦ ap (λ (xs : List Visit). (told.0, xs))
          (end_at-front at told.0 vs told.1 lt)
    ]

-- an item that is there is changed at its place, and one that is not is not
end_item-set : (at : ℕ) (items : List TraceItem) (x : TraceItem) (e : LookupEnd)
    → x ≡ get_or items at x → set items at (record x { ended = e }) ≡ end_item at e items
end_item-set at [] x e is = refl
end_item-set zero (i ∷ items) x e is = rw is refl
end_item-set (suc at) (i ∷ items) x e is =
    ap (λ (xs : List TraceItem). i ∷ xs) (end_item-set at items x e is)

end_item-past : (at : ℕ) (items : List TraceItem) (e : LookupEnd) → length items ≤ at
    → items ≡ end_item at e items
end_item-past at [] e past = refl
end_item-past zero (i ∷ items) e past = absurd (omega arith)
end_item-past (suc at) (i ∷ items) e past =
    ap (λ (xs : List TraceItem). i ∷ xs) (end_item-past at items e (omega arith))

pub ended_at : (visit : Option ℕ) (at : ℕ) (items : List TraceItem) (x : TraceItem)
    (now e : LookupEnd) → visit ≡ Some at → now ≡ e → x ≡ get_or items at x
    → set items at (record x { ended = now }) ≡ end_items visit e items
ended_at visit at items x now e is now_is x_is =
    rw (is, ← now_is) (end_item-set at items x now x_is)

pub ended_past : (visit : Option ℕ) (at : ℕ) (items : List TraceItem) (e : LookupEnd)
    → visit ≡ Some at → length items ≤ at → items ≡ end_items visit e items
ended_past visit at items e is past = rw is (end_item-past at items e past)
