-- What stays true of caches.
use Rattle.std.proofs.Common.{◌≡◌, ◌<◌, ◌≤◌, Bool, true, false, List, [], ◌∷◌, ◌++◌, length, drop}
use Rattle.std.proofs.Common.{Option, Some, None, refl, sym, ◌∙◌, arith, length-append, length-drop}
use Rattle.std.specs.Prelude.{filter, is_none, nat_lt, if◌then◌else◌}
use Rattle.std.proofs.lemmas.List.Elements.{All-filter, All-drop, All-push}
use Rattle.std.proofs.lemmas.Bool.Decides.{nat_tests}
use Rattle.name_tree.specs.Path.{Labels}
use Rattle.dtab_table.specs.Rules.{Rule}
use Rattle.bind_cache.specs.Kept.{Kept, is_key}
use Rattle.bind_cache.specs.Cache.{found_in, with_room, kept_in, keys_differ, IsCache, most_kept}
use Rattle.bind_cache.specs.Cache.{most_cost}
use Rattle.bind_cache.proofs.Same.{both_true, and_true, is_key-Decides}

pub none_is : {X : Type 0} (o : Option X) → is_none o ≡ true → o ≡ None
none_is None h = refl
none_is (Some x) h = absurd (cc)

pub is_none_of : {X : Type 0} (o : Option X) → o ≡ None → is_none o ≡ true
is_none_of o h = rw h refl

-- where a key is in no binding, it is not that of the first, nor in the others
pub not_found : (k : Kept) (ks : List Kept) (path : Labels) (local : List Rule)
    → found_in (k ∷ ks) path local ≡ None → (is_key path local k ≡ false)
    × (found_in ks path local ≡ None)
not_found k ks path local h =
    let P : Bool → Type 0 = λ b. (if b then Some k.ending else found_in ks path local) ≡ None
    → (b ≡ false) × (found_in ks path local ≡ None) in
    let each : P (is_key path local k) =
    elim (is_key path local k) as P [ true ↦ (λ e. absurd (cc)) | false ↦ (λ e. (refl, e)) ] in
    each h

pub passed : (k : Kept) (ks : List Kept) (path : Labels) (local : List Rule)
    → is_key path local k ≡ false → found_in (k ∷ ks) path local ≡ found_in ks path local
passed k ks path local h = rw h refl

module _ (keeps : Kept → Bool) where
  pub found_filtered : (ks : List Kept) (path : Labels) (local : List Rule)
      → found_in ks path local ≡ None → found_in (filter keeps ks) path local ≡ None
  found_filtered [] path local h = refl
  found_filtered (k ∷ ks) path local h =
      let parts = not_found k ks path local h in
      let rest = found_filtered ks path local parts.1 in
      let P : Bool → Type 0 = λ b. found_in (if b then k ∷ filter keeps ks else filter keeps ks)
      path local ≡ None in
      let each : P (keeps k) = elim (keeps k) as P
      [ true ↦ passed k (filter keeps ks) path local parts.0 ∙ rest | false ↦ rest ] in
      each

  pub keys_differ-filter : (ks : List Kept) → keys_differ ks ≡ true
      → keys_differ (filter keeps ks) ≡ true
  keys_differ-filter [] h = refl
  keys_differ-filter (k ∷ ks) h =
      let parts = both_true (is_none (found_in ks k.path k.local)) (keys_differ ks) h in
      let rest = keys_differ-filter ks parts.1 in
      let alone = found_filtered ks k.path k.local (none_is (found_in ks k.path k.local) parts.0) in
      let P : Bool → Type 0 = λ b. keys_differ (if b then k ∷ filter keeps ks else filter keeps ks)
      ≡ true in
      let each : P (keeps k) =
      elim (keeps k) as P [
        | true ↦ and_true (is_none (found_in (filter keeps ks) k.path k.local))
            (keys_differ (filter keeps ks))
            (is_none_of (found_in (filter keeps ks) k.path k.local) alone) rest
        | false ↦ rest
      ] in
      each

  pub length-filtered : (ks : List Kept) → length (filter keeps ks) ≤ length ks
  length-filtered [] = omega arith
  length-filtered (k ∷ ks) =
      let rest = length-filtered ks in
      let P : Bool → Type 0 = λ b. length (if b then k ∷ filter keeps ks else filter keeps ks)
      ≤ length (k ∷ ks) in
      let each : P (keeps k) = elim (keeps k) as P
      [ true ↦ omega (arith, rest) | false ↦ omega (arith, rest) ] in
      each

  pub IsCache-filter : (ks : List Kept) → IsCache ks → IsCache (filter keeps ks)
  IsCache-filter ks h = record {
    few = omega (arith, length-filtered ks, h.few);
    apart = keys_differ-filter ks h.apart;
    cheap = All-filter keeps (λ k. k.cost ≤ most_cost) ks h.cheap;
  }

pub found-drop : (ks : List Kept) (path : Labels) (local : List Rule)
    → found_in ks path local ≡ None → found_in (drop 1 ks) path local ≡ None
found-drop [] path local h = refl
found-drop (k ∷ ks) path local h = (not_found k ks path local h).1

pub keys_differ-drop : (ks : List Kept) → keys_differ ks ≡ true → keys_differ (drop 1 ks) ≡ true
keys_differ-drop [] h = refl
keys_differ-drop (k ∷ ks) h =
    (both_true (is_none (found_in ks k.path k.local)) (keys_differ ks) h).1

pub false_unless_true : (b : Bool) → (b ≡ true → ⊥) → b ≡ false
false_unless_true true never = absurd (never refl)
false_unless_true false never = refl

-- of two bindings the second does not have the key of the first, where the first does not have that
-- of the second
key-sym : (k e : Kept) → is_key k.path k.local e ≡ false → is_key e.path e.local k ≡ false
key-sym k e h =
    false_unless_true (is_key e.path e.local k) (λ yes.
    let same = (is_key-Decides e.path e.local k).0 yes in
    let other : is_key k.path k.local e ≡ true =
    (is_key-Decides k.path k.local e).1 (sym same.0, sym same.1) in
    absurd (cc))

-- one more behind the others is found only where it is asked for
found-push : (ks : List Kept) (k : Kept) (path : Labels) (local : List Rule)
    → found_in ks path local ≡ None → is_key path local k ≡ false
    → found_in (ks ++ k ∷ []) path local ≡ None
found-push [] k path local none other = passed k [] path local other
found-push (e ∷ es) k path local none other =
    let parts = not_found e es path local none in
    passed e (es ++ k ∷ []) path local parts.0 ∙ found-push es k path local parts.1 other

pub keys_differ-push : (ks : List Kept) (k : Kept) → keys_differ ks ≡ true
    → found_in ks k.path k.local ≡ None → keys_differ (ks ++ k ∷ []) ≡ true
keys_differ-push [] k apart none = refl
keys_differ-push (e ∷ es) k apart none =
    let parts = both_true (is_none (found_in es e.path e.local)) (keys_differ es) apart in
    let others = not_found e es k.path k.local none in
    let alone = found-push es k e.path e.local (none_is (found_in es e.path e.local) parts.0)
    (key-sym k e others.0) in
    and_true (is_none (found_in (es ++ k ∷ []) e.path e.local)) (keys_differ (es ++ k ∷ []))
    (is_none_of (found_in (es ++ k ∷ []) e.path e.local) alone)
    (keys_differ-push es k parts.1 others.1)

-- with room, a cache is still one, with fewer than may be kept
pub record HasRoom (ks : List Kept) : Type 0 where
  pub less : length ks < most_kept
  pub cache : IsCache ks

pub IsCache-with_room : (ks : List Kept) → IsCache ks → HasRoom (with_room ks)
IsCache-with_room ks h =
    let P : Bool → Type 0 = λ b. nat_lt (length ks) most_kept ≡ b
    → HasRoom (if b then ks else drop 1 ks) in
    let each : P (nat_lt (length ks) most_kept) =
    elim (nat_lt (length ks) most_kept) as P [
      | true ↦ (λ e. record { less = grind (arith, nat_tests); cache = h })
      | false ↦ (λ e.
          let full : most_kept ≤ length ks = grind (arith, nat_tests) in
          let room : length (drop 1 ks) < most_kept = omega (arith, length-drop 1 ks, h.few) in
          record {
            less = room;
            cache = record {
              few = omega (arith, room);
              apart = keys_differ-drop ks h.apart;
              cheap = All-drop (λ k. k.cost ≤ most_cost) 1 ks h.cheap;
            };
          })
    ] in
    each refl

pub found-with_room : (ks : List Kept) (path : Labels) (local : List Rule)
    → found_in ks path local ≡ None → found_in (with_room ks) path local ≡ None
found-with_room ks path local h =
    let P : Bool → Type 0 = λ b. found_in (if b then ks else drop 1 ks) path local ≡ None in
    let each : P (nat_lt (length ks) most_kept) =
    elim (nat_lt (length ks) most_kept) as P [ true ↦ h | false ↦ found-drop ks path local h ] in
    each

pub IsCache-kept_in : (ks : List Kept) (k : Kept) → IsCache ks → k.cost ≤ most_cost
    → found_in ks k.path k.local ≡ None → IsCache (kept_in ks k)
IsCache-kept_in ks k h cheap none =
    let room = IsCache-with_room ks h in
    let less = room.less in
    record {
      few = omega (arith, length-append (with_room ks) (k ∷ []), less);
      apart = keys_differ-push (with_room ks) k room.cache.apart
          (found-with_room ks k.path k.local none);
      cheap = All-push (λ x. x.cost ≤ most_cost) (with_room ks) k room.cache.cheap cheap;
    }
