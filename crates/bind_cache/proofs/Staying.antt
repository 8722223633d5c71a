-- What stays in a cache after a change is right.
use Rattle.std.proofs.Common.{◌≡◌, ◌≢◌, ℕ, ◌+◌, ◌≤◌, Bool, true, false, ◌||◌, not, cond, List, []}
use Rattle.std.proofs.Common.{◌∷◌, ◌++◌, length, map, drop, Some, None, refl, sym, ap, subst, ◌∙◌}
use Rattle.std.proofs.Common.{arith}
use Rattle.std.specs.Prelude.{filter, All, nat_lt, min, if◌then◌else◌, is_some, ◌&&◌, codes}
use Rattle.std.specs.List.{list_any}
use Rattle.std.specs.Str.{bytes_eq}
use Rattle.std.specs.Option.{option_or}
use Rattle.std.specs.declared.cmp.Ordering.{Ordering}
use Rattle.std.specs.declared.cmp.Ordering.TheVariants.{Less, Equal, Greater}
use Rattle.std.specs.Ordering.{nat_cmp, eq_by_cmp, is_eq}
use Rattle.std.specs.Cmp.Lexicographic.{slice_cmp, nat_list_cmp_total}
use Rattle.std.specs.FinMap.{contains_key, insert, remove, get, get-insert, get-remove}
use Rattle.std.specs.FinMap.{nat_cmp-IsAntisymmetric, slice_cmp-IsAntisymmetric}
use Rattle.std.proofs.lemmas.List.Elements.{All-filter, filter_passes, All-push, All-drop, All-nil}
use Rattle.std.proofs.lemmas.List.Elements.{All-head, All-tail, All-cons}
use Rattle.std.proofs.lemmas.Bool.Decides.{nat_tests}
use Rattle.std.proofs.lemmas.Slice.Eq.{bytes_eq-Decides}
use Rattle.name_tree.specs.Path.{Labels}
use Rattle.dtab_table.specs.Rules.{Rule}
use Rattle.addr_book.specs.declared.addr.Weighted.{Weighted}
use Rattle.addr_book.specs.Book.{Services, after_set}
use Rattle.addr_book.specs.declared.leaf.Cluster.TheVariants.{Fs}
use Rattle.addr_book.specs.Namer.{named_in, named_addr, named_service, leaf_at}
use Rattle.bind_core.specs.Delegation.{Names, Told, Visit, told_in, cost_of, asked_of, within_width}
use Rattle.bind_core.specs.Delegation.{visits_within, most_asked, most_wide}
use Rattle.bind_core.specs.Laws.{AgreeAt, AgreeAtAll}
use Rattle.bind_core.proofs.Local.{is_local}
use Rattle.bind_cache.specs.Kept.{Kept, IsRight}
use Rattle.bind_cache.specs.Changes.{is_touched_by_table, names_service}
use Rattle.bind_cache.specs.Cache.{untouched, AreRight, IsCache, with_room, most_kept, most_cost}
use Rattle.bind_cache.specs.Laws.{DifferIn, NothingIsRight, KeepsRight, TableStaysRight}
use Rattle.bind_cache.specs.Laws.{ServiceStaysRight, ChangesOneService, AddressesNameNothing}
use Rattle.bind_cache.proofs.Caches.{IsCache-filter, IsCache-kept_in, false_unless_true}
use Rattle.bind_cache.proofs.Fronts.{untouched_in_front}

-- a cheap delegation has few lookups, and all their paths are kept
few_lookups : (rules : List Rule) (names : Names) (path : Labels)
    → cost_of rules names path ≤ most_cost → length (told_in rules names path).1 ≤ most_asked
few_lookups rules names path cheap = omega (arith, cheap)

all_asked : (told : Told) → length told.1 ≤ most_asked
    → map (λ (v : Visit). v.path) (visits_within most_asked told)
    ≡ map (λ (v : Visit). v.path) told.1
all_asked told few =
    let no : nat_lt most_asked (length told.1) ≡ false = grind (arith, nat_tests) in
    ap (λ (b : Bool). map (λ (v : Visit). v.path) (if b then [] else told.1)) no

-- a binding that is right is so with other rules and other names, where these say the same of each
-- path that was looked up for it
module _ (rules others : List Rule) (names renames : Names) (k : Kept)
    (right : IsRight rules names k) (cheap : k.cost ≤ most_cost)
    (agree : AgreeAtAll (rules ++ k.local) (others ++ k.local) names renames k.asked) where
  same_told : told_in (others ++ k.local) renames k.path ≡ told_in (rules ++ k.local) names k.path
  same_told =
      let low : cost_of (rules ++ k.local) names k.path ≤ most_cost =
      subst (λ n. n ≤ most_cost) right.cost cheap in
      let few = few_lookups (rules ++ k.local) names k.path low in
      let all : k.asked ≡ asked_of (rules ++ k.local) names k.path =
      right.asked ∙ all_asked (told_in (rules ++ k.local) names k.path) few in
      is_local (rules ++ k.local) (others ++ k.local) names renames k.path
      (subst (λ (paths : List Labels). AgreeAtAll (rules ++ k.local)
      (others ++ k.local) names renames paths) all agree)

  pub stays_right : IsRight others renames k
  stays_right = record {
    ending = right.ending ∙ ap within_width (sym same_told);
    cost = right.cost ∙ ap (λ (t : Told). min (length t.1) (most_wide + 1)) (sym same_told);
    asked = right.asked ∙ ap
        (λ (t : Told). map (λ (v : Visit). v.path) (visits_within most_asked t)) (sym same_told);
  }

neither : (b c : Bool) → (b || c) ≡ false → (b ≡ false) × (c ≡ false)
neither true c is = absurd (cc)
neither false c is = (refl, is)

unnot : (b : Bool) → not b ≡ true → b ≡ false
unnot true h = absurd (cc)
unnot false h = refl

-- what an untouched path says of rules and names, all untouched paths say
module _ (rules others : List Rule) (names renames : Names) (touched : Labels → Bool)
    (says : (path : Labels) → touched path ≡ false → AgreeAt rules others names renames path) where
  all_agree : (paths : List Labels) → list_any touched paths ≡ false
      → AgreeAtAll rules others names renames paths
  all_agree [] h = tt
  all_agree (p ∷ ps) h = let parts = neither (touched p) (list_any touched ps) h in
      (says p parts.0, all_agree ps parts.1)

-- so what stays is right, where untouched paths are told the same
module _ (rules others : List Rule) (names renames : Names) (touched : Labels → Bool)
    (says : (local : List Rule) (path : Labels) → touched path ≡ false
    → AgreeAt (rules ++ local) (others ++ local) names renames path) where
  one_stays : (k : Kept) → IsRight rules names k → k.cost ≤ most_cost
      → list_any touched k.asked ≡ false → IsRight others renames k
  one_stays k right cheap free =
      stays_right rules others names renames k right cheap
      (all_agree (rules ++ k.local) (others ++ k.local) names renames touched
      (says k.local) k.asked free)

  all_stay : (ks : List Kept) → All (IsRight rules names) ks → All (λ k. k.cost ≤ most_cost) ks
      → All (λ k. not (list_any touched k.asked) ≡ true) ks → All (IsRight others renames) ks
  all_stay [] right cheap free = All-nil (IsRight others renames)
  all_stay (k ∷ ks) right cheap free =
      All-cons (IsRight others renames) k ks
      (one_stays k (All-head (IsRight rules names) k ks right)
      (All-head (λ x. x.cost ≤ most_cost) k ks cheap)
      (unnot (list_any touched k.asked)
      (All-head (λ x. not (list_any touched x.asked) ≡ true) k ks free)))
      (all_stay ks (All-tail (IsRight rules names) k ks right)
      (All-tail (λ x. x.cost ≤ most_cost) k ks cheap)
      (All-tail (λ x. not (list_any touched x.asked) ≡ true) k ks free))

  pub stay_right : (ks : List Kept) → AreRight rules names ks
      → AreRight others renames (untouched touched ks)
  stay_right ks h =
      let keeps : Kept → Bool = λ k. not (list_any touched k.asked) in
      let cache : IsCache (filter keeps ks) = IsCache-filter keeps ks h.cache in
      record {
        cache = cache;
        right = all_stay (filter keeps ks) (All-filter keeps (IsRight rules names) ks h.right)
            cache.cheap (filter_passes keeps ks);
      }

pub nothing_is_right : NothingIsRight
nothing_is_right rules names = record {
  cache = record {
    few = omega arith;
    apart = refl;
    cheap =
        All-nil (λ k. k.cost ≤ most_cost);
  };
  right = All-nil (IsRight rules names);
}

right_with_room : (rules : List Rule) (names : Names) (ks : List Kept)
    → All (IsRight rules names) ks → All (IsRight rules names) (with_room ks)
right_with_room rules names ks h =
    let P : Bool → Type 0 = λ b. All (IsRight rules names) (if b then ks else drop 1 ks) in
    let each : P (nat_lt (length ks) most_kept) =
    elim (nat_lt (length ks) most_kept) as P
    [ true ↦ h | false ↦ All-drop (IsRight rules names) 1 ks h ] in
    each

pub keeps_right : KeepsRight
keeps_right rules names ks k h right cheap none = record {
  cache = IsCache-kept_in ks k h.cache cheap none;
  right = All-push (IsRight rules names) (with_room ks) k
      (right_with_room rules names ks h.right) right;
}

pub table_stays_right : TableStaysRight
table_stays_right old new behind names ks h =
    stay_right (old ++ behind) (new ++ behind) names names (is_touched_by_table old new)
    (λ local path free. (untouched_in_front old new behind local path free, refl)) ks h

-- services that two books have alike are named alike
same_service : (old new : Services) (service : List ℕ) → DifferIn service old new → (path : Labels)
    → names_service service path ≡ false → named_service old path ≡ named_service new path
same_service old new service differ [] h = refl
same_service old new service differ (a ∷ []) h = refl
same_service old new service differ (a ∷ b ∷ []) h = refl
same_service old new service differ (a ∷ b ∷ name ∷ rest) h =
    let P : Bool → Type 0 = λ fs. (fs && bytes_eq name service) ≡ false
    → (if fs && contains_key old name then Some (leaf_at (a ∷ b ∷ name ∷ []) rest (Fs name)) else
    None) ≡ (if fs && contains_key new name then Some
    (leaf_at (a ∷ b ∷ name ∷ []) rest (Fs name)) else None) in
    let each : P (bytes_eq a (codes "#") && bytes_eq b (codes "io.l5d.fs")) =
    elim (bytes_eq a (codes "#") && bytes_eq b (codes "io.l5d.fs")) as P [
      | true ↦ (λ e.
          let away : name ≢ service = λ same. let yes : bytes_eq name service ≡ true =
          (bytes_eq-Decides name service).1 same in cc in
          ap (λ (has : Bool). if has then Some (leaf_at (a ∷ b ∷ name ∷ []) rest (Fs name)) else
          None) (differ name away))
      | false ↦ (λ e. refl)
    ] in
    each h

pub service_stays_right : ServiceStaysRight
service_stays_right rules service book next ks differ h =
    stay_right rules rules (named_in book) (named_in next) (names_service service)
    (λ local path free. (
      refl,
      ap (option_or (named_addr path))
          (same_service book.services next.services service differ path free),
    )) ks h

-- other names are other keys
tied_is : (a b : List ℕ) → eq_by_cmp (slice_cmp nat_cmp) a b ≡ true → a ≡ b
tied_is a b h =
    let P : Ordering → Type 0 = λ o. slice_cmp nat_cmp a b ≡ o → is_eq o ≡ true → a ≡ b in
    let each : P (slice_cmp nat_cmp a b) =
    elim (slice_cmp nat_cmp a b) as P [
      | Less ↦ (λ e yes. absurd (cc))
      | Equal ↦ (λ e yes. slice_cmp-IsAntisymmetric nat_cmp-IsAntisymmetric a b e)
      | Greater ↦ (λ e yes. absurd (cc))
    ] in
    each refl h

untied : (a b : List ℕ) → a ≢ b → eq_by_cmp (slice_cmp nat_cmp) a b ≡ false
untied a b differ = false_unless_true (eq_by_cmp (slice_cmp nat_cmp) a b)
    (λ yes. differ (tied_is a b yes))

has_inserted : (services : Services) (service : List ℕ) (list : List Weighted) (name : List ℕ)
    → name ≢ service → contains_key services name ≡ contains_key (insert services service list) name
has_inserted services service list name differ =
    sym (ap is_some (get-insert nat_list_cmp_total services service list name)
    ∙ ap (λ (b : Bool). is_some (cond b (Some list) (get services name)))
    (untied name service differ))

has_removed : (services : Services) (service name : List ℕ) → name ≢ service
    → contains_key services name ≡ contains_key (remove services service) name
has_removed services service name differ =
    sym (ap is_some (get-remove nat_list_cmp_total services service name)
    ∙ ap (λ (b : Bool). is_some (cond b None (get services name))) (untied name service differ))

pub changes_one_service : ChangesOneService
changes_one_service book service = (
  λ list name differ. has_inserted book.services service list name differ,
  λ name differ. has_removed book.services service name differ,
)

-- a service that is there is there with other addresses too
still_has : (services : Services) (service : List ℕ) (list : List Weighted) (name : List ℕ)
    → contains_key services service ≡ true → contains_key services name
    ≡ contains_key (insert services service list) name
still_has services service list name has =
    let P : Bool → Type 0 = λ b. eq_by_cmp (slice_cmp nat_cmp) name service ≡ b
    → contains_key services name ≡ is_some (cond b (Some list) (get services name)) in
    let each : P (eq_by_cmp (slice_cmp nat_cmp) name service) =
    elim (eq_by_cmp (slice_cmp nat_cmp) name service) as P [
      | true ↦ (λ e. ap (contains_key services) (tied_is name service e) ∙ has)
      | false ↦ (λ e. refl)
    ] in
    each refl ∙ sym (ap is_some (get-insert nat_list_cmp_total services service list name))

same_services : (old new : Services)
    → ((name : List ℕ) → contains_key old name ≡ contains_key new name) → (path : Labels)
    → named_service old path ≡ named_service new path
same_services old new same [] = refl
same_services old new same (a ∷ []) = refl
same_services old new same (a ∷ b ∷ []) = refl
same_services old new same (a ∷ b ∷ name ∷ rest) =
    ap (λ (has : Bool). if (bytes_eq a (codes "#") && bytes_eq b (codes "io.l5d.fs"))
    && has then Some (leaf_at (a ∷ b ∷ name ∷ []) rest (Fs name)) else None) (same name)

-- names that are all the same leave all that is kept right
module _ (rules : List Rule) (names renames : Names)
    (same : (path : Labels) → names path ≡ renames path) where
  agree_each : (local : List Rule) (paths : List Labels)
      → AgreeAtAll (rules ++ local) (rules ++ local) names renames paths
  agree_each local [] = tt
  agree_each local (p ∷ ps) = ((refl, same p), agree_each local ps)

  all_right : (ks : List Kept) → All (IsRight rules names) ks → All (λ k. k.cost ≤ most_cost) ks
      → All (IsRight rules renames) ks
  all_right [] right cheap = All-nil (IsRight rules renames)
  all_right (k ∷ ks) right cheap =
      All-cons (IsRight rules renames) k ks
      (stays_right rules rules names renames k (All-head (IsRight rules names) k ks right)
      (All-head (λ x. x.cost ≤ most_cost) k ks cheap) (agree_each k.local k.asked))
      (all_right ks (All-tail (IsRight rules names) k ks right)
      (All-tail (λ x. x.cost ≤ most_cost) k ks cheap))

pub addresses_name_nothing : AddressesNameNothing
addresses_name_nothing rules book service list ks has h = record {
  cache = h.cache;
  right = all_right rules (named_in book) (named_in (after_set book service list))
      (λ path. ap (option_or (named_addr path))
      (same_services book.services (after_set book service list).services
      (λ name. still_has book.services service list name has) path))
      ks h.right h.cache.cheap;
}
