-- What is kept stays right.
use Rattle.std.proofs.Common.{◌≡◌, ℕ, Bool, true, false, cond, List, [], ◌∷◌, Some, None, refl, ap}
use Rattle.std.proofs.Common.{◌∙◌}
use Rattle.std.specs.Prelude.{fold, if◌then◌else◌}
use Rattle.std.specs.FinMap.{get, insert, remove, contains_key, get-insert, get-remove}
use Rattle.std.proofs.lemmas.Cmp.{nat_list_cmp_total}
use Rattle.std.specs.Str.{bytes_eq}
use Rattle.ns_store.specs.Contents.{Space, Spaces}
use Rattle.addr_book.specs.declared.addr.Weighted.{Weighted}
use Rattle.addr_book.specs.Namer.{named_in}
use Rattle.addr_book.specs.Book.{after_set, after_drop}
use Rattle.machine.specs.Values.{SettingsValue, StateValue, ChangeValue, create, put, delete}
use Rattle.machine.specs.Values.{set_addrs, drop_service, report}
use Rattle.machine.specs.State.{changed as changed_state}
use Rattle.machine.specs.Looking.{space_rules}
use Rattle.bind_cache.specs.Kept.{Kept}
use Rattle.bind_cache.specs.Cache.{AreRight, after_service}
use Rattle.bind_cache.proofs.Staying.{nothing_is_right, keeps_right, table_stays_right}
use Rattle.bind_cache.proofs.Staying.{service_stays_right, changes_one_service}
use Rattle.bind_cache.proofs.Staying.{addresses_name_nothing}
use Rattle.router_log.specs.Operation.{Operation, changed, kept}
use Rattle.router_log.proofs.Ties.{tied}
use Rattle.router_log.specs.Value.{Value, applied, value_of, opening_value, Fits, AllFit}
use Rattle.router_log.specs.Value.{first_rules, retold, untouched_by, standing_rules, IsRightValue}

got_inserted : (spaces : Spaces) (name : List ℕ) (space : Space) (q : List ℕ) (t : Bool)
    → bytes_eq name q ≡ t → get (insert spaces name space) q ≡ cond t (Some space) (get spaces q)
got_inserted spaces name space q t is = get-insert nat_list_cmp_total spaces name space q
    ∙ ap (λ (b : Bool). cond b (Some space) (get spaces q)) (tied q name ∙ is)

got_removed : (spaces : Spaces) (name q : List ℕ) (t : Bool) → bytes_eq name q ≡ t
    → get (remove spaces name) q ≡ cond t None (get spaces q)
got_removed spaces name q t is = get-remove nat_list_cmp_total spaces name q
    ∙ ap (λ (b : Bool). cond b None (get spaces q)) (tied q name ∙ is)

module _ (settings : SettingsValue) where
  -- one namespace has another table then, and the others are as they were
  record IsRetold (state next : StateValue) (name : List ℕ) : Type 0 where
    book : next.book ≡ state.book
    other : bytes_eq name settings.space ≡ false → first_rules settings next
        ≡ first_rules settings state

  retold_right : (state next : StateValue) (name : List ℕ) (ks : List Kept) (t : Bool)
      → bytes_eq name settings.space ≡ t → IsRetold state next name
      → AreRight (standing_rules settings state) (named_in state.book) ks
      → AreRight (standing_rules settings next) (named_in next.book)
      (retold settings state next name ks)
  retold_right state next name ks true is set right =
      rw (set.book, is) (table_stays_right (first_rules settings state)
      (first_rules settings next) settings.base (named_in state.book) ks right)
  retold_right state next name ks false is set right = rw (set.book, set.other is, is) right

  set_inserted : (state : StateValue) (name : List ℕ) (space : Space) (next : StateValue)
      → next.book ≡ state.book → next.store.spaces ≡ insert state.store.spaces name space
      → IsRetold state next name
  set_inserted state name space next book spaces = record {
    book = book;
    other = λ is. ap (λ (m : Spaces). space_rules (get m settings.space)) spaces
        ∙ ap space_rules (got_inserted state.store.spaces name space settings.space false is);
  }

  set_removed : (state : StateValue) (name : List ℕ) (next : StateValue) → next.book ≡ state.book
      → next.store.spaces ≡ remove state.store.spaces name → IsRetold state next name
  set_removed state name next book spaces = record {
    book = book;
    other = λ is. ap (λ (m : Spaces). space_rules (get m settings.space)) spaces
        ∙ ap space_rules (got_removed state.store.spaces name settings.space false is);
  }

  addrs_right : (state : StateValue) (service : List ℕ) (list : List Weighted) (ks : List Kept)
      (t : Bool) → contains_key state.book.services service ≡ t
      → AreRight (standing_rules settings state) (named_in state.book) ks
      → AreRight (standing_rules settings state) (named_in (after_set state.book service list))
      (if t then ks else after_service service ks)
  addrs_right state service list ks true has right =
      addresses_name_nothing (standing_rules settings state) state.book service list ks has right
  addrs_right state service list ks false has right =
      service_stays_right (standing_rules settings state) service state.book
      (after_set state.book service list) ks ((changes_one_service state.book service).0 list) right

  change_right : (state : StateValue) (change : ChangeValue) (ks : List Kept)
      → AreRight (standing_rules settings state) (named_in state.book) ks
      → AreRight (standing_rules settings (changed_state settings state change))
      (named_in (changed_state settings state change).book)
      (untouched_by settings state (changed_state settings state change) change ks)
  change_right state (create name rules) ks right =
      let next = changed_state settings state (create name rules) in
      retold_right state next name ks (bytes_eq name settings.space) refl
      (set_inserted state name (record { version = state.store.next; rules = rules }) next refl
      refl) right
  change_right state (put name expected rules) ks right =
      let next = changed_state settings state (put name expected rules) in
      retold_right state next name ks (bytes_eq name settings.space) refl
      (set_inserted state name (record { version = state.store.next; rules = rules }) next refl
      refl) right
  change_right state (delete name expected) ks right =
      let next = changed_state settings state (delete name expected) in
      retold_right state next name ks (bytes_eq name settings.space) refl
      (set_removed state name next refl refl) right
  change_right state (set_addrs service list) ks right =
      addrs_right state service list ks (contains_key state.book.services service) refl right
  change_right state (drop_service service) ks right =
      service_stays_right (standing_rules settings state) service state.book
      (after_drop state.book service) ks (changes_one_service state.book service).1 right
  change_right state (report addr good moment) ks right = right

  -- an operation that fits leaves what is kept right
  applied_right : (value : Value) (op : Operation) → Fits settings value op
      → IsRightValue settings value → IsRightValue settings (applied settings value op)
  applied_right value (changed caller serial change) fits right =
      rw fits (change_right value.state change value.cache right)
  applied_right value (kept caller serial k) fits right =
      keeps_right (standing_rules settings value.state)
      (named_in value.state.book) value.cache k right fits.0 fits.1 fits.2

  right_from : (value : Value) (ops : List Operation) → AllFit settings value ops
      → IsRightValue settings value → IsRightValue settings (fold (applied settings) value ops)
  right_from value [] all right = right
  right_from value (op ∷ ops) all right =
      right_from (applied settings value op) ops all.1 (applied_right value op all.0 right)

pub values_right : (settings : SettingsValue) (ops : List Operation)
    → AllFit settings opening_value ops → IsRightValue settings (value_of settings ops)
values_right settings ops all = right_from settings opening_value ops all
    (nothing_is_right (standing_rules settings opening_value.state)
    (named_in opening_value.state.book))
