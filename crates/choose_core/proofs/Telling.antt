-- Which addresses of a list are alive, put down place by place.
use Rattle.std.proofs.Common.{◌≡◌, ℕ, ◌+◌, ◌<◌, ◌≤◌, List, [], ◌∷◌, length, get_or, Bool, true}
use Rattle.std.proofs.Common.{false, cond, refl, sym, ap, ◌∙◌, arith, not, ⊎_elim}
use Rattle.std.specs.Prelude.{filter, ◌||◌, ◌==◌}
use Rattle.std.proofs.lemmas.Bool.{cases_eq}
use Rattle.std.proofs.lemmas.Bool.Decides.{nat_tests}
use Rattle.std.proofs.lemmas.List.{get_or_default}
use Rattle.addr_book.specs.declared.addr.Weighted.{Weighted}
use Rattle.addr_book.specs.SlotSet.{has_slot}
use Rattle.choose_core.specs.declared.bits.Bits.{Bits}
use Rattle.choose_core.specs.declared.mark.Limits.{Limits}
use Rattle.choose_core.specs.Live.{is_alive, some_or_all, live_of}
use Rattle.choose_core.specs.Mark.{is_dead_mark}
use Rattle.choose_core.specs.Marks.{MarkMap, mark_at}
use Rattle.choose_core.proofs.Passing.{sieved, filter_all, or_all}

module _ (marks : MarkMap) (moment : ℕ) (limits : Limits) where
  -- the bits tell which of the first so many are alive, and of the others nothing
  pub record IsFar (list : List Weighted) (far : ℕ) (bits : Bits) : Type 0 where
    pub told : (at : ℕ) (d : Weighted) → at < far → at < length list → at < 1024
        → has_slot bits.words at ≡ is_alive marks moment limits (get_or list at d)
    pub untold : (at : ℕ) → far ≤ at → has_slot bits.words at ≡ false

  pub alive_at : (list : List Weighted) (at : ℕ) (d e : Weighted) → at < length list
      → (dead : Bool) → dead ≡ is_dead_mark (mark_at marks (get_or list at e).addr) moment limits
      → is_alive marks moment limits (get_or list at d) ≡ not dead
  alive_at list at d e lt dead is = ap (is_alive marks moment limits)
      (get_or_default list at d e lt) ∙ ap not (sym is)

  pub far_none : (list : List Weighted) (bits : Bits) → ((at : ℕ) → has_slot bits.words at ≡ false)
      → IsFar list 0 bits
  far_none list bits none =
      record { told = λ at d lt. absurd (omega arith); untold = λ at le. none at }

  other_place : (m n : ℕ) (b : Bool) → (m ≡ n → ⊥) → ((m == n) || b) ≡ b
  other_place m n b ne = ap (λ t. t || b) (let e : (m == n) ≡ false = grind (arith, nat_tests) in e)

  this_place : (m n : ℕ) (b : Bool) → m ≡ n → ((m == n) || b) ≡ true
  this_place m n b same = ap (λ t. t || b) (let e : (m == n) ≡ true = grind (arith, nat_tests) in e)

  -- the next is alive, and is put down
  pub far_put : (list : List Weighted) (far : ℕ) (d : Weighted) (old new : Bits)
      → is_alive marks moment limits (get_or list far d) ≡ true → IsFar list far old
      → ((at : ℕ) → has_slot new.words at ≡ ((far == at) || has_slot old.words at))
      → IsFar list (far + 1) new
  far_put list far d old new lives h put = record {
    told = λ at e below lt few. ⊎_elim
        (λ (same : at ≡ far). put at
        ∙ (this_place far at (has_slot old.words at) (sym same)
        ∙ sym (ap (λ n. is_alive marks moment limits (get_or list n e)) same
        ∙ (ap (is_alive marks moment limits) (get_or_default list far e d (omega arith)) ∙ lives))))
        (λ ne. put at ∙ (other_place far at (has_slot old.words at) (λ same. ne (sym same))
        ∙ h.told at e (omega (arith, ne)) lt few))
        (cases_eq at far);
    untold = λ at le. put at
        ∙ (other_place far at (has_slot old.words at) (λ same. omega arith)
        ∙ h.untold at (omega arith));
  }

  -- the next is dead, or behind the first 1,024
  pub far_leave : (list : List Weighted) (far : ℕ) (d : Weighted) (bits : Bits)
      → (far < 1024 → is_alive marks moment limits (get_or list far d) ≡ false)
      → IsFar list far bits → IsFar list (far + 1) bits
  far_leave list far d bits dead h = record {
    told = λ at e below lt few. ⊎_elim
        (λ (same : at ≡ far). h.untold at (omega arith)
        ∙ sym (ap (λ n. is_alive marks moment limits (get_or list n e)) same
        ∙ (ap (is_alive marks moment limits) (get_or_default list far e d (omega arith))
        ∙ dead (omega arith))))
        (λ ne. h.told at e (omega (arith, ne)) lt few)
        (cases_eq at far);
    untold = λ at le. h.untold at (omega arith);
  }

  -- ---- all take part where none is alive, or all are
  few_kept : {X : Type 0} (p : X → Bool) (xs : List X) → length (filter p xs) ≤ length xs
  few_kept p [] = omega arith
  few_kept p (x ∷ xs) =
      let rest = few_kept p xs in
      elim (p x) as (λ b. length (cond b (x ∷ filter p xs) (filter p xs)) ≤ length (x ∷ xs))
      [ true ↦ omega arith | false ↦ omega arith ]

  all_kept : {X : Type 0} (p : X → Bool) (xs : List X) → length (filter p xs) ≡ length xs
      → filter p xs ≡ xs
  all_kept p [] same = refl
  all_kept {X} p (x ∷ xs) same = by_test (λ e. all_kept p xs e) (p x) same
    where
      by_test : (length (filter p xs) ≡ length xs → filter p xs ≡ xs) → (b : Bool)
          → length (cond b (x ∷ filter p xs) (filter p xs)) ≡ length (x ∷ xs)
          → cond b (x ∷ filter p xs) (filter p xs) ≡ x ∷ xs
      by_test rest true e = ap (λ (ys : List X). x ∷ ys) (rest (omega (arith, e)))
      by_test rest false e = absurd (omega (arith, e, few_kept p xs))

  no_item : {X : Type 0} (xs : List X) → length xs ≡ 0 → xs ≡ []
  no_item [] e = refl
  no_item (x ∷ xs) e = absurd (omega arith)

  some_kept : (some all : List Weighted) → (length some ≡ 0 → ⊥) → some_or_all some all ≡ some
  some_kept [] all more = absurd (more refl)
  some_kept (item ∷ some) all more = refl

  pub by_count : (list : List Weighted) (count : ℕ)
      → count ≡ length (filter (is_alive marks moment limits) list) → (all : Bool)
      → (all ≡ true → (count ≡ 0 → ⊥) → count ≡ length list) → (all ≡ false → count ≡ 0 → ⊥)
      → sieved all marks moment limits list ≡ live_of marks moment limits list
  by_count list count counted true few some = ⊎_elim
      (λ (none : count ≡ 0). filter_all (λ _. true) (λ _. refl) list
      ∙ sym (ap (λ left. some_or_all left list)
      (no_item (filter (is_alive marks moment limits) list) (sym counted ∙ none))))
      (λ more. filter_all (λ _. true) (λ _. refl) list
      ∙ sym (ap (λ left. some_or_all left list)
      (all_kept (is_alive marks moment limits) list (sym counted ∙ few refl more)) ∙ or_all list))
      (cases_eq count 0)
  by_count list count counted false few some =
      sym (some_kept (filter (is_alive marks moment limits) list) list
      (λ none. some refl (counted ∙ none)))
