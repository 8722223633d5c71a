-- What setting a service comes to.
use Rattle.std.proofs.Common.{◌≡◌, ℕ, ◌+◌, ◌-◌, ◌<◌, ◌≤◌, Bool, true, false, List, length, sym, ap}
use Rattle.std.proofs.Common.{◌∙◌, arith, Option, Some, None, cond, subst}
use Rattle.std.specs.Prelude.{not, ◌&&◌, ◌==◌, nat_lt}
use Rattle.std.specs.FinMap.{FinMap, contains_key, get, insert, len}
use Rattle.std.proofs.lemmas.Bool.Decides.{nat_tests}
use Rattle.addr_book.specs.declared.addr.Addr.{Addr}
use Rattle.addr_book.specs.declared.addr.Weighted.{Weighted}
use Rattle.addr_book.specs.declared.fault.BookFault.{BookFault}
use Rattle.addr_book.specs.declared.fault.BookFault.TheVariants.{BookFull, TooManyServices}
use Rattle.addr_book.specs.AddrList.{addr_cmp, has_addr}
use Rattle.addr_book.specs.Book.{Contents, Services, Slots, staying, newcomers, with_newcomers}
use Rattle.addr_book.specs.Book.{after_set, addrs_after_set}
use Rattle.addr_book.specs.BookFault.{has_no_room, set_refusal}
use Rattle.addr_book.specs.Uses.{count_at, list_of, IsSound}
use Rattle.addr_book.proofs.AddrLists.{length_filtered}
use Rattle.addr_book.proofs.Sound.{set_slots, set_sound, len-staying}

above : (n : ℕ) → 8192 < n → nat_lt 8192 n ≡ true
above n h = grind (arith, nat_tests)

within : (n : ℕ) → n ≤ 8192 → nat_lt 8192 n ≡ false
within n h = grind (arith, nat_tests)

abbrev chosen : Bool → Bool → ℕ → Option BookFault
chosen room full n = cond room (Some TooManyServices) (cond full (Some (BookFull n)) None)

module _ (services : Services) (slots : Slots) (uses : FinMap addr_cmp ℕ)
    (sound : IsSound services slots uses) (name : List ℕ) (before : List Weighted)
    (same : before ≡ list_of (get services name)) (counts : FinMap addr_cmp ℕ) (kept : Slots)
    (freed : (a : Addr) → get kept a ≡ cond (has_addr before a && (count_at counts a == 0)) None
    (get slots a)) (list : List Weighted)
    (is : (a : Addr) → count_at counts a ≡ count_at uses a + cond (has_addr list a) 1 0
    - cond (has_addr before a) 1 0)
    (room : has_no_room (record { services = services; slots = slots }) name ≡ false)
    (news : List Weighted) (new : news ≡ newcomers kept list) where
  abbrev book : Contents
  book = record { services = services; slots = slots }

  kept_is : kept ≡ staying slots (insert services name list)
  kept_is = set_slots services slots uses sound name before same counts kept freed list is

  pub few_kept : len kept ≤ 8192
  few_kept = omega (
    arith,
    ap len kept_is,
    len-staying slots (insert services name list),
    sound.room,
  )

  pub few_news : length list ≤ 1024 → length news ≤ 1024
  few_news few = omega (
    arith,
    ap length new,
    length_filtered (λ item. not (contains_key kept item.addr)) list,
    few,
  )

  count_is : len kept + length news ≡ addrs_after_set book name list
  count_is = ap (λ xs. len kept + length xs) new
      ∙ ap (λ k. len k + length (newcomers k list)) kept_is

  pub refused_full : 8192 < len kept + length news → set_refusal book name list
      ≡ Some (BookFull (len kept + length news))
  refused_full over =
      ap (λ b. chosen b (nat_lt 8192 (addrs_after_set book name list))
      (addrs_after_set book name list)) room
      ∙ (ap (λ n. chosen false (nat_lt 8192 n) n) (sym count_is)
      ∙ ap (λ b. chosen false b (len kept + length news)) (above (len kept + length news) over))

  module _ (few : len kept + length news ≤ 8192) where
    pub not_refused : set_refusal book name list ≡ None
    not_refused =
        ap (λ b. chosen b (nat_lt 8192 (addrs_after_set book name list))
        (addrs_after_set book name list)) room
        ∙ (ap (λ n. chosen false (nat_lt 8192 n) n) (sym count_is)
        ∙ ap (λ b. chosen false b (len kept + length news)) (within (len kept + length news) few))

    module _ (next : Services) (next_is : next ≡ insert services name list) (final : Slots)
        (final_is : final ≡ with_newcomers kept news) where
      slots_are : final ≡ with_newcomers kept (newcomers kept list)
      slots_are = final_is ∙ ap (with_newcomers kept) new

      pub set_contents : ◌≡◌ {A = Contents} (record { services = next; slots = final })
          (after_set book name list)
      set_contents = λ i. record {
        services = next_is i;
        slots =
            (slots_are ∙ ap (λ k. with_newcomers k (newcomers k list)) kept_is) i;
      }

      pub set_sound_book : IsSound next final counts
      set_sound_book =
          let whole = set_sound services slots uses sound name before same counts kept freed list
          is room (omega (arith, ap length new, few)) in
          subst (λ (s : Services). IsSound s final counts) (sym next_is)
          (subst (λ (k : Slots). IsSound (insert services name list) k counts)
          (sym slots_are) whole)
