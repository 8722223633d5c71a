-- Texts that are cut at a byte, and addresses of four parts.
use Rattle.std.proofs.Common.{◌≡◌, ℕ, ◌+◌, ◌-◌, ◌<◌, ◌≤◌, Bool, true, false, List, [], ◌∷◌, length}
use Rattle.std.proofs.Common.{take, drop, Some, None, refl, sym, arith, length-drop, take_all}
use Rattle.std.proofs.Common.{Option, Bor, map}
use Rattle.std.specs.Prelude.{nat_lt, ◌==◌, if◌then◌else◌}
use Rattle.std.specs.Option.{option_map_or, is_some}
use Rattle.std.specs.List.{slice_split, position, position_or_len}
use Rattle.std.proofs.lemmas.List.{length-map}
use Rattle.std.proofs.lemmas.Bool.Decides.{nat_tests}
use Rattle.std.proofs.lemmas.List.Splits.{slice_split_none, slice_split_first, length-slice_split}
use Rattle.std.proofs.lemmas.List.Sums.{fails_before_first}
use Rattle.std.proofs.lemmas.List.Elements.{All-from_get_or}
use Rattle.addr_book.specs.Addr.{octet_value, ip_of_octets}

some_place : (n len at : ℕ) → Some at ≡ (if nat_lt n len then Some n else None)
    → (at ≡ n) × (n < len)
some_place n len at h = (grind (arith, nat_tests), grind (arith, nat_tests))

no_place : (n len : ℕ) → (if nat_lt n len then Some n else None) ≡ None → len ≤ n
no_place n len h = grind (arith, nat_tests)

module _ (p : ℕ → Bool) (xs : List ℕ) where
  -- the first part ends where the first byte passes
  pub cut_found : (at : ℕ) → Some at ≡ position p xs
      → slice_split p xs ≡ take at xs ∷ slice_split p
      (take (length xs - (at + 1)) (drop (at + 1) xs))
  cut_found at h =
      let place = some_place (position_or_len p xs) (length xs) at h in
      let rest : take (length xs - (at + 1)) (drop (at + 1) xs) ≡ drop (at + 1) xs =
      take_all (length xs - (at + 1)) (drop (at + 1) xs) (omega (arith, length-drop (at + 1) xs)) in
      rw (rest, place.0) (slice_split_first p xs 0 place.1)

  pub cut_none : None ≡ position p xs → slice_split p xs ≡ xs ∷ []
  cut_none h =
      let far = no_place (position_or_len p xs) (length xs) (sym h) in
      slice_split_none p xs
      (All-from_get_or (λ x. p x ≡ false) xs 0 (λ i lt. fails_before_first p xs i 0 (omega arith)))

-- an address has neither fewer than four parts nor five
pub one_part : (a : Option ℕ) → ip_of_octets (a ∷ []) ≡ None
one_part None = refl
one_part (Some a) = refl

pub two_parts : (a b : Option ℕ) → ip_of_octets (a ∷ b ∷ []) ≡ None
two_parts None b = refl
two_parts (Some a) None = refl
two_parts (Some a) (Some b) = refl

pub three_parts : (a b c : Option ℕ) → ip_of_octets (a ∷ b ∷ c ∷ []) ≡ None
three_parts None b c = refl
three_parts (Some a) None c = refl
three_parts (Some a) (Some b) None = refl
three_parts (Some a) (Some b) (Some c) = refl

pub more_parts : (a b c d : Option ℕ) (more : List (Option ℕ)) → 0 < length more
    → ip_of_octets (a ∷ b ∷ c ∷ d ∷ more) ≡ None
more_parts None b c d more h = refl
more_parts (Some a) None c d more h = refl
more_parts (Some a) (Some b) None d more h = refl
more_parts (Some a) (Some b) (Some c) None more h = refl
more_parts (Some a) (Some b) (Some c) (Some d) [] h = absurd (omega arith)
more_parts (Some a) (Some b) (Some c) (Some d) (e ∷ more) h = refl

abbrev parts : List ℕ → List (List ℕ)
parts text = slice_split (λ b. b == 46) text

abbrev pub Cuts : List ℕ → List ℕ → Option (Bor (List ℕ)) → Type 0
Cuts text first rest = parts text ≡ first ∷ option_map_or (λ r. parts r.now) rest []

module _ (text a b c : List ℕ) (r s t : Option (Bor (List ℕ))) (u v : Bor (List ℕ))
    (first : Cuts text a r) (r_is : r ≡ Some u) (second : Cuts u.now b s) (s_is : s ≡ Some v)
    (third : Cuts v.now c t) where
  pub only_three : t ≡ None → None ≡ ip_of_octets (map octet_value (parts text))
  only_three t_is = rw (first, r_is, second, s_is, third, t_is)
      (sym (three_parts (octet_value a) (octet_value b) (octet_value c)))

  pub over_four : (d : List ℕ) (w : Bor (List ℕ)) (x : Option (Bor (List ℕ))) → t ≡ Some w
      → Cuts w.now d x → true ≡ is_some x → None ≡ ip_of_octets (map octet_value (parts text))
  over_four d w None t_is fourth more = cc
  over_four d w (Some y) t_is fourth more =
      rw (first, r_is, second, s_is, third, t_is, fourth)
      (sym (more_parts (octet_value a) (octet_value b) (octet_value c) (octet_value d)
      (map octet_value (parts y.now))
      (omega (
        arith,
        length-map (parts y.now) octet_value,
        length-slice_split (λ b. b == 46) y.now,
      ))))
