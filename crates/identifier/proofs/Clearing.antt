-- What is left of a head whose context is cleared.
use Rattle.std.proofs.Common.{◌≡◌, ℕ, Bool, true, false, inl, inr, not, List, [], ◌∷◌, length, take}
use Rattle.std.proofs.Common.{map, min, codes, refl, sym, ap, ◌∙◌, filter, arith}
use Rattle.std.specs.Char.{to_ascii_lowercase}
use Rattle.std.proofs.lemmas.Bool.{both_ways, cases_lt, false_from_ne_true, not-true, or_left}
use Rattle.std.proofs.lemmas.Bool.{or_right}
use Rattle.std.proofs.lemmas.List.{take-map, take_all}
use Rattle.std.proofs.lemmas.List.Elements.{All-weaker, filter_passes}
use Rattle.std.proofs.lemmas.Slice.Eq.{bytes_eq-Decides}
use Rattle.http_wire.specs.declared.head.Field.{Field}
use Rattle.http_wire.specs.Fields.{is_named, lower, same_ignoring_case, values_of}
use Rattle.identifier.specs.Context.{is_context}
use Rattle.identifier.specs.Laws.{NoContextIsLeft, NoTableIsLeft}

-- what one test lets through, where another one passes nothing of that
none_passes : {X : Type 0} (p q : X → Bool) → ((x : X) → q x ≡ true → p x ≡ false) → (xs : List X)
    → filter q (filter p xs) ≡ []
none_passes p q apart [] = refl
none_passes p q apart (x ∷ xs) = by_test (p x) refl (none_passes p q apart xs)
  where
    by_test : (b : Bool) → p x ≡ b → filter q (filter p xs) ≡ []
        → filter q (filter p (x ∷ xs)) ≡ []
    by_test true passes rest =
        let fails : q x ≡ false =
        false_from_ne_true (q x) (λ yes. both_ways (p x) (apart x yes) passes) in
        rw (passes, fails) rest
    by_test false fails rest = rw fails rest

-- no value is left of fields whose names are of the context
none_left : (name : List ℕ) → ((f : Field) → is_named name f ≡ true → is_context f ≡ true)
    → (fields : List Field) → values_of name (filter (λ f. not (is_context f)) fields) ≡ []
unfolding values_of
none_left name is fields =
    ap (map (λ (f : Field). f.value))
    (none_passes (λ (f : Field). not (is_context f)) (is_named name) apart fields)
  where
    apart : (f : Field) → is_named name f ≡ true → not (is_context f) ≡ false
    apart f named = ap not (is f named)

-- the client's own table is of the context
own_table : (f : Field) → is_named (codes "l5d-dtab") f ≡ true → is_context f ≡ true
own_table f named =
    or_left (is_named (codes "l5d-dtab") f)
    (same_ignoring_case (take 8 f.name) (codes "l5d-ctx-")) named

begins : (name : List ℕ) → same_ignoring_case name (codes "l5d-ctx-dtab") ≡ true
    → same_ignoring_case (take 8 name) (codes "l5d-ctx-") ≡ true
unfolding same_ignoring_case
begins name same =
    let whole : lower name ≡ lower (codes "l5d-ctx-dtab") =
    (bytes_eq-Decides (lower name) (lower (codes "l5d-ctx-dtab"))).0 same in
    let front : lower (take 8 name) ≡ lower (codes "l5d-ctx-") =
    sym (take-map to_ascii_lowercase 8 name) ∙ ap (take 8) whole in
    (bytes_eq-Decides (lower (take 8 name)) (lower (codes "l5d-ctx-"))).1 front

-- and so is the table of other routers
routers_table : (f : Field) → is_named (codes "l5d-ctx-dtab") f ≡ true → is_context f ≡ true
routers_table f named =
    or_right (is_named (codes "l5d-dtab") f)
    (same_ignoring_case (take 8 f.name) (codes "l5d-ctx-")) (begins f.name named)

pub no_context_is_left : NoContextIsLeft
no_context_is_left head =
    All-weaker (λ (f : Field). not (is_context f) ≡ true) (λ (f : Field). is_context f ≡ false)
    (λ f passes. not-true (is_context f) passes) _
    (filter_passes (λ (f : Field). not (is_context f)) head.fields)

pub no_table_is_left : NoTableIsLeft
no_table_is_left head =
    rw (
      none_left (codes "l5d-ctx-dtab") routers_table head.fields,
      none_left (codes "l5d-dtab") own_table head.fields,
    )

-- the first eight bytes of a name, or all of a shorter one
pub first_eight : (name : List ℕ) → take (min (length name) 8) name ≡ take 8 name
first_eight name = elim (cases_lt (length name) 8) [
  | inl few ↦
      let whole : min (length name) 8 ≡ length name = omega arith in
      rw whole (take_all (length name) name (omega arith) ∙ sym (take_all 8 name (omega arith)))
  | inr many ↦ let eight : min (length name) 8 ≡ 8 = omega arith in rw eight
]
